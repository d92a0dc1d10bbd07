-- Each step of a replay follows the definition's.
use Rattle.std.proofs.Common.{◌*◌, drop, get_or, drop-cons, ◌≡◌, ℕ, zero, suc, ◌+◌, ◌<◌, ◌≤◌, ◌^◌, List, [], ◌∷◌, ◌++◌, length, Option, Some, None, refl, ap, sym, ◌∙◌, subst, arith, length-append}
use Rattle.std.specs.List.{AllByRecursion}
use Rattle.lms_tree.specs.Secret.{Secret}
use Rattle.cp_statements.specs.Closing.{closing_of}
use Rattle.cp_statements.specs.declared.kind.Kind.{Kind}
use Rattle.cp_core.specs.Store.{Store, StoreFits}
use Rattle.cp_core.specs.Kept.{Keeps, PhaseFits}
use Rattle.cp_core.specs.Honest.{last_of}
use Rattle.cp_core.specs.Machine.{State, Admissible, SpellsNext, next_or, step, run_from}
use Rattle.cp_core.specs.View.{Standing}
use Rattle.cp_core.specs.declared.answer.Answer.{Answer}
use Rattle.cp_core.specs.declared.answer.Answer.TheVariants.{Booked, CallRefused, CloseRefused, Done, Text, NotClosed, NotNow}
use Rattle.cp_core.specs.declared.close_refusal.CloseRefusal.{CloseRefusal}
use Rattle.cp_core.specs.declared.event.Event.{Event}
use Rattle.cp_core.specs.declared.event.Event.TheVariants.{Call, Begin}
use Rattle.cp_core.specs.declared.phase.Phase.TheVariants.{Running}
use Rattle.cp_core.specs.declared.request.Request.{Request}
use Rattle.cp_core.specs.declared.seal_item.SealItem.{SealItem}
use Rattle.cp_core.proofs.AttestedLemmas.{booked_signed}
use Rattle.cp_core.proofs.SealLemmas.{each_keeps}
use Rattle.cp_core.proofs.SignedLemmas.{step_booked}
use Rattle.cp_chain.specs.Log.{log_text}
use Rattle.cp_closer.specs.Laws.{log_at}
use Rattle.cp_closer.specs.Closer.{seal_item}
use Rattle.cp_closer.specs.declared.sealed_text.SealedText.{SealedText}
use Rattle.cp_store.specs.Alike.{Alike}
use Rattle.cp_store.specs.Closes.{IsClosed, closing_events}
use Rattle.cp_store.proofs.Alikes.{alike_trans, steps_alike, runs_alike}
use Rattle.cp_store.proofs.Closings.{call_kept}
use Rattle.cp_replay.specs.Printed.{at_line, call_line, close_refused, closed_line}
use Rattle.cp_replay.specs.Replay.{Progress, printed, handed, enveloped, after_call, after_close, after_line, after_lines, at_first, put_asked, put_signed}
use Rattle.cp_replay.specs.Script.{LineFits}
use Rattle.cp_replay.specs.Writers.{list_without}
use Rattle.cp_replay.specs.Follows.{Follows, SignsBelow}
use Rattle.cp_replay.specs.declared.line.Line.{Line}
use Rattle.cp_replay.specs.declared.line.Line.TheVariants.{Put, Get, Close, CloseWithout, At}
use Rattle.cp_replay.proofs.Admits.{put_admissible}
use Rattle.sha2.specs.Sha256.{sha256}
use Rattle.sha2.proofs.Facts256.{length-sha256}
use Rattle.lms_ots.specs.Parameters.{sig_len_of}
use Rattle.lms_ots.specs.declared.ots_type.OtsType.{OtsType}
use Rattle.lms_ots.specs.declared.ots_type.OtsType.TheVariants.{W1, W2, W4, W8}
use Rattle.lms_tree.specs.Parameters.{levels_of}
use Rattle.lms_tree.specs.declared.height.Height.{Height}
use Rattle.lms_tree.specs.declared.height.Height.TheVariants.{H5, H10, H15}
use Rattle.cp_statements.specs.declared.put_request.PutRequest.{PutRequest}
use Rattle.cp_statements.specs.declared.kind.Kind.TheVariants as kind
use Rattle.cp_core.specs.declared.request.Request.TheVariants as request
use Rattle.std.proofs.lemmas.List.{drop_all}
use Rattle.cp_replay.specs.declared.running.ReplayRun as run
use Rattle.cp_replay.specs.declared.epoch_files.EpochFiles.{EpochFiles}

-- ---- a call

-- the leaf of an answer is one for attestations
pub signs_below : (s : Store) (st : State) (request : Request) (n : ℕ) (answer : Answer) → StoreFits s → Keeps s st → Admissible s (Call 0 request) → answer ≡ (step s st (Call 0 request)).0 → s.attestations ≤ n → SignsBelow n answer
signs_below s st request n (Booked b) fits keeps admissible is le =
    let row = booked_signed s st 0 request b (step s st (Call 0 request)).1 fits keeps admissible.1 (step_booked s st 0 request b (sym is)) in
    let after = each_keeps s st (Call 0 request) fits keeps admissible in
    let below = after.honest.leaves_below row.shard row.front row.row row.at in
    omega (arith, below, row.leaf_is, le)
signs_below s st request n (CallRefused why) fits keeps admissible is le = tt
signs_below s st request n (CloseRefused why) fits keeps admissible is le = tt
signs_below s st request n Done fits keeps admissible is le = tt
signs_below s st request n (Text e) fits keeps admissible is le = tt
signs_below s st request n (NotClosed count) fits keeps admissible is le = tt
signs_below s st request n (NotNow phase) fits keeps admissible is le = tt

-- the store that follows answers as the definition's
pub answers_alike : (s : Store) (x : run.ReplayRun) (p : Progress) (event : Event) → Follows s x p → (step x.store.store x.store.state event).0 ≡ (step s p.state event).0
answers_alike s x p event f = ap (λ t. (step t x.store.state event).0) f.store ∙ (steps_alike s x.store.state p.state event f.alike).0

pub stands_alike : (s : Store) (x : run.ReplayRun) (p : Progress) (event : Event) (after : State) → Follows s x p → Alike after (step x.store.store x.store.state event).1 → Alike after (step s p.state event).1
stands_alike s x p event after f alike =
    alike_trans after (step s x.store.state event).1 (step s p.state event).1
    (subst (λ t. Alike after (step t x.store.state event).1) f.store alike)
    (steps_alike s x.store.state p.state event f.alike).1

-- what a call leaves of what it is not about
pub record Stays (x y : run.ReplayRun) : Type 0 where
  pub store : y.store.store ≡ x.store.store
  pub id : y.id ≡ x.id
  pub list : y.list ≡ x.list
  pub epochs : y.epochs.items ≡ x.epochs.items
  pub named : y.named ≡ x.named

pub call_follows : (s : Store) (key : Secret) (kind : Kind) (request : Request) (x y : run.ReplayRun) (p : Progress) (answer : Answer) → Follows s x p → Admissible s (Call 0 request)
    → answer ≡ (step x.store.store x.store.state (Call 0 request)).0 → Alike y.store.state (step x.store.store x.store.state (Call 0 request)).1
    → Stays x y → y.text.items ≡ printed x.text.items (call_line kind answer) → y.handins.items ≡ x.handins.items ++ handed key answer
    → Follows s y (after_call key s p kind request)
unfolding after_call
call_follows s key kind request x y p answer f admissible is alike stays text handins =
    let same : answer ≡ (step s p.state (Call 0 request)).0 = is ∙ answers_alike s x p (Call 0 request) f in
    record {
      store = stays.store ∙ f.store;
      id = stays.id ∙ f.id;
      list = stays.list ∙ f.list ∙ sym (call_kept s p.state 0 request);
      alike = stands_alike s x p (Call 0 request) y.store.state f alike;
      keeps = each_keeps s p.state (Call 0 request) f.fits f.keeps admissible;
      fits = f.fits;
      named = stays.named ∙ f.named;
      first = rw stays.named f.first;
      bounded = rw stays.named f.bounded;
      text = text ∙ ap (λ t. printed t (call_line kind answer)) f.text ∙ ap (λ a. printed p.text (call_line kind a)) same;
      handins = handins ∙ ap (λ t. t ++ handed key answer) f.handins ∙ ap (λ a. p.handins ++ handed key a) same;
      epochs = stays.epochs ∙ f.epochs;
    }

-- ---- a closing

runs_keep : (s : Store) (st : State) (events : List Event) → StoreFits s → Keeps s st → AllByRecursion (Admissible s) events → Keeps s (run_from s st events)
runs_keep s st [] fits keeps all = keeps
runs_keep s st (e ∷ es) fits keeps all = runs_keep s (step s st e).1 es fits (each_keeps s st e fits keeps all.0) all.1

closing_admissible : (s : Store) (next : Option (List ℕ)) → SpellsNext next → AllByRecursion (Admissible s) (closing_events next)
closing_admissible s next ok = (ok, (omega arith, (omega arith, (omega arith, (omega arith, (omega arith, (omega arith, (omega arith, (omega arith, (omega arith, (omega arith, (omega arith, (omega arith, (omega arith, (omega arith, (omega arith, (omega arith, (tt, (tt, tt)))))))))))))))))))

last_splits : {A : Type 0} (xs : List A) (x : A) → last_of xs ≡ Some x → (front : List A) × (xs ≡ front ++ x ∷ [])
last_splits [] x e = absurd cc
last_splits (y ∷ []) x e = ([], cc)
last_splits (y ∷ z ∷ xs) x e =
    let w = last_splits (z ∷ xs) x e in
    (y ∷ w.0, ap (λ l. y ∷ l) w.1)

-- the leaf of the last seal is one of all leaves
last_leaf : (s : Store) (st : State) (x : SealItem) → Keeps s st → last_of st.life.seals ≡ Some x → x.leaf < s.attestations + s.closings
last_leaf s st x keeps is =
    let w = last_splits st.life.seals x is in
    let seal = keeps.honest.seals w.0 x [] w.1 in
    let many : length st.life.seals ≡ length w.0 + 1 = ap length w.1 ∙ length-append w.0 (x ∷ []) in
    omega (arith, seal.leaf, many, keeps.honest.within)

pub closed_keeps : (s : Store) (x : run.ReplayRun) (p : Progress) (next : Option (List ℕ)) → Follows s x p → SpellsNext next → Keeps s (run_from s p.state (closing_events next))
closed_keeps s x p next f ok = runs_keep s p.state (closing_events next) f.fits f.keeps (closing_admissible s next ok)

closed_alike : (s : Store) (x : run.ReplayRun) (p : Progress) (next : Option (List ℕ)) (after : State) → Follows s x p → Alike after (run_from x.store.store x.store.state (closing_events next)) → Alike after (run_from s p.state (closing_events next))
closed_alike s x p next after f alike =
    alike_trans after (run_from s x.store.state (closing_events next)) (run_from s p.state (closing_events next))
    (subst (λ t. Alike after (run_from t x.store.state (closing_events next))) f.store alike)
    (runs_alike s x.store.state p.state (closing_events next) f.alike)

pub sealed_leaf : (s : Store) (x : run.ReplayRun) (p : Progress) (next : Option (List ℕ)) (new : Standing) (sealed : SealedText) → Follows s x p → SpellsNext next → IsClosed x.store new next sealed → sealed.leaf < s.attestations + s.closings
sealed_leaf s x p next new sealed f ok c =
    let life = (closed_alike s x p next new.state f c.after).life in
    last_leaf s (run_from s p.state (closing_events next)) (seal_item c.epoch x.store.state.kept sealed) (closed_keeps s x p next f ok) (ap (λ r. last_of r.seals) (sym life) ∙ c.seal)

pub refused_follows : (s : Store) (key : Secret) (x y : run.ReplayRun) (p : Progress) (next : Option (List ℕ)) (why : CloseRefusal) → Follows s x p → y.store ≡ x.store → (step x.store.store x.store.state (Begin next)).0 ≡ CloseRefused why
    → Stays x y → y.text.items ≡ printed x.text.items (close_refused why) → y.handins.items ≡ x.handins.items
    → Follows s y (after_close key s p next)
unfolding after_close
refused_follows s key x y p next why f same is stays text handins =
    let begin : (step s p.state (Begin next)).0 ≡ CloseRefused why = sym (answers_alike s x p (Begin next) f) ∙ is in
    rw begin (record {
      store = stays.store ∙ f.store;
      id = stays.id ∙ f.id;
      list = stays.list ∙ f.list;
      alike = subst (λ t. Alike t.state p.state) (sym same) f.alike;
      keeps = f.keeps;
      fits = f.fits;
      named = stays.named ∙ f.named;
      first = rw stays.named f.first;
      bounded = rw stays.named f.bounded;
      text = text ∙ ap (λ t. printed t (close_refused why)) f.text;
      handins = handins ∙ f.handins;
      epochs = stays.epochs ∙ f.epochs;
    })

running_is : (m n : ℕ) → Running m ≡ Running n → m ≡ n
running_is m n e = cc

pub closed_follows : (s : Store) (key : Secret) (x y : run.ReplayRun) (p : Progress) (next : Option (List ℕ)) (sealed : SealedText) (named : ℕ) (files : EpochFiles) → Follows s x p → SpellsNext next → IsClosed x.store y.store next sealed
    → y.id ≡ x.id → y.list ≡ next_or next x.list → y.store.state.phase ≡ Running named → y.named ≡ named
    → y.text.items ≡ printed x.text.items (closed_line (closing_of sealed.text)) → y.handins.items ≡ x.handins.items
    → files ≡ record { families = x.list; closing = enveloped key sealed.leaf sealed.text; table = sealed.table; log = sealed.log }
    → y.epochs.items ≡ x.epochs.items ++ files ∷ []
    → Follows s y (after_close key s p next)
unfolding after_close
closed_follows s key x y p next sealed named files f ok c id list phase named_is text handins files_is epochs =
    let begin : (step s p.state (Begin next)).0 ≡ Done = sym (answers_alike s x p (Begin next) f) ∙ c.begun in
    let after = run_from s p.state (closing_events next) in
    let alike : Alike y.store.state after = closed_alike s x p next y.store.state f c.after in
    let now_kept : x.list ≡ x.store.state.kept = f.list ∙ sym f.alike.kept in
    let item : SealItem = seal_item c.epoch x.store.state.kept sealed in
    let last : last_of after.life.seals ≡ Some item = ap (λ r. last_of r.seals) (sym alike.life) ∙ c.seal in
    let now : y.named ≡ c.epoch + 1 = named_is ∙ running_is named (c.epoch + 1) (sym phase ∙ c.now) in
    let closed_keeps_it = closed_keeps s x p next f ok in
    let seals_are : PhaseFits s after.life after.kept (Running (c.epoch + 1)) after.published = subst (λ q. PhaseFits s after.life after.kept q after.published) (sym alike.phase ∙ c.now) closed_keeps_it.phase in
    let make : List ℕ → List ℕ → EpochFiles = λ fs l. record { families = fs; closing = enveloped key sealed.leaf sealed.text; table = sealed.table; log = l } in
    let same_log : sealed.log ≡ log_text (log_at after.life c.epoch) = c.log ∙ ap (λ r. log_text (log_at r c.epoch)) alike.life in
    let same : files ≡ make x.store.state.kept (log_text (log_at after.life c.epoch)) = files_is ∙ ap (λ fs. make fs sealed.log) now_kept ∙ ap (λ l. make x.store.state.kept l) same_log in
    rw begin (rw last (record {
      store = c.store ∙ f.store;
      id = id ∙ f.id;
      list = list ∙ ap (next_or next) now_kept ∙ sym c.kept ∙ alike.kept;
      alike = alike;
      keeps = closed_keeps_it;
      fits = f.fits;
      named = now;
      first = omega (arith, now);
      bounded = omega (arith, now, seals_are.1, closed_keeps_it.honest.within, f.fits.leaves);
      text = text ∙ ap (λ t. printed t (closed_line (closing_of sealed.text))) f.text;
      handins = handins ∙ f.handins;
      epochs = epochs ∙ ap (λ l. l ++ files ∷ []) f.epochs ∙ ap (λ z. p.epochs ++ z ∷ []) same;
    }))

-- ---- a line

short_of : (t : OtsType) (h : Height) → 8 + sig_len_of t + 32 * levels_of h < 2 ^ 32
short_of W1 H5 = omega arith
short_of W1 H10 = omega arith
short_of W1 H15 = omega arith
short_of W2 H5 = omega arith
short_of W2 H10 = omega arith
short_of W2 H15 = omega arith
short_of W4 H5 = omega arith
short_of W4 H10 = omega arith
short_of W4 H15 = omega arith
short_of W8 H5 = omega arith
short_of W8 H10 = omega arith
short_of W8 H15 = omega arith

-- what the code asks is what the definition asks
pub put_asked_is : (s : Store) (writer : Secret) (x : run.ReplayRun) (p : Progress) (number client block nonce version : ℕ) (content hash given : List ℕ) (request : Request)
    → Follows s x p → hash ≡ sha256 content → given ≡ content
    → request ≡ put_signed writer number (record { store = x.id; epoch = x.named; block = block; client = client; nonce = nonce; version = version; content = hash }) given
    → request ≡ put_signed writer number (put_asked s.id p.named client block nonce version content) content
put_asked_is s writer x p number client block nonce version content hash given request f hash_is given_is is =
    let made : List ℕ → ℕ → List ℕ → PutRequest = λ i e h. record { store = i; epoch = e; block = block; client = client; nonce = nonce; version = version; content = h } in
    is ∙ ap (λ g. put_signed writer number (made x.id x.named hash) g) given_is
    ∙ ap (λ i. put_signed writer number (made i x.named hash) content) f.id
    ∙ ap (λ e. put_signed writer number (made s.id e hash) content) f.named
    ∙ ap (λ h. put_signed writer number (made s.id p.named h) content) hash_is

pub put_is_admissible : (s : Store) (writer : Secret) (x : run.ReplayRun) (p : Progress) (number client block nonce version : ℕ) (content : List ℕ) (request : Request)
    → Follows s x p → LineFits (Put client block nonce version content)
    → request ≡ put_signed writer number (put_asked s.id p.named client block nonce version content) content
    → Admissible s (Call 0 request)
put_is_admissible s writer x p number client block nonce version content request f fits is =
    let asked = put_asked s.id p.named client block nonce version content in
    let first : 1 ≤ p.named = omega (arith, f.first, f.named) in
    let bounded : p.named < 2 ^ 64 = omega (arith, f.bounded, f.named) in
    subst (λ r. Admissible s (Call 0 r)) (sym is)
    (put_admissible s writer number asked content refl
    (f.fits.id, ((first, bounded), (fits.1, (fits.0, (fits.2, (fits.3, (length-sha256 content, tt)))))))
    fits.4 refl (short_of writer.ots writer.height))

pub put_line_follows : (s : Store) (key writer : Secret) (y : run.ReplayRun) (p : Progress) (number client block nonce version : ℕ) (content : List ℕ) (request : Request) (line : Line)
    → line ≡ Put client block nonce version content → request ≡ put_signed writer number (put_asked s.id p.named client block nonce version content) content
    → Follows s y (after_call key s p kind.Put request) → Follows s y (after_line key writer s number p line)
unfolding after_line
put_line_follows s key writer y p number client block nonce version content request line line_is is f =
    rw line_is (rw (← is) f)

pub get_line_follows : (s : Store) (key writer : Secret) (x y : run.ReplayRun) (p : Progress) (number client block nonce : ℕ) (line : Line)
    → line ≡ Get client block nonce → Follows s x p
    → Follows s y (after_call key s p kind.Get (request.Get (record { store = x.id; epoch = x.named; block = block; client = client; nonce = nonce })))
    → Follows s y (after_line key writer s number p line)
unfolding after_line
get_line_follows s key writer x y p number client block nonce line line_is f after =
    let made : List ℕ → ℕ → Request = λ i e. request.Get (record { store = i; epoch = e; block = block; client = client; nonce = nonce }) in
    let same : made x.id x.named ≡ made s.id p.named = ap (λ i. made i x.named) f.id ∙ ap (λ e. made s.id e) f.named in
    rw line_is (subst (λ r. Follows s y (after_call key s p kind.Get r)) same after)

pub close_line_follows : (s : Store) (key writer : Secret) (y : run.ReplayRun) (p : Progress) (number : ℕ) (line : Line) → line ≡ Close → Follows s y (after_close key s p None) → Follows s y (after_line key writer s number p line)
unfolding after_line
close_line_follows s key writer y p number line line_is f = rw line_is f

pub without_line_follows : (s : Store) (key writer : Secret) (x y : run.ReplayRun) (p : Progress) (number client : ℕ) (next : List ℕ) (line : Line) → line ≡ CloseWithout client → Follows s x p → next ≡ list_without client x.list → Follows s y (after_close key s p (Some next)) → Follows s y (after_line key writer s number p line)
unfolding after_line
without_line_follows s key writer x y p number client next line line_is f is after =
    rw line_is (subst (λ l. Follows s y (after_close key s p (Some l))) (is ∙ ap (list_without client) f.list) after)

pub at_line_follows : (s : Store) (key writer : Secret) (x y : run.ReplayRun) (p : Progress) (number epoch : ℕ) (line : Line) → line ≡ At epoch → LineFits (At epoch) → Follows s x p
    → y.store ≡ x.store → y.id ≡ x.id → y.list ≡ x.list → y.epochs.items ≡ x.epochs.items → y.named ≡ epoch → y.text.items ≡ printed x.text.items (at_line epoch) → y.handins.items ≡ x.handins.items
    → Follows s y (after_line key writer s number p line)
unfolding after_line
at_line_follows s key writer x y p number epoch line line_is fits f same id list epochs named text handins =
    rw line_is (record {
      store = ap (λ t. t.store) same ∙ f.store;
      id = id ∙ f.id;
      list = list ∙ f.list;
      alike = subst (λ t. Alike t.state p.state) (sym same) f.alike;
      keeps = f.keeps;
      fits = f.fits;
      named = named;
      first = omega (arith, fits.0, named);
      bounded = omega (arith, fits.1, named);
      text = text ∙ ap (λ t. printed t (at_line epoch)) f.text;
      handins = handins ∙ f.handins;
      epochs = epochs ∙ f.epochs;
    })

-- ---- all lines

-- it follows the store that it runs
pub here : (s : Store) (x : run.ReplayRun) (p : Progress) → Follows s x p → Follows x.store.store x p
here s x p f = subst (λ t. Follows t x p) (sym f.store) f

pub record Reached (s : Store) (key writer : Secret) (lines : List Line) (x : run.ReplayRun) (number index : ℕ) : Type 0 where
  pub progress : Progress
  pub follows : Follows s x progress
  pub rest : after_lines key writer s 0 (at_first s) lines ≡ after_lines key writer s index progress (drop index lines)
  pub number_is : number ≡ index

pub reached_first : (s : Store) (key writer : Secret) (lines : List Line) (x : run.ReplayRun) → Follows s x (at_first s) → Reached s key writer lines x 0 0
reached_first s key writer lines x f = record { progress = at_first s; follows = f; rest = refl; number_is = refl }

pub reached_next : (s : Store) (key writer : Secret) (lines : List Line) (x y : run.ReplayRun) (number index : ℕ) (line : Line) → (r : Reached s key writer lines x number index) → index < length lines → line ≡ get_or lines index line
    → ((p : Progress) → Follows x.store.store x p → Follows x.store.store y (after_line key writer x.store.store number p line))
    → Reached s key writer lines y (number + 1) (index + 1)
unfolding after_lines
reached_next s key writer lines x y number index line r inside is next =
    let at_index : after_lines key writer s index r.progress (drop index lines) ≡ after_lines key writer s (index + 1) (after_line key writer s index r.progress line) (drop (suc index) lines) =
    ap (after_lines key writer s index r.progress) (drop-cons lines index line inside ∙ ap (λ l. l ∷ drop (suc index) lines) (sym is)) in
    let one_more : suc index ≡ index + 1 = omega arith in
    record {
      progress = after_line key writer s index r.progress line;
      follows = subst (λ n. Follows s y (after_line key writer s n r.progress line)) r.number_is
          (subst (λ t. Follows t y (after_line key writer t number r.progress line)) r.follows.store (next r.progress (here s x r.progress r.follows)));
      rest = r.rest ∙ at_index ∙ ap (λ n. after_lines key writer s (index + 1) (after_line key writer s index r.progress line) (drop n lines)) one_more;
      number_is = omega (arith, r.number_is);
    }

pub reached_last : (s : Store) (key writer : Secret) (lines : List Line) (x : run.ReplayRun) (number index : ℕ) → (r : Reached s key writer lines x number index) → length lines ≤ index → Follows s x (after_lines key writer s 0 (at_first s) lines)
unfolding after_lines
reached_last s key writer lines x number index r past =
    let over : after_lines key writer s index r.progress (drop index lines) ≡ r.progress = ap (after_lines key writer s index r.progress) (drop_all index lines past) in
    rw (r.rest ∙ over) r.follows

pub all_at : {A : Type 0} (P : A → Type 0) (xs : List A) (i : ℕ) (x : A) → AllByRecursion P xs → i < length xs → x ≡ get_or xs i x → P x
all_at P [] i x all inside is = absurd (omega (arith, inside))
all_at P (y ∷ ys) zero x all inside is = rw is all.0
all_at P (y ∷ ys) (suc i) x all inside is = all_at P ys i x all.1 (omega (arith, inside)) is
