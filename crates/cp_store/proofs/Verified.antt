-- Which puts the shard's first rules let in.
use Rattle.std.proofs.Common.{◌≡◌, ℕ, Bool, true, false, cond, eqb, List, Option, Some, None, Result, Ok, Err, refl, sym, ap, ◌∙◌}
use Rattle.std.specs.Prelude.{bytes_eq}
use Rattle.std.proofs.lemmas.Bool.{eq-eqb, ne_eqb}
use Rattle.std.proofs.lemmas.Slice.Eq.{bytes_eq-Decides}
use Rattle.lms_tree.specs.Verifying.{verifies}
use Rattle.cp_statements.proofs.FixedTexts.{put_request_again}
use Rattle.cp_statements.specs.Envelope.{Envelope}
use Rattle.cp_statements.specs.PutRequest.{PutRequest, PutRequestFits, put_request_of, put_request_text}
use Rattle.cp_statements.specs.View.{put_request_view}
use Rattle.cp_statements.specs.declared.put_request.PutRequest as code
use Rattle.cp_families.specs.Checking.{SignedPut, request_in, signed_by, verify_put_of}
use Rattle.cp_families.specs.Writers.{family_of}
use Rattle.cp_families.specs.declared.put_fault.PutFault.{PutFault}
use Rattle.cp_core.specs.Calls.{Effect, epoch_now, at_found, found, or_else, settled, shard_step, unless_settled, unsigned_by, unwritten, with_leaf, writers_key}
use Rattle.cp_core.specs.Calls.Effect.{Same}
use Rattle.cp_core.specs.declared.answer.Answer.{Answer}
use Rattle.cp_core.specs.declared.answer.Answer.TheVariants.{CallRefused}
use Rattle.cp_core.specs.declared.call_refusal.CallRefusal.{CallRefusal}
use Rattle.cp_core.specs.declared.call_refusal.CallRefusal.TheVariants as refusal
use Rattle.cp_core.specs.declared.leaves_over.LeavesOver.{LeavesOver}
use Rattle.cp_core.specs.declared.request.Request.TheVariants as ask
use Rattle.cp_shard.specs.Model.{ShardModel}
use Rattle.cp_store.specs.Served.{IsWritten, RefusesPut}

-- ---- the check of the signature

-- of a request's own text the check comes to the signature alone
verify_is : (store key : List ℕ) (r : PutRequest) (x : Envelope) → PutRequestFits r → r.store ≡ store → x.text ≡ put_request_text r → verify_put_of store key x ≡ signed_by r x.signature key
unfolding verify_put_of
verify_is store key r x fits names text =
    let read : request_in (put_request_of x.text) ≡ Ok r = ap (λ (t : List ℕ). request_in (put_request_of t)) text ∙ ap request_in (put_request_again r fits) in
    let own : bytes_eq r.store store ≡ true = (bytes_eq-Decides r.store store).1 names in
    rw (read, own) refl

ok_is : (p q : SignedPut) → (let x : Result SignedPut PutFault = Ok p in x) ≡ Ok q → p ≡ q
ok_is p q e = cc

passes_in : (b : Bool) (p q : SignedPut) (f : PutFault) → cond {A = Result SignedPut PutFault} b (Ok q) (Err f) ≡ Ok p → p ≡ q
passes_in true p q f e = sym (ok_is q p e)
passes_in false p q f e = absurd cc

fails_in : (b : Bool) (q : SignedPut) (f g : PutFault) → cond {A = Result SignedPut PutFault} b (Ok q) (Err f) ≡ Err g → b ≡ false
fails_in true q f g e = absurd cc
fails_in false q f g e = refl

pub written : (shard : ShardModel) (store key : List ℕ) (r : code.PutRequest) (signature : List ℕ) (x : Envelope) (p : SignedPut) (res : Result SignedPut PutFault) → PutRequestFits (put_request_view r) → r.store ≡ store → x.text ≡ put_request_text (put_request_view r) → x.signature ≡ signature
    → res ≡ verify_put_of store key x → res ≡ Ok p → r.epoch ≡ epoch_now shard.items → writers_key shard.first shard.items (put_request_view r) ≡ Some key → IsWritten shard r signature p
written shard store key r signature x p res fits names text sign answer is epoch has =
    let all : Ok p ≡ signed_by (put_request_view r) x.signature key = sym is ∙ answer ∙ verify_is store key (put_request_view r) x fits names text in
    let q : SignedPut = record { request = put_request_view r; signature = x.signature; key = key } in
    let same : p ≡ q = passes_in (verifies key (put_request_text (put_request_view r)) x.signature) p q _ (sym all) in
    record {
      request = ap (λ (z : SignedPut). z.request) same;
      signed = ap (λ (z : SignedPut). z.signature) same ∙ sign;
      epoch = epoch;
      key = has ∙ ap (λ (z : SignedPut). Some z.key) (sym same);
    }

-- ---- the rules

settles : (answer : Answer) (x : ShardModel) (pass : ℕ) (r : code.PutRequest) (signature content : List ℕ) (leaf : Result ℕ LeavesOver) → settled x.store x.pages x.first x.items x.contents (ask.Put r signature content) ≡ Some answer
    → shard_step x.store x.pages x.first x.items x.contents pass (ask.Put r signature content) leaf ≡ Same answer
unfolding shard_step
settles answer x pass r signature content leaf e = ap (λ (s : Option Answer). unless_settled s (with_leaf x.store x.items x.contents pass (ask.Put r signature content) leaf)) e

-- a put that names another epoch
pub other_epoch : (x : ShardModel) (r : code.PutRequest) (signature : List ℕ) → (r.epoch ≡ epoch_now x.items → ⊥) → RefusesPut x r signature (refusal.WrongEpoch (epoch_now x.items))
unfolding settled
other_epoch x r signature ne pass content leaf =
    settles _ x pass r signature content leaf (rw (ne_eqb r.epoch (epoch_now x.items) ne) refl)

now_settled : (x : ShardModel) (r : code.PutRequest) (signature content : List ℕ) (o : Option Answer) → r.epoch ≡ epoch_now x.items → unwritten x.first x.items (ask.Put r signature content) ≡ o
    → settled x.store x.pages x.first x.items x.contents (ask.Put r signature content) ≡ or_else o (at_found x.store x.pages x.items x.contents (ask.Put r signature content) (found x.items (ask.Put r signature content)))
unfolding settled
now_settled x r signature content o now is = rw (eq-eqb r.epoch (epoch_now x.items) now, is) refl

unwritten_is : (x : ShardModel) (r : code.PutRequest) (signature content : List ℕ) (k : Option (List ℕ)) → writers_key x.first x.items (put_request_view r) ≡ k → unwritten x.first x.items (ask.Put r signature content) ≡ unsigned_by (put_request_view r) signature k
unfolding unwritten
unwritten_is x r signature content k is = ap (unsigned_by (put_request_view r) signature) is

-- a put of a client that has no row
pub no_writer : (x : ShardModel) (r : code.PutRequest) (signature : List ℕ) → r.epoch ≡ epoch_now x.items → writers_key x.first x.items (put_request_view r) ≡ None → RefusesPut x r signature (refusal.NotAWriter (family_of r.block) r.client)
no_writer x r signature now none pass content leaf =
    settles _ x pass r signature content leaf (now_settled x r signature content (Some (CallRefused (refusal.NotAWriter (family_of r.block) r.client))) now (unwritten_is x r signature content None none))

-- a put whose signature the row's key doesn't verify
pub not_signed : (x : ShardModel) (store key : List ℕ) (r : code.PutRequest) (signature : List ℕ) (e : Envelope) (f : PutFault) (res : Result SignedPut PutFault) → PutRequestFits (put_request_view r) → r.store ≡ store → e.text ≡ put_request_text (put_request_view r) → e.signature ≡ signature
    → res ≡ verify_put_of store key e → res ≡ Err f → r.epoch ≡ epoch_now x.items → writers_key x.first x.items (put_request_view r) ≡ Some key → RefusesPut x r signature refusal.BadSignature
not_signed x store key r signature e f res fits names text sign answer is now has pass content leaf =
    let all : Err f ≡ signed_by (put_request_view r) e.signature key = sym is ∙ answer ∙ verify_is store key (put_request_view r) e fits names text in
    let fails : verifies key (put_request_text (put_request_view r)) e.signature ≡ false = fails_in (verifies key (put_request_text (put_request_view r)) e.signature) _ _ f (sym all) in
    let here : verifies key (put_request_text (put_request_view r)) signature ≡ false = ap (verifies key (put_request_text (put_request_view r))) (sym sign) ∙ fails in
    settles _ x pass r signature content leaf
    (now_settled x r signature content (Some (CallRefused refusal.BadSignature)) now (unwritten_is x r signature content (Some key) has ∙ ap (λ (b : Bool). cond b None (Some (CallRefused refusal.BadSignature))) here))
