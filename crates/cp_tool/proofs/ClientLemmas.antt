-- How the commands of the client end, from what their steps gave.
use Rattle.std.proofs.Common.{◌≡◌, ◌⊎◌, inl, inr, ℕ, ◌-◌, ◌<◌, ◌≤◌, false, List, ◌++◌, Some, Result, Ok, Err, length, take, refl, ap, ◌∙◌, subst, arith, length-append}
use Rattle.std.specs.Prelude.{◌≢◌, IsTrue}
use Rattle.std.specs.Global.{Vec}
use Rattle.std.proofs.lemmas.Bool.{le-ltb}
use Rattle.std.proofs.lemmas.List.{take_at}
use Rattle.sha2.specs.Sha256.{sha256}
use Rattle.cp_bytes.specs.Fields.{IsBytes, ◌>>=◌, at_offset}
use Rattle.cp_bytes.proofs.FieldLemmas.{at_offset_ok}
use Rattle.cp_outside.specs.Causes.{Rose}
use Rattle.cp_outside.specs.declared.disk.Disk as disk
use Rattle.lms_tree.specs.PublicKey.{key_reads}
use Rattle.lms_tree.specs.Secret.{Secret, public_of, leaves_of}
use Rattle.lms_tree.specs.declared.height.Height.{Height}
use Rattle.lms_tree.specs.declared.height.Height.TheVariants.{H5, H10, H15}
use Rattle.lms_tree.specs.Verifying.{verifies}
use Rattle.cp_statements.specs.Attestation.{attestation_of}
use Rattle.cp_statements.specs.Envelope.{envelope_text, envelope_at}
use Rattle.cp_statements.specs.GetRequest.{get_request_text}
use Rattle.cp_statements.specs.PutRequest.{PutRequest}
use Rattle.cp_statements.proofs.Entries.{envelope_at_takes}
use Rattle.cp_client.specs.Asking.{Asked, asked_of}
use Rattle.cp_client.specs.Accepting.{Accepted, accept_of, read_or_refused, must, same_call, other_field, content_fits, head_fits}
use Rattle.cp_client.specs.declared.refusals.ClientRefusal.{ClientRefusal}
use Rattle.cp_client.specs.declared.refusals.ClientRefusal.TheVariants.{BadSignature, ContentMismatch, BadHead}
use Rattle.cp_commands.specs.ClientWords.{PutWords, GetWords, AcceptWords}
use Rattle.cp_endings.specs.Endings.{Outcome, bad_key, fault, no_memory}
use Rattle.cp_endings.specs.ClientEndings.{asked_get}
use Rattle.cp_tool.specs.ClientInputs.{JudgesPut, WritesEnds}
use Rattle.cp_endings.specs.ThreeInputs.{three_view, ReadsThree, Three}
use Rattle.cp_tool.specs.ClientRuns.{key_in, get_request, get_asked, GetEnds, AskGetEnds, asked_or_refused, accepted_or_refused, acceptance_of, accept_inputs, AcceptanceEnds, AcceptEnds}
use Rattle.cp_endings.specs.Folders.{Files, input_of, Stops, KeepsAll, KeepsOthers}
use Rattle.cp_endings.specs.Inputs.{ReadsInput}
use Rattle.cp_tool.specs.PutRuns.{PutParts, put_parts, put_request, put_inputs, LeafEnds, PutEnds, AskPutEnds, DrawsLeaf, TakesFirst}
use Rattle.cp_endings.proofs.InputLemmas.{stops_first}
use Rattle.cp_more.specs.Seeds.{secret_in}
use Rattle.cp_endings.specs.View.{ending_view}
use Rattle.cp_endings.specs.declared.ending.Ending.{Ending}
use Rattle.cp_endings.specs.declared.three.ThreeFiles.{ThreeFiles}

-- ---- ask-put

pub some_leaves : (key : Secret) → 0 < leaves_of key
some_leaves key = go key.height refl
  where
    go : (h : Height) → key.height ≡ h → 0 < leaves_of key
    go H5 e = rw e (omega arith)
    go H10 e = rw e (omega arith)
    go H15 e = rw e (omega arith)

-- what is signed of files that were judged
pub parts_judged : (words : PutWords) (files : Three) → 48 ≤ length files.first → IsTrue (key_reads files.second)
    → put_parts words files ≡ Ok (record { secret = secret_in words.height words.ots files.first; request = put_request words files.second files.third; content = files.third })
parts_judged words files long reads = rw (le-ltb (length files.first) 48 long, reads) refl

pub parts_are : (words : PutWords) (files : Three) (seed : List ℕ) (secret : Secret) (request : PutRequest) (store content : List ℕ) → 48 ≤ length files.first → IsTrue (key_reads files.second)
    → seed ≡ files.first → secret ≡ secret_in words.height words.ots seed → store ≡ sha256 files.second → content ≡ files.third
    → request ≡ record { store = store; epoch = words.call.epoch; block = words.call.block; client = words.call.client; nonce = words.call.nonce; version = words.version; content = sha256 content }
    → put_parts words files ≡ Ok (record { secret = secret; request = request; content = content })
parts_are words files seed secret request store content long reads seed_is secret_is store_is content_is request_is =
    rw (secret_is, seed_is, request_is, store_is, content_is) (parts_judged words files long reads)

leaf_later : (parts : PutParts) (leaf : ℕ) (out : List ℕ) (old mid new : Files) (ending : Outcome) → KeepsAll old mid → mid.tells ≡ old.tells → mid.write_faults ≡ old.write_faults
    → LeafEnds parts (Ok leaf) out mid new ending → LeafEnds parts (Ok leaf) out old new ending
leaf_later parts leaf out old mid new ending kept tells unwritten_yet (inl written) = inl (written.0, λ told. written.1 (tells ∙ told))
leaf_later parts leaf out old mid new ending kept tells unwritten_yet (inr (inl failed)) = inr (inl (failed.0, omega (arith, unwritten_yet, failed.1)))
leaf_later parts leaf out old mid new ending kept tells unwritten_yet (inr (inr unmade)) = inr (inr (unmade.0, λ n. unmade.1 n ∙ kept n))

module _ {K : Type 0} (g : disk.Ghosts K) (words : PutWords) (old : Files) where
  abbrev ReadsPut : Files → Result ThreeFiles Ending → Type 0
  ReadsPut new result = ReadsThree (record { name = words.seed; limit = 48 }) (record { name = words.store; limit = 56 }) (record { name = words.content; limit = 65536 }) old new result

  -- an input was not read
  pub put_unread : (new : Files) (d : K) (ending : Ending) → ReadsPut new (Err ending) → KeepsAll old new → AskPutEnds g words old new d d (ending_view ending)
  put_unread new d ending reads kept = record {
    seed_file = reads.first_file;
    store_file = reads.second_file;
    content_file = reads.third_file;
    seed_is = reads.first_is;
    store_is = reads.second_is;
    content_is = reads.third_is;
    ends = ends reads.gives;
    others = λ n other. kept n;
    reads_first = first reads.failed;
  }
    where
      first : (new.read_faults ≡ old.read_faults) ⊎ (ending_view ending ≡ fault) → TakesFirst g old new d d (ending_view ending)
      first (inl stays) = inl stays
      first (inr is) = inr (is, kept, refl)

      ends : (put_inputs words reads.first_file reads.second_file reads.third_file ≡ Err (ending_view ending)) ⊎ Stops old.read_faults new.read_faults (ending_view ending)
          → PutEnds g (put_inputs words reads.first_file reads.second_file reads.third_file >>= put_parts words) words.out old new d d (ending_view ending)
          ⊎ (Stops old.read_faults new.read_faults (ending_view ending) × KeepsAll old new × (d ≡ d))
      ends (inl refused) = inl (rw refused (refl, kept, refl))
      ends (inr stops) = inr (stops, kept, refl)

  -- the inputs were refused
  pub put_refused : (new : Files) (d : K) (files : ThreeFiles) (ending : Ending) → ReadsPut new (Ok files) → JudgesPut (three_view files) (Err ending) → KeepsAll old new
      → AskPutEnds g words old new d d (ending_view ending)
  put_refused new d files ending reads judged kept = record {
    seed_file = reads.first_file;
    store_file = reads.second_file;
    content_file = reads.third_file;
    seed_is = reads.first_is;
    store_is = reads.second_is;
    content_is = reads.third_is;
    ends = inl (rw (reads.gives, judged words) (refl, kept, refl));
    others = λ n other. kept n;
    reads_first = inl reads.failed;
  }

  -- memory was wanted for the key
  pub put_unmade : (new : Files) (d : K) (files : ThreeFiles) → ReadsPut new (Ok files) → KeepsAll old new → AskPutEnds g words old new d d no_memory
  put_unmade new d files reads kept = record {
    seed_file = reads.first_file;
    store_file = reads.second_file;
    content_file = reads.third_file;
    seed_is = reads.first_is;
    store_is = reads.second_is;
    content_is = reads.third_is;
    ends = inr (inr refl, kept, refl);
    others = λ n other. kept n;
    reads_first = inl reads.failed;
  }

  -- the vault gave no leaf, or it did
  module _ (parts : PutParts) (files : ThreeFiles) (mid : Files) (before after : K) (id : List ℕ) (leaves : ℕ) (reads : ReadsPut mid (Ok files))
      (is : put_parts words (three_view files) ≡ Ok parts) (id_is : id ≡ sha256 (public_of parts.secret)) (leaves_are : leaves ≡ leaves_of parts.secret) where
    draws_of : (drawn : Result ℕ Outcome) → DrawsLeaf g id leaves before after drawn → DrawsLeaf g (sha256 (public_of parts.secret)) (leaves_of parts.secret) before after drawn
    draws_of drawn draws = subst (λ (n : ℕ). DrawsLeaf g (sha256 (public_of parts.secret)) n before after drawn) leaves_are (subst (λ (i : List ℕ). DrawsLeaf g i leaves before after drawn) id_is draws)

    pub put_undrawn : (ending : Ending) → DrawsLeaf g id leaves before after (Err (ending_view ending)) → KeepsAll old mid → AskPutEnds g words old mid before after (ending_view ending)
    put_undrawn ending draws kept = record {
      seed_file = reads.first_file;
      store_file = reads.second_file;
      content_file = reads.third_file;
      seed_is = reads.first_is;
      store_is = reads.second_is;
      content_is = reads.third_is;
      ends = inl (rw (reads.gives, is) (record { drawn = Err (ending_view ending); draws = draws_of (Err (ending_view ending)) draws; ends = (refl, kept) }));
      others = λ n other. kept n;
      reads_first = inl reads.failed;
    }

    pub put_drawn : (new : Files) (leaf : ℕ) (ending : Outcome) → DrawsLeaf g id leaves before after (Ok leaf) → KeepsAll old mid → mid.tells ≡ old.tells → mid.write_faults ≡ old.write_faults
        → LeafEnds parts (Ok leaf) words.out mid new ending → KeepsOthers words.out mid new → new.read_faults ≡ mid.read_faults → AskPutEnds g words old new before after ending
    put_drawn new leaf ending draws kept tells unwritten_yet made others unread = record {
      seed_file = reads.first_file;
      store_file = reads.second_file;
      content_file = reads.third_file;
      seed_is = reads.first_is;
      store_is = reads.second_is;
      content_is = reads.third_is;
      ends = inl (rw (reads.gives, is) (record { drawn = Ok leaf; draws = draws_of (Ok leaf) draws; ends = leaf_later parts leaf words.out old mid new ending kept tells unwritten_yet made }));
      others = λ n other. others n other ∙ kept n;
      reads_first = inl (unread ∙ reads.failed);
    }

-- ---- ask-get

-- the key's file was refused
pub get_unread : (words : GetWords) (old new : Files) (ending : Ending) → ReadsInput old.tells (old.file words.store) words.store 56 old.read_faults new.read_faults (Err ending) → KeepsAll old new
    → AskGetEnds words old new (ending_view ending)
get_unread words old new ending read kept = record { store_file = read.content; store_is = read.told; ends = ends read.gives; others = λ n other. kept n; reads_first = stops_first old new (ending_view ending) read.failed kept }
  where
    ends : (input_of read.content words.store 56 ≡ Err (ending_view ending)) ⊎ Stops old.read_faults new.read_faults (ending_view ending)
        → GetEnds (get_asked words read.content) words.out old new (ending_view ending) ⊎ (Stops old.read_faults new.read_faults (ending_view ending) × KeepsAll old new)
    ends (inl refused) = inl (rw refused (refl, kept))
    ends (inr stops) = inr (stops, kept)

-- the key does not read
pub get_refused : (words : GetWords) (old new : Files) (store : Vec ℕ) → ReadsInput old.tells (old.file words.store) words.store 56 old.read_faults new.read_faults (Ok store) → key_reads store.items ≡ false
    → KeepsAll old new → AskGetEnds words old new bad_key
get_refused words old new store read bad kept =
    record { store_file = read.content; store_is = read.told; ends = inl (rw (read.gives, bad) (refl, kept)); others = λ n other. kept n; reads_first = inl read.failed }

-- the request was written, or its write failed
pub get_written : (words : GetWords) (old mid new : Files) (store : Vec ℕ) (text : List ℕ) (ending : Outcome)
    → ReadsInput old.tells (old.file words.store) words.store 56 old.read_faults mid.read_faults (Ok store) → IsTrue (key_reads store.items) → text ≡ get_request_text (get_request words.call store.items)
    → KeepsAll old mid → mid.tells ≡ old.tells → mid.write_faults ≡ old.write_faults → new.read_faults ≡ mid.read_faults
    → ((ending ≡ asked_get) × (IsTrue mid.tells → new.file words.out ≡ Some text)) ⊎ ((ending ≡ fault) × Rose mid.write_faults new.write_faults) → KeepsOthers words.out mid new → AskGetEnds words old new ending
get_written words old mid new store text ending read reads is kept tells unwritten_yet unread wrote others =
    record { store_file = read.content; store_is = read.told; ends = inl (rw (read.gives, reads) (ends wrote)); others = λ n other. others n other ∙ kept n; reads_first = inl (unread ∙ read.failed) }
  where
    ends : ((ending ≡ asked_get) × (IsTrue mid.tells → new.file words.out ≡ Some text)) ⊎ ((ending ≡ fault) × Rose mid.write_faults new.write_faults)
        → GetEnds (Ok (get_request_text (get_request words.call store.items))) words.out old new ending
    ends (inl written) = inl (written.0, λ told. written.1 (tells ∙ told) ∙ ap (λ (l : List ℕ). Some l) is)
    ends (inr failed) = inr (failed.0, omega (arith, unwritten_yet, failed.1))

-- ---- accept

-- a step that did not refuse
step_ok : {A B E : Type 0} (r : Result A E) (f : A → Result B E) (y : B) → (r >>= f) ≡ Ok y → (x : A) × (r ≡ Ok x) × (f x ≡ Ok y)
step_ok (Ok x) f y e = (x, refl, e)
step_ok (Err d) f y e = absurd cc

abbrev gave : {A E : Type 0} → A → Result A E
gave x = Ok x

same_value : {A E : Type 0} (x y : A) → gave {E = E} x ≡ gave y → x ≡ y
same_value x y e = cc

read_ok : {A : Type 0} (r : Result A ℕ) (x : A) → read_or_refused r ≡ Ok x → r ≡ Ok x
read_ok (Ok y) x e = cc
read_ok (Err at) x e = absurd cc

-- the reply is the accepted envelope and then the content
accepted_spells : (key : List ℕ) (asked : Asked) (reply : List ℕ) (x : Accepted) → IsBytes reply → accept_of key asked reply ≡ Ok x → reply ≡ envelope_text x.envelope ++ x.content
unfolding accept_of
accepted_spells key asked reply x fits e =
    let a = step_ok (read_or_refused (at_offset reply (envelope_at reply))) _ x e in
    let b = step_ok (read_or_refused (attestation_of a.0.0.text)) _ x a.2 in
    let c = step_ok (must (verifies key a.0.0.text a.0.0.signature) BadSignature) _ x b.2 in
    let d = step_ok (same_call (other_field asked b.0)) _ x c.2 in
    let f = step_ok (must (content_fits asked b.0 a.0.1) ContentMismatch) _ x d.2 in
    let h = step_ok (must (head_fits asked b.0) BadHead) _ x f.2 in
    let t = envelope_at_takes reply a.0 fits (at_offset_ok reply (envelope_at reply) a.0 (read_ok (at_offset reply (envelope_at reply)) a.0 a.1)) in
    let made : Accepted = record { attestation = b.0; envelope = a.0.0; content = a.0.1 } in
    subst (λ (y : Accepted). reply ≡ envelope_text y.envelope ++ y.content) (same_value made x h.2) t.0.parts

answered : (r : Result Accepted ClientRefusal) (x : Accepted) → accepted_or_refused r ≡ Ok x → r ≡ Ok x
answered (Ok y) x e = cc
answered (Err refusal) x e = absurd cc

acceptance_spells : (files : Three) (x : Accepted) → IsBytes files.third → acceptance_of files ≡ Ok x → files.third ≡ envelope_text x.envelope ++ x.content
unfolding acceptance_of
acceptance_spells files x fits e =
    let a = step_ok (key_in files.first) _ x e in
    let b = step_ok (asked_or_refused (asked_of files.second)) _ x a.2 in
    accepted_spells a.0 b.0 files.third x fits (answered (accept_of a.0 b.0 files.third) x b.2)

-- what stands before the content
before_content : (reply envelope content : List ℕ) → reply ≡ envelope ++ content → take (length reply - length content) reply ≡ envelope
before_content reply envelope content is =
    let size : length reply - length content ≡ length envelope = omega (arith, ap length is, length-append envelope content) in
    ap (λ (n : ℕ). take n reply) size ∙ ap (λ (l : List ℕ). take (length envelope) l) is ∙ take_at envelope content (length envelope) refl

module _ (words : AcceptWords) (old : Files) where
  abbrev ReadsAccept : Files → Result ThreeFiles Ending → Type 0
  ReadsAccept new result = ReadsThree (record { name = words.store; limit = 56 }) (record { name = words.request; limit = 131072 }) (record { name = words.reply; limit = 131072 }) old new result

  -- an input was not read
  pub accept_unread : (new : Files) (ending : Ending) → ReadsAccept new (Err ending) → KeepsAll old new → AcceptEnds words old new (ending_view ending)
  accept_unread new ending reads kept = record {
    store_file = reads.first_file;
    request_file = reads.second_file;
    reply_file = reads.third_file;
    store_is = reads.first_is;
    request_is = reads.second_is;
    reply_is = reads.third_is;
    ends = ends reads.gives;
    others = λ n out content. kept n;
    reads_first = stops_first old new (ending_view ending) reads.failed kept;
  }
    where
      ends : (accept_inputs words reads.first_file reads.second_file reads.third_file ≡ Err (ending_view ending)) ⊎ Stops old.read_faults new.read_faults (ending_view ending)
          → AcceptanceEnds words (accept_inputs words reads.first_file reads.second_file reads.third_file >>= acceptance_of) old new (ending_view ending)
          ⊎ (Stops old.read_faults new.read_faults (ending_view ending) × KeepsAll old new)
      ends (inl refused) = inl (rw refused (refl, kept))
      ends (inr stops) = inr (stops, kept)

  -- the reply was refused
  pub accept_refused : (new : Files) (files : ThreeFiles) (ending : Ending) → ReadsAccept new (Ok files) → acceptance_of (three_view files) ≡ Err (ending_view ending) → KeepsAll old new
      → AcceptEnds words old new (ending_view ending)
  accept_refused new files ending reads refused kept = record {
    store_file = reads.first_file;
    request_file = reads.second_file;
    reply_file = reads.third_file;
    store_is = reads.first_is;
    request_is = reads.second_is;
    reply_is = reads.third_is;
    ends = inl (rw (reads.gives, refused) (refl, kept));
    others = λ n out content. kept n;
    reads_first = inl reads.failed;
  }

  -- what was accepted was written, or a write failed
  pub accept_written : (mid new : Files) (files : ThreeFiles) (x : Accepted) (envelope : List ℕ) (ending : Outcome) → ReadsAccept mid (Ok files) → acceptance_of (three_view files) ≡ Ok x
      → IsBytes files.third.items → envelope ≡ take (length files.third.items - length x.content) files.third.items → KeepsAll old mid → mid.tells ≡ old.tells → mid.write_faults ≡ old.write_faults
      → WritesEnds words envelope x mid new ending → ((name : List ℕ) → name ≢ words.out → name ≢ words.content → new.file name ≡ mid.file name) → new.read_faults ≡ mid.read_faults
      → AcceptEnds words old new ending
  accept_written mid new files x envelope ending reads is fits front kept tells unwritten_yet wrote others unread = record {
    store_file = reads.first_file;
    request_file = reads.second_file;
    reply_file = reads.third_file;
    store_is = reads.first_is;
    request_is = reads.second_is;
    reply_is = reads.third_is;
    ends = inl (rw (reads.gives, is) (ends wrote));
    others = λ n out content. others n out content ∙ kept n;
    reads_first = inl (unread ∙ reads.failed);
  }
    where
      spelled : envelope ≡ envelope_text x.envelope
      spelled = front ∙ before_content files.third.items (envelope_text x.envelope) x.content (acceptance_spells (three_view files) x fits is)

      ends : WritesEnds words envelope x mid new ending → AcceptanceEnds words (Ok x) old new ending
      ends (inl written) = inl (
        written.0,
        λ told. record {
          envelope = λ apart. (written.1 (tells ∙ told)).envelope_is apart ∙ ap (λ (l : List ℕ). Some l) spelled;
          content = (written.1 (tells ∙ told)).content_is;
        },
      )
      ends (inr failed) = inr (failed.0, omega (arith, unwritten_yet, failed.1), λ apart. stops (failed.2 apart))
        where
          stops : (new.file words.content ≡ mid.file words.content) ⊎ (IsTrue mid.tells → new.file words.out ≡ Some envelope)
              → (new.file words.content ≡ old.file words.content) ⊎ (IsTrue old.tells → new.file words.out ≡ Some (envelope_text x.envelope))
          stops (inl same) = inl (same ∙ kept words.content)
          stops (inr written) = inr (λ told. written (tells ∙ told) ∙ ap (λ (l : List ℕ). Some l) spelled)
