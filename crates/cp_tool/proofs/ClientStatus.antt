-- No ending of a command of the client has the status 2.
use Rattle.std.proofs.Common.{◌≡◌, ◌⊎◌, inl, inr, ℕ, Bool, true, false, List, Option, Some, None, Result, Ok, Err, length, refl, sym, ap, ◌∙◌, arith}
use Rattle.std.specs.Prelude.{nat_lt, IfErr}
use Rattle.cp_bytes.specs.Fields.{◌>>=◌}
use Rattle.cp_outside.specs.declared.disk.Disk as disk
use Rattle.lms_tree.specs.PublicKey.{key_reads}
use Rattle.cp_client.specs.Asking.{Asked, asked_of}
use Rattle.cp_client.specs.Accepting.{Accepted, accept_of}
use Rattle.cp_client.specs.declared.refusals.ClientRefusal.{ClientRefusal}
use Rattle.cp_client.specs.declared.refusals.ClientRefusal.TheVariants.{Malformed, BadSignature, OtherCall, ContentMismatch, BadHead}
use Rattle.cp_commands.specs.ClientWords.{PutWords, GetWords, AcceptWords}
use Rattle.cp_endings.specs.Endings.{Outcome, fault}
use Rattle.cp_endings.specs.ClientEndings.{refused}
use Rattle.cp_tool.specs.ClientRuns.{key_in, get_asked, GetEnds, AskGetEnds, asked_or_refused, accepted_or_refused, acceptance_of, accept_inputs, AcceptanceEnds, AcceptEnds}
use Rattle.cp_endings.specs.ThreeInputs.{Three, Input, three_of}
use Rattle.cp_endings.specs.Folders.{Files, input_of, Stops, KeepsAll}
use Rattle.cp_tool.specs.PutRuns.{PutParts, put_parts, put_inputs, LeafEnds, PutEnds, AskPutEnds, IsVaultRefusal}

abbrev Not2 : Outcome → Type 0
Not2 ending = ending.status ≡ 2 → ⊥

-- a refusal does not end with 2
abbrev RefusesWell : {A : Type 0} → Result A Outcome → Type 0
RefusesWell (Ok x) = Unit {0}
RefusesWell (Err ending) = Not2 ending

same_not2 : (a b : Outcome) → a ≡ b → Not2 b → Not2 a
same_not2 a b same not e = not (sym (ap (λ o. o.status) same) ∙ e)

stops_not2 : (before now : ℕ) (ending : Outcome) → Stops before now ending → Not2 ending
stops_not2 before now ending (inl fault) e = omega (arith, e, ap (λ o. o.status) fault.0)
stops_not2 before now ending (inr memory) e = omega (arith, e, ap (λ o. o.status) memory)

step : {A B : Type 0} (first : Result A Outcome) (then : A → Result B Outcome) → RefusesWell first → ((x : A) → RefusesWell (then x)) → RefusesWell (first >>= then)
step (Ok x) then well others = others x
step (Err ending) then well others = well

input_well : (content : Option (List ℕ)) (name : List ℕ) (limit : ℕ) → RefusesWell (input_of content name limit)
input_well None name limit = λ e. omega (arith, e)
input_well (Some bytes) name limit = go (nat_lt limit (length bytes)) refl
  where
    go : (long : Bool) → nat_lt limit (length bytes) ≡ long → RefusesWell (input_of (Some bytes) name limit)
    go true e = rw e (λ two. omega (arith, two))
    go false e = rw e tt

key_well : (bytes : List ℕ) → RefusesWell (key_in bytes)
key_well bytes = go (key_reads bytes) refl
  where
    go : (reads : Bool) → key_reads bytes ≡ reads → RefusesWell (key_in bytes)
    go true e = rw e tt
    go false e = rw e (λ two. omega (arith, two))

three_well : (af : Option (List ℕ)) (a : Input) (bf : Option (List ℕ)) (b : Input) (cf : Option (List ℕ)) (c : Input) → RefusesWell (three_of af a bf b cf c)
three_well af a bf b cf c = step (input_of af a.name a.limit) _ (input_well af a.name a.limit)
    (λ x. step (input_of bf b.name b.limit) _ (input_well bf b.name b.limit) (λ y. step (input_of cf c.name c.limit) _ (input_well cf c.name c.limit) (λ z. tt)))

-- ---- ask-get

get_well : (words : GetWords) (file : Option (List ℕ)) → RefusesWell (get_asked words file)
get_well words file = step (input_of file words.store 56) _ (input_well file words.store 56) (λ bytes. step (key_in bytes) _ (key_well bytes) (λ store. tt))

get_ends : (made : Result (List ℕ) Outcome) (out : List ℕ) (old new : Files) (ending : Outcome) → RefusesWell made → GetEnds made out old new ending → Not2 ending
get_ends (Ok bytes) out old new ending well (inl written) = same_not2 _ _ written.0 (λ e. omega (arith, e))
get_ends (Ok bytes) out old new ending well (inr unwritten) = stops_not2 _ _ ending (inl unwritten)
get_ends (Err refusal) out old new ending well ends = same_not2 _ _ ends.0 well

pub ask_get_not2 : (words : GetWords) (old new : Files) (ending : Outcome) → AskGetEnds words old new ending → ending.status ≡ 2 → ⊥
ask_get_not2 words old new ending ends = go ends.ends
  where
    go : GetEnds (get_asked words ends.store_file) words.out old new ending ⊎ (Stops old.read_faults new.read_faults ending × KeepsAll old new) → Not2 ending
    go (inl made) = get_ends (get_asked words ends.store_file) words.out old new ending (get_well words ends.store_file) made
    go (inr stops) = stops_not2 _ _ ending stops.0

-- ---- accept

refused_well : (refusal : ClientRefusal) → Not2 (refused refusal)
refused_well (Malformed at) e = omega (arith, e)
refused_well BadSignature e = omega (arith, e)
refused_well (OtherCall field) e = omega (arith, e)
refused_well ContentMismatch e = omega (arith, e)
refused_well BadHead e = omega (arith, e)

asked_well : (r : Result Asked ℕ) → RefusesWell (asked_or_refused r)
asked_well (Ok x) = tt
asked_well (Err at) = refused_well (Malformed at)

answer_well : (r : Result Accepted ClientRefusal) → RefusesWell (accepted_or_refused r)
answer_well (Ok x) = tt
answer_well (Err refusal) = refused_well refusal

acceptance_well : (files : Three) → RefusesWell (acceptance_of files)
unfolding acceptance_of
acceptance_well files = step (key_in files.first) _ (key_well files.first)
    (λ key. step (asked_or_refused (asked_of files.second)) _ (asked_well (asked_of files.second)) (λ asked. answer_well (accept_of key asked files.third)))

acceptance_ends : (words : AcceptWords) (r : Result Accepted Outcome) (old new : Files) (ending : Outcome) → RefusesWell r → AcceptanceEnds words r old new ending → Not2 ending
acceptance_ends words (Ok x) old new ending well (inl written) = same_not2 _ _ written.0 (λ e. omega (arith, e))
acceptance_ends words (Ok x) old new ending well (inr unwritten) = stops_not2 _ _ ending (inl (unwritten.0, unwritten.1))
acceptance_ends words (Err refusal) old new ending well ends = same_not2 _ _ ends.0 well

pub accept_not2 : (words : AcceptWords) (old new : Files) (ending : Outcome) → AcceptEnds words old new ending → ending.status ≡ 2 → ⊥
accept_not2 words old new ending ends = go ends.ends
  where
    go : AcceptanceEnds words (accept_inputs words ends.store_file ends.request_file ends.reply_file >>= acceptance_of) old new ending ⊎ (Stops old.read_faults new.read_faults ending × KeepsAll old new) → Not2 ending
    go (inl made) = acceptance_ends words _ old new ending (step (accept_inputs words ends.store_file ends.request_file ends.reply_file) acceptance_of (three_well ends.store_file _ ends.request_file _ ends.reply_file _) acceptance_well) made
    go (inr stops) = stops_not2 _ _ ending stops.0

-- ---- ask-put

vault_not2 : (ending : Outcome) → IsVaultRefusal ending → Not2 ending
vault_not2 ending (inl fault) = same_not2 _ _ fault (λ e. omega (arith, e))
vault_not2 ending (inr (inl other)) = same_not2 _ _ other (λ e. omega (arith, e))
vault_not2 ending (inr (inr (inl over))) = same_not2 _ _ over.2 (λ e. omega (arith, e))
vault_not2 ending (inr (inr (inr damaged))) = same_not2 _ _ damaged.2 (λ e. omega (arith, e))

parts_well : (words : PutWords) (files : Three) → RefusesWell (put_parts words files)
parts_well words files = go (nat_lt (length files.first) 48) refl
  where
    go : (short : Bool) → nat_lt (length files.first) 48 ≡ short → RefusesWell (put_parts words files)
    go true e = rw e (λ two. omega (arith, two))
    go false e = rw e (step (key_in files.second) _ (key_well files.second) (λ store. tt))

leaf_ends : (parts : PutParts) (drawn : Result ℕ Outcome) (out : List ℕ) (old new : Files) (ending : Outcome) → IfErr drawn IsVaultRefusal → LeafEnds parts drawn out old new ending → Not2 ending
leaf_ends parts (Ok leaf) out old new ending why (inl written) = same_not2 _ _ written.0 (λ e. omega (arith, e))
leaf_ends parts (Ok leaf) out old new ending why (inr (inl unwritten)) = stops_not2 _ _ ending (inl unwritten)
leaf_ends parts (Ok leaf) out old new ending why (inr (inr unmade)) = stops_not2 old.read_faults old.read_faults ending (inr unmade.0)
leaf_ends parts (Err refusal) out old new ending why ends = same_not2 _ _ ends.0 (vault_not2 refusal why)

module _ {K : Type 0} (g : disk.Ghosts K) where
  put_ends : (r : Result PutParts Outcome) (out : List ℕ) (old new : Files) (before after : K) (ending : Outcome) → RefusesWell r → PutEnds g r out old new before after ending → Not2 ending
  put_ends (Ok parts) out old new before after ending well ends = leaf_ends parts ends.drawn out old new ending ends.draws.why ends.ends
  put_ends (Err refusal) out old new before after ending well ends = same_not2 _ _ ends.0 well

  pub ask_put_not2 : (words : PutWords) (old new : Files) (before after : K) (ending : Outcome) → AskPutEnds g words old new before after ending → ending.status ≡ 2 → ⊥
  ask_put_not2 words old new before after ending ends = go ends.ends
    where
      go : PutEnds g (put_inputs words ends.seed_file ends.store_file ends.content_file >>= put_parts words) words.out old new before after ending ⊎ (Stops old.read_faults new.read_faults ending × KeepsAll old new × (after ≡ before)) → Not2 ending
      go (inl made) = put_ends _ words.out old new before after ending
          (step (put_inputs words ends.seed_file ends.store_file ends.content_file) (put_parts words) (three_well ends.seed_file _ ends.store_file _ ends.content_file _) (parts_well words)) made
      go (inr stops) = stops_not2 _ _ ending stops.0
