-- The status 4 comes only where a count of faults rose.
use Rattle.std.proofs.Common.{◌≡◌, ◌⊎◌, inl, inr, ℕ, Bool, true, false, cond, List, Option, Some, None, Result, Ok, Err, length, refl, sym, ap, ◌∙◌, arith}
use Rattle.std.specs.Prelude.{nat_lt, IfErr}
use Rattle.cp_bytes.specs.Fields.{◌>>=◌}
use Rattle.cp_outside.specs.Causes.{Rose}
use Rattle.cp_outside.specs.declared.disk.Disk as disk
use Rattle.lms_ots.specs.declared.ots_type.OtsType.{OtsType}
use Rattle.lms_tree.specs.declared.height.Height.{Height}
use Rattle.lms_tree.specs.PublicKey.{key_reads}
use Rattle.lms_tree.specs.Secret.{public_of}
use Rattle.lms_tree.specs.Verifying.{verifies}
use Rattle.cp_client.specs.Asking.{Asked, asked_of}
use Rattle.cp_client.specs.Accepting.{Accepted, accept_of}
use Rattle.cp_client.specs.declared.refusals.ClientRefusal.{ClientRefusal}
use Rattle.cp_client.specs.declared.refusals.ClientRefusal.TheVariants.{Malformed as ReplyMalformed, BadSignature, OtherCall, ContentMismatch, BadHead}
use Rattle.cp_judge.specs.Judging.{judgement_of}
use Rattle.cp_judge.specs.declared.judgement.Judgement.{Judgement}
use Rattle.cp_judge.specs.declared.judgement.Judgement.TheVariants.{BadKey, Malformed, NotEvidence, Guilty}
use Rattle.cp_endings.specs.ClientEndings.{refused}
use Rattle.cp_tool.specs.ClientRuns.{key_in, get_asked, GetEnds, asked_or_refused, accepted_or_refused, acceptance_of, accept_inputs, AcceptanceEnds}
use Rattle.cp_endings.specs.ThreeInputs.{Three, Input, three_of}
use Rattle.cp_commands.specs.ClientWords.{PutWords, GetWords, AcceptWords}
use Rattle.cp_commands.specs.Commands.{Command}
use Rattle.cp_commands.specs.Commands.Command.{Judge, Verify, Keygen, AskPut, AskGet, Accept, Audit, Replay, Certify, JudgeLife, Forgery}
use Rattle.cp_tool.proofs.AuditRefusals.{audit_4}
use Rattle.cp_tool.proofs.ReplayRefusals.{replay_4}
use Rattle.cp_more.proofs.MoreRefusals.{certify_4, forgery_4, judge_life_4}
use Rattle.cp_endings.specs.Endings.{Outcome, judged, short_seed, fault}
use Rattle.cp_tool.specs.PutRuns.{PutParts, put_parts, put_inputs, LeafEnds, PutEnds, AskPutEnds, CommandEnds, IsVaultRefusal}
use Rattle.cp_endings.specs.Folders.{FolderFailed}
use Rattle.cp_tool.specs.Runs.{Files, input_of, ending_of, Stops, KeepsAll, judge_ending, verify_ending, verified, KeyEnds, key_made, RunEnds}
use Rattle.cp_more.specs.Seeds.{secret_in}

-- an ending for which no count has to have risen
abbrev Not4 : Outcome → Type 0
Not4 ending = ending.status ≡ 4 → ⊥

abbrev RefusesWell : {A : Type 0} → Result A Outcome → Type 0
RefusesWell (Ok x) = Unit {0}
RefusesWell (Err ending) = Not4 ending

same_not4 : (a b : Outcome) → a ≡ b → Not4 b → Not4 a
same_not4 a b same not e = not (sym (ap (λ o. o.status) same) ∙ e)

stops_4 : (before now : ℕ) (ending : Outcome) → Stops before now ending → ending.status ≡ 4 → Rose before now
stops_4 before now ending (inl failed) e = failed.1
stops_4 before now ending (inr memory) e = absurd (omega (arith, e, ap (λ o. o.status) memory))

step : {A B : Type 0} (first : Result A Outcome) (then : A → Result B Outcome) → RefusesWell first → ((x : A) → RefusesWell (then x)) → RefusesWell (first >>= then)
step (Ok x) then well others = others x
step (Err ending) then well others = well

input_well : (content : Option (List ℕ)) (name : List ℕ) (limit : ℕ) → RefusesWell (input_of content name limit)
input_well None name limit = λ e. omega (arith, e)
input_well (Some bytes) name limit = go (nat_lt limit (length bytes)) refl
  where
    go : (long : Bool) → nat_lt limit (length bytes) ≡ long → RefusesWell (input_of (Some bytes) name limit)
    go true e = rw e (λ four. omega (arith, four))
    go false e = rw e tt

key_well : (bytes : List ℕ) → RefusesWell (key_in bytes)
key_well bytes = go (key_reads bytes) refl
  where
    go : (reads : Bool) → key_reads bytes ≡ reads → RefusesWell (key_in bytes)
    go true e = rw e tt
    go false e = rw e (λ four. omega (arith, four))

three_well : (af : Option (List ℕ)) (a : Input) (bf : Option (List ℕ)) (b : Input) (cf : Option (List ℕ)) (c : Input) → RefusesWell (three_of af a bf b cf c)
three_well af a bf b cf c = step (input_of af a.name a.limit) _ (input_well af a.name a.limit)
    (λ x. step (input_of bf b.name b.limit) _ (input_well bf b.name b.limit) (λ y. step (input_of cf c.name c.limit) _ (input_well cf c.name c.limit) (λ z. tt)))

-- ---- judge and verify

ends_not4 : (first : Result (List ℕ) Outcome) (then : List ℕ → Result Outcome Outcome) → RefusesWell first → ((bytes : List ℕ) → Not4 (ending_of (then bytes))) → Not4 (ending_of (first >>= then))
ends_not4 (Ok bytes) then well others = others bytes
ends_not4 (Err ending) then well others = well

judged_not4 : (j : Judgement) → Not4 (judged j)
judged_not4 BadKey e = omega (arith, e)
judged_not4 (Malformed at) e = omega (arith, e)
judged_not4 (NotEvidence kind condition) e = omega (arith, e)
judged_not4 (Guilty kind) e = omega (arith, e)

judge_not4 : (kf : Option (List ℕ)) (k : List ℕ) (ef : Option (List ℕ)) (e : List ℕ) → Not4 (judge_ending kf k ef e)
judge_not4 kf k ef e = ends_not4 (input_of kf k 56) _ (input_well kf k 56)
    (λ key. ends_not4 (input_of ef e 536870912) _ (input_well ef e 536870912) (λ evidence. judged_not4 (judgement_of key evidence)))

verified_not4 : (key text signature : List ℕ) → Not4 (verified key text signature)
verified_not4 key text signature = go (key_reads key) (verifies key text signature) refl refl
  where
    go : (reads good : Bool) → key_reads key ≡ reads → verifies key text signature ≡ good → Not4 (verified key text signature)
    go true true r g = rw (r, g) (λ e. omega (arith, e))
    go true false r g = rw (r, g) (λ e. omega (arith, e))
    go false good r g = rw r (λ e. omega (arith, e))

verify_not4 : (kf : Option (List ℕ)) (k : List ℕ) (tf : Option (List ℕ)) (t : List ℕ) (sf : Option (List ℕ)) (s : List ℕ) → Not4 (verify_ending kf k tf t sf s)
verify_not4 kf k tf t sf s = ends_not4 (input_of kf k 56) _ (input_well kf k 56) (λ key. ends_not4 (input_of tf t 1048576) _ (input_well tf t 1048576)
    (λ text. ends_not4 (input_of sf s 16384) _ (input_well sf s 16384) (λ signature. verified_not4 key text signature)))

known_4 : (known ending : Outcome) (before now : ℕ) → Not4 known → (ending ≡ known) ⊎ Stops before now ending → ending.status ≡ 4 → Rose before now
known_4 known ending before now not (inl same) e = absurd (same_not4 ending known same not e)
known_4 known ending before now not (inr stops) e = stops_4 before now ending stops e

-- ---- keygen

seed_well : (bytes made : List ℕ) → RefusesWell (cond (nat_lt (length bytes) 48) (Err short_seed) (Ok made))
seed_well bytes made = go (nat_lt (length bytes) 48)
  where
    go : (short : Bool) → RefusesWell (cond short (Err short_seed) (Ok made))
    go true = λ four. omega (arith, four)
    go false = tt

made_well : (sf : Option (List ℕ)) (s : List ℕ) (height : Height) (ots : OtsType) → RefusesWell (key_made sf s height ots)
made_well sf s height ots = step (input_of sf s 48) _ (input_well sf s 48) (λ bytes. seed_well bytes (public_of (secret_in height ots bytes)))

-- the file was written, or a fault was counted
written_4 : (done ending : Outcome) (before now : ℕ) {P : Type 0} → Not4 done → ((ending ≡ done) × P) ⊎ ((ending ≡ fault) × Rose before now) → ending.status ≡ 4 → Rose before now
written_4 done ending before now not (inl written) e = absurd (same_not4 ending done written.0 not e)
written_4 done ending before now not (inr unwritten) e = unwritten.1

key_4 : (made : Result (List ℕ) Outcome) (out : List ℕ) (old new : Files) (ending : Outcome) → RefusesWell made → KeyEnds made out old new ending → ending.status ≡ 4 → Rose old.write_faults new.write_faults
key_4 (Ok key) out old new ending well ends e = written_4 _ ending _ _ (λ four. omega (arith, four)) ends e
key_4 (Err refusal) out old new ending well ends e = absurd (same_not4 _ _ ends.0 well e)

-- ---- ask-get

get_well : (words : GetWords) (file : Option (List ℕ)) → RefusesWell (get_asked words file)
get_well words file = step (input_of file words.store 56) _ (input_well file words.store 56) (λ bytes. step (key_in bytes) _ (key_well bytes) (λ store. tt))

get_4 : (made : Result (List ℕ) Outcome) (out : List ℕ) (old new : Files) (ending : Outcome) → RefusesWell made → GetEnds made out old new ending → ending.status ≡ 4 → Rose old.write_faults new.write_faults
get_4 (Ok bytes) out old new ending well ends e = written_4 _ ending _ _ (λ four. omega (arith, four)) ends e
get_4 (Err refusal) out old new ending well ends e = absurd (same_not4 _ _ ends.0 well e)

-- ---- accept

refused_well : (refusal : ClientRefusal) → Not4 (refused refusal)
refused_well (ReplyMalformed at) e = omega (arith, e)
refused_well BadSignature e = omega (arith, e)
refused_well (OtherCall field) e = omega (arith, e)
refused_well ContentMismatch e = omega (arith, e)
refused_well BadHead e = omega (arith, e)

asked_well : (r : Result Asked ℕ) → RefusesWell (asked_or_refused r)
asked_well (Ok x) = tt
asked_well (Err at) = refused_well (ReplyMalformed at)

answer_well : (r : Result Accepted ClientRefusal) → RefusesWell (accepted_or_refused r)
answer_well (Ok x) = tt
answer_well (Err refusal) = refused_well refusal

acceptance_well : (files : Three) → RefusesWell (acceptance_of files)
unfolding acceptance_of
acceptance_well files = step (key_in files.first) _ (key_well files.first)
    (λ key. step (asked_or_refused (asked_of files.second)) _ (asked_well (asked_of files.second)) (λ asked. answer_well (accept_of key asked files.third)))

acceptance_4 : (words : AcceptWords) (r : Result Accepted Outcome) (old new : Files) (ending : Outcome) → RefusesWell r → AcceptanceEnds words r old new ending → ending.status ≡ 4 → Rose old.write_faults new.write_faults
acceptance_4 words (Ok x) old new ending well (inl written) e = absurd (same_not4 _ _ written.0 (λ four. omega (arith, four)) e)
acceptance_4 words (Ok x) old new ending well (inr unwritten) e = unwritten.1
acceptance_4 words (Err refusal) old new ending well ends e = absurd (same_not4 _ _ ends.0 well e)

-- ---- the commands that take files alone

ends_4 : {P Q : Type 0} (old new : Files) (ending : Outcome) → (P → ending.status ≡ 4 → Rose old.write_faults new.write_faults) → P ⊎ (Stops old.read_faults new.read_faults ending × Q)
    → ending.status ≡ 4 → FolderFailed old new
ends_4 old new ending done (inl p) e = inr (done p e)
ends_4 old new ending done (inr stops) e = inl (stops_4 _ _ ending stops.0 e)

run_4 : (command : Option Command) (old new : Files) (ending : Outcome) → RunEnds command old new ending → ending.status ≡ 4 → FolderFailed old new
run_4 None old new ending ends e = absurd (same_not4 _ _ ends.0 (λ four. omega (arith, four)) e)
run_4 (Some (Judge k v)) old new ending ends e = inl (known_4 _ ending _ _ (judge_not4 ends.key_file k ends.evidence_file v) ends.ends e)
run_4 (Some (Verify k t s)) old new ending ends e = inl (known_4 _ ending _ _ (verify_not4 ends.key_file k ends.text_file t ends.signature_file s) ends.ends e)
run_4 (Some (Keygen s height ots out)) old new ending ends e = ends_4 old new ending (key_4 (key_made ends.seed_file s height ots) out old new ending (made_well ends.seed_file s height ots)) ends.ends e
run_4 (Some (AskPut words)) old new ending ends e = absurd ends
run_4 (Some (AskGet words)) old new ending ends e = ends_4 old new ending (get_4 (get_asked words ends.store_file) words.out old new ending (get_well words ends.store_file)) ends.ends e
run_4 (Some (Accept words)) old new ending ends e =
    ends_4 old new ending (acceptance_4 words (accept_inputs words ends.store_file ends.request_file ends.reply_file >>= acceptance_of) old new ending
    (step (accept_inputs words ends.store_file ends.request_file ends.reply_file) acceptance_of (three_well ends.store_file _ ends.request_file _ ends.reply_file _) acceptance_well)) ends.ends e
run_4 (Some (Audit words)) old new ending ends e = audit_4 words old new ending ends e
run_4 (Some (Replay words)) old new ending ends e = replay_4 words old new ending ends e
run_4 (Some (Certify words)) old new ending ends e = certify_4 words old new ending ends e
run_4 (Some (JudgeLife k c v)) old new ending ends e = judge_life_4 k c v old new ending ends e
run_4 (Some (Forgery words)) old new ending ends e = forgery_4 words old new ending ends e

-- ---- ask-put

parts_well : (words : PutWords) (files : Three) → RefusesWell (put_parts words files)
parts_well words files = go (nat_lt (length files.first) 48) refl
  where
    go : (short : Bool) → nat_lt (length files.first) 48 ≡ short → RefusesWell (put_parts words files)
    go true e = rw e (λ four. omega (arith, four))
    go false e = rw e (step (key_in files.second) _ (key_well files.second) (λ store. tt))

vault_4 : {F K : Type 0} (refusal : Outcome) → IsVaultRefusal refusal → (refusal ≡ fault → K) → refusal.status ≡ 4 → F ⊎ K
vault_4 refusal (inl failed) rose e = inr (rose failed)
vault_4 refusal (inr (inl other)) rose e = absurd (same_not4 _ _ other (λ four. omega (arith, four)) e)
vault_4 refusal (inr (inr (inl over))) rose e = absurd (same_not4 _ _ over.2 (λ four. omega (arith, four)) e)
vault_4 refusal (inr (inr (inr damaged))) rose e = absurd (same_not4 _ _ damaged.2 (λ four. omega (arith, four)) e)

abbrev no_leaf : Outcome → Result ℕ Outcome
no_leaf ending = Err ending

leaf_4 : {K : Type 0} (parts : PutParts) (drawn : Result ℕ Outcome) (out : List ℕ) (old new : Files) (ending : Outcome) → IfErr drawn IsVaultRefusal → (drawn ≡ no_leaf fault → K)
    → LeafEnds parts drawn out old new ending → ending.status ≡ 4 → FolderFailed old new ⊎ K
leaf_4 parts (Ok leaf) out old new ending why rose (inl written) e = absurd (same_not4 _ _ written.0 (λ four. omega (arith, four)) e)
leaf_4 parts (Ok leaf) out old new ending why rose (inr (inl unwritten)) e = inl (inr unwritten.1)
leaf_4 parts (Ok leaf) out old new ending why rose (inr (inr unmade)) e = absurd (same_not4 _ _ unmade.0 (λ four. omega (arith, four)) e)
leaf_4 parts (Err refusal) out old new ending why rose ends e = vault_4 refusal why (λ failed. rose (ap no_leaf failed)) (sym (ap (λ o. o.status) ends.0) ∙ e)

module _ {K : Type 0} (g : disk.Ghosts K) where
  put_4 : (r : Result PutParts Outcome) (out : List ℕ) (old new : Files) (before after : K) (ending : Outcome) → RefusesWell r → PutEnds g r out old new before after ending → ending.status ≡ 4
      → FolderFailed old new ⊎ Rose (g.faults before) (g.faults after)
  put_4 (Ok parts) out old new before after ending well ends e = leaf_4 parts ends.drawn out old new ending ends.draws.why ends.draws.failed ends.ends e
  put_4 (Err refusal) out old new before after ending well ends e = absurd (same_not4 _ _ ends.0 well e)

  ask_put_4 : (words : PutWords) (old new : Files) (before after : K) (ending : Outcome) → AskPutEnds g words old new before after ending → ending.status ≡ 4
      → FolderFailed old new ⊎ Rose (g.faults before) (g.faults after)
  ask_put_4 words old new before after ending ends e = go ends.ends
    where
      go : PutEnds g (put_inputs words ends.seed_file ends.store_file ends.content_file >>= put_parts words) words.out old new before after ending ⊎ (Stops old.read_faults new.read_faults ending × KeepsAll old new × (after ≡ before))
          → FolderFailed old new ⊎ Rose (g.faults before) (g.faults after)
      go (inl made) = put_4 _ words.out old new before after ending
          (step (put_inputs words ends.seed_file ends.store_file ends.content_file) (put_parts words) (three_well ends.seed_file _ ends.store_file _ ends.content_file _) (parts_well words)) made e
      go (inr stops) = inl (inl (stops_4 _ _ ending stops.0 e))

  -- a fault of a command was counted by its folder or by the vault's disk
  pub command_4 : (command : Option Command) (old new : Files) (before after : K) (ending : Outcome) → CommandEnds g command old new before after ending → ending.status ≡ 4
      → FolderFailed old new ⊎ Rose (g.faults before) (g.faults after)
  command_4 None old new before after ending ends e = inl (run_4 None old new ending ends.0 e)
  command_4 (Some (Judge k v)) old new before after ending ends e = inl (run_4 (Some (Judge k v)) old new ending ends.0 e)
  command_4 (Some (Verify k t s)) old new before after ending ends e = inl (run_4 (Some (Verify k t s)) old new ending ends.0 e)
  command_4 (Some (Keygen s height ots out)) old new before after ending ends e = inl (run_4 (Some (Keygen s height ots out)) old new ending ends.0 e)
  command_4 (Some (AskPut words)) old new before after ending ends e = ask_put_4 words old new before after ending ends e
  command_4 (Some (AskGet words)) old new before after ending ends e = inl (run_4 (Some (AskGet words)) old new ending ends.0 e)
  command_4 (Some (Accept words)) old new before after ending ends e = inl (run_4 (Some (Accept words)) old new ending ends.0 e)
  command_4 (Some (Audit words)) old new before after ending ends e = inl (run_4 (Some (Audit words)) old new ending ends.0 e)
  command_4 (Some (Replay words)) old new before after ending ends e = inl (run_4 (Some (Replay words)) old new ending ends.0 e)
  command_4 (Some (Certify words)) old new before after ending ends e = inl (run_4 (Some (Certify words)) old new ending ends.0 e)
  command_4 (Some (JudgeLife k c v)) old new before after ending ends e = inl (run_4 (Some (JudgeLife k c v)) old new ending ends.0 e)
  command_4 (Some (Forgery words)) old new before after ending ends e = inl (run_4 (Some (Forgery words)) old new ending ends.0 e)
