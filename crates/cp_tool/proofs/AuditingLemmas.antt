-- How `audit` ends, from the verdict on what was read.
use Rattle.std.proofs.Common.{◌≡◌, ◌⊎◌, inl, inr, ℕ, ◌≤◌, true, false, List, length, Some, Result, Ok, Err, refl, sym, ap, subst, ◌∙◌, arith}
use Rattle.cp_bytes.specs.Fields.{◌>>=◌}
use Rattle.lms_tree.specs.PublicKey.{key_reads}
use Rattle.cp_evidence.specs.AuditLaws.{evidence_limit}
use Rattle.cp_evidence.specs.Audited.{audited}
use Rattle.cp_evidence.specs.Conditions.{Convicts}
use Rattle.cp_evidence.specs.Evidence.{Evidence, evidence_of}
use Rattle.cp_evidence.specs.Material.{Material}
use Rattle.cp_evidence.specs.Verdict as spec
use Rattle.cp_audit.specs.Verdicts.{GuiltyConvicts, GuiltyWithin, IsAnswer}
use Rattle.cp_audit.specs.declared.refusal.AuditRefusal.{AuditRefusal}
use Rattle.cp_audit.specs.declared.refusal.AuditRefusal.TheVariants as refusal
use Rattle.cp_audit.specs.declared.verdict.Verdict.{Verdict}
use Rattle.cp_audit.specs.declared.verdict.Verdict.TheVariants.{Clean, Guilty}
use Rattle.cp_audit.specs.declared.what.What.{What}
use Rattle.cp_tool.specs.AuditAnswers.{Answers, WritesEvidence}
use Rattle.cp_endings.specs.AuditEndings.{clean}
use Rattle.cp_tool.specs.AuditInputs.{ReadsSources, sources_view}
use Rattle.cp_tool.specs.AuditRuns.{AnswerEnds, AuditEnds, Sources, sources_of, verdict_of}
use Rattle.cp_commands.specs.AuditWords.{AuditWords}
use Rattle.cp_endings.specs.Endings.{Outcome, no_memory}
use Rattle.cp_endings.specs.Folders.{Files, KeepsAll, Stops}
use Rattle.cp_endings.specs.View.{ending_view}
use Rattle.cp_endings.proofs.InputLemmas.{stops_first}
use Rattle.cp_tool.proofs.SizeLemmas.{sources_within}
use Rattle.cp_endings.specs.declared.audit_ending.AuditEnding.TheVariants as audit_ending
use Rattle.cp_tool.specs.declared.audit_sources.Sources as code
use Rattle.cp_endings.specs.declared.ending.Ending.{Ending}
use Rattle.cp_endings.specs.declared.ending.Ending.TheVariants.{Audited, BadKey}

-- ---- the verdict

module _ (sources : Sources) where
  pub unread : key_reads sources.material.key ≡ false → Answers sources (Err BadKey)
  unread e = inl (rw e refl)

  module _ (m : Material) (handed : List ℕ) (same : m ≡ sources.material) (same_too : handed ≡ sources.hand_ins) (reads : key_reads sources.material.key ≡ true) where
    here : (r : Result Verdict AuditRefusal) → IsAnswer (audited m handed) r → IsAnswer (audited sources.material sources.hand_ins) r
    here r answer = subst (λ (h : List ℕ). IsAnswer (audited sources.material h) r) same_too (subst (λ (n : Material). IsAnswer (audited n handed) r) same answer)

    pub answers : (v : Verdict) → IsAnswer (audited m handed) (Ok v) → GuiltyConvicts sources.material.key (Ok v) → GuiltyWithin (evidence_limit m handed) (Ok v) → Answers sources (Ok v)
    answers (Clean entries count aside) answer convicts short =
        let is = here (Ok (Clean entries count aside)) answer in
        rw (reads, is) refl
    answers (Guilty bytes) answer convicts short =
        let is = here (Ok (Guilty bytes)) answer in (
          is.0,
          rw (reads, is.1) refl,
          record {
            spelled = is.2;
            reads = is.3;
            convicts = convicts;
            is_short = subst (λ (h : List ℕ). length bytes ≤ evidence_limit sources.material h) same_too (subst (λ (n : Material). length bytes ≤ evidence_limit n handed) same short);
          },
        )

    pub not_given_ends : (what : What) → IsAnswer (audited m handed) (Err (refusal.NotGiven what)) → Answers sources (Err (Audited (audit_ending.NotGiven what)))
    not_given_ends what answer =
        let is = here (Err (refusal.NotGiven what)) answer in
        inl (rw (reads, is) refl)

    pub malformed_ends : (at : ℕ) → IsAnswer (audited m handed) (Err (refusal.Malformed at)) → Answers sources (Err (Audited (audit_ending.Malformed at)))
    malformed_ends at answer =
        let is = here (Err (refusal.Malformed at)) answer in
        inl (rw (reads, is) refl)

-- ---- the ending

pub audit_unread : (words : AuditWords) (old new : Files) (ending : Ending) → ReadsSources words old new (Err ending) → AuditEnds words old new (ending_view ending)
audit_unread words old new ending read = record { files = read.files; are_files = read.are_files; ends = ends read.gives; others = λ n ne. read.follows.kept n; reads_first = stops_first old new (ending_view ending) read.failed read.follows.kept }
  where
    ends : (sources_of words read.files ≡ Err (ending_view ending)) ⊎ Stops old.read_faults new.read_faults (ending_view ending)
        → AnswerEnds (sources_of words read.files >>= verdict_of) words.out old new (ending_view ending) ⊎ (Stops old.read_faults new.read_faults (ending_view ending) × KeepsAll old new)
    ends (inl refused) = inl (rw refused (refl, read.follows.kept))
    ends (inr stops) = inr (stops, read.follows.kept)

module _ (words : AuditWords) (old mid : Files) (s : code.Sources) (read : ReadsSources words old mid (Ok s)) where
  verdict_there : (r : Result (List ℕ × spec.Verdict) Outcome) → verdict_of (sources_view words.epoch s) ≡ r → sources_of words read.files >>= verdict_of ≡ r
  verdict_there r is = ap (λ (z : Result Sources Outcome). z >>= verdict_of) read.gives ∙ is

  pub audit_clean : (entries count aside : ℕ) → Answers (sources_view words.epoch s) (Ok (Clean entries count aside)) → AuditEnds words old mid (clean entries count aside)
  audit_clean entries count aside is = record {
    files = read.files;
    are_files = read.are_files;
    ends = inl (subst (λ (r : Result (List ℕ × spec.Verdict) Outcome). AnswerEnds r words.out old mid (clean entries count aside)) (sym (verdict_there _ is)) (refl, read.follows.kept));
    others = λ n ne. read.follows.kept n;
    reads_first = inl read.failed;
  }

  pub audit_refused : (ending : Ending) → Answers (sources_view words.epoch s) (Err ending) → AuditEnds words old mid (ending_view ending)
  audit_refused ending is = record { files = read.files; are_files = read.are_files; ends = ends is; others = λ n ne. read.follows.kept n; reads_first = inl read.failed }
    where
      ends : (verdict_of (sources_view words.epoch s) ≡ Err (ending_view ending)) ⊎ (ending_view ending ≡ no_memory)
          → AnswerEnds (sources_of words read.files >>= verdict_of) words.out old mid (ending_view ending) ⊎ (Stops old.read_faults mid.read_faults (ending_view ending) × KeepsAll old mid)
      ends (inl refused) = inl (subst (λ (r : Result (List ℕ × spec.Verdict) Outcome). AnswerEnds r words.out old mid (ending_view ending)) (sym (verdict_there _ refused)) (refl, read.follows.kept))
      ends (inr memory) = inr (inr memory, read.follows.kept)

  pub audit_guilty : (new : Files) (bytes : List ℕ) (ending : Outcome) → Answers (sources_view words.epoch s) (Ok (Guilty bytes))
      → ((e : Evidence) → evidence_of bytes ≡ Ok e → WritesEvidence e bytes words.out mid new ending) → mid.write_faults ≡ old.write_faults → new.read_faults ≡ mid.read_faults
      → AuditEnds words old new ending
  audit_guilty new bytes ending answer writes unwritten unread =
      let e = answer.0 in
      let spells = answer.2 in
      let wrote : WritesEvidence e bytes words.out mid new ending = writes e spells.reads in
      record {
        files = read.files;
        are_files = read.are_files;
        ends = inl (subst (λ (r : Result (List ℕ × spec.Verdict) Outcome). AnswerEnds r words.out old new ending) (sym (verdict_there _ answer.1)) (record {
          convicts = subst (Convicts s.key.items) spells.spelled spells.convicts;
          is_short = subst (λ (l : List ℕ). length l ≤ 536870912) spells.spelled (let short = spells.is_short in let limit = sources_within words read.files (sources_view words.epoch s) read.gives in omega (arith, short, limit));
          written = elim wrote.written [
            | inl w ↦ inl (w.0, λ t. w.1 (read.follows.tells ∙ t) ∙ ap (λ (b : List ℕ). Some b) spells.spelled)
            | inr f ↦ inr (f.0, omega (arith, unwritten, f.1))
          ];
        }));
        others = λ n ne. wrote.others n ne ∙ read.follows.kept n;
        reads_first = inl (unread ∙ read.failed);
      }

pub ruleset audit_ends = (audit_unread, audit_clean, audit_refused, audit_guilty)
