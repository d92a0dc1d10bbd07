-- In each command the reads come first, and nothing but its outputs changes.
use Rattle.std.proofs.Common.{◌≡◌, inl, inr, ℕ, List, Option, Some, None, ap, ◌∙◌}
use Rattle.cp_outside.specs.declared.disk.Disk as disk
use Rattle.cp_commands.specs.Commands.{Command}
use Rattle.cp_commands.specs.Commands.Command.{Judge, Verify, Keygen, AskPut, AskGet, Accept, Audit, Replay, Certify, JudgeLife, Forgery}
use Rattle.cp_endings.specs.Endings.{Outcome, fault, unprinted_status}
use Rattle.cp_endings.specs.Reports.{Reports}
use Rattle.cp_endings.specs.Folders.{Files, KeepsAll, ReadsFirst}
use Rattle.cp_tool.specs.Outputs.{IsOutput}
use Rattle.cp_tool.specs.PutRuns.{CommandEnds, TakesFirst}

module _ {K : Type 0} (g : disk.Ghosts K) (old new : Files) (before after : K) (ending : Outcome) where
  -- a command that leaves the vault's disk
  left_alone : ReadsFirst old new ending → after ≡ before → TakesFirst g old new before after ending
  left_alone (inl stays) same = inl stays
  left_alone (inr failed) same = inr (failed.0, failed.1, same)

  takes_first : (command : Option Command) → CommandEnds g command old new before after ending → TakesFirst g old new before after ending
  takes_first None ends = inl (ap (λ (f : Files). f.read_faults) ends.0.1)
  takes_first (Some (Judge k e)) ends = left_alone ends.0.reads_first ends.1
  takes_first (Some (Verify k t s)) ends = left_alone ends.0.reads_first ends.1
  takes_first (Some (Keygen s height ots out)) ends = left_alone ends.0.reads_first ends.1
  takes_first (Some (AskPut words)) ends = ends.reads_first
  takes_first (Some (AskGet words)) ends = left_alone ends.0.reads_first ends.1
  takes_first (Some (Accept words)) ends = left_alone ends.0.reads_first ends.1
  takes_first (Some (Audit words)) ends = left_alone ends.0.reads_first ends.1
  takes_first (Some (Replay words)) ends = left_alone ends.0.reads_first ends.1
  takes_first (Some (Certify words)) ends = left_alone ends.0.reads_first ends.1
  takes_first (Some (JudgeLife k c e)) ends = left_alone ends.0.reads_first ends.1
  takes_first (Some (Forgery words)) ends = left_alone ends.0.reads_first ends.1

  pub outputs_alone : (command : Option Command) → CommandEnds g command old new before after ending → (name : List ℕ) → ¬ IsOutput command name → new.file name ≡ old.file name
  outputs_alone None ends name other = ap (λ (f : Files). f.file name) ends.0.1
  outputs_alone (Some (Judge k e)) ends name other = ends.0.kept name
  outputs_alone (Some (Verify k t s)) ends name other = ends.0.kept name
  outputs_alone (Some (Keygen s height ots out)) ends name other = ends.0.others name other
  outputs_alone (Some (AskPut words)) ends name other = ends.others name other
  outputs_alone (Some (AskGet words)) ends name other = ends.0.others name other
  outputs_alone (Some (Accept words)) ends name other = ends.0.others name (λ out. other (inl out)) (λ content. other (inr content))
  outputs_alone (Some (Audit words)) ends name other = ends.0.others name other
  outputs_alone (Some (Replay words)) ends name other = ends.0.others name other
  outputs_alone (Some (Certify words)) ends name other = ends.0.others name other
  outputs_alone (Some (JudgeLife k c e)) ends name other = ends.0.kept name
  outputs_alone (Some (Forgery words)) ends name other = ends.0.kept name

  pub read_failed : (command : Option Command) (held now : Option (List ℕ)) (first last status : ℕ) → CommandEnds g command old new before after ending
      → Reports held now first last ending status → (new.read_faults ≡ old.read_faults → ⊥) → (status ≡ 4) × (after ≡ before) × KeepsAll old new
  read_failed command held now first last status ends reports moved = go (takes_first command ends)
    where
      status_is : Reports held now first last ending status → ending ≡ fault → status ≡ 4
      status_is (inl prints) same = prints.answers ∙ ap (λ (o : Outcome). o.status) same
      status_is (inr fails) same = fails.answers ∙ ap unprinted_status same

      go : TakesFirst g old new before after ending → (status ≡ 4) × (after ≡ before) × KeepsAll old new
      go (inl stays) = absurd (moved stays)
      go (inr failed) = (status_is reports failed.0, failed.2, failed.1)
