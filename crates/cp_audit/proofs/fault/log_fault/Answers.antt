use Rattle.std.proofs.Common.{◌∙◌}
use Rattle.std.specs.Prelude.{map}
use Rattle.cp_audit.specs.Parts.{part_view, frame_in}
use Rattle.cp_audit.proofs.FaultLemmas.{fault_is, reaching_rises}
use Rattle.cp_audit.proofs.fault.log_fault.Goals as goal

pub returns : goal.returns
returns c =
    c.least.ensures ∙ fault_is (frame_in c.args.frames.now) c.args.frames.now.before c.args.frames.now.after (map part_view c.args.parts.now) (λ b texts h. reaching_rises (frame_in c.args.frames.now b) texts h) c.first_lacking.result c.first_astray.result c.first_lacking.ensures c.first_astray.ensures
