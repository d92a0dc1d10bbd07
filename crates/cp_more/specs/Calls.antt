-- How the commands of this crate end by themselves: other words than a command's own end it with the usage.
use Rattle.std.specs.Prelude.{◌≡◌, Option, Some}
use Rattle.cp_commands.specs.Commands.{Command}
use Rattle.cp_commands.specs.Commands.Command.{Certify, JudgeLife, Forgery}
use Rattle.cp_endings.specs.Endings.{Outcome, usage}
use Rattle.cp_endings.specs.Folders.{Files}
use Rattle.cp_more.specs.Certifying.{CertifyEnds}
use Rattle.cp_more.specs.Forging.{ForgeryEnds}
use Rattle.cp_more.specs.LifeJudging.{JudgeLifeEnds}

abbrev pub IsRefused : Files → Files → Outcome → Type 0
IsRefused old new ending = (ending ≡ usage) × (new ≡ old)

abbrev pub CertifyCall : Option Command → Files → Files → Outcome → Type 0
CertifyCall (Some (Certify words)) old new ending = CertifyEnds words old new ending
CertifyCall command old new ending = IsRefused old new ending

abbrev pub JudgeLifeCall : Option Command → Files → Files → Outcome → Type 0
JudgeLifeCall (Some (JudgeLife key certificate evidence)) old new ending = JudgeLifeEnds key certificate evidence old new ending
JudgeLifeCall command old new ending = IsRefused old new ending

abbrev pub ForgeryCall : Option Command → Files → Files → Outcome → Type 0
ForgeryCall (Some (Forgery words)) old new ending = ForgeryEnds words old new ending
ForgeryCall command old new ending = IsRefused old new ending
