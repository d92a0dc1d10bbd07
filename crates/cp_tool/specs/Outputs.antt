-- The files that a command may write (this project's own).
use Rattle.std.specs.Prelude.{ℕ, ◌≡◌, ◌⊎◌, List, Option, Some, None}
use Rattle.cp_commands.specs.Commands.{Command}
use Rattle.cp_commands.specs.Commands.Command.{Judge, Verify, Keygen, AskPut, AskGet, Accept, Audit, Replay, Certify, JudgeLife, Forgery}
use Rattle.cp_more.specs.Certifying.{IsLifeFile}
use Rattle.cp_tool.specs.ReplayFiles.{IsReplayFile}

-- the name is one that the command's words give for what it writes, or that of a replay's file
abbrev pub IsOutput : Option Command → List ℕ → Type 0
IsOutput None name = ⊥
IsOutput (Some (Judge key evidence)) name = ⊥
IsOutput (Some (Verify key text signature)) name = ⊥
IsOutput (Some (Keygen seed height ots out)) name = name ≡ out
IsOutput (Some (AskPut words)) name = name ≡ words.out
IsOutput (Some (AskGet words)) name = name ≡ words.out
IsOutput (Some (Accept words)) name = (name ≡ words.out) ⊎ (name ≡ words.content)
IsOutput (Some (Audit words)) name = name ≡ words.out
IsOutput (Some (Replay words)) name = IsReplayFile name
IsOutput (Some (Certify words)) name = IsLifeFile words name
IsOutput (Some (JudgeLife key certificate evidence)) name = ⊥
IsOutput (Some (Forgery words)) name = ⊥
