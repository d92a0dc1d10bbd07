use Rattle.std.proofs.Common.{◌↔◌, length}
use Rattle.std.specs.Str.Parse.{AllDigits}
use Rattle.cp_http.proofs.fields.all_digits.Given as goal

abbrev pub invariant-loop-rest : goal.invariant-loop-rest
invariant-loop-rest l = AllDigits 10 l.rest ↔ AllDigits 10 l.text

abbrev pub decreases-loop-rest : goal.decreases-loop-rest
decreases-loop-rest l = length l.rest
