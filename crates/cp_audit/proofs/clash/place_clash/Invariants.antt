use Rattle.std.proofs.Common.{[]}
use Rattle.sha2.specs.Sha256.{sha256}
use Rattle.cp_audit.specs.Firsts.{kept_in, place_cmp, place_key, same_by}
use Rattle.cp_audit.proofs.PassLemmas.{Passes}
use Rattle.cp_audit.proofs.clash.place_clash.Given as goal

abbrev pub invariant-loop-x : goal.invariant-loop-x
invariant-loop-x l = Passes (same_by place_cmp) (place_key (sha256 l.store.key)) [] l.xs l.x-index (kept_in place_cmp l.firsts)
