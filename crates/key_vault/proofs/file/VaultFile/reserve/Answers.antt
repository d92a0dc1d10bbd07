use Rattle.std.proofs.Common.{◌∙◌, ℕ, ap, sym, subst, arith}
use Rattle.key_vault.specs.Ranges.{Range}
use Rattle.key_vault.specs.Calls.{IsSettled}
use Rattle.key_vault.proofs.CallLemmas.{reserve_moments, reserve_file, reserve_settles}
use Rattle.key_vault.proofs.file.VaultFile.reserve.Goals as goal

pub returns-in-Err-clause-reserves : goal.returns-in-Err-clause-reserves
returns-in-Err-clause-reserves g c = record {
  range = tt;
  owner = tt;
  over = omega (arith, c.in-Some.ensures.0, c.in-Some.ensures.1);
  untouched = tt;
  file = λ told. tt;
  number_is = λ told. tt;
  durable = λ told. tt;
  any_moment = reserve_moments g.K.Disk c.args.self.id c.slot-bytes.result c.args.self.reserved c.args.n c.in-Some.next c.args.self.gate c.other_slot-other.result c.args.disk.now c.write_in_order.new.disk
      c.in-Some.ensures.2 c.slot-bytes.ensures c.in-Some.ensures.0 c.other_slot-other.ensures c.requires.settled c.write_in_order.ensures.tells c.write_in_order.ensures.any_moment;
  tells = c.write_in_order.ensures.tells;
  never_falls = c.write_in_order.ensures.cause.never_falls;
  failed = λ is. c.in-Err.ensures.cause.failed;
}

pub returns-in-Ok-clause-reserves : goal.returns-in-Ok-clause-reserves
returns-in-Ok-clause-reserves g c = record {
  range = (ap (λ (r : Range). r.from) c.new-range.ensures, ap (λ (r : Range). r.to) c.new-range.ensures ∙ c.in-Some.ensures.0);
  owner = ap (λ (r : Range). r.key) c.new-range.ensures;
  over = omega (arith, c.in-Some.ensures.0, c.in-Some.ensures.1);
  untouched = tt;
  file = λ told. reserve_file g.K.Disk c.args.self.id c.slot-bytes.result c.args.self.reserved c.args.n c.in-Some.next c.args.self.gate c.other_slot-other.result c.args.disk.now c.write_in_order.new.disk
      c.in-Some.ensures.2 c.slot-bytes.ensures c.in-Some.ensures.0 c.other_slot-other.ensures c.requires.settled c.write_in_order.ensures.tells told (c.in-Ok.ensures.file told);
  number_is = λ told. (reserve_settles g.K.Disk c.args.self.id c.slot-bytes.result c.args.self.reserved c.args.n c.in-Some.next c.args.self.gate c.other_slot-other.result c.args.disk.now c.write_in_order.new.disk
      c.in-Some.ensures.2 c.slot-bytes.ensures c.in-Some.ensures.0 c.other_slot-other.ensures c.requires.settled c.write_in_order.ensures.tells told
      (reserve_file g.K.Disk c.args.self.id c.slot-bytes.result c.args.self.reserved c.args.n c.in-Some.next c.args.self.gate c.other_slot-other.result c.args.disk.now c.write_in_order.new.disk
      c.in-Some.ensures.2 c.slot-bytes.ensures c.in-Some.ensures.0 c.other_slot-other.ensures c.requires.settled c.write_in_order.ensures.tells told (c.in-Ok.ensures.file told)) (c.in-Ok.ensures.durable told)).reserved;
  durable = c.in-Ok.ensures.durable;
  any_moment = reserve_moments g.K.Disk c.args.self.id c.slot-bytes.result c.args.self.reserved c.args.n c.in-Some.next c.args.self.gate c.other_slot-other.result c.args.disk.now c.write_in_order.new.disk
      c.in-Some.ensures.2 c.slot-bytes.ensures c.in-Some.ensures.0 c.other_slot-other.ensures c.requires.settled c.write_in_order.ensures.tells c.write_in_order.ensures.any_moment;
  tells = c.write_in_order.ensures.tells;
  never_falls = c.write_in_order.ensures.cause.never_falls;
  failed = λ is. absurd (cc is);
}

pub returns-in-Ok-clause-settled : goal.returns-in-Ok-clause-settled
returns-in-Ok-clause-settled g c = λ told.
    subst (λ (k : ℕ). IsSettled g.K.Disk c.write_in_order.new.disk c.args.self.id k c.other_slot-other.result) (sym c.in-Some.ensures.0)
    (reserve_settles g.K.Disk c.args.self.id c.slot-bytes.result c.args.self.reserved c.args.n c.in-Some.next c.args.self.gate c.other_slot-other.result c.args.disk.now c.write_in_order.new.disk
    c.in-Some.ensures.2 c.slot-bytes.ensures c.in-Some.ensures.0 c.other_slot-other.ensures c.requires.settled c.write_in_order.ensures.tells told
    (reserve_file g.K.Disk c.args.self.id c.slot-bytes.result c.args.self.reserved c.args.n c.in-Some.next c.args.self.gate c.other_slot-other.result c.args.disk.now c.write_in_order.new.disk
    c.in-Some.ensures.2 c.slot-bytes.ensures c.in-Some.ensures.0 c.other_slot-other.ensures c.requires.settled c.write_in_order.ensures.tells told (c.in-Ok.ensures.file told)) (c.in-Ok.ensures.durable told))
