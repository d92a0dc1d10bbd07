use Rattle.std.proofs.Common.{◌∙◌, ℕ, List, length, ap, ap₂, arith, length-append}
use Rattle.cp_outside.specs.MemDisks.{Wrote, made_calls, written_by}
use Rattle.cp_outside.specs.declared.disk_call.DiskCall.{DiskCall}
use Rattle.cp_outside.specs.declared.disk_call.DiskCall.TheVariants.{Write}
use Rattle.cp_outside.proofs.MemDiskLemmas.{made_wrote, written_pushed, replayed_on, wrote_follows, elapses_to}
use Rattle.cp_outside.proofs.mem_disk.MemDiskDisk.write_at.Goals as goal

pub returns-clause-crash : goal.returns-clause-crash
returns-clause-crash c = wrote_follows c.args.self.now.start.items _ _ c.args.at c.args.bytes.now (ap₂ (λ (cs : List DiskCall) (bs : List ℕ). made_calls cs bs) c.note.ensures.items c.keep.ensures.items ∙ made_wrote c.args.self.now.calls.items c.args.self.now.bytes.items c.args.bytes.now c.args.at c.args.self.now.written)

pub returns-clause-time : goal.returns-clause-time
returns-clause-time c = elapses_to c.args.self.now.start.items _ _ (Wrote c.args.at c.args.bytes.now) _ (ap₂ (λ (cs : List DiskCall) (bs : List ℕ). made_calls cs bs) c.note.ensures.items c.keep.ensures.items ∙ made_wrote c.args.self.now.calls.items c.args.self.now.bytes.items c.args.bytes.now c.args.at c.args.self.now.written)

pub invariant_of-self-2-clause-replayed : goal.invariant_of-self-2-clause-replayed
invariant_of-self-2-clause-replayed c =
    replayed_on c.args.self.now.start.items c.args.self.now.content.items c.overwrite_within.new.content.items _ _ (Wrote c.args.at c.args.bytes.now) c.args.self.now.replayed
    (ap₂ (λ (cs : List DiskCall) (bs : List ℕ). made_calls cs bs) c.note.ensures.items c.keep.ensures.items ∙ made_wrote c.args.self.now.calls.items c.args.self.now.bytes.items c.args.bytes.now c.args.at c.args.self.now.written) c.overwrite_within.ensures.items

pub invariant_of-self-2-clause-written : goal.invariant_of-self-2-clause-written
invariant_of-self-2-clause-written c =
    omega (
      arith,
      ap written_by c.note.ensures.items,
      written_pushed c.args.self.now.calls.items (Write c.args.at (length c.args.bytes.now)),
      c.args.self.now.written,
      ap length c.keep.ensures.items,
      length-append c.args.self.now.bytes.items c.args.bytes.now,
    )
