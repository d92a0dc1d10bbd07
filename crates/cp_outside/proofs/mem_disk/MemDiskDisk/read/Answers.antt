use Rattle.std.proofs.Common.{◌∙◌, List, ap, arith, refl}
use Rattle.cp_outside.specs.MemDisks.{Looked, made_calls, written_by}
use Rattle.cp_outside.specs.declared.disk_call.DiskCall.{DiskCall}
use Rattle.cp_outside.specs.declared.disk_call.DiskCall.TheVariants.{Read}
use Rattle.cp_outside.proofs.MemDiskLemmas.{made_looked, written_pushed, replayed_on, looked_among, elapses_to}
use Rattle.cp_outside.proofs.mem_disk.MemDiskDisk.read.Goals as goal

pub invariant_of-self-2-clause-replayed : goal.invariant_of-self-2-clause-replayed
invariant_of-self-2-clause-replayed c =
    replayed_on c.args.self.now.start.items c.args.self.now.content.items c.args.self.now.content.items _ _ Looked c.args.self.now.replayed
    (ap (λ (cs : List DiskCall). made_calls cs c.args.self.now.bytes.items) c.note.ensures.items ∙ made_looked c.args.self.now.calls.items c.args.self.now.bytes.items c.args.self.now.written) refl

pub invariant_of-self-2-clause-written : goal.invariant_of-self-2-clause-written
invariant_of-self-2-clause-written c = omega (arith, ap written_by c.note.ensures.items, written_pushed c.args.self.now.calls.items Read, c.args.self.now.written)

pub returns-clause-crash : goal.returns-clause-crash
returns-clause-crash c = looked_among c.args.self.now.start.items _ _ (ap (λ (cs : List DiskCall). made_calls cs c.args.self.now.bytes.items) c.note.ensures.items ∙ made_looked c.args.self.now.calls.items c.args.self.now.bytes.items c.args.self.now.written)

pub returns-clause-time : goal.returns-clause-time
returns-clause-time c = elapses_to c.args.self.now.start.items _ _ Looked _ (ap (λ (cs : List DiskCall). made_calls cs c.args.self.now.bytes.items) c.note.ensures.items ∙ made_looked c.args.self.now.calls.items c.args.self.now.bytes.items c.args.self.now.written)
