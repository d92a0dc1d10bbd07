use Rattle.std.proofs.Common.{◌∙◌, List, ap, arith, refl}
use Rattle.cp_outside.specs.MemDisks.{Synced, made_calls, written_by}
use Rattle.cp_outside.specs.MemDiskLaws.{seen_is_left}
use Rattle.cp_outside.specs.declared.disk_call.DiskCall.{DiskCall}
use Rattle.cp_outside.specs.declared.disk_call.DiskCall.TheVariants.{Sync}
use Rattle.cp_outside.proofs.MemDiskLemmas.{made_synced, written_pushed, replayed_on, synced_among, synced_only, elapses_to}
use Rattle.cp_outside.proofs.mem_disk.MemDiskDisk.sync.Goals as goal

pub invariant_of-self-2-clause-replayed : goal.invariant_of-self-2-clause-replayed
invariant_of-self-2-clause-replayed c =
    replayed_on c.args.self.now.start.items c.args.self.now.content.items c.args.self.now.content.items _ _ Synced c.args.self.now.replayed
    (ap (λ (cs : List DiskCall). made_calls cs c.args.self.now.bytes.items) c.note.ensures.items ∙ made_synced c.args.self.now.calls.items c.args.self.now.bytes.items c.args.self.now.written) refl

pub invariant_of-self-2-clause-written : goal.invariant_of-self-2-clause-written
invariant_of-self-2-clause-written c = omega (arith, ap written_by c.note.ensures.items, written_pushed c.args.self.now.calls.items Sync, c.args.self.now.written)

pub returns-clause-durable : goal.returns-clause-durable
returns-clause-durable c = synced_only c.args.self.now.start.items c.args.self.now.content.items _ _ c.args.self.now.replayed (ap (λ (cs : List DiskCall). made_calls cs c.args.self.now.bytes.items) c.note.ensures.items ∙ made_synced c.args.self.now.calls.items c.args.self.now.bytes.items c.args.self.now.written)

pub returns-clause-crash : goal.returns-clause-crash
returns-clause-crash c = synced_among c.args.self.now.start.items c.args.self.now.content.items _ _ c.args.self.now.replayed (seen_is_left _ _ _ c.args.self.now.replayed) (ap (λ (cs : List DiskCall). made_calls cs c.args.self.now.bytes.items) c.note.ensures.items ∙ made_synced c.args.self.now.calls.items c.args.self.now.bytes.items c.args.self.now.written)

pub returns-clause-time : goal.returns-clause-time
returns-clause-time c = elapses_to c.args.self.now.start.items _ _ Synced _ (ap (λ (cs : List DiskCall). made_calls cs c.args.self.now.bytes.items) c.note.ensures.items ∙ made_synced c.args.self.now.calls.items c.args.self.now.bytes.items c.args.self.now.written)
