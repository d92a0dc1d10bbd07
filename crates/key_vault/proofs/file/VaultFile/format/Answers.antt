use Rattle.key_vault.proofs.CallLemmas.{formats, format_settles}
use Rattle.key_vault.proofs.file.VaultFile.format.Goals as goal

pub returns-in-Err-clause-formats : goal.returns-in-Err-clause-formats
returns-in-Err-clause-formats g c =
    formats g.K.Disk c.args.id c.both_slots.result c.args.disk.now c.write_in_order.new.disk _ c.both_slots.ensures.size c.both_slots.ensures.bytes c.requires
    (λ told. tt) (λ told. tt) c.write_in_order.ensures.any_moment c.write_in_order.ensures.later c.write_in_order.ensures.tells
    (record { never_falls = c.write_in_order.ensures.cause.never_falls; failed = c.in-Err.ensures.cause.failed })

pub returns-in-Ok-clause-formats : goal.returns-in-Ok-clause-formats
returns-in-Ok-clause-formats g c =
    formats g.K.Disk c.args.id c.both_slots.result c.args.disk.now c.write_in_order.new.disk _ c.both_slots.ensures.size c.both_slots.ensures.bytes c.requires
    c.in-Ok.ensures.file c.in-Ok.ensures.durable c.write_in_order.ensures.any_moment c.write_in_order.ensures.later c.write_in_order.ensures.tells
    (record { never_falls = c.write_in_order.ensures.cause.never_falls; failed = tt })

pub returns-in-Ok-clause-settled : goal.returns-in-Ok-clause-settled
returns-in-Ok-clause-settled g c = λ told.
    format_settles g.K.Disk c.args.id c.write_in_order.new.disk c.both_slots.ensures.size ((returns-in-Ok-clause-formats g c).file told) (c.in-Ok.ensures.durable told)
    (g.K.Disk.seen c.args.disk.now) (c.requires told)
