use Rattle.std.proofs.Common.{◌∙◌, ℕ, ◌-◌, min, take, List, Ok, Err, IsTrue, length, ap, sym, subst}
use Rattle.key_vault.proofs.CallLemmas.{loads, load_settles, read_front}
use Rattle.key_vault.proofs.file.VaultFile.load.Goals as goal

pub returns-in-Err-clause-loads : goal.returns-in-Err-clause-loads
returns-in-Err-clause-loads g c =
    loads g.K.Disk c.args.id c.args.leaves c.args.disk.now c.sync.new.self c.read.new.self (take c.in_ok-count.count c.read.new.into) (Err c.in-Err.fault) c.sync.result c.read.result
    c.sync.ensures.tells c.read.ensures.tells c.sync.ensures.cause.never_falls c.read.ensures.cause.never_falls
    c.in_ok-sync.ensures.durable c.sync.ensures.seen c.sync.ensures.crash c.sync.ensures.time
    c.read.ensures.seen c.read.ensures.crash c.read.ensures.time
    (λ told. let h = c.in_ok-count.ensures.bytes told in read_front (g.K.Disk.seen c.sync.new.self) c.read.new.into c.in_ok-count.count (h.0 ∙ ap (λ (k : ℕ). min k (length (g.K.Disk.seen c.sync.new.self) - 0)) c.read.auto.into) h.1) c.in-Err.ensures.answer

pub returns-in-Ok-clause-loads : goal.returns-in-Ok-clause-loads
returns-in-Ok-clause-loads g c =
    loads g.K.Disk c.args.id c.args.leaves c.args.disk.now c.sync.new.self c.read.new.self (take c.in_ok-count.count c.read.new.into) (Ok c.in-Ok.found.reserved) c.sync.result c.read.result
    c.sync.ensures.tells c.read.ensures.tells c.sync.ensures.cause.never_falls c.read.ensures.cause.never_falls
    c.in_ok-sync.ensures.durable c.sync.ensures.seen c.sync.ensures.crash c.sync.ensures.time
    c.read.ensures.seen c.read.ensures.crash c.read.ensures.time
    (λ told. let h = c.in_ok-count.ensures.bytes told in read_front (g.K.Disk.seen c.sync.new.self) c.read.new.into c.in_ok-count.count (h.0 ∙ ap (λ (k : ℕ). min k (length (g.K.Disk.seen c.sync.new.self) - 0)) c.read.auto.into) h.1) c.in-Ok.ensures.answer

pub returns-in-Ok-clause-settled : goal.returns-in-Ok-clause-settled
returns-in-Ok-clause-settled g c =
    load_settles g.K.Disk c.args.id c.args.leaves c.in-Ok.found.reserved c.in-Ok.found.gate c.args.disk.now c.read.new.self (take c.in_ok-count.count c.read.new.into)
    (returns-in-Ok-clause-loads g c)
    (λ told. let h = c.in_ok-count.ensures.bytes (subst IsTrue (sym c.sync.ensures.tells) told) in read_front (g.K.Disk.seen c.sync.new.self) c.read.new.into c.in_ok-count.count (h.0 ∙ ap (λ (k : ℕ). min k (length (g.K.Disk.seen c.sync.new.self) - 0)) c.read.auto.into) h.1 ∙ ap (λ (l : List ℕ). take 129 l) (c.sync.ensures.seen told))
    c.in-Ok.ensures.found.2 c.in-Ok.ensures.found.1 c.in-Ok.ensures.found.0
