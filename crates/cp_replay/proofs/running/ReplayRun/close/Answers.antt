use Rattle.std.proofs.Common.{◌≡◌, Err, refl, ap, subst, ◌∙◌, arith}
use Rattle.cp_core.specs.Machine.{SpellsNext}
use Rattle.cp_store.specs.Closes.{Closes, IsClosed}
use Rattle.cp_replay.specs.Replay.{enveloped}
use Rattle.cp_replay.proofs.Steps.{closed_follows, refused_follows, sealed_leaf}
use Rattle.cp_replay.proofs.running.ReplayRun.close.Goals as goal

pub epoch_files-requires : goal.epoch_files-requires
epoch_files-requires c =
    let w = c.requires.follows in
    let next = c.args.next in
    let spells : SpellsNext next = subst SpellsNext c.in_ok-next_families.ensures.text c.in_ok-next_families.ensures.spells in
    let closes : Closes c.args.self.store c.in_ok-store.store next c.in_ok-store.done = subst (λ n. Closes c.args.self.store c.in_ok-store.store n c.in_ok-store.done) c.in_ok-next_families.ensures.text c.in_ok-store.ensures.closes in
    let closed : IsClosed c.args.self.store c.in_ok-store.store next c.in-Ok.sealed = subst (λ d. Closes c.args.self.store c.in_ok-store.store next d) c.in-Ok.is closes in
    omega (arith, sealed_leaf c.args.self.store.store c.args.self w.0 next c.in_ok-store.store c.in-Ok.sealed w.1 spells closed, c.requires.leaves)

pub returns-in_ok-print_refused-in-Err : goal.returns-in_ok-print_refused-in-Err
returns-in_ok-print_refused-in-Err c p f =
    let next = c.args.next in
    let closes : Closes c.args.self.store c.in_ok-store.store next c.in_ok-store.done = subst (λ n. Closes c.args.self.store c.in_ok-store.store n c.in_ok-store.done) c.in_ok-next_families.ensures.text c.in_ok-store.ensures.closes in
    let r : Closes c.args.self.store c.in_ok-store.store next (Err c.in-Err.why) = subst (λ d. Closes c.args.self.store c.in_ok-store.store next d) c.in-Err.is closes in
    refused_follows c.args.self.store.store c.args.key.now c.args.self _ p next c.in-Err.why f r.0 r.1
    (record { store = ap (λ t. t.store) r.0; id = refl; list = refl; epochs = refl; named = refl }) c.in_ok-print_refused-in-Err.ensures refl

pub returns-in_ok-add_files-in-Ok : goal.returns-in_ok-add_files-in-Ok
returns-in_ok-add_files-in-Ok c p f =
    let next = c.args.next in
    let spells : SpellsNext next = subst SpellsNext c.in_ok-next_families.ensures.text c.in_ok-next_families.ensures.spells in
    let closes : Closes c.args.self.store c.in_ok-store.store next c.in_ok-store.done = subst (λ n. Closes c.args.self.store c.in_ok-store.store n c.in_ok-store.done) c.in_ok-next_families.ensures.text c.in_ok-store.ensures.closes in
    let closed : IsClosed c.args.self.store c.in_ok-store.store next c.in-Ok.sealed = subst (λ d. Closes c.args.self.store c.in_ok-store.store next d) c.in-Ok.is closes in
    let sealed = c.in-Ok.sealed in
    let files = subst (λ fs. c.in_ok-files-in-Ok.files ≡ record { families = fs; closing = enveloped c.args.key.now sealed.leaf sealed.text; table = sealed.table; log = sealed.log }) c.in_ok-families.ensures.text c.in_ok-files-in-Ok.ensures in
    closed_follows c.args.self.store.store c.args.key.now c.args.self _ p next sealed c.epoch-named.result c.in_ok-files-in-Ok.files f spells closed refl c.next_or.ensures c.epoch-named.ensures.running refl
    c.in_ok-print_closed-in-Ok.ensures refl files c.in_ok-add_files-in-Ok.ensures
