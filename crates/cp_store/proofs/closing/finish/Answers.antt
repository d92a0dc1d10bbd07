use Rattle.std.proofs.Common.{◌∙◌, Some, sym, ap}
use Rattle.cp_store.proofs.Freezing.{at_start, is_full, finished}
use Rattle.cp_store.proofs.closing.finish.Goals as goal

pub seal-requires : goal.seal-requires
seal-requires c = is_full c.freeze_all.new.shards.items c.freeze_all.new.closer c.args.epoch (record {
  store = c.requires.store;
  state = c.requires.state;
  drawn = c.requires.drawn;
  fits = c.requires.fits;
  few = c.requires.few;
  frozen = c.in_ok-freeze_all.ensures c.requires.store c.requires.state c.requires.drawn c.requires.fits c.requires.few c.requires.frozen;
})

pub returns : goal.returns
returns c = λ s st n fits few start.
    finished s st c.freeze_all.new.shards.items c.freeze_all.new.closer c.seal.new.self c.published.new.self n c.args.epoch c.in_ok-sealed.sealed fits (at_start s st c.args.shards.now.items c.args.closer.now n c.args.epoch start) (c.in_ok-freeze_all.ensures s st n fits few start)
    c.in_ok-seal.ensures.sealed (c.sealed.ensures ∙ ap Some (sym c.in_ok-sealed.ensures)) c.published.ensures
