use Rattle.std.proofs.Common.{◌≡◌, [], Err, ap, sym, subst, ◌∙◌, arith}
use Rattle.lms_tree.specs.Secret.{Secret, leaves_of}
use Rattle.cp_bytes.specs.Cursor.{Cursor}
use Rattle.cp_audit.proofs.ViewLemmas.{not_empty, is_empty}
use Rattle.cp_more.specs.Pairs.{pairs_of}
use Rattle.cp_more.specs.PairView.{pair_view}
use Rattle.cp_more.proofs.Listed.{SoFar, begin, ends_listed, ends_twice, pair_left, pair_within, refused, step}
use Rattle.cp_more.proofs.list.add_all.Goals as goal

pub loop-cut-init : goal.loop-cut-init
loop-cut-init c = record {
  whole = ap (λ (x : Cursor). x.total) c.new-cut.ensures;
  so_far = subst (λ (x : Cursor). SoFar c.args.leaves c.args.bytes.now x.rest c.args.signed.now c.args.signed.now _) (sym c.new-cut.ensures) (begin c.args.leaves c.args.bytes.now c.args.signed.now c.requires.empty);
}

pub returns-in-Err : goal.returns-in-Err
returns-in-Err c =
    let some = not_empty c.rest.result.now c.loop-cut.cut.rest c.is_empty.result c.rest.ensures c.is_empty.ensures c.loop-cut-test.true in
    subst (λ n. pairs_of n c.args.bytes.now ≡ Err c.in-Err.short.at) c.requires.leaves
    (refused c.args.leaves c.args.bytes.now c.loop-cut.cut.rest c.args.signed.now c.loop-cut.signed c.loop-cut.used c.loop-cut.cut.total c.in-Err.short.at c.loop-cut.invariant.so_far some c.loop-cut.invariant.whole c.in-Err.ensures.0 c.in-Err.ensures.1)

pub keep-requires : goal.keep-requires
keep-requires c =
    let within = pair_within c.args.leaves c.loop-cut.cut.rest (pair_view c.in-Ok.pair, c.take_pair.new.cut.rest) c.in-Ok.ensures.0 in
    let same : leaves_of c.loop-cut.signed.key ≡ leaves_of c.args.signed.now.key = ap (λ (k : Secret). leaves_of k) c.loop-cut.invariant.so_far.same_key in
    omega (arith, within, c.requires.leaves, same)

pub loop-cut-smaller : goal.loop-cut-smaller
loop-cut-smaller c = pair_left c.args.leaves c.loop-cut.cut.rest (pair_view c.in-Ok.pair, c.take_pair.new.cut.rest) c.in-Ok.ensures.0

pub loop-cut-preserved : goal.loop-cut-preserved
loop-cut-preserved c =
    let some = not_empty c.rest.result.now c.loop-cut.cut.rest c.is_empty.result c.rest.ensures c.is_empty.ensures c.loop-cut-test.true in
    record {
      whole = c.in-Ok.ensures.1 ∙ c.loop-cut.invariant.whole;
      so_far = step c.args.leaves c.args.bytes.now c.loop-cut.cut.rest c.take_pair.new.cut.rest c.args.signed.now c.loop-cut.signed c.keep.new.signed c.loop-cut.used c.in-Ok-keep.used (pair_view c.in-Ok.pair) c.loop-cut.invariant.so_far some c.in-Ok.ensures.0 c.in-Ok-keep.ensures;
    }

pub returns-in-Some : goal.returns-in-Some
returns-in-Some c =
    let done : c.loop-cut.cut.rest ≡ [] = is_empty c.rest.result.now c.loop-cut.cut.rest c.is_empty.result c.rest.ensures c.is_empty.ensures c.loop-cut-test.false in
    ends_twice c.args.leaves c.args.bytes.now c.loop-cut.cut.rest c.args.signed.now c.loop-cut.signed c.loop-cut.used c.requires.leaves done c.loop-cut.invariant.so_far c.in-Some.leaf c.in-Some.is

pub returns-in-None : goal.returns-in-None
returns-in-None c =
    let done : c.loop-cut.cut.rest ≡ [] = is_empty c.rest.result.now c.loop-cut.cut.rest c.is_empty.result c.rest.ensures c.is_empty.ensures c.loop-cut-test.false in
    ends_listed c.args.leaves c.args.bytes.now c.loop-cut.cut.rest c.args.signed.now c.loop-cut.signed c.loop-cut.used c.requires.leaves done c.loop-cut.invariant.so_far c.in-None.is
