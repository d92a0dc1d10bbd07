use Rattle.std.proofs.Common.{ℕ, List, ◌≡◌, ◌<◌, ◌+◌, ◌++◌, ◌∷◌, [], take, length, get_or, sym, ap, subst, ◌∙◌, append_assoc, arith}
use Rattle.std.proofs.lemmas.List.{append-nil, take_all, take_more}
use Rattle.cp_core.specs.declared.item.Item.{Item}
use Rattle.cp_shard.specs.Gathered.{Gathers}
use Rattle.cp_shard.proofs.gathering.add_rows.Goals as goal

-- the first item more
one_more : (front xs : List Item) (x : Item) (i : ℕ) → i < length xs → x ≡ get_or xs i x → (front ++ take i xs) ++ x ∷ [] ≡ front ++ take (i + 1) xs
one_more front xs x i lt is = append_assoc front (take i xs) (x ∷ []) ∙ ap (λ l. front ++ l) (ap (λ y. take i xs ++ y ∷ []) is ∙ sym (take_more xs i x lt))

pub loop-i-init : goal.loop-i-init
loop-i-init c = λ k n front next holds. subst (λ l. Gathers l n c.args.blocks.now) (sym (append-nil front)) holds

pub loop-i-preserved : goal.loop-i-preserved
loop-i-preserved c = λ k n front next holds.
    let xs : List Item = c.args.rows.now in
    let x : Item = c.index-rows-i.result in
    subst (λ l. Gathers l n c.add_row.new.blocks) (one_more front xs x c.loop-i.i c.loop-i-test.true c.index-rows-i.is)
    (c.in_ok-add_row.ensures k n (front ++ take c.loop-i.i xs) (rw c.index-rows-i.is (next c.loop-i.i x _ c.loop-i-test.true)) (c.loop-i.invariant k n front next holds))

pub returns : goal.returns
returns c = λ k n front next holds.
    let xs : List Item = c.args.rows.now in
    let all : take c.loop-i.i xs ≡ xs = take_all c.loop-i.i xs (omega arith) in
    subst (λ l. Gathers (front ++ l) n c.loop-i.blocks) all (c.loop-i.invariant k n front next holds)
