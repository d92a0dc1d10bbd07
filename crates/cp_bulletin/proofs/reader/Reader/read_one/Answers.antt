use Rattle.std.proofs.Common.{◌≡◌, refl, sym, ap, ◌∙◌, ◌++◌, ◌∷◌, [], arith, length}
use Rattle.std.proofs.lemmas.List.{length-append}
use Rattle.cp_bulletin.specs.Texts.{texts_of, arc_contents, contents_of}
use Rattle.cp_bulletin.proofs.Steps.{shows, starts_same, map_snoc}
use Rattle.cp_bulletin.proofs.reader.Reader.read_one.Goals as goal

pub enter_as-requires : goal.enter_as-requires
enter_as-requires c x = shows (λ s. texts_of s.texts.items) _ _ x x (starts_same _ _ refl)

pub invariant_of-result : goal.invariant_of-result
invariant_of-result c = let st = c.comes_next-is_new.ensures c.if-is_new.true in
    let list : texts_of c.push_reserved.new.self.items ≡ texts_of c.self.inside.list.items ++ contents_of c.deref.result.now ∷ [] = ap texts_of c.push_reserved.ensures.items ∙ (map_snoc arc_contents c.self.inside.list.items c.args.text ∙ ap (λ w. texts_of c.self.inside.list.items ++ contents_of w ∷ []) (sym c.deref.ensures)) in
    let met = c.self.invariant.1 in let more = c.push_reserved.ensures.items in (
      (st.0, ap (λ v. v.seen) c.leave-place.ensures.1 ∙ (c.in-Ok.ensures.1.1 ∙ (ap (λ t. texts_of t.texts.items) (sym c.get.ensures) ∙ (ap texts_of (sym c.as_slice.ensures.value) ∙ (st.1 ∙ ap (λ l. l ++ st.0) (sym list)))))),
      (let n = ap (λ l. length l) more in omega (arith, met, n, length-append c.self.inside.list.items (c.args.text ∷ []))),
    )
