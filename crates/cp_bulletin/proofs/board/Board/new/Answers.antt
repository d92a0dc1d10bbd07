use Rattle.std.proofs.Common.{refl, sym, ap, ◌∙◌, subst, length, ◌≡◌, ◌+◌, []}
use Rattle.std.specs.List.{All}
use Rattle.std.proofs.lemmas.List.{length-append}
use Rattle.std.proofs.lemmas.List.Elements.{All-append}
use Rattle.cp_bulletin.specs.Texts.{texts_of}
use Rattle.cp_bulletin.proofs.Steps.{admits, all_one}
use Rattle.cp_bulletin.proofs.board.Board.new.Goals as goal

pub reader-requires : goal.reader-requires
reader-requires g c = admits (λ s. texts_of s.texts.items)

pub loop-preserved : goal.loop-preserved
loop-preserved g c = let i = c.loop.invariant in let more = c.push_reserved.ensures.items in (
  refl,
  ap (λ l. length l) more ∙ (length-append c.loop.all.items _ ∙ ap (λ n. n + 1) i.1),
  subst (All (λ s. (s.texts ≡ []) × (s.met ≡ []))) (sym more) (All-append (λ s. (s.texts ≡ []) × (s.met ≡ [])) c.loop.all.items _ i.2 (all_one (λ s. (s.texts ≡ []) × (s.met ≡ [])) _ (ap texts_of c.new-in-Ok.ensures.items, refl))),
  c.push_reserved.ensures.capacity ∙ i.3,
)
