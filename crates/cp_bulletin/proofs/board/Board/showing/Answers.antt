use Rattle.std.proofs.Common.{drop, map, ap, ◌∙◌, ◌++◌}
use Rattle.cp_bulletin.specs.Texts.{texts_of, arc_contents}
use Rattle.cp_bulletin.proofs.Steps.{shows, fold_adds, match_map}
use Rattle.cp_bulletin.proofs.board.Board.showing.Goals as goal

pub publish_as-writer-requires : goal.publish_as-writer-requires
publish_as-writer-requires g c next is = let w = c.self.inside.writer in let more = is ∙ fold_adds arc_contents (texts_of w.desk.shown.value.texts.items) (drop w.behind w.log.items) in
    shows (λ s. texts_of s.texts.items) _ _ w.desk.shown.value next (map arc_contents (drop w.behind w.log.items), more)

pub returns : goal.returns
returns g c = let w = c.self.inside.writer in match_map c.publish_as-writer.result.1 _ _ _ _
    (λ _ h. (h.0 ∙ (fold_adds arc_contents (texts_of w.desk.shown.value.texts.items) (drop w.behind w.log.items) ∙ (λ i. (c.self.view_is i).texts ++ (c.self.view_is i).refused)), ap texts_of h.1))
    (λ _ h. (λ i. record { texts = texts_of ((h.0 i).texts.items); refused = texts_of (h.1 i) }) ∙ c.self.view_is)
    c.publish_as-writer.ensures.values
