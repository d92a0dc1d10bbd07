-- What the judge sees of the closing before.
use Rattle.std.specs.Prelude.{◌≡◌}
use Rattle.cp_statements.specs.Envelope.{Envelope}
use Rattle.cp_evidence.specs.Conditions as conditions
use Rattle.cp_evidence.specs.Material.{before_in, envelope_before}
use Rattle.cp_evidence.specs.View.{before_view}
use Rattle.cp_evidence.specs.declared.before.Before.{Before}

-- its closing, without the envelope
abbrev pub before_closing : Before → conditions.Before
before_closing b = before_in (before_view b)

-- the link to it is the one that this envelope gives
abbrev pub LinksAs : Envelope → Before → Type 0
LinksAs y b = conditions.link_from (envelope_before (before_view b)) (before_closing b) ≡ conditions.link_from y (before_closing b)
