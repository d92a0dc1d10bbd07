-- What contracts see of how the commands on an operator's lives and on forgeries end.
use Rattle.cp_endings.specs.Endings.{Outcome}
use Rattle.cp_endings.specs.MoreEndings as endings
use Rattle.cp_endings.specs.declared.more_ending.MoreEnding.{MoreEnding}
use Rattle.cp_endings.specs.declared.more_ending.MoreEnding.TheVariants.{Certified, BadCertificate, Twins, Low, NotForgedInvalid, NotForgedKnown, LeafUsed}

abbrev pub more_ending_view : MoreEnding → Outcome
more_ending_view (Certified life) = endings.certified life
more_ending_view BadCertificate = endings.bad_certificate
more_ending_view Twins = endings.twins
more_ending_view (Low leaf chain step revealed) = endings.low leaf chain step revealed
more_ending_view NotForgedInvalid = endings.not_forged_invalid
more_ending_view NotForgedKnown = endings.not_forged_known
more_ending_view (LeafUsed leaf) = endings.leaf_used leaf
