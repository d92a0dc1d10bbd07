-- What contracts see of the code's values.
use Rattle.cp_tips.specs.Tip as tip
use Rattle.cp_tips.specs.declared.tip.Tip.{Tip}

abbrev pub tip_view : Tip → tip.Tip
tip_view x = record { count = x.count; version = x.version; content = x.content; head = x.head }
