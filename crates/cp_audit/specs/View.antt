-- What contracts see of the code's values.
use Rattle.std.specs.Prelude.{Option, option_map}
use Rattle.cp_evidence.specs.Material as material
use Rattle.cp_evidence.specs.View.{signed_closing_view}
use Rattle.cp_evidence.specs.declared.before.SignedClosing.{SignedClosing}
use Rattle.cp_audit.specs.declared.material.Material.{Material}
use Rattle.cp_audit.specs.declared.what.What.{What}
use Rattle.cp_audit.specs.declared.what.What.TheVariants.{Families, ClosingBefore, Closing, TableBefore, Table, LogText, Log}

abbrev pub material_view : Material → material.Material
material_view m = record { key = m.key; epoch = m.epoch; families = m.families.now; before = m.before.now; closing = m.closing.now; table_before = m.table_before.now; table = m.table.now; log = m.log.now }

abbrev pub what_view : What → material.What
what_view Families = material.What.FamiliesList
what_view ClosingBefore = material.What.ClosingBefore
what_view Closing = material.What.ClosingItself
what_view TableBefore = material.What.TableBefore
what_view Table = material.What.TableItself
what_view LogText = material.What.LogText
what_view (Log block) = material.What.LogOf block

-- a closing that may be there
abbrev pub signed_view : Option SignedClosing → Option material.SignedClosing
signed_view closing = option_map signed_closing_view closing
