-- What contracts see of the code's values.
use Rattle.cp_tips.specs.View.{tip_view}
use Rattle.cp_chain.specs.Frame as frame
use Rattle.cp_chain.specs.Legal as legal
use Rattle.cp_chain.specs.Log as log
use Rattle.cp_chain.specs.Rules as rules
use Rattle.cp_chain.specs.declared.put.Put.{Put}
use Rattle.cp_chain.specs.declared.rule.Rule.{Rule}
use Rattle.cp_chain.specs.declared.rule.Rule.TheVariants.{Text, Block, Epoch, Position, Latest, Version, Writer, Repeat, LastTip}
use Rattle.cp_chain.specs.declared.fault.Fault.{Fault}
use Rattle.cp_chain.specs.declared.log.LogPart.{LogPart}
use Rattle.cp_chain.specs.declared.frame.Frame.{Frame}

abbrev pub frame_view : Frame → frame.Frame
frame_view x = record { side = record { store = x.store; families = x.families; epoch = x.epoch; block = x.block; before = tip_view x.before }; after = tip_view x.after }

abbrev pub rule_view : Rule → rules.Rule
rule_view Text = rules.Rule.Text
rule_view Block = rules.Rule.Block
rule_view Epoch = rules.Rule.Epoch
rule_view Position = rules.Rule.Position
rule_view Latest = rules.Rule.Latest
rule_view Version = rules.Rule.Version
rule_view Writer = rules.Rule.Writer
rule_view Repeat = rules.Rule.Repeat
rule_view LastTip = rules.Rule.LastTip

abbrev pub fault_view : Fault → rules.Found
fault_view x = record { rule = rule_view x.rule; place = x.place; other = x.other }

abbrev pub put_view : Put → legal.Put
put_view x = record { version = x.version; content = x.content }

abbrev pub log_part_view : LogPart → log.LogPart
log_part_view x = record { block = x.block; texts = x.segment }
