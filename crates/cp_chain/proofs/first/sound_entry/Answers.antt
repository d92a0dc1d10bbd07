use Rattle.std.proofs.Common.{Some, None, ap, ◌∙◌}
use Rattle.std.specs.Prelude.{option_map}
use Rattle.cp_statements.specs.View.{entry_view}
use Rattle.cp_chain.specs.declared.first.TheConstants.{RULES_OF_ONE}
use Rattle.cp_chain.specs.Pass.{entry_breaks, fault_read}
use Rattle.cp_chain.specs.View.{frame_view, put_view, rule_view}
use Rattle.cp_chain.proofs.Passes.{alone_at_entry, find_view}
use Rattle.cp_chain.proofs.first.sound_entry.Goals as goal

pub returns-in_default : goal.returns-in_default
returns-in_default c = ap (fault_read (frame_view c.args.frame.now).side (put_view c.args.put.now) c.args.place) c.in_default.ensures

pub returns-in-Some : goal.returns-in-Some
returns-in-Some c =
    let s = (frame_view c.args.frame.now).side in
    let put = put_view c.args.put.now in
    let e = entry_view c.in-Ok.entry in
    let alone = ap (option_map rule_view) c.in-Some.ensures ∙ find_view rule_view (entry_breaks s put c.args.place e) RULES_OF_ONE in
    alone_at_entry s put c.args.place c.args.text.now e (Some (rule_view c.in-Some.rule)) c.in-Ok.ensures alone

pub returns-in-None : goal.returns-in-None
returns-in-None c =
    let s = (frame_view c.args.frame.now).side in
    let put = put_view c.args.put.now in
    let e = entry_view c.in-Ok.entry in
    let alone = ap (option_map rule_view) c.in-None.ensures ∙ find_view rule_view (entry_breaks s put c.args.place e) RULES_OF_ONE in
    (c.in-Ok.ensures, alone_at_entry s put c.args.place c.args.text.now e None c.in-Ok.ensures alone)
