use Rattle.std.proofs.Common.{◌∙◌, ap}
use Rattle.cp_statements.specs.Attestation.{attestation_text}
use Rattle.cp_statements.specs.View.{entry_view}
use Rattle.cp_tips.specs.View.{tip_view}
use Rattle.cp_core.proofs.BookingLemmas.{booked_is}
use Rattle.cp_core.proofs.booking.new_call.Goals as goal

pub returns-clause-booked : goal.returns-clause-booked
returns-clause-booked c =
    c.new.ensures ∙ booked_is c.args.store.now c.args.items.now c.args.contents.now c.args.request.now c.args.leaf (entry_view c.new_entry-entry.result) c.block.result (tip_view c.tip_of.result) c.text-signed.result c.in_ok-content.content
    c.new_entry-entry.ensures c.block.ensures c.tip_of.ensures (c.text-signed.ensures ∙ ap attestation_text c.attested.ensures) c.in_ok-content.ensures
