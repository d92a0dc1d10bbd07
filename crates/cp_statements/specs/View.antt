-- What contracts see of the code's values.
use Rattle.std.specs.Prelude.{ℕ}
use Rattle.cp_statements.specs.PutRequest as put_request
use Rattle.cp_statements.specs.GetRequest as get_request
use Rattle.cp_statements.specs.CloseOrder as close_order
use Rattle.cp_statements.specs.CloseOrder2 as close_order2
use Rattle.cp_statements.specs.Attestation as attestation
use Rattle.cp_statements.specs.Closing as closing
use Rattle.cp_statements.specs.Entry as entry
use Rattle.cp_statements.specs.Envelope as envelope
use Rattle.cp_statements.specs.declared.kind.Kind.{Kind}
use Rattle.cp_statements.specs.declared.kind.Kind.TheVariants.{Put, Get}
use Rattle.cp_statements.specs.declared.put_request.PutRequest.{PutRequest}
use Rattle.cp_statements.specs.declared.get_request.GetRequest.{GetRequest}
use Rattle.cp_statements.specs.declared.close_order.CloseOrder.{CloseOrder}
use Rattle.cp_statements.specs.declared.close_order2.CloseOrder2.{CloseOrder2}
use Rattle.cp_statements.specs.declared.attestation.Attestation.{Attestation}
use Rattle.cp_statements.specs.declared.closing.Closing.{Closing}
use Rattle.cp_statements.specs.declared.entry.Entry.{Entry}
use Rattle.cp_statements.specs.declared.envelope.Envelope.{Envelope}

-- the byte of a kind
abbrev pub kind_byte : Kind → ℕ
kind_byte Put = 1
kind_byte Get = 2

abbrev pub put_request_view : PutRequest → put_request.PutRequest
put_request_view x = record { store = x.store; epoch = x.epoch; block = x.block; client = x.client; nonce = x.nonce; version = x.version; content = x.content }

abbrev pub get_request_view : GetRequest → get_request.GetRequest
get_request_view x = record { store = x.store; epoch = x.epoch; block = x.block; client = x.client; nonce = x.nonce }

abbrev pub close_order_view : CloseOrder → close_order.CloseOrder
close_order_view x = record { store = x.store; epoch = x.epoch }

abbrev pub close_order2_view : CloseOrder2 → close_order2.CloseOrder2
close_order2_view x = record { store = x.store; epoch = x.epoch; families = x.families }

abbrev pub attestation_view : Attestation → attestation.Attestation
attestation_view x = record { store = x.store; kind = kind_byte x.kind; epoch = x.epoch; block = x.block; position = x.position; client = x.client; nonce = x.nonce; version = x.version; content = x.content; prev = x.prev; head = x.head }

abbrev pub closing_view : Closing → closing.Closing
closing_view x = record { store = x.store; epoch = x.epoch; link = x.link; families = x.families; table = x.table; rows = x.rows; entries = x.entries }

abbrev pub entry_view : Entry → entry.Entry
entry_view x = record { kind = kind_byte x.kind; epoch = x.epoch; block = x.block; position = x.position; client = x.client; nonce = x.nonce; version = x.version; content = x.content; signature = x.signature.now }

abbrev pub envelope_view : Envelope → envelope.Envelope
envelope_view x = record { text = x.text.now; signature = x.signature.now }
