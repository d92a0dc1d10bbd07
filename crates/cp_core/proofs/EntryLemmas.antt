-- The entry that a call would make, from the block's tip.
use Rattle.std.proofs.Common.{◌≡◌, ℕ, List, [], length, sym, ap, ◌∙◌}
use Rattle.cp_core.specs.declared.request.Request.TheVariants as ask
use Rattle.cp_statements.specs.declared.put_request.PutRequest.{PutRequest}
use Rattle.cp_statements.specs.declared.get_request.GetRequest.{GetRequest}
use Rattle.cp_chain.specs.Legal.{Put, put_at}
use Rattle.cp_core.proofs.RunningLemmas.{count_all, put_now}
use Rattle.cp_core.specs.Calls.{latest_of, new_entry}
use Rattle.cp_core.specs.Life.{rows_of}
use Rattle.cp_core.specs.Requests.{block_of}
use Rattle.cp_core.specs.Running.{tip_of}
use Rattle.cp_core.specs.declared.item.Item.{Item}
use Rattle.cp_core.specs.declared.request.Request.{Request}
use Rattle.cp_statements.specs.Entry.{Entry}
use Rattle.cp_tips.specs.Tip.{Tip}

pub put_entry : (items : List Item) (request : Request) (r : PutRequest) (signature content given : List ℕ) (tip : Tip) → request ≡ ask.Put r signature content → given ≡ signature → tip ≡ tip_of items (block_of request)
    → (let e : Entry = record { kind = 1; epoch = r.epoch; block = r.block; position = tip.count; client = r.client; nonce = r.nonce; version = r.version; content = r.content; signature = given } in e) ≡ new_entry items request
unfolding new_entry
put_entry items request r signature content given tip is same tips =
    let position : tip.count ≡ length (rows_of items r.block) = ap (λ (t : Tip). t.count) tips ∙ ap (λ (q : Request). (tip_of items (block_of q)).count) is ∙ count_all items r.block in
    ap (λ (n : ℕ). record { kind = 1; epoch = r.epoch; block = r.block; position = n; client = r.client; nonce = r.nonce; version = r.version; content = r.content; signature = given }) position
    ∙ ap (λ (s : List ℕ). record { kind = 1; epoch = r.epoch; block = r.block; position = length (rows_of items r.block); client = r.client; nonce = r.nonce; version = r.version; content = r.content; signature = s }) same
    ∙ ap (new_entry items) (sym is)

pub get_entry : (items : List Item) (request : Request) (r : GetRequest) (tip : Tip) → request ≡ ask.Get r → tip ≡ tip_of items (block_of request)
    → (let e : Entry = record { kind = 2; epoch = r.epoch; block = r.block; position = tip.count; client = r.client; nonce = r.nonce; version = tip.version; content = tip.content; signature = [] } in e) ≡ new_entry items request
unfolding new_entry
get_entry items request r tip is tips =
    let here : tip ≡ tip_of items r.block = tips ∙ ap (λ (q : Request). tip_of items (block_of q)) is in
    let position : tip.count ≡ length (rows_of items r.block) = ap (λ (t : Tip). t.count) here ∙ count_all items r.block in
    let puts : put_at tip ≡ latest_of items r.block = ap put_at here ∙ put_now items r.block in
    ap (λ (n : ℕ). record { kind = 2; epoch = r.epoch; block = r.block; position = n; client = r.client; nonce = r.nonce; version = tip.version; content = tip.content; signature = [] }) position
    ∙ ap (λ (p : Put). record { kind = 2; epoch = r.epoch; block = r.block; position = length (rows_of items r.block); client = r.client; nonce = r.nonce; version = p.version; content = p.content; signature = [] }) puts
    ∙ ap (new_entry items) (sym is)
