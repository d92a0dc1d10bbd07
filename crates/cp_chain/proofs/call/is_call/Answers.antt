use Rattle.std.proofs.Common.{arith}
use Rattle.cp_bytes.specs.Fields.{IsBytes}
use Rattle.cp_chain.proofs.Calls.{too_short, other_client, other_nonce}
use Rattle.cp_chain.proofs.call.is_call.Goals as goal
use Rattle.cp_chain.proofs.call.is_call.Goals.{then-text-lt-VERSION-via-then-text-lt-VERSION, then-text-lt-VERSION-via-else-text-lt-VERSION+then-not-starts_with, then-text-lt-VERSION-via-else-text-lt-VERSION+else-not-starts_with+then-not-starts_with-2}

pub returns-then-text-lt-VERSION : goal.returns-then-text-lt-VERSION
returns-then-text-lt-VERSION c =
    let bytes : IsBytes c.args.text.now = λ i. omega (arith, c.type_inv.text i) in
    elim c.then-text-lt-VERSION.branch [
      | then-text-lt-VERSION-via-then-text-lt-VERSION w ↦ too_short c.args.client c.args.nonce c.args.text.now bytes w.if-text-lt-VERSION.true
      | then-text-lt-VERSION-via-else-text-lt-VERSION+then-not-starts_with w ↦
          other_client c.args.client c.args.nonce c.args.text.now w.to_be_bytes.result w.starts_with.result bytes w.to_be_bytes.ensures w.starts_with.ensures.value w.if-not-starts_with.true
      | then-text-lt-VERSION-via-else-text-lt-VERSION+else-not-starts_with+then-not-starts_with-2 w ↦
          other_nonce c.args.client c.args.nonce c.args.text.now w.to_be_bytes-else-not-starts_with.result w.starts_with-else-not-starts_with.result bytes w.to_be_bytes-else-not-starts_with.ensures w.starts_with-else-not-starts_with.ensures.value w.if-not-starts_with-2.true
    ]
