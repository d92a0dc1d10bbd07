use Rattle.std.proofs.Common.{ℕ, List, ◌++◌, ◌+◌, ◌-◌, ap₂, ◌∙◌, arith}
use Rattle.cp_bytes.specs.Fields.{part}
use Rattle.lms_tree.specs.Secret.{signature}
use Rattle.cp_client.specs.Asking.{put_body_text}
use Rattle.cp_client.proofs.Written.{signed_over}
use Rattle.cp_client.proofs.asking.ask_put.Goals as goal

-- the signature stands in place of the zeros
pub returns-clause-body : goal.returns-clause-body
unfolding put_body_text
returns-clause-body c =
    let over = signed_over c.text-text.result c.sign_into.new.out c.args.content.now c.in_ok-body.body.items c.deref_mut.result.now c.in_ok-body.body.len c.sig_len-size.result (112 + c.sig_len-size.result - 112) c.in_ok-body.ensures c.deref_mut.ensures.value c.in_ok-body.body.ok.0 (omega arith) (omega arith) (omega arith) in
    let signed = c.sign_into.ensures.bytes ∙ ap₂ (λ (leaf : ℕ) (text : List ℕ). signature c.args.key.now leaf text) c.in-Some.ensures.0 c.text-text.ensures in
    over ∙ ap₂ (λ (text sig : List ℕ). part text ++ (part sig ++ c.args.content.now)) c.text-text.ensures signed
