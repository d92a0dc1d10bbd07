use Rattle.std.proofs.Common.{◌≡◌, ◌+◌, ◌∙◌, length, subst, sym, ap, refl}
use Rattle.std.specs.Prelude.{IsTrue}
use Rattle.lms_tree.specs.Verifying.{verifies}
use Rattle.lms_tree.specs.Secret.{Secret, public_of, signature_len}
use Rattle.lms_tree.specs.Kept.{HoldsNodes}
use Rattle.lms_tree.specs.Inside.{secret_of}
use Rattle.lms_tree.proofs.Climbing.{signature_verifies}
use Rattle.lms_tree.proofs.Written.{written}
use Rattle.lms_tree.proofs.private_key.PrivateKey.sign_into.Goals as goal

pub returns-clause-bytes : goal.returns-clause-bytes
returns-clause-bytes c =
    let holds : HoldsNodes (secret_of c.self.inside) c.as_slice.result.now = subst (HoldsNodes (secret_of c.self.inside)) (sym c.as_slice.ensures.value) c.self.invariant.nodes in
    let long : length c.put_head.new.out ≡ signature_len c.args.self.now = c.put_head.auto.out ∙ c.requires.room in
    written (secret_of c.self.inside) c.args.self.now c.args.leaf c.args.text.now c.as_slice.result.now _ _ c.put_head.new.out c.put_path.new.out
    c.self.view_is holds c.requires.leaf long (ap (λ n. 8 + n) c.sig_len-path.ensures) refl c.put_head.ensures c.put_path.ensures

pub returns-clause-verifies : goal.returns-clause-verifies
returns-clause-verifies c =
    let long : length c.args.self.now.id ≡ 16 = subst (λ (k : Secret). length k.id ≡ 16) c.self.view_is c.self.invariant.id_long in
    subst (λ sig. IsTrue (verifies (public_of c.args.self.now) c.args.text.now sig)) (sym (returns-clause-bytes c)) (signature_verifies c.args.self.now c.args.leaf c.args.text.now long c.requires.leaf)
