use Rattle.std.proofs.Common.{◌≡◌, ◌+◌, ◌^◌, ◌<◌, ◌∙◌, false, ap, sym, subst, arith}
use Rattle.std.specs.Bool.{Decides}
use Rattle.std.proofs.lemmas.Grind.{common_steps}
use Rattle.std.proofs.lemmas.Slice.Eq.{bytes_eq-Decides}
use Rattle.lms_ots.specs.Parameters.{sig_len_of}
use Rattle.lms_tree.specs.PublicKey.{number_at, key_lms, key_id, key_root}
use Rattle.lms_tree.specs.Verifying.{leaf_of, root_candidate}
use Rattle.lms_tree.proofs.Testing.{same_as_test}
use Rattle.lms_tree.proofs.verifying.verify.Goals as goal

pub returns-then-sig-sig_len : goal.returns-then-sig-sig_len
returns-then-sig-sig_len c =
    same_as_test false c.ots-t.result c.height-height.result _ _ _ c.ots-t.ensures.value c.height-height.ensures.value c.ots-t.ensures.reads
    (λ e. cc) (λ a. let long = a.long in absurd (omega arith))

pub returns-then-number_at-lms_code : goal.returns-then-number_at-lms_code
returns-then-number_at-lms_code c =
    let at : 4 + sig_len_of c.ots-t.result ≡ 4 + c.sig_len-2.result = omega arith in
    same_as_test false c.ots-t.result c.height-height.result _ _ _ c.ots-t.ensures.value c.height-height.ensures.value c.ots-t.ensures.reads
    (λ e. cc) (λ a. let code = subst (λ n. number_at c.args.sig.now n ≡ key_lms c.args.key.now) at a.lms_code in absurd (omega arith))

pub returns-then-number_at-height : goal.returns-then-number_at-height
returns-then-number_at-height c =
    same_as_test false c.ots-t.result c.height-height.result _ _ _ c.ots-t.ensures.value c.height-height.ensures.value c.ots-t.ensures.reads
    (λ e. cc) (λ a. let leaf = a.leaf in absurd (grind (arith, common_steps)))

pub returns-in-Some : goal.returns-in-Some
returns-in-Some c =
    let at : 4 + c.sig_len-2.result ≡ 4 + sig_len_of c.ots-t.result = omega arith in
    let code : number_at c.args.sig.now (4 + c.sig_len-2.result) ≡ key_lms c.args.key.now = omega arith in
    let leaf : leaf_of c.args.sig.now < 2 ^ c.height-height.result = grind (arith, common_steps) in
    let root_is : c.as_slice.result.now ≡ root_candidate c.ots-t.result c.height-height.result (key_id c.args.key.now) c.args.text.now c.args.sig.now =
    c.as_slice.ensures ∙ c.in-Some.ensures.1 ∙ ap (λ id. root_candidate c.ots-t.result c.height-height.result id c.args.text.now c.args.sig.now) c.id.ensures in
    let key_is : c.as_slice-in-Some.result.now ≡ key_root c.args.key.now = c.as_slice-in-Some.ensures ∙ c.root.ensures in
    let same : Decides c.eq.result (c.as_slice.result.now ≡ c.as_slice-in-Some.result.now) =
    subst (λ r. Decides r (c.as_slice.result.now ≡ c.as_slice-in-Some.result.now)) (sym c.eq.ensures) (bytes_eq-Decides c.as_slice.result.now c.as_slice-in-Some.result.now) in
    same_as_test c.eq.result c.ots-t.result c.height-height.result _ _ _ c.ots-t.ensures.value c.height-height.ensures.value c.ots-t.ensures.reads
    (λ e. record {
      long = omega arith;
      form = c.in-Some.ensures.0;
      lms_code = subst (λ n. number_at c.args.sig.now n ≡ key_lms c.args.key.now) at code;
      leaf = leaf;
      root = sym root_is ∙ same.0 e ∙ key_is;
    })
    (λ a. same.1 (root_is ∙ a.root ∙ sym key_is))

pub returns-in-None : goal.returns-in-None
returns-in-None c =
    same_as_test false c.ots-t.result c.height-height.result _ _ _ c.ots-t.ensures.value c.height-height.ensures.value c.ots-t.ensures.reads
    (λ e. cc) (λ a. absurd (c.in-None.ensures a.form))
