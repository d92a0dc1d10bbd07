-- The parts of a signature, put together.
use Rattle.std.proofs.Common.{◌≡◌, ℕ, ◌+◌, ◌-◌, ◌*◌, ◌^◌, ◌<◌, ◌++◌, List, length, take, refl, ap, sym, ◌∙◌, subst, arith, rules}
use Rattle.std.proofs.lemmas.List.{take_all, places}
use Rattle.std.proofs.lemmas.Slice.{take-put_mid}
use borrow.Rule.Slice.PartMut.{put_mid}
use Rattle.std.specs.Int.{w32, to_be_bytes}
use Rattle.lms_ots.specs.Parameters.{sig_len_of}
use Rattle.lms_ots.specs.Signing.{ots_signature}
use Rattle.lms_tree.specs.Secret.{Secret, leaves_of, path_from, signature_len, signature, signature_head}
use Rattle.lms_tree.specs.Parameters.{levels_of, height_code}
use Rattle.lms_tree.specs.Kept.{path_in, HoldsNodes}
use Rattle.lms_tree.proofs.Climbing.{path_stands, path_long}

pub written : (a key : Secret) (leaf : ℕ) (text : List ℕ) (nodes : List (List ℕ)) (n m : ℕ) (before path : List ℕ)
    → a ≡ key → HoldsNodes a nodes → leaf < leaves_of key → length before ≡ signature_len key → n ≡ 8 + sig_len_of a.ots → m ≡ length before - n
    → take (8 + sig_len_of a.ots) before ≡ to_be_bytes w32 leaf ++ ots_signature a.ots a.id leaf a.seed text ++ to_be_bytes w32 (height_code a.height)
    → path ≡ path_in nodes (2 ^ levels_of a.height + leaf) (levels_of a.height)
    → put_mid n m before path ≡ signature key leaf text
unfolding signature signature_head
written a key leaf text nodes n m before path is holds lt room n_is m_is head_is path_is =
    let lt_a : leaf < leaves_of a = subst (λ k. leaf < leaves_of k) (sym is) lt in
    let room_a : length before ≡ signature_len a = subst (λ k. length before ≡ signature_len k) (sym is) room in
    let path_node : path ≡ path_from a (leaves_of a + leaf) (levels_of a.height) =
    path_is ∙ path_stands a nodes (leaves_of a + leaf) (levels_of a.height) holds (omega arith) (omega arith) (omega arith) in
    let long : length path ≡ 32 * levels_of a.height = ap length path_node ∙ path_long a (leaves_of a + leaf) (levels_of a.height) in
    let total : length (put_mid n m before path) ≡ n + length path = search (rules, places) in
    let split : take (n + length path) (put_mid n m before path) ≡ take n before ++ path = take-put_mid n m before path (n + length path) refl (omega arith) in
    sym (take_all (n + length path) (put_mid n m before path) (omega arith))
    ∙ split
    ∙ ap (λ k. take k before ++ path) n_is
    ∙ ap (λ x. x ++ path) head_is
    ∙ ap (λ x. (to_be_bytes w32 leaf ++ ots_signature a.ots a.id leaf a.seed text ++ to_be_bytes w32 (height_code a.height)) ++ x) path_node
    ∙ ap (λ k. signature k leaf text) is
