-- The kinds of evidence that speak of envelopes alone convict no honest store.
use Rattle.std.proofs.Common.{◌≡◌, ℕ, ◌+◌, List, [], ◌∷◌, ◌++◌, length, Ok, Some, inl, inr, refl, sym, ap, subst, ◌∙◌, arith}
use Rattle.std.proofs.lemmas.List.{length-append}
use Rattle.sha2.specs.Sha256.{sha256}
use Rattle.cp_bytes.specs.Hashes.{head}
use Rattle.lms_tree.specs.Verifying.{leaf_of}
use Rattle.cp_statements.specs.Envelope.{Envelope}
use Rattle.cp_statements.specs.Attestation.{Attestation}
use Rattle.cp_statements.specs.Closing.{Closing, closing_of}
use Rattle.cp_statements.specs.Entry.{Entry, entry_text}
use Rattle.cp_core.specs.Store.{Store}
use Rattle.cp_core.specs.Calls.{attested, head_of}
use Rattle.cp_core.specs.Honest.{Honest, IsSealOf, SignedSeal, Signed, link_behind, last_of}
use Rattle.cp_core.specs.declared.seal_item.SealItem.{SealItem}
use Rattle.cp_core.specs.declared.chronicle.Chronicle.{Chronicle}
use Rattle.cp_evidence.specs.Evidence.{Two}
use Rattle.cp_evidence.specs.Evidence.Evidence.{K1, K2, K3, K5, K9, K10}
use Rattle.cp_evidence.specs.Conditions.{entry_for, link_from, k1_tried, k2_tried, k3_tried, k5_tried, k9_tried, k10_tried}
use Rattle.cp_evidence.proofs.Showing.{attestation_by_from, closing_by_from, ShowsBefore, shows_k1, shows_k2, shows_k3, shows_k5, shows_k9, ShowsK10, shows_k10}
use Rattle.cp_guilt.specs.Framing.{HolderSigned}
use Rattle.cp_guilt.proofs.SignedTexts.{signed_row_reads, seal_reads, seal_epoch, signed_attestation, signed_closing, attested_store, one_row, seal_texts, one_leaf}

-- ---- two texts at one position

pub not_k1 : (s : Store) (r : Chronicle) (key : List ℕ) (e : Two) → Honest s r → length s.id ≡ 32 → HolderSigned s r key (K1 e) → k1_tried key e ≡ Ok tt → ⊥
unfolding attested
not_k1 s r key e h id holder p =
    let k = shows_k1 key e p in
    let a = signed_attestation s r h id _ e.x.text k.a (holder.0 k.first) k.a_is in
    let b = signed_attestation s r h id _ e.y.text k.b (holder.1.0 k.second) k.b_is in
    let blocks : a.0.entry.block ≡ b.0.entry.block = ap (λ (z : Attestation). z.block) (sym a.1) ∙ k.blocks ∙ ap (λ (z : Attestation). z.block) b.1 in
    let positions : a.0.entry.position ≡ b.0.entry.position = ap (λ (z : Attestation). z.position) (sym a.1) ∙ k.positions ∙ ap (λ (z : Attestation). z.position) b.1 in
    k.texts (one_row s r h _ e.x.text a.0 _ e.y.text b.0 blocks positions)

-- ---- two texts under one leaf

pub not_k2 : (s : Store) (r : Chronicle) (key : List ℕ) (e : Two) → Honest s r → HolderSigned s r key (K2 e) → k2_tried key e ≡ Ok tt → ⊥
not_k2 s r key e h holder p =
    let k = shows_k2 key e p in
    k.texts (one_leaf s r h (leaf_of e.x.signature) e.x.text (leaf_of e.y.signature) e.y.text (holder.0 k.first) (holder.1.0 k.second) k.leaves)

-- ---- two closings of one epoch

pub not_k3 : (s : Store) (r : Chronicle) (key : List ℕ) (e : Two) → Honest s r → length s.id ≡ 32 → HolderSigned s r key (K3 e) → k3_tried key e ≡ Ok tt → ⊥
not_k3 s r key e h id holder p =
    let k = shows_k3 key e p in
    let a = signed_closing s r h id _ e.x.text k.c (holder.0 k.first) k.c_is in
    let b = signed_closing s r h id _ e.y.text k.d (holder.1.0 k.second) k.d_is in
    let ea : k.c.epoch ≡ length a.0.front + 1 = ap (λ (c : Closing). c.epoch) a.2 ∙ seal_epoch s r a.0.front a.0.seal a.1 in
    let eb : k.d.epoch ≡ length b.0.front + 1 = ap (λ (c : Closing). c.epoch) b.2 ∙ seal_epoch s r b.0.front b.0.seal b.1 in
    k.texts (seal_texts r _ e.x.text a.0 _ e.y.text b.0 (omega (arith, ea, eb, k.epochs)))

-- ---- a link

last_is : (xs : List SealItem) (x : SealItem) → last_of (xs ++ x ∷ []) ≡ Some x
last_is [] x = refl
last_is (y ∷ []) x = refl
last_is (y ∷ (z ∷ xs)) x = last_is (z ∷ xs) x

nil_of : (xs : List SealItem) → length xs ≡ 0 → xs ≡ []
nil_of [] e = refl
nil_of (x ∷ xs) e = absurd (omega (arith, e))

-- the front that is one longer than another one
one_front : (front : List SealItem) (x : SealItem) (back front₂ : List SealItem) (y : SealItem) (back₂ : List SealItem) → front ++ x ∷ back ≡ front₂ ++ y ∷ back₂ → length front ≡ length (front₂ ++ y ∷ []) → front ≡ front₂ ++ y ∷ []
one_front [] x back front₂ y back₂ e l = absurd (omega (arith, l, length-append front₂ (y ∷ [])))
one_front (z ∷ []) x back [] y back₂ e l = let h : z ≡ y = cc in ap (λ (q : SealItem). q ∷ []) h
one_front (z ∷ (u ∷ front)) x back [] y back₂ e l = absurd (omega (arith, l))
one_front (z ∷ front) x back (t ∷ front₂) y back₂ e l =
    let tails : front ++ x ∷ back ≡ front₂ ++ y ∷ back₂ = cc in
    let sizes : length front ≡ length (front₂ ++ y ∷ []) = omega (arith, l) in
    let h : z ≡ t = cc in
    let i = one_front front x back front₂ y back₂ tails sizes in
    cc

pub not_k5 : (s : Store) (r : Chronicle) (key : List ℕ) (e : Two) → Honest s r → length s.id ≡ 32 → HolderSigned s r key (K5 e) → k5_tried key e ≡ Ok tt → ⊥
not_k5 s r key e h id holder p =
    let k = shows_k5 key e p in
    let q = signed_closing s r h id _ e.x.text k.c (holder.0 k.signed) k.c_is in
    let w : SignedSeal r (leaf_of e.x.signature) e.x.text = q.0 in
    let f : IsSealOf s r w.front w.seal = q.1 in
    let links : k.c.link ≡ link_behind (last_of w.front) = ap (λ (z : Closing). z.link) (q.2 ∙ f.closing_is) in
    let epoch : k.c.epoch ≡ length w.front + 1 = ap (λ (z : Closing). z.epoch) q.2 ∙ seal_epoch s r w.front w.seal f in
    elim k.before_is [
      | inl n ↦
          let none : w.front ≡ [] = nil_of w.front (omega (arith, epoch, n.0)) in
          k.link (links ∙ ap (λ (l : List SealItem). link_behind (last_of l)) none ∙ ap (link_from e.y) (sym n.1))
      | inr n ↦
          let m : ShowsBefore key k.c e.y n.0 = n.2 in
          let j = signed_closing s r h id _ e.y.text n.0 (holder.1.0 m.signed) m.closing_is in
          let v : SignedSeal r (leaf_of e.y.signature) e.y.text = j.0 in
          let g : IsSealOf s r v.front v.seal = j.1 in
          let before : n.0.epoch ≡ length v.front + 1 = ap (λ (z : Closing). z.epoch) j.2 ∙ seal_epoch s r v.front v.seal g in
          let sizes : length w.front ≡ length (v.front ++ v.seal ∷ []) = omega (arith, epoch, before, m.epochs, length-append v.front (v.seal ∷ [])) in
          let fronts : w.front ≡ v.front ++ v.seal ∷ [] = one_front w.front w.seal w.back v.front v.seal v.back (sym w.at ∙ v.at) sizes in
          k.link (links ∙ ap (λ (l : List SealItem). link_behind (last_of l)) fronts ∙ ap link_behind (last_is v.front v.seal) ∙ ap sha256 (sym v.text_is) ∙ ap (link_from e.y) (sym n.1))
    ]

-- ---- a get's head

-- the head of a get's attestation is that of its fields
get_head : (store prev : List ℕ) (e : Entry) → e.signature ≡ [] → (attested store prev e).head ≡ head prev (entry_text (entry_for (attested store prev e)))
unfolding attested
get_head store prev e none = ap (λ (x : List ℕ). head prev (entry_text (record e { signature = x }))) none

pub not_k9 : (s : Store) (r : Chronicle) (key : List ℕ) (x : Envelope) → Honest s r → length s.id ≡ 32 → HolderSigned s r key (K9 x) → k9_tried key x ≡ Ok tt → ⊥
unfolding attested
not_k9 s r key x h id holder p =
    let k = shows_k9 key x p in
    let a = signed_attestation s r h id _ x.text k.a (holder.0 k.signed) k.a_is in
    let w = a.0 in
    let is_get : w.entry.kind ≡ 2 = ap (λ (z : Attestation). z.kind) (sym a.1) ∙ k.is_get in
    let heads = get_head s.id (head_of w.front w.entry.block) w.entry (w.spells.fits.get is_get) in
    k.heads (subst (λ (z : Attestation). z.head ≡ head z.prev (entry_text (entry_for z))) (sym a.1) heads)

-- ---- a text that is no statement

pub not_k10 : (s : Store) (r : Chronicle) (key : List ℕ) (x : Envelope) → Honest s r → length s.id ≡ 32 → s.id ≡ sha256 key → HolderSigned s r key (K10 x) → k10_tried key x ≡ Ok tt → ⊥
not_k10 s r key x h id own holder p =
    let k = shows_k10 key x p in
    go k (holder.0 k.signed)
  where
    go : ShowsK10 key x → Signed s r (leaf_of x.signature) x.text → ⊥
    go k (inl w) = k.no_attestation _ (attestation_by_from (sha256 key) x.text _ (signed_row_reads s r _ x.text w id) (attested_store s.id _ w.entry ∙ own))
    go k (inr w) =
        let f : IsSealOf s r w.front w.seal = h.seals w.front w.seal w.back w.at in
        k.no_closing f.closing (closing_by_from (sha256 key) x.text f.closing (ap closing_of w.text_is ∙ seal_reads s r w.front w.seal f) (ap (λ (c : Closing). c.store) f.closing_is ∙ own))
