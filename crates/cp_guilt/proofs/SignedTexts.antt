-- What was signed in an honest life: where each attestation and each closing stands.
use Rattle.std.proofs.Common.{◌≡◌, ℕ, ◌+◌, ◌<◌, List, [], ◌∷◌, ◌++◌, length, get_or, Ok, ◌⊎◌, inl, inr, refl, sym, ap, subst, ◌∙◌, arith}
use Rattle.sha2.proofs.Facts256.{length-sha256}
use Rattle.cp_bytes.specs.Hashes.{genesis}
use Rattle.cp_bytes.proofs.FieldLemmas.{ok_is}
use Rattle.cp_statements.specs.Attestation.{Attestation, attestation_of, attestation_text, AttestationFits}
use Rattle.cp_statements.specs.Closing.{Closing, closing_of}
use Rattle.cp_statements.specs.Entry.{Entry, entry_text, EntryFits}
use Rattle.cp_statements.proofs.FixedTexts.{attestation_again, closing_again}
use Rattle.cp_statements.proofs.Apart.{kinds_apart}
use Rattle.cp_chain.proofs.Each.{same_split}
use Rattle.cp_chain.proofs.Chain.{head_length, head_after_length}
use Rattle.cp_core.specs.Store.{Store}
use Rattle.cp_core.specs.Life.{RowItem, row_item, freezes, rows_of, entries, shard_of}
use Rattle.cp_core.specs.Calls.{attested, head_of}
use Rattle.cp_core.specs.Honest.{Honest, IsRowOf, SpellsEntry, IsSealOf, SignedRow, SignedSeal, Signed}
use Rattle.cp_core.specs.declared.item.Item.{Item}
use Rattle.cp_core.specs.declared.seal_item.SealItem.{SealItem}
use Rattle.cp_core.specs.declared.chronicle.Chronicle.{Chronicle}
use Rattle.cp_core.proofs.RowLemmas.{spells_reads, same_entry, counts_later}
use Rattle.cp_core.proofs.LifeLemmas.{same_row}

-- ---- texts

pub attested_fits : (store prev : List ℕ) (e : Entry) → length store ≡ 32 → length prev ≡ 32 → EntryFits e → AttestationFits (attested store prev e)
unfolding attested
attested_fits store prev e ls lp f =
    (ls, (f.fields.0, (f.fields.1.0, (f.fields.1.1.0, (f.fields.1.1.1.0, (f.fields.1.1.1.1.0, (f.fields.1.1.1.1.1.0, (f.fields.1.1.1.1.1.1.0, (f.fields.1.1.1.1.1.1.1.0, (lp, (head_length prev (entry_text e), tt)))))))))))

head_of_length : (items : List Item) (b : ℕ) → length (head_of items b) ≡ 32
unfolding genesis
head_of_length items b = head_after_length (genesis b) (entries (rows_of items b)) (length-sha256 _)

pub signed_row_reads : (s : Store) (r : Chronicle) (leaf : ℕ) (text : List ℕ) (w : SignedRow s r leaf text) → length s.id ≡ 32 → attestation_of text ≡ Ok (attested s.id (head_of w.front w.entry.block) w.entry)
signed_row_reads s r leaf text w id =
    ap attestation_of w.text_is ∙ attestation_again _ (attested_fits s.id (head_of w.front w.entry.block) w.entry id (head_of_length w.front w.entry.block) w.spells.fits)

-- a seal's text is its closing
pub seal_reads : (s : Store) (r : Chronicle) (front : List SealItem) (x : SealItem) (f : IsSealOf s r front x) → closing_of x.text ≡ Ok f.closing
seal_reads s r front x f = ap closing_of f.text ∙ closing_again f.closing f.fits

pub seal_epoch : (s : Store) (r : Chronicle) (front : List SealItem) (x : SealItem) (f : IsSealOf s r front x) → f.closing.epoch ≡ length front + 1
seal_epoch s r front x f = ap (λ (c : Closing). c.epoch) f.closing_is ∙ f.epoch

-- What was signed and is an attestation is a row's; what is a closing is a seal's.
pub signed_attestation : (s : Store) (r : Chronicle) → Honest s r → length s.id ≡ 32 → (leaf : ℕ) (text : List ℕ) (a : Attestation) → Signed s r leaf text → attestation_of text ≡ Ok a
    → (w : SignedRow s r leaf text) × (a ≡ attested s.id (head_of w.front w.entry.block) w.entry)
signed_attestation s r h id leaf text a (inl w) e =
    let same : Ok a ≡ Ok (attested s.id (head_of w.front w.entry.block) w.entry) = sym e ∙ signed_row_reads s r leaf text w id in
    (w, ok_is _ _ same)
signed_attestation s r h id leaf text a (inr w) e =
    let f : IsSealOf s r w.front w.seal = h.seals w.front w.seal w.back w.at in
    absurd (kinds_apart text a f.closing e (ap closing_of w.text_is ∙ seal_reads s r w.front w.seal f))

pub signed_closing : (s : Store) (r : Chronicle) → Honest s r → length s.id ≡ 32 → (leaf : ℕ) (text : List ℕ) (c : Closing) → Signed s r leaf text → closing_of text ≡ Ok c
    → (w : SignedSeal r leaf text) × (f : IsSealOf s r w.front w.seal) × (c ≡ f.closing)
signed_closing s r h id leaf text c (inl w) e = absurd (kinds_apart text _ c (signed_row_reads s r leaf text w id) e)
signed_closing s r h id leaf text c (inr w) e =
    let f : IsSealOf s r w.front w.seal = h.seals w.front w.seal w.back w.at in
    let same : Ok c ≡ Ok f.closing = sym e ∙ ap closing_of w.text_is ∙ seal_reads s r w.front w.seal f in
    (w, f, ok_is _ _ same)

pub attested_store : (store prev : List ℕ) (e : Entry) → (attested store prev e).store ≡ store
unfolding attested
attested_store store prev e = refl

-- ---- places

-- how two places in a list lie
abbrev Places : {X : Type 0} → List X → X → List X → X → Type 0
Places {X} front₁ x₁ front₂ x₂ = ((front₁ ≡ front₂) × (x₁ ≡ x₂)) ⊎ (((middle : List X) × (front₂ ≡ front₁ ++ x₁ ∷ middle)) ⊎ ((middle : List X) × (front₁ ≡ front₂ ++ x₂ ∷ middle)))

places : {X : Type 0} (front₁ : List X) (x₁ : X) (back₁ front₂ : List X) (x₂ : X) (back₂ : List X) → front₁ ++ x₁ ∷ back₁ ≡ front₂ ++ x₂ ∷ back₂ → Places front₁ x₁ front₂ x₂
places [] x₁ back₁ [] x₂ back₂ e = inl (refl, cc)
places [] x₁ back₁ (f ∷ front₂) x₂ back₂ e = inr (inl (front₂, cc))
places (f ∷ front₁) x₁ back₁ [] x₂ back₂ e = inr (inr (front₁, cc))
places (f ∷ front₁) x₁ back₁ (g ∷ front₂) x₂ back₂ e =
    let tails : front₁ ++ x₁ ∷ back₁ ≡ front₂ ++ x₂ ∷ back₂ = cc in
    let h : f ≡ g = cc in
    elim (places front₁ x₁ back₁ front₂ x₂ back₂ tails) [
      | inl w ↦ (let a = w.0 in let b = w.1 in inl (cc, b))
      | inr (inl w) ↦ (let a = w.1 in inr (inl (w.0, cc)))
      | inr (inr w) ↦ (let a = w.1 in inr (inr (w.0, cc)))
    ]

row_of_shard : (s : Store) (r : Chronicle) → Honest s r → (leaf : ℕ) (text : List ℕ) (w : SignedRow s r leaf text) → IsRowOf w.shard w.front w.row
row_of_shard s r h leaf text w =
    let at = w.at in
    (h.shards w.shard at.0).each w.front (row_item w.row) at.1 at.2

-- where a signed row stands
pub record Stood (s : Store) (r : Chronicle) (leaf : ℕ) (text : List ℕ) (w : SignedRow s r leaf text) : Type 0 where
  pub shard : shard_of w.entry.block ≡ w.shard
  pub position : w.entry.position ≡ length (rows_of w.front w.entry.block)
  pub epoch : w.entry.epoch ≡ freezes w.front + 1

pub stood : (s : Store) (r : Chronicle) → Honest s r → (leaf : ℕ) (text : List ℕ) (w : SignedRow s r leaf text) → Stood s r leaf text w
stood s r h leaf text w =
    let f : IsRowOf w.shard w.front w.row = row_of_shard s r h leaf text w in
    let same : f.entry ≡ w.entry = same_entry w.row.entry f.entry w.entry f.spells w.spells in
    record { shard = subst (λ (e : Entry). shard_of e.block ≡ w.shard) same f.shard; position = subst (λ (e : Entry). e.position ≡ length (rows_of w.front e.block)) same f.position; epoch = subst (λ (e : Entry). e.epoch ≡ freezes w.front + 1) same f.epoch }

-- two signed rows at one place have one text
one_text : (s : Store) (r : Chronicle) (leaf₁ : ℕ) (text₁ : List ℕ) (w₁ : SignedRow s r leaf₁ text₁) (leaf₂ : ℕ) (text₂ : List ℕ) (w₂ : SignedRow s r leaf₂ text₂) → w₁.front ≡ w₂.front → w₁.row ≡ w₂.row → text₁ ≡ text₂
one_text s r leaf₁ text₁ w₁ leaf₂ text₂ w₂ fronts rows =
    let moved : SpellsEntry w₁.row.entry w₂.entry = subst (λ (x : RowItem). SpellsEntry x.entry w₂.entry) (sym rows) w₂.spells in
    let same : w₁.entry ≡ w₂.entry = same_entry w₁.row.entry w₁.entry w₂.entry w₁.spells moved in
    w₁.text_is ∙ ap (λ (e : Entry). attestation_text (attested s.id (head_of w₁.front e.block) e)) same ∙ ap (λ (f : List Item). attestation_text (attested s.id (head_of f w₂.entry.block) w₂.entry)) fronts ∙ sym w₂.text_is

-- two signed rows at one position of a block are one
pub one_row : (s : Store) (r : Chronicle) → Honest s r → (leaf₁ : ℕ) (text₁ : List ℕ) (w₁ : SignedRow s r leaf₁ text₁) (leaf₂ : ℕ) (text₂ : List ℕ) (w₂ : SignedRow s r leaf₂ text₂)
    → w₁.entry.block ≡ w₂.entry.block → w₁.entry.position ≡ w₂.entry.position → text₁ ≡ text₂
one_row s r h leaf₁ text₁ w₁ leaf₂ text₂ w₂ blocks positions =
    let s₁ = stood s r h leaf₁ text₁ w₁ in
    let s₂ = stood s r h leaf₂ text₂ w₂ in
    let shards : w₁.shard ≡ w₂.shard = sym s₁.shard ∙ ap shard_of blocks ∙ s₂.shard in
    let at₁ = w₁.at in
    let at₂ = w₂.at in
    let lists : w₁.front ++ row_item w₁.row ∷ at₁.1 ≡ w₂.front ++ row_item w₂.row ∷ at₂.1 = sym at₁.2 ∙ ap (λ (k : ℕ). get_or r.shards k []) shards ∙ at₂.2 in
    let b : ℕ = w₂.entry.block in
    let counts : length (rows_of w₁.front b) ≡ length (rows_of w₂.front b) = ap (λ (c : ℕ). length (rows_of w₁.front c)) (sym blocks) ∙ sym s₁.position ∙ positions ∙ s₂.position in
    elim (places w₁.front (row_item w₁.row) at₁.1 w₂.front (row_item w₂.row) at₂.1 lists) [
      | inl p ↦ one_text s r leaf₁ text₁ w₁ leaf₂ text₂ w₂ p.0 (same_row _ _ p.1)
      | inr (inl p) ↦
          let more = counts_later w₁.front p.0 w₁.row w₁.entry b (spells_reads _ _ w₁.spells) blocks in
          let e : length (rows_of w₂.front b) ≡ length (rows_of (w₁.front ++ row_item w₁.row ∷ p.0) b) = ap (λ (f : List Item). length (rows_of f b)) p.1 in
          absurd (omega (arith, more, e, counts))
      | inr (inr p) ↦
          let more = counts_later w₂.front p.0 w₂.row w₂.entry b (spells_reads _ _ w₂.spells) refl in
          let e : length (rows_of w₁.front b) ≡ length (rows_of (w₂.front ++ row_item w₂.row ∷ p.0) b) = ap (λ (f : List Item). length (rows_of f b)) p.1 in
          absurd (omega (arith, more, e, counts))
    ]

-- two seals behind as many seals are one
one_seal : (r : Chronicle) (leaf₁ : ℕ) (text₁ : List ℕ) (w₁ : SignedSeal r leaf₁ text₁) (leaf₂ : ℕ) (text₂ : List ℕ) (w₂ : SignedSeal r leaf₂ text₂) → length w₁.front ≡ length w₂.front → (w₁.front ≡ w₂.front) × (w₁.seal ≡ w₂.seal)
one_seal r leaf₁ text₁ w₁ leaf₂ text₂ w₂ l = same_split w₁.front w₁.seal w₁.back w₂.front w₂.seal w₂.back (sym w₁.at ∙ w₂.at) l

pub seal_texts : (r : Chronicle) (leaf₁ : ℕ) (text₁ : List ℕ) (w₁ : SignedSeal r leaf₁ text₁) (leaf₂ : ℕ) (text₂ : List ℕ) (w₂ : SignedSeal r leaf₂ text₂) → length w₁.front ≡ length w₂.front → text₁ ≡ text₂
seal_texts r leaf₁ text₁ w₁ leaf₂ text₂ w₂ l = w₁.text_is ∙ ap (λ (x : SealItem). x.text) (one_seal r leaf₁ text₁ w₁ leaf₂ text₂ w₂ l).1 ∙ sym w₂.text_is

-- ---- leaves

leaf_of_seal : (s : Store) (r : Chronicle) → Honest s r → (leaf : ℕ) (text : List ℕ) (w : SignedSeal r leaf text) → leaf ≡ s.attestations + length w.front
leaf_of_seal s r h leaf text w = w.leaf_is ∙ (h.seals w.front w.seal w.back w.at).leaf

leaf_of_row : (s : Store) (r : Chronicle) → Honest s r → (leaf : ℕ) (text : List ℕ) (w : SignedRow s r leaf text) → leaf < s.attestations
leaf_of_row s r h leaf text w = omega (arith, w.leaf_is, h.leaves_below w.shard w.front w.row w.at)

rows_one : (s : Store) (r : Chronicle) → Honest s r → (leaf₁ : ℕ) (text₁ : List ℕ) (w₁ : SignedRow s r leaf₁ text₁) (leaf₂ : ℕ) (text₂ : List ℕ) (w₂ : SignedRow s r leaf₂ text₂) → leaf₁ ≡ leaf₂ → text₁ ≡ text₂
rows_one s r h leaf₁ text₁ w₁ leaf₂ text₂ w₂ l =
    let d = h.leaves_differ w₁.shard w₁.front w₁.row w₂.shard w₂.front w₂.row w₁.at w₂.at (sym w₁.leaf_is ∙ l ∙ w₂.leaf_is) in
    let at₁ = w₁.at in
    let at₂ = w₂.at in
    let lists : w₁.front ++ row_item w₁.row ∷ at₁.1 ≡ w₂.front ++ row_item w₂.row ∷ at₂.1 = sym at₁.2 ∙ ap (λ (k : ℕ). get_or r.shards k []) d.0 ∙ at₂.2 in
    let p = same_split w₁.front (row_item w₁.row) at₁.1 w₂.front (row_item w₂.row) at₂.1 lists (ap length d.1) in
    one_text s r leaf₁ text₁ w₁ leaf₂ text₂ w₂ d.1 (same_row _ _ p.1)

-- one leaf signs one text
pub one_leaf : (s : Store) (r : Chronicle) → Honest s r → (leaf₁ : ℕ) (text₁ : List ℕ) (leaf₂ : ℕ) (text₂ : List ℕ) → Signed s r leaf₁ text₁ → Signed s r leaf₂ text₂ → leaf₁ ≡ leaf₂ → text₁ ≡ text₂
one_leaf s r h leaf₁ text₁ leaf₂ text₂ (inl w₁) (inl w₂) l = rows_one s r h leaf₁ text₁ w₁ leaf₂ text₂ w₂ l
one_leaf s r h leaf₁ text₁ leaf₂ text₂ (inl w₁) (inr w₂) l = absurd (omega (arith, leaf_of_row s r h leaf₁ text₁ w₁, leaf_of_seal s r h leaf₂ text₂ w₂, l))
one_leaf s r h leaf₁ text₁ leaf₂ text₂ (inr w₁) (inl w₂) l = absurd (omega (arith, leaf_of_seal s r h leaf₁ text₁ w₁, leaf_of_row s r h leaf₂ text₂ w₂, l))
one_leaf s r h leaf₁ text₁ leaf₂ text₂ (inr w₁) (inr w₂) l = seal_texts r leaf₁ text₁ w₁ leaf₂ text₂ w₂ (omega (arith, leaf_of_seal s r h leaf₁ text₁ w₁, leaf_of_seal s r h leaf₂ text₂ w₂, l))
