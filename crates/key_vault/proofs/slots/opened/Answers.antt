use Rattle.std.proofs.Common.{◌≡◌, arith, refl, sym, ap, ◌∙◌, ℕ, true, List, take, drop}
use Rattle.std.proofs.lemmas.Slice.Eq.{bytes_eq-Decides}
use Rattle.std.specs.Str.{bytes_eq}
use Rattle.std.specs.Int.{w64, from_be_bytes}
use Rattle.key_vault.specs.Slots.{gate_of, id_in}
use Rattle.key_vault.proofs.SlotLemmas.{opening_blank, opening_other, opening_damaged, opening_ok, slot_read}
use Rattle.key_vault.proofs.slots.opened.Goals as goal

pub returns-then-file-lt-FILE-clause-answer : goal.returns-then-file-lt-FILE-clause-answer
returns-then-file-lt-FILE-clause-answer c = opening_blank _ _ _ c.if-file-lt-FILE.true

pub returns-then-not-names-clause-answer : goal.returns-then-not-names-clause-answer
returns-then-not-names-clause-answer c =
    opening_other c.args.id.now c.args.leaves c.args.file.now c.if-file-lt-FILE.false
    (ap (λ (l : List ℕ). bytes_eq (take 32 l) c.args.id.now) (sym (slot_read (gate_of c.args.file.now) c.args.file.now)) ∙ sym c.names.ensures ∙ c.if-not-names.true)

pub returns-then-reserved-leaves-clause-answer : goal.returns-then-reserved-leaves-clause-answer
returns-then-reserved-leaves-clause-answer c =
    opening_damaged c.args.id.now c.args.leaves c.args.file.now c.number-reserved.result c.if-file-lt-FILE.false
    (ap (λ (l : List ℕ). bytes_eq (take 32 l) c.args.id.now) (sym (slot_read (gate_of c.args.file.now) c.args.file.now)) ∙ sym c.names.ensures ∙ c.if-not-names.false)
    (c.number-reserved.ensures ∙ ap (λ (l : List ℕ). from_be_bytes w64 (drop 32 l)) (slot_read (gate_of c.args.file.now) c.args.file.now))
    c.if-reserved-leaves.true

pub returns-clause-answer : goal.returns-clause-answer
returns-clause-answer c =
    opening_ok c.args.id.now c.args.leaves c.args.file.now c.number-reserved.result c.if-file-lt-FILE.false
    (ap (λ (l : List ℕ). bytes_eq (take 32 l) c.args.id.now) (sym (slot_read (gate_of c.args.file.now) c.args.file.now)) ∙ sym c.names.ensures ∙ c.if-not-names.false)
    (c.number-reserved.ensures ∙ ap (λ (l : List ℕ). from_be_bytes w64 (drop 32 l)) (slot_read (gate_of c.args.file.now) c.args.file.now))
    c.if-reserved-leaves.false

pub returns-clause-found : goal.returns-clause-found
returns-clause-found c =
    let same : bytes_eq (id_in c.args.file.now) c.args.id.now ≡ true
    = ap (λ (l : List ℕ). bytes_eq (take 32 l) c.args.id.now) (sym (slot_read (gate_of c.args.file.now) c.args.file.now)) ∙ sym c.names.ensures ∙ c.if-not-names.false in (
      omega (arith, c.requires, c.if-file-lt-FILE.false),
      refl,
      (bytes_eq-Decides (id_in c.args.file.now) c.args.id.now).0 same,
      c.if-reserved-leaves.false,
    )
