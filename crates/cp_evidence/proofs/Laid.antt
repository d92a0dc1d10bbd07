-- What is appended piece by piece.
use Rattle.std.proofs.Common.{◌≡◌, ℕ, ◌≤◌, List, [], ◌∷◌, ◌++◌, length, take, sym, ap, ◌∙◌, arith, append_assoc, length-append}
use Rattle.std.proofs.lemmas.List.{append-nil, take-take}
use Rattle.std.proofs.Math.Seq.{take-append_seam}
use Rattle.std.specs.Prelude.{Result, Ok, Err, OnOk, codes}
use Rattle.std.specs.Int.{w64, to_be_bytes}
use Rattle.cp_bytes.specs.Fields.{part}
use Rattle.cp_statements.specs.Envelope.{Envelope, envelope_text}
use Rattle.cp_chain.specs.Rules.{Rule, number_of}
use Rattle.cp_chain.specs.Segment.{segment_text}
use Rattle.cp_evidence.specs.Evidence.{evidence_text, broken_rule_text, given_text}
use Rattle.cp_evidence.specs.Evidence.Evidence.{K7}
use Rattle.cp_evidence.specs.Written.{broken_rule_bytes, laid_out}

-- what was kept of a list is kept of its front
pub kept_through : (old mid new more : List ℕ) → mid ≡ old ++ more → take (length mid) new ≡ mid → take (length old) new ≡ old
kept_through old mid new more grown kept =
    let short : length old ≤ length mid = omega (arith, ap length grown, length-append old more) in
    sym (take-take (length old) (length mid) new short) ∙ ap (take (length old)) (kept ∙ grown) ∙ take-append_seam old more

-- a fact that is said of success follows from another one
pub on_ok : {A E : Type 0} {P Q : Type 0} (r : Result A E) → (P → Q) → OnOk r P → OnOk r Q
on_ok (Ok x) f p = f p
on_ok (Err e) f p = p

u64 : ℕ → List ℕ
u64 n = to_be_bytes w64 n

-- four numbers, seven parts and a segment, one after another and as they are grouped
grouped : (b r p o a1 a2 a3 a4 t s f g : List ℕ)
    → (b ++ (r ++ (p ++ (o ++ [])))) ++ ((a1 ++ (a2 ++ (a3 ++ (a4 ++ (t ++ (s ++ (f ++ []))))))) ++ g) ≡ b ++ (r ++ (p ++ (o ++ (((a1 ++ a2) ++ ((a3 ++ a4) ++ (t ++ s))) ++ (f ++ g)))))
grouped b r p o a1 a2 a3 a4 t s f g = simp (append_assoc, append-nil)

-- the numbers and parts of a broken rule, whatever its number and its bytes are
pub broken_rule_bytes_laid : (block rule place other : ℕ) (x y : Envelope) (t s f g : List ℕ)
    → laid_out 7 (to_be_bytes w64 block ++ (to_be_bytes w64 rule ++ (to_be_bytes w64 place ++ (to_be_bytes w64 other ++ []))))
    (part x.text ++ (part x.signature ++ (part y.text ++ (part y.signature ++ (part t ++ (part s ++ (part f ++ []))))))) g
    ≡ broken_rule_bytes block rule place other (record { closing = x; before = y; table = t; table_before = s }) f g
unfolding given_text envelope_text
broken_rule_bytes_laid block rule place other x y t s f g =
    ap (λ (l : List ℕ). codes "CPEV" ++ (7 ∷ l)) (grouped (to_be_bytes w64 block) (to_be_bytes w64 rule) (to_be_bytes w64 place) (to_be_bytes w64 other) (part x.text) (part x.signature) (part y.text) (part y.signature) (part t) (part s) (part f) g)

-- they are its evidence, where the number is a rule's and the bytes are a segment's
pub broken_rule_laid : (named : Rule) (texts : List (List ℕ)) (block rule place other : ℕ) (x y : Envelope) (t s f g : List ℕ) → number_of named ≡ rule → segment_text texts ≡ g
    → laid_out 7 (to_be_bytes w64 block ++ (to_be_bytes w64 rule ++ (to_be_bytes w64 place ++ (to_be_bytes w64 other ++ []))))
    (part x.text ++ (part x.signature ++ (part y.text ++ (part y.signature ++ (part t ++ (part s ++ (part f ++ []))))))) g
    ≡ evidence_text (K7 (record { block = block; fault = record { rule = named; place = place; other = other }; given = record { closing = x; before = y; table = t; table_before = s }; families = f; segment = texts }))
unfolding evidence_text broken_rule_text
broken_rule_laid named texts block rule place other x y t s f g is_rule is_segment =
    let bytes : ℕ → List ℕ → List ℕ = λ n segment. broken_rule_bytes block n place other (record { closing = x; before = y; table = t; table_before = s }) f segment in
    broken_rule_bytes_laid block rule place other x y t s f g ∙ ap (λ (n : ℕ). bytes n g) (sym is_rule) ∙ ap (bytes (number_of named)) (sym is_segment)
