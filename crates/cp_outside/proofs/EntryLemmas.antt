-- A write more in a log.
use Rattle.std.proofs.Common.{◌≡◌, ℕ, suc, ◌+◌, ◌-◌, ◌≤◌, List, [], ◌∷◌, ◌++◌, length, take, drop, refl, ap, ap₂, ◌∙◌, arith, rules, length-drop, append_assoc}
use Rattle.std.specs.List.{All}
use Rattle.std.proofs.lemmas.List.{take-append-le, drop-append-le, same_lists, places, map-append}
use Rattle.cp_outside.specs.Entries.{IsWithin, write_in, writes_in}
use Rattle.cp_outside.specs.MemFolders.{Written}
use Rattle.cp_outside.specs.declared.entries.Entry.{Entry}

-- A part of the bytes stays where more come behind them.
part-grown : (bytes more : List ℕ) (a b : ℕ) → a ≤ b → b ≤ length bytes → take (b - a) (drop a (bytes ++ more)) ≡ take (b - a) (drop a bytes)
part-grown bytes more a b le within =
    let front : a ≤ length bytes = omega arith in
    let size : b - a ≤ length (drop a bytes) = omega (arith, length-drop a bytes) in
    rw drop-append-le (rw take-append-le refl)

written : List ℕ → List ℕ → Written
written name content = record { name = name; content = content }

write_in-grown : (bytes more : List ℕ) (entry : Entry) → IsWithin (length bytes) entry → write_in (bytes ++ more) entry ≡ write_in bytes entry
unfolding written
write_in-grown bytes more entry h =
    ap₂ written (part-grown bytes more entry.start entry.middle h.name (omega (arith, h.content, h.all)))
    (part-grown bytes more entry.middle entry.end h.content h.all)

writes_in-grown : (bytes more : List ℕ) (entries : List Entry) → All (IsWithin (length bytes)) entries → writes_in (bytes ++ more) entries ≡ writes_in bytes entries
writes_in-grown bytes more [] h = refl
writes_in-grown bytes more (entry ∷ entries) h =
    ap₂ (λ w ws. w ∷ ws) (write_in-grown bytes more entry (h 0 entry (omega arith)))
    (writes_in-grown bytes more entries (λ k d lt. h (suc k) d (omega (arith, lt))))

-- The writes of a log to which a name and a content were appended.
pub writes_in-append : (bytes name content : List ℕ) (entries : List Entry) (entry : Entry) → All (IsWithin (length bytes)) entries
    → entry.start ≡ length bytes → entry.middle ≡ length bytes + length name → entry.end ≡ length bytes + length name + length content
    → writes_in (bytes ++ name ++ content) (entries ++ entry ∷ []) ≡ writes_in bytes entries ++ record { name = name; content = content } ∷ []
unfolding written
writes_in-append bytes name content entries entry h start_is middle_is end_is =
    let name_is : (write_in (bytes ++ name ++ content) entry).name ≡ name = same_lists _ _ (search (rules, places)) (λ k d lt. grind (arith, places)) in
    let content_is : (write_in (bytes ++ name ++ content) entry).content ≡ content = same_lists _ _ (search (rules, places)) (λ k d lt. grind (arith, places)) in
    let last : write_in (bytes ++ name ++ content) entry ≡ written name content = ap₂ written name_is content_is in
    let before : writes_in (bytes ++ name ++ content) entries ≡ writes_in bytes entries
    = ap (λ b. writes_in b entries) (append_assoc bytes name content) ∙ writes_in-grown bytes (name ++ content) entries h in
    map-append (write_in (bytes ++ name ++ content)) entries (entry ∷ []) ∙ ap₂ (λ ws w. ws ++ w ∷ []) before last
