-- The number that a word spells.
use Rattle.std.proofs.Common.{◌≡◌, ◌≢◌, ℕ, ◌<◌, ◌≤◌, ◌^◌, List, Some, None, Bool, true, false, refl, sym, ap, ◌∙◌, subst, cond, arith}
use Rattle.std.specs.Prelude.{decimal, length, bytes_eq, nat_le, ◌&&◌}
use Rattle.std.specs.List.{list_all}
use Rattle.std.specs.Str.Parse.{digits_value}
use Rattle.std.proofs.lemmas.Fmt.{decimal_is_IsNumeral, IsAscii-decimal}
use Rattle.std.proofs.lemmas.Bool.{and_parts, leb-true, le-leb}
use Rattle.std.proofs.lemmas.Slice.Eq.{bytes_eq-Decides}
use Rattle.std.specs.Str.{IsUtf8}
use Rattle.std.proofs.lemmas.Str.{IsUtf8-from_ascii}
use Rattle.cp_words.specs.Numbers.{number_in}
use Rattle.cp_replay.specs.Words.{is_content, is_printable}

pub number_is : (least most n : ℕ) (word : List ℕ) → word ≡ decimal n → least ≤ n → n ≤ most → n < 2 ^ 64 → number_in least most word ≡ Some n
unfolding number_in
number_is least most n word spelled low high fits =
    let v : digits_value 10 word ≡ n = ap (digits_value 10) spelled ∙ (decimal_is_IsNumeral n fits).1 in
    let b : bytes_eq word (decimal n) ≡ true = (bytes_eq-Decides word (decimal n)).1 spelled in
    rw v (rw (b, le-leb least n low, le-leb n most high) refl)

decided : (b : Bool) (v : ℕ) → (b ≡ true → ⊥) → cond b (Some v) None ≡ None
decided true v never = absurd (never refl)
decided false v _ = refl

pub number_is_not : (least most : ℕ) (word : List ℕ) → ((n : ℕ) → least ≤ n → n ≤ most → word ≢ decimal n) → number_in least most word ≡ None
unfolding number_in
number_is_not least most word never =
    let v = digits_value 10 word in
    decided _ v (λ t.
    let p = and_parts (bytes_eq word (decimal v) && nat_le least v) (nat_le v most) t in
    let q = and_parts (bytes_eq word (decimal v)) (nat_le least v) p.0 in
    never v (leb-true least v q.1) (leb-true v most p.1) ((bytes_eq-Decides word (decimal v)).0 q.0))

-- bytes that are no text spell no number
pub number_in_none : (least most : ℕ) (word : List ℕ) → most < 2 ^ 64 → ¬ (IsUtf8 word) → number_in least most word ≡ None
number_in_none least most word fits none = number_is_not least most word (λ n low high e. none (subst IsUtf8 (sym e) (IsUtf8-from_ascii (decimal n) (IsAscii-decimal n (omega (arith, high, fits))))))

-- a content is short
pub content_short : (word : List ℕ) → is_content word ≡ true → length word ≤ 65536
content_short word e =
    let p = and_parts (nat_le 1 (length word) && nat_le (length word) 65536) (list_all is_printable word) e in
    leb-true (length word) 65536 (and_parts (nat_le 1 (length word)) (nat_le (length word) 65536) p.0).1

pub ruleset contents = (content_short)

pub ruleset numbers = (number_is, number_is_not, number_in_none)
