-- What the fields of a head say (RFC 9112, section 5, and RFC 9110, sections 5.1, 7.6.1 and 8.6).
use Rattle.std.specs.Prelude.{ℕ, ◌≤◌, Bool, cond, ◌&&◌, ◌||◌, ◌==◌, List, [], ◌∷◌, ◌++◌, length, take, drop, codes, Option, Some, None}
use Rattle.std.specs.List.{list_all}
use Rattle.std.specs.Str.{str_eq_ignore_ascii_case}
use Rattle.std.specs.Str.Parse.{IsNumeral, digits_value}
use Rattle.httparse.specs.Grammar.{is_ows, skip_ows}

-- the values of the fields with this name, in order; names are the same but for ASCII case (RFC 9110, section 5.1)
unfoldable pub values_of : List ℕ → List (List ℕ × List ℕ) → List (List ℕ)
values_of name [] = []
values_of name (field ∷ fields) = cond (str_eq_ignore_ascii_case field.0 name) (field.1 ∷ values_of name fields) (values_of name fields)

-- a Content-Length of 1 to 19 decimal digits (RFC 9110, section 8.6; the bound on the digits is this project's own)
pub record IsLength (text : List ℕ) : Type 0 where
  pub numeral : IsNumeral 10 text
  pub short : length text ≤ 19

-- the length that the values of Content-Length give
abbrev pub length_in : List (List ℕ) → Option ℕ
length_in [] = None
length_in (value ∷ values) = Some (digits_value 10 value)

-- Content-Length has no value, or one that is a length
abbrev pub HasGoodLength : List (List ℕ) → Type 0
HasGoodLength [] = Unit {0}
HasGoodLength (value ∷ []) = IsLength value
HasGoodLength (value ∷ other ∷ values) = ⊥

-- a part is `close`, but for ASCII case and for spaces and tabs round it
abbrev pub is_close : List ℕ → Bool
is_close part = str_eq_ignore_ascii_case (take 5 (skip_ows part)) (codes "close") && list_all is_ows (drop 5 (skip_ows part))

-- one of the parts between commas is `close`, where the first part goes on from these bytes
unfoldable pub close_from : List ℕ → List ℕ → Bool
close_from part [] = is_close part
close_from part (b ∷ bytes) = cond (b == 44) (is_close part || close_from [] bytes) (close_from (part ++ b ∷ []) bytes)

-- one of the parts between commas is `close` (RFC 9110, section 7.6.1)
abbrev pub has_close : List ℕ → Bool
has_close value = close_from [] value
