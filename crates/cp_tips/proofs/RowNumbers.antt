-- A number of a row where it lies.
use Rattle.std.proofs.Common.{◌≡◌, ℕ, ◌<◌, List, length, get_or, sym, ap, subst, ◌∙◌}
use Rattle.std.specs.Prelude.{map}
use Rattle.std.proofs.lemmas.List.{get_or-map, length-map}
use Rattle.cp_tips.specs.Table.{TableRow}
use Rattle.cp_tips.specs.Rows.{row_of}

pub number_is : (number : TableRow → ℕ) (pieces : List (List ℕ)) (rows : List TableRow) (i : ℕ) (d : List ℕ) → map row_of pieces ≡ rows → i < length rows → number (row_of (get_or pieces i d)) ≡ get_or (map number rows) i 0
number_is number pieces rows i d e lt =
    let long : i < length (map row_of pieces) = subst (λ (l : List TableRow). i < length l) (sym e) lt in
    let short : i < length pieces = subst (λ (n : ℕ). i < n) (length-map pieces row_of) long in
    let inner : get_or (map row_of pieces) i (row_of d) ≡ row_of (get_or pieces i d) = get_or-map row_of pieces i d (row_of d) short in
    let outer : get_or (map number (map row_of pieces)) i 0 ≡ number (get_or (map row_of pieces) i (row_of d)) = get_or-map number (map row_of pieces) i (row_of d) 0 long in
    sym (ap number inner) ∙ sym outer ∙ ap (λ (l : List TableRow). get_or (map number l) i 0) e
