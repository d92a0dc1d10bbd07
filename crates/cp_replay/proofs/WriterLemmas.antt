-- The writers of lines, one line after another.
use Rattle.std.proofs.Common.{◌≡◌, ℕ, Bool, true, false, cond, suc, ◌+◌, ◌<◌, ◌≤◌, List, [], ◌∷◌, ◌++◌, length, drop, get_or, ap, sym, ◌∙◌, arith, drop-cons}
use Rattle.std.specs.Prelude.{filter}
use Rattle.std.proofs.lemmas.List.{drop_all}
use Rattle.std.proofs.lemmas.List.Elements.{filter-append}
use Rattle.cp_families.specs.Families.{family_text}
use Rattle.cp_replay.specs.Writers.{is_before, is_other, is_same, with_writer, with_line, with_lines, row_for, rows_text}
use Rattle.cp_replay.specs.declared.line.Line.{Line}
use Rattle.cp_replay.specs.declared.line.Line.TheVariants.{Put, Get, Close, CloseWithout, At}
use Rattle.cp_replay.specs.declared.writer.Writer.{Writer}

pub lines_next : (ws : List Writer) (lines : List Line) (i j : ℕ) (line : Line) → i < length lines → line ≡ get_or lines i line → j ≡ i + 1
    → with_lines ws (drop i lines) ≡ with_lines (with_line ws line) (drop j lines)
unfolding with_lines
lines_next ws lines i j line inside is next =
    let after : suc i ≡ j = omega (arith, next) in
    ap (with_lines ws) (drop-cons lines i line inside) ∙ ap (λ l. with_lines (with_line ws l) (drop (suc i) lines)) (sym is) ∙ ap (λ n. with_lines (with_line ws line) (drop n lines)) after

pub lines_end : (ws : List Writer) (lines : List Line) (i : ℕ) → length lines ≤ i → with_lines ws (drop i lines) ≡ ws
unfolding with_lines
lines_end ws lines i past = ap (with_lines ws) (drop_all i lines past)

pub rows_next : (key : List ℕ) (ws : List Writer) (i j : ℕ) (w : Writer) → i < length ws → w ≡ get_or ws i w → j ≡ i + 1
    → rows_text key (drop i ws) ≡ family_text (row_for key w) ++ rows_text key (drop j ws)
rows_next key ws i j w inside is next =
    let after : suc i ≡ j = omega (arith, next) in
    ap (rows_text key) (drop-cons ws i w inside) ∙ ap (λ l. family_text (row_for key l) ++ rows_text key (drop (suc i) ws)) (sym is) ∙ ap (λ n. family_text (row_for key w) ++ rows_text key (drop n ws)) after

pub rows_end : (key : List ℕ) (ws : List Writer) (i : ℕ) → length ws ≤ i → rows_text key (drop i ws) ≡ []
rows_end key ws i past = ap (rows_text key) (drop_all i ws past)

few_in : (b c : Bool) (n m : ℕ) (x w : Writer) (xs ys : List Writer) → length ys ≤ length xs + 1 → length (cond b (x ∷ ys) (cond c (x ∷ xs) (w ∷ (x ∷ xs)))) ≤ length (x ∷ xs) + 1
few_in true c n m x w xs ys le = omega (arith, le)
few_in false true n m x w xs ys le = omega arith
few_in false false n m x w xs ys le = omega arith

few_more : (xs : List Writer) (w : Writer) → length (with_writer xs w) ≤ length xs + 1
unfolding with_writer
few_more [] w = omega arith
few_more (x ∷ xs) w = few_in (is_before x w) (is_same x w) 0 0 x w xs (with_writer xs w) (few_more xs w)

few_line : (xs : List Writer) (line : Line) → length (with_line xs line) ≤ length xs + 1
few_line xs (Put client block nonce version content) = few_more xs _
few_line xs (Get client block nonce) = omega arith
few_line xs Close = omega arith
few_line xs (CloseWithout client) = omega arith
few_line xs (At epoch) = omega arith

pub few_lines : (xs : List Writer) (lines : List Line) → length (with_lines xs lines) ≤ length xs + length lines
unfolding with_lines
few_lines xs [] = omega arith
few_lines xs (line ∷ lines) = omega (arith, few_lines (with_line xs line) lines, few_line xs line)

-- no more writers than lines
pub few_writers : (lines : List Line) (ws : List Writer) → ws ≡ with_lines [] lines → length ws ≤ length lines
few_writers lines ws e = omega (arith, ap length e, few_lines [] lines)

pub ruleset each_line = (lines_next, lines_end, few_writers)

pub ruleset each_row = (rows_next, rows_end)

pub others_next : (client : ℕ) (ws : List Writer) (i j : ℕ) (w : Writer) → i < length ws → w ≡ get_or ws i w → j ≡ i + 1
    → filter (is_other client) (drop i ws) ≡ filter (is_other client) (w ∷ []) ++ filter (is_other client) (drop j ws)
others_next client ws i j w inside is next =
    let after : suc i ≡ j = omega (arith, next) in
    ap (filter (is_other client)) (drop-cons ws i w inside) ∙ ap (λ l. filter (is_other client) (l ∷ drop (suc i) ws)) (sym is) ∙ filter-append (is_other client) (w ∷ []) (drop (suc i) ws)
    ∙ ap (λ n. filter (is_other client) (w ∷ []) ++ filter (is_other client) (drop n ws)) after

pub others_end : (client : ℕ) (ws : List Writer) (i : ℕ) → length ws ≤ i → filter (is_other client) (drop i ws) ≡ []
others_end client ws i past = ap (filter (is_other client)) (drop_all i ws past)

pub ruleset each_other = (others_next, others_end)
