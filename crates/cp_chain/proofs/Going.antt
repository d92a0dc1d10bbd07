-- The texts one after another, none of which breaks a rule so far.
use Rattle.std.proofs.Common.{◌≡◌, ℕ, ◌+◌, ◌-◌, ◌≤◌, List, [], ◌∷◌, length, take, drop, Some, None, sym, ap, ◌∙◌, arith}
use Rattle.std.proofs.lemmas.List.{take_all}
use Rattle.cp_chain.specs.Frame.{Frame}
use Rattle.cp_chain.specs.Legal.{Put, put_at, latest}
use Rattle.cp_chain.specs.Pass.{fault_at, fault_behind}
use Rattle.cp_chain.specs.Rules.{Found, from_on, first_fault}
use Rattle.cp_chain.proofs.Chain.{latest_nil}
use Rattle.cp_chain.proofs.Cursors.{turn, at_end}
use Rattle.cp_chain.proofs.Passes.{first_fault-on, goes_on, stops_at, ends_at, at_last}

-- what is left of the texts at place i, and the latest put
pub record Gone (f : Frame) (ts : List (List ℕ)) (i : ℕ) (rest : List (List ℕ)) (carried : Put) : Type 0 where
  pub left : rest ≡ drop i ts
  pub within : i ≤ length ts
  pub put : carried ≡ latest (put_at f.side.before) (take i ts)
  pub unbroken : first_fault f ts ≡ from_on (fault_at f ts) (length ts - i) i

pub gone_none : (f : Frame) (ts rest : List (List ℕ)) (put : Put) → rest ≡ ts → put ≡ put_at f.side.before → Gone f ts 0 rest put
gone_none f ts rest put all first =
    let whole : length ts ≡ length ts - 0 = omega arith in
    record {
      left = all;
      within = omega arith;
      put = first ∙ sym (latest_nil (put_at f.side.before));
      unbroken = first_fault-on f ts ∙ ap (λ (n : ℕ). from_on (fault_at f ts) n 0) whole;
    }

pub gone_one : (f : Frame) (ts : List (List ℕ)) (i : ℕ) (rest more : List (List ℕ)) (text : List ℕ) (put next : Put) → Gone f ts i rest put → rest ≡ text ∷ more → fault_at f ts i ≡ None → next ≡ latest (put_at f.side.before) (take (i + 1) ts) → Gone f ts (i + 1) more next
gone_one f ts i rest more text put next gone split none carried =
    let t = turn ts i text more (sym gone.left ∙ split) in
    let less : length ts - i ≡ length ts - (i + 1) + 1 = omega (arith, t.within) in
    record {
      left = t.behind;
      within = omega (arith, t.within);
      put = carried;
      unbroken = gone.unbroken ∙ goes_on (fault_at f ts) (length ts - i) (length ts - (i + 1)) i less none;
    }

-- a fault at this place is the first
pub gone_stops : (f : Frame) (ts : List (List ℕ)) (i : ℕ) (rest : List (List ℕ)) (put : Put) (x : Found) → Gone f ts i rest put → fault_at f ts i ≡ Some x → Some x ≡ first_fault f ts
gone_stops f ts i rest put x gone here = sym (gone.unbroken ∙ stops_at (fault_at f ts) (length ts - i) i x here)

-- where none are left, the fault behind them is the first
pub gone_ends : (f : Frame) (ts : List (List ℕ)) (i : ℕ) (rest : List (List ℕ)) (put : Put) (end : ℕ) → Gone f ts i rest put → rest ≡ [] → end ≡ length ts → fault_behind f put end ≡ first_fault f ts
gone_ends f ts i rest put end gone none last =
    let past = at_end ts i (sym gone.left ∙ none) in
    let here : length ts ≡ i = omega (arith, past, gone.within) in
    let carried : put ≡ latest (put_at f.side.before) ts = gone.put ∙ ap (latest (put_at f.side.before)) (take_all i ts (omega (arith, past))) in
    at_last f ts end put last carried ∙ ap (fault_at f ts) here ∙ sym (gone.unbroken ∙ ends_at (fault_at f ts) (length ts - i) i (omega (arith, here)))
