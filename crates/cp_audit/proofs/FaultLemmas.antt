-- The least block at which a log fails its tables.
use Rattle.std.proofs.Common.{◌≡◌, ℕ, suc, ◌+◌, ◌<◌, ◌≤◌, Bool, true, false, cond, not, ◌&&◌, ◌||◌, eqb, ltb, leb, List, [], ◌∷◌, ◌++◌, map, length, get_or, Option, Some, None, ◌⊎◌, inl, inr, refl, sym, ap, ◌∙◌, arith}
use Rattle.std.specs.Prelude.{filter, is_none}
use Rattle.std.specs.Option.{option_map_or}
use Rattle.std.proofs.lemmas.Bool.{cases_lt, eqb-true, ltb-true, ltb-false, leb-true, lt-ltb, le-ltb, false≢true, and_parts}
use Rattle.cp_tips.specs.Tip.{Tip}
use Rattle.cp_tips.specs.Table.{TableRow, row_in, row, ascends}
use Rattle.cp_chain.specs.Frame.{Frame}
use Rattle.cp_chain.specs.Log.{LogPart, parts_ascend}
use Rattle.cp_chain.specs.Standing.{reaches}
use Rattle.cp_evidence.specs.Material.{least_of, blocks_in, part_of, part_reaches, rose, log_fault}
use Rattle.cp_audit.specs.Faults.{IsLeast, lacks, astray, least_two}
use Rattle.cp_evidence.proofs.Searches.{all_always, pass_none}
use Rattle.cp_audit.proofs.LookupLemmas.{below_all, part_there}
use Rattle.cp_audit.proofs.RegressLemmas.{Has, least_of_is, passing_has, passing_above, row_has}
use Rattle.cp_audit.proofs.WalkLemmas.{has_place, before_it, count_there}

-- ---- blocks that lack a segment

-- a block that lacks a segment has a row
lacking_has : (before after : List TableRow) (parts : List LogPart) (c : ℕ) → lacks before after parts c ≡ true → Has c (blocks_in after)
lacking_has before after parts c h = go (row_in after c) refl
  where
    grew : rose before after c ≡ true
    grew = (and_parts (is_none (part_of parts c)) (rose before after c) h).1

    go : (o : Option Tip) → row_in after c ≡ o → Has c (blocks_in after)
    go (Some t) e = row_has after c t e
    go None e = absurd (false≢true (sym (rw e (le-ltb (row before c).count 0 (omega arith))) ∙ grew))

by_bool : {G : Type 0} (b : Bool) → (b ≡ true → G) → (b ≡ false → G) → G
by_bool true t f = t refl
by_bool false t f = f refl

not_lacking : (before after : List TableRow) (parts : List LogPart) (c : ℕ) → (Has c (blocks_in after) → lacks before after parts c ≡ false) → lacks before after parts c ≡ false
not_lacking before after parts c h = by_bool (lacks before after parts c) (λ t. h (lacking_has before after parts c t)) (λ f. f)

-- the test by two counts
pub lacks_is : (before after : List TableRow) (parts : List LogPart) (i block old new : ℕ) → ascends after ≡ true → i < length after → block ≡ get_or (blocks_in after) i 0 → old ≡ (row before block).count → new ≡ get_or (map (λ r. r.tip.count) after) i 0
    → lacks before after parts block ≡ (is_none (part_of parts block) && ltb old new)
lacks_is before after parts i block old new up lt is old_is new_is =
    let after_is : (row after block).count ≡ new = count_there after block i up lt (sym is) ∙ sym new_is in
    ap (λ (n : ℕ). is_none (part_of parts block) && ltb n (row after block).count) (sym old_is) ∙ ap (λ (n : ℕ). is_none (part_of parts block) && ltb old n) after_is

pub lacking_found : (before after : List TableRow) (parts : List LogPart) (i block : ℕ) → ascends after ≡ true → i < length (blocks_in after) → block ≡ get_or (blocks_in after) i 0 → lacks before after parts block ≡ true
    → ((k : ℕ) → k < i → lacks before after parts (get_or (blocks_in after) k 0) ≡ false) → IsLeast (lacks before after parts) (Some block)
lacking_found before after parts i block up lt is h earlier = (h, λ c less. not_lacking before after parts c (λ has. let w = before_it after i c up lt has (omega (arith, less, is)) in ap (lacks before after parts) (sym w.2) ∙ earlier w.0 w.1))

pub none_lacking : (before after : List TableRow) (parts : List LogPart) → ((k : ℕ) → k < length (blocks_in after) → lacks before after parts (get_or (blocks_in after) k 0) ≡ false) → IsLeast (lacks before after parts) None
none_lacking before after parts all c = not_lacking before after parts c (λ has. let w = has_place (blocks_in after) c has in ap (lacks before after parts) (sym w.2) ∙ all w.0 w.1)

-- ---- segments that do not reach

abbrev pub part_by : List LogPart → ℕ → LogPart
part_by parts i = get_or parts i (record { block = 0; texts = [] })

-- a segment that is found is one of the parts
part_place : (parts : List LogPart) (c : ℕ) (texts : List (List ℕ)) → part_of parts c ≡ Some texts → (k : ℕ) × (k < length parts) × ((part_by parts k).block ≡ c) × ((part_by parts k).texts ≡ texts)
part_place [] c texts e = absurd cc
part_place (p ∷ ps) c texts e = go (eqb p.block c) refl e (part_place ps c texts)
  where
    go : (x : Bool) → eqb p.block c ≡ x → cond x (Some p.texts) (part_of ps c) ≡ Some texts → (part_of ps c ≡ Some texts → (k : ℕ) × (k < length ps) × ((part_by ps k).block ≡ c) × ((part_by ps k).texts ≡ texts))
        → (k : ℕ) × (k < suc (length ps)) × ((part_by (p ∷ ps) k).block ≡ c) × ((part_by (p ∷ ps) k).texts ≡ texts)
    go true is h rest = (0, omega arith, eqb-true _ _ is, (let same : p.texts ≡ texts = cc in same))
    go false is h rest = let w = rest h in (suc w.0, omega (arith, w.1), w.2, w.3)

part_is_in : (parts : List LogPart) (c : ℕ) (texts : List (List ℕ)) → part_of parts c ≡ Some texts → Has c (map (λ p. p.block) parts)
part_is_in [] c texts e = absurd cc
part_is_in (p ∷ ps) c texts e = go (eqb p.block c) refl e (part_is_in ps c texts)
  where
    go : (x : Bool) → eqb p.block c ≡ x → cond x (Some p.texts) (part_of ps c) ≡ Some texts → (part_of ps c ≡ Some texts → Has c (map (λ p. p.block) ps)) → (p.block ≡ c) ⊎ Has c (map (λ p. p.block) ps)
    go true is h rest = inl (eqb-true _ _ is)
    go false is h rest = inr (rest h)

abbrev pub Reaching : (ℕ → Frame) → List LogPart → ℕ → Type 0
Reaching frame parts k = reaches (frame (part_by parts k).block) (part_by parts k).texts ≡ true

not_astray : (frame : ℕ → Frame) (parts : List LogPart) (c : ℕ) → ((k : ℕ) → k < length parts → (part_by parts k).block ≡ c → Reaching frame parts k) → astray frame parts c ≡ false
not_astray frame parts c h = go (part_of parts c) refl
  where
    go : (o : Option (List (List ℕ))) → part_of parts c ≡ o → option_map_or (λ texts. not (reaches (frame c) texts)) o false ≡ false
    go None e = refl
    go (Some texts) e =
        let w = part_place parts c texts e in
        let reach : reaches (frame (part_by parts w.0).block) (part_by parts w.0).texts ≡ true = h w.0 w.1 w.2 in
        ap not (ap (λ (b : ℕ). reaches (frame b) texts) (sym w.2) ∙ ap (reaches (frame (part_by parts w.0).block)) (sym w.3) ∙ reach)

pub none_astray : (frame : ℕ → Frame) (parts : List LogPart) → ((k : ℕ) → k < length parts → Reaching frame parts k) → IsLeast (astray frame parts) None
none_astray frame parts all c = not_astray frame parts c (λ k lt e. all k lt)

pub astray_found : (frame : ℕ → Frame) (parts : List LogPart) (i : ℕ) → parts_ascend None parts ≡ true → i < length parts → reaches (frame (part_by parts i).block) (part_by parts i).texts ≡ false → ((k : ℕ) → k < i → Reaching frame parts k) → IsLeast (astray frame parts) (Some (part_by parts i).block)
astray_found frame parts i up lt fails earlier = (
  ap (λ (o : Option (List (List ℕ))). option_map_or (λ texts. not (reaches (frame (part_by parts i).block) texts)) o false) (part_there None parts i _ up lt) ∙ ap not fails,
  λ c less. not_astray frame parts c (λ k in_range is. elim (cases_lt k i) [
    | inl before ↦ earlier k before
    | inr ge ↦ elim (cases_lt i k) [
      | inl after ↦ absurd (let above : (part_by parts i).block < (part_by parts k).block = below_all None parts i k _ up after in_range in omega (arith, above, is, less))
      | inr le ↦ absurd (let same : k ≡ i = omega (arith, ge, le) in let one : (part_by parts k).block ≡ (part_by parts i).block = ap (λ (n : ℕ). (part_by parts n).block) same in omega (arith, one, is, less))
    ]
  ]),
)

-- ---- the least of both

-- a block fails where it lacks a segment or has one that does not reach
fails_is : (f : Frame) (o : Option (List (List ℕ))) (grew : Bool) → ((texts : List (List ℕ)) → reaches f texts ≡ true → grew ≡ true) → not (part_reaches f o grew) ≡ ((is_none o && grew) || option_map_or (λ texts. not (reaches f texts)) o false)
fails_is f None true rises = refl
fails_is f None false rises = refl
fails_is f (Some ts) grew rises = go (reaches f ts) grew (rises ts)
  where
    go : (r g : Bool) → (r ≡ true → g ≡ true) → not (g && r) ≡ not r
    go true g h = ap (λ (b : Bool). not (b && true)) (h refl)
    go false true h = refl
    go false false h = refl

either_true : (a b : Bool) → ((a ≡ true) ⊎ (b ≡ true)) → (a || b) ≡ true
either_true a b (inl e) = rw e refl
either_true true b (inr e) = refl
either_true false b (inr e) = e

both_false : (a b : Bool) → a ≡ false → b ≡ false → (a || b) ≡ false
both_false a b e f = rw (e, f) refl

has_left : (c : ℕ) (xs ys : List ℕ) → Has c xs → Has c (xs ++ ys)
has_left c [] ys h = absurd h
has_left c (x ∷ xs) ys (inl e) = inl e
has_left c (x ∷ xs) ys (inr h) = inr (has_left c xs ys h)

has_right : (c : ℕ) (xs ys : List ℕ) → Has c ys → Has c (xs ++ ys)
has_right c [] ys h = h
has_right c (x ∷ xs) ys h = inr (has_right c xs ys h)

module _ (frame : ℕ → Frame) (before after : List TableRow) (parts : List LogPart) (rises : (b : ℕ) (texts : List (List ℕ)) → reaches (frame b) texts ≡ true → rose before after b ≡ true) where
  blocks : List ℕ
  blocks = blocks_in after ++ map (λ p. p.block) parts

  failing : ℕ → Bool
  failing b = not (part_reaches (frame b) (part_of parts b) (rose before after b))

  by_two : (b : ℕ) → failing b ≡ (lacks before after parts b || astray frame parts b)
  unfolding failing
  by_two b = fails_is (frame b) (part_of parts b) (rose before after b) (rises b)

  astray_has : (b : ℕ) → astray frame parts b ≡ true → Has b (map (λ p. p.block) parts)
  astray_has b h = go (part_of parts b) refl h
    where
      go : (o : Option (List (List ℕ))) → part_of parts b ≡ o → option_map_or (λ texts. not (reaches (frame b) texts)) o false ≡ true → Has b (map (λ p. p.block) parts)
      go None e h = absurd (false≢true h)
      go (Some texts) e h = part_is_in parts b texts e

  there : (b : ℕ) → ((lacks before after parts b ≡ true) ⊎ (astray frame parts b ≡ true)) → Has b blocks
  unfolding blocks
  there b (inl h) = has_left b (blocks_in after) (map (λ p. p.block) parts) (lacking_has before after parts b h)
  there b (inr h) = has_right b (blocks_in after) (map (λ p. p.block) parts) (astray_has b h)

  least_is_fault : (b : ℕ) → ((lacks before after parts b ≡ true) ⊎ (astray frame parts b ≡ true)) → ((c : ℕ) → c < b → lacks before after parts c ≡ false) → ((c : ℕ) → c < b → astray frame parts c ≡ false) → Some b ≡ log_fault frame before after parts
  unfolding log_fault blocks failing
  least_is_fault b h low₁ low₂ = sym (least_of_is b (filter failing blocks) (passing_above failing b (λ c lt. by_two c ∙ both_false _ _ (low₁ c lt) (low₂ c lt)) blocks) (passing_has failing b blocks (by_two b ∙ either_true _ _ h) (there b h)))

  none_is_fault : ((c : ℕ) → lacks before after parts c ≡ false) → ((c : ℕ) → astray frame parts c ≡ false) → None ≡ log_fault frame before after parts
  unfolding log_fault blocks failing
  none_is_fault none₁ none₂ = sym (ap least_of (pass_none failing blocks (all_always (λ (c : ℕ). failing c ≡ false) (λ c. by_two c ∙ both_false _ _ (none₁ c) (none₂ c)) blocks)))

  pub fault_is : (lack stray : Option ℕ) → IsLeast (lacks before after parts) lack → IsLeast (astray frame parts) stray → least_two lack stray ≡ log_fault frame before after parts
  fault_is None None a b = none_is_fault a b
  fault_is None (Some s) a b = least_is_fault s (inr b.0) (λ c lt. a c) b.1
  fault_is (Some l) None a b = least_is_fault l (inl a.0) a.1 (λ c lt. b c)
  fault_is (Some l) (Some s) a b = go (ltb l s) refl
    where
      go : (x : Bool) → ltb l s ≡ x → Some (cond x l s) ≡ log_fault frame before after parts
      go true e = let lt : l < s = ltb-true _ _ e in least_is_fault l (inl a.0) a.1 (λ c less. b.1 c (omega (arith, lt, less)))
      go false e = let ge : s ≤ l = ltb-false _ _ e in least_is_fault s (inr b.0) (λ c less. a.1 c (omega (arith, ge, less))) b.1

-- a segment reaches only where the count rises
pub reaching_rises : (f : Frame) (texts : List (List ℕ)) → reaches f texts ≡ true → ltb f.side.before.count f.after.count ≡ true
unfolding reaches
reaching_rises f texts h =
    let a = and_parts (eqb (f.side.before.count + length texts) f.after.count) _ h in
    let b = and_parts (leb 1 (length texts)) _ a.1 in
    let size : f.side.before.count + length texts ≡ f.after.count = eqb-true _ _ a.0 in
    let some : 1 ≤ length texts = leb-true _ _ b.0 in
    lt-ltb _ _ (omega (arith, size, some))
