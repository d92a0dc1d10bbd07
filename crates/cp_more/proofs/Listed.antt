-- A list of pairs that is read and added one after another.
use Rattle.std.proofs.Common.{◌≡◌, ℕ, zero, suc, ◌-◌, ◌<◌, ◌≤◌, Bool, true, false, cond, eqb, ltb, List, [], ◌∷◌, ◌++◌, Option, Some, None, Result, Ok, Err, length, refl, sym, ap, ◌∙◌, subst, arith, append_assoc}
use Rattle.std.specs.Prelude.{not, bytes_eq}
use Rattle.std.specs.Ordering.{nat_cmp}
use Rattle.std.specs.BTreeMap.{is_at}
use Rattle.std.specs.Map.{lookup}
use Rattle.std.specs.Cmp.{unsigned_tied}
use Rattle.std.proofs.lemmas.Cmp.{eq_by_cmp_equiv, nat_cmp_total}
use Rattle.std.proofs.lemmas.Map.Entries.{lookup_head, lookup_tail}
use Rattle.std.proofs.lemmas.Bool.{ne_eqb, eqb-true, ltb-true}
use Rattle.std.proofs.lemmas.Slice.Eq.{bytes_eq-Decides}
use Rattle.std.proofs.lemmas.List.{append-nil, nil_from_length}
use Rattle.cp_bytes.specs.Fields.{◌>>=◌, at_offset, or_left}
use Rattle.cp_bytes.proofs.FieldLemmas.{bind_ok, ok_is, or_left_ok, some_given}
use Rattle.cp_statements.specs.Envelope.{envelope_at, leaf_named}
use Rattle.cp_audit.proofs.HandInLemmas.{envelope_left}
use Rattle.lms_tree.specs.Secret.{leaves_of}
use Rattle.lms_forge.specs.Pairs as forge
use Rattle.lms_forge.specs.Pairs.{text_at}
use Rattle.cp_more.specs.Pairs.{clash, first_of, is_other, pair_at, pair_in, pairs_at, pairs_of, used_by, with_leaf}
use Rattle.cp_more.specs.Listing.{KeepsPair, Lists}
use Rattle.cp_more.specs.declared.list.ListRefusal.TheVariants.{LeafUsed}

-- ---- the list so far

-- pairs that were read, in front of others
abbrev pub behind : List (ℕ × List ℕ) → Result (List (ℕ × List ℕ)) ℕ → Result (List (ℕ × List ℕ)) ℕ
behind front r = r >>= λ others. Ok (front ++ others)

behind_none : (r : Result (List (ℕ × List ℕ)) ℕ) → behind [] r ≡ r
behind_none (Ok x) = refl
behind_none (Err d) = refl

-- the ones so far: the front of all, where the number bounds those that are left; they were added, up to
-- one whose leaf has another text
pub record SoFar (leaves : ℕ) (bytes rest : List ℕ) (start now : forge.Pairs) (used : Option ℕ) : Type 0 where
  pub front : List (ℕ × List ℕ)
  pub left : ℕ
  pub enough : length rest ≤ left
  pub so_far : pairs_at leaves (length bytes) bytes ≡ behind front (pairs_at leaves left rest)
  pub used_is : used ≡ clash [] front
  pub same_key : now.key ≡ start.key
  pub texts : used ≡ None → (q : ℕ) → text_at now.texts q ≡ text_at front q

pub begin : (leaves : ℕ) (bytes : List ℕ) (start : forge.Pairs) → start.texts ≡ [] → SoFar leaves bytes bytes start start None
unfolding clash
begin leaves bytes start empty = record {
  front = [];
  left = length bytes;
  enough = omega arith;
  so_far = sym (behind_none (pairs_at leaves (length bytes) bytes));
  used_is = refl;
  same_key = refl;
  texts = λ none q. ap (λ (l : List (ℕ × List ℕ)). text_at l q) empty;
}

-- ---- a leaf with two texts

first_none : (a : Option ℕ) → first_of a None ≡ a
first_none None = refl
first_none (Some x) = refl

first_assoc : (a b c : Option ℕ) → first_of a (first_of b c) ≡ first_of (first_of a b) c
first_assoc None b c = refl
first_assoc (Some x) b c = refl

clash_push : (before front : List (ℕ × List ℕ)) (p : ℕ × List ℕ) → clash before (front ++ p ∷ []) ≡ first_of (clash before front) (used_by (before ++ front) p)
unfolding clash
clash_push before [] p = first_none (used_by before p) ∙ ap (λ (l : List (ℕ × List ℕ)). used_by l p) (sym (append-nil before))
clash_push before (y ∷ ys) p =
    ap (first_of (used_by before y)) (clash_push (before ++ y ∷ []) ys p)
    ∙ ap (λ (l : List (ℕ × List ℕ)). first_of (used_by before y) (first_of (clash (before ++ y ∷ []) ys) (used_by l p))) (append_assoc before (y ∷ []) ys)
    ∙ first_assoc (used_by before y) (clash (before ++ y ∷ []) ys) (used_by (before ++ y ∷ ys) p)

-- ---- the texts

abbrev or_none : {A : Type 0} → Option A → Option A → Option A
or_none None later = later
or_none (Some x) later = Some x

lookup_push : (test : ℕ → Bool) (front : List (ℕ × List ℕ)) (p : ℕ × List ℕ) → lookup test (front ++ p ∷ []) ≡ or_none (lookup test front) (cond (test p.0) (Some p.1) None)
lookup_push test [] p = go (test p.0) refl
  where
    go : (b : Bool) → test p.0 ≡ b → lookup test (p ∷ []) ≡ or_none (lookup {X = List ℕ} test []) (cond (test p.0) (Some p.1) None)
    go true e = rw e refl
    go false e = rw e refl
lookup_push test (y ∷ ys) p = go (test y.0) refl (lookup_push test ys p)
  where
    go : (b : Bool) → test y.0 ≡ b → lookup test (ys ++ p ∷ []) ≡ or_none (lookup test ys) (cond (test p.0) (Some p.1) None)
        → lookup test (y ∷ (ys ++ p ∷ [])) ≡ or_none (lookup test (y ∷ ys)) (cond (test p.0) (Some p.1) None)
    go true e h = lookup_head test y (ys ++ p ∷ []) e ∙ sym (ap (λ (o : Option (List ℕ)). or_none o (cond (test p.0) (Some p.1) None)) (lookup_head test y ys e))
    go false e h = lookup_tail test y (ys ++ p ∷ []) e ∙ h ∙ sym (ap (λ (o : Option (List ℕ)). or_none o (cond (test p.0) (Some p.1) None)) (lookup_tail test y ys e))

swapped : (a b : ℕ) → is_at (nat_cmp a) b ≡ is_at (nat_cmp b) a
swapped a b = (eq_by_cmp_equiv nat_cmp_total).symm a b

-- the same leaf
is_same : (a b : ℕ) → is_at (nat_cmp a) b ≡ true → a ≡ b
is_same a b e = eqb-true a b (sym (unsigned_tied a b) ∙ e)

-- no earlier pair gives the leaf another text
no_other : (known : Option (List ℕ)) (leaf : ℕ) (text : List ℕ) → cond (is_other known text) (Some leaf) None ≡ None → or_none known (Some text) ≡ Some text
no_other None leaf text e = refl
no_other (Some t) leaf text e = go (bytes_eq t text) refl e
  where
    go : (b : Bool) → bytes_eq t text ≡ b → cond (not b) (Some leaf) None ≡ None → Some t ≡ Some text
    go true is h = ap (λ (l : List ℕ). Some l) ((bytes_eq-Decides t text).0 is)
    go false is h = absurd cc

text_push : (front : List (ℕ × List ℕ)) (p : ℕ × List ℕ) (q : ℕ) → used_by front p ≡ None → text_at (front ++ p ∷ []) q ≡ cond (is_at (nat_cmp p.0) q) (Some p.1) (text_at front q)
text_push front p q unused = lookup_push (is_at (nat_cmp q)) front p ∙ go (is_at (nat_cmp q) p.0) refl
  where
    or_kept : (o : Option (List ℕ)) → or_none o None ≡ o
    or_kept None = refl
    or_kept (Some x) = refl

    go : (b : Bool) → is_at (nat_cmp q) p.0 ≡ b → or_none (text_at front q) (cond b (Some p.1) None) ≡ cond (is_at (nat_cmp p.0) q) (Some p.1) (text_at front q)
    go true e =
        let known : or_none (text_at front p.0) (Some p.1) ≡ Some p.1 = no_other (text_at front p.0) p.0 p.1 unused in
        let here : or_none (text_at front q) (Some p.1) ≡ Some p.1 = ap (λ n. or_none (text_at front n) (Some p.1)) (is_same q p.0 e) ∙ known in
        here ∙ sym (ap (λ b. cond b (Some p.1) (text_at front q)) (sym (swapped q p.0) ∙ e))
    go false e = or_kept (text_at front q) ∙ sym (ap (λ b. cond b (Some p.1) (text_at front q)) (sym (swapped q p.0) ∙ e))

-- ---- one more

not_nil : (rest : List ℕ) → (rest ≡ [] → ⊥) → eqb (length rest) 0 ≡ false
not_nil rest some = ne_eqb _ _ (λ e. some (nil_from_length rest e))

some_left : (leaves n : ℕ) (rest : List ℕ) (p : ℕ × List ℕ) (rest₂ : List ℕ) → (rest ≡ [] → ⊥) → pair_at leaves rest ≡ Ok (p, rest₂) → pairs_at leaves (suc n) rest ≡ behind (p ∷ []) (pairs_at leaves n rest₂)
unfolding pairs_at
some_left leaves n rest p rest₂ some e = rw (not_nil rest some) (rw e (go (pairs_at leaves n rest₂)))
  where
    go : (r : Result (List (ℕ × List ℕ)) ℕ) → (r >>= λ others. Ok (p ∷ others)) ≡ behind (p ∷ []) r
    go (Ok xs) = refl
    go (Err d) = refl

behind_behind : (front : List (ℕ × List ℕ)) (p : ℕ × List ℕ) (r : Result (List (ℕ × List ℕ)) ℕ) → behind front (behind (p ∷ []) r) ≡ behind (front ++ p ∷ []) r
behind_behind front p (Ok xs) = ap (λ (l : List (ℕ × List ℕ)). Ok l) (sym (append_assoc front (p ∷ []) xs))
behind_behind front p (Err d) = refl

-- a pair takes some bytes
pub pair_left : (leaves : ℕ) (rest : List ℕ) (x : (ℕ × List ℕ) × List ℕ) → pair_at leaves rest ≡ Ok x → length x.1 < length rest
unfolding pair_at
pair_left leaves rest x e =
    let a = bind_ok (envelope_at rest) _ x e in
    let b = bind_ok (or_left rest (pair_in leaves a.0.0)) _ x a.2 in
    let made : (ℕ × List ℕ) × List ℕ = (b.0, a.0.1) in
    let same : a.0.1 ≡ x.1 = ap (λ (p : (ℕ × List ℕ) × List ℕ). p.1) (ok_is made x b.2) in
    omega (arith, envelope_left rest a.0 a.1, ap length same)

-- its leaf is one of so many
pub pair_within : (leaves : ℕ) (rest : List ℕ) (x : (ℕ × List ℕ) × List ℕ) → pair_at leaves rest ≡ Ok x → x.0.0 < leaves
unfolding pair_at
pair_within leaves rest x e =
    let a = bind_ok (envelope_at rest) _ x e in
    let b = bind_ok (or_left rest (pair_in leaves a.0.0)) _ x a.2 in
    let made : (ℕ × List ℕ) × List ℕ = (b.0, a.0.1) in
    let same : b.0 ≡ x.0 = ap (λ (p : (ℕ × List ℕ) × List ℕ). p.0) (ok_is made x b.2) in
    subst (λ (p : ℕ × List ℕ). p.0 < leaves) same (named (leaf_named a.0.0.signature) a.0.0.text b.0 (or_left_ok rest (pair_in leaves a.0.0) b.0 b.1))
  where
    named : (leaf : Option ℕ) (text : List ℕ) (p : ℕ × List ℕ) → with_leaf leaves text leaf ≡ Some p → p.0 < leaves
    named None text p h = absurd cc
    named (Some leaf) text p h =
        let g = some_given (ltb leaf leaves) (leaf, text) p h in
        subst (λ (p : ℕ × List ℕ). p.0 < leaves) g.1 (ltb-true leaf leaves g.0)

pub step : (leaves : ℕ) (bytes rest rest₂ : List ℕ) (start now now₂ : forge.Pairs) (used used₂ : Option ℕ) (p : ℕ × List ℕ) → SoFar leaves bytes rest start now used → (rest ≡ [] → ⊥)
    → pair_at leaves rest ≡ Ok (p, rest₂) → KeepsPair now now₂ p used used₂ → SoFar leaves bytes rest₂ start now₂ used₂
step leaves bytes rest rest₂ start now now₂ used used₂ p so some e keeps = go so.left so.enough so.so_far
  where
    shorter : length rest₂ < length rest
    shorter = pair_left leaves rest (p, rest₂) e

    pushed : clash [] (so.front ++ p ∷ []) ≡ first_of used (used_by so.front p)
    pushed = clash_push [] so.front p ∙ ap (λ (u : Option ℕ). first_of u (used_by so.front p)) (sym so.used_is)

    same_used : used ≡ None → used_by now.texts p ≡ used_by so.front p
    same_used none = ap (λ (o : Option (List ℕ)). cond (is_other o p.1) (Some p.0) None) (so.texts none p.0)

    kept : (u u₂ : Option ℕ) → used ≡ u → KeepsPair now now₂ p u u₂
        → (u₂ ≡ clash [] (so.front ++ p ∷ [])) × (now₂.key ≡ start.key) × (u₂ ≡ None → (q : ℕ) → text_at now₂.texts q ≡ text_at (so.front ++ p ∷ []) q)
    kept (Some leaf) u₂ is k = (
      k.0 ∙ ap (λ (u : Option ℕ). first_of u (used_by so.front p)) (sym is) ∙ sym pushed,
      ap (λ (x : forge.Pairs). x.key) k.1 ∙ so.same_key,
      λ none. absurd (never (sym k.0 ∙ none)),
    )
      where
        never : Some leaf ≡ None → ⊥
        never h = absurd cc
    kept None None is k = (
      sym k.0 ∙ same_used is ∙ ap (λ (u : Option ℕ). first_of u (used_by so.front p)) (sym is) ∙ sym pushed,
      k.1.0 ∙ so.same_key,
      λ none q. k.1.1 q ∙ ap (cond (is_at (nat_cmp p.0) q) (Some p.1)) (so.texts is q) ∙ sym (text_push so.front p q (sym (same_used is) ∙ k.0)),
    )
    kept None (Some leaf) is k = (
      sym k.0 ∙ same_used is ∙ ap (λ (u : Option ℕ). first_of u (used_by so.front p)) (sym is) ∙ sym pushed,
      ap (λ (x : forge.Pairs). x.key) k.1 ∙ so.same_key,
      λ none. absurd cc,
    )

    go : (left : ℕ) → length rest ≤ left → pairs_at leaves (length bytes) bytes ≡ behind so.front (pairs_at leaves left rest) → SoFar leaves bytes rest₂ start now₂ used₂
    go zero enough so_far = absurd (omega (arith, enough, shorter))
    go (suc n) enough so_far =
        let k = kept used used₂ refl keeps in
        record {
          front = so.front ++ p ∷ [];
          left = n;
          enough = omega (arith, enough, shorter);
          so_far = so_far ∙ ap (behind so.front) (some_left leaves n rest p rest₂ some e) ∙ behind_behind so.front p (pairs_at leaves n rest₂);
          used_is = k.0;
          same_key = k.1;
          texts = k.2;
        }

-- ---- the end

no_more : (leaves left : ℕ) → pairs_at leaves left [] ≡ Ok []
unfolding pairs_at
no_more leaves zero = refl
no_more leaves (suc n) = refl

pub all_read : (leaves : ℕ) (bytes : List ℕ) (start now : forge.Pairs) (used : Option ℕ) → (so : SoFar leaves bytes [] start now used) → pairs_of leaves bytes ≡ Ok so.front
unfolding pairs_of
all_read leaves bytes start now used so =
    let done : pairs_at leaves (length bytes) bytes ≡ Ok so.front = so.so_far ∙ ap (behind so.front) (no_more leaves so.left) ∙ ap (λ (l : List (ℕ × List ℕ)). Ok l) (append-nil so.front) in
    ap (at_offset bytes) done

first_fails : (leaves n : ℕ) (rest : List ℕ) (d : ℕ) → (rest ≡ [] → ⊥) → pair_at leaves rest ≡ Err d → pairs_at leaves (suc n) rest ≡ Err d
unfolding pairs_at
first_fails leaves n rest d some e = rw (not_nil rest some) (rw e refl)

pub refused : (leaves : ℕ) (bytes rest : List ℕ) (start now : forge.Pairs) (used : Option ℕ) (total at : ℕ) → SoFar leaves bytes rest start now used → (rest ≡ [] → ⊥) → total ≡ length bytes
    → pair_at leaves rest ≡ Err (total - at) → at ≤ total → pairs_of leaves bytes ≡ Err at
unfolding pairs_of
refused leaves bytes rest start now used total at so some whole e within = go so.left so.enough so.so_far
  where
    go : (left : ℕ) → length rest ≤ left → pairs_at leaves (length bytes) bytes ≡ behind so.front (pairs_at leaves left rest) → at_offset bytes (pairs_at leaves (length bytes) bytes) ≡ Err at
    go zero enough so_far = absurd (some (nil_from_length rest (omega (arith, enough))))
    go (suc n) enough so_far =
        let stopped : pairs_at leaves (length bytes) bytes ≡ Err (total - at) = so_far ∙ ap (behind so.front) (first_fails leaves n rest (total - at) some e) in
        let place : length bytes - (total - at) ≡ at = omega (arith, whole, within) in
        ap (at_offset bytes) stopped ∙ ap (λ (k : ℕ). Err k) place

-- ---- what the whole list gives

pub listed : (bytes : List ℕ) (start now : forge.Pairs) → SoFar (leaves_of start.key) bytes [] start now None → Lists start now bytes (Ok tt)
listed bytes start now so = (so.front, all_read (leaves_of start.key) bytes start now None so, sym so.used_is, record { same_key = so.same_key; texts = so.texts refl })

pub listed_twice : (bytes : List ℕ) (start now : forge.Pairs) (leaf : ℕ) → SoFar (leaves_of start.key) bytes [] start now (Some leaf) → Lists start now bytes (Err (LeafUsed leaf))
listed_twice bytes start now leaf so = (so.front, all_read (leaves_of start.key) bytes start now (Some leaf) so, sym so.used_is)

module _ (leaves : ℕ) (bytes rest : List ℕ) (start now : forge.Pairs) (used : Option ℕ) (fit : leaves ≡ leaves_of start.key) (done : rest ≡ []) (so : SoFar leaves bytes rest start now used) where
  at_end : (u : Option ℕ) → used ≡ u → SoFar (leaves_of start.key) bytes [] start now u
  at_end u is = subst (λ n. SoFar n bytes [] start now u) fit (subst (λ (r : List ℕ). SoFar leaves bytes r start now u) done (subst (λ (o : Option ℕ). SoFar leaves bytes rest start now o) is so))

  pub ends_listed : used ≡ None → Lists start now bytes (Ok tt)
  ends_listed is = listed bytes start now (at_end None is)

  pub ends_twice : (leaf : ℕ) → used ≡ Some leaf → Lists start now bytes (Err (LeafUsed leaf))
  ends_twice leaf is = listed_twice bytes start now leaf (at_end (Some leaf) is)
