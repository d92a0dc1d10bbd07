-- Where no rule is broken the segment is legal.
use Rattle.std.proofs.Common.{◌≡◌, ℕ, suc, ◌+◌, ◌<◌, Bool, true, false, not, ◌&&◌, ◌||◌, eqb, ltb, List, [], ◌∷◌, ◌++◌, length, get_or, take, Result, Ok, Err, refl, sym, ap, ◌∙◌, arith}
use Rattle.std.specs.Prelude.{bytes_eq}
use Rattle.std.specs.List.{list_any}
use Rattle.std.proofs.lemmas.List.{length-append, take_at, get_or_at, get_or_append_left}
use Rattle.std.proofs.lemmas.Bool.{and_parts, eqb-true, eq-eqb, lt-ltb, false≢true}
use Rattle.std.proofs.lemmas.Slice.Eq.{bytes_eq-Decides}
use Rattle.cp_statements.specs.Entry.{Entry, entry_of}
use Rattle.cp_families.specs.Writers.{writer}
use Rattle.cp_chain.specs.Frame.{Frame}
use Rattle.cp_chain.specs.Legal.{ok_and, Put, same_put, put_at, put_by, latest, is_call, LegalFrom, Legal}
use Rattle.cp_chain.specs.Rules.{Rule, text_at, broken}
use Rattle.cp_chain.specs.Rules.Rule.{Text, Block, Epoch, Position, Latest, Version, Writer, Repeat, LastTip}

-- ---- a test that fails

fails : (a p : Bool) → a ≡ true → ((a && p) && eqb 0 0) ≡ false → p ≡ false
fails true true e h = absurd (false≢true (sym h))
fails true false e h = refl
fails false p e h = absurd (false≢true e)

fails_two : (a p : Bool) → a ≡ true → (a && p) ≡ false → p ≡ false
fails_two true p e h = h
fails_two false p e h = absurd (false≢true e)

not_false : (b : Bool) → not b ≡ false → b ≡ true
not_false true h = refl
not_false false h = absurd (false≢true (sym h))

same_put_true : (a b : Put) → same_put a b ≡ true → a ≡ b
same_put_true a b h =
    let p = and_parts (eqb a.version b.version) (bytes_eq a.content b.content) h in
    ap (λ (v : ℕ). record { version = v; content = a.content }) (eqb-true _ _ p.0) ∙ ap (λ (c : List ℕ). record { version = b.version; content = c }) ((bytes_eq-Decides _ _).0 p.1)

none_any : {A : Type 0} (p : A → Bool) (xs : List A) (d : A) → ((j : ℕ) → j < length xs → p (get_or xs j d) ≡ false) → list_any p xs ≡ false
none_any p [] d h = refl
none_any p (x ∷ xs) d h = both (p x) (list_any p xs) (h 0 (omega arith)) (none_any p xs d (λ j lt. h (suc j) (omega (arith, lt))))
  where
    both : (a b : Bool) → a ≡ false → b ≡ false → (a || b) ≡ false
    both true b e f = e
    both false b e f = f

-- a text that is an entry
read_or : (r : Result Entry ℕ) → not (ok_and r (λ e. true)) ≡ false → (e : Entry) × (r ≡ Ok e)
read_or (Ok e) h = (e, refl)
read_or (Err d) h = absurd (false≢true (sym h))

at_ok : (r : Result Entry ℕ) (e : Entry) (p : Entry → Bool) → r ≡ Ok e → ok_and r p ≡ false → p e ≡ false
at_ok r e p is h = ap (λ (x : Result Entry ℕ). ok_and x p) (sym is) ∙ h

pub unbroken_legal : (f : Frame) (ts : List (List ℕ)) → ((rule : Rule) (i other : ℕ) → broken f ts rule i other ≡ false) → Legal f ts
unfolding broken
unbroken_legal f ts whole = record { each = each; tip = tip }
  where
    tip : latest (put_at f.side.before) ts ≡ put_at f.after
    tip = same_put_true _ _ (not_false _ (fails (eqb (length ts) (length ts)) _ (eq-eqb _ _ refl) (whole LastTip (length ts) 0)))

    each : LegalFrom f.side ts
    each front x back e =
        let i : ℕ = length front in
        let size : length ts ≡ length (front ++ x ∷ back) = ap length e in
        let lt : ltb (length front) (length ts) ≡ true = lt-ltb _ _ (omega (arith, size, length-append front (x ∷ back))) in
        let at : text_at ts i ≡ x = ap (λ (l : List (List ℕ)). text_at l i) e ∙ get_or_at front x back [] i refl in
        let taken : take i ts ≡ front = ap (take i) e ∙ take_at front (x ∷ back) i refl in
        let read = read_or (entry_of (text_at ts i)) (fails _ _ lt (whole Text i 0)) in
        let d : Entry = read.0 in
        let is : entry_of (text_at ts i) ≡ Ok d = read.1 in
        let block = at_ok (entry_of (text_at ts i)) d (λ e. not (eqb e.block f.side.block)) is (fails _ _ lt (whole Block i 0)) in
        let epoch = at_ok (entry_of (text_at ts i)) d (λ e. not (eqb e.epoch f.side.epoch)) is (fails _ _ lt (whole Epoch i 0)) in
        let position = at_ok (entry_of (text_at ts i)) d (λ e. not (eqb e.position (f.side.before.count + i))) is (fails _ _ lt (whole Position i 0)) in
        let newest = at_ok (entry_of (text_at ts i)) d (λ e. eqb e.kind 2 && not (same_put (put_by e) (latest (put_at f.side.before) (take i ts)))) is (fails _ _ lt (whole Latest i 0)) in
        let version = at_ok (entry_of (text_at ts i)) d (λ e. eqb e.kind 1 && not (eqb e.version ((latest (put_at f.side.before) (take i ts)).version + 1))) is (fails _ _ lt (whole Version i 0)) in
        let signed = at_ok (entry_of (text_at ts i)) d (λ e. eqb e.kind 1 && not (writer f.side.families f.side.store e)) is (fails _ _ lt (whole Writer i 0)) in
        let seen : (j : ℕ) → j < length front → is_call d.client d.nonce (get_or front j []) ≡ false = λ j below.
        let r = at_ok (entry_of (text_at ts i)) d (λ e. ltb j i && is_call e.client e.nonce (text_at ts j)) is (fails_two _ _ lt (whole Repeat i j)) in
        let same : get_or ts j [] ≡ get_or front j [] = ap (λ (l : List (List ℕ)). get_or l j []) e ∙ get_or_append_left front (x ∷ back) [] j below in
        ap (is_call d.client d.nonce) (sym same) ∙ fails_two (ltb j i) _ (lt-ltb _ _ below) r in (
          d,
          ap entry_of (sym at) ∙ is,
          record {
            block = eqb-true _ _ (not_false _ block);
            epoch = eqb-true _ _ (not_false _ epoch);
            position = eqb-true _ _ (not_false _ position);
            version = λ kind. eqb-true _ _ (not_false _ (fails_two _ _ (eq-eqb _ _ kind) version)) ∙ ap (λ (l : List (List ℕ)). (latest (put_at f.side.before) l).version + 1) taken;
            writer_signed = λ kind. not_false _ (fails_two _ _ (eq-eqb _ _ kind) signed);
            latest_put = λ kind. same_put_true _ _ (not_false _ (fails_two _ _ (eq-eqb _ _ kind) newest)) ∙ ap (latest (put_at f.side.before)) taken;
            no_repeat = none_any (is_call d.client d.nonce) front [] seen;
          },
        )
