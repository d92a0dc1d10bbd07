-- The laws of segments.
use Rattle.std.proofs.Common.{◌≡◌, ℕ, zero, suc, ◌+◌, ◌<◌, Bool, true, false, not, ◌&&◌, eqb, ltb, List, [], ◌∷◌, ◌++◌, length, get_or, take, Option, Some, None, Result, Ok, Err, refl, sym, ap, ◌∙◌, arith}
use Rattle.std.specs.Prelude.{◌≢◌, filter_map, unwrap_or}
use Rattle.std.specs.List.{list_any, AllByRecursion, Contains}
use Rattle.sha2.specs.Sha256.{sha256}
use Rattle.sha2.proofs.Facts256.{length-sha256}
use Rattle.std.proofs.lemmas.List.{length-take-le, get_or-take}
use Rattle.std.proofs.lemmas.List.Elements.{filter_map-append, Contains-append_left, Contains-append_right}
use Rattle.std.proofs.lemmas.Bool.{and_parts, or_parts, eqb-true, eq-eqb, ltb-true, false≢true, false_from_ne_true}
use Rattle.std.proofs.lemmas.Slice.Eq.{bytes_eq-Decides}
use Rattle.cp_bytes.specs.Hashes.{head, head_after, chain_text, chain_texts, CollisionFree}
use Rattle.cp_statements.specs.Entry.{Entry, entry_of}
use Rattle.cp_families.specs.Writers.{writer}
use Rattle.cp_chain.specs.Frame.{Side, Frame}
use Rattle.cp_chain.specs.Legal.{ok_and, Put, same_put, put_read, put_in, last_or, put_at, put_by, latest, is_call, Follows, FollowsText, LegalFrom, Legal}
use Rattle.cp_chain.specs.Rules.{Rule, text_at, broken}
use Rattle.cp_chain.specs.Rules.Rule.{Text, Block, Epoch, Position, Latest, Version, Writer, Repeat, LastTip}
use Rattle.cp_chain.specs.Standing.{reaches}
use Rattle.cp_chain.proofs.Each.{each_nil, each_push, each_front, each_last, each_at}

-- ---- the latest put

last_or-append : {A : Type 0} (d : A) (xs ys : List A) → last_or d (xs ++ ys) ≡ last_or (last_or d xs) ys
last_or-append d [] ys = refl
last_or-append d (x ∷ xs) ys = last_or-append x xs ys

pub latest-append : (p : Put) (xs ys : List (List ℕ)) → latest p (xs ++ ys) ≡ latest (latest p xs) ys
unfolding latest
latest-append p xs ys = ap (last_or p) (filter_map-append put_in xs ys) ∙ last_or-append p (filter_map put_in xs) (filter_map put_in ys)

pub latest_nil : (p : Put) → latest p [] ≡ p
unfolding latest
latest_nil p = refl

pub latest-one : (p : Put) (text : List ℕ) → latest p (text ∷ []) ≡ unwrap_or (put_in text) p
unfolding latest
latest-one p text = go (put_in text)
  where
    go : (o : Option Put) → last_or p (filter_map (λ (t : Unit {0}). o) (tt ∷ [])) ≡ unwrap_or o p
    go None = refl
    go (Some q) = refl

-- ---- what the last text makes of head and latest put

pub head_by_last : (h : List ℕ) (ts : List (List ℕ)) (t : List ℕ) → head_after h (ts ++ t ∷ []) ≡ sha256 (chain_text (head_after h ts) t)
unfolding head
head_by_last h [] t = refl
head_by_last h (x ∷ ts) t = head_by_last (head h x) ts t

its_put : (d : Put) (r : Result Entry ℕ) (e : Entry) → r ≡ Ok e → e.kind ≡ 1 → unwrap_or (put_read r) d ≡ put_by e
its_put d r e is put = rw is (rw (eq-eqb e.kind 1 put) refl)

no_put : (d : Put) (r : Result Entry ℕ) → ((e : Entry) → r ≡ Ok e → e.kind ≢ 1) → unwrap_or (put_read r) d ≡ d
no_put d (Err left) other = refl
no_put d (Ok e) other = rw (false_from_ne_true (eqb e.kind 1) (λ is. other e refl (eqb-true _ _ is))) refl

latest_by_last : (p : Put) (ts : List (List ℕ)) (t : List ℕ) → latest p (ts ++ t ∷ []) ≡ unwrap_or (put_in t) (latest p ts)
latest_by_last p ts t = latest-append p ts (t ∷ []) ∙ latest-one (latest p ts) t

pub latest_at_put : (p : Put) (ts : List (List ℕ)) (t : List ℕ) (e : Entry) → entry_of t ≡ Ok e → e.kind ≡ 1 → latest p (ts ++ t ∷ []) ≡ put_by e
latest_at_put p ts t e is put = latest_by_last p ts t ∙ its_put (latest p ts) (entry_of t) e is put

pub latest_at_other : (p : Put) (ts : List (List ℕ)) (t : List ℕ) → ((e : Entry) → entry_of t ≡ Ok e → e.kind ≢ 1) → latest p (ts ++ t ∷ []) ≡ latest p ts
latest_at_other p ts t other = latest_by_last p ts t ∙ no_put (latest p ts) (entry_of t) other

-- ---- a segment grows by one text exactly where the text may come next

pub legal_nil : (s : Side) → LegalFrom s []
legal_nil s = each_nil (FollowsText s)

pub legal_push : (s : Side) (ts : List (List ℕ)) (t : List ℕ) → LegalFrom s ts → FollowsText s ts t → LegalFrom s (ts ++ t ∷ [])
legal_push s ts t legal last = each_push (FollowsText s) ts t legal last

pub legal_only : (s : Side) (ts : List (List ℕ)) (t : List ℕ) → LegalFrom s (ts ++ t ∷ []) → LegalFrom s ts × FollowsText s ts t
legal_only s ts t legal = (each_front (FollowsText s) ts (t ∷ []) legal, each_last (FollowsText s) ts t legal)

-- ---- no rule is broken in a legal segment

same_put_is : (a b : Put) → a ≡ b → same_put a b ≡ true
same_put_is a b e = rw e (rw (eq-eqb b.version b.version refl, (bytes_eq-Decides b.content b.content).1 refl) refl)

-- what the test at a place says of the entry that is there
at_entry : (s : Side) (ts : List (List ℕ)) (i : ℕ) (p : Entry → Bool) → LegalFrom s ts → (ltb i (length ts) && ok_and (entry_of (text_at ts i)) p) ≡ true
    → (i < length ts) × (e : Entry) × (entry_of (text_at ts i) ≡ Ok e) × Follows s (take i ts) e × (p e ≡ true)
at_entry s ts i p legal h =
    let b = and_parts _ _ h in
    let lt = ltb-true _ _ b.0 in
    let w = each_at (FollowsText s) ts legal i [] lt in
    (lt, w.0, w.1, w.2, rw w.1 at b.1)

not_is : (b : Bool) → not b ≡ true → b ≡ true → ⊥
not_is true h e = false≢true h
not_is false h e = false≢true e

pub list_any_at : {A : Type 0} (p : A → Bool) (xs : List A) (i : ℕ) (d : A) → list_any p xs ≡ false → i < length xs → p (get_or xs i d) ≡ false
list_any_at p [] i d none lt = absurd (omega (arith, lt))
list_any_at p (x ∷ xs) zero d none lt = (or_parts _ _ none).0
list_any_at p (x ∷ xs) (suc i) d none lt = list_any_at p xs i d (or_parts _ _ none).1 (omega (arith, lt))

pub legal_unbroken : (f : Frame) (ts : List (List ℕ)) (rule : Rule) (i other : ℕ) → Legal f ts → broken f ts rule i other ≡ true → ⊥
unfolding broken
legal_unbroken f ts Text i other legal h =
    let b = and_parts _ _ (and_parts _ _ h).0 in
    let w = each_at (FollowsText f.side) ts legal.each i [] (ltb-true _ _ b.0) in
    not_is _ b.1 (rw w.1 refl)
legal_unbroken f ts Block i other legal h =
    let a = at_entry f.side ts i (λ e. not (eqb e.block f.side.block)) legal.each (and_parts _ _ h).0 in
    not_is _ a.4 (eq-eqb _ _ a.3.block)
legal_unbroken f ts Epoch i other legal h =
    let a = at_entry f.side ts i (λ e. not (eqb e.epoch f.side.epoch)) legal.each (and_parts _ _ h).0 in
    not_is _ a.4 (eq-eqb _ _ a.3.epoch)
legal_unbroken f ts Position i other legal h =
    let a = at_entry f.side ts i (λ e. not (eqb e.position (f.side.before.count + i))) legal.each (and_parts _ _ h).0 in
    let len : length (take i ts) ≡ i = length-take-le i ts (omega (arith, a.0)) in
    not_is _ a.4 (eq-eqb _ _ (omega (arith, a.3.position, len)))
legal_unbroken f ts Latest i other legal h =
    let a = at_entry f.side ts i (λ e. eqb e.kind 2 && not (same_put (put_by e) (latest (put_at f.side.before) (take i ts)))) legal.each (and_parts _ _ h).0 in
    let b = and_parts _ _ a.4 in
    not_is _ b.1 (same_put_is _ _ (a.3.latest_put (eqb-true _ _ b.0)))
legal_unbroken f ts Version i other legal h =
    let a = at_entry f.side ts i (λ e. eqb e.kind 1 && not (eqb e.version ((latest (put_at f.side.before) (take i ts)).version + 1))) legal.each (and_parts _ _ h).0 in
    let b = and_parts _ _ a.4 in
    not_is _ b.1 (eq-eqb _ _ (a.3.version (eqb-true _ _ b.0)))
legal_unbroken f ts Writer i other legal h =
    let a = at_entry f.side ts i (λ e. eqb e.kind 1 && not (writer f.side.families f.side.store e)) legal.each (and_parts _ _ h).0 in
    let b = and_parts _ _ a.4 in
    not_is _ b.1 (a.3.writer_signed (eqb-true _ _ b.0))
legal_unbroken f ts Repeat i other legal h =
    let a = at_entry f.side ts i (λ e. ltb other i && is_call e.client e.nonce (text_at ts other)) legal.each h in
    let b = and_parts _ _ a.4 in
    let lt : other < i = ltb-true _ _ b.0 in
    let len : length (take i ts) ≡ i = length-take-le i ts (omega (arith, a.0)) in
    let none = list_any_at (is_call a.1.client a.1.nonce) (take i ts) other [] a.3.no_repeat (omega (arith, lt, len)) in
    let same : get_or (take i ts) other [] ≡ get_or ts other [] = get_or-take i ts other [] lt in
    false≢true (sym none ∙ ap (is_call a.1.client a.1.nonce) same ∙ b.1)
legal_unbroken f ts LastTip i other legal h =
    not_is _ (and_parts _ _ (and_parts _ _ h).0).1 (same_put_is _ _ legal.tip)

-- ---- two segments that reach one head are one, where no two of their chain texts share a digest

pub same_parts : (h k x y : List ℕ) → length h ≡ length k → h ++ x ≡ k ++ y → (h ≡ k) × (x ≡ y)
same_parts [] [] x y l e = (refl, e)
same_parts [] (b ∷ k) x y l e = absurd (omega (arith, l))
same_parts (a ∷ h) [] x y l e = absurd (omega (arith, l))
same_parts (a ∷ h) (b ∷ k) x y l e =
    let tails : h ++ x ≡ k ++ y = cc in
    let lengths : length h ≡ length k = omega (arith, l) in
    let r = same_parts h k x y lengths tails in
    let first : a ≡ b = cc in
    (cc, r.1)

pub head_length : (h t : List ℕ) → length (head h t) ≡ 32
unfolding head
head_length h t = length-sha256 (chain_text h t)

pub head_after_length : (h : List ℕ) (ts : List (List ℕ)) → length h ≡ 32 → length (head_after h ts) ≡ 32
head_after_length h [] l = l
head_after_length h (t ∷ ts) l = head_after_length (head h t) ts (head_length h t)

pub same_segments : (P : List ℕ → Type 0) → CollisionFree P → (h k : List ℕ) (xs ys : List (List ℕ)) → length h ≡ length k → length xs ≡ length ys
    → AllByRecursion P (chain_texts h xs) → AllByRecursion P (chain_texts k ys) → head_after h xs ≡ head_after k ys → (h ≡ k) × (xs ≡ ys)
unfolding head
same_segments P apart h k [] [] l n ax ay e = (e, refl)
same_segments P apart h k [] (y ∷ ys) l n ax ay e = absurd (omega (arith, n))
same_segments P apart h k (x ∷ xs) [] l n ax ay e = absurd (omega (arith, n))
same_segments P apart h k (x ∷ xs) (y ∷ ys) l n ax ay e =
    let lengths : length xs ≡ length ys = omega (arith, n) in
    let wide : length (head h x) ≡ length (head k y) = head_length h x ∙ sym (head_length k y) in
    let r = same_segments P apart (head h x) (head k y) xs ys wide lengths ax.1 ay.1 e in
    let c : chain_text h x ≡ chain_text k y = apart (chain_text h x) (chain_text k y) ax.0 ay.0 r.0 in
    let parts : h ++ x ≡ k ++ y = cc in
    let p = same_parts h k x y l parts in
    (p.0, ap (λ (t : List ℕ). t ∷ xs) p.1 ∙ ap (λ (ts : List (List ℕ)). y ∷ ts) r.1)

each_within : (zs xs : List (List ℕ)) → ((x : List ℕ) → Contains xs x → Contains zs x) → AllByRecursion (Contains zs) xs
each_within zs [] h = tt
each_within zs (x ∷ xs) h = (h x (0, omega arith, refl), each_within zs xs (λ y c. h y (suc c.0, omega (arith, c.1), c.2)))

pub one_way : (g h : List ℕ) (xs ys : List (List ℕ)) → length g ≡ length h → length xs ≡ length ys → CollisionFree (Contains (chain_texts g xs ++ chain_texts h ys)) → head_after g xs ≡ head_after h ys → (g ≡ h) × (xs ≡ ys)
one_way g h xs ys wide long apart e =
    same_segments (Contains (chain_texts g xs ++ chain_texts h ys)) apart g h xs ys wide long
    (each_within (chain_texts g xs ++ chain_texts h ys) (chain_texts g xs) (λ x c. Contains-append_left (chain_texts g xs) (chain_texts h ys) x c))
    (each_within (chain_texts g xs ++ chain_texts h ys) (chain_texts h ys) (λ x c. Contains-append_right (chain_texts g xs) (chain_texts h ys) x c))
    e

pub one_reaches : (f : Frame) (xs ys : List (List ℕ)) → CollisionFree (Contains (chain_texts f.side.before.head xs ++ chain_texts f.side.before.head ys)) → reaches f xs ≡ true → reaches f ys ≡ true → xs ≡ ys
unfolding reaches
one_reaches f xs ys apart rx ry =
    let x = and_parts (eqb (f.side.before.count + length xs) f.after.count) _ rx in
    let y = and_parts (eqb (f.side.before.count + length ys) f.after.count) _ ry in
    let long_x : f.side.before.count + length xs ≡ f.after.count = eqb-true _ _ x.0 in
    let long_y : f.side.before.count + length ys ≡ f.after.count = eqb-true _ _ y.0 in
    let size : length xs ≡ length ys = omega (arith, long_x, long_y) in
    let head_x = (bytes_eq-Decides (head_after f.side.before.head xs) f.after.head).0 (and_parts _ _ x.1).1 in
    let head_y = (bytes_eq-Decides (head_after f.side.before.head ys) f.after.head).0 (and_parts _ _ y.1).1 in
    (one_way f.side.before.head f.side.before.head xs ys refl size apart (head_x ∙ sym head_y)).1

pub head_after-append : (h : List ℕ) (xs ys : List (List ℕ)) → head_after h (xs ++ ys) ≡ head_after (head_after h xs) ys
head_after-append h [] ys = refl
head_after-append h (x ∷ xs) ys = head_after-append (head h x) xs ys

pub chain_texts-append : (h : List ℕ) (xs ys : List (List ℕ)) → chain_texts h (xs ++ ys) ≡ chain_texts h xs ++ chain_texts (head_after h xs) ys
chain_texts-append h [] ys = refl
chain_texts-append h (x ∷ xs) ys = ap (λ (ts : List (List ℕ)). chain_text h x ∷ ts) (chain_texts-append (head h x) xs ys)
