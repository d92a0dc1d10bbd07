-- What a search found, and what it means that it found nothing.
use Rattle.std.proofs.Common.{◌≡◌, ℕ, Bool, true, false, cond, not, ltb, List, [], ◌∷◌, ◌++◌, map, Option, Some, None, inl, inr, refl, sym, ap, subst, ◌∙◌, append_assoc}
use Rattle.std.specs.Prelude.{filter, flat_map, option_map}
use Rattle.std.specs.List.{AllByRecursion, find}
use Rattle.std.proofs.lemmas.Bool.{false≢true}
use Rattle.std.proofs.lemmas.List.{append-nil}
use Rattle.cp_statements.specs.Envelope.{Envelope}
use Rattle.cp_chain.specs.Each.{Each}
use Rattle.cp_chain.proofs.Each.{each_push}
use Rattle.cp_chain.proofs.Found.{some_is, else_some, else_none, none_else}
use Rattle.cp_evidence.specs.Evidence.{Evidence}
use Rattle.cp_evidence.specs.Material.{least_from, least_of}
use Rattle.cp_evidence.specs.Verdict.{some_and, evidence_if, with_later, clash}

-- ---- all of a list

pub all_map : {A : Type 0} (P Q : A → Type 0) → ((x : A) → P x → Q x) → (xs : List A) → AllByRecursion P xs → AllByRecursion Q xs
all_map P Q h [] all = tt
all_map P Q h (x ∷ xs) all = (h x all.0, all_map P Q h xs all.1)

pub all_always : {A : Type 0} (P : A → Type 0) → ((x : A) → P x) → (xs : List A) → AllByRecursion P xs
all_always P h [] = tt
all_always P h (x ∷ xs) = (h x, all_always P h xs)

pub all_two : {A : Type 0} (P Q R : A → Type 0) → ((x : A) → P x → Q x → R x) → (xs : List A) → AllByRecursion P xs → AllByRecursion Q xs → AllByRecursion R xs
all_two P Q R h [] a b = tt
all_two P Q R h (x ∷ xs) a b = (h x a.0 b.0, all_two P Q R h xs a.1 b.1)

pub all_append : {A : Type 0} (P : A → Type 0) (xs ys : List A) → AllByRecursion P xs → AllByRecursion P ys → AllByRecursion P (xs ++ ys)
all_append P [] ys a b = b
all_append P (x ∷ xs) ys a b = (a.0, all_append P xs ys a.1 b)

pub all_parts : {A : Type 0} (P : A → Type 0) (xs ys : List A) → AllByRecursion P (xs ++ ys) → AllByRecursion P xs × AllByRecursion P ys
all_parts P [] ys a = (tt, a)
all_parts P (x ∷ xs) ys a = let r = all_parts P xs ys a.1 in ((a.0, r.0), r.1)

pub all_flat : {A B : Type 0} (P : B → Type 0) (f : A → List B) (xs : List A) → AllByRecursion P (flat_map f xs) → AllByRecursion (λ x. AllByRecursion P (f x)) xs
all_flat P f [] a = tt
all_flat P f (x ∷ xs) a = let r = all_parts P (f x) (flat_map f xs) a in (r.0, all_flat P f xs r.1)

pub all_mapped : {A B : Type 0} (P : B → Type 0) (f : A → B) (xs : List A) → AllByRecursion P (map f xs) → AllByRecursion (λ x. P (f x)) xs
all_mapped P f [] a = tt
all_mapped P f (x ∷ xs) a = (a.0, all_mapped P f xs a.1)

pub mapped_all : {A B : Type 0} (P : B → Type 0) (f : A → B) (xs : List A) → AllByRecursion (λ x. P (f x)) xs → AllByRecursion P (map f xs)
mapped_all P f [] a = tt
mapped_all P f (x ∷ xs) a = (a.0, mapped_all P f xs a.1)

pub all_filter : {A : Type 0} (P : A → Type 0) (p : A → Bool) (xs : List A) → AllByRecursion P xs → AllByRecursion P (filter p xs)
all_filter P p [] a = tt
all_filter {A} P p (x ∷ xs) a = go (p x) (all_filter P p xs a.1)
  where
    go : (b : Bool) → AllByRecursion P (filter p xs) → AllByRecursion P (cond b (x ∷ filter p xs) (filter p xs))
    go true r = (a.0, r)
    go false r = r

pub all_pass : {A : Type 0} (p : A → Bool) (xs : List A) → AllByRecursion (λ x. p x ≡ true) (filter p xs)
all_pass p [] = tt
all_pass {A} p (x ∷ xs) = go (p x) refl (all_pass p xs)
  where
    go : (b : Bool) → p x ≡ b → AllByRecursion (λ y. p y ≡ true) (filter p xs) → AllByRecursion (λ y. p y ≡ true) (cond b (x ∷ filter p xs) (filter p xs))
    go true t r = (t, r)
    go false t r = r

-- nothing passed
pub none_pass : {A : Type 0} (p : A → Bool) (xs : List A) → filter p xs ≡ [] → AllByRecursion (λ x. p x ≡ false) xs
none_pass p [] e = tt
none_pass {A} p (x ∷ xs) e = go (p x) refl e (none_pass p xs)
  where
    go : (b : Bool) → p x ≡ b → cond b (x ∷ filter p xs) (filter p xs) ≡ [] → (filter p xs ≡ [] → AllByRecursion (λ y. p y ≡ false) xs) → (p x ≡ false) × AllByRecursion (λ y. p y ≡ false) xs
    go true t e r = absurd cc
    go false t e r = (t, r e)

pub pass_none : {A : Type 0} (p : A → Bool) (xs : List A) → AllByRecursion (λ x. p x ≡ false) xs → filter p xs ≡ []
pass_none p [] a = refl
pass_none p (x ∷ xs) a = rw a.0 (pass_none p xs a.1)

-- ---- options

pub map_some : {A B : Type 0} (make : A → B) (o : Option A) (y : B) → option_map make o ≡ Some y → (x : A) × (o ≡ Some x) × (make x ≡ y)
map_some make None y e = absurd cc
map_some make (Some x) y e = (x, refl, some_is (make x) y e)

pub map_none : {A B : Type 0} (make : A → B) (o : Option A) → option_map make o ≡ None → o ≡ None
map_none make None e = refl
map_none make (Some x) e = absurd cc

pub none_map : {A B : Type 0} (make : A → B) (o : Option A) → o ≡ None → option_map make o ≡ None
none_map make o e = ap (option_map make) e

pub if_some : (b : Bool) (x ev : Evidence) → evidence_if b x ≡ Some ev → (b ≡ true) × (x ≡ ev)
if_some true x ev e = (refl, some_is x ev e)
if_some false x ev e = absurd cc

pub if_none : (b : Bool) (x : Evidence) → evidence_if (not b) x ≡ None → b ≡ true
if_none true x e = refl
if_none false x e = absurd cc

pub none_if : (b : Bool) (x : Evidence) → b ≡ true → evidence_if (not b) x ≡ None
none_if b x e = rw e refl

pub not_false : (b : Bool) → not b ≡ false → b ≡ true
not_false true h = refl
not_false false h = absurd (false≢true (sym h))

-- ---- tests of what is there

pub and_some : {A : Type 0} (o : Option A) (p : A → Bool) → some_and o p ≡ true → (x : A) × (o ≡ Some x) × (p x ≡ true)
and_some (Some x) p e = (x, refl, e)
and_some None p e = absurd (false≢true e)

pub and_some_false : {A : Type 0} (o : Option A) (p : A → Bool) (x : A) → some_and o p ≡ false → o ≡ Some x → p x ≡ false
and_some_false o p x e is = ap (λ z. some_and z p) (sym is) ∙ e

pub false_and_some : {A : Type 0} (o : Option A) (p : A → Bool) → ((x : A) → o ≡ Some x → p x ≡ false) → some_and o p ≡ false
false_and_some (Some x) p h = h x refl
false_and_some None p h = refl

-- ---- find

pub found_one : {A : Type 0} (P : A → Type 0) (p : A → Bool) (xs : List A) (x : A) → AllByRecursion P xs → find p xs ≡ Some x → P x × (p x ≡ true)
found_one P p [] x all e = absurd cc
found_one {A} P p (y ∷ xs) x all e = go (p y) refl e (found_one P p xs x all.1)
  where
    go : (b : Bool) → p y ≡ b → cond b (Some y) (find p xs) ≡ Some x → (find p xs ≡ Some x → P x × (p x ≡ true)) → P x × (p x ≡ true)
    go true t e rest = subst (λ (z : A). P z × (p z ≡ true)) (some_is y x e) (all.0, t)
    go false t e rest = rest e

pub find_none : {A : Type 0} (p : A → Bool) (xs : List A) → find p xs ≡ None → AllByRecursion (λ x. p x ≡ false) xs
find_none p [] e = tt
find_none {A} p (y ∷ xs) e = go (p y) refl e (find_none p xs)
  where
    go : (b : Bool) → p y ≡ b → cond b (Some y) (find p xs) ≡ None → (find p xs ≡ None → AllByRecursion (λ x. p x ≡ false) xs) → (p y ≡ false) × AllByRecursion (λ x. p x ≡ false) xs
    go true t e rest = absurd cc
    go false t e rest = (t, rest e)

pub none_found : {A : Type 0} (p : A → Bool) (xs : List A) → AllByRecursion (λ x. p x ≡ false) xs → find p xs ≡ None
none_found p [] a = refl
none_found p (x ∷ xs) a = rw a.0 (none_found p xs a.1)

-- ---- the least number

least_from_is : (P : ℕ → Type 0) (b : ℕ) (bs : List ℕ) → P b → AllByRecursion P bs → P (least_from b bs)
least_from_is P b [] h a = h
least_from_is P b (c ∷ cs) h a = least_from_is P (cond (ltb c b) c b) cs (go (ltb c b)) a.1
  where
    go : (t : Bool) → P (cond t c b)
    go true = a.0
    go false = h

pub least_is : (P : ℕ → Type 0) (bs : List ℕ) (b : ℕ) → AllByRecursion P bs → least_of bs ≡ Some b → P b
least_is P [] b a e = absurd cc
least_is P (c ∷ cs) b a e = subst P (some_is (least_from c cs) b e) (least_from_is P c cs a.0 a.1)

pub least_none : (bs : List ℕ) → least_of bs ≡ None → bs ≡ []
least_none [] e = refl
least_none (c ∷ cs) e = absurd cc

-- ---- two of a list

-- a clash is between two members
pub clash_is : (P : Envelope → Type 0) (wrong : Envelope → Envelope → Bool) (earlier xs : List Envelope) (q : Envelope × Envelope) → AllByRecursion P earlier → AllByRecursion P xs → clash wrong earlier xs ≡ Some q → P q.0 × P q.1 × (wrong q.0 q.1 ≡ true)
clash_is P wrong earlier [] q a b e = absurd cc
clash_is P wrong earlier (y ∷ ys) q a b e =
    elim (else_some (with_later y (find (λ x. wrong x y) earlier)) (clash wrong (earlier ++ y ∷ []) ys) q e) [
      | inl h ↦
          let p = map_some (λ (x : Envelope). (x, y)) (find (λ x. wrong x y) earlier) q h in
          let f = found_one P (λ x. wrong x y) earlier p.0 a p.1 in
          let left : p.0 ≡ q.0 = ap (λ (z : Envelope × Envelope). z.0) p.2 in
          let right : y ≡ q.1 = ap (λ (z : Envelope × Envelope). z.1) p.2 in
          (subst P left f.0, subst P right b.0, ap (λ (z : Envelope). wrong z q.1) (sym left) ∙ ap (wrong p.0) (sym right) ∙ f.1)
      | inr h ↦ clash_is P wrong (earlier ++ y ∷ []) ys q (all_append P earlier (y ∷ []) a (b.0, tt)) b.1 h.1
    ]

abbrev pub NoWrong : (Envelope → Envelope → Bool) → List Envelope → Envelope → Type 0
NoWrong wrong earlier y = AllByRecursion (λ x. wrong x y ≡ false) earlier

pub clash_none : (wrong : Envelope → Envelope → Bool) (earlier xs : List Envelope) → Each (NoWrong wrong) earlier → clash wrong earlier xs ≡ None → Each (NoWrong wrong) (earlier ++ xs)
clash_none wrong earlier [] h e = subst (λ (l : List Envelope). Each (NoWrong wrong) l) (sym (append-nil earlier)) h
clash_none wrong earlier (y ∷ ys) h e =
    let n = else_none (with_later y (find (λ x. wrong x y) earlier)) (clash wrong (earlier ++ y ∷ []) ys) e in
    let last : NoWrong wrong earlier y = find_none (λ x. wrong x y) earlier (map_none (λ (x : Envelope). (x, y)) _ n.0) in
    let more : Each (NoWrong wrong) ((earlier ++ y ∷ []) ++ ys) = clash_none wrong (earlier ++ y ∷ []) ys (each_push (NoWrong wrong) earlier y h last) n.1 in
    subst (λ (l : List Envelope). Each (NoWrong wrong) l) (append_assoc earlier (y ∷ []) ys) more

pub none_clash : (wrong : Envelope → Envelope → Bool) (earlier xs : List Envelope) → Each (NoWrong wrong) (earlier ++ xs) → clash wrong earlier xs ≡ None
none_clash wrong earlier [] h = refl
none_clash wrong earlier (y ∷ ys) h =
    let last : NoWrong wrong earlier y = h earlier y ys refl in
    let none : find (λ x. wrong x y) earlier ≡ None = none_found (λ x. wrong x y) earlier last in
    let more : Each (NoWrong wrong) ((earlier ++ y ∷ []) ++ ys) = subst (λ (l : List Envelope). Each (NoWrong wrong) l) (sym (append_assoc earlier (y ∷ []) ys)) h in
    none_else (with_later y (find (λ x. wrong x y) earlier)) (clash wrong (earlier ++ y ∷ []) ys) (ap (with_later y) none) (none_clash wrong (earlier ++ y ∷ []) ys more)
