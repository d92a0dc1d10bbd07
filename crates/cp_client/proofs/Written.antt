-- A part of a list that is written over.
use Rattle.std.proofs.Common.{◌≡◌, ℕ, List, [], ◌++◌, length, take, drop, replicate, sym, ap, ap₂, ◌∙◌, arith, length-append}
use Rattle.std.specs.Int.{w32, to_be_bytes}
use Rattle.std.proofs.lemmas.List.{append-nil, append_assoc, take_at, drop_at, take_all, drop_all, length-replicate}
use Rattle.cp_bytes.specs.Fields.{part}

-- what a list of len elements is, with sig in place of m elements behind the first a of l
abbrev pub written : ℕ → ℕ → ℕ → List ℕ → List ℕ → List ℕ → List ℕ
written len a m sig l items = take len ((take a l ++ (sig ++ drop m (drop a l))) ++ drop (length (take a l ++ (sig ++ drop m (drop a l)))) items)

-- items is a front, zeros and a back, and l is the same: with the zeros overwritten
overwritten : (front zeros sig back items l : List ℕ) (len a k m : ℕ) → items ≡ front ++ (zeros ++ back) → l ≡ items → len ≡ length items → length front ≡ a → length zeros ≡ k → length sig ≡ k → m ≡ k
    → written len a m sig l items ≡ front ++ (sig ++ back)
overwritten front zeros sig back items l len a k m is same size fa zk sk mk =
    let whole : l ≡ front ++ (zeros ++ back) = same ∙ is in
    let first : take a l ≡ front = ap (take a) whole ∙ take_at front (zeros ++ back) a fa in
    let last : drop m (drop a l) ≡ back = ap₂ (λ (n : ℕ) (r : List ℕ). drop n (drop a r)) mk whole ∙ ap (drop k) (drop_at front (zeros ++ back) a fa) ∙ drop_at zeros back k zk in
    let made : take a l ++ (sig ++ drop m (drop a l)) ≡ front ++ (sig ++ back) = ap₂ (λ (x y : List ℕ). x ++ (sig ++ y)) first last in
    let long : length (front ++ (sig ++ back)) ≡ length items = sized in
    let none : drop (length (front ++ (sig ++ back))) items ≡ [] = drop_all _ items (omega (arith, long)) in
    ap (λ (r : List ℕ). take len (r ++ drop (length r) items)) made ∙ ap (λ (r : List ℕ). take len ((front ++ (sig ++ back)) ++ r)) none ∙ ap (take len) (append-nil (front ++ (sig ++ back))) ∙ take_all len (front ++ (sig ++ back)) (omega (arith, long, size))
  where
    sized : length (front ++ (sig ++ back)) ≡ length items
    sized = omega (arith, ap length is, length-append front (zeros ++ back), length-append zeros back, length-append front (sig ++ back), length-append sig back, zk, sk)

-- a put body with its signature in place of zeros
pub signed_over : (text sig content items l : List ℕ) (len size m : ℕ) → items ≡ part text ++ (part (replicate size 0) ++ content) → l ≡ items → len ≡ length items → length text ≡ 104 → length sig ≡ size → m ≡ size
    → written len 112 m sig l items ≡ part text ++ (part sig ++ content)
signed_over text sig content items l len size m is same whole short sk mk =
    let zeros : List ℕ = replicate size 0 in
    let counted : List ℕ = to_be_bytes w32 size in
    let zk : length zeros ≡ size = length-replicate size 0 in
    let regrouped : items ≡ (part text ++ counted) ++ (zeros ++ content) = is ∙ ap (λ (n : ℕ). part text ++ ((to_be_bytes w32 n ++ zeros) ++ content)) zk ∙ ap (λ (r : List ℕ). part text ++ r) (append_assoc counted zeros content) ∙ sym (append_assoc (part text) counted (zeros ++ content)) in
    let front : length (part text ++ counted) ≡ 112 = omega (arith, length-append (part text) counted, length-append (to_be_bytes w32 (length text)) text, short) in
    overwritten (part text ++ counted) zeros sig content items l len 112 size m regrouped same whole front zk sk mk
    ∙ append_assoc (part text) counted (sig ++ content) ∙ ap (λ (r : List ℕ). part text ++ r) (sym (append_assoc counted sig content)) ∙ ap (λ (n : ℕ). part text ++ ((to_be_bytes w32 n ++ sig) ++ content)) (sym sk)
