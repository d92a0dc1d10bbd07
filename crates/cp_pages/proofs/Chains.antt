-- Contents along a chain of pages: what a write elsewhere leaves, and one page more.
use Rattle.std.proofs.Common.{◌≡◌, ◌≢◌, ℕ, zero, suc, ◌+◌, ◌-◌, ◌*◌, ◌<◌, min, List, [], ◌∷◌, ◌++◌, length, get_or, set, take, drop, refl, sym, ◌∙◌, ap, arith, inl, inr, add-suc, add-zero, length-append, length-drop}
use Rattle.std.proofs.Math.Nat.{min_comm}
use Rattle.std.proofs.Math.Seq.{take-add, take-append-add}
use Rattle.std.proofs.lemmas.Bool.{cases_eq}
use Rattle.std.proofs.lemmas.List.{append-nil, get_or_at, get_or_append_left, get_or-set_same, get_or-set_other, length-set, length-take, drop_at, take_all, take_at, take_min}
use Rattle.std.proofs.lemmas.List.Concat.{flat_map-append}
use borrow.Rule.Slice.PartMut.{put_mid}
use Rattle.cp_pages.specs.Pages.{pages_for}
use Rattle.cp_pages.specs.Chain.{page_after, chain, chain_content, page_at, bytes_at}

-- the first pages of a chain have the front of the content, and this page comes next
pub record IsReadTo (pages : List (List ℕ)) (next : List ℕ) (first : ℕ) (content : List ℕ) (count page : ℕ) : Type 0 where
  pub here : page ≡ page_after next count first
  pub front : chain_content pages next count first (length content) ≡ take (1024 * count) content

-- the same of pages that are being written, where all other pages are as they were
pub record IsWrittenTo (old new : List (List ℕ)) (next : List ℕ) (first : ℕ) (content : List ℕ) (count page : ℕ) : Type 0 where
  pub here : page ≡ page_after next count first
  pub front : chain_content new next count first (length content) ≡ take (1024 * count) content
  pub page_len : (p : ℕ) → p < length new → length (page_at new p) ≡ 1024
  pub others : (p : ℕ) → ((i : ℕ) → i < count → page_after next i first ≢ p) → page_at new p ≡ page_at old p

-- the steps after some steps
pub page_after-add : (next : List ℕ) (a b page : ℕ) → page_after next (a + b) page ≡ page_after next b (page_after next a page)
page_after-add next a zero page = rw add-zero refl
page_after-add next a (suc b) page = rw add-suc (ap (λ p. get_or next p 0) (page_after-add next a b page))

-- a link that is not on the way changes no step
pub page_after-set : (next : List ℕ) (at value steps page : ℕ) → ((i : ℕ) → i < steps → page_after next i page ≢ at)
    → page_after (set next at value) steps page ≡ page_after next steps page
page_after-set next at value zero page off = refl
page_after-set next at value (suc steps) page off =
    let before = page_after-set next at value steps page (λ i h. off i (omega arith)) in
    rw before (get_or-set_other next at (page_after next steps page) value 0 (off steps (omega arith)))

-- two ways to the same pages have the same page numbers
pub chain_same : (next other : List ℕ) (count page : ℕ) → ((i : ℕ) → i < count → page_after next i page ≡ page_after other i page)
    → chain next count page ≡ chain other count page
chain_same next other zero page same = refl
chain_same next other (suc count) page same =
    let before : chain next count page ≡ chain other count page = chain_same next other count page (λ i h. same i (omega arith)) in
    rw (before, same count (omega arith)) refl

-- pages that are the same have the same bytes
pub bytes_same : (pages others : List (List ℕ)) (next : List ℕ) (count page : ℕ)
    → ((i : ℕ) → i < count → page_at pages (page_after next i page) ≡ page_at others (page_after next i page))
    → bytes_at pages (chain next count page) ≡ bytes_at others (chain next count page)
bytes_same pages others next zero page same = refl
bytes_same pages others next (suc count) page same =
    let before : bytes_at pages (chain next count page) ≡ bytes_at others (chain next count page) = bytes_same pages others next count page (λ i h. same i (omega arith)) in
    rw (flat_map-append (page_at pages) (chain next count page), flat_map-append (page_at others) (chain next count page), before, same count (omega arith)) refl

-- one page more
pub bytes_more : (pages : List (List ℕ)) (next : List ℕ) (count page : ℕ)
    → bytes_at pages (chain next (suc count) page) ≡ bytes_at pages (chain next count page) ++ page_at pages (page_after next count page)
bytes_more pages next count page =
    rw (flat_map-append (page_at pages) (chain next count page), append-nil (page_at pages (page_after next count page))) refl

-- whole pages
pub length-bytes : (pages : List (List ℕ)) (next : List ℕ) (count page : ℕ)
    → ((i : ℕ) → i < count → length (page_at pages (page_after next i page)) ≡ 1024)
    → length (bytes_at pages (chain next count page)) ≡ 1024 * count
length-bytes pages next zero page whole = refl
length-bytes pages next (suc count) page whole =
    let before : length (bytes_at pages (chain next count page)) ≡ 1024 * count = length-bytes pages next count page (λ i h. whole i (omega arith)) in
    let last : length (page_at pages (page_after next count page)) ≡ 1024 = whole count (omega arith) in
    rw (bytes_more pages next count page, length-append (bytes_at pages (chain next count page)) (page_at pages (page_after next count page))) (omega arith)

pub length-chain : (next : List ℕ) (count page : ℕ) → length (chain next count page) ≡ count
length-chain next zero page = refl
length-chain next (suc count) page =
    rw (length-append (chain next count page) (page_after next count page ∷ [])) (omega (arith, length-chain next count page))

-- the page at each place of a chain
pub get_or-chain : (next : List ℕ) (count page i d : ℕ) → i < count → get_or (chain next count page) i d ≡ page_after next i page
get_or-chain next zero page i d h = absurd (omega arith)
get_or-chain next (suc count) page i d h =
    let e = length-chain next count page in
    elim (cases_eq i count) [
      | inl last ↦ rw last (get_or_at (chain next count page) (page_after next count page) [] d count e)
      | inr other ↦
          let within : i < length (chain next count page) = omega (arith, other) in
          get_or_append_left (chain next count page) (page_after next count page ∷ []) d i within
          ∙ get_or-chain next count page i d (omega (arith, other))
    ]

-- a content of this many pages goes past this byte
pub page_within : (len count : ℕ) → count < pages_for len → 1024 * count < len
page_within len count h = omega arith

-- the front of a content grows by what the next page has of it
pub front_more : (g page content : List ℕ) (start n : ℕ) → length g ≡ start → length page ≡ 1024 → start < length content
    → take (length content) g ≡ take start content → n ≡ min 1024 (length content - start)
    → take n page ≡ take n (drop start content)
    → take (length content) (g ++ page) ≡ take (start + 1024) content
front_more g page content start n is_len page_len within front n_is piece =
    let rest : ℕ = length content - start in
    let split : length content ≡ length g + rest = omega arith in
    let whole : g ≡ take start content = sym (take_all (length content) g (omega arith)) ∙ front in
    let of_page : take rest page ≡ take n page =
    sym (take_min rest page) ∙ ap (λ m. take m page) (rw page_len (min_comm rest 1024) ∙ sym n_is) in
    let of_content : take n (drop start content) ≡ take 1024 (drop start content) =
    ap (λ m. take m (drop start content)) (n_is ∙ ap (λ m. min 1024 m) (sym (length-drop start content)))
    ∙ take_min 1024 (drop start content) in
    ap (λ m. take m (g ++ page)) split
    ∙ take-append-add g page rest
    ∙ ap (λ xs. g ++ xs) (of_page ∙ piece ∙ of_content)
    ∙ ap (λ xs. xs ++ take 1024 (drop start content)) whole
    ∙ sym (take-add start 1024 content)

-- a piece that is written to the front of a page is the front of the page
piece_is : (xs page : List ℕ) (n : ℕ) → length xs ≡ n → take n (xs ++ drop (length xs) page) ≡ xs
piece_is xs page n e = take_at xs (drop (length xs) page) n e

-- one page more is written
pub written_more : (old new : List (List ℕ)) (next : List ℕ) (first : ℕ) (content : List ℕ) (count page n : ℕ) (piece fresh : List ℕ)
    → IsWrittenTo old new next first content count page
    → length new ≡ length next
    → ((i : ℕ) → i < pages_for (length content) → page_after next i first < length next)
    → ((i j : ℕ) → i < pages_for (length content) → j < pages_for (length content) → page_after next i first ≡ page_after next j first → i ≡ j)
    → count < pages_for (length content)
    → n ≡ min 1024 (length content - 1024 * count)
    → piece ≡ take n (drop (1024 * count) content)
    → fresh ≡ piece ++ drop (length piece) (page_at new page)
    → IsWrittenTo old (set new page fresh) next first content (suc count) (get_or next page 0)
written_more old new next first content count page n piece fresh so_far len inside apart more n_is piece_is' fresh_is =
    let within : 1024 * count < length content = page_within (length content) count more in
    let here : page ≡ page_after next count first = so_far.here in
    let in_pages : page < length new = rw (here, len) (inside count more) in
    let piece_len : length piece ≡ n = rw (piece_is', length-take n (drop (1024 * count) content), length-drop (1024 * count) content) (omega arith) in
    let old_len : length (page_at new page) ≡ 1024 = so_far.page_len page in_pages in
    let fresh_len : length fresh ≡ 1024 =
    rw (fresh_is, length-append piece (drop (length piece) (page_at new page)), length-drop (length piece) (page_at new page)) (omega arith) in
    let at_page : page_at (set new page fresh) page ≡ fresh = get_or-set_same new page fresh [] in_pages in
    let off : (i : ℕ) → i < count → page_after next i first ≢ page =
    λ i h e. absurd (let same : i ≡ count = apart i count (omega arith) more (e ∙ here) in omega arith) in
    let kept : bytes_at (set new page fresh) (chain next count first) ≡ bytes_at new (chain next count first) =
    bytes_same (set new page fresh) new next count first (λ i h. get_or-set_other new page (page_after next i first) fresh [] (off i h)) in
    let whole : length (bytes_at new (chain next count first)) ≡ 1024 * count =
    length-bytes new next count first (λ i h. so_far.page_len (page_after next i first) (rw len (inside i (omega arith)))) in
    let grown : take (length content) (bytes_at new (chain next count first) ++ fresh) ≡ take (1024 * count + 1024) content =
    front_more (bytes_at new (chain next count first)) fresh content (1024 * count) n whole fresh_len within so_far.front n_is
    (rw fresh_is (piece_is piece (page_at new page) n piece_len) ∙ piece_is') in
    record {
      here = ap (λ p. get_or next p 0) here;
      front =
          ap (take (length content)) (bytes_more (set new page fresh) next count first
          ∙ ap (λ xs. xs ++ page_at (set new page fresh) (page_after next count first)) kept
          ∙ ap (λ p. bytes_at new (chain next count first) ++ page_at (set new page fresh) p) (sym here)
          ∙ ap (λ xs. bytes_at new (chain next count first) ++ xs) at_page)
          ∙ grown ∙ ap (λ m. take m content) (omega arith);
      page_len = λ p h. elim (cases_eq p page) [
        | inl same ↦ rw (same, at_page) fresh_len
        | inr other ↦ rw (get_or-set_other new page p fresh [] other) (so_far.page_len p (rw length-set at h))
      ];
      others = λ p away.
          get_or-set_other new page p fresh [] (λ e. away count (omega arith) (sym (e ∙ here)))
          ∙ so_far.others p (λ i h. away i (omega arith));
    }

-- one page more is read
pub read_more : (pages : List (List ℕ)) (next : List ℕ) (first : ℕ) (out : List ℕ) (count page n : ℕ) (piece : List ℕ)
    → IsReadTo pages next first out count page
    → length pages ≡ length next
    → ((p : ℕ) → p < length pages → length (page_at pages p) ≡ 1024)
    → ((i : ℕ) → i < pages_for (length out) → page_after next i first < length next)
    → count < pages_for (length out)
    → n ≡ min 1024 (length out - 1024 * count)
    → piece ≡ take n (page_at pages page)
    → IsReadTo pages next first (put_mid (1024 * count) n out piece) (suc count) (get_or next page 0)
read_more pages next first out count page n piece so_far len page_len inside more n_is piece_is =
    let here : page ≡ page_after next count first = so_far.here in
    let start : ℕ = 1024 * count in
    let within : start < length out = page_within (length out) count more in
    let in_pages : page < length pages = rw (here, len) (inside count more) in
    let this_len : length (page_at pages page) ≡ 1024 = page_len page in_pages in
    let whole_len : length (bytes_at pages (chain next count first)) ≡ start =
    length-bytes pages next count first (λ i h. page_len (page_after next i first) (rw len (inside i (omega arith)))) in
    let piece_len : length piece ≡ n = rw (piece_is, length-take n (page_at pages page)) (omega arith) in
    let rest : List ℕ = drop n (drop start out) in
    let front_len : length (take start out) ≡ start = rw length-take (omega arith) in
    let out_len : length (put_mid start n out piece) ≡ length out =
    rw (length-append (take start out) (piece ++ rest), length-append piece rest, length-drop n (drop start out), length-drop start out) (omega arith) in
    let kept : take start (put_mid start n out piece) ≡ take start out = take_at (take start out) (piece ++ rest) start front_len in
    let put : take n (drop start (put_mid start n out piece)) ≡ piece =
    ap (take n) (drop_at (take start out) (piece ++ rest) start front_len) ∙ take_at piece rest n piece_len in
    let grown : take (length (put_mid start n out piece)) (bytes_at pages (chain next count first) ++ page_at pages page)
    ≡ take (start + 1024) (put_mid start n out piece) =
    front_more (bytes_at pages (chain next count first)) (page_at pages page) (put_mid start n out piece) start n whole_len this_len
    (omega arith) (ap (λ m. take m (bytes_at pages (chain next count first))) out_len ∙ so_far.front ∙ sym kept)
    (n_is ∙ ap (λ m. min 1024 (m - start)) (sym out_len)) (sym (put ∙ piece_is)) in
    record {
      here = ap (λ p. get_or next p 0) here;
      front =
          ap (take (length (put_mid start n out piece))) (bytes_more pages next count first
          ∙ ap (λ p. bytes_at pages (chain next count first) ++ page_at pages p) (sym here))
          ∙ grown ∙ ap (λ m. take m (put_mid start n out piece)) (omega arith);
    }
