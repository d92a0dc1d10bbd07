-- Each block's latest content is that of its latest put, as calls come.
use Rattle.std.proofs.Common.{◌≡◌, ℕ, ◌+◌, Bool, true, false, cond, eqb, List, [], ◌∷◌, ◌++◌, Some, None, Ok, inl, inr, refl, sym, ap, subst, ◌∙◌, arith}
use Rattle.std.specs.Prelude.{filter_map, get_or, length, take, ◌<◌}
use Rattle.std.proofs.lemmas.List.{take_more}
use Rattle.std.specs.List.{cons_option}
use Rattle.std.proofs.lemmas.List.Elements.{filter_map-append}
use Rattle.std.proofs.lemmas.Bool.{cases_eq, eqb-true, eq-eqb, ne_eqb, not-false}
use Rattle.cp_core.specs.declared.request.Request.TheVariants as ask
use Rattle.cp_chain.specs.Legal.{Put, last_or}
use Rattle.cp_core.proofs.CallLemmas.{latest_other, latest_push}
use Rattle.cp_core.specs.Calls.{bytes_for, content_at, is_stale, latest_of, new_entry}
use Rattle.cp_core.specs.Kept.{IsContentOf}
use Rattle.cp_core.specs.Life.{RowItem, row_item}
use Rattle.cp_core.specs.Machine.{HasContent, content_in, with_content}
use Rattle.cp_core.specs.Requests.{block_of}
use Rattle.cp_core.specs.declared.content.Content.{Content}
use Rattle.cp_core.specs.declared.item.Item.{Item}
use Rattle.cp_core.specs.declared.request.Request.{Request}
use Rattle.cp_statements.specs.Entry.{entry_of}

last_or-append : {A : Type 0} (d : A) (xs ys : List A) → last_or d (xs ++ ys) ≡ last_or (last_or d xs) ys
last_or-append d [] ys = refl
last_or-append d (x ∷ xs) ys = last_or-append x xs ys

-- the latest content with one more
pub content_push : (contents : List Content) (c : Content) (b : ℕ) → content_at (contents ++ c ∷ []) b ≡ cond (eqb c.block b) c.bytes (content_at contents b)
unfolding content_at
content_push contents c b = ap (last_or []) (filter_map-append (bytes_for b) contents (c ∷ [])) ∙ last_or-append [] (filter_map (bytes_for b) contents) (filter_map (bytes_for b) (c ∷ [])) ∙ go (eqb c.block b)
  where
    go : (t : Bool) → last_or (last_or [] (filter_map (bytes_for b) contents)) (cons_option (cond t (Some c.bytes) None) []) ≡ cond t c.bytes (last_or [] (filter_map (bytes_for b) contents))
    go true = refl
    go false = refl

content_same : (contents : List Content) (c : Content) (b : ℕ) → c.block ≡ b → content_at (contents ++ c ∷ []) b ≡ c.bytes
content_same contents c b same = content_push contents c b ∙ ap (λ (t : Bool). cond t c.bytes (content_at contents b)) (eq-eqb c.block b same)

content_other : (contents : List Content) (c : Content) (b : ℕ) → (c.block ≡ b → ⊥) → content_at (contents ++ c ∷ []) b ≡ content_at contents b
content_other contents c b other = content_push contents c b ∙ ap (λ (t : Bool). cond t c.bytes (content_at contents b)) (ne_eqb c.block b other)

-- a block that the call is not about
pub contents_other : (contents : List Content) (request : Request) (b : ℕ) → (block_of request ≡ b → ⊥) → content_at (with_content contents (content_in request)) b ≡ content_at contents b
contents_other contents (ask.Put r signature content) b other = content_other contents (record { block = r.block; bytes = content }) b other
contents_other contents (ask.Get r) b other = refl

moved : (p q : Put) (x y : List ℕ) → p ≡ q → x ≡ y → IsContentOf q y → IsContentOf p x
moved p q x y puts contents h = subst (λ (p : Put). IsContentOf p x) (sym puts) (subst (IsContentOf q) (sym contents) h)

-- the call's own block
contents_here : (items : List Item) (contents : List Content) (request : Request) (row : RowItem) → entry_of row.entry ≡ Ok (new_entry items request) → is_stale items request ≡ false → HasContent request
    → IsContentOf (latest_of items (block_of request)) (content_at contents (block_of request)) → IsContentOf (latest_of (items ++ row_item row ∷ []) (block_of request)) (content_at (with_content contents (content_in request)) (block_of request))
unfolding new_entry
contents_here items contents (ask.Put r signature content) row reads first brings before =
    let version : r.version ≡ (latest_of items r.block).version + 1 = eqb-true _ _ (not-false _ first) in
    moved _ (record { version = r.version; content = r.content }) _ content
    (latest_push items row (new_entry items (ask.Put r signature content)) r.block reads refl)
    (content_same contents (record { block = r.block; bytes = content }) r.block refl)
    (record { at_first = λ none. absurd (omega (arith, none, version)); hashed = λ some. brings })
contents_here items contents (ask.Get r) row reads first brings before =
    moved _ (latest_of items r.block) _ (content_at contents r.block) (latest_push items row (new_entry items (ask.Get r)) r.block reads refl) refl before

pub new_block : (items : List Item) (request : Request) → (new_entry items request).block ≡ block_of request
unfolding new_entry
new_block items (ask.Put r signature content) = refl
new_block items (ask.Get r) = refl

pub contents_new : (items : List Item) (contents : List Content) (request : Request) (row : RowItem) (b : ℕ) → entry_of row.entry ≡ Ok (new_entry items request) → is_stale items request ≡ false → HasContent request
    → IsContentOf (latest_of items b) (content_at contents b) → IsContentOf (latest_of (items ++ row_item row ∷ []) b) (content_at (with_content contents (content_in request)) b)
contents_new items contents request row b reads first brings before =
    elim (cases_eq (block_of request) b) [
      | inl same ↦ subst (λ (c : ℕ). IsContentOf (latest_of (items ++ row_item row ∷ []) c) (content_at (with_content contents (content_in request)) c)) same
          (contents_here items contents request row reads first brings (subst (λ (c : ℕ). IsContentOf (latest_of items c) (content_at contents c)) (sym same) before))
      | inr other ↦ moved _ (latest_of items b) _ (content_at contents b) (latest_other items row (new_entry items request) b reads (λ e. other (sym (new_block items request) ∙ e))) (contents_other contents request b other) before
    ]

pub content_more : (contents : List Content) (i : ℕ) (x : Content) (b : ℕ) → x ≡ get_or contents i x → i < length contents → content_at (take (i + 1) contents) b ≡ cond (eqb x.block b) x.bytes (content_at (take i contents) b)
content_more contents i x b is lt =
    ap (λ (cs : List Content). content_at cs b) (take_more contents i x lt) ∙ content_push (take i contents) (get_or contents i x) b
    ∙ ap (λ (y : Content). cond (eqb y.block b) y.bytes (content_at (take i contents) b)) (sym is)
