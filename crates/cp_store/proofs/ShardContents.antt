-- The contents of all shards are, at each block, those of its own shard.
use Rattle.std.proofs.Common.{◌≡◌, ℕ, zero, suc, ◌<◌, Bool, true, false, cond, eqb, List, [], ◌∷◌, ◌++◌, length, flat_map, get_or, Some, None, refl, sym, ap, ◌∙◌, arith}
use Rattle.std.specs.Prelude.{filter, filter_map}
use Rattle.std.specs.List.{cons_option}
use Rattle.std.proofs.lemmas.Bool.{eq-eqb, ne_eqb, eqb-true}
use Rattle.std.proofs.lemmas.List.{append-nil}
use Rattle.std.proofs.lemmas.List.Elements.{filter_map-append}
use Rattle.cp_chain.specs.Legal.{last_or}
use Rattle.cp_core.specs.Store.{Store}
use Rattle.cp_core.specs.Life.{shard_of}
use Rattle.cp_core.specs.Calls.{bytes_for, content_at}
use Rattle.cp_core.specs.declared.content.Content.{Content}
use Rattle.cp_shard.specs.Model.{ShardModel}
use Rattle.cp_store.specs.Shards.{AreMade, own_contents}

-- a shard's own contents, at one of its blocks and at another's
own_there : (k b : ℕ) (cs : List Content) → shard_of b ≡ k → filter_map (bytes_for b) (filter (λ c. eqb (shard_of c.block) k) cs) ≡ filter_map (bytes_for b) cs
own_there k b [] is = refl
own_there k b (c ∷ cs) is = go (eqb c.block b) refl (own_there k b cs is)
  where
    inner : (u : Bool) → eqb c.block b ≡ false → filter_map (bytes_for b) (filter (λ c. eqb (shard_of c.block) k) cs) ≡ filter_map (bytes_for b) cs
        → filter_map (bytes_for b) (cond u (c ∷ filter (λ c. eqb (shard_of c.block) k) cs) (filter (λ c. eqb (shard_of c.block) k) cs)) ≡ filter_map (bytes_for b) cs
    inner true e h = rw e h
    inner false e h = h

    go : (t : Bool) → eqb c.block b ≡ t → filter_map (bytes_for b) (filter (λ c. eqb (shard_of c.block) k) cs) ≡ filter_map (bytes_for b) cs
        → filter_map (bytes_for b) (cond (eqb (shard_of c.block) k) (c ∷ filter (λ c. eqb (shard_of c.block) k) cs) (filter (λ c. eqb (shard_of c.block) k) cs)) ≡ cons_option (cond t (Some c.bytes) None) (filter_map (bytes_for b) cs)
    go true e h =
        let own : eqb (shard_of c.block) k ≡ true = eq-eqb _ _ (ap shard_of (eqb-true _ _ e) ∙ is) in
        rw (own, e) (ap (λ l. c.bytes ∷ l) h)
    go false e h = inner (eqb (shard_of c.block) k) e h

own_else : (k b : ℕ) (cs : List Content) → (shard_of b ≡ k → ⊥) → filter_map (bytes_for b) (filter (λ c. eqb (shard_of c.block) k) cs) ≡ []
own_else k b [] ne = refl
own_else k b (c ∷ cs) ne = go (eqb (shard_of c.block) k) refl (own_else k b cs ne)
  where
    go : (t : Bool) → eqb (shard_of c.block) k ≡ t → filter_map (bytes_for b) (filter (λ c. eqb (shard_of c.block) k) cs) ≡ []
        → filter_map (bytes_for b) (cond t (c ∷ filter (λ c. eqb (shard_of c.block) k) cs) (filter (λ c. eqb (shard_of c.block) k) cs)) ≡ []
    go true e h =
        let other : eqb c.block b ≡ false = ne_eqb _ _ (λ same. ne (ap shard_of (sym same) ∙ eqb-true _ _ e)) in
        rw other h
    go false e h = h

none_there : (b : ℕ) (xs : List ShardModel) (d : ShardModel) → ((k : ℕ) → k < length xs → (shard_of b ≡ (get_or xs k d).index → ⊥)) → filter_map (bytes_for b) (flat_map own_contents xs) ≡ []
none_there b [] d h = refl
none_there b (x ∷ xs) d h =
    filter_map-append (bytes_for b) (own_contents x) (flat_map own_contents xs)
    ∙ ap (λ (l : List (List ℕ)). l ++ filter_map (bytes_for b) (flat_map own_contents xs)) (own_else x.index b x.contents (h 0 (omega arith)))
    ∙ none_there b xs d (λ k lt. h (suc k) (omega (arith, lt)))

only_there : (b : ℕ) (xs : List ShardModel) (j : ℕ) (d : ShardModel) → j < length xs → shard_of b ≡ (get_or xs j d).index → ((k : ℕ) → k < length xs → (k ≡ j → ⊥) → (shard_of b ≡ (get_or xs k d).index → ⊥))
    → filter_map (bytes_for b) (flat_map own_contents xs) ≡ filter_map (bytes_for b) (get_or xs j d).contents
only_there b [] j d lt is h = absurd (omega (arith, lt))
only_there b (x ∷ xs) zero d lt is h =
    filter_map-append (bytes_for b) (own_contents x) (flat_map own_contents xs)
    ∙ ap (λ (l : List (List ℕ)). filter_map (bytes_for b) (own_contents x) ++ l) (none_there b xs d (λ k lt. h (suc k) (omega (arith, lt)) (omega arith)))
    ∙ append-nil _ ∙ own_there x.index b x.contents is
only_there b (x ∷ xs) (suc j) d lt is h =
    filter_map-append (bytes_for b) (own_contents x) (flat_map own_contents xs)
    ∙ ap (λ (l : List (List ℕ)). l ++ filter_map (bytes_for b) (flat_map own_contents xs)) (own_else x.index b x.contents (h 0 (omega arith) (omega arith)))
    ∙ only_there b xs j d (omega (arith, lt)) is (λ k lt ne. h (suc k) (omega (arith, lt)) (λ e. ne (omega (arith, e))))

pub contents_there : (s : Store) (shards : List ShardModel) (b : ℕ) (d : ShardModel) → AreMade s shards → content_at (flat_map own_contents shards) b ≡ content_at (get_or shards (shard_of b) d).contents b
unfolding content_at
contents_there s shards b d made =
    let lt : shard_of b < 16 = omega arith in
    ap (last_or []) (only_there b shards (shard_of b) d (omega (arith, made.sixteen)) (sym (made.each (shard_of b) d lt).index)
    (λ k lt ne same. ne (sym (same ∙ (made.each k d (omega (arith, lt, made.sixteen))).index))))
