-- Segments against an honest life: one that reaches is the epoch's own, so it is legal, and each
-- attestation of the epoch stands in it.
use Rattle.std.proofs.Common.{◌≡◌, ℕ, ◌+◌, ◌-◌, ◌<◌, ◌≤◌, true, ◌&&◌, eqb, leb, List, [], ◌∷◌, ◌++◌, length, get_or, take, Result, Ok, inl, inr, refl, sym, ap, subst, ◌∙◌, append_assoc, arith}
use Rattle.std.specs.Prelude.{bytes_eq, Contains}
use Rattle.std.specs.List.{AllByRecursion}
use Rattle.std.specs.Result.{result_ok}
use Rattle.std.proofs.lemmas.Bool.{and_parts, and_from, eqb-true, eq-eqb, le-leb, lt-ltb}
use Rattle.std.proofs.lemmas.List.{map-append, length-append, take_at, get_or_at, length-map}
use Rattle.std.proofs.lemmas.List.Elements.{recursion_from_All, All-contains_itself, All-weaker, Contains-append_left, Contains-append_right}
use Rattle.std.proofs.lemmas.Slice.Eq.{bytes_eq-Decides}
use Rattle.sha2.specs.Sha256.{sha256}
use Rattle.cp_bytes.specs.Hashes.{CollisionFree, head, genesis, head_after, chain_texts}
use Rattle.lms_tree.specs.Verifying.{leaf_of}
use Rattle.cp_statements.specs.Attestation.{Attestation, attestation_of}
use Rattle.cp_statements.specs.Entry.{Entry, entry_of, entry_text}
use Rattle.cp_tips.specs.Tip.{Tip}
use Rattle.cp_tips.specs.Table.{row}
use Rattle.cp_families.specs.Families.{FamilyRow, families_of}
use Rattle.cp_chain.specs.Each.{Each}
use Rattle.cp_chain.specs.Frame.{Frame}
use Rattle.cp_chain.specs.Legal.{ok_and}
use Rattle.cp_chain.specs.Rules.{broken, text_at, Found}
use Rattle.cp_chain.specs.Standing.{reaches, says_the_same, stands}
use Rattle.cp_chain.proofs.Each.{each_front}
use Rattle.cp_chain.proofs.Chain.{same_segments, head_after-append, chain_texts-append, legal_unbroken}
use Rattle.cp_core.specs.Store.{Store, list_at, or_nil}
use Rattle.cp_core.specs.Life.{RowItem, row_item, freezes, rows_of, in_epoch, up_to, list_text, entries, tip_after, cut, shard_of, items_of}
use Rattle.cp_core.specs.Calls.{attested, head_of}
use Rattle.cp_core.specs.Honest.{Honest, IsItemOf, epoch_frame, SignedRow, Signed, Hashed}
use Rattle.cp_core.specs.declared.item.Item.{Item}
use Rattle.cp_core.specs.declared.chronicle.Chronicle.{Chronicle}
use Rattle.cp_core.proofs.RowLemmas.{spells_reads}
use Rattle.cp_core.proofs.EpochLemmas.{Ordered, ordered, count_law, head_law, count_after, head_after_tip, up_to_stays, in_epoch-append}
use Rattle.cp_evidence.specs.Evidence.{Given, BrokenRule, Lost}
use Rattle.cp_evidence.specs.Evidence.Evidence.{K7, K8}
use Rattle.cp_evidence.specs.Conditions.{Framed, framed, frame_of, k7_tried, k8_tried}
use Rattle.cp_evidence.specs.Presented.{given_texts, opening_head, block_in, presented}
use Rattle.cp_evidence.proofs.Showing.{ShowsK7, shows_k7, ShowsK8, shows_k8}
use Rattle.cp_guilt.specs.Framing.{HolderSigned, PresentedOrHashed, NoneCollide}
use Rattle.cp_guilt.proofs.Members.{first_of_list, second_of_list, behind_first, all_contained}
use Rattle.cp_guilt.proofs.SignedTexts.{Stood, stood, signed_attestation}
use Rattle.cp_guilt.proofs.Frames.{ordered_in, hashed_seal, HonestFrame, honest_frame, row_now, row_old}

-- ---- the epoch's own segment

-- every chain text of an epoch's entries is hashed in the life
hashed_epoch : (s : Store) (r : Chronicle) → Honest s r → (b n : ℕ) → AllByRecursion (Hashed r) (chain_texts (cut (items_of r b) b (n - 1)).head (entries (in_epoch (items_of r b) b n)))
hashed_epoch s r h b n =
    let o = ordered_in s r h b in
    let items = items_of r b in
    let p = o.prefix n in
    let rows : rows_of items b ≡ (up_to items b (n - 1) ++ in_epoch items b n) ++ p.0 = p.1 ∙ ap (λ (l : List RowItem). l ++ p.0) (o.parts n) in
    let texts : entries (rows_of items b) ≡ (entries (up_to items b (n - 1)) ++ entries (in_epoch items b n)) ++ entries p.0 =
    ap entries rows ∙ map-append (λ (x : RowItem). x.entry) (up_to items b (n - 1) ++ in_epoch items b n) p.0 ∙ ap (λ (l : List (List ℕ)). l ++ entries p.0) (map-append (λ (x : RowItem). x.entry) (up_to items b (n - 1)) (in_epoch items b n)) in
    let chain : chain_texts (genesis b) (entries (rows_of items b)) ≡ (chain_texts (genesis b) (entries (up_to items b (n - 1))) ++ chain_texts (cut items b (n - 1)).head (entries (in_epoch items b n))) ++ chain_texts (head_after (genesis b) (entries (up_to items b (n - 1)) ++ entries (in_epoch items b n))) (entries p.0) =
    ap (chain_texts (genesis b)) texts ∙ chain_texts-append (genesis b) (entries (up_to items b (n - 1)) ++ entries (in_epoch items b n)) (entries p.0)
    ∙ ap (λ (l : List (List ℕ)). l ++ chain_texts (head_after (genesis b) (entries (up_to items b (n - 1)) ++ entries (in_epoch items b n))) (entries p.0))
    (chain_texts-append (genesis b) (entries (up_to items b (n - 1))) (entries (in_epoch items b n))
    ∙ ap (λ (k : List ℕ). chain_texts (genesis b) (entries (up_to items b (n - 1))) ++ chain_texts k (entries (in_epoch items b n))) (sym (head_after_tip b (entries (up_to items b (n - 1)))))) in
    let first : List (List ℕ) = chain_texts (genesis b) (entries (up_to items b (n - 1))) in
    let middle : List (List ℕ) = chain_texts (cut items b (n - 1)).head (entries (in_epoch items b n)) in
    let last : List (List ℕ) = chain_texts (head_after (genesis b) (entries (up_to items b (n - 1)) ++ entries (in_epoch items b n))) (entries p.0) in
    recursion_from_All (Hashed r) middle (All-weaker (Contains middle) (Hashed r) (λ t c.
    inl (record { block = b; within = subst (λ (l : List (List ℕ)). Contains l t) (sym chain) (Contains-append_left (first ++ middle) last t (Contains-append_right first middle t c)) }))
    middle (All-contains_itself middle))

all_weaker : (Q P : List ℕ → Type 0) → ((t : List ℕ) → Q t → P t) → (xs : List (List ℕ)) → AllByRecursion Q xs → AllByRecursion P xs
all_weaker Q P weaker [] a = tt
all_weaker Q P weaker (x ∷ xs) a = (weaker x a.0, all_weaker Q P weaker xs a.1)

-- a segment that reaches between an honest store's tips is that epoch's
honest_segment : (s : Store) (r : Chronicle) → Honest s r → (P : List ℕ → Type 0) → CollisionFree P → ((t : List ℕ) → Hashed r t → P t) → (b n : ℕ) (f : Frame) (ts : List (List ℕ)) → f.side.before ≡ cut (items_of r b) b (n - 1) → f.after ≡ cut (items_of r b) b n
    → AllByRecursion P (chain_texts f.side.before.head ts) → reaches f ts ≡ true → ts ≡ entries (in_epoch (items_of r b) b n)
unfolding reaches
honest_segment s r h P apart hashed b n f ts before after given e =
    let o = ordered_in s r h b in
    let items = items_of r b in
    let p = and_parts (eqb (f.side.before.count + length ts) f.after.count) (leb 1 (length ts) && bytes_eq (head_after f.side.before.head ts) f.after.head) e in
    let q = and_parts (leb 1 (length ts)) (bytes_eq (head_after f.side.before.head ts) f.after.head) p.1 in
    let counts : f.side.before.count + length ts ≡ f.after.count = eqb-true _ _ p.0 in
    let sizes : length ts ≡ length (entries (in_epoch items b n)) = omega (arith, counts, ap (λ (t : Tip). t.count) before, ap (λ (t : Tip). t.count) after, count_law items b n o) in
    let heads : head_after f.side.before.head ts ≡ head_after f.side.before.head (entries (in_epoch items b n)) =
    (bytes_eq-Decides _ _).0 q.1 ∙ ap (λ (t : Tip). t.head) after ∙ head_law items b n o ∙ ap (λ (t : Tip). head_after t.head (entries (in_epoch items b n))) (sym before) in
    let ours : AllByRecursion P (chain_texts (cut items b (n - 1)).head (entries (in_epoch items b n))) = all_weaker (Hashed r) P hashed _ (hashed_epoch s r h b n) in
    let ours_here : AllByRecursion P (chain_texts f.side.before.head (entries (in_epoch items b n))) = subst (λ (t : Tip). AllByRecursion P (chain_texts t.head (entries (in_epoch items b n)))) (sym before) ours in
    (same_segments P apart f.side.before.head f.side.before.head ts (entries (in_epoch items b n)) refl sizes given ours_here heads).1

-- ---- an illegal segment

abbrev pub frame_at : List ℕ → List FamilyRow → ℕ → ℕ → Tip → Tip → Frame
frame_at store families n b before after = record { side = record { store = store; families = families; epoch = n; block = b; before = before }; after = after }

pub frames_same : (s : Store) (r : Chronicle) (store : List ℕ) (families : List FamilyRow) (b n : ℕ) (before after : Tip) → store ≡ s.id → families ≡ list_at s.families (items_of r b) n → before ≡ cut (items_of r b) b (n - 1) → after ≡ cut (items_of r b) b n
    → frame_at store families n b before after ≡ epoch_frame s (items_of r b) b n
frames_same s r store families b n before after p q u v =
    ap (λ (x : List ℕ). frame_at x families n b before after) p ∙ ap (λ (x : List FamilyRow). frame_at s.id x n b before after) q ∙ ap (λ (x : Tip). frame_at s.id (list_at s.families (items_of r b) n) n b x after) u ∙ ap (frame_at s.id (list_at s.families (items_of r b) n) n b (cut (items_of r b) b (n - 1))) v

-- the rows of the epoch's list
pub rows_listed : (s : Store) (items : List Item) (n : ℕ) (text : List ℕ) (rows : List FamilyRow) → families_of text ≡ Ok rows → text ≡ list_text s.families items n → rows ≡ list_at s.families items n
unfolding list_at
rows_listed s items n text rows reads same = ap or_nil (sym reads ∙ ap families_of same)

-- no rule is broken in the epoch's own segment
pub own_unbroken : (s : Store) (r : Chronicle) → Honest s r → (f : Frame) (b n : ℕ) (ts : List (List ℕ)) (x : Found) → f ≡ epoch_frame s (items_of r b) b n → ts ≡ entries (in_epoch (items_of r b) b n) → broken f ts x.rule x.place x.other ≡ true → ⊥
own_unbroken s r h f b n ts x frames segment breaking =
    let bad : broken (epoch_frame s (items_of r b) b n) (entries (in_epoch (items_of r b) b n)) x.rule x.place x.other ≡ true =
    ap (λ (y : Frame). broken y (entries (in_epoch (items_of r b) b n)) x.rule x.place x.other) (sym frames) ∙ ap (λ (l : List (List ℕ)). broken f l x.rule x.place x.other) (sym segment) ∙ breaking in
    legal_unbroken (epoch_frame s (items_of r b) b n) (entries (in_epoch (items_of r b) b n)) x.rule x.place x.other ((h.shards (shard_of b) (omega arith)).legal b n) bad

pub not_k7 : (s : Store) (r : Chronicle) (key : List ℕ) (e : BrokenRule) → Honest s r → length s.id ≡ 32 → s.id ≡ sha256 key → HolderSigned s r key (K7 e) → NoneCollide r key (K7 e) → k7_tried key e ≡ Ok tt → ⊥
unfolding presented
not_k7 s r key e h id own holder apart p =
    let P : List ℕ → Type 0 = PresentedOrHashed r key (K7 e) in
    let g : Given = e.given in
    let b : ℕ = e.block in
    let ts : List (List ℕ) = e.segment in
    let k : ShowsK7 key e = shows_k7 key e p in
    let w : Framed = k.w in
    let n : ℕ = w.closing.epoch in
    let chained : List (List ℕ) = chain_texts (opening_head (framed key g) b) ts in
    let tail : List (List ℕ) = g.before.text ∷ chained in
    let rest : List (List ℕ) = g.table_before ∷ tail in
    let v : HonestFrame s r w = honest_frame s r key h id P apart (λ t x. inr x) g w k.framed_is holder.0 holder.1.0 (inl (second_of_list e.families g.table rest)) (inl (behind_first e.families g.table_before (g.table ∷ (g.table_before ∷ tail)) (second_of_list g.table g.table_before tail))) in
    let list : e.families ≡ v.seal.families = apart e.families v.seal.families (inl (first_of_list e.families (g.table ∷ rest))) (inr (hashed_seal r v.front v.seal v.back v.at).2) (k.families_named ∙ v.families) in
    let writes : k.families ≡ list_at s.families (items_of r b) n = rows_listed s (items_of r b) n e.families k.families k.families_are (list ∙ v.lists (shard_of b) (omega arith)) in
    let before = row_old s r w v b in
    let after = row_now s r w v b in
    let chain : AllByRecursion P (chain_texts (row w.rows_before b).head ts) = all_contained P (chain_texts (row w.rows_before b).head ts) (λ t x. inl (behind_first e.families t (given_texts g ++ chained) (Contains-append_right (given_texts g) chained t (subst (λ (y : Result Framed ℕ). Contains (chain_texts (opening_head y b) ts) t) (sym k.framed_is) x)))) in
    let segment : ts ≡ entries (in_epoch (items_of r b) b n) = honest_segment s r h P apart (λ t x. inr x) b n (frame_of key k.families w b) ts before after chain k.reaching in
    let frames : frame_of key k.families w b ≡ epoch_frame s (items_of r b) b n = frames_same s r (sha256 key) k.families b n (row w.rows_before b) (row w.rows b) (sym own) writes before after in
    own_unbroken s r h (frame_of key k.families w b) b n ts e.fault frames segment k.breaking

-- ---- an attestation that does not stand

-- where a signed row of an epoch stands in that epoch's segment
record StandsAt (s : Store) (r : Chronicle) (leaf : ℕ) (text : List ℕ) (w : SignedRow s r leaf text) (n : ℕ) : Type 0 where
  earlier : List (List ℕ)
  later : List (List ℕ)
  segment : entries (in_epoch (items_of r w.entry.block) w.entry.block n) ≡ earlier ++ w.row.entry ∷ later
  position : w.entry.position ≡ (cut (items_of r w.entry.block) w.entry.block (n - 1)).count + length earlier
  heads : head_of w.front w.entry.block ≡ head_after (cut (items_of r w.entry.block) w.entry.block (n - 1)).head earlier

in_epoch_row : (r : RowItem) (e : Entry) (back : List Item) (b n : ℕ) → entry_of r.entry ≡ Ok e → e.block ≡ b → e.epoch ≡ n → in_epoch (row_item r ∷ back) b n ≡ r ∷ in_epoch back b n
unfolding in_epoch rows_of
in_epoch_row r e back b n h same at = rw (h, eq-eqb e.block b same, h, eq-eqb e.epoch n at) refl

stands_at : (s : Store) (r : Chronicle) → Honest s r → (leaf : ℕ) (text : List ℕ) (w : SignedRow s r leaf text) (n : ℕ) → w.entry.epoch ≡ n → StandsAt s r leaf text w n
stands_at s r h leaf text w n at =
    let st : Stood s r leaf text w = stood s r h leaf text w in
    let place = w.at in
    let b : ℕ = w.entry.block in
    let k : ℕ = w.shard in
    let back : List Item = place.1 in
    let lists : items_of r b ≡ w.front ++ row_item w.row ∷ back = ap (λ (j : ℕ). get_or r.shards j []) st.shard ∙ place.2 in
    let each : Each (IsItemOf k) (w.front ++ row_item w.row ∷ back) = subst (λ (l : List Item). Each (IsItemOf k) l) place.2 (h.shards k place.0).each in
    let o : Ordered w.front b = ordered k w.front b (each_front (IsItemOf k) w.front (row_item w.row ∷ back) each) in
    let reads : entry_of w.row.entry ≡ Ok w.entry = spells_reads w.row.entry w.entry w.spells in
    let now : n ≡ freezes w.front + 1 = sym at ∙ st.epoch in
    let rows : in_epoch (items_of r b) b n ≡ in_epoch w.front b n ++ (w.row ∷ in_epoch back b n) =
    ap (λ (l : List Item). in_epoch l b n) lists ∙ in_epoch-append w.front (row_item w.row ∷ back) b n ∙ ap (λ (l : List RowItem). in_epoch w.front b n ++ l) (in_epoch_row w.row w.entry back b n reads refl at) in
    let earlier : List (List ℕ) = entries (in_epoch w.front b n) in
    let tips : cut (items_of r b) b (n - 1) ≡ cut w.front b (n - 1) =
    ap (λ (l : List Item). cut l b (n - 1)) lists ∙ ap (λ (rs : List RowItem). tip_after b (entries rs)) (up_to_stays k w.front (row_item w.row ∷ back) b (n - 1) each (omega (arith, now))) in
    let whole : rows_of w.front b ≡ up_to w.front b n = sym (o.all n (omega (arith, now))) in
    let count : length (rows_of w.front b) ≡ (cut w.front b n).count = ap length whole ∙ sym (length-map (up_to w.front b n) (λ (x : RowItem). x.entry)) ∙ sym (count_after b (entries (up_to w.front b n))) in
    record {
      earlier = earlier;
      later = entries (in_epoch back b n);
      segment = ap entries rows ∙ map-append (λ (x : RowItem). x.entry) (in_epoch w.front b n) (w.row ∷ in_epoch back b n);
      position = st.position ∙ count ∙ count_law w.front b n o ∙ ap (λ (t : Tip). t.count + length earlier) (sym tips);
      heads = ap (λ (rs : List RowItem). head_after (genesis b) (entries rs)) whole ∙ sym (head_after_tip b (entries (up_to w.front b n))) ∙ head_law w.front b n o ∙ ap (λ (t : Tip). head_after t.head earlier) (sym tips);
    }

says_so : (store prev : List ℕ) (e : Entry) → says_the_same (attested store prev e) e ≡ true
unfolding attested
says_so store prev e = rw (eq-eqb e.kind e.kind refl, eq-eqb e.epoch e.epoch refl, eq-eqb e.block e.block refl, eq-eqb e.position e.position refl, eq-eqb e.client e.client refl, eq-eqb e.nonce e.nonce refl, eq-eqb e.version e.version refl, (bytes_eq-Decides e.content e.content).1 refl) refl

same_bytes : (a b : List ℕ) → a ≡ b → bytes_eq a b ≡ true
same_bytes a b e = (bytes_eq-Decides a b).1 e

honest_stands : (store prev : List ℕ) (e : Entry) (text : List ℕ) (f : Frame) (earlier later : List (List ℕ)) → entry_of text ≡ Ok e → text ≡ entry_text e → e.position ≡ f.side.before.count + length earlier → e.position < f.after.count → prev ≡ head_after f.side.before.head earlier
    → stands f (earlier ++ text ∷ later) (attested store prev e) ≡ true
unfolding stands attested
honest_stands store prev e text f earlier later reads spelled position below heads =
    let i : e.position - f.side.before.count ≡ length earlier = omega (arith, position) in
    let at : text_at (earlier ++ text ∷ later) (e.position - f.side.before.count) ≡ text = ap (text_at (earlier ++ text ∷ later)) i ∙ get_or_at earlier text later [] (length earlier) refl in
    let front : take (e.position - f.side.before.count) (earlier ++ text ∷ later) ≡ earlier = ap (λ (n : ℕ). take n (earlier ++ text ∷ later)) i ∙ take_at earlier (text ∷ later) (length earlier) refl in
    let regroup : earlier ++ text ∷ later ≡ (earlier ++ text ∷ []) ++ later = sym (append_assoc earlier (text ∷ []) later) in
    let more : take (e.position - f.side.before.count + 1) (earlier ++ text ∷ later) ≡ earlier ++ text ∷ [] = ap (take (e.position - f.side.before.count + 1)) regroup ∙ take_at (earlier ++ text ∷ []) later (e.position - f.side.before.count + 1) (omega (arith, i, length-append earlier (text ∷ []))) in
    let said : ok_and (entry_of (text_at (earlier ++ text ∷ later) (e.position - f.side.before.count))) (says_the_same (attested store prev e)) ≡ true =
    ap (λ (t : List ℕ). ok_and (entry_of t) (says_the_same (attested store prev e))) at ∙ ap (λ (y : Result Entry ℕ). ok_and y (says_the_same (attested store prev e))) reads ∙ says_so store prev e in
    let after : head prev (entry_text e) ≡ head_after f.side.before.head (take (e.position - f.side.before.count + 1) (earlier ++ text ∷ later)) =
    ap (head prev) (sym spelled) ∙ ap (λ (p : List ℕ). head p text) heads ∙ sym (head_after-append f.side.before.head earlier (text ∷ [])) ∙ ap (head_after f.side.before.head) (sym more) in
    and_from _ _ (le-leb _ _ (omega (arith, position))) (and_from _ _ (lt-ltb _ _ below) (and_from _ _ said (and_from _ _ (same_bytes _ _ (heads ∙ ap (head_after f.side.before.head) (sym front))) (same_bytes _ _ after))))

-- an attestation lies between the tips of an epoch, and stands in its own segment
pub record StandsThere (f : Frame) (own : List (List ℕ)) (a : Attestation) : Type 0 where
  pub starts : f.side.before.count ≤ a.position
  pub ends : a.position < f.after.count
  pub standing : stands f own a ≡ true

-- each that was signed in the life for the epoch does
pub own_stands : (s : Store) (r : Chronicle) → Honest s r → length s.id ≡ 32 → (leaf : ℕ) (text : List ℕ) (a : Attestation) → Signed s r leaf text → attestation_of text ≡ Ok a → (n : ℕ) → a.epoch ≡ n
    → (f : Frame) → f.side.before ≡ cut (items_of r a.block) a.block (n - 1) → f.after ≡ cut (items_of r a.block) a.block n → StandsThere f (entries (in_epoch (items_of r a.block) a.block n)) a
unfolding attested
own_stands s r h id leaf text a signed reads n epoch f opens ends =
    let k = signed_attestation s r h id leaf text a signed reads in
    let wr : SignedRow s r leaf text = k.0 in
    let b : ℕ = wr.entry.block in
    let value : Attestation = attested s.id (head_of wr.front wr.entry.block) wr.entry in
    let a_is : a ≡ value = k.1 in
    let blocks : a.block ≡ b = ap (λ (z : Attestation). z.block) a_is in
    let position : a.position ≡ wr.entry.position = ap (λ (z : Attestation). z.position) a_is in
    let epochs : wr.entry.epoch ≡ n = ap (λ (z : Attestation). z.epoch) (sym a_is) ∙ epoch in
    let st : StandsAt s r leaf text wr n = stands_at s r h leaf text wr n epochs in
    let before : f.side.before ≡ cut (items_of r b) b (n - 1) = opens ∙ ap (λ (c : ℕ). cut (items_of r c) c (n - 1)) blocks in
    let after : f.after ≡ cut (items_of r b) b n = ends ∙ ap (λ (c : ℕ). cut (items_of r c) c n) blocks in
    let now_count : (cut (items_of r b) b n).count ≡ (cut (items_of r b) b (n - 1)).count + length (entries (in_epoch (items_of r b) b n)) = count_law (items_of r b) b n (ordered_in s r h b) in
    let sizes : length (entries (in_epoch (items_of r b) b n)) ≡ length (st.earlier ++ wr.row.entry ∷ st.later) = ap length st.segment in
    let counts : f.side.before.count ≡ (cut (items_of r b) b (n - 1)).count = ap (λ (t : Tip). t.count) before in
    let counts_after : f.after.count ≡ (cut (items_of r b) b n).count = ap (λ (t : Tip). t.count) after in
    let starts : wr.entry.position ≡ f.side.before.count + length st.earlier = omega (arith, st.position, counts) in
    let below : wr.entry.position < f.after.count = omega (arith, starts, counts, counts_after, now_count, sizes, length-append st.earlier (wr.row.entry ∷ st.later)) in
    let heads : head_of wr.front b ≡ head_after f.side.before.head st.earlier = st.heads ∙ ap (λ (t : Tip). head_after t.head st.earlier) (sym before) in
    let stood : stands f (st.earlier ++ wr.row.entry ∷ st.later) value ≡ true = honest_stands s.id (head_of wr.front b) wr.entry wr.row.entry f st.earlier st.later (spells_reads wr.row.entry wr.entry wr.spells) wr.spells.spelled starts below heads in
    let segment : entries (in_epoch (items_of r a.block) a.block n) ≡ st.earlier ++ wr.row.entry ∷ st.later = ap (λ (c : ℕ). entries (in_epoch (items_of r c) c n)) blocks ∙ st.segment in
    record {
      starts = omega (arith, starts, position);
      ends = omega (arith, below, position);
      standing = ap (λ (l : List (List ℕ)). stands f l a) segment ∙ ap (stands f (st.earlier ++ wr.row.entry ∷ st.later)) a_is ∙ stood;
    }

pub not_k8 : (s : Store) (r : Chronicle) (key : List ℕ) (e : Lost) → Honest s r → length s.id ≡ 32 → HolderSigned s r key (K8 e) → NoneCollide r key (K8 e) → k8_tried key e ≡ Ok tt → ⊥
unfolding presented
not_k8 s r key e h id holder apart p =
    let P : List ℕ → Type 0 = PresentedOrHashed r key (K8 e) in
    let g : Given = e.given in
    let x = e.attestation in
    let ts : List (List ℕ) = e.segment in
    let v : ShowsK8 key e = shows_k8 key e p in
    let n : ℕ = v.w.closing.epoch in
    let b : ℕ = v.a.block in
    let chained : List (List ℕ) = chain_texts (opening_head (framed key g) (block_in (result_ok (attestation_of x.text)))) ts in
    let sides : HonestFrame s r v.w = honest_frame s r key h id P apart (λ t y. inr y) g v.w v.framed_is holder.0 holder.1.0 (inl (first_of_list g.table (g.table_before ∷ (g.before.text ∷ chained)))) (inl (second_of_list g.table g.table_before (g.before.text ∷ chained))) in
    let f : Frame = frame_of key [] v.w v.a.block in
    let before : f.side.before ≡ cut (items_of r b) b (n - 1) = row_old s r v.w sides b in
    let after : f.after ≡ cut (items_of r b) b n = row_now s r v.w sides b in
    let st : StandsThere f (entries (in_epoch (items_of r b) b n)) v.a = own_stands s r h id (leaf_of x.signature) x.text v.a (holder.1.1.0 v.signed) v.a_is n v.epochs f before after in
    let lost = v.lost (le-leb _ _ st.starts) (lt-ltb _ _ st.ends) in
    let opened : chained ≡ chain_texts f.side.before.head ts =
    ap (λ (y : Result Framed ℕ). chain_texts (opening_head y (block_in (result_ok (attestation_of x.text)))) ts) v.framed_is ∙ ap (λ (y : Result Attestation ℕ). chain_texts (opening_head (Ok v.w) (block_in (result_ok y))) ts) v.a_is in
    let chain : AllByRecursion P (chain_texts f.side.before.head ts) = all_contained P (chain_texts f.side.before.head ts) (λ t y. inl (Contains-append_right (given_texts g) chained t (subst (λ (l : List (List ℕ)). Contains l t) (sym opened) y))) in
    let segment : ts ≡ entries (in_epoch (items_of r b) b n) = honest_segment s r h P apart (λ t y. inr y) b n f ts before after chain lost.0 in
    lost.1 (ap (λ (l : List (List ℕ)). stands f l v.a) segment ∙ st.standing)
