-- The material of an honest life is given.
use Rattle.std.proofs.Common.{◌≡◌, ℕ, ◌+◌, ◌-◌, Bool, true, false, cond, not, eqb, List, [], ◌∷◌, ◌++◌, length, map, get_or, Option, Some, None, Result, Ok, Err, inr, refl, sym, ap, subst, ◌∙◌, arith, append_assoc, length-append}
use Rattle.std.specs.Prelude.{bytes_eq, IsOk}
use Rattle.std.specs.Result.{result_ok, result_unwrap_or}
use Rattle.std.specs.List.{AllByRecursion}
use Rattle.std.proofs.lemmas.Bool.{and_from, eq-eqb, ne_eqb, lt-ltb, le-ltb, le-leb, false≢true}
use Rattle.std.proofs.lemmas.Slice.Eq.{bytes_eq-Decides}
use Rattle.sha2.specs.Sha256.{sha256}
use Rattle.cp_bytes.specs.Hashes.{head_after}
use Rattle.cp_statements.specs.Envelope.{Envelope, envelope_of}
use Rattle.cp_statements.specs.Closing.{Closing, closing_of}
use Rattle.cp_tips.specs.Table.{TableRow, row_in, tip_or_fresh, row}
use Rattle.cp_families.specs.Families.{FamilyRow, families_of}
use Rattle.cp_chain.specs.Frame.{Frame}
use Rattle.cp_chain.specs.Log.{LogPart, Log, log_of}
use Rattle.cp_chain.specs.Standing.{reaches}
use Rattle.cp_chain.proofs.Each.{same_split}
use Rattle.cp_core.specs.Store.{SpellsFamilies, Store}
use Rattle.cp_core.specs.Life.{cut, list_text, items_of}
use Rattle.cp_core.specs.Honest.{Honest, IsSealOf, counted, last_of}
use Rattle.cp_core.specs.declared.seal_item.SealItem.{SealItem}
use Rattle.cp_core.specs.declared.chronicle.Chronicle.{Chronicle}
use Rattle.cp_core.proofs.ListLemmas.{list_spells}
use Rattle.cp_core.proofs.EpochLemmas.{count_law, head_law}
use Rattle.cp_evidence.specs.Conditions.{signed_by, is_table_before}
use Rattle.cp_evidence.specs.Material.{Material, SignedClosing, GivenEpoch, closing_in, closing_before_in, before_in, rows_in_table, blocks_in, least_of, rose, part_of, frame_between, part_reaches, log_fault, log_given, log_is_read, parts_or_none, list_of, given_of}
use Rattle.cp_evidence.proofs.Searches.{all_always, all_append, all_map, mapped_all, pass_none}
use Rattle.cp_evidence.proofs.GivenFacts.{empty_rows, CameFrom, Facts, reads_log, given_all}
use Rattle.cp_guilt.specs.Framing.{WasSigned}
use Rattle.cp_guilt.specs.OwnAudit.{IsListOf, IsTableOf, own_segment, IsOwnPart, IsEnvelopeOf, IsOwnBefore, where_any, OwnMaterial, OwnIsGiven}
use Rattle.cp_guilt.proofs.Frames.{ordered_in, nothing_counted, row_is_tip}
use Rattle.cp_guilt.proofs.SignedTexts.{seal_reads}

-- ---- lists

-- what holds of each element with those around it holds of all
each_all : {X : Type 0} (P : X → Type 0) (xs : List X) → ((front : List X) (x : X) (back : List X) → xs ≡ front ++ x ∷ back → P x) → AllByRecursion P xs
each_all P [] h = tt
each_all {X} P (x ∷ xs) h = (h [] x xs refl, each_all P xs (λ front y back at. h (x ∷ front) y back (ap (λ (l : List X). x ∷ l) at)))

last_none : {X : Type 0} (xs : List X) → last_of xs ≡ None → xs ≡ []
last_none [] e = refl
last_none (x ∷ []) e = absurd cc
last_none (x ∷ y ∷ xs) e = absurd (not_nil (last_none (y ∷ xs) e))
  where
    not_nil : y ∷ xs ≡ [] → ⊥
    not_nil h = absurd cc

last_some : {X : Type 0} (xs : List X) (z : X) → last_of xs ≡ Some z → (front : List X) × (xs ≡ front ++ z ∷ [])
last_some [] z e = absurd cc
last_some {X} (x ∷ []) z e = let same : x ≡ z = cc in ([], ap (λ (y : X). y ∷ []) same)
last_some {X} (x ∷ y ∷ xs) z e = let rest = last_some (y ∷ xs) z e in (x ∷ rest.0, ap (λ (l : List X). x ∷ l) rest.1)

-- ---- one closing

same_bytes : (a b : List ℕ) → a ≡ b → bytes_eq a b ≡ true
same_bytes a b e = (bytes_eq-Decides a b).1 e

closing_there : (key : List ℕ) (back n : ℕ) (bytes : List ℕ) (x : Envelope) (c : Closing) → envelope_of bytes ≡ Ok x → signed_by key x ≡ true → closing_of x.text ≡ Ok c → bytes_eq c.store (sha256 key) ≡ true → eqb (c.epoch + back) n ≡ true
    → closing_in key back n bytes ≡ Some (record { envelope = x; closing = c })
closing_there key back n bytes x c a b d e f = rw (a, b, d, e, f) refl

-- ---- one block

-- entries that lead from the row before to the row after are the segment that the log has to have
segment_reaches : (f : Frame) (before after : List TableRow) (b : ℕ) (own : List (List ℕ)) → f.side.before ≡ row before b → f.after ≡ row after b → (row after b).count ≡ (row before b).count + length own → (row after b).head ≡ head_after (row before b).head own
    → part_reaches f (where_any own) (rose before after b) ≡ true
unfolding reaches
segment_reaches f before after b [] opens ends counts heads = rw (le-ltb (row before b).count (row after b).count (omega (arith, counts))) refl
segment_reaches f before after b (t ∷ ts) opens ends counts heads =
    let opened : f.side.before.count ≡ (row before b).count = ap (λ z. z.count) opens in
    let ended : f.after.count ≡ (row after b).count = ap (λ z. z.count) ends in
    let led : head_after f.side.before.head (t ∷ ts) ≡ f.after.head = ap (λ z. head_after z.head (t ∷ ts)) opens ∙ sym heads ∙ sym (ap (λ z. z.head) ends) in
    and_from _ _ (lt-ltb (row before b).count (row after b).count (omega (arith, counts)))
    (and_from _ _ (eq-eqb (f.side.before.count + length (t ∷ ts)) f.after.count (omega (arith, counts, opened, ended))) (and_from _ _ (le-leb 1 (length (t ∷ ts)) (omega arith)) (same_bytes (head_after f.side.before.head (t ∷ ts)) f.after.head led)))

-- a segment that is there is the block's rows
own_where_any : (own texts : List (List ℕ)) → where_any own ≡ Some texts → texts ≡ own
own_where_any [] texts e = absurd cc
own_where_any (t ∷ ts) texts e = let same : t ∷ ts ≡ texts = cc in sym same

-- ---- the whole

module _ (s : Store) (r : Chronicle) (m : Material) (own_id : s.id ≡ sha256 m.key) (h : Honest s r) (w : OwnMaterial s r m) where
  -- the closing of a seal
  closing_at : (front : List SealItem) (x : SealItem) (f : IsSealOf s r front x) (bytes : List ℕ) (e : IsEnvelopeOf m.key x bytes) (back : ℕ) → x.epoch + back ≡ m.epoch → closing_in m.key back m.epoch bytes ≡ Some (record { envelope = e.envelope; closing = f.closing })
  closing_at front x f bytes e back epoch =
      let store : f.closing.store ≡ sha256 m.key = ap (λ (z : Closing). z.store) f.closing_is ∙ own_id in
      let number : f.closing.epoch ≡ x.epoch = ap (λ (z : Closing). z.epoch) f.closing_is in
      closing_there m.key back m.epoch bytes e.envelope f.closing e.reads e.signed (ap closing_of e.text_is ∙ seal_reads s r front x f) (same_bytes f.closing.store (sha256 m.key) store) (eq-eqb (f.closing.epoch + back) m.epoch (omega (arith, number, epoch)))

  -- the table of a seal is that of each seal of its epoch
  table_at : (front : List SealItem) (x : SealItem) (back : List SealItem) → r.seals ≡ front ++ x ∷ back → IsTableOf r x.epoch x.table
  table_at front x back at = each_all (λ (y : SealItem). y.epoch ≡ x.epoch → x.table ≡ y.table) r.seals same
    where
      same : (front₂ : List SealItem) (y : SealItem) (back₂ : List SealItem) → r.seals ≡ front₂ ++ y ∷ back₂ → y.epoch ≡ x.epoch → x.table ≡ y.table
      same front₂ y back₂ at₂ epochs =
          let here = (h.seals front x back at).epoch in
          let there = (h.seals front₂ y back₂ at₂).epoch in
          let split = same_split front x back front₂ y back₂ (sym at ∙ at₂) (omega (arith, here, there, epochs)) in
          ap (λ (z : SealItem). z.table) split.1

  -- and its list that of each seal of its epoch
  list_at_seal : (front : List SealItem) (x : SealItem) (back : List SealItem) → r.seals ≡ front ++ x ∷ back → IsListOf r x.epoch x.families
  list_at_seal front x back at = each_all (λ (y : SealItem). y.epoch ≡ x.epoch → x.families ≡ y.families) r.seals same
    where
      same : (front₂ : List SealItem) (y : SealItem) (back₂ : List SealItem) → r.seals ≡ front₂ ++ y ∷ back₂ → y.epoch ≡ x.epoch → x.families ≡ y.families
      same front₂ y back₂ at₂ epochs =
          let here = h.seals front x back at in
          let there = h.seals front₂ y back₂ at₂ in
          here.families 0 (omega arith) ∙ ap (list_text s.families (get_or r.shards 0 [])) (sym epochs) ∙ sym (there.families 0 (omega arith))

  -- its rows are the tips at the end of its epoch
  rows_at : (front : List SealItem) (x : SealItem) (back : List SealItem) → r.seals ≡ front ++ x ∷ back → (b : ℕ) → row_in (rows_in_table x.table) b ≡ counted (cut (items_of r b) b x.epoch)
  rows_at front x back at b =
      let f : IsSealOf s r front x = h.seals front x back at in
      let rows : rows_in_table x.table ≡ f.rows = ap (λ (z : Result (List TableRow) ℕ). result_unwrap_or z []) f.table in
      ap (λ (l : List TableRow). row_in l b) rows ∙ f.is_table.each b

  -- its leaf signed its text
  signed_at : (front : List SealItem) (x : SealItem) (back : List SealItem) → r.seals ≡ front ++ x ∷ back → (bytes : List ℕ) (e : IsEnvelopeOf m.key x bytes) → WasSigned s r m.key e.envelope
  signed_at front x back at bytes e verified = inr (record { front = front; seal = x; back = back; at = at; leaf_is = e.leaf_is; text_is = e.text_is })

  abbrev seal_is : IsSealOf s r w.front w.seal
  seal_is = h.seals w.front w.seal w.back w.at

  -- ---- the epoch before

  record Before : Type 0 where
    before : Option SignedClosing
    given : closing_before_in m.key m.epoch m.before ≡ Some before
    digest : is_table_before m.table_before (before_in before) ≡ true
    rows : (b : ℕ) → row_in (rows_in_table m.table_before) b ≡ counted (cut (items_of r b) b (m.epoch - 1))
    table : IsTableOf r (m.epoch - 1) m.table_before
    signed : AllByRecursion (λ c. WasSigned s r m.key c.envelope) (list_of before)

  first_given : m.before ≡ [] → eqb m.epoch 1 ≡ true → closing_before_in m.key m.epoch m.before ≡ Some None
  first_given none first = rw (first, none) refl

  later_given : (c : SignedClosing) → closing_in m.key 1 m.epoch m.before ≡ Some c → eqb m.epoch 1 ≡ false → closing_before_in m.key m.epoch m.before ≡ Some (Some c)
  later_given c is later = rw (later, is) refl

  before_by : (last : Option SealItem) → last_of w.front ≡ last → IsOwnBefore m last → Before
  before_by None is own =
      let empty : w.front ≡ [] = last_none w.front is in
      let none : length w.front ≡ 0 = ap length empty in
      let seal = seal_is.epoch in
      let epoch : m.epoch ≡ 1 = omega (arith, w.epoch, seal, none) in
      record {
        before = None;
        given = first_given own.0 (eq-eqb m.epoch 1 epoch);
        digest = eq-eqb (length m.table_before) 0 (ap length own.1);
        rows = λ b. ap (λ (l : List ℕ). row_in (rows_in_table l) b) own.1 ∙ ap (λ (l : List TableRow). row_in l b) empty_rows ∙ nothing_counted s r h b (m.epoch - 1) (omega (arith, epoch));
        table = each_all (λ (y : SealItem). y.epoch ≡ m.epoch - 1 → m.table_before ≡ y.table) r.seals (λ front y back at same. absurd (let number = (h.seals front y back at).epoch in omega (arith, number, same, epoch)));
        signed = tt;
      }
  before_by (Some x) is own =
      let split = last_some w.front x is in
      let front : List SealItem = split.0 in
      let at : r.seals ≡ front ++ x ∷ (w.seal ∷ w.back) = w.at ∙ ap (λ (l : List SealItem). l ++ w.seal ∷ w.back) split.1 ∙ append_assoc front (x ∷ []) (w.seal ∷ w.back) in
      let f : IsSealOf s r front x = h.seals front x (w.seal ∷ w.back) at in
      let sizes : length w.front ≡ length (front ++ x ∷ []) = ap length split.1 in
      let joined = length-append front (x ∷ []) in
      let seal = seal_is.epoch in
      let earlier = f.epoch in
      let next : x.epoch + 1 ≡ m.epoch = omega (arith, w.epoch, seal, earlier, sizes, joined) in
      let number : m.epoch - 1 ≡ x.epoch = omega (arith, next) in
      let named : f.closing.table ≡ sha256 x.table = ap (λ (z : Closing). z.table) f.closing_is in
      record {
        before = Some (record { envelope = own.0.envelope; closing = f.closing });
        given = later_given _ (closing_at front x f m.before own.0 1 next) (ne_eqb m.epoch 1 (λ one. omega (arith, one, next, earlier)));
        digest = same_bytes (sha256 m.table_before) f.closing.table (ap sha256 own.1 ∙ sym named);
        rows = λ b. ap (λ (l : List ℕ). row_in (rows_in_table l) b) own.1 ∙ rows_at front x (w.seal ∷ w.back) at b ∙ ap (λ (n : ℕ). counted (cut (items_of r b) b n)) (sym number);
        table = subst (λ (n : ℕ). IsTableOf r n m.table_before) (sym number) (subst (IsTableOf r x.epoch) (sym own.1) (table_at front x (w.seal ∷ w.back) at));
        signed = (signed_at front x (w.seal ∷ w.back) at m.before own.0, tt);
      }

  before : Before
  before = before_by (last_of w.front) refl w.before

  -- ---- the tables and the log

  abbrev old : List TableRow
  old = rows_in_table m.table_before

  abbrev new : List TableRow
  new = rows_in_table m.table

  tip_before : (b : ℕ) → row old b ≡ cut (items_of r b) b (m.epoch - 1)
  tip_before b = ap (tip_or_fresh b) (before.rows b) ∙ row_is_tip b _

  tip_now : (b : ℕ) → row new b ≡ cut (items_of r b) b m.epoch
  tip_now b = ap (tip_or_fresh b) (ap (λ (l : List ℕ). row_in (rows_in_table l) b) w.table ∙ rows_at w.front w.seal w.back w.at b ∙ ap (λ (n : ℕ). counted (cut (items_of r b) b n)) (sym w.epoch)) ∙ row_is_tip b _

  abbrev frame : List FamilyRow → ℕ → Frame
  frame families = frame_between (sha256 m.key) families m.epoch old new

  abbrev l : Log
  l = w.log.log

  reaches_at : (families : List FamilyRow) (b : ℕ) → part_reaches (frame families b) (part_of l.parts b) (rose old new b) ≡ true
  reaches_at families b =
      let counts : (row new b).count ≡ (row old b).count + length (own_segment r m.epoch b) = ap (λ z. z.count) (tip_now b) ∙ count_law (items_of r b) b m.epoch (ordered_in s r h b) ∙ ap (λ z. z.count + length (own_segment r m.epoch b)) (sym (tip_before b)) in
      let heads : (row new b).head ≡ head_after (row old b).head (own_segment r m.epoch b) = ap (λ z. z.head) (tip_now b) ∙ head_law (items_of r b) b m.epoch (ordered_in s r h b) ∙ ap (λ z. head_after z.head (own_segment r m.epoch b)) (sym (tip_before b)) in
      ap (λ (part : Option (List (List ℕ))). part_reaches (frame families b) part (rose old new b)) (w.log.segments b) ∙ segment_reaches (frame families b) old new b (own_segment r m.epoch b) refl refl counts heads

  no_fault : (families : List FamilyRow) → log_fault (frame families) old new l.parts ≡ None
  unfolding log_fault
  no_fault families =
      let blocks : List ℕ = blocks_in new ++ map (λ (p : LogPart). p.block) l.parts in
      let fails : ℕ → Bool = λ b. not (part_reaches (frame families b) (part_of l.parts b) (rose old new b)) in
      ap least_of (pass_none fails blocks (all_always (λ (b : ℕ). fails b ≡ false) (λ b. ap not (reaches_at families b)) blocks))

  log_there : (families : List FamilyRow) → log_given m.epoch (frame families) old new (result_ok (log_of m.log)) ≡ Ok (Some l.parts)
  log_there families = rw (w.log.reads, eq-eqb l.epoch m.epoch w.log.of_epoch, no_fault families) refl

  log_where : (families : List FamilyRow) (test : Bool) → (log : Option (List LogPart)) × (cond test (log_given m.epoch (frame families) old new (result_ok (log_of m.log))) (Ok None) ≡ Ok log)
  log_where families true = (Some l.parts, log_there families)
  log_where families false = (None, refl)

  -- ---- given

  abbrev closing : SignedClosing
  closing = record { envelope = w.closing.envelope; closing = seal_is.closing }

  list_named : bytes_eq (sha256 m.families) closing.closing.families ≡ true
  list_named = same_bytes (sha256 m.families) closing.closing.families (ap sha256 w.families ∙ sym (ap (λ (z : Closing). z.families) seal_is.closing_is))

  table_named : bytes_eq (sha256 m.table) closing.closing.table ≡ true
  table_named = same_bytes (sha256 m.table) closing.closing.table (ap sha256 w.table ∙ sym (ap (λ (z : Closing). z.table) seal_is.closing_is))

  given_by : (families : List FamilyRow) → families_of m.families ≡ Ok families → (log : Option (List LogPart)) → cond (log_is_read m (before_in before.before) closing.closing) (log_given m.epoch (frame families) old new (result_ok (log_of m.log))) (Ok None) ≡ Ok log
      → given_of m ≡ Ok (record { key = m.key; epoch = m.epoch; families_text = m.families; families = families; before = before.before; closing = closing; table_before = m.table_before; table = m.table; log = log })
  unfolding given_of
  given_by families list log is =
      let closing_is : closing_in m.key 0 m.epoch m.closing ≡ Some closing = closing_at w.front w.seal seal_is m.closing w.closing 0 (omega (arith, w.epoch)) in
      rw (list, before.given, closing_is, list_named, before.digest, table_named, is) refl

  -- the seal's list reads, as all lists of the life do
  seal_spells : SpellsFamilies w.seal.families
  seal_spells = subst SpellsFamilies (sym (seal_is.families 0 (omega arith))) (list_spells 0 s.families (get_or r.shards 0 []) (h.shards 0 (omega arith)).each w.list_reads w.seal.epoch)

  list_read : (list : Result (List FamilyRow) ℕ) → families_of w.seal.families ≡ list → IsOk list → (families : List FamilyRow) × (families_of m.families ≡ Ok families)
  list_read (Ok families) is ok = (families, ap families_of w.families ∙ is)
  list_read (Err at) is ok = absurd (false≢true ok)

  closings_signed : AllByRecursion (WasSigned s r m.key) (map (λ (c : SignedClosing). c.envelope) (list_of before.before ++ closing ∷ []))
  closings_signed = mapped_all (WasSigned s r m.key) (λ (c : SignedClosing). c.envelope) (list_of before.before ++ closing ∷ []) (all_append (λ (c : SignedClosing). WasSigned s r m.key c.envelope) (list_of before.before) (closing ∷ []) before.signed (signed_at w.front w.seal w.back w.at m.closing w.closing, tt))

  -- the segments of the log that was read
  own_parts : (o : GivenEpoch) → given_of m ≡ Ok o → AllByRecursion (IsOwnPart r m.epoch) (parts_or_none o.log)
  own_parts o given = by_log o.log refl
    where
      facts : Facts o × CameFrom m o
      facts = given_all m o given

      by_reading : (reads : Bool) → reads_log o ≡ reads → (parts : List LogPart) → o.log ≡ Some parts → AllByRecursion (IsOwnPart r m.epoch) parts
      by_reading false is parts log = let gone : o.log ≡ None = facts.0.no_log is in absurd (apart (sym gone ∙ log))
        where
          apart : (let n : Option (List LogPart) = None in n) ≡ Some parts → ⊥
          apart e = absurd cc
      by_reading true is parts log =
          let from = facts.1.log parts log in
          let same : l ≡ from.0 = one l from.0 (sym w.log.reads ∙ from.1) in
          let found : AllByRecursion (λ p. part_of parts p.block ≡ Some p.texts) parts = subst (λ (z : Option (List LogPart)). AllByRecursion (λ p. part_of (parts_or_none z) p.block ≡ Some p.texts) (parts_or_none z)) log (facts.0.log_facts is).own in
          let lists : l.parts ≡ parts = ap (λ (z : Log). z.parts) same ∙ from.2 in
          all_map (λ (p : LogPart). part_of parts p.block ≡ Some p.texts) (IsOwnPart r m.epoch)
          (λ p at. own_where_any (own_segment r m.epoch p.block) p.texts (sym (w.log.segments p.block) ∙ ap (λ (ps : List LogPart). part_of ps p.block) lists ∙ at)) parts found
        where
          one : (a b : Log) → (let x : Result Log ℕ = Ok a in x) ≡ Ok b → a ≡ b
          one a b e = cc

      by_log : (log : Option (List LogPart)) → o.log ≡ log → AllByRecursion (IsOwnPart r m.epoch) (parts_or_none log)
      by_log None is = tt
      by_log (Some parts) is = by_reading (reads_log o) refl parts is

pub own_given : OwnIsGiven
own_given s r m id honest w =
    let list = list_read s r m id honest w (families_of w.seal.families) refl (seal_spells s r m id honest w) in
    let b = before s r m id honest w in
    let log = log_where s r m id honest w list.0 (log_is_read m (before_in b.before) (closing s r m id honest w).closing) in
    let given = given_by s r m id honest w list.0 list.1 log.0 log.1 in (
      _,
      given,
      record {
        families = subst (λ (n : ℕ). IsListOf r n m.families) (sym w.epoch) (subst (IsListOf r w.seal.epoch) (sym w.families) (list_at_seal s r m id honest w w.front w.seal w.back w.at));
        table = subst (λ (n : ℕ). IsTableOf r n m.table) (sym w.epoch) (subst (IsTableOf r w.seal.epoch) (sym w.table) (table_at s r m id honest w w.front w.seal w.back w.at));
        table_before = b.table;
        log = own_parts s r m id honest w _ given;
      },
      closings_signed s r m id honest w,
    )
