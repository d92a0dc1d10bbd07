-- What it shows that the material is given.
use Rattle.std.proofs.Common.{◌≡◌, ℕ, ◌+◌, ◌<◌, Bool, true, false, cond, eqb, List, [], ◌∷◌, ◌++◌, length, map, Option, Some, None, Result, Ok, Err, ◌⊎◌, inl, inr, refl, sym, ap, subst, ◌∙◌, arith}
use Rattle.std.specs.Prelude.{bytes_eq, filter, not, ◌&&◌, is_none, is_some, option_map, option_and_then}
use Rattle.std.specs.Option.{ok_or}
use Rattle.std.specs.Result.{result_ok, result_unwrap_or}
use Rattle.std.specs.List.{AllByRecursion}
use Rattle.std.proofs.lemmas.Bool.{and_parts, eqb-true, eqb-false, eq-eqb, ne_eqb, le-ltb, ltb-true, false≢true}
use Rattle.std.proofs.lemmas.List.{nil_from_length}
use Rattle.sha2.specs.Sha256.{sha256}
use Rattle.cp_bytes.specs.Fields.{◌>>=◌, field_at}
use Rattle.cp_statements.specs.Envelope.{Envelope, envelope_of}
use Rattle.cp_statements.specs.Closing.{Closing}
use Rattle.cp_tips.specs.Tip.{Tip}
use Rattle.cp_tips.specs.Table.{TableRow, table_of, row_in, row, well_formed, regressed_from, regressed}
use Rattle.cp_families.specs.Families.{families_of}
use Rattle.cp_chain.specs.Frame.{Frame}
use Rattle.cp_chain.specs.Log.{LogPart, Log, log_of, comes_behind, parts_ascend}
use Rattle.cp_chain.proofs.Found.{some_is}
use Rattle.cp_chain.proofs.LogOrder.{log_ascends}
use Rattle.cp_evidence.specs.Conditions.{signed_by, closing_by, where_holds, Before, before_of, is_table_before, rows_for, rows_before}
use Rattle.cp_evidence.specs.Material.{Material, What, needs, SignedClosing, signed_closing, closing_in, closing_before_in, before_in, envelope_before, is_formed, is_formed_before, rows_in_table, least_of, blocks_in, least_regressed, rose, part_of, frame_between, part_reaches, log_fault, whole_log, log_given, GivenEpoch, log_is_read, given_of, old_rows, new_rows, parts_or_none, segment_for, frame_for}
use Rattle.cp_evidence.specs.Material.What.{FamiliesList, ClosingBefore, ClosingItself, TableBefore, TableItself, LogText}
use Rattle.cp_evidence.proofs.Trying.{where_some}
use Rattle.cp_evidence.proofs.Searches.{all_map, all_two, all_parts, all_mapped, map_some, not_false, least_is, least_none, all_pass, none_pass, pass_none}

-- ---- steps

or_then : {A B : Type 0} (what : What) (o : Option A) (f : A → Result B What) (y : B) → (ok_or o what >>= f) ≡ Ok y → (x : A) × (o ≡ Some x) × (f x ≡ Ok y)
or_then what (Some x) f y e = (x, refl, e)
or_then what None f y e = absurd cc

needs_then : {B : Type 0} (what : What) (b : Bool) (f : Unit {0} → Result B What) (y : B) → (needs what b >>= f) ≡ Ok y → (b ≡ true) × (f tt ≡ Ok y)
needs_then what true f y e = (refl, e)
needs_then what false f y e = absurd cc

then_ok : {A B : Type 0} (r : Result A What) (f : A → Result B What) (y : B) → (r >>= f) ≡ Ok y → (x : A) × (r ≡ Ok x) × (f x ≡ Ok y)
then_ok (Ok x) f y e = (x, refl, e)
then_ok (Err d) f y e = absurd cc

what_is : {A : Type 0} (x y : A) → (let a : Result A What = Ok x in a) ≡ Ok y → x ≡ y
what_is x y e = cc

pub ok_some : {A : Type 0} (r : Result A ℕ) (x : A) → result_ok r ≡ Some x → r ≡ Ok x
ok_some {A = A} (Ok y) x e = ap (λ (z : A). Ok z) (some_is y x e)
ok_some (Err d) x e = absurd cc

-- ---- closings

pub record SignedIn (key : List ℕ) (back epoch : ℕ) (c : SignedClosing) : Type 0 where
  pub signed : signed_by key c.envelope ≡ true
  pub closing_is : closing_by (sha256 key) c.envelope.text ≡ Some c.closing
  pub epochs : c.closing.epoch + back ≡ epoch

signed_closing_is : (key : List ℕ) (back epoch : ℕ) (x : Envelope) (c : SignedClosing) → signed_closing key back epoch x ≡ Some c → (c.envelope ≡ x) × SignedIn key back epoch c
signed_closing_is key back epoch x c e = go (signed_by key x) refl e
  where
    found : Option Closing
    found = where_holds (λ c. eqb (c.epoch + back) epoch) (closing_by (sha256 key) x.text)

    make : Closing → SignedClosing
    make d = record { envelope = x; closing = d }

    go : (b : Bool) → signed_by key x ≡ b → cond b (option_map make found) None ≡ Some c → (c.envelope ≡ x) × SignedIn key back epoch c
    go true t h =
        let d = map_some make found c h in
        let w = where_some (λ (c : Closing). eqb (c.epoch + back) epoch) (closing_by (sha256 key) x.text) d.0 d.1 in
        subst (λ (z : SignedClosing). (z.envelope ≡ x) × SignedIn key back epoch z) d.2 (refl, record { signed = t; closing_is = w.0; epochs = eqb-true _ _ w.1 })
    go false t h = absurd cc

closing_in_is : (key : List ℕ) (back epoch : ℕ) (bytes : List ℕ) (c : SignedClosing) → closing_in key back epoch bytes ≡ Some c → (envelope_of bytes ≡ Ok c.envelope) × SignedIn key back epoch c
closing_in_is key back epoch bytes c e = go (envelope_of bytes) e
  where
    go : (r : Result Envelope ℕ) → option_and_then (signed_closing key back epoch) (result_ok r) ≡ Some c → (r ≡ Ok c.envelope) × SignedIn key back epoch c
    go (Ok x) h = let w = signed_closing_is key back epoch x c h in (ap (λ (z : Envelope). Ok z) (sym w.0), w.1)
    go (Err d) h = absurd cc

-- none in epoch 1, and otherwise one of the epoch before
abbrev pub GivenBefore : List ℕ → ℕ → Option SignedClosing → Type 0
GivenBefore key epoch before = ((epoch ≡ 1) × (before ≡ None)) ⊎ ((epoch ≡ 1 → ⊥) × (c : SignedClosing) × (before ≡ Some c) × SignedIn key 1 epoch c)

none_given : (b : Bool) (before : Option SignedClosing) → cond {A = Option (Option SignedClosing)} b (Some None) None ≡ Some before → before ≡ None
none_given true before h = sym (some_is None before h)
none_given false before h = absurd cc

closing_before_is : (key : List ℕ) (epoch : ℕ) (bytes : List ℕ) (before : Option SignedClosing) → closing_before_in key epoch bytes ≡ Some before → GivenBefore key epoch before
closing_before_is key epoch bytes before e = go (eqb epoch 1) refl e
  where
    make : SignedClosing → Option SignedClosing
    make c = Some c

    go : (b : Bool) → eqb epoch 1 ≡ b → cond b (cond (eqb (length bytes) 0) (Some None) None) (option_map make (closing_in key 1 epoch bytes)) ≡ Some before → GivenBefore key epoch before
    go true t h = inl (eqb-true _ _ t, none_given (eqb (length bytes) 0) before h)
    go false t h =
        let c = map_some make (closing_in key 1 epoch bytes) before h in
        inr (eqb-false _ _ t, c.0, sym c.2, (closing_in_is key 1 epoch bytes c.0 c.1).1)

closing_before_from : (key : List ℕ) (epoch : ℕ) (bytes : List ℕ) (before : Option SignedClosing) → closing_before_in key epoch bytes ≡ Some before → (c : SignedClosing) → before ≡ Some c → envelope_of bytes ≡ Ok c.envelope
closing_before_from key epoch bytes before e c is = go (eqb epoch 1) e
  where
    make : SignedClosing → Option SignedClosing
    make d = Some d

    both : before ≡ None → ⊥
    both n = cc

    go : (b : Bool) → cond b (cond (eqb (length bytes) 0) (Some None) None) (option_map make (closing_in key 1 epoch bytes)) ≡ Some before → envelope_of bytes ≡ Ok c.envelope
    go true h = absurd (both (none_given (eqb (length bytes) 0) before h))
    go false h =
        let d = map_some make (closing_in key 1 epoch bytes) before h in
        let same : d.0 ≡ c = some_is d.0 c (d.2 ∙ is) in
        (closing_in_is key 1 epoch bytes d.0 d.1).0 ∙ ap (λ (z : SignedClosing). Ok z.envelope) same

-- it fits as the evidence asks
pub before_fits : (key : List ℕ) (c : Closing) (epoch : ℕ) (before : Option SignedClosing) → c.epoch ≡ epoch → GivenBefore key epoch before → before_of key c (envelope_before before) ≡ Some (before_in before)
before_fits key c epoch None same given =
    elim given [
      | inl h ↦ rw (eq-eqb c.epoch 1 (same ∙ h.0)) refl
      | inr h ↦ absurd cc
    ]
before_fits key c epoch (Some d) same given =
    elim given [
      | inl h ↦ absurd cc
      | inr h ↦
          let is : d ≡ h.1 = cc in
          let w : SignedIn key 1 epoch d = subst (λ (z : SignedClosing). SignedIn key 1 epoch z) (sym is) h.3 in
          let ne : eqb c.epoch 1 ≡ false = ne_eqb c.epoch 1 (λ one. h.0 (sym same ∙ one)) in
          let next : eqb (d.closing.epoch + 1) c.epoch ≡ true = eq-eqb _ _ (w.epochs ∙ sym same) in
          rw (ne, w.signed, w.closing_is, next) refl
    ]

-- ---- tables

pub formed_is : (bytes : List ℕ) (c : Closing) → is_formed bytes c ≡ is_some (rows_for bytes c)
formed_is bytes c = go (rows_for bytes c)
  where
    go : (o : Option (List TableRow)) → not (is_none o) ≡ is_some o
    go None = refl
    go (Some rows) = refl

formed_reads : (r : Result (List TableRow) ℕ) (c : Closing) → is_some (where_holds (λ rows. well_formed rows c.rows c.entries) (result_ok r)) ≡ true → where_holds (λ rows. well_formed rows c.rows c.entries) (result_ok r) ≡ Some (result_unwrap_or r [])
formed_reads (Err d) c h = absurd (false≢true h)
formed_reads (Ok rows) c h = go (well_formed rows c.rows c.entries) h
  where
    go : (b : Bool) → is_some (cond {A = Option (List TableRow)} b (Some rows) None) ≡ true → cond {A = Option (List TableRow)} b (Some rows) None ≡ Some rows
    go true h = refl
    go false h = absurd (false≢true h)

pub formed_rows : (bytes : List ℕ) (c : Closing) → is_formed bytes c ≡ true → rows_for bytes c ≡ Some (rows_in_table bytes)
formed_rows bytes c h = formed_reads (table_of bytes) c (sym (formed_is bytes c) ∙ h)

pub empty_rows : rows_in_table [] ≡ []
unfolding table_of field_at
empty_rows = refl

pub formed_before_rows : (bytes : List ℕ) (before : Before) → is_formed_before bytes before ≡ true → rows_before bytes before ≡ Some (rows_in_table bytes)
formed_before_rows bytes None h =
    let none : bytes ≡ [] = nil_from_length bytes (eqb-true _ _ h) in
    ap (λ (l : List TableRow). Some l) (sym (ap rows_in_table none ∙ empty_rows))
formed_before_rows bytes (Some c) h = formed_rows bytes c h

-- ---- regressed blocks

found_in : (P : ℕ → Type 0) (rows : List TableRow) (b : ℕ) (t : Tip) → AllByRecursion P (blocks_in rows) → row_in rows b ≡ Some t → P b
found_in P [] b t all e = absurd cc
found_in P (r ∷ rows) b t all e = go (eqb r.block b) refl e (found_in P rows b t all.1)
  where
    go : (x : Bool) → eqb r.block b ≡ x → cond x (Some r.tip) (row_in rows b) ≡ Some t → (row_in rows b ≡ Some t → P b) → P b
    go true is h rest = subst P (eqb-true _ _ is) all.0
    go false is h rest = rest h

pub least_regressed_is : (before after : List TableRow) (b : ℕ) → least_regressed before after ≡ Some b → regressed before after b ≡ true
unfolding least_regressed
least_regressed_is before after b e = least_is (λ (c : ℕ). regressed before after c ≡ true) (filter (regressed before after) (blocks_in before)) b (all_pass (regressed before after) (blocks_in before)) e

pub none_regressed : (before after : List TableRow) → least_regressed before after ≡ None → (b : ℕ) → regressed before after b ≡ false
unfolding least_regressed regressed
none_regressed before after e b = go (row_in before b) refl
  where
    none : AllByRecursion (λ (c : ℕ). regressed before after c ≡ false) (blocks_in before)
    none = none_pass (regressed before after) (blocks_in before) (least_none _ e)

    go : (o : Option Tip) → row_in before b ≡ o → regressed_from o (row_in after b) ≡ false
    go None is = refl
    go (Some t) is = ap (λ (o : Option Tip). regressed_from o (row_in after b)) (sym is) ∙ found_in (λ (c : ℕ). regressed before after c ≡ false) before b t none is

pub regressed_none : (before after : List TableRow) → ((b : ℕ) → regressed before after b ≡ false) → least_regressed before after ≡ None
unfolding least_regressed
regressed_none before after h = ap least_of (pass_none (regressed before after) (blocks_in before) (every (blocks_in before)))
  where
    every : (bs : List ℕ) → AllByRecursion (λ (c : ℕ). regressed before after c ≡ false) bs
    every [] = tt
    every (b ∷ bs) = (h b, every bs)

pub none_is : {A : Type 0} (o : Option A) → is_none o ≡ true → o ≡ None
none_is None h = refl
none_is (Some x) h = absurd (false≢true h)

-- ---- the log

pub part_found : (R : ℕ → List (List ℕ) → Type 0) (parts : List LogPart) (b : ℕ) (ts : List (List ℕ)) → AllByRecursion (λ p. R p.block p.texts) parts → part_of parts b ≡ Some ts → R b ts
part_found R [] b ts all e = absurd cc
part_found R (p ∷ parts) b ts all e = go (eqb p.block b) refl e (part_found R parts b ts all.1)
  where
    go : (x : Bool) → eqb p.block b ≡ x → cond x (Some p.texts) (part_of parts b) ≡ Some ts → (part_of parts b ≡ Some ts → R b ts) → R b ts
    go true is h rest = subst (λ (l : List (List ℕ)). R b l) (let same : p.texts ≡ ts = cc in same) (subst (λ (c : ℕ). R c p.texts) (eqb-true _ _ is) all.0)
    go false is h rest = rest h

-- in an ascending log each segment is the one of its block
above : (b : ℕ) (parts : List LogPart) → parts_ascend (Some b) parts ≡ true → AllByRecursion (λ p. b < p.block) parts
above b [] h = tt
above b (p ∷ parts) h =
    let w = and_parts _ _ h in
    let lt : b < p.block = ltb-true _ _ w.0 in
    (lt, all_map (λ (q : LogPart). p.block < q.block) (λ (q : LogPart). b < q.block) (λ q more. omega (arith, lt, more)) parts (above p.block parts w.1))

-- a part of a later block is found behind an earlier one
behind : (q : LogPart) (parts : List LogPart) (p : LogPart) → q.block < p.block → part_of parts p.block ≡ Some p.texts → part_of (q ∷ parts) p.block ≡ Some p.texts
behind q parts p lt is = rw (ne_eqb q.block p.block (omega (arith, lt))) is

pub own_segments : (before : Option ℕ) (parts : List LogPart) → parts_ascend before parts ≡ true → AllByRecursion (λ p. part_of parts p.block ≡ Some p.texts) parts
own_segments before [] h = tt
own_segments before (q ∷ parts) h =
    let w = and_parts (comes_behind before q.block) (parts_ascend (Some q.block) parts) h in (
      rw (eq-eqb q.block q.block refl) refl,
      all_two (λ (p : LogPart). q.block < p.block) (λ (p : LogPart). part_of parts p.block ≡ Some p.texts) (λ (p : LogPart). part_of (q ∷ parts) p.block ≡ Some p.texts) (behind q parts) parts (above q.block parts w.1) (own_segments (Some q.block) parts w.1),
    )

-- the log holds at every block
holds_anywhere : (f : ℕ → Frame) (before after : List TableRow) (parts : List LogPart) → log_fault f before after parts ≡ None → (b : ℕ) → part_reaches (f b) (part_of parts b) (rose before after b) ≡ true
unfolding log_fault
holds_anywhere f before after parts e b = go (row_in after b) refl
  where
    fails : ℕ → Bool
    fails c = not (part_reaches (f c) (part_of parts c) (rose before after c))

    Holds : ℕ → Type 0
    Holds c = fails c ≡ false

    none : AllByRecursion Holds (blocks_in after ++ map (λ p. p.block) parts)
    none = none_pass fails (blocks_in after ++ map (λ p. p.block) parts) (least_none _ e)

    both : AllByRecursion Holds (blocks_in after) × AllByRecursion Holds (map (λ p. p.block) parts)
    both = all_parts Holds (blocks_in after) (map (λ p. p.block) parts) none

    segment : (o : Option (List (List ℕ))) → part_of parts b ≡ o → row_in after b ≡ None → part_reaches (f b) o (rose before after b) ≡ true
    segment None is gone = rw gone (rw (le-ltb (row before b).count 0 (omega arith)) refl)
    segment (Some ts) is gone = ap (λ (o : Option (List (List ℕ))). part_reaches (f b) o (rose before after b)) (sym is) ∙ not_false _ (part_found (λ (c : ℕ) (l : List (List ℕ)). Holds c) parts b ts (all_mapped Holds (λ p. p.block) parts both.1) is)

    go : (o : Option Tip) → row_in after b ≡ o → part_reaches (f b) (part_of parts b) (rose before after b) ≡ true
    go None is = segment (part_of parts b) refl is
    go (Some t) is = not_false _ (found_in Holds after b t both.0 is)

-- ---- all together

-- what the log gives where it was read
pub record LogGiven (o : GivenEpoch) : Type 0 where
  pub own : AllByRecursion (λ p. segment_for o p.block ≡ Some p.texts) (parts_or_none o.log)
  pub holds : (b : ℕ) → part_reaches (frame_for o b) (segment_for o b) (rose (old_rows o) (new_rows o) b) ≡ true

abbrev pub reads_log : GivenEpoch → Bool
reads_log o = is_formed_before o.table_before (before_in o.before) && (is_formed o.table o.closing.closing && is_none (least_regressed (old_rows o) (new_rows o)))

pub record Facts (o : GivenEpoch) : Type 0 where
  pub families_is : families_of o.families_text ≡ Ok o.families
  pub before_given : GivenBefore o.key o.epoch o.before
  pub closing_given : SignedIn o.key 0 o.epoch o.closing
  pub families_digest : bytes_eq (sha256 o.families_text) o.closing.closing.families ≡ true
  pub before_digest : is_table_before o.table_before (before_in o.before) ≡ true
  pub table_digest : bytes_eq (sha256 o.table) o.closing.closing.table ≡ true
  pub log_facts : reads_log o ≡ true → LogGiven o
  pub no_log : reads_log o ≡ false → o.log ≡ None

-- where its parts were read
pub record CameFrom (m : Material) (o : GivenEpoch) : Type 0 where
  pub key : o.key ≡ m.key
  pub epoch : o.epoch ≡ m.epoch
  pub families : o.families_text ≡ m.families
  pub table_before : o.table_before ≡ m.table_before
  pub table : o.table ≡ m.table
  pub closing : envelope_of m.closing ≡ Ok o.closing.envelope
  pub before : (c : SignedClosing) → o.before ≡ Some c → envelope_of m.before ≡ Ok c.envelope
  pub log : (parts : List LogPart) → o.log ≡ Some parts → (l : Log) × (log_of m.log ≡ Ok l) × (l.parts ≡ parts)

-- the log's part of it, of plain values
record LogFacts (f : ℕ → Frame) (before after : List TableRow) (bytes : List ℕ) (log : Option (List LogPart)) : Type 0 where
  own : AllByRecursion (λ p. part_of (parts_or_none log) p.block ≡ Some p.texts) (parts_or_none log)
  holds : (b : ℕ) → part_reaches (f b) (part_of (parts_or_none log) b) (rose before after b) ≡ true
  from : (parts : List LogPart) → log ≡ Some parts → (l : Log) × (log_of bytes ≡ Ok l) × (l.parts ≡ parts)

whole_is : (parts : List LogPart) (fault : Option ℕ) (log : Option (List LogPart)) → whole_log parts fault ≡ Ok log → (fault ≡ None) × (log ≡ Some parts)
whole_is parts None log e = (refl, sym (what_is (Some parts) log e))
whole_is parts (Some b) log e = absurd cc

log_given_is : (epoch : ℕ) (f : ℕ → Frame) (before after : List TableRow) (bytes : List ℕ) (r : Result Log ℕ) (log : Option (List LogPart)) → log_of bytes ≡ r → log_given epoch f before after (result_ok r) ≡ Ok log → LogFacts f before after bytes log
log_given_is epoch f before after bytes (Err d) log is e = absurd cc
log_given_is epoch f before after bytes (Ok l) log is e = go (eqb l.epoch epoch) e
  where
    read : (parts : List LogPart) → (let o : Option (List LogPart) = Some l.parts in o) ≡ Some parts → (l : Log) × (log_of bytes ≡ Ok l) × (l.parts ≡ parts)
    read parts same = (l, is, some_is l.parts parts same)

    go : (b : Bool) → cond b (whole_log l.parts (log_fault f before after l.parts)) (Err LogText) ≡ Ok log → LogFacts f before after bytes log
    go true h =
        let w = whole_is l.parts (log_fault f before after l.parts) log h in
        subst (λ (z : Option (List LogPart)). LogFacts f before after bytes z) (sym w.1)
        (record { own = own_segments None l.parts (log_ascends bytes l is); holds = holds_anywhere f before after l.parts w.0; from = read })
    go false h = absurd cc

log_by : (test : Bool) (epoch : ℕ) (f : ℕ → Frame) (before after : List TableRow) (bytes : List ℕ) (log : Option (List LogPart)) → cond test (log_given epoch f before after (result_ok (log_of bytes))) (Ok None) ≡ Ok log → (test ≡ true → LogFacts f before after bytes log) × (test ≡ false → log ≡ None)
log_by true epoch f before after bytes log e = (λ yes. log_given_is epoch f before after bytes (log_of bytes) log refl e, λ no. absurd (false≢true (sym no)))
log_by false epoch f before after bytes log e = (λ yes. absurd (false≢true yes), λ no. sym (what_is None log e))

log_read_from : (test : Bool) (f : ℕ → Frame) (before after : List TableRow) (bytes : List ℕ) (log : Option (List LogPart)) → (test ≡ true → LogFacts f before after bytes log) → (test ≡ false → log ≡ None) → (parts : List LogPart) → log ≡ Some parts → (l : Log) × (log_of bytes ≡ Ok l) × (l.parts ≡ parts)
log_read_from true f before after bytes log facts none parts is = (facts refl).from parts is
log_read_from false f before after bytes log facts none parts is = let gone : log ≡ None = none refl in absurd cc

pub given_all : (m : Material) (o : GivenEpoch) → given_of m ≡ Ok o → Facts o × CameFrom m o
unfolding given_of
given_all m o e =
    let a = or_then FamiliesList (result_ok (families_of m.families)) _ o e in
    let b = or_then ClosingBefore (closing_before_in m.key m.epoch m.before) _ o a.2 in
    let c = or_then ClosingItself (closing_in m.key 0 m.epoch m.closing) _ o b.2 in
    let d = needs_then ClosingItself (bytes_eq (sha256 m.families) (c.0).closing.families) _ o c.2 in
    let f = needs_then TableBefore (is_table_before m.table_before (before_in b.0)) _ o d.1 in
    let g = needs_then TableItself (bytes_eq (sha256 m.table) (c.0).closing.table) _ o f.1 in
    let test : Bool = log_is_read m (before_in b.0) (c.0).closing in
    let fr : ℕ → Frame = frame_between (sha256 m.key) a.0 m.epoch (rows_in_table m.table_before) (rows_in_table m.table) in
    let h = then_ok (cond test (log_given m.epoch fr (rows_in_table m.table_before) (rows_in_table m.table) (result_ok (log_of m.log))) (Ok None)) _ o g.1 in
    let l = log_by test m.epoch fr (rows_in_table m.table_before) (rows_in_table m.table) m.log h.0 h.1 in
    let made : GivenEpoch = record { key = m.key; epoch = m.epoch; families_text = m.families; families = a.0; before = b.0; closing = c.0; table_before = m.table_before; table = m.table; log = h.0 } in
    let signed = closing_in_is m.key 0 m.epoch m.closing c.0 c.1 in
    let facts : Facts made = record {
      families_is = ok_some (families_of m.families) a.0 a.1;
      before_given = closing_before_is m.key m.epoch m.before b.0 b.1;
      closing_given = signed.1;
      families_digest = d.0;
      before_digest = f.0;
      table_digest = g.0;
      log_facts = λ yes. record { own = (l.0 yes).own; holds = (l.0 yes).holds };
      no_log = l.1;
    } in
    let from : CameFrom m made = record {
      key = refl;
      epoch = refl;
      families = refl;
      table_before = refl;
      table = refl;
      closing = signed.0;
      before = closing_before_from m.key m.epoch m.before b.0 b.1;
      log = log_read_from test fr (rows_in_table m.table_before) (rows_in_table m.table) m.log h.0 l.0 l.1;
    } in
    subst (λ (z : GivenEpoch). Facts z × CameFrom m z) (what_is made o h.2) (facts, from)

pub given_facts : (m : Material) (o : GivenEpoch) → given_of m ≡ Ok o → Facts o
given_facts m o e = (given_all m o e).0

pub came_from : (m : Material) (o : GivenEpoch) → given_of m ≡ Ok o → CameFrom m o
came_from m o e = (given_all m o e).1
