-- The evidence that the audit finds has a spelling, where its tables and its families are short enough,
-- and how many bytes it has at most.
use Rattle.std.proofs.Common.{◌≡◌, ℕ, ◌+◌, ◌^◌, ◌<◌, ◌≤◌, List, [], ◌∷◌, ◌++◌, length, Option, Some, None, Result, Ok, Err, inl, inr, refl, sym, ap, subst, arith, length-append}
use Rattle.std.specs.Prelude.{codes, flat_map}
use Rattle.std.specs.Int.{w32, w64, to_be_bytes}
use Rattle.std.specs.Result.{result_unwrap_or}
use Rattle.std.specs.List.{AllByRecursion}
use Rattle.cp_bytes.specs.Fields.{IsBytes, part}
use Rattle.cp_statements.specs.Envelope.{Envelope, EnvelopeFits, envelope_text}
use Rattle.cp_statements.proofs.Entries.{envelope_takes}
use Rattle.cp_tips.specs.Table.{TableRow, TableFits, table_of}
use Rattle.cp_tips.proofs.Exact.{table_takes}
use Rattle.cp_chain.specs.Log.{LogPart, Log, LogPartFits, log_part_text, log_text}
use Rattle.cp_chain.specs.Rules.{number_of}
use Rattle.cp_chain.specs.Segment.{SegmentFits, segment_text}
use Rattle.cp_chain.proofs.Readings.{log_takes}
use Rattle.cp_evidence.specs.Evidence.{Two, ClosingTable, Given, WentBack, BrokenRule, Lost, Evidence, EvidenceFits, two_text, closing_table_text, given_text, went_back_text, broken_rule_text, lost_text, parts_text, evidence_text}
use Rattle.cp_evidence.specs.Evidence.Evidence.{K1, K2, K3, K4, K5, K6, K7, K8, K9, K10}
use Rattle.cp_evidence.specs.Presented.{envelopes}
use Rattle.cp_evidence.specs.HandIns.{hand_ins_text}
use Rattle.cp_evidence.specs.Material.{Material, GivenEpoch, SignedClosing, no_envelope, envelope_before, rows_in_table, blocks_in, parts_or_none, list_of, closings, closing_envelopes}
use Rattle.cp_evidence.specs.Verdict.{framing}
use Rattle.cp_evidence.specs.AuditLaws.{LongPartsFit, GuiltFits, GuiltIsShort, evidence_limit, hashed_by}
use Rattle.cp_evidence.proofs.Searches.{all_always, all_map, all_append, mapped_all}
use Rattle.cp_evidence.proofs.GivenFacts.{CameFrom, given_facts, came_from}
use Rattle.cp_evidence.proofs.Guilts.{Shows, guilt_shows}
use Rattle.cp_evidence.proofs.ReadingHandIns.{hand_ins_exact}
use Rattle.cp_evidence.proofs.AuditLemmas.{sources}
use Rattle.cp_evidence.proofs.Rests.{Holds, Rest, rest}

-- ---- it has a spelling

abbrev Small : ℕ → Type 0
Small block = block < 2 ^ 64

fits_whole : (o : GivenEpoch) (e : Evidence) → AllByRecursion EnvelopeFits (envelopes e) → Rest o Small SegmentFits e → LongPartsFit e → EvidenceFits e
fits_whole o (K1 e) all r long = (all.0, all.1.0)
fits_whole o (K2 e) all r long = (all.0, all.1.0)
fits_whole o (K3 e) all r long = (all.0, all.1.0)
fits_whole o (K4 e) all r long = (all.0, long)
fits_whole o (K5 e) all r long = (all.0, all.1.0)
fits_whole o (K6 e) all r long = (r.0, (all.0, all.1.0, long.0, long.1))
fits_whole o (K7 e) all r long =
    let few : length e.segment < 2 ^ 32 = r.5.0 in
    let near : e.fault.place ≤ length e.segment = r.1 in
    let nearer : e.fault.other ≤ e.fault.place = r.2 in
    (r.0, omega (arith, few, near), omega (arith, few, near, nearer), (all.0, all.1.0, long.0, long.1), long.2, r.5)
fits_whole o (K8 e) all r long = ((all.0, all.1.0, long.0, long.1), all.1.1.0, r.1)
fits_whole o (K9 x) all r long = all.0
fits_whole o (K10 x) all r long = all.0

blocks_fit : (rows : List TableRow) → TableFits rows → AllByRecursion Small (blocks_in rows)
blocks_fit [] all = tt
blocks_fit (r ∷ rows) all = (all.0.0, blocks_fit rows all.1)

table_blocks : (bytes : List ℕ) → IsBytes bytes → AllByRecursion Small (blocks_in (rows_in_table bytes))
table_blocks bytes fits = go (table_of bytes) refl
  where
    go : (r : Result (List TableRow) ℕ) → table_of bytes ≡ r → AllByRecursion Small (blocks_in (result_unwrap_or r []))
    go (Err d) e = tt
    go (Ok rows) e = blocks_fit rows (table_takes bytes rows fits e).1

pub guilt_fits : GuiltFits
guilt_fits m o bytes hand_ins ev is_bytes hand_in_bytes e reads g long =
    fits_whole o ev shows.all_given (rest o Small SegmentFits holds hand_ins ev g) long
  where
    from : CameFrom m o
    from = came_from m o e

    log_fits : (log : Option (List LogPart)) → o.log ≡ log → AllByRecursion LogPartFits (parts_or_none log)
    log_fits None is = tt
    log_fits (Some parts) is = let l = from.log parts is in subst (λ (ps : List LogPart). AllByRecursion LogPartFits ps) l.2 (log_takes m.log l.0 is_bytes.log l.1).1.3

    holds : Holds o Small SegmentFits
    holds = record {
      blocks = subst (λ (t : List ℕ). AllByRecursion Small (blocks_in (rows_in_table t))) (sym from.table_before) (table_blocks m.table_before is_bytes.table_before);
      log = log_fits o.log refl;
      none = (omega arith, tt);
    }

    closings_fit : (b : Option SignedClosing) → o.before ≡ b → AllByRecursion (λ c. EnvelopeFits c.envelope) (list_of b ++ o.closing ∷ [])
    closings_fit None is = ((envelope_takes m.closing o.closing.envelope is_bytes.closing from.closing).1, tt)
    closings_fit (Some c) is = ((envelope_takes m.before c.envelope is_bytes.before (from.before c is)).1, ((envelope_takes m.closing o.closing.envelope is_bytes.closing from.closing).1, tt))

    all_fit : AllByRecursion EnvelopeFits (closing_envelopes o ++ hand_ins)
    all_fit = all_append EnvelopeFits (closing_envelopes o) hand_ins (mapped_all EnvelopeFits (λ c. c.envelope) (closings o) (closings_fit o.before refl)) (hand_ins_exact.read_is_spelled bytes hand_ins hand_in_bytes reads).1

    none : EnvelopeFits no_envelope
    none = (omega arith, omega arith)

    shows : Shows o.key EnvelopeFits (λ t. Unit {0}) ev
    shows = guilt_shows o hand_ins EnvelopeFits (λ t. Unit {0}) ev (given_facts m o e) (sources o hand_ins EnvelopeFits (λ t. Unit {0}) none all_fit (all_always (λ (t : List ℕ). Unit {0}) (λ t. tt) (hashed_by o hand_ins))) g

-- ---- how many bytes it has

part_size : (bytes : List ℕ) → length (part bytes) ≡ 4 + length bytes
part_size bytes = length-append (to_be_bytes w32 (length bytes)) bytes

behind_number : (n : ℕ) (bytes : List ℕ) → length (to_be_bytes w64 n ++ bytes) ≡ 8 + length bytes
behind_number n bytes = length-append (to_be_bytes w64 n) bytes

two_size : (e : Two) → length (two_text e) ≡ length (envelope_text e.x) + length (envelope_text e.y)
unfolding two_text
two_size e = length-append (envelope_text e.x) (envelope_text e.y)

closing_table_size : (e : ClosingTable) → length (closing_table_text e) ≡ length (envelope_text e.closing) + (4 + length e.table)
unfolding closing_table_text
closing_table_size e = omega (arith, length-append (envelope_text e.closing) (part e.table), part_size e.table)

given_size : (g : Given) → length (given_text g) ≡ length (envelope_text g.closing) + (length (envelope_text g.before) + ((4 + length g.table) + (4 + length g.table_before)))
unfolding given_text
given_size g =
    let tables : List ℕ = part g.table ++ part g.table_before in
    omega (arith, length-append (envelope_text g.closing) (envelope_text g.before ++ tables), length-append (envelope_text g.before) tables, length-append (part g.table) (part g.table_before), part_size g.table, part_size g.table_before)

went_back_size : (e : WentBack) → length (went_back_text e) ≡ 8 + length (given_text e.given)
unfolding went_back_text
went_back_size e = behind_number e.block (given_text e.given)

broken_rule_size : (e : BrokenRule) → length (broken_rule_text e) ≡ 32 + (length (given_text e.given) + ((4 + length e.families) + length (segment_text e.segment)))
unfolding broken_rule_text
broken_rule_size e =
    let long : List ℕ = part e.families ++ segment_text e.segment in
    let behind : List ℕ = given_text e.given ++ long in
    let third : List ℕ = to_be_bytes w64 e.fault.other ++ behind in
    let second : List ℕ = to_be_bytes w64 e.fault.place ++ third in
    let first : List ℕ = to_be_bytes w64 (number_of e.fault.rule) ++ second in
    omega (arith, behind_number e.block first, behind_number (number_of e.fault.rule) second, behind_number e.fault.place third, behind_number e.fault.other behind, length-append (given_text e.given) long, length-append (part e.families) (segment_text e.segment), part_size e.families)

lost_size : (e : Lost) → length (lost_text e) ≡ length (given_text e.given) + (length (envelope_text e.attestation) + length (segment_text e.segment))
unfolding lost_text
lost_size e = omega (arith, length-append (given_text e.given) (envelope_text e.attestation ++ segment_text e.segment), length-append (envelope_text e.attestation) (segment_text e.segment))

evidence_size : (e : Evidence) → length (evidence_text e) ≡ 5 + length (parts_text e)
unfolding evidence_text
evidence_size e = omega arith

-- each of these texts is no longer than all of them
each_within : {A : Type 0} (f : A → List ℕ) (n : ℕ) (xs : List A) → length (flat_map f xs) ≤ n → AllByRecursion (λ x. length (f x) ≤ n) xs
each_within f n [] le = tt
each_within f n (x ∷ xs) le =
    let both = length-append (f x) (flat_map f xs) in
    (omega (arith, le, both), each_within f n xs (omega (arith, le, both)))

segment_within : (p : LogPart) → length (segment_text p.texts) ≤ length (log_part_text p)
unfolding log_part_text
segment_within p = omega (arith, behind_number p.block (segment_text p.texts))

parts_within : (l : Log) → length (flat_map log_part_text l.parts) ≤ length (log_text l)
unfolding log_text
parts_within l =
    let parts : List ℕ = flat_map log_part_text l.parts in
    let counted : List ℕ = to_be_bytes w32 (length l.parts) ++ parts in
    omega (arith, length-append (codes "CPl1") (to_be_bytes w64 l.epoch ++ counted), behind_number l.epoch counted, length-append (to_be_bytes w32 (length l.parts)) parts)

-- the sizes of the given parts, in those of the material
record Sizes (m : Material) (o : GivenEpoch) : Type 0 where
  closing : length (envelope_text o.closing.envelope) ≤ length m.closing
  before : length (envelope_text (envelope_before o.before)) ≤ 8 + length m.before
  families : length o.families_text ≡ length m.families
  table : length o.table ≡ length m.table
  table_before : length o.table_before ≡ length m.table_before

framing_within : (m : Material) (o : GivenEpoch) (g : Given) → Sizes m o → g ≡ framing o → length (given_text g) ≤ 16 + (length m.closing + (length m.before + (length m.table + length m.table_before)))
framing_within m o g s is =
    let same : length (given_text g) ≡ length (given_text (framing o)) = ap (λ (z : Given). length (given_text z)) is in
    let size = given_size (framing o) in
    let closing = s.closing in
    let before = s.before in
    let table = s.table in
    let table_before = s.table_before in
    omega (arith, same, size, closing, before, table, table_before)

-- at most as long as each envelope of the evidence
abbrev envelope_limit : Material → List ℕ → ℕ
envelope_limit m bytes = 8 + (length m.closing + (length m.before + length bytes))

abbrev Within : Material → List ℕ → Envelope → Type 0
Within m bytes x = length (envelope_text x) ≤ envelope_limit m bytes

abbrev Any : ℕ → Type 0
Any block = Unit {0}

abbrev InLog : Material → List (List ℕ) → Type 0
InLog m ts = length (segment_text ts) ≤ 4 + length m.log

no_envelope_size : length (envelope_text no_envelope) ≡ 8
unfolding envelope_text
no_envelope_size = refl

none_within : (m : Material) → InLog m []
unfolding segment_text
none_within m = omega arith

two_within : (m : Material) (bytes : List ℕ) (e : Two) → Within m bytes e.x → Within m bytes e.y → 5 + length (two_text e) ≤ evidence_limit m bytes
two_within m bytes e x y = let size = two_size e in omega (arith, size, x, y)

parts_short : (m : Material) (o : GivenEpoch) (bytes : List ℕ) (e : Evidence) → Sizes m o → AllByRecursion (Within m bytes) (envelopes e) → Rest o Any (InLog m) e → 5 + length (parts_text e) ≤ evidence_limit m bytes
parts_short m o bytes (K1 e) s all r = two_within m bytes e all.0 all.1.0
parts_short m o bytes (K2 e) s all r = two_within m bytes e all.0 all.1.0
parts_short m o bytes (K3 e) s all r = two_within m bytes e all.0 all.1.0
parts_short m o bytes (K4 e) s all r =
    let size = closing_table_size e in
    let closing : Within m bytes e.closing = all.0 in
    let now = s.table in
    let before = s.table_before in
    elim r [
      | inl is ↦ let same : length e.table ≡ length o.table = ap length is in omega (arith, size, closing, now, same)
      | inr is ↦ let same : length e.table ≡ length o.table_before = ap length is in omega (arith, size, closing, before, same)
    ]
parts_short m o bytes (K5 e) s all r = two_within m bytes e all.0 all.1.0
parts_short m o bytes (K6 e) s all r = let size = went_back_size e in let given = framing_within m o e.given s r.1 in omega (arith, size, given)
parts_short m o bytes (K7 e) s all r =
    let size = broken_rule_size e in
    let given = framing_within m o e.given s r.3 in
    let same : length e.families ≡ length o.families_text = ap length r.4 in
    let families = s.families in
    let segment : InLog m e.segment = r.5 in
    omega (arith, size, given, same, families, segment)
parts_short m o bytes (K8 e) s all r =
    let size = lost_size e in
    let given = framing_within m o e.given s r.0 in
    let attestation : Within m bytes e.attestation = all.1.1.0 in
    let segment : InLog m e.segment = r.1 in
    omega (arith, size, given, attestation, segment)
parts_short m o bytes (K9 x) s all r = let one : Within m bytes x = all.0 in omega (arith, one)
parts_short m o bytes (K10 x) s all r = let one : Within m bytes x = all.0 in omega (arith, one)

pub guilt_short : GuiltIsShort
unfolding hand_ins_text
guilt_short m o bytes hand_ins ev is_bytes hand_in_bytes e reads g =
    let size = evidence_size ev in
    let parts = parts_short m o bytes ev sizes shows.all_given (rest o Any (InLog m) holds hand_ins ev g) in
    omega (arith, size, parts)
  where
    from : CameFrom m o
    from = came_from m o e

    closing_size : length (envelope_text o.closing.envelope) ≡ length m.closing
    closing_size = ap length (sym (envelope_takes m.closing o.closing.envelope is_bytes.closing from.closing).0)

    before_size : (c : SignedClosing) → o.before ≡ Some c → length (envelope_text c.envelope) ≡ length m.before
    before_size c is = ap length (sym (envelope_takes m.before c.envelope is_bytes.before (from.before c is)).0)

    before_within : (b : Option SignedClosing) → o.before ≡ b → length (envelope_text (envelope_before b)) ≤ 8 + length m.before
    before_within None is = let size = no_envelope_size in omega (arith, size)
    before_within (Some c) is = let size = before_size c is in omega (arith, size)

    sizes : Sizes m o
    sizes = record {
      closing = let size = closing_size in omega (arith, size);
      before = before_within o.before refl;
      families = ap length from.families;
      table = ap length from.table;
      table_before = ap length from.table_before;
    }

    log_within : (log : Option (List LogPart)) → o.log ≡ log → AllByRecursion (λ p. Any p.block × InLog m p.texts) (parts_or_none log)
    log_within None is = tt
    log_within (Some parts) is =
        let l = from.log parts is in
        let whole : length m.log ≡ length (log_text l.0) = ap length (log_takes m.log l.0 is_bytes.log l.1).0 in
        let all = parts_within l.0 in
        let each = each_within log_part_text (length m.log) (l.0).parts (omega (arith, whole, all)) in
        subst (λ (ps : List LogPart). AllByRecursion (λ p. Any p.block × InLog m p.texts) ps) l.2
        (all_map (λ (p : LogPart). length (log_part_text p) ≤ length m.log) (λ (p : LogPart). Any p.block × InLog m p.texts) (λ p le. (tt, let within = segment_within p in omega (arith, within, le))) (l.0).parts each)

    holds : Holds o Any (InLog m)
    holds = record { blocks = all_always Any (λ b. tt) (blocks_in (rows_in_table o.table_before)); log = log_within o.log refl; none = none_within m }

    closings_within : (b : Option SignedClosing) → o.before ≡ b → AllByRecursion (λ c. Within m bytes c.envelope) (list_of b ++ o.closing ∷ [])
    closings_within None is = (let size = closing_size in omega (arith, size), tt)
    closings_within (Some c) is = (let size = before_size c is in omega (arith, size), (let size = closing_size in omega (arith, size), tt))

    hand_ins_size : length bytes ≡ length (flat_map envelope_text hand_ins)
    hand_ins_size = ap length (hand_ins_exact.read_is_spelled bytes hand_ins hand_in_bytes reads).0

    handed_within : AllByRecursion (Within m bytes) hand_ins
    handed_within =
        let all = hand_ins_size in
        all_map (λ (x : Envelope). length (envelope_text x) ≤ length bytes) (Within m bytes) (λ x le. omega (arith, le)) hand_ins (each_within envelope_text (length bytes) hand_ins (omega (arith, all)))

    shows : Shows o.key (Within m bytes) (λ t. Unit {0}) ev
    shows =
        let all : AllByRecursion (Within m bytes) (closing_envelopes o ++ hand_ins) = all_append (Within m bytes) (closing_envelopes o) hand_ins (mapped_all (Within m bytes) (λ c. c.envelope) (closings o) (closings_within o.before refl)) handed_within in
        guilt_shows o hand_ins (Within m bytes) (λ t. Unit {0}) ev (given_facts m o e) (sources o hand_ins (Within m bytes) (λ t. Unit {0}) (let size = no_envelope_size in omega (arith, size)) all (all_always (λ (t : List ℕ). Unit {0}) (λ t. tt) (hashed_by o hand_ins))) g
