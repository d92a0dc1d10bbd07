-- The parts of a given log.
use Rattle.std.proofs.Common.{◌≡◌, ℕ, ◌<◌, ◌^◌, List, length, Option, Some, None, Ok, refl, sym, ap, ◌∙◌, arith}
use Rattle.std.specs.Prelude.{Bool, true, false, ◌&&◌, is_none, map, Contains}
use Rattle.std.specs.Global.{Vec}
use Rattle.std.proofs.lemmas.List.{length-map}
use Rattle.cp_bytes.specs.Fields.{IsBytes}
use Rattle.cp_chain.specs.Log.{LogPart, parts_ascend}
use Rattle.cp_chain.specs.View.{frame_view}
use Rattle.cp_chain.proofs.LogOrder.{log_ascends}
use Rattle.cp_chain.proofs.Readings.{log_takes}
use Rattle.cp_evidence.specs.Material.{Material, GivenEpoch, before_in, is_formed, is_formed_before, least_regressed, old_rows, new_rows, given_of, parts_or_none, part_of, frame_for, segment_for}
use Rattle.cp_evidence.proofs.AuditLemmas.{contained_in}
use Rattle.cp_evidence.proofs.GivenFacts.{Facts, came_from, given_all, reads_log}
use Rattle.cp_audit.specs.declared.part.Part.{Part}
use Rattle.cp_audit.specs.Given.{AreFramed, parts_read, seen}
use Rattle.cp_audit.specs.LogParts.{AreLogParts, TablesStand, StandWhereRead}
use Rattle.cp_audit.specs.Parts.{part_view}

-- ---- the tables, where the log was read

all_three : (a b : Bool) (r : Option ℕ) → (a && (b && is_none r)) ≡ true → (a ≡ true) × (b ≡ true) × (r ≡ None)
all_three true true None e = (refl, refl, refl)
all_three true true (Some x) e = absurd cc
all_three true false r e = absurd cc
all_three false b r e = absurd cc

tables_stand : (o : GivenEpoch) (log : List LogPart) → Facts o → o.log ≡ Some log → (b : Bool) → reads_log o ≡ b → TablesStand o
tables_stand o log facts is true holds =
    let three = all_three (is_formed_before o.table_before (before_in o.before)) (is_formed o.table o.closing.closing) (least_regressed (old_rows o) (new_rows o)) holds in
    record { before = three.0; after = three.1; kept = three.2 }
tables_stand o log facts is false fails =
    let none : o.log ≡ None = facts.no_log fails in
    absurd cc

stand_where_read : (m : Material) (o : GivenEpoch) → given_of m ≡ Ok o → StandWhereRead o
stand_where_read m o given log is = tables_stand o log (given_all m o given).0 is (reads_log o) refl

-- ---- the parts of a given log

pub are_log_parts : (m : Material) (o : GivenEpoch) (log : Option (Vec Part)) → o.log ≡ seen log → given_of m ≡ Ok o → AreFramed (frame_for o) log → AreLogParts o (parts_read log)
are_log_parts m o None e given framed = record {
  are = ap parts_or_none (sym e);
  ascend = refl;
  framed = tt;
  tables = stand_where_read m o given;
}
are_log_parts m o (Some parts) e given framed =
    let from = (came_from m o given).log (map part_view parts.items) e in
    record {
      are = ap parts_or_none (sym e);
      ascend = ap (parts_ascend None) (sym from.2) ∙ log_ascends m.log from.0 from.1;
      framed = framed;
      tables = stand_where_read m o given;
    }

-- their number
pub few_parts : (m : Material) (o : GivenEpoch) (log : Option (Vec Part)) → o.log ≡ seen log → given_of m ≡ Ok o → IsBytes m.log → length (parts_read log) < 2 ^ 32
few_parts m o None e given bytes = omega arith
few_parts m o (Some parts) e given bytes =
    let from = (came_from m o given).log (map part_view parts.items) e in
    let fits = log_takes m.log from.0 bytes from.1 in
    let few : length from.0.parts < 2 ^ 32 = fits.1.1 in
    let size : length from.0.parts ≡ length parts.items = ap length from.2 ∙ length-map parts.items part_view in
    omega (arith, few, size)

-- ---- looking one up

pub part_is : (o : GivenEpoch) (parts : List Part) (part : Part) (block : ℕ) → AreLogParts o parts → part_of (map part_view parts) block ≡ Some part.segment → Contains parts part → part.frame.block ≡ block
    → (segment_for o block ≡ Some part.segment) × (frame_view part.frame ≡ frame_for o block)
part_is o parts part block are found member is = (
  ap (λ (ps : List LogPart). part_of ps block) (sym are.are) ∙ found,
  contained_in (λ (p : Part). frame_view p.frame ≡ frame_for o p.frame.block) parts part are.framed member ∙ ap (frame_for o) is,
)

pub no_part_is : (o : GivenEpoch) (parts : List Part) (block : ℕ) → AreLogParts o parts → part_of (map part_view parts) block ≡ None → segment_for o block ≡ None
no_part_is o parts block are none = ap (λ (ps : List LogPart). part_of ps block) (sym are.are) ∙ none
