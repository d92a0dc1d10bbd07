-- What a closer is, and what each of its calls does (this project's own).
use Rattle.std.specs.Prelude.{ℕ, ◌+◌, ◌-◌, ◌<◌, ◌≤◌, ◌^◌, ◌≡◌, List, [], ◌∷◌, ◌++◌, length, map, flat_map, Option, Some, None, Result, Ok, Err, ◌==◌, if◌then◌else◌, bytes_eq, sum_by}
use Rattle.std.specs.List.{AllByRecursion}
use Rattle.sha2.specs.Sha256.{sha256}
use Rattle.cp_statements.specs.Closing.{Closing, closing_text}
use Rattle.cp_tips.specs.Table.{table_text}
use Rattle.cp_tips.specs.Tips.{rows_of}
use Rattle.cp_tips.specs.declared.tip.Tip.{Tip}
use Rattle.cp_chain.specs.Log.{LogPart, log_text}
use Rattle.cp_core.specs.Life.{shard_of}
use Rattle.cp_core.specs.Sealing.{link_after}
use Rattle.cp_core.specs.Machine.{after_freeze, next_or}
use Rattle.cp_core.specs.declared.phase.Phase.{Phase}
use Rattle.cp_core.specs.declared.phase.Phase.TheVariants.{Running, Half, Full, Sealed}
use Rattle.cp_core.specs.declared.close_refusal.CloseRefusal.{CloseRefusal}
use Rattle.cp_core.specs.declared.close_refusal.CloseRefusal.TheVariants.{WrongEpoch, OtherList, ClosingsOver}
use Rattle.cp_core.specs.Frozen.{Gained}
use Rattle.cp_core.specs.Frozen.{Part}
use Rattle.cp_core.specs.declared.seal_item.SealItem.{SealItem}
use Rattle.cp_closer.specs.Taken.{put_all, tips_of, texts_of, entries_in, count_of, entries_of_shard}
use Rattle.cp_closer.specs.declared.sealed_text.SealedText.{SealedText}

pub record CloserState : Type 0 where
  pub store : List ℕ  -- SHA-256 of the store's key
  pub leaves : ℕ  -- the number of all leaves
  pub closings : ℕ  -- how many of them, the last ones, are for closings
  pub phase : Phase
  pub list : List ℕ  -- the text of the epoch's families list
  pub next : List ℕ  -- that of the next epoch's, once the closing has begun; before that the epoch's own
  pub tips : List (ℕ × Tip)  -- each block of the parts that were taken, ascending, with its latest tip
  pub parts : List Part  -- the parts that were taken of the epoch that is being closed
  pub seals : List SealItem
  pub sealed : Option SealedText  -- what was sealed and isn't published yet

-- no part and no seal, in epoch 1, whose list is the first one
abbrev pub opening : List ℕ → ℕ → ℕ → List ℕ → CloserState
opening store leaves closings first = record { store = store; leaves = leaves; closings = closings; phase = Running 1; list = first; next = first; tips = []; parts = []; seals = []; sealed = None }

abbrev pub epoch_of : Phase → ℕ
epoch_of (Running e) = e
epoch_of (Half e k) = e
epoch_of (Full e) = e
epoch_of (Sealed e) = e

-- ---- the beginning

-- a closing that has begun is begun again only with the list that it began with
abbrev pub begin_with : List ℕ → List ℕ → Result (Unit {0}) CloseRefusal
begin_with asked begun = if bytes_eq asked begun then Ok tt else Err OtherList

-- an order for a closing names the next epoch's list, or none where that is to have the epoch's own
abbrev pub begin_again : CloserState → Option (List ℕ) → Result (Unit {0}) CloseRefusal
begin_again c next = begin_with (next_or next c.list) c.next

abbrev pub begin_in : CloserState → Option (List ℕ) → Phase → Result (Unit {0}) CloseRefusal
begin_in c next (Running e) = if length c.seals == c.closings then Err (ClosingsOver (length c.seals) c.closings) else Ok tt
begin_in c next (Half e k) = begin_again c next
begin_in c next (Full e) = begin_again c next
begin_in c next (Sealed e) = begin_again c next

-- whether the closing of the epoch begins, or has begun
abbrev pub begin_answer : CloserState → ℕ → Option (List ℕ) → Result (Unit {0}) CloseRefusal
begin_answer c epoch next = if epoch == epoch_of c.phase then begin_in c next c.phase else Err (WrongEpoch (epoch_of c.phase))

abbrev pub begun_in : CloserState → Option (List ℕ) → Phase → CloserState
begun_in c next (Running e) = record c { phase = Half e 0; next = next_or next c.list }
begun_in c next (Half e k) = c
begun_in c next (Full e) = c
begun_in c next (Sealed e) = c

abbrev pub after_begin : CloserState → Option (List ℕ) → Result (Unit {0}) CloseRefusal → CloserState
after_begin c next (Ok done) = begun_in c next c.phase
after_begin c next (Err why) = c

-- ---- a part

-- the blocks ascend strictly
abbrev pub blocks_ascend : List Gained → Type 0
blocks_ascend [] = Unit {0}
blocks_ascend (x ∷ xs) = AllByRecursion (λ y. x.block < y.block) xs × blocks_ascend xs

-- the block is the shard's and has an entry, its texts have lengths of four bytes, and its tip counts its
-- entries of all parts so far
pub record IsNextBlock (tips : List (ℕ × Tip)) (shard : ℕ) (x : Gained) : Type 0 where
  pub of_shard : shard_of x.block ≡ shard
  pub filled : 1 ≤ length x.entries
  pub short : AllByRecursion (λ text. length text < 2 ^ 32) x.entries
  pub counted : x.after.count ≡ count_of tips x.block + length x.entries

-- the part is that of the shard and epoch whose turn it is
pub record IsNextPart (c : CloserState) (part : Part) : Type 0 where
  pub turn : c.phase ≡ Half part.epoch part.shard
  pub ascending : blocks_ascend part.blocks
  pub blocks : AllByRecursion (IsNextBlock c.tips part.shard) part.blocks
  pub few : entries_of_shard c.tips part.shard + entries_in part ≤ 2 ^ 27

abbrev pub after_take : CloserState → Part → CloserState
after_take c part = record c {
  phase = after_freeze part.epoch part.shard;
  tips = put_all c.tips (tips_of part);
  parts = c.parts ++ part ∷ [];
}

-- ---- the seal

-- the texts of all blocks of the parts, ascending by block
abbrev pub segments : List (ℕ × List (List ℕ)) → List LogPart
segments texts = map (λ e. record { block = e.0; texts = e.1 }) texts

abbrev pub log_parts : List Part → List LogPart
log_parts parts = segments (put_all [] (flat_map texts_of parts))

-- the closing of the epoch: all blocks with an entry up to its end, and the number of those entries,
-- under the epoch's list
abbrev pub closing_now : CloserState → Closing
closing_now c = record {
  store = c.store;
  epoch = epoch_of c.phase;
  link = link_after c.seals;
  families = sha256 c.list;
  table = sha256 (table_text (rows_of c.tips));
  rows = length c.tips;
  entries = sum_by (λ e. e.1.count) c.tips;
}

abbrev pub sealed_now : CloserState → SealedText
sealed_now c = record {
  leaf = c.leaves - c.closings + (epoch_of c.phase - 1);
  text = closing_text (closing_now c);
  table = table_text (rows_of c.tips);
  log = log_text (record { epoch = epoch_of c.phase; parts = log_parts c.parts });
}

abbrev pub seal_item : ℕ → List ℕ → SealedText → SealItem
seal_item epoch families x = record { epoch = epoch; leaf = x.leaf; text = x.text; table = x.table; families = families }

abbrev pub IsFull : Phase → Type 0
IsFull phase = phase ≡ Full (epoch_of phase)

abbrev pub IsSealed : Phase → Type 0
IsSealed phase = phase ≡ Sealed (epoch_of phase)

abbrev pub after_seal : CloserState → CloserState
after_seal c = record c {
  phase = Sealed (epoch_of c.phase);
  parts = [];
  seals = c.seals ++ seal_item (epoch_of c.phase) c.list (sealed_now c) ∷ [];
  sealed = Some (sealed_now c);
}

-- ---- the next epoch

abbrev pub after_publish : CloserState → CloserState
after_publish c = record c { phase = Running (epoch_of c.phase + 1); list = c.next; sealed = None }
