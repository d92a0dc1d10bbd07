-- A replay's files: which they are, and a folder while they are written one after another.
use Rattle.std.proofs.Common.{◌≡◌, inl, inr, ℕ, Bool, true, false, cond, suc, ◌+◌, ◌<◌, ◌≤◌, List, [], ◌∷◌, ◌++◌, Some, length, take, drop, get_or, map, string_bytes, refl, sym, ap, subst, ◌∙◌, arith, drop-cons}
use Rattle.std.specs.Prelude.{◌≢◌, bytes_eq, IsTrue}
use Rattle.std.specs.List.{AllByRecursion}
use Rattle.std.proofs.Math.Seq.{split_at}
use Rattle.std.proofs.lemmas.Bool.Decides.{not_from_Decides}
use Rattle.std.proofs.lemmas.List.{drop_all, take_all, map_push, map_more, map-append, append_assoc, append-nil}
use Rattle.std.proofs.lemmas.Slice.Eq.{bytes_eq-Decides}
use Rattle.cp_outside.specs.Causes.{Rose}
use Rattle.cp_endings.specs.EpochFiles.{epoch_file}
use Rattle.cp_endings.specs.declared.epoch_part.EpochPart.{EpochPart}
use Rattle.cp_endings.specs.declared.epoch_part.EpochPart.TheVariants.{Families, Closing, Table, Log}
use Rattle.cp_evidence.proofs.Searches.{all_append}
use Rattle.cp_replay.specs.Replay as replay
use Rattle.cp_replay.specs.declared.epoch_files.EpochFiles.{EpochFiles}
use Rattle.cp_endings.specs.Folders.{Files}
use Rattle.cp_tool.specs.ReplayFiles.{IsReplayFile, epoch_writes, epochs_writes, writes_of}
use Rattle.cp_endings.specs.Writes.{FileWrite, StopsAt, WritesAll, content_after, write_of}
use Rattle.cp_endings.proofs.Written.{content_more}
use Rattle.cp_tool.specs.ReplayView.{write_view}
use Rattle.cp_tool.specs.declared.file_write.FileWrite as code
use Rattle.cp_endings.proofs.InputLemmas.{rose_before}

-- ---- which files

pub ruleset pushed = (map_push)

-- one more behind those that were added
pub one_more : (before now after so_far : List FileWrite) (name a b : List ℕ) → now ≡ before ++ so_far → after ≡ now ++ write_of name a ∷ [] → a ≡ b → after ≡ before ++ (so_far ++ write_of name b ∷ [])
one_more before now after so_far name a b is more same =
    more ∙ ap (λ (x : List ℕ). now ++ write_of name x ∷ []) same ∙ ap (λ (l : List FileWrite). l ++ write_of name b ∷ []) is ∙ append_assoc before so_far (write_of name b ∷ [])

-- the epochs that are left bring the rest
pub record Listed (before : List FileWrite) (epochs : List EpochFiles) (now : List FileWrite) (epoch index : ℕ) : Type 0 where
  pub rest : now ++ epochs_writes epoch (drop index epochs) ≡ before ++ epochs_writes 1 epochs
  pub epoch_is : epoch ≡ index + 1

pub listed_next : (before : List FileWrite) (epochs : List EpochFiles) (now after : List FileWrite) (epoch index : ℕ) (x : EpochFiles) → Listed before epochs now epoch index
    → index < length epochs → x ≡ get_or epochs index x → after ≡ now ++ epoch_writes epoch x → Listed before epochs after (epoch + 1) (index + 1)
unfolding epochs_writes
listed_next before epochs now after epoch index x l inside is more =
    let left : drop index epochs ≡ x ∷ drop (suc index) epochs = drop-cons epochs index x inside ∙ ap (λ y. y ∷ drop (suc index) epochs) (sym is) in
    let next : suc index ≡ index + 1 = omega arith in
    let at : epochs_writes epoch (drop index epochs) ≡ epoch_writes epoch x ++ epochs_writes (epoch + 1) (drop (index + 1) epochs)
    = ap (epochs_writes epoch) left ∙ ap (λ n. epoch_writes epoch x ++ epochs_writes (epoch + 1) (drop n epochs)) next in
    record {
      rest = ap (λ (a : List FileWrite). a ++ epochs_writes (epoch + 1) (drop (index + 1) epochs)) more ∙ append_assoc now (epoch_writes epoch x) _ ∙ ap (λ (a : List FileWrite). now ++ a) (sym at) ∙ l.rest;
      epoch_is = omega (arith, l.epoch_is);
    }

pub listed_last : (before : List FileWrite) (epochs : List EpochFiles) (now : List FileWrite) (epoch index : ℕ) → Listed before epochs now epoch index → length epochs ≤ index → now ≡ before ++ epochs_writes 1 epochs
unfolding epochs_writes
listed_last before epochs now epoch index l past = sym (append-nil now) ∙ ap (λ (e : List EpochFiles). now ++ epochs_writes epoch e) (sym (drop_all index epochs past)) ∙ l.rest

-- ---- one write after another

abbrev names : List code.FileWrite → List FileWrite
names items = map write_view items

-- a name that is none of those that are written is not this one's
pub not_named : (name : List ℕ) (items : List code.FileWrite) (index : ℕ) (w : code.FileWrite) → index < length items → w ≡ get_or items index w
    → AllByRecursion (λ w. name ≢ w.name) (names items) → name ≢ string_bytes w.name
not_named name items index w inside is apart =
    let there : items ≡ take index items ++ w ∷ drop (suc index) items = split_at items index w inside ∙ ap (λ (x : code.FileWrite). take index items ++ x ∷ drop (suc index) items) (sym is) in
    let spread : names items ≡ names (take index items) ++ write_view w ∷ names (drop (suc index) items) = ap names there ∙ map-append write_view (take index items) (w ∷ drop (suc index) items) in
    none_there (names (take index items)) (write_view w) (names (drop (suc index) items)) (subst (λ (l : List FileWrite). AllByRecursion (λ w. name ≢ w.name) l) spread apart)
  where
    none_there : (before : List FileWrite) (x : FileWrite) (after : List FileWrite) → AllByRecursion (λ w. name ≢ w.name) (before ++ x ∷ after) → name ≢ x.name
    none_there [] x after all = all.0
    none_there (y ∷ ys) x after all = none_there ys x after all.1

-- those before the index were done
pub record Wrote (items : List code.FileWrite) (old now : Files) (index : ℕ) : Type 0 where
  pub files : IsTrue old.tells → (name : List ℕ) → now.file name ≡ content_after name (old.file name) (names (take index items))
  pub tells : now.tells ≡ old.tells
  pub unread : now.read_faults ≡ old.read_faults
  pub later : old.write_faults ≤ now.write_faults
  pub others : (name : List ℕ) → AllByRecursion (λ w. name ≢ w.name) (names items) → now.file name ≡ old.file name

pub wrote_first : (items : List code.FileWrite) (old : Files) → Wrote items old old 0
unfolding content_after
wrote_first items old = record { files = λ t name. refl; tells = refl; unread = refl; later = omega arith; others = λ name apart. refl }

pub wrote_next : (items : List code.FileWrite) (old mid new : Files) (index : ℕ) (w : code.FileWrite) → Wrote items old mid index → index < length items → w ≡ get_or items index w
    → (n : List ℕ) → n ≡ string_bytes w.name → (IsTrue mid.tells → new.file n ≡ Some w.bytes.now) → ((other : List ℕ) → other ≢ n → new.file other ≡ mid.file other)
    → new.tells ≡ mid.tells → new.read_faults ≡ mid.read_faults → mid.write_faults ≤ new.write_faults → Wrote items old new (index + 1)
wrote_next items old mid new index w wrote inside is n named written others tells unread later = record {
  files = λ t name. here name t (bytes_eq name (string_bytes w.name)) refl ∙ sym (at name);
  tells = tells ∙ wrote.tells;
  unread = unread ∙ wrote.unread;
  later = omega (arith, wrote.later, later);
  others = λ name apart. others name (λ same. not_named name items index w inside is apart (same ∙ named)) ∙ wrote.others name apart;
}
  where
    done : names (take (index + 1) items) ≡ names (take index items) ++ write_view w ∷ []
    done = map_more write_view items index w inside ∙ ap (λ (x : code.FileWrite). names (take index items) ++ write_view x ∷ []) (sym is)

    at : (name : List ℕ) → content_after name (old.file name) (names (take (index + 1) items)) ≡ cond (bytes_eq name (string_bytes w.name)) (Some w.bytes.now) (content_after name (old.file name) (names (take index items)))
    at name = ap (content_after name (old.file name)) done ∙ content_more name (old.file name) (names (take index items)) (write_view w)

    here : (name : List ℕ) → IsTrue old.tells → (same : Bool) → bytes_eq name (string_bytes w.name) ≡ same
        → new.file name ≡ cond (bytes_eq name (string_bytes w.name)) (Some w.bytes.now) (content_after name (old.file name) (names (take index items)))
    here name t true e = rw e (ap new.file ((bytes_eq-Decides name (string_bytes w.name)).0 e ∙ sym named) ∙ written (wrote.tells ∙ t))
    here name t false e = rw e (others name (λ same. not_from_Decides _ (bytes_eq-Decides name (string_bytes w.name)) e (same ∙ named)) ∙ wrote.files t name)

pub wrote_last : (items : List code.FileWrite) (old new : Files) (index : ℕ) → Wrote items old new index → length items ≤ index → WritesAll (names items) old new
wrote_last items old new index wrote past = λ t name. wrote.files t name ∙ ap (λ (xs : List code.FileWrite). content_after name (old.file name) (names xs)) (take_all index items past)

pub wrote_stops : (items : List code.FileWrite) (old mid new : Files) (index : ℕ) (w : code.FileWrite) → Wrote items old mid index → index < length items → w ≡ get_or items index w
    → (n : List ℕ) → n ≡ string_bytes w.name → ((other : List ℕ) → other ≢ n → new.file other ≡ mid.file other) → Rose mid.write_faults new.write_faults → Rose old.write_faults new.write_faults × StopsAt (names items) old new
wrote_stops items old mid new index w wrote inside is n named others rose =
    let split : items ≡ take index items ++ w ∷ drop (suc index) items = split_at items index w inside ∙ ap (λ (x : code.FileWrite). take index items ++ x ∷ drop (suc index) items) (sym is) in (
      rose_before old.write_faults mid.write_faults new.write_faults wrote.later rose,
      record {
        done = names (take index items);
        failed = write_view w;
        left = names (drop (suc index) items);
        split = ap names split ∙ map-append write_view (take index items) (w ∷ drop (suc index) items);
        files = λ t name ne. others name (λ same. ne (same ∙ named)) ∙ wrote.files t name;
      },
    )

-- ---- the names of a replay's files

-- a name that no replay writes is none of these
module _ (name : List ℕ) (apart : ¬ IsReplayFile name) where
  abbrev IsApart : FileWrite → Type 0
  IsApart w = name ≢ w.name

  own_apart : (part : EpochPart) (epoch : ℕ) (bytes : List ℕ) → IsApart (write_of (epoch_file part epoch) bytes)
  own_apart part epoch bytes same = apart (inr (inr (part, epoch, same)))

  epochs_apart : (epoch : ℕ) (xs : List EpochFiles) → AllByRecursion IsApart (epochs_writes epoch xs)
  unfolding epochs_writes
  epochs_apart epoch [] = tt
  epochs_apart epoch (x ∷ xs) = all_append IsApart (epoch_writes epoch x) (epochs_writes (epoch + 1) xs)
      (own_apart Families epoch x.families, (own_apart Closing epoch x.closing, (own_apart Table epoch x.table, (own_apart Log epoch x.log, tt))))
      (epochs_apart (epoch + 1) xs)

  pub all_apart : (x : replay.ReplayFiles) → AllByRecursion IsApart (writes_of x)
  all_apart x = (λ same. apart (inl same), (λ same. apart (inr (inl same)), epochs_apart 1 x.epochs))

-- where they are those that were written, its file stays
pub apart_stays : (old new : Files) (ws : List FileWrite) (x : replay.ReplayFiles) → ws ≡ writes_of x
    → ((name : List ℕ) → AllByRecursion (λ w. name ≢ w.name) ws → new.file name ≡ old.file name) → (name : List ℕ) → ¬ IsReplayFile name → new.file name ≡ old.file name
apart_stays old new ws x are stays name apart = stays name (subst (λ (l : List FileWrite). AllByRecursion (λ w. name ≢ w.name) l) (sym are) (all_apart name apart x))

pub ruleset each_epoch = (listed_next, listed_last)

pub ruleset each_write = (wrote_last)
