-- A replay before its first line.
use Rattle.std.proofs.Common.{◌≡◌, ℕ, ◌+◌, ◌-◌, ◌<◌, ◌≤◌, ◌^◌, List, [], ◌∷◌, ◌++◌, length, refl, ap, sym, ◌∙◌, subst, arith, true}
use Rattle.std.specs.Prelude.{IsOk}
use Rattle.lms_tree.proofs.KeyBytes.{reads_tells}
use Rattle.sha2.specs.Sha256.{sha256}
use Rattle.sha2.proofs.Facts256.{length-sha256}
use Rattle.lms_tree.specs.PublicKey.{key_reads}
use Rattle.lms_tree.specs.Parameters.{levels_of}
use Rattle.lms_tree.specs.Secret.{Secret, leaves_of, public_of}
use Rattle.lms_tree.specs.declared.height.Height.{Height}
use Rattle.lms_tree.specs.declared.height.Height.TheVariants.{H5, H10, H15}
use Rattle.cp_families.specs.Families.{FamiliesFit, FamilyRow, families_of, families_text}
use Rattle.cp_families.proofs.Exact.{families_again}
use Rattle.cp_core.specs.Store.{Store, StoreFits}
use Rattle.cp_core.specs.View.{Standing, opened}
use Rattle.cp_store.specs.Alike.{Alike}
use Rattle.cp_core.specs.Machine.{opening}
use Rattle.cp_core.proofs.EventLemmas.{opens}
use Rattle.cp_store.proofs.Alikes.{alike_refl}
use Rattle.cp_replay.specs.Keys.{closings_in, writer_secret}
use Rattle.cp_replay.specs.Script.{ScriptFits}
use Rattle.cp_replay.specs.Writers.{rows_for}
use Rattle.cp_replay.specs.Replay.{Making, ReplayFiles, Progress, after_lines, at_first, key_of, files_after, replayed, store_by, store_of, writer_of}
use Rattle.cp_replay.specs.Follows.{CanSign, Follows, HasLeaves}
use Rattle.cp_replay.specs.declared.epoch_files.EpochFiles.{EpochFiles}
use Rattle.cp_replay.specs.declared.line.Line.{Line}
use Rattle.cp_replay.specs.declared.running.ReplayRun as run
use Rattle.cp_replay.proofs.Listed.{list_fits}

-- the numbers of leaves
pub record Few (n : ℕ) : Type 0 where
  pub least : 32 ≤ n
  pub most : n ≤ 32768
  pub closings : closings_in n ≤ n
  pub sum : n - closings_in n + closings_in n ≡ n

few_of : (h : Height) → Few (2 ^ levels_of h)
few_of H5 = record { least = omega arith; most = omega arith; closings = omega arith; sum = refl }
few_of H10 = record { least = omega arith; most = omega arith; closings = omega arith; sum = refl }
few_of H15 = record { least = omega arith; most = omega arith; closings = omega arith; sum = refl }

pub few_leaves : (key : Secret) → Few (leaves_of key)
few_leaves key = few_of key.height

pub list_reads : (key : List ℕ) (lines : List Line) → key_reads key ≡ true → ScriptFits lines → FamiliesFit (rows_for key lines)
list_reads key lines reads fits = list_fits key lines (reads_tells key reads).0 reads fits

pub list_ok : (key : List ℕ) (lines : List Line) (text : List ℕ) → key_reads key ≡ true → ScriptFits lines → text ≡ families_text (rows_for key lines) → IsOk (families_of text)
list_ok key lines text reads fits is = rw (ap families_of is ∙ families_again (rows_for key lines) (list_reads key lines reads fits)) refl

pub has_leaves : (key writer : Secret) (pages : ℕ) (lines : List Line) → HasLeaves (store_by key writer pages lines) key
unfolding store_by
has_leaves key writer pages lines = omega (arith, (few_leaves key).sum)

pub follows_first : (s : Store) (x : run.ReplayRun) → StoreFits s → x.store ≡ opened s → x.id ≡ s.id → x.list ≡ s.families → x.named ≡ 1 → x.text.items ≡ [] → x.handins.items ≡ [] → x.epochs.items ≡ [] → Follows s x (at_first s)
follows_first s x fits is id list named text handins epochs = record {
  store = ap (λ (y : Standing). y.store) is;
  id = id;
  list = list;
  alike = subst (λ (y : Standing). Alike y.state (opening s)) (sym is) (alike_refl (opening s));
  keeps = opens s fits;
  fits = fits;
  named = named;
  first = omega (arith, named);
  bounded = omega (arith, named);
  text = text;
  handins = handins;
  epochs = epochs;
}

-- a line's number is a leaf of the writer's key
pub signs_all : (writer : Secret) (seed : List ℕ) (lines : List Line) → writer ≡ writer_secret seed → ScriptFits lines → (number : ℕ) → number < length lines → CanSign writer number
signs_all writer seed lines is fits number inside =
    subst (λ k. CanSign k number) (sym is) (omega (arith, inside, fits.few))

replay_same : (m : Making) (lines : List Line) (x : run.ReplayRun) (p : Progress) → Follows (store_of m lines) x p
    → (let y : ReplayFiles = record { key = public_of (key_of m); text = x.text.items; handins = x.handins.items; epochs = x.epochs.items } in y) ≡ files_after (public_of (key_of m)) p
replay_same m lines x p f =
    let make : List ℕ → List ℕ → List EpochFiles → ReplayFiles = λ t h e. record { key = public_of (key_of m); text = t; handins = h; epochs = e } in
    ap (λ t. make t x.handins.items x.epochs.items) f.text ∙ ap (λ h. make p.text h x.epochs.items) f.handins ∙ ap (λ e. make p.text p.handins e) f.epochs

-- what a replay that followed to the end has is the definition's
pub replay_done : (m : Making) (lines : List Line) (key writer : Secret) (s : Store) (x : run.ReplayRun) (public text handins : List ℕ) → key ≡ key_of m → writer ≡ writer_of m → s ≡ store_by key writer m.pages lines
    → Follows s x (after_lines key writer s 0 (at_first s) lines) → public ≡ public_of key → text ≡ x.text.items → handins ≡ x.handins.items
    → (let y : ReplayFiles = record { key = public; text = text; handins = handins; epochs = x.epochs.items } in y) ≡ replayed m lines
unfolding replayed
replay_done m lines key writer s x public text handins key_is writer_is s_is f public_is text_is handins_is =
    let make : List ℕ → List ℕ → List ℕ → ReplayFiles = λ k t h. record { key = k; text = t; handins = h; epochs = x.epochs.items } in
    let one = subst (λ t. Follows t x (after_lines key writer t 0 (at_first t) lines)) s_is f in
    let two = subst (λ k. Follows (store_by k writer m.pages lines) x (after_lines k writer (store_by k writer m.pages lines) 0 (at_first (store_by k writer m.pages lines)) lines)) key_is one in
    let three = subst (λ w. Follows (store_by (key_of m) w m.pages lines) x (after_lines (key_of m) w (store_by (key_of m) w m.pages lines) 0 (at_first (store_by (key_of m) w m.pages lines)) lines)) writer_is two in
    ap (λ k. make k text handins) (public_is ∙ ap public_of key_is) ∙ ap (λ t. make (public_of (key_of m)) t handins) text_is ∙ ap (λ h. make (public_of (key_of m)) x.text.items h) handins_is
    ∙ replay_same m lines x (after_lines (key_of m) (writer_of m) (store_of m lines) 0 (at_first (store_of m lines)) lines) three

pub ruleset opening_facts = (few_leaves)
