-- What the status of `audit` says.
use Rattle.std.proofs.Common.{◌≡◌, ◌⊎◌, inl, inr, ℕ, ◌<◌, ◌≤◌, Bool, true, false, cond, List, length, Option, Some, None, Result, Ok, Err, refl, sym, ap, ◌∙◌, subst, arith}
use Rattle.std.specs.Prelude.{IsTrue}
use Rattle.std.proofs.lemmas.Bool.{false≢true}
use Rattle.cp_bytes.specs.Fields.{◌>>=◌}
use Rattle.lms_tree.specs.PublicKey.{key_reads}
use Rattle.lms_tree.proofs.Testing.{verifies_tells}
use Rattle.cp_statements.specs.Envelope.{Envelope}
use Rattle.cp_evidence.specs.Audited.{audited, audited_given}
use Rattle.cp_evidence.specs.Conditions.{Convicts}
use Rattle.cp_evidence.specs.Evidence.{Evidence, evidence_text}
use Rattle.cp_evidence.specs.HandIns.{hand_ins_of}
use Rattle.cp_evidence.specs.Material.{GivenEpoch, What, given_of, closing_envelopes}
use Rattle.cp_evidence.specs.Sound as sound
use Rattle.cp_evidence.specs.Verdict.{guilt, verdict_by}
use Rattle.cp_evidence.proofs.AuditLemmas.{clean_exact}
use Rattle.cp_evidence.proofs.GivenFacts.{given_all}
use Rattle.cp_evidence.proofs.Searches.{all_append}
use Rattle.cp_guilt.specs.Framing.{WasSigned}
use Rattle.cp_guilt.proofs.HonestLemmas.{honest_clean}
use Rattle.cp_guilt.proofs.OwnLemmas.{own_clean}
use Rattle.cp_guilt.proofs.OwnMaterial.{own_given}
use Rattle.cp_tool.specs.AuditRuns.{AnswerEnds, AuditEnds, Sources, answered, files_in, sources_of, verdict_of}
use Rattle.cp_tool.specs.AuditStatus.{AuditStatus, IsHandedOut, IsHonest, IsOwn, Readable, StatusOfFiles}
use Rattle.cp_tool.specs.Statuses.{Unless}
use Rattle.cp_tool.proofs.AuditRefusals.{Refuses3, sources_3}
use Rattle.cp_commands.specs.AuditWords.{AuditWords}
use Rattle.cp_commands.specs.Commands.{Command}
use Rattle.cp_commands.specs.Commands.Command.{Audit}
use Rattle.cp_endings.specs.Endings.{Outcome, bad_key}
use Rattle.cp_endings.specs.Folders.{Files}
use Rattle.cp_endings.specs.Reports.{Reports}
use Rattle.cp_tool.specs.PutRuns.{CommandEnds}
use Rattle.cp_outside.specs.declared.disk.Disk as disk
use Rattle.cp_endings.proofs.Reported.{reported, stopped}

-- ---- what is given and read

ok_same : {A E : Type 0} (a b : A) (r : Result A E) → r ≡ Ok a → r ≡ Ok b → a ≡ b
ok_same a b r p q = cc

ok_err : {A E : Type 0} {G : Type 0} (a : A) (d : E) (r : Result A E) → r ≡ Ok a → r ≡ Err d → G
ok_err a d r p q = absurd cc

module _ (sources : Sources) where
  -- its key reads
  key_readable : Readable sources → IsTrue (key_reads sources.material.key)
  key_readable x =
      let facts = given_all sources.material x.epoch x.given in
      subst (λ (k : List ℕ). IsTrue (key_reads k)) facts.1.key (verifies_tells x.epoch.key x.epoch.closing.envelope.text x.epoch.closing.envelope.signature facts.0.closing_given.signed).key_reads

  module _ (o : GivenEpoch) (hand_ins : List Envelope) (given : given_of sources.material ≡ Ok o) (read : hand_ins_of sources.hand_ins ≡ Ok hand_ins) where
    readable : Readable sources
    readable = record { epoch = o; hand_ins = hand_ins; given = given; read = read }

    -- there is one such reading
    guilt_same : (x : Readable sources) → guilt x.epoch x.hand_ins ≡ guilt o hand_ins
    guilt_same x = λ i. guilt (ok_same x.epoch o (given_of sources.material) x.given given i) (ok_same x.hand_ins hand_ins (hand_ins_of sources.hand_ins) x.read read i)

    clean_there : guilt o hand_ins ≡ None → (x : Readable sources) → sound.Clean x.epoch x.hand_ins
    clean_there none x = (clean_exact sources.material x.epoch x.hand_ins x.given).0 (guilt_same x ∙ none)

    guilty_there : (e : Evidence) → guilt o hand_ins ≡ Some e → (x : Readable sources) → ¬ sound.Clean x.epoch x.hand_ins
    guilty_there e some x clean = apart (sym ((clean_exact sources.material x.epoch x.hand_ins x.given).1 clean) ∙ guilt_same x ∙ some)
      where
        apart : (let n : Option Evidence = None in n) ≡ Some e → ⊥
        apart h = absurd cc

    honest_there : (x : Readable sources) → IsHonest sources x → sound.Clean x.epoch x.hand_ins
    honest_there x h = let l = h.life in honest_clean l.store l.chronicle sources.material x.epoch x.hand_ins l.id x.given l.honest l.signed h.apart

    own_there : (x : Readable sources) → IsOwn sources x → sound.Clean x.epoch x.hand_ins
    own_there x h = let l = h.life in own_clean l.store l.chronicle sources.material x.epoch x.hand_ins l.id x.given l.honest l.signed h.own

  -- what an honest store handed out is given, and clean
  handed_out : (hand_ins : List Envelope) → hand_ins_of sources.hand_ins ≡ Ok hand_ins → IsHandedOut sources hand_ins → (x : Readable sources) × sound.Clean x.epoch x.hand_ins
  handed_out hand_ins read h =
      let g = own_given h.store h.chronicle sources.material h.id h.honest h.own in
      let o : GivenEpoch = g.0 in (
        record { epoch = o; hand_ins = hand_ins; given = g.1; read = read },
        own_clean h.store h.chronicle sources.material o hand_ins h.id g.1 h.honest (all_append (WasSigned h.store h.chronicle sources.material.key) (closing_envelopes o) hand_ins g.3 h.signed) g.2,
      )

  -- ---- what the status says

  module _ (evidence : Option (List ℕ)) (status : ℕ) where
    when_high : (status ≡ 4) ⊎ (status ≡ 5) → AuditStatus sources evidence status
    when_high high = record {
      clean = (λ e. absurd (not high 0 e (omega arith)), λ c. inr high);
      guilty = (λ e. absurd (not high 1 e (omega arith)), λ c. inr high);
      evidence = λ e. absurd (not high 1 e (omega arith));
      refused = (λ e. absurd (not high 3 e (omega arith)), λ c. inr high);
      where_honest = λ x h. inr high;
      where_own = λ x h. inr high;
      where_handed_out = λ xs read h. inr high;
    }
      where
        not : (status ≡ 4) ⊎ (status ≡ 5) → (n : ℕ) → status ≡ n → (n < 4) → ⊥
        not (inl four) n e low = omega (arith, four, e, low)
        not (inr five) n e low = omega (arith, five, e, low)

    when_refused : status ≡ 3 → ¬ Readable sources → AuditStatus sources evidence status
    when_refused three unreadable = record {
      clean = (λ e. absurd (omega (arith, e, three)), λ c. absurd (unreadable c.0));
      guilty = (λ e. absurd (omega (arith, e, three)), λ c. absurd (unreadable c.0));
      evidence = λ e. absurd (omega (arith, e, three));
      refused = (λ e. unreadable, λ c. inl three);
      where_honest = λ x h. absurd (unreadable x);
      where_own = λ x h. absurd (unreadable x);
      where_handed_out = λ xs read h. absurd (unreadable (handed_out xs read h).0);
    }

    module _ (o : GivenEpoch) (hand_ins : List Envelope) (given : given_of sources.material ≡ Ok o) (read : hand_ins_of sources.hand_ins ≡ Ok hand_ins) where
      when_clean : guilt o hand_ins ≡ None → status ≡ 0 → AuditStatus sources evidence status
      when_clean none zero_is = record {
        clean = (λ e. (readable o hand_ins given read, clean_there o hand_ins given read none (readable o hand_ins given read)), λ c. inl zero_is);
        guilty = (λ e. absurd (omega (arith, e, zero_is)), λ c. absurd (c.1 (clean_there o hand_ins given read none c.0)));
        evidence = λ e. absurd (omega (arith, e, zero_is));
        refused = (λ e. absurd (omega (arith, e, zero_is)), λ c. absurd (c (readable o hand_ins given read)));
        where_honest = λ x h. inl zero_is;
        where_own = λ x h. inl zero_is;
        where_handed_out = λ xs read h. inl zero_is;
      }

      when_guilty : (e : Evidence) → guilt o hand_ins ≡ Some e → status ≡ 1 → evidence ≡ Some (evidence_text e) → length (evidence_text e) ≤ 536870912 → Convicts sources.material.key (evidence_text e) → AuditStatus sources evidence status
      when_guilty found some one written short convicts = record {
        clean = (λ e. absurd (omega (arith, e, one)), λ c. absurd (guilty_there o hand_ins given read found some c.0 c.1));
        guilty = (λ e. (readable o hand_ins given read, guilty_there o hand_ins given read found some (readable o hand_ins given read)), λ c. inl one);
        evidence = λ e. (evidence_text found, written, short, convicts);
        refused = (λ e. absurd (omega (arith, e, one)), λ c. absurd (c (readable o hand_ins given read)));
        where_honest = λ x h. absurd (guilty_there o hand_ins given read found some x (honest_there o hand_ins given read x h));
        where_own = λ x h. absurd (guilty_there o hand_ins given read found some x (own_there o hand_ins given read x h));
        where_handed_out = λ xs there h. let clean = handed_out xs there h in absurd (guilty_there o hand_ins given read found some clean.0 clean.1);
      }

-- ---- the ending

abbrev Answered : ℕ → Outcome → Type 0
Answered status ending = ((status ≡ 4) ⊎ (status ≡ 5)) ⊎ (status ≡ ending.status)

settled : (sources : Sources) (out : List ℕ) (old new : Files) (ending : Outcome) (status : ℕ) → IsTrue old.tells → Answered status ending → AnswerEnds (verdict_of sources) out old new ending → AuditStatus sources (new.file out) status
unfolding audited
settled sources out old new ending status told (inl high) ends = when_high sources (new.file out) status high
settled sources out old new ending status told (inr same) ends = by_key (key_reads sources.material.key) refl ends
  where
    key : List ℕ
    key = sources.material.key

    by_guilt : (o : GivenEpoch) (handed : List Envelope) → given_of sources.material ≡ Ok o → hand_ins_of sources.hand_ins ≡ Ok handed → (found : Option Evidence) → guilt o handed ≡ found
        → AnswerEnds (Ok (key, verdict_by o handed found)) out old new ending → AuditStatus sources (new.file out) status
    by_guilt o handed given read None is ends = when_clean sources (new.file out) status o handed given read is (same ∙ ap (λ z. z.status) ends.0)
    by_guilt o handed given read (Some e) is ends =
        elim ends.written [
          | inl w ↦ when_guilty sources (new.file out) status o handed given read e is (same ∙ ap (λ (z : Outcome). z.status) w.0) (w.1 told) ends.is_short ends.convicts
          | inr w ↦ when_high sources (new.file out) status (inl (same ∙ ap (λ (z : Outcome). z.status) w.0))
        ]

    by_given : (g : Result GivenEpoch What) → given_of sources.material ≡ g → (h : Result (List Envelope) ℕ) → hand_ins_of sources.hand_ins ≡ h → AnswerEnds (answered key (audited_given g h)) out old new ending → AuditStatus sources (new.file out) status
    by_given (Err what) given h read ends = when_refused sources (new.file out) status (same ∙ ap (λ z. z.status) ends.0) (λ x. ok_err x.epoch what (given_of sources.material) x.given given)
    by_given (Ok o) given (Err at) read ends = when_refused sources (new.file out) status (same ∙ ap (λ z. z.status) ends.0) (λ x. ok_err x.hand_ins at (hand_ins_of sources.hand_ins) x.read read)
    by_given (Ok o) given (Ok handed) read ends = by_guilt o handed given read (guilt o handed) refl ends

    by_key : (reads : Bool) → key_reads key ≡ reads → AnswerEnds (cond reads (answered key (audited sources.material sources.hand_ins)) (Err bad_key)) out old new ending → AuditStatus sources (new.file out) status
    by_key false e ends = when_refused sources (new.file out) status (same ∙ ap (λ z. z.status) ends.0) (λ x. absurd (false≢true (sym e ∙ key_readable sources x)))
    by_key true e ends = by_given (given_of sources.material) refl (hand_ins_of sources.hand_ins) refl ends

pub audit_status : {K : Type 0} (g : disk.Ghosts K) (command : Option Command) (old new : Files) (first last : K) (ending : Outcome) (held now : Option (List ℕ)) (before after status : ℕ) → CommandEnds g command old new first last ending → Reports held now before after ending status
    → (words : AuditWords) → command ≡ Some (Audit words) → IsTrue old.tells → StatusOfFiles (sources_of words (files_in old.file words)) (new.file words.out) status
audit_status g command old new first last ending held now before after status ends reports words is told = go (sources_of words (files_in old.file words)) refl
  where
    audit : AuditEnds words old new ending
    audit = (subst (λ c. CommandEnds g c old new first last ending) is ends).0

    answer : Answered status ending
    answer = reported held now before after ending status reports

    there : (r : Result Sources Outcome) → sources_of words (files_in old.file words) ≡ r → sources_of words audit.files ≡ r
    there r read = ap (sources_of words) (audit.are_files told) ∙ read

    refused : (refusal : Outcome) → refusal.status ≡ 3 → ending ≡ refusal → Answered status ending → Unless status 3
    refused refusal three same (inl high) = inr high
    refused refusal three same (inr answered) = inl (answered ∙ ap (λ z. z.status) same ∙ three)

    go : (r : Result Sources Outcome) → sources_of words (files_in old.file words) ≡ r → StatusOfFiles r (new.file words.out) status
    go (Ok sources) read =
        elim audit.ends [
          | inl h ↦ settled sources words.out old new ending status told answer (subst (λ (r : Result Sources Outcome). AnswerEnds (r >>= verdict_of) words.out old new ending) (there (Ok sources) read) h)
          | inr h ↦ when_high sources (new.file words.out) status (stopped _ _ ending status h.0 answer)
        ]
    go (Err refusal) read =
        elim audit.ends [
          | inl h ↦ refused refusal (subst Refuses3 read (sources_3 words (files_in old.file words))) (subst (λ (r : Result Sources Outcome). AnswerEnds (r >>= verdict_of) words.out old new ending) (there (Err refusal) read) h).0 answer
          | inr h ↦ inr (stopped _ _ ending status h.0 answer)
        ]
