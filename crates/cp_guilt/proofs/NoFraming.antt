-- No bytes convict an honest store.
use Rattle.std.proofs.Common.{◌≡◌, ℕ, List, length, Result, Ok, Err, ap, ◌∙◌}
use Rattle.std.specs.Prelude.{IfOk, IsOkAnd}
use Rattle.sha2.specs.Sha256.{sha256}
use Rattle.sha2.proofs.Facts256.{length-sha256}
use Rattle.cp_core.specs.Store.{Store}
use Rattle.cp_core.specs.Honest.{Honest}
use Rattle.cp_core.specs.Machine.{run}
use Rattle.cp_core.proofs.SealLemmas.{core_is_honest}
use Rattle.cp_core.specs.declared.chronicle.Chronicle.{Chronicle}
use Rattle.cp_evidence.specs.Evidence.{Evidence, evidence_of}
use Rattle.cp_evidence.specs.Evidence.Evidence.{K1, K2, K3, K4, K5, K6, K7, K8, K9, K10}
use Rattle.cp_evidence.specs.Conditions.{tried}
use Rattle.cp_guilt.specs.Framing.{HolderSigned, NoneCollide}
use Rattle.cp_guilt.specs.Laws.{Unframeable, NoRunIsFramed}
use Rattle.cp_guilt.proofs.Envelopes.{not_k1, not_k2, not_k3, not_k5, not_k9, not_k10}
use Rattle.cp_guilt.proofs.Frames.{not_k4, not_k6}
use Rattle.cp_guilt.proofs.SegmentsOfLife.{not_k7, not_k8}

-- no evidence of any kind convicts
pub by_kind : (s : Store) (r : Chronicle) (key : List ℕ) (e : Evidence) → s.id ≡ sha256 key → length s.id ≡ 32 → Honest s r → HolderSigned s r key e → NoneCollide r key e → tried key e ≡ Ok tt → ⊥
by_kind s r key (K1 e) own id h holder apart p = not_k1 s r key e h id holder p
by_kind s r key (K2 e) own id h holder apart p = not_k2 s r key e h holder p
by_kind s r key (K3 e) own id h holder apart p = not_k3 s r key e h id holder p
by_kind s r key (K4 e) own id h holder apart p = not_k4 s r key e h id holder apart p
by_kind s r key (K5 e) own id h holder apart p = not_k5 s r key e h id holder p
by_kind s r key (K6 e) own id h holder apart p = not_k6 s r key e h id holder apart p
by_kind s r key (K7 e) own id h holder apart p = not_k7 s r key e h id own holder apart p
by_kind s r key (K8 e) own id h holder apart p = not_k8 s r key e h id holder apart p
by_kind s r key (K9 x) own id h holder apart p = not_k9 s r key x h id holder p
by_kind s r key (K10 x) own id h holder apart p = not_k10 s r key x h id own holder p

of_bytes : (s : Store) (r : Chronicle) (key : List ℕ) (read : Result Evidence ℕ) → s.id ≡ sha256 key → length s.id ≡ 32 → Honest s r → IfOk read (HolderSigned s r key) → IfOk read (NoneCollide r key) → IsOkAnd read (λ e. tried key e ≡ Ok tt) → ⊥
of_bytes s r key (Ok e) own id h holder apart p = by_kind s r key e own id h holder apart p
of_bytes s r key (Err at) own id h holder apart p = p

pub never_framed : Unframeable
never_framed s key r bytes own h holder apart convicts = of_bytes s r key (evidence_of bytes) own (ap length own ∙ length-sha256 key) h holder apart convicts.holds

pub no_run_framed : NoRunIsFramed
no_run_framed s key events bytes own fits admissible holder apart = never_framed s key (run s events).life bytes own (core_is_honest s events fits admissible).honest holder apart
