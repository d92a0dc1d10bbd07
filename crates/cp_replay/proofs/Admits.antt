-- A put that the script's writer signs is admissible.
use Rattle.std.proofs.Common.{◌≡◌, ℕ, ◌<◌, ◌≤◌, ◌^◌, List, length, arith}
use Rattle.sha2.specs.Sha256.{sha256}
use Rattle.lms_tree.specs.Secret.{Secret, signature_len}
use Rattle.lms_tree.proofs.Climbing.{sig_long}
use Rattle.cp_statements.specs.PutRequest.{PutRequestFits, put_request_text}
use Rattle.cp_statements.specs.View.{put_request_view}
use Rattle.cp_statements.specs.declared.put_request.PutRequest.{PutRequest}
use Rattle.cp_core.specs.Store.{Store}
use Rattle.cp_core.specs.Machine.{Admissible}
use Rattle.cp_core.specs.declared.event.Event.TheVariants.{Call}
use Rattle.cp_replay.specs.Replay.{put_signed}

pub put_admissible : (s : Store) (key : Secret) (leaf : ℕ) (asked : PutRequest) (content : List ℕ) → asked.store ≡ s.id → PutRequestFits (put_request_view asked) → length content ≤ 65536 → sha256 content ≡ asked.content
    → signature_len key < 2 ^ 32 → Admissible s (Call 0 (put_signed key leaf asked content))
unfolding put_signed
put_admissible s key leaf asked content names fits small hashed short =
    (names, (fits, omega (arith, short, sig_long key leaf (put_request_text (put_request_view asked))), small), hashed)
