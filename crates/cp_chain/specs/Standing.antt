-- Which segments reach from tip to tip, and which attestations stand in one (this project's own).
use Rattle.std.specs.Prelude.{ℕ, ◌+◌, ◌-◌, Bool, ◌&&◌, List, length, take, nat_lt, nat_le, ◌==◌, bytes_eq}
use Rattle.cp_bytes.specs.Hashes.{head_after}
use Rattle.cp_statements.specs.Entry.{Entry, entry_of}
use Rattle.cp_statements.specs.Attestation.{Attestation}
use Rattle.cp_chain.specs.Frame.{Frame}
use Rattle.cp_chain.specs.Legal.{ok_and}
use Rattle.cp_chain.specs.Rules.{text_at}

-- From the tip before, as many texts as the counts differ, at least one, lead to the head after.
unfoldable pub reaches : Frame → List (List ℕ) → Bool
reaches f ts = (f.side.before.count + length ts == f.after.count) && (nat_le 1 (length ts) && bytes_eq (head_after f.side.before.head ts) f.after.head)

-- the entry says what the attestation says
abbrev pub says_the_same : Attestation → Entry → Bool
says_the_same a e = (e.kind == a.kind) && ((e.epoch == a.epoch) && ((e.block == a.block) && ((e.position == a.position) && ((e.client == a.client) && ((e.nonce == a.nonce) && ((e.version == a.version) && bytes_eq e.content a.content))))))

-- The attestation is of this segment: its position is between the counts, and the text there has its
-- entry and its heads.
unfoldable pub stands : Frame → List (List ℕ) → Attestation → Bool
stands f ts a = nat_le f.side.before.count a.position && (nat_lt a.position f.after.count
    && (ok_and (entry_of (text_at ts (a.position - f.side.before.count))) (says_the_same a)
    && (bytes_eq a.prev (head_after f.side.before.head (take (a.position - f.side.before.count) ts))
    && bytes_eq a.head (head_after f.side.before.head (take (a.position - f.side.before.count + 1) ts)))))
