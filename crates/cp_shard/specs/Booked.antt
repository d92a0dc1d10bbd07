-- What an attestation says of its block and its call.
use Rattle.std.specs.Prelude.{◌+◌}
use Rattle.cp_statements.specs.Attestation.{Attestation}
use Rattle.cp_tips.specs.Tip.{Tip}
use Rattle.cp_shard.specs.declared.key.Key.{Key}

-- the block's tip after the entry
abbrev pub tip_by : Attestation → Tip
tip_by a = record { count = a.position + 1; version = a.version; content = a.content; head = a.head }

-- the call's key
abbrev pub key_by : Attestation → Key
key_by a = record { block = a.block; client = a.client; nonce = a.nonce }
