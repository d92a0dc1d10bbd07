-- Which request an attestation answers (this project's own).
use Rattle.std.specs.Prelude.{ℕ, List, ◌==◌, cond}
use Rattle.cp_statements.specs.PutRequest.{put_request_text}
use Rattle.cp_statements.specs.GetRequest.{get_request_text}
use Rattle.cp_statements.specs.Attestation.{Attestation}

-- the request's text
abbrev pub asked_by : Attestation → List ℕ
asked_by a = cond (a.kind == 1)
    (put_request_text (record { store = a.store; epoch = a.epoch; block = a.block; client = a.client; nonce = a.nonce; version = a.version; content = a.content }))
    (get_request_text (record { store = a.store; epoch = a.epoch; block = a.block; client = a.client; nonce = a.nonce }))
