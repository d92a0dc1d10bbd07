-- The text of a put request is none of a get request.
use Rattle.std.proofs.Common.{◌≡◌, false, refl}
use Rattle.std.specs.Prelude.{bytes_eq}
use Rattle.cp_bytes.specs.Fields.{spell}
use Rattle.cp_statements.specs.PutRequest.{PutRequest, put_request_text}
use Rattle.cp_statements.specs.GetRequest.{GetRequest, get_request_text}

pub put_is_no_get : (x : PutRequest) (y : GetRequest) → bytes_eq (put_request_text x) (get_request_text y) ≡ false
unfolding put_request_text get_request_text spell
put_is_no_get x y = refl

pub get_is_no_put : (x : GetRequest) (y : PutRequest) → bytes_eq (get_request_text x) (put_request_text y) ≡ false
unfolding put_request_text get_request_text spell
get_is_no_put x y = refl
