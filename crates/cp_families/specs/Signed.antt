-- What contracts see of a put that was checked.
use Rattle.cp_statements.specs.View.{put_request_view}
use Rattle.cp_families.specs.Checking.{SignedPut, IsSigned}
use Rattle.cp_families.specs.declared.verified_put.VerifiedPut.TheInside.{Inside}

abbrev pub signed_view : Inside → SignedPut
signed_view p = record { request = put_request_view p.request; signature = p.signature.now; key = p.key }

-- its signature was verified
abbrev pub WasSigned : Inside → Type 0
WasSigned p = IsSigned (signed_view p)
