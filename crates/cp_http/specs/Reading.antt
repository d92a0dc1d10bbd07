-- What reading a head answers.
use Rattle.std.specs.Prelude.{ℕ, List}
use Rattle.cp_http.specs.declared.heads.Head.{Head}
use Rattle.cp_http.specs.declared.head_reads.HeadRead.{HeadRead}
use Rattle.cp_http.specs.declared.head_reads.HeadRead.TheVariants.{Whole, Partial, BadHead, HeadTooLong}
use Rattle.cp_http.specs.Heads.{HeadContent, IsPartial, IsTooLong, HasBadHead, HasHead}

-- what a head that was read says
abbrev pub head_content : Head → HeadContent
head_content h = record { method = h.method.now; path = h.path.now; length = h.content_length; close = h.close }

-- the answer says what stands at the front of the bytes
abbrev pub IsReadAs : List ℕ → HeadRead → Type 0
IsReadAs bytes (Whole head n) = HasHead bytes n (head_content head)
IsReadAs bytes Partial = IsPartial bytes
IsReadAs bytes BadHead = HasBadHead bytes
IsReadAs bytes HeadTooLong = IsTooLong bytes
