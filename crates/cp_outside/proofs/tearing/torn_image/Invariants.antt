use Rattle.std.proofs.Common.{◌≡◌, ◌≤◌, ℕ, List, length, drop}
use Rattle.cp_outside.specs.MemDisks.{made_calls, written_by, images_after, images_of}
use Rattle.cp_outside.proofs.tearing.torn_image.Given as goal

abbrev pub invariant-loop-call : goal.invariant-loop-call
invariant-loop-call l = record {
  rest : written_by (drop l.call-index l.calls) ≤ length l.rest;
  images : (image : List ℕ) → images_after l.content.items (λ other. other ≡ l.image.items) (made_calls (drop l.call-index l.calls) l.rest) image
      → images_of l.start (made_calls l.calls l.bytes) image;
}
