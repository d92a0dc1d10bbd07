use Rattle.std.proofs.Common.{ℕ, List, length, sym, subst}
use Rattle.cp_outside.specs.MemDisks.{left_since}
use Rattle.cp_outside.specs.MemDiskLaws.{now_left}
use Rattle.cp_outside.specs.MemDiskWords.{start_of, record_of}
use Rattle.cp_outside.proofs.MemDiskLemmas.{image_there, if_ok_more}
use Rattle.cp_outside.proofs.mem_disk.MemDisk.crash.Goals as goal

pub returns-clause-image : goal.returns-clause-image
returns-clause-image c =
    if_ok_more c.over.result c.over.ensures (λ disk fresh.
    subst (λ (l : List ℕ). left_since (start_of c.args.self) (record_of c.args.self) (length (record_of c.args.self)) l) (sym fresh.held)
    (now_left (start_of c.args.self) (record_of c.args.self) c.in_ok-image.image.items
    (image_there _ c.args.self.start.items _ c.args.self.bytes.items _ c.args.self.calls.items _ c.deref.ensures.value c.deref-2.ensures.value c.deref-3.ensures.value c.in_ok-image.ensures)))
