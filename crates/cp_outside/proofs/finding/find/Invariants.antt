use Rattle.std.proofs.Common.{◌≡◌, length, drop, None}
use Rattle.std.specs.Option.{option_map, IfSome}
use Rattle.cp_outside.specs.Entries.{IsWithin, content_in, writes_in}
use Rattle.cp_outside.specs.MemFolders.{file_after}
use Rattle.cp_outside.proofs.finding.find.Given as goal

abbrev pub invariant-loop-entry : goal.invariant-loop-entry
invariant-loop-entry l = record {
  content : file_after (option_map (content_in l.bytes) l.found) (writes_in l.bytes (drop l.entry-index l.entries)) l.name
      ≡ file_after None (writes_in l.bytes l.entries) l.name;
  within : IfSome l.found (IsWithin (length l.bytes));
}
