-- What contracts see of the files that `replay` writes.
use Rattle.std.specs.Prelude.{string_bytes}
use Rattle.cp_endings.specs.Writes as files
use Rattle.cp_tool.specs.declared.file_write.FileWrite.{FileWrite}

abbrev pub write_view : FileWrite → files.FileWrite
write_view write = record { name = string_bytes write.name; bytes = write.bytes.now }
