-- What stands in a buffer.
use Rattle.std.specs.Prelude.{ℕ, List, take}
use Rattle.files.specs.declared.buffer.Buffer as code

abbrev pub bytes_in : {N : ℕ} → code.Buffer N → List ℕ
bytes_in b = take b.length b.bytes
