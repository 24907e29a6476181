-- The library's version as one number: major, minor and patch, a byte for each of the last two.
use Rattle.std.specs.Prelude.{ℕ, ◌+◌, ◌*◌}

abbrev pub version : ℕ
version = 0 * 65536 + 8 * 256 + 0
