-- The number of a version. Assumes nothing.
use Rattle.std.specs.Prelude.{Bool, leb}
use Rattle.version.specs.declared.index.VersionIndex.{VersionIndex}

-- 01, module 5: indices 0 and 1 are special
abbrev pub is_special : VersionIndex → Bool
is_special index = leb index.0 1
