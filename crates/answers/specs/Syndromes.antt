-- The bits of a syndrome. Assumes nothing.
use Rattle.std.specs.Prelude.{Bool, List}
use Rattle.columns.specs.Masks.{bits}
use Rattle.answers.specs.declared.syndrome.Syndrome.{Syndrome}

-- a bit for each row, row 1 first
abbrev pub bits_of : Syndrome → List Bool
bits_of s = bits s.rows s.odd
