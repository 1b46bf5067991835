-- The limits of words and codes. Assumes nothing.
use Rattle.std.specs.Prelude.{ℕ}

-- the most places that a word may have
abbrev pub max_places : ℕ
max_places = 128

-- the most rows that a code may have: one for each bit of a set of rows
abbrev pub max_rows : ℕ
max_rows = 64
