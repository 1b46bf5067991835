-- The table of a code, by columns. Assumes nothing.
use Rattle.std.specs.Prelude.{◌≡◌, ℕ, ◌≤◌, List, take, slice_index_or}
use Rattle.pauli.specs.Words.{Word}
use Rattle.columns.specs.declared.column.Column.{Column}
use Rattle.columns.specs.Columns.{rows, hollow}

-- the columns after the first n places are empty
abbrev pub Unused : ℕ → List Column → Type 0
Unused n table = (k : ℕ) → n ≤ k → ((slice_index_or table k hollow).x ≡ 0) × ((slice_index_or table k hollow).z ≡ 0)

-- the r rows of n letters in a table
abbrev pub words_of : ℕ → ℕ → List Column → List Word
words_of n r table = rows r (take n table)
