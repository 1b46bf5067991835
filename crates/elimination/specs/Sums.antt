-- Sums of the rows of a table. Assumes nothing.
use Rattle.std.specs.Prelude.{◌≡◌, ℕ, ◌<◌, min, Bool, ◌↔◌, List, map, length, Some, None, Option, ◌≢◌, slice_index_or}
use Rattle.pauli.specs.Limits.{max_rows}
use Rattle.pauli.specs.Letters.{letter}
use Rattle.pauli.specs.Words.{select}
use Rattle.columns.specs.Masks.{bits}
use Rattle.columns.specs.Columns.{rows, hollow}
use Rattle.columns.specs.declared.column.Column.{Column}
use Rattle.elimination.specs.Systems.{Holds, Here}
use Rattle.elimination.specs.declared.system.System.{System}

-- what is answered of a table and a word: rows that add to the word, or that none do
abbrev pub Solved : List Column → List ℕ → Option ℕ → Type 0
Solved columns word (Some m) = select (length columns) (bits max_rows m) (rows max_rows columns) ≡ map letter word
Solved columns word None = (ks : List Bool) → select (length columns) ks (rows max_rows columns) ≢ map letter word

-- the bits choose rows with the word's letters at the first n places
abbrev pub Gives : List Bool → List Column → List ℕ → ℕ → Type 0
Gives ks columns word n = (q : ℕ) → q < n → Here ks (slice_index_or columns q hollow) (letter (slice_index_or word q 0))

-- what is answered of a table and a word: a system that is met just where rows with the word's letters are chosen, or that there are no such rows
unfoldable pub Stated : List Column → List ℕ → Option System → Type 0
Stated columns word (Some s) = (ks : List Bool) → Holds ks s.equations ↔ Gives ks columns word (min (length columns) (length word))
Stated columns word None = (ks : List Bool) → Gives ks columns word (min (length columns) (length word)) → ⊥
