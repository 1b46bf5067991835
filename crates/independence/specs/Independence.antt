-- Commuting and independent rows, and what it is to explain a syndrome. Assumes nothing.
use Rattle.std.specs.Prelude.{◌≡◌, ℕ, ◌<◌, Bool, false, List, [], length, take, ◌≢◌, slice_index_or}
use Rattle.pauli.specs.Words.{Word, star, Long, select, syndrome}

-- every two rows commute (past the last row stands the word without letters, which commutes with all)
abbrev pub Commuting : List Word → Type 0
Commuting rows = (i j : ℕ) → star (slice_index_or rows i []) (slice_index_or rows j []) ≡ false

-- no row is a sum of the rows before it. The sum of none is blank, so no row is blank
abbrev pub Independent : ℕ → List Word → Type 0
Independent n rows = (k : ℕ) (ks : List Bool) → k < length rows → select n ks (take k rows) ≢ slice_index_or rows k []

-- a word of n letters with the syndrome s
pub record Explains (n : ℕ) (rows : List Word) (s : List Bool) (e : Word) : Type 0 where
  pub long : length e ≡ n
  pub syndrome : syndrome rows e ≡ s

-- every syndrome of the rows' number is explained by some word
abbrev pub AllExplained : ℕ → List Word → Type 0
AllExplained n rows = (s : List Bool) → length s ≡ length rows → (e : Word) × Explains n rows s e

-- independent rows explain every syndrome
abbrev pub Explained : Type 0
Explained = (n : ℕ) (rows : List Word) → Long n rows → Independent n rows → AllExplained n rows
