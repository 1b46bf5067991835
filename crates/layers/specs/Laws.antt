-- What the layers do to the measure of a word. Assumes nothing.
use Rattle.std.specs.Prelude.{◌≡◌, ℕ, ◌+◌, ◌%◌, ◌≤◌, Bool, false, List, map, length}
use Rattle.pauli.specs.Letters.{letter}
use Rattle.pauli.specs.Limits.{max_places}
use Rattle.pauli.specs.Words.{Word, add, at}
use Rattle.pauli.specs.Tables.{entry}
use Rattle.measure.specs.Scale.{Scale}
use Rattle.channel.specs.Prices.{Prices, measure_of}
use Rattle.layers.specs.Layers.{erased, shifted}

-- two words have the same letters, but perhaps at marked places
abbrev pub SameUnmarked : List Bool → Word → Word → Type 0
SameUnmarked marks u v = (k : ℕ) → entry marks (1 + k) false ≡ false → at k u ≡ at k v

-- the word of a table of shifts
abbrev pub shift_word : List ℕ → Word
shift_word shifts = map (λ n. letter (n % 4)) shifts

-- what the layers do to the measure of a word, whatever they are made over
pub record LayerLaws {V : Type 0} (s : Scale V) : Type 0 where
  -- it does not matter which letters stand at marked places
  pub erases :
      (c : Prices V) (marks : List Bool) (u v : Word) → length u ≡ length v → SameUnmarked marks u v
      → measure_of s (erased s marks c) u ≡ measure_of s (erased s marks c) v
  -- a word measures what its sum with the word of the shifts measures below
  pub shifts :
      (c : Prices V) (shifts : List ℕ) (w : Word) → length w ≤ length shifts → length shifts ≤ max_places
      → measure_of s (shifted shifts c) w ≡ measure_of s c (add w (shift_word shifts))
  -- it does not matter which of the two layers is above the other
  pub either :
      (c : Prices V) (marks : List Bool) (shifts : List ℕ) (w : Word)
      → measure_of s (erased s marks (shifted shifts c)) w ≡ measure_of s (shifted shifts (erased s marks c)) w
