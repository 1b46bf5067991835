-- What the measure of a word obeys, for every measure that shows its laws. Assumes nothing.
use Rattle.std.specs.Prelude.{◌≡◌, ℕ, ◌+◌, ◌<◌, ◌≤◌, [], ◌∷◌, ◌++◌, map, length}
use Rattle.pauli.specs.declared.letter.Letter.{Letter}
use Rattle.pauli.specs.Letters.{number}
use Rattle.pauli.specs.Words.{Word}
use Rattle.measure.specs.Scale.{Scale, Le}
use Rattle.channel.specs.Prices.{Prices, cost, measure_of, measure_of_numbers}

-- as many priced places, and the same prices there
pub record Alike {V : Type 0} (c d : Prices V) : Type 0 where
  pub number : c.priced ≡ d.priced
  pub prices : (p : ℕ) → 0 < p → p ≤ c.priced → (e : Letter) → c.price p e ≡ d.price p e

-- what the measures of words obey, whatever is priced
pub record MeasureLaws {V : Type 0} (s : Scale V) : Type 0 where
  -- no letter, no price
  pub empty : (c : Prices V) → measure_of s c [] ≡ s.start
  -- the price of the last letter is joined last
  pub last :
      (c : Prices V) (w : Word) (e : Letter)
      → measure_of s c (w ++ (e ∷ [])) ≡ s.join (measure_of s c w) (cost s c (1 + length w) e)
  -- letters measure what their numbers measure
  pub numbers : (c : Prices V) (w : Word) → measure_of_numbers s c (map number w) ≡ measure_of s c w
  -- a word that measures at most another of its length does so whatever letters follow both
  pub keeps :
      (c : Prices V) (u v t : Word) → length u ≡ length v → Le s (measure_of s c u) (measure_of s c v)
      → Le s (measure_of s c (u ++ t)) (measure_of s c (v ++ t))
  -- channels that are alike measure every word alike
  pub alike : (c d : Prices V) → Alike c d → (w : Word) → measure_of s c w ≡ measure_of s d w
