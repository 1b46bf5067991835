-- The two channels that stand on their own, by their meanings. Assumes nothing.
use Rattle.std.specs.Prelude.{◌+◌, ◌-◌, ◌*◌, ◌/◌, ◌≤◌, min, List, length, slice_index_or}
use Rattle.std.proofs.Math.Nat.{le_refl, min-le_right}
use Rattle.pauli.specs.Letters.{number}
use Rattle.pauli.specs.Limits.{max_places}
use Rattle.measure.specs.Scale.{Scale}
use Rattle.channel.specs.Prices.{Prices}

-- four values, the same at every place that a word may have
abbrev pub flat : {V : Type 0} → Scale V → List V → Prices V
flat s xs = record {
  priced = max_places;
  price = λ p e. slice_index_or xs (number e) s.start;
}

-- it prices no more places than a word may have
pub flat_few : max_places ≤ max_places
flat_few = le_refl max_places

-- a list of values, four to a place in the order of the letters; what is left over, or past the last place, is not used
abbrev pub tabled : {V : Type 0} → Scale V → List V → Prices V
tabled s xs = record {
  priced = min (length xs / 4) max_places;
  price = λ p e. slice_index_or xs (4 * (p - 1) + number e) s.start;
}

-- it prices no more places than a word may have
pub tabled_few : {V : Type 0} (xs : List V) → min (length xs / 4) max_places ≤ max_places
tabled_few xs = min-le_right (length xs / 4) max_places
