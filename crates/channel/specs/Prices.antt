-- What a channel means, what it answers when asked, and what a word measures. Assumes nothing.
use Rattle.std.specs.Prelude.{ℕ, ◌+◌, cond, List, [], ◌∷◌, nat_lt}
use Rattle.pauli.specs.declared.letter.Letter.{Letter}
use Rattle.pauli.specs.Letters.{letter}
use Rattle.pauli.specs.Words.{Word}
use Rattle.pauli.specs.Tables.{within}
use Rattle.measure.specs.Scale.{Scale}

-- what each letter costs at each place, places counted from 1
abbrev pub Pricing : Type 0 → Type 0
Pricing V = ℕ → Letter → V

-- the meaning of a channel: how many places are priced, and what each letter costs at these
pub record Prices (V : Type 0) : Type 0 where
  pub priced : ℕ
  pub price : Pricing V

-- the price of a letter at a place, and the start value at a place that is not priced
abbrev pub cost : {V : Type 0} → Scale V → Prices V → Pricing V
cost s c p e = cond (within c.priced p) (c.price p e) s.start

-- what a channel answers for a letter number: the letter's price, and the start value above 3
abbrev pub asked : {V : Type 0} → Scale V → Prices V → ℕ → ℕ → V
asked s c p n = cond (nat_lt n 4) (cost s c p (letter n)) s.start

-- a value joined with the price of one letter after another, the first of them at place p
abbrev pub joined_from : {V E : Type 0} → (V → V → V) → (ℕ → E → V) → V → ℕ → List E → V
joined_from join price v p [] = v
joined_from join price v p (e ∷ w) = joined_from join price (join v (price p e)) (p + 1) w

-- the measure of a word by prices for every place
abbrev pub measured : {V : Type 0} → Scale V → Pricing V → Word → V
measured s price w = joined_from s.join price s.start 1 w

-- the measure of a word under a channel
abbrev pub measure_of : {V : Type 0} → Scale V → Prices V → Word → V
measure_of s c w = measured s (cost s c) w

-- the measure of a word of letter numbers, whatever they are
abbrev pub measure_of_numbers : {V : Type 0} → Scale V → Prices V → List ℕ → V
measure_of_numbers s c w = joined_from s.join (asked s c) s.start 1 w
