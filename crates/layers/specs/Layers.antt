-- The layers by their meanings. Assumes nothing.
use Rattle.std.specs.Prelude.{ℕ, ◌%◌, Bool, false, cond, List}
use Rattle.pauli.specs.declared.letter.Letter.{Letter}
use Rattle.pauli.specs.Letters.{letter, plus}
use Rattle.pauli.specs.Tables.{entry}
use Rattle.measure.specs.Scale.{Scale}
use Rattle.measure.specs.Measures.{as_worst}
use Rattle.measure.specs.declared.sum.Sum.{Sum}
use Rattle.measure.specs.declared.worst.Worst.{Worst}
use Rattle.channel.specs.Prices.{Prices}

-- at a marked place every letter costs the start value, elsewhere what it costs below
abbrev pub erased : {V : Type 0} → Scale V → List Bool → Prices V → Prices V
erased s marks c = record {
  priced = c.priced;
  price = λ p e. cond (entry marks p false) s.start (c.price p e);
}

-- the letter of a place: its number's remainder by 4, and I at a place that the table does not have
abbrev pub shift_at : List ℕ → ℕ → Letter
shift_at shifts p = letter (entry shifts p 0 % 4)

-- a letter costs what its sum with the letter of the place costs below
abbrev pub shifted : {V : Type 0} → List ℕ → Prices V → Prices V
shifted shifts c = record {
  priced = c.priced;
  price = λ p e. c.price p (plus e (shift_at shifts p));
}

-- the same prices, of which only the largest counts
abbrev pub worst_of : Prices Sum → Prices Worst
worst_of c = record {
  priced = c.priced;
  price = λ p e. as_worst (c.price p e).0;
}
