use Rattle.std.proofs.Common.{◌≡◌, ◌++◌, map, vec_items}
use Rattle.std.specs.Option.{option_map}
use Rattle.measure.specs.Measures.{as_sum}
use Rattle.numerals.specs.Numbers.{words_in, numbers_in, prices_in}
use Rattle.numerals.proofs.numbers.prices_in.Given as goal

abbrev pub invariant-loop-word : goal.invariant-loop-word
invariant-loop-word l = prices_in l.text ≡ option_map (λ ns. vec_items l.prices ++ map as_sum ns) (numbers_in 32 (words_in l.word-iterator.0.now))
