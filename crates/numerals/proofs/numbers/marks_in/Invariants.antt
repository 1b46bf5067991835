use Rattle.std.proofs.Common.{◌≡◌}
use Rattle.std.specs.Option.{option_map}
use Rattle.numerals.specs.Numbers.{words_in, numbers_in, marked, marks_in}
use Rattle.numerals.proofs.numbers.marks_in.Given as goal

abbrev pub invariant-loop-word : goal.invariant-loop-word
invariant-loop-word l = marks_in l.text ≡ option_map (marked l.marks.marks) (numbers_in 64 (words_in l.word-iterator.0.now))
