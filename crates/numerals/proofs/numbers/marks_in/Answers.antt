use Rattle.std.proofs.Common.{rules}
use Rattle.numerals.specs.Numbers.{marks_in}
use Rattle.numerals.proofs.numbers.marks_in.Goals as goal

pub loop-word-init : goal.loop-word-init
unfolding marks_in
loop-word-init c = search rules
