use Rattle.std.proofs.Common.{rules}
use Rattle.numerals.specs.Numbers.{prices_in}
use Rattle.numerals.proofs.numbers.prices_in.Goals as goal

pub loop-word-init : goal.loop-word-init
unfolding prices_in
loop-word-init c = search rules
