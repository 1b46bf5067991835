use Rattle.std.proofs.Common.{◌≡◌, take}
use Rattle.channel.specs.Prices.{measure_of_numbers}
use Rattle.channel.proofs.word.measure_of.Given as goal

abbrev pub invariant-loop-i : goal.invariant-loop-i
invariant-loop-i g l =
    let s = g.C.Measure.Measure.scale in
    let c = g.C.Channel.prices l.channel in
    l.total ≡ measure_of_numbers s c (take l.i l.word)
