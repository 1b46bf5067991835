use Rattle.std.proofs.Common.{refl}
use Rattle.std.proofs.lemmas.Bool.{false≢true}
use Rattle.measure.proofs.ranking.worst_then_sum_unlawful.Goals as goal

-- four prices of 1 are before one of 2; with a price of 2 joined to both, (2, 6) is after (2, 4)
pub returns : goal.returns
returns c = λ laws. false≢true (laws.mono (1, 4) (2, 2) (2, 2) refl)
