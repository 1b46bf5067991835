use Rattle.std.proofs.Common.{length}
use Rattle.elimination.proofs.Adding.{Says}
use Rattle.elimination.proofs.sums.system_of.Given as goal

-- The system says what the first places ask of the rows chosen.
abbrev pub invariant-loop-column : goal.invariant-loop-column
invariant-loop-column l = Says l.system.equations l.columns l.word (length l.yielded)
