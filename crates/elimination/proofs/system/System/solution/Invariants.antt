use Rattle.elimination.proofs.Systems.{From}
use Rattle.elimination.proofs.system.System.solution.Given as goal

-- The equations from j on are met.
abbrev pub invariant-loop-j : goal.invariant-loop-j
invariant-loop-j l = From l.self.equations l.unknowns l.j
