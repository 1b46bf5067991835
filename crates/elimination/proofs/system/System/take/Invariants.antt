use Rattle.elimination.proofs.Systems.{Left}
use Rattle.elimination.proofs.system.System.take.Given as goal

-- What is left of the equation is at j.
abbrev pub invariant-loop-j : goal.invariant-loop-j
invariant-loop-j l = Left l.fn.equation l.fn.self.equations l.j l.rest
