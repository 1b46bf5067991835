use Rattle.std.proofs.Common.{◌≡◌, ℕ, ◌<◌, get_or}
use Rattle.columns.specs.Columns.{hollow}
use Rattle.columns.proofs.table.ColumnsPartialEq.eq.Given as goal

abbrev pub invariant-loop-i : goal.invariant-loop-i
invariant-loop-i l = (k : ℕ) → k < l.i → get_or l.self.table k hollow ≡ get_or l.other.table k hollow
