use Rattle.std.proofs.Common.{◌≡◌, take}
use Rattle.pauli.specs.Text.{letters_of}
use Rattle.columns.specs.Columns.{with_row}
use Rattle.columns.proofs.table.Columns.put_row.Given as goal

abbrev pub invariant-loop-i : goal.invariant-loop-i
invariant-loop-i l = l.self.table ≡ with_row l.row (letters_of (take l.i l.word)) l.initial.self.table
