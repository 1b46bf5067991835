use Rattle.std.proofs.Common.{◌≡◌, length, take}
use Rattle.pauli.specs.Text.{letters_of}
use Rattle.columns.specs.Columns.{clashes}
use Rattle.columns.proofs.table.Columns.clashes.Given as goal

abbrev pub invariant-loop-column : goal.invariant-loop-column
invariant-loop-column l = l.odd ≡ clashes (letters_of (take (length l.yielded) l.word)) (take (length l.yielded) l.self.table)
