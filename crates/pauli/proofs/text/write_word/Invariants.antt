use Rattle.std.proofs.Common.{◌≡◌}
use Rattle.pauli.proofs.Writing.{over, WritingLaw}
use Rattle.pauli.proofs.text.write_word.Given as goal

abbrev pub invariant-loop-i : goal.invariant-loop-i
invariant-loop-i l = (l.byte-items ≡ over l.i l.word.numbers l.initial.byte-items) × WritingLaw
