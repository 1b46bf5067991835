use Rattle.pauli.proofs.Reading.{Spelling}
use Rattle.pauli.proofs.text.spell.Given as goal

abbrev pub invariant-loop-i : goal.invariant-loop-i
invariant-loop-i l = Spelling l.text l.i l.word.numbers
