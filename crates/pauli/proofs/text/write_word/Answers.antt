use Rattle.std.proofs.Common.{◌≡◌, ◌++◌, drop, arith}
use Rattle.pauli.specs.Text.{written}
use Rattle.pauli.proofs.Writing.{writing_law, none_written, all_written, written_back}
use Rattle.pauli.proofs.text.write_word.Goals as goal

pub loop-i-init : goal.loop-i-init
loop-i-init c = (none_written _ _, writing_law)

pub returns : goal.returns
returns c =
    let numbers = c.args.word.now.numbers in
    let output = c.args.output.now in
    let room = c.min-room.result in
    let bytes : c.loop-i.byte-items ++ drop room output ≡ written numbers output =
    all_written numbers output c.loop-i.byte-items room c.loop-i.i (omega arith) (omega arith) c.loop-i.invariant.0 in
    record { bytes = bytes; back = written_back numbers output (c.loop-i.byte-items ++ drop room output) bytes }
