use Rattle.std.proofs.Common.{◌<◌, length, ap, rules, arith, ◌≡◌}
use Rattle.std.specs.Char.{is_ascii_whitespace}
use Rattle.numerals.proofs.Wording.{blanks_white, next_empty, next_last, next_more, none_in}
use Rattle.numerals.proofs.words.WordsIterator.next.Goals as goal

pub returns-then-is_empty-clause-steps : goal.returns-then-is_empty-clause-steps
returns-then-is_empty-clause-steps c =
    let t = c.trim_ascii_start-text.result.now in
    let none : length t ≡ 0 = search rules in
    (next_empty c.args.self.now.0.now t c.trim_ascii_start-text.ensures.value none, none_in t none)

pub returns-in-Some-clause-steps : goal.returns-in-Some-clause-steps
returns-in-Some-clause-steps c =
    let t = c.trim_ascii_start-text.result.now in
    let some : 0 < length t = search rules in
    let p = c.in-Some.ensures.cases in
    let found = p.2 is_ascii_whitespace blanks_white in
    (next_more c.args.self.now.0.now t c.in-Some.word.now c.in-Some.left.now p.0 p.1
    c.trim_ascii_start-text.ensures.value some found.0 found.1 p.3 p.4 p.5 p.6 p.7).0

pub returns-in-Some-clause-goes : goal.returns-in-Some-clause-goes
returns-in-Some-clause-goes c = let l = ap length (returns-in-Some-clause-steps c) in grind (arith, l)

pub returns-in-None-clause-steps : goal.returns-in-None-clause-steps
returns-in-None-clause-steps c =
    let t = c.trim_ascii_start-text.result.now in
    let some : 0 < length t = search rules in
    (next_last c.args.self.now.0.now t c.trim_ascii_start-text.ensures.value some (c.in-None.ensures.cases is_ascii_whitespace blanks_white)).0

pub returns-in-None-clause-goes : goal.returns-in-None-clause-goes
returns-in-None-clause-goes c = let l = ap length (returns-in-None-clause-steps c) in grind (arith, l)
