-- What is refused, in order. Assumes nothing.
use Rattle.std.specs.Prelude.{ℕ, ◌+◌, Bool, true, false, not, List, length, Some, None, Ok, Err, Option, Result, ◌==◌, nat_le}
use Rattle.std.specs.Option.{option_map}
use Rattle.pauli.specs.Limits.{max_places, max_rows}
use Rattle.pauli.specs.Words.{Word, syndrome}
use Rattle.pauli.specs.Text.{fault, first, word_of}
use Rattle.independence.specs.Pivots.{is_sum}
use Rattle.answers.specs.declared.refusal.Refusal.{Refusal}
use Rattle.answers.specs.declared.refusal.Refusal.TheVariants.{Places, Full, Length, NoLetter, Clash, Sum}

-- the earlier refusal, or where there is none the later
abbrev pub or_else : Option Refusal → Option Refusal → Option Refusal
or_else None later = later
or_else (Some e) later = Some e

-- a refusal where the test holds
abbrev pub refused_if : Bool → Refusal → Option Refusal
refused_if true e = Some e
refused_if false e = None

-- the answer of a call that hands out nothing
abbrev pub verdict : Option Refusal → Result (Unit {0}) Refusal
verdict None = Ok tt
verdict (Some e) = Err e

-- why there is no code of n places
abbrev pub begin_refusal : ℕ → Option Refusal
begin_refusal n = or_else (refused_if (n == 0) (Places n)) (refused_if (nat_le (max_places + 1) n) (Places n))

-- why there is no room for a row after these
abbrev pub full_refusal : List Word → Option Refusal
full_refusal rows = refused_if (nat_le max_rows (length rows)) (Full max_rows)

-- why a text is no word of n letters
abbrev pub text_refusal : ℕ → List ℕ → Option Refusal
text_refusal n text = or_else (refused_if (not (length text == n)) (Length (length text))) (option_map NoLetter (fault text))

-- the lowest row that a word does not commute with
abbrev pub clash_refusal : List Word → Word → Option Refusal
clash_refusal rows w = option_map Clash (first (syndrome rows w))

-- why a word is nothing new: it is a sum of the rows
abbrev pub sum_refusal : List Word → Word → Option Refusal
sum_refusal rows w = refused_if (is_sum rows w) (Sum (length rows + 1))

-- why a text is no row after these rows of n letters: the order of refusals
unfoldable pub row_refusal : ℕ → List Word → List ℕ → Option Refusal
row_refusal n rows text =
    or_else (full_refusal rows)
    (or_else (text_refusal n text)
    (or_else (clash_refusal rows (word_of text))
    (sum_refusal rows (word_of text))))
