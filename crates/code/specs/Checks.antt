-- What the checks inside hand to each other. Assumes nothing.
use Rattle.std.specs.Prelude.{◌≡◌, ℕ, ◌<◌, Bool, false, List, [], length, Some, None, Result, MatchResult, ◌≢◌, slice_index_or}
use Rattle.pauli.specs.declared.letters.Letters.{Letters}
use Rattle.pauli.specs.Limits.{max_rows}
use Rattle.pauli.specs.Words.{Word, star, select}
use Rattle.pauli.specs.Text.{word_of}
use Rattle.code.specs.declared.code.Code.{Code}
use Rattle.answers.specs.declared.refusal.Refusal.{Refusal}
use Rattle.code.specs.Codes.{places_of, rows_of, front}
use Rattle.code.specs.Refusals.{text_refusal, row_refusal}

-- the word of a code's length in a table of letters
abbrev pub word_in : Code → Letters → Word
word_in code word = front (places_of code) word.numbers

-- a text of n letters, and a table with their numbers
pub record Spelt (n : ℕ) (text numbers : List ℕ) : Type 0 where
  pub long : length text ≡ n
  pub wide : length (front n numbers) ≡ n
  pub none : text_refusal n text ≡ None
  pub read : front n numbers ≡ word_of text

-- a word that can be put after the rows
pub record Fits (n : ℕ) (rows : List Word) (w : Word) : Type 0 where
  pub room : length rows < max_rows
  pub long : length w ≡ n
  pub commutes : (i : ℕ) → star (slice_index_or rows i []) w ≡ false
  pub new : (ks : List Bool) → select n ks rows ≢ w

-- a row's text that is not refused, and a table with its letters' numbers
pub record Passed (n : ℕ) (rows : List Word) (text numbers : List ℕ) : Type 0 where
  pub fits : Fits n rows (front n numbers)
  pub read : front n numbers ≡ word_of text
  pub none : row_refusal n rows text ≡ None

-- what spelling a text answers: its letters, or why it is no word of the code's length
abbrev pub SpeltOr : Code → List ℕ → Result Letters Refusal → Type 0
SpeltOr code text r = MatchResult r (λ w. Spelt (places_of code) text w.numbers) (λ e. text_refusal (places_of code) text ≡ Some e)

-- what checking a row answers: its letters, which fit, or why it is refused
abbrev pub PassedOr : Code → List ℕ → Result Letters Refusal → Type 0
PassedOr code text r =
    MatchResult r (λ w. Passed (places_of code) (rows_of code) text w.numbers) (λ e. row_refusal (places_of code) (rows_of code) text ≡ Some e)
