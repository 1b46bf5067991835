-- What each call answers and leaves. Assumes nothing.
use Rattle.std.specs.Prelude.{◌≡◌, ℕ, true, false, List, [], ◌∷◌, ◌++◌, is_ok, Some, None, Result, MatchResult}
use Rattle.pauli.specs.Words.{syndrome}
use Rattle.pauli.specs.Text.{word_of}
use Rattle.code.specs.declared.code.Code.{Code}
use Rattle.answers.specs.declared.refusal.Refusal.{Refusal}
use Rattle.answers.specs.declared.syndrome.Syndrome.{Syndrome}
use Rattle.answers.specs.Syndromes.{bits_of}
use Rattle.code.specs.Codes.{places_of, rows_of}
use Rattle.code.specs.Refusals.{verdict, begin_refusal, text_refusal, row_refusal}
use Rattle.code.specs.Meanings.{Means}

-- begin with n places: a code without rows, or a refusal that leaves the code as it was
pub record Begun (n : ℕ) (before : Code) (r : Result (Unit {0}) Refusal) (after : Code) : Type 0 where
  pub answer : r ≡ verdict (begin_refusal n)
  pub places : is_ok r ≡ true → places_of after ≡ n
  pub rows : is_ok r ≡ true → rows_of after ≡ []
  pub kept : is_ok r ≡ false → after ≡ before

-- add row: the rows before and then this word, or a refusal that leaves the code as it was; and what that refusal, or none, means
pub record Added (text : List ℕ) (before : Code) (r : Result (Unit {0}) Refusal) (after : Code) : Type 0 where
  pub answer : r ≡ verdict (row_refusal (places_of before) (rows_of before) text)
  pub means : Means (places_of before) (rows_of before) text (row_refusal (places_of before) (rows_of before) text)
  pub places : places_of after ≡ places_of before
  pub rows : is_ok r ≡ true → rows_of after ≡ rows_of before ++ word_of text ∷ []
  pub kept : is_ok r ≡ false → after ≡ before

-- the syndrome of an error: a bit for each row, or why the text is no word of the code's length
abbrev pub Told : Code → List ℕ → Result Syndrome Refusal → Type 0
Told code text r =
    MatchResult r
    (λ s. (text_refusal (places_of code) text ≡ None) × (bits_of s ≡ syndrome (rows_of code) (word_of text)))
    (λ e. text_refusal (places_of code) text ≡ Some e)
