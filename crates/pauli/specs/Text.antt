-- Words as text: the first fault of a text, the table of letters that it spells, and the text of a table. Assumes nothing.
use Rattle.std.specs.Prelude.{◌≡◌, ℕ, suc, ◌+◌, ◌-◌, ◌<◌, min, Bool, true, false, cond, List, [], ◌∷◌, ◌++◌, map, length, take, drop, replicate, Some, None, Option, Result, MatchResult, ◌==◌, nat_le, slice_index}
use Rattle.std.specs.Option.{option_map, unwrap_or}
use Rattle.pauli.specs.declared.letters.Letters.{Letters}
use Rattle.pauli.specs.declared.text.NoWord.{NoWord}
use Rattle.pauli.specs.declared.letter.Letter.{Letter}
use Rattle.pauli.specs.declared.letter.Letter.TheVariants.{I, X, Y, Z}
use Rattle.pauli.specs.Letters.{letter, number}
use Rattle.pauli.specs.Limits.{max_places}
use Rattle.pauli.specs.Words.{Word}

-- the letter that a byte names: 'I' is 73, 'X' 88, 'Y' 89, 'Z' 90
abbrev pub named : ℕ → Option Letter
named b = cond (b == 73) (Some I) (cond (b == 88) (Some X) (cond (b == 89) (Some Y) (cond (b == 90) (Some Z) None)))

-- the byte that names a letter
abbrev pub spelled : Letter → ℕ
spelled I = 73
spelled X = 88
spelled Y = 89
spelled Z = 90

-- whether nothing is named
abbrev pub unread : Option Letter → Bool
unread None = true
unread (Some e) = false

-- whether a byte names no letter
abbrev pub is_fault : ℕ → Bool
is_fault b = unread (named b)

-- the place, from 1, of the first true
abbrev pub first : List Bool → Option ℕ
first [] = None
first (true ∷ bs) = Some 1
first (false ∷ bs) = option_map suc (first bs)

-- the first place at which a text is no word: no letter stands there, or there are too many
abbrev pub fault : List ℕ → Option ℕ
fault text = cond (nat_le (length text) max_places) (first (map is_fault text)) (Some (max_places + 1))

-- the word that a text spells; a byte that is no letter counts as I
abbrev pub word_of : List ℕ → Word
word_of text = map (λ b. unwrap_or (named b) I) text

-- the word that letter numbers stand for
abbrev pub letters_of : List ℕ → Word
letters_of numbers = map letter numbers

-- a table that begins with these numbers, and has 0 at the places after them
abbrev pub padded : List ℕ → List ℕ
padded numbers = numbers ++ replicate (max_places - length numbers) 0

-- the table of the letters that a text spells
abbrev pub numbers_of : List ℕ → List ℕ
numbers_of text = padded (map number (word_of text))

-- a text is a word, and a table has its letters
pub record Read (text numbers : List ℕ) : Type 0 where
  pub none : fault text ≡ None
  pub numbers_are : numbers ≡ numbers_of text

-- what reading a text answers: its letters, or the first place at which it is no word
abbrev pub Reading : List ℕ → Result Letters NoWord → Type 0
Reading text answer = MatchResult answer (λ word. Read text word.numbers) (λ e. fault text ≡ Some e.place)

-- each number of a table stands for a letter of its own: none is above 3
abbrev pub Lettered : List ℕ → Type 0
Lettered numbers = (k : ℕ) → slice_index numbers k < 4

-- the text of letter numbers
abbrev pub text_of : List ℕ → List ℕ
text_of numbers = map (λ n. spelled (letter n)) numbers

-- an output with the text of a table written over its front, as many letters as there is room for
unfoldable pub written : List ℕ → List ℕ → List ℕ
written numbers output = let n : ℕ = min (length output) max_places in text_of (take n numbers) ++ drop n output
