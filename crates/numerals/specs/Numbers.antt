-- The numbers that a text writes. Assumes nothing.
use Rattle.std.specs.Prelude.{ℕ, ◌^◌, Bool, true, false, cond, ◌&&◌, List, [], ◌∷◌, ◌++◌, map, replicate, Some, None, Option, nat_lt}
use Rattle.std.specs.Option.{option_map}
use Rattle.std.specs.Str.Parse.{digits_value, without_leading_plus}
use Rattle.std.specs.Char.{is_ascii_whitespace}
use Rattle.std.specs.Str.{all_ascii_digits}
use Rattle.pauli.specs.Limits.{max_places}
use Rattle.pauli.specs.Tables.{put}
use Rattle.measure.specs.Measures.{as_sum}
use Rattle.measure.specs.declared.sum.Sum.{Sum}

-- a word in front of others, unless it is empty
abbrev pub in_front : List ℕ → List (List ℕ) → List (List ℕ)
in_front [] ws = ws
in_front (b ∷ w) ws = (b ∷ w) ∷ ws

-- the words of a text that goes on from the front of a word
abbrev pub words_from : List ℕ → List ℕ → List (List ℕ)
words_from w [] = in_front w []
words_from w (b ∷ bs) = cond (is_ascii_whitespace b) (in_front w (words_from [] bs)) (words_from (w ++ (b ∷ [])) bs)

-- the words of a text: what stands between its white space
unfoldable pub words_in : List ℕ → List (List ℕ)
words_in text = words_from [] text

-- the number that decimal digits write: there is at least one, nothing else is among them, and the number fits so many bits
abbrev pub digits_number : ℕ → List ℕ → Option ℕ
digits_number bits [] = None
digits_number bits (d ∷ ds) = cond (all_ascii_digits (d ∷ ds) && nat_lt (digits_value 10 (d ∷ ds)) (2 ^ bits)) (Some (digits_value 10 (d ∷ ds))) None

-- the number that a word writes in decimal digits, a plus in front or not
unfoldable pub number_in : ℕ → List ℕ → Option ℕ
number_in bits word = digits_number bits (without_leading_plus word)

-- a number in front of others, if it and they are there
abbrev pub together : Option ℕ → Option (List ℕ) → Option (List ℕ)
together None ns = None
together (Some n) ns = option_map (λ l. n ∷ l) ns

-- the number of each word, if each writes one
abbrev pub numbers_in : ℕ → List (List ℕ) → Option (List ℕ)
numbers_in bits [] = Some []
numbers_in bits (w ∷ ws) = together (number_in bits w) (numbers_in bits ws)

-- the prices that a text writes, each of 32 bits
unfoldable pub prices_in : List ℕ → Option (List Sum)
prices_in text = option_map (map as_sum) (numbers_in 32 (words_in text))

-- marks with these places, from 1, marked too
abbrev pub marked : List Bool → List ℕ → List Bool
marked marks [] = marks
marked marks (p ∷ ps) = marked (put marks p true) ps

-- the marks at the places that a text writes, and at no others
unfoldable pub marks_in : List ℕ → Option (List Bool)
marks_in text = option_map (marked (replicate max_places false)) (numbers_in 64 (words_in text))
