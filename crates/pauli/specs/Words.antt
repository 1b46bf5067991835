-- Words of letters: their sums, when they commute, and the syndrome of an error. Assumes nothing.
use Rattle.std.specs.Prelude.{◌≡◌, ℕ, suc, ◌%◌, Bool, true, false, cond, ◌&&◌, List, [], ◌∷◌, length, replicate, ◌==◌, slice_index_or}
use Rattle.pauli.specs.declared.letter.Letter.{Letter}
use Rattle.pauli.specs.declared.letter.Letter.TheVariants.{I}
use Rattle.pauli.specs.Letters.{clash, plus, is_I}

-- a letter at each place
abbrev pub Word : Type 0
Word = List Letter

-- whether a number is odd
abbrev pub odd : ℕ → Bool
odd n = n % 2 == 1

-- whether just one of two bits is set
abbrev pub xor : Bool → Bool → Bool
xor true true = false
xor true false = true
xor false b = b

-- place by place; a longer word's rest is dropped
abbrev pub add : Word → Word → Word
add [] [] = []
add [] (b ∷ v) = []
add (a ∷ w) [] = []
add (a ∷ w) (b ∷ v) = plus a b ∷ add w v

-- at how many places two words clash
abbrev pub clash_count : Word → Word → ℕ
clash_count [] [] = 0
clash_count [] (b ∷ v) = 0
clash_count (a ∷ w) [] = 0
clash_count (a ∷ w) (b ∷ v) = cond (clash a b) (suc (clash_count w v)) (clash_count w v)

-- the parity of their clashes: whether two words do not commute
abbrev pub star : Word → Word → Bool
star [] [] = false
star [] (b ∷ v) = false
star (a ∷ w) [] = false
star (a ∷ w) (b ∷ v) = xor (clash a b) (star w v)

-- the word of n letters I
abbrev pub blank : ℕ → Word
blank n = replicate n I

-- whether all letters are I
abbrev pub is_blank : Word → Bool
is_blank [] = true
is_blank (e ∷ w) = is_I e && is_blank w

-- the letter at an index from 0, and I past the end
abbrev pub at : ℕ → Word → Letter
at k w = slice_index_or w k I

-- each row has n letters
abbrev pub Long : ℕ → List Word → Type 0
Long n [] = Unit {0}
Long n (r ∷ rows) = (length r ≡ n) × Long n rows

-- the sum of the rows that the bits choose, n letters long
abbrev pub select : ℕ → List Bool → List Word → Word
select n [] [] = blank n
select n [] (r ∷ rows) = blank n
select n (k ∷ ks) [] = blank n
select n (k ∷ ks) (r ∷ rows) = cond k (add r (select n ks rows)) (select n ks rows)

-- a bit for each row: whether the error does not commute with it
abbrev pub syndrome : List Word → Word → List Bool
syndrome [] e = []
syndrome (r ∷ rows) e = star r e ∷ syndrome rows e
