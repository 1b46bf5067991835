-- Rows kept by columns: at each place the set of rows that clash there with X, and the set that clash with Z.
-- A set of rows is a mask whose bit j stands for row j, from 0. Assumes nothing.
use Rattle.std.specs.Prelude.{ℕ, zero, suc, ◌^◌, ◌<◌, Bool, true, false, cond, ◌&&◌, List, [], ◌∷◌, map, bit_xor, ◌==◌, slice_index_or}
use Rattle.std.specs.Cmp.Lexicographic.{pointwise}
use Rattle.pauli.specs.declared.letter.Letter.{Letter}
use Rattle.pauli.specs.declared.letter.Letter.TheVariants.{I, X, Y, Z}
use Rattle.pauli.specs.Letters.{clash}
use Rattle.pauli.specs.Words.{Word}
use Rattle.columns.specs.Masks.{bit}
use Rattle.columns.specs.declared.column.Column.{Column}

-- the letter that clashes with X just if the first is true, and with Z just if the second is
abbrev pub told : Bool → Bool → Letter
told false false = I
told false true = X
told true true = Y
told true false = Z

-- the letter of row j in a column
abbrev pub letter_in : ℕ → Column → Letter
letter_in j c = told (bit j c.x) (bit j c.z)

-- row j
abbrev pub row : ℕ → List Column → Word
row j columns = map (letter_in j) columns

-- so many rows from row j on
unfoldable pub rows_from : ℕ → ℕ → List Column → List Word
rows_from j zero columns = []
rows_from j (suc r) columns = row j columns ∷ rows_from (suc j) r columns

-- the first r rows
abbrev pub rows : ℕ → List Column → List Word
rows r columns = rows_from 0 r columns

-- the rows that clash with a letter
abbrev pub against : Letter → Column → ℕ
against I c = 0
against X c = c.x
against Y c = bit_xor c.x c.z
against Z c = c.z

-- the rows that clash with a word at an odd number of places
unfoldable pub clashes : Word → List Column → ℕ
clashes [] [] = 0
clashes [] (c ∷ columns) = 0
clashes (e ∷ w) [] = 0
clashes (e ∷ w) (c ∷ columns) = bit_xor (against e c) (clashes w columns)

-- bit j turned over, if so said
abbrev pub turned : Bool → ℕ → ℕ → ℕ
turned b j m = cond b (bit_xor m (2 ^ j)) m

-- a column with a letter put into row j, which was I
abbrev pub marked : ℕ → Letter → Column → Column
marked j e c = record { x = turned (clash e X) j c.x; z = turned (clash e Z) j c.z }

-- a table with a word put into row j
unfoldable pub with_row : ℕ → Word → List Column → List Column
with_row j [] columns = columns
with_row j (e ∷ w) [] = []
with_row j (e ∷ w) (c ∷ columns) = marked j e c ∷ with_row j w columns

-- whether two tables have the same columns, place by place
abbrev pub same_columns : List Column → List Column → Bool
same_columns a b = pointwise (λ c d. (c.x == d.x) && (c.z == d.z)) a b

-- no row has a letter
abbrev pub hollow : Column
hollow = record { x = 0; z = 0 }

-- the columns have bits for the first r rows only
abbrev pub Within : ℕ → List Column → Type 0
Within r columns = (q : ℕ) → ((slice_index_or columns q hollow).x < 2 ^ r) × ((slice_index_or columns q hollow).z < 2 ^ r)
