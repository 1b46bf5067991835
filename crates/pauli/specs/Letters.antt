-- The four letters of the Pauli group without phases: the code's own enum. Assumes nothing.
use Rattle.std.specs.Prelude.{ℕ, zero, suc, Bool, true, false, not, ◌&&◌, ◌==◌}
use Rattle.pauli.specs.declared.letter.Letter.{Letter}
use Rattle.pauli.specs.declared.letter.Letter.TheVariants.{I, X, Y, Z}

-- a letter's number
abbrev pub number : Letter → ℕ
number I = 0
number X = 1
number Y = 2
number Z = 3

-- the letter of a number; numbers above 3 count as Z
abbrev pub letter : ℕ → Letter
letter zero = I
letter (suc zero) = X
letter (suc (suc zero)) = Y
letter (suc (suc (suc n))) = Z

-- whether a letter is I
abbrev pub is_I : Letter → Bool
is_I I = true
is_I X = false
is_I Y = false
is_I Z = false

-- whether two letters are the same
abbrev pub same : Letter → Letter → Bool
same a b = number a == number b

-- letters clash if both are other than I and they are not the same
abbrev pub clash : Letter → Letter → Bool
clash a b = not (is_I a) && (not (is_I b) && not (same a b))

-- I adds nothing, a letter and itself make I, and any other two make the third
abbrev pub plus : Letter → Letter → Letter
plus I b = b
plus X I = X
plus X X = I
plus X Y = Z
plus X Z = Y
plus Y I = Y
plus Y X = Z
plus Y Y = I
plus Y Z = X
plus Z I = Z
plus Z X = Y
plus Z Y = X
plus Z Z = I
