-- Letters told by whether they clash with X and with Z, and a mask read bit by bit. Assumes nothing.
use Rattle.std.proofs.Common.{◌≡◌, ℕ, suc, ◌/◌, ◌^◌, Bool, true, false, eqb, refl, ap, ◌∙◌, add-one}
use lib.Bits.{bit_and, and_mask}
use Rattle.std.proofs.lemmas.Nat.{shr-shr}
use Rattle.pauli.specs.declared.letter.Letter.{Letter}
use Rattle.pauli.specs.declared.letter.Letter.TheVariants.{I, X, Y, Z}
use Rattle.pauli.specs.Letters.{clash, plus}
use Rattle.pauli.specs.Words.{xor}
use Rattle.columns.specs.Masks.{bit}
use Rattle.columns.specs.Columns.{told}

pub told-plus : (a b c d : Bool) → plus (told a b) (told c d) ≡ told (xor a c) (xor b d)
told-plus true true true true = refl
told-plus true true true false = refl
told-plus true true false true = refl
told-plus true true false false = refl
told-plus true false true true = refl
told-plus true false true false = refl
told-plus true false false true = refl
told-plus true false false false = refl
told-plus false true true true = refl
told-plus false true true false = refl
told-plus false true false true = refl
told-plus false true false false = refl
told-plus false false true true = refl
told-plus false false true false = refl
told-plus false false false true = refl
told-plus false false false false = refl

pub told-clash : (a : Letter) → told (clash a X) (clash a Z) ≡ a
told-clash I = refl
told-clash X = refl
told-clash Y = refl
told-clash Z = refl

pub clash-told-X : (a b : Bool) → clash (told a b) X ≡ a
clash-told-X true true = refl
clash-told-X true false = refl
clash-told-X false true = refl
clash-told-X false false = refl

pub clash-told-Z : (a b : Bool) → clash (told a b) Z ≡ b
clash-told-Z true true = refl
clash-told-Z true false = refl
clash-told-Z false true = refl
clash-told-Z false false = refl

pub clash-told-Y : (a b : Bool) → clash (told a b) Y ≡ xor a b
clash-told-Y true true = refl
clash-told-Y true false = refl
clash-told-Y false true = refl
clash-told-Y false false = refl

pub clash-told-I : (a b : Bool) → clash (told a b) I ≡ false
clash-told-I true true = refl
clash-told-I true false = refl
clash-told-I false true = refl
clash-told-I false false = refl

pub shift : (m j : ℕ) → m / 2 ^ j / 2 ≡ m / 2 ^ suc j
shift m j = shr-shr m j 1 ∙ ap (λ (n : ℕ). m / 2 ^ n) (add-one j)

pub read-bit : (j n : ℕ) → eqb (bit_and (n / 2 ^ j) 1) 1 ≡ bit j n
read-bit j n = ap (λ k. eqb k 1) (and_mask (n / 2 ^ j) 1)
