-- The laws of words: a vector space over the two-element field, with a form on it. Assumes nothing.
use Rattle.std.specs.Prelude.{◌≡◌, ℕ, suc, Bool, true, false, cond, ◌&&◌, List, [], ◌∷◌, length, ◌≢◌}
use Rattle.pauli.specs.declared.letter.Letter.TheVariants.{I, X, Y, Z}
use Rattle.pauli.specs.Words.{Word, xor, odd, add, clash_count, star, blank, Long, select, syndrome}

-- a word added to another where the bit says so
abbrev pub add_if : Bool → Word → Word → Word
add_if k w v = cond k (add w v) v

-- one letter that clashes with the first letter of the word that is not I; blank for a blank word
abbrev pub spot : Word → Word
spot [] = []
spot (I ∷ w) = I ∷ spot w
spot (X ∷ w) = Z ∷ blank (length w)
spot (Y ∷ w) = X ∷ blank (length w)
spot (Z ∷ w) = X ∷ blank (length w)

-- the parity of the bits of the second list that the first chooses
abbrev pub chosen : List Bool → List Bool → Bool
chosen [] [] = false
chosen [] (s ∷ ss) = false
chosen (k ∷ ks) [] = false
chosen (k ∷ ks) (s ∷ ss) = xor (k && s) (chosen ks ss)

-- how many letters are not I
abbrev pub weight : Word → ℕ
weight [] = 0
weight (I ∷ w) = weight w
weight (X ∷ w) = suc (weight w)
weight (Y ∷ w) = suc (weight w)
weight (Z ∷ w) = suc (weight w)

-- words of one length are a vector space over the two-element field, and the parity of clashes is a form that only the blank word makes 0 throughout
pub record WordLaws : Type 0 where
  pub add_comm : (u v : Word) → add u v ≡ add v u
  pub add_assoc : (u v w : Word) → add (add u v) w ≡ add u (add v w)
  pub add_self : (w : Word) → add w w ≡ blank (length w)
  pub add-blank : (n : ℕ) (w : Word) → length w ≡ n → add (blank n) w ≡ w
  pub star_counts : (u v : Word) → star u v ≡ odd (clash_count u v)
  pub star_sym : (u v : Word) → star u v ≡ star v u
  pub star_self : (w : Word) → star w w ≡ false
  pub star-add : (u v w : Word) → length u ≡ length v → star (add u v) w ≡ xor (star u w) (star v w)
  pub star-add_right : (w u v : Word) → length u ≡ length v → star w (add u v) ≡ xor (star w u) (star w v)
  pub star-blank : (n : ℕ) (w : Word) → star (blank n) w ≡ false
  pub star-select :
      (n : ℕ) (ks : List Bool) (rows : List Word) (w : Word) → Long n rows
      → star (select n ks rows) w ≡ chosen ks (syndrome rows w)
  pub star_some :
      (w : Word) → (w ≢ blank (length w))
      → (d : Word) × (length d ≡ length w) × (weight d ≡ 1) × (star w d ≡ true)
