-- The laws of sums and commutation of words. Assumes nothing.
use Rattle.std.proofs.Common.{◌≡◌, ℕ, zero, suc, ◌%◌, ◌<◌, ◌≤◌, Bool, true, false, cond, not, ◌&&◌, eqb, List, [], ◌∷◌, length, sym, refl, ap, ◌∙◌, ap₂, arith}
use lib.ListN.{length-replicate}
use Rattle.pauli.specs.declared.letter.Letter.{Letter}
use Rattle.pauli.specs.declared.letter.Letter.TheVariants.{I, X, Y, Z}
use Rattle.pauli.specs.Letters.{clash, plus}
use Rattle.pauli.specs.Words.{Word, odd, xor, add, at, clash_count, star, blank, is_blank, Long, select, syndrome}
use Rattle.pauli.specs.Laws.{add_if, spot, chosen, weight, WordLaws}
use Rattle.pauli.proofs.LetterLaws.{plus_comm, plus_assoc, plus_self, plus-I, clash_sym, clash-I, clash-plus}

-- Lists

pub heads : {A : Type 0} (a b : A) (v w : List A) → a ∷ v ≡ b ∷ w → a ≡ b
heads a b v w e = cc

pub tails : {A : Type 0} (a b : A) (v w : List A) → a ∷ v ≡ b ∷ w → v ≡ w
tails a b v w e = cc

-- Bits

pub xor-false : (a : Bool) → xor a false ≡ a
xor-false true = refl
xor-false false = refl

pub xor_self : (a : Bool) → xor a a ≡ false
xor_self true = refl
xor_self false = refl

pub xor_comm : (a b : Bool) → xor a b ≡ xor b a
xor_comm true true = refl
xor_comm true false = refl
xor_comm false true = refl
xor_comm false false = refl

pub xor_assoc : (a b c : Bool) → xor (xor a b) c ≡ xor a (xor b c)
xor_assoc true true true = refl
xor_assoc true true false = refl
xor_assoc true false c = refl
xor_assoc false b c = refl

-- four bits, the middle two in the other order
pub xor_swap : (a b c d : Bool) → xor (xor a b) (xor c d) ≡ xor (xor a c) (xor b d)
xor_swap a b c d =
    xor_assoc a b (xor c d)
    ∙ (ap (λ x. xor a x) (sym (xor_assoc b c d) ∙ (ap (λ x. xor x d) (xor_comm b c) ∙ xor_assoc c b d))
    ∙ sym (xor_assoc a c (xor b d)))

-- Sums

pub add_comm : (u v : Word) → add u v ≡ add v u
add_comm [] [] = refl
add_comm [] (b ∷ v) = refl
add_comm (a ∷ u) [] = refl
add_comm (a ∷ u) (b ∷ v) = ap₂ ◌∷◌ (plus_comm a b) (add_comm u v)

pub add_assoc : (u v w : Word) → add (add u v) w ≡ add u (add v w)
add_assoc [] [] [] = refl
add_assoc [] [] (c ∷ w) = refl
add_assoc [] (b ∷ v) [] = refl
add_assoc [] (b ∷ v) (c ∷ w) = refl
add_assoc (a ∷ u) [] [] = refl
add_assoc (a ∷ u) [] (c ∷ w) = refl
add_assoc (a ∷ u) (b ∷ v) [] = refl
add_assoc (a ∷ u) (b ∷ v) (c ∷ w) = ap₂ ◌∷◌ (plus_assoc a b c) (add_assoc u v w)

pub add_self : (w : Word) → add w w ≡ blank (length w)
add_self [] = refl
add_self (a ∷ w) = ap₂ ◌∷◌ (plus_self a) (add_self w)

add-blank_own : (w : Word) → add (blank (length w)) w ≡ w
add-blank_own [] = refl
add-blank_own (a ∷ w) = ap₂ ◌∷◌ (plus-I a) (add-blank_own w)

pub add-blank : (n : ℕ) (w : Word) → length w ≡ n → add (blank n) w ≡ w
add-blank n w h = rw (← h) (add-blank_own w)

pub length-blank : (n : ℕ) → length (blank n) ≡ n
length-blank n = length-replicate n I

pub length-add : (n : ℕ) (u v : Word) → length u ≡ n → length v ≡ n → length (add u v) ≡ n
length-add n [] [] hu hv = hu
length-add n [] (b ∷ v) hu hv = hu
length-add n (a ∷ u) [] hu hv = hv
length-add zero (a ∷ u) (b ∷ v) hu hv = absurd (omega arith)
length-add (suc n) (a ∷ u) (b ∷ v) hu hv = ap suc (length-add n u v (omega arith) (omega arith))

-- the letter of a sum
pub at-add : (u v : Word) (k : ℕ) → k < length u → k < length v → at k (add u v) ≡ plus (at k u) (at k v)
at-add [] v k h i = absurd (omega arith)
at-add (a ∷ u) [] k h i = absurd (omega arith)
at-add (a ∷ u) (b ∷ v) zero h i = refl
at-add (a ∷ u) (b ∷ v) (suc k) h i = at-add u v k (omega arith) (omega arith)

-- the sum with a longer word is as long as the word
pub length-sum : (u v : Word) → length u ≤ length v → length u ≡ length (add u v)
length-sum [] [] h = refl
length-sum [] (b ∷ v) h = refl
length-sum (a ∷ u) [] h = absurd (omega arith)
length-sum (a ∷ u) (b ∷ v) h = ap suc (length-sum u v (omega arith))

-- Commutation

xor-true : (b : Bool) → xor true b ≡ not b
xor-true true = refl
xor-true false = refl

odd-suc : (n : ℕ) → odd (suc n) ≡ not (odd n)
odd-suc zero = refl
odd-suc (suc n) = ap (λ r. eqb r 1) (let e : suc (suc n) % 2 ≡ n % 2 = omega arith in e) ∙ (sym (not-not (odd n)) ∙ ap not (sym (odd-suc n)))
  where
    not-not : (b : Bool) → not (not b) ≡ b
    not-not true = refl
    not-not false = refl

pub star_counts : (u v : Word) → star u v ≡ odd (clash_count u v)
star_counts [] [] = refl
star_counts [] (b ∷ v) = refl
star_counts (a ∷ u) [] = refl
star_counts (a ∷ u) (b ∷ v) = ap (λ x. xor (clash a b) x) (star_counts u v) ∙ go (clash a b)
  where
    go : (c : Bool) → xor c (odd (clash_count u v)) ≡ odd (cond c (suc (clash_count u v)) (clash_count u v))
    go true = xor-true (odd (clash_count u v)) ∙ sym (odd-suc (clash_count u v))
    go false = refl

pub star_sym : (u v : Word) → star u v ≡ star v u
star_sym [] [] = refl
star_sym [] (b ∷ v) = refl
star_sym (a ∷ u) [] = refl
star_sym (a ∷ u) (b ∷ v) = ap₂ xor (clash_sym a b) (star_sym u v)

pub star-none : (w : Word) → star [] w ≡ false
star-none [] = refl
star-none (a ∷ w) = refl

pub star-add : (u v w : Word) → length u ≡ length v → star (add u v) w ≡ xor (star u w) (star v w)
star-add [] [] w h = star-none w ∙ ap₂ xor (sym (star-none w)) (sym (star-none w))
star-add [] (b ∷ v) w h = absurd (omega arith)
star-add (a ∷ u) [] w h = absurd (omega arith)
star-add (a ∷ u) (b ∷ v) [] h = refl
star-add (a ∷ u) (b ∷ v) (c ∷ w) h =
    ap₂ xor (clash-plus a b c) (star-add u v w (omega arith)) ∙ xor_swap (clash a c) (clash b c) (star u w) (star v w)

pub star-add_right : (w u v : Word) → length u ≡ length v → star w (add u v) ≡ xor (star w u) (star w v)
star-add_right w u v h = star_sym w (add u v) ∙ (star-add u v w h ∙ ap₂ xor (star_sym u w) (star_sym v w))

clash_self : (a : Letter) → clash a a ≡ false
clash_self I = refl
clash_self X = refl
clash_self Y = refl
clash_self Z = refl

pub star_self : (w : Word) → star w w ≡ false
star_self [] = refl
star_self (a ∷ w) = ap₂ xor (clash_self a) (star_self w)

pub star-blank : (n : ℕ) (w : Word) → star (blank n) w ≡ false
star-blank zero w = star-none w
star-blank (suc n) [] = refl
star-blank (suc n) (a ∷ w) = ap₂ xor (clash-I a) (star-blank n w)

pub star-blank_right : (n : ℕ) (w : Word) → star w (blank n) ≡ false
star-blank_right n w = star_sym w (blank n) ∙ star-blank n w

-- A word added where a bit says so

pub length-add_if : (n : ℕ) (k : Bool) (u v : Word) → length u ≡ n → length v ≡ n → length (add_if k u v) ≡ n
length-add_if n true u v hu hv = length-add n u v hu hv
length-add_if n false u v hu hv = hv

pub star-add_if : (n : ℕ) (k : Bool) (u v w : Word) → length u ≡ n → length v ≡ n → star (add_if k u v) w ≡ xor (k && star u w) (star v w)
star-add_if n true u v w hu hv = star-add u v w (hu ∙ sym hv)
star-add_if n false u v w hu hv = refl

pub star-add_if_right : (n : ℕ) (k : Bool) (w u v : Word) → length u ≡ n → length v ≡ n → star w (add_if k u v) ≡ xor (k && star w u) (star w v)
star-add_if_right n true w u v hu hv = star-add_right w u v (hu ∙ sym hv)
star-add_if_right n false w u v hu hv = refl

-- Sums of chosen rows

pub length-select : (n : ℕ) (ks : List Bool) (rows : List Word) → Long n rows → length (select n ks rows) ≡ n
length-select n [] [] h = length-blank n
length-select n [] (r ∷ rows) h = length-blank n
length-select n (k ∷ ks) [] h = length-blank n
length-select n (k ∷ ks) (r ∷ rows) h = length-add_if n k r (select n ks rows) h.0 (length-select n ks rows h.1)

pub star-select : (n : ℕ) (ks : List Bool) (rows : List Word) (w : Word) → Long n rows → star (select n ks rows) w ≡ chosen ks (syndrome rows w)
star-select n [] [] w h = star-blank n w
star-select n [] (r ∷ rows) w h = star-blank n w
star-select n (k ∷ ks) [] w h = star-blank n w
star-select n (k ∷ ks) (r ∷ rows) w h =
    star-add_if n k r (select n ks rows) w h.0 (length-select n ks rows h.1)
    ∙ ap (λ x. xor (k && star r w) x) (star-select n ks rows w h.1)

-- A word that is not blank

pub is_blank_is : (w : Word) → is_blank w ≡ true → w ≡ blank (length w)
is_blank_is [] h = refl
is_blank_is (I ∷ w) h = ap (λ v. I ∷ v) (is_blank_is w h)
is_blank_is (X ∷ w) h = cc
is_blank_is (Y ∷ w) h = cc
is_blank_is (Z ∷ w) h = cc

pub is_blank-blank : (n : ℕ) → is_blank (blank n) ≡ true
is_blank-blank zero = refl
is_blank-blank (suc n) = is_blank-blank n

pub length-spot : (w : Word) → length (spot w) ≡ length w
length-spot [] = refl
length-spot (I ∷ w) = ap suc (length-spot w)
length-spot (X ∷ w) = ap suc (length-blank (length w))
length-spot (Y ∷ w) = ap suc (length-blank (length w))
length-spot (Z ∷ w) = ap suc (length-blank (length w))

pub star-spot : (w : Word) → is_blank w ≡ false → star w (spot w) ≡ true
star-spot [] h = sym h
star-spot (I ∷ w) h = star-spot w h
star-spot (X ∷ w) h = ap (λ b. xor true b) (star-blank_right (length w) w)
star-spot (Y ∷ w) h = ap (λ b. xor true b) (star-blank_right (length w) w)
star-spot (Z ∷ w) h = ap (λ b. xor true b) (star-blank_right (length w) w)

weight-blank : (n : ℕ) → weight (blank n) ≡ 0
weight-blank zero = refl
weight-blank (suc n) = weight-blank n

weight-spot : (w : Word) → is_blank w ≡ false → weight (spot w) ≡ 1
weight-spot [] h = cc
weight-spot (I ∷ w) h = weight-spot w h
weight-spot (X ∷ w) h = ap suc (weight-blank (length w))
weight-spot (Y ∷ w) h = ap suc (weight-blank (length w))
weight-spot (Z ∷ w) h = ap suc (weight-blank (length w))

not-blank : (w : Word) → (w ≡ blank (length w) → ⊥) → is_blank w ≡ false
not-blank w h = go (is_blank w) refl
  where
    go : (b : Bool) → is_blank w ≡ b → is_blank w ≡ false
    go true e = absurd (h (is_blank_is w e))
    go false e = e

star_some : (w : Word) → (w ≡ blank (length w) → ⊥) → (d : Word) × (length d ≡ length w) × (weight d ≡ 1) × (star w d ≡ true)
star_some w h = let b = not-blank w h in (spot w, length-spot w, weight-spot w b, star-spot w b)

pub word_laws : WordLaws
word_laws =
    record {
      add_comm = add_comm;
      add_assoc = add_assoc;
      add_self = add_self;
      add-blank = add-blank;
      star_counts = star_counts;
      star_sym = star_sym;
      star_self = star_self;
      star-add = star-add;
      star-add_right = star-add_right;
      star-blank = star-blank;
      star-select = star-select;
      star_some = star_some;
    }
