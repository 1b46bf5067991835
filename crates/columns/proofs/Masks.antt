-- Masks as lists of bits: what xor, and, and a single bit come to. Assumes nothing.
use Rattle.std.proofs.Common.{◌≡◌, ℕ, zero, suc, ◌+◌, ◌*◌, ◌/◌, ◌%◌, ◌^◌, ◌<◌, ◌≤◌, Bool, true, false, ◌&&◌, eqb, ◌⊎◌, List, [], ◌∷◌, sym, refl, ap, ◌∙◌, ap₂, inl, inr, pow-suc, div-one, one-add, arith}
use mathlib.Core.Bool as B
use native.Mathlib.Nat.{zero-div, mod-mod}
use lib.Bits.{bit_and, bit_xor, xor_shr, xor_mod, and_shr, and_mod}
use lib.Count.{ones, ones_step}
use Rattle.std.proofs.lemmas.Nat.{shr-shr}
use Rattle.pauli.specs.Limits.{max_rows}
use Rattle.pauli.specs.Words.{odd, xor}
use Rattle.pauli.specs.Laws.{chosen}
use Rattle.pauli.proofs.WordLaws.{xor_swap, xor-false}
use Rattle.columns.specs.Masks.{bit, bits}

below_two : (n : ℕ) → n < 2 → (n ≡ 0) ⊎ (n ≡ 1)
below_two zero h = inl refl
below_two (suc zero) h = inr refl
below_two (suc (suc n)) h = absurd (omega arith)

rem_two : (n : ℕ) → (n % 2 ≡ 0) ⊎ (n % 2 ≡ 1)
rem_two n = below_two (n % 2) (omega arith)

odd-xor : (a b : ℕ) → odd (bit_xor a b) ≡ xor (odd a) (odd b)
odd-xor a b = ap (λ n. eqb n 1) (xor_mod a b 1) ∙ go (a % 2) (b % 2) (rem_two a) (rem_two b)
  where
    go : (x y : ℕ) → (x ≡ 0) ⊎ (x ≡ 1) → (y ≡ 0) ⊎ (y ≡ 1) → eqb (bit_xor x y) 1 ≡ xor (eqb x 1) (eqb y 1)
    go x y (inl p) (inl q) = rw (p, q) refl
    go x y (inl p) (inr q) = rw (p, q) refl
    go x y (inr p) (inl q) = rw (p, q) refl
    go x y (inr p) (inr q) = rw (p, q) refl

odd_and : (a b : ℕ) → odd (bit_and a b) ≡ (odd a && odd b)
odd_and a b = ap (λ n. eqb n 1) (and_mod a b 1) ∙ go (a % 2) (b % 2) (rem_two a) (rem_two b)
  where
    go : (x y : ℕ) → (x ≡ 0) ⊎ (x ≡ 1) → (y ≡ 0) ⊎ (y ≡ 1) → eqb (bit_and x y) 1 ≡ (eqb x 1 && eqb y 1)
    go x y (inl p) (inl q) = rw p refl
    go x y (inl p) (inr q) = rw p refl
    go x y (inr p) (inl q) = rw (p, q) refl
    go x y (inr p) (inr q) = rw (p, q) refl

odd-add : (a b : ℕ) → odd (a + b) ≡ xor (odd a) (odd b)
odd-add a b = go (rem_two a) (rem_two b)
  where
    at : (x y z : ℕ) → a % 2 ≡ x → b % 2 ≡ y → (a + b) % 2 ≡ z → eqb z 1 ≡ xor (eqb x 1) (eqb y 1) → odd (a + b) ≡ xor (odd a) (odd b)
    at x y z p q r e = rw (p, q, r) e

    go : (a % 2 ≡ 0) ⊎ (a % 2 ≡ 1) → (b % 2 ≡ 0) ⊎ (b % 2 ≡ 1) → odd (a + b) ≡ xor (odd a) (odd b)
    go (inl p) (inl q) = at 0 0 0 p q (omega arith) refl
    go (inl p) (inr q) = at 0 1 1 p q (omega arith) refl
    go (inr p) (inl q) = at 1 0 1 p q (omega arith) refl
    go (inr p) (inr q) = at 1 1 0 p q (omega arith) refl

pub bit-xor : (j a b : ℕ) → bit j (bit_xor a b) ≡ xor (bit j a) (bit j b)
bit-xor j a b = ap odd (xor_shr a b j) ∙ odd-xor (a / 2 ^ j) (b / 2 ^ j)

pub bit-none : (j : ℕ) → bit j 0 ≡ false
bit-none j = ap odd (zero-div (2 ^ j))

pub bit-zero : (m : ℕ) → bit 0 m ≡ odd m
bit-zero m = ap odd (div-one m)

pub bit-suc : (j m : ℕ) → bit (suc j) m ≡ bit j (m / 2)
bit-suc j m = ap odd (ap (λ (n : ℕ). m / 2 ^ n) (sym (one-add j)) ∙ sym (shr-shr m 1 j))

and_split : (k a b : Bool) → (k && xor a b) ≡ xor (k && a) (k && b)
and_split true a b = refl
and_split false a b = refl

-- the parity of the bits chosen of a mask, linear in the mask
pub chosen-xor : (k : ℕ) (ks : List Bool) (a b : ℕ) → chosen ks (bits k (bit_xor a b)) ≡ xor (chosen ks (bits k a)) (chosen ks (bits k b))
unfolding bits
chosen-xor zero [] a b = refl
chosen-xor zero (c ∷ ks) a b = refl
chosen-xor (suc k) [] a b = refl
chosen-xor (suc k) (c ∷ ks) a b =
    ap₂ xor (ap (λ x. c && x) (odd-xor a b) ∙ and_split c (odd a) (odd b))
    (ap (λ m. chosen ks (bits k m)) (xor_shr a b 1) ∙ chosen-xor k ks (a / 2) (b / 2))
    ∙ xor_swap (c && odd a) (c && odd b) (chosen ks (bits k (a / 2))) (chosen ks (bits k (b / 2)))

pub chosen_sym : (xs ys : List Bool) → chosen xs ys ≡ chosen ys xs
chosen_sym [] [] = refl
chosen_sym [] (y ∷ ys) = refl
chosen_sym (x ∷ xs) [] = refl
chosen_sym (x ∷ xs) (y ∷ ys) = ap₂ xor (B.and_comm x y) (chosen_sym xs ys)

-- nothing is chosen of a mask whose bits are all off
pub chosen_off : (k : ℕ) (ks : List Bool) (m : ℕ) → ((i : ℕ) → i < k → bit i m ≡ false) → chosen ks (bits k m) ≡ false
unfolding bits
chosen_off zero [] m h = refl
chosen_off zero (c ∷ ks) m h = refl
chosen_off (suc k) [] m h = refl
chosen_off (suc k) (c ∷ ks) m h =
    ap₂ xor (ap (λ x. c && x) (sym (bit-zero m) ∙ h 0 (omega arith)) ∙ B.and-false c)
    (chosen_off k ks (m / 2) (λ i l. sym (bit-suc i m) ∙ h (suc i) (omega arith)))

pub chosen_none : (k : ℕ) (ks : List Bool) → chosen ks (bits k 0) ≡ false
chosen_none k ks = chosen_off k ks 0 (λ i l. bit-none i)

odd_double : (a n : ℕ) → n ≡ a * 2 → odd n ≡ false
odd_double a n e = ap (λ r. eqb r 1) rest
  where
    rest : n % 2 ≡ 0
    rest = omega arith

half_double : (a n : ℕ) → n ≡ a * 2 → n / 2 ≡ a
half_double a n e = omega arith

-- a mask of one bit chooses that bit
pub chosen_one : (k j m : ℕ) → j < k → chosen (bits k (2 ^ j)) (bits k m) ≡ bit j m
unfolding bits
chosen_one zero j m h = absurd (omega arith)
chosen_one (suc k) zero m h =
    ap (λ x. xor (odd m) x) (chosen_sym (bits k 0) (bits k (m / 2)) ∙ chosen_none k (bits k (m / 2))) ∙ (xor-false (odd m) ∙ sym (bit-zero m))
chosen_one (suc k) (suc j) m h =
    ap₂ (λ x n. xor (x && odd m) (chosen (bits k n) (bits k (m / 2)))) (odd_double (2 ^ j) (2 ^ suc j) (pow-suc 2 j)) (half_double (2 ^ j) (2 ^ suc j) (pow-suc 2 j))
    ∙ (chosen_one k j (m / 2) (omega arith) ∙ sym (bit-suc j m))

ones_none : ones 0 ≡ 0
unfolding ones
ones_none = refl

-- the number of ones that two masks share is odd just where one chooses an odd number of the other's
pub parity : (k a b : ℕ) → a < 2 ^ k → odd (ones (bit_and a b)) ≡ chosen (bits k a) (bits k b)
unfolding bits
parity zero a b h = let z : a ≡ 0 = omega arith in ap (λ n. odd (ones (bit_and n b))) z ∙ ap odd ones_none
parity (suc k) a b h =
    ap odd (ones_step (bit_and a b))
    ∙ (odd-add (bit_and a b % 2) (ones (bit_and a b / 2))
    ∙ ap₂ xor (ap (λ r. eqb r 1) (mod-mod (bit_and a b) 2) ∙ odd_and a b) (ap (λ n. odd (ones n)) (and_shr a b 1) ∙ parity k (a / 2) (b / 2) (omega (arith, pow-suc 2 k))))

-- bits past a mask's own add nothing
pub chosen-within : (r k : ℕ) (ks : List Bool) (m : ℕ) → r ≤ k → m < 2 ^ r → chosen ks (bits k m) ≡ chosen ks (bits r m)
unfolding bits
chosen-within zero k ks m l h =
    let z : m ≡ 0 = omega arith in
    ap (λ n. chosen ks (bits k n)) z ∙ (chosen_none k ks ∙ sym (chosen_off 0 ks m (λ i q. absurd (omega arith))))
chosen-within (suc r) zero ks m l h = absurd (omega arith)
chosen-within (suc r) (suc k) [] m l h = refl
chosen-within (suc r) (suc k) (c ∷ ks) m l h =
    ap (λ x. xor (c && odd m) x) (chosen-within r k ks (m / 2) (omega arith) (omega (arith, pow-suc 2 r)))

-- Bits of a mask, one by one

pub bit_other : (i j : ℕ) → (i ≡ j → ⊥) → bit i (2 ^ j) ≡ false
bit_other zero zero n = absurd (n refl)
bit_other zero (suc j) n = bit-zero (2 ^ suc j) ∙ odd_double (2 ^ j) (2 ^ suc j) (pow-suc 2 j)
bit_other (suc i) zero n = bit-suc i 1 ∙ bit-none i
bit_other (suc i) (suc j) n =
    bit-suc i (2 ^ suc j) ∙ (ap (λ m. bit i m) (half_double (2 ^ j) (2 ^ suc j) (pow-suc 2 j)) ∙ bit_other i j (λ e. n (ap suc e)))

pub bit_own : (j : ℕ) → bit j (2 ^ j) ≡ true
bit_own zero = refl
bit_own (suc j) = bit-suc j (2 ^ suc j) ∙ (ap (λ m. bit j m) (half_double (2 ^ j) (2 ^ suc j) (pow-suc 2 j)) ∙ bit_own j)

pub bit_high : (i r m : ℕ) → r ≤ i → m < 2 ^ r → bit i m ≡ false
bit_high i zero m l h = let z : m ≡ 0 = omega arith in ap (λ n. bit i n) z ∙ bit-none i
bit_high zero (suc r) m l h = absurd (omega arith)
bit_high (suc i) (suc r) m l h = bit-suc i m ∙ bit_high i r (m / 2) (omega arith) (omega (arith, pow-suc 2 r))

-- no bit is set past the last
pub bit_past : (i m : ℕ) → max_rows ≤ i → m < 2 ^ max_rows → bit i m ≡ false
bit_past i m l h = bit_high i max_rows m l h
