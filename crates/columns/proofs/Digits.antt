-- A mask and its list of bits: each is had from the other, and the first true bit is the lowest set one. Assumes nothing.
use Rattle.std.proofs.Common.{◌≡◌, ℕ, zero, suc, ◌+◌, ◌*◌, ◌/◌, ◌%◌, ◌^◌, ◌<◌, ◌≤◌, Bool, true, false, cond, eqb, List, [], ◌∷◌, length, Some, None, ◌≢◌, sym, refl, ap, ◌∙◌, ap₂, pow-suc, arith}
use lib.Count.{count_trailing_zeros, under}
use Rattle.std.specs.Option.{option_map}
use Rattle.pauli.specs.Limits.{max_rows}
use Rattle.pauli.specs.Words.{odd}
use Rattle.pauli.specs.Text.{first}
use Rattle.columns.specs.Masks.{bits, set_of}

half_below : (a k : ℕ) → a < 2 ^ suc k → a / 2 < 2 ^ k
half_below a k h = omega (arith, pow-suc 2 k)

-- ---- to and fro

pub set_below : (bs : List Bool) → set_of bs < 2 ^ length bs
unfolding set_of
set_below [] = omega arith
set_below (true ∷ bs) = omega (arith, set_below bs, pow-suc 2 (length bs))
set_below (false ∷ bs) = omega (arith, set_below bs, pow-suc 2 (length bs))

low : (d x m : ℕ) → d < 2 → m ≡ d + 2 * x → (m % 2 ≡ d) × (m / 2 ≡ x)
low d x m h e = (omega arith, omega arith)

first_of : (b : Bool) (bs : List Bool) → bits (length bs) (set_of bs) ≡ bs
    → odd (cond b 1 0 + 2 * set_of bs) ∷ bits (length bs) ((cond b 1 0 + 2 * set_of bs) / 2) ≡ b ∷ bs
first_of true bs h =
    let e = low 1 (set_of bs) (1 + 2 * set_of bs) (omega arith) refl in
    ap₂ (λ r x. eqb r 1 ∷ bits (length bs) x) e.0 e.1 ∙ ap (λ ds. true ∷ ds) h
first_of false bs h =
    let e = low 0 (set_of bs) (0 + 2 * set_of bs) (omega arith) refl in
    ap₂ (λ r x. eqb r 1 ∷ bits (length bs) x) e.0 e.1 ∙ ap (λ ds. false ∷ ds) h

pub bits_set : (bs : List Bool) → bits (length bs) (set_of bs) ≡ bs
unfolding bits set_of
bits_set [] = refl
bits_set (b ∷ bs) = first_of b bs (bits_set bs)

pub set_bits : (r m : ℕ) → m < 2 ^ r → set_of (bits r m) ≡ m
unfolding bits set_of
set_bits zero m h = omega arith
set_bits (suc r) m h = ap₂ (λ (d x : ℕ). d + 2 * x) (one (m % 2) (omega arith)) (set_bits r (m / 2) (half_below m r h)) ∙ whole
  where
    one : (d : ℕ) → d < 2 → cond (eqb d 1) 1 0 ≡ d
    one zero l = refl
    one (suc zero) l = refl
    one (suc (suc d)) l = absurd (omega arith)

    whole : m % 2 + 2 * (m / 2) ≡ m
    whole = omega arith

-- ---- the lowest

lowest : (r k m : ℕ) → r ≤ k → 0 < m → m < 2 ^ r → first (bits r m) ≡ Some (count_trailing_zeros k m + 1)
unfolding bits count_trailing_zeros
lowest zero k m h p b = absurd (omega arith)
lowest (suc r) zero m h p b = absurd (omega arith)
lowest (suc r) (suc k) m h p b = go (m % 2) refl (λ q. lowest r k (m / 2) (omega arith) q (half_below m r b))
  where
    go : (d : ℕ) → m % 2 ≡ d → (0 < m / 2 → first (bits r (m / 2)) ≡ Some (count_trailing_zeros k (m / 2) + 1))
        → first (eqb d 1 ∷ bits r (m / 2)) ≡ Some (under d (count_trailing_zeros k (m / 2)) + 1)
    go zero e more =
        let q : 0 < m / 2 = omega arith in
        let s : suc (count_trailing_zeros k (m / 2) + 1) ≡ suc (count_trailing_zeros k (m / 2)) + 1 = omega arith in
        ap (option_map suc) (more q) ∙ ap Some s
    go (suc zero) e more = refl
    go (suc (suc d)) e more = absurd (omega arith)

none_first : (r : ℕ) → first (bits r 0) ≡ None
unfolding bits
none_first zero = refl
none_first (suc r) = ap (option_map suc) (none_first r)

-- an empty set has no first row
pub no_first : (bs : List Bool) → 0 ≡ set_of bs → None ≡ first bs
no_first bs e = sym (none_first (length bs)) ∙ (ap (λ (m : ℕ). first (bits (length bs) m)) e ∙ ap first (bits_set bs))

-- the first row of any other has as many zeros below it as there are rows before it
pub first_lowest : (m : ℕ) (bs : List Bool) → (m ≢ 0) → length bs ≤ max_rows → m ≡ set_of bs → Some (count_trailing_zeros max_rows m + 1) ≡ first bs
first_lowest m bs n l e =
    sym (lowest (length bs) max_rows m l (omega arith) (rw e (set_below bs)))
    ∙ (ap (λ (k : ℕ). first (bits (length bs) k)) e ∙ ap first (bits_set bs))
