-- A row put into a table is one more row of it. Assumes nothing.
use Rattle.std.proofs.Common.{◌≡◌, ℕ, zero, suc, ◌+◌, ◌^◌, ◌<◌, ◌≤◌, Bool, true, false, List, [], ◌∷◌, ◌++◌, length, get_or, take, set, replicate, sym, refl, ap, ◌∙◌, ap₂, pow-suc, zero-add, arith, pow_pos}
use lib.Bits.{xor_lt}
use lib.Pow.{pow-lt}
use Rattle.pauli.specs.declared.letter.Letter.{Letter}
use Rattle.pauli.specs.declared.letter.Letter.TheVariants.{X, Z}
use Rattle.pauli.specs.Letters.{clash}
use Rattle.pauli.specs.Words.{Word, xor, Long}
use Rattle.pauli.proofs.WordLaws.{xor-false}
use Rattle.columns.specs.Masks.{bit}
use Rattle.columns.specs.Columns.{told, row, rows_from, rows, turned, marked, with_row, hollow, Within}
use Rattle.columns.specs.declared.column.Column.{Column}
use Rattle.columns.proofs.Masks.{bit-xor, bit_other, bit_own, bit_high}
use Rattle.columns.proofs.Telling.{told-clash}

-- One letter more

with_row_push : (j : ℕ) (w : Word) (e : Letter) (t : List Column) → length w < length t
    → set (with_row j w t) (length w) (marked j e (get_or (with_row j w t) (length w) hollow)) ≡ with_row j (w ++ e ∷ []) t
unfolding with_row
with_row_push j [] e [] h = refl
with_row_push j [] e (c ∷ t) h = refl
with_row_push j (a ∷ w) e [] h = refl
with_row_push j (a ∷ w) e (c ∷ t) h = ap (λ cs. marked j a c ∷ cs) (with_row_push j w e t (omega arith))

pub with_row_more : (j : ℕ) (w : Word) (e : Letter) (t : List Column) (i : ℕ) → length w ≡ i → i < length t
    → set (with_row j w t) i (marked j e (get_or (with_row j w t) i hollow)) ≡ with_row j (w ++ e ∷ []) t
with_row_more j w e t i l h =
    ap (λ k. set (with_row j w t) k (marked j e (get_or (with_row j w t) k hollow))) (sym l) ∙ with_row_push j w e t (omega arith)

pub length-with_row : (j : ℕ) (w : Word) (t : List Column) → length (with_row j w t) ≡ length t
unfolding with_row
length-with_row j [] t = refl
length-with_row j (a ∷ w) [] = refl
length-with_row j (a ∷ w) (c ∷ t) = ap suc (length-with_row j w t)

pub take-with_row : (j n : ℕ) (w : Word) (t : List Column) → length w ≤ n → take n (with_row j w t) ≡ with_row j w (take n t)
unfolding with_row
take-with_row j n [] t h = refl
take-with_row j zero (a ∷ w) t h = absurd (omega arith)
take-with_row j (suc n) (a ∷ w) [] h = refl
take-with_row j (suc n) (a ∷ w) (c ∷ t) h = ap (λ cs. marked j a c ∷ cs) (take-with_row j n w t (omega arith))

pub beyond : (j : ℕ) (w : Word) (t : List Column) (k : ℕ) → length w ≤ k → get_or (with_row j w t) k hollow ≡ get_or t k hollow
unfolding with_row
beyond j [] t k h = refl
beyond j (e ∷ w) [] k h = refl
beyond j (e ∷ w) (c ∷ t) zero h = absurd (omega arith)
beyond j (e ∷ w) (c ∷ t) (suc k) h = beyond j w t k (omega arith)

-- Bits of a turned mask

turned_other : (b : Bool) (i j m : ℕ) → (i ≡ j → ⊥) → bit i (turned b j m) ≡ bit i m
turned_other true i j m n = bit-xor i m (2 ^ j) ∙ (ap (λ x. xor (bit i m) x) (bit_other i j n) ∙ xor-false (bit i m))
turned_other false i j m n = refl

turned_own : (b : Bool) (j m : ℕ) → bit j m ≡ false → bit j (turned b j m) ≡ b
turned_own true j m h = bit-xor j m (2 ^ j) ∙ ap₂ xor h (bit_own j)
turned_own false j m h = h

turned_lt : (b : Bool) (r m : ℕ) → m < 2 ^ r → turned b r m < 2 ^ suc r
turned_lt true r m h = xor_lt (suc r) m (2 ^ r) (omega (arith, pow-suc 2 r)) (pow-lt {j = suc r} (omega arith))
turned_lt false r m h = omega (arith, pow-suc 2 r)

pub within_more : (r : ℕ) (w : Word) (t : List Column) → Within r t → Within (suc r) (with_row r w t)
unfolding with_row
within_more r [] t h q = (omega (arith, pow-suc 2 r, (h q).0), omega (arith, pow-suc 2 r, (h q).1))
within_more r (a ∷ w) [] h q = (pow_pos (suc r), pow_pos (suc r))
within_more r (a ∷ w) (c ∷ t) h zero = (turned_lt (clash a X) r c.x (h 0).0, turned_lt (clash a Z) r c.z (h 0).1)
within_more r (a ∷ w) (c ∷ t) h (suc q) = within_more r w t (λ i. h (suc i)) q

pub within-take : (r n : ℕ) (t : List Column) → Within r t → Within r (take n t)
within-take r zero t h q = (pow_pos r, pow_pos r)
within-take r (suc n) [] h q = (pow_pos r, pow_pos r)
within-take r (suc n) (c ∷ t) h zero = h 0
within-take r (suc n) (c ∷ t) h (suc q) = within-take r n t (λ i. h (suc i)) q

-- Rows

row_other : (i j : ℕ) (w : Word) (t : List Column) → (i ≡ j → ⊥) → row i (with_row j w t) ≡ row i t
unfolding with_row
row_other i j [] t n = refl
row_other i j (a ∷ w) [] n = refl
row_other i j (a ∷ w) (c ∷ t) n =
    ap₂ ◌∷◌ (ap₂ told (turned_other (clash a X) i j c.x n) (turned_other (clash a Z) i j c.z n)) (row_other i j w t n)

row_own : (r : ℕ) (w : Word) (t : List Column) → length t ≡ length w → Within r t → row r (with_row r w t) ≡ w
unfolding with_row
row_own r [] [] l h = refl
row_own r [] (c ∷ t) l h = absurd (omega arith)
row_own r (a ∷ w) [] l h = absurd (omega arith)
row_own r (a ∷ w) (c ∷ t) l h =
    ap₂ ◌∷◌
    (ap₂ told (turned_own (clash a X) r c.x (bit_high r r c.x (omega arith) (h 0).0)) (turned_own (clash a Z) r c.z (bit_high r r c.z (omega arith) (h 0).1))
    ∙ told-clash a)
    (row_own r w t (omega arith) (λ i. h (suc i)))

rows_from_push : (j r : ℕ) (t : List Column) → rows_from j (suc r) t ≡ rows_from j r t ++ (row (j + r) t ∷ [])
unfolding rows_from
rows_from_push j zero t = ap (λ (i : ℕ). row i t ∷ []) (let e : j ≡ j + 0 = omega arith in e)
rows_from_push j (suc r) t =
    ap (λ rs. row j t ∷ rs) (rows_from_push (suc j) r t ∙ ap (λ (i : ℕ). rows_from (suc j) r t ++ (row i t ∷ [])) (let e : suc j + r ≡ j + suc r = omega arith in e))

rows_from-same : (j r : ℕ) (s t : List Column) → ((i : ℕ) → i < j + r → row i s ≡ row i t) → rows_from j r s ≡ rows_from j r t
unfolding rows_from
rows_from-same j zero s t h = refl
rows_from-same j (suc r) s t h = ap₂ ◌∷◌ (h j (omega arith)) (rows_from-same (suc j) r s t (λ i k. h i (omega arith)))

pub rows-put : (r : ℕ) (w : Word) (t : List Column) → length t ≡ length w → Within r t → rows (suc r) (with_row r w t) ≡ rows r t ++ (w ∷ [])
rows-put r w t l h =
    rows_from_push 0 r (with_row r w t)
    ∙ ap₂ (λ rs w. rs ++ (w ∷ []))
    (rows_from-same 0 r (with_row r w t) t (λ i k. row_other i r w t (λ e. omega arith)))
    (ap (λ (i : ℕ). row i (with_row r w t)) (zero-add r) ∙ row_own r w t l h)

length-row : (i : ℕ) (t : List Column) → length (row i t) ≡ length t
length-row i [] = refl
length-row i (c ∷ t) = ap suc (length-row i t)

long_from : (n j r : ℕ) (t : List Column) → length t ≡ n → Long n (rows_from j r t)
unfolding rows_from
long_from n j zero t h = tt
long_from n j (suc r) t h = (length-row j t ∙ h, long_from n (suc j) r t h)

pub long_rows : (n r : ℕ) (t : List Column) → length t ≡ n → Long n (rows r t)
long_rows n r t h = long_from n 0 r t h

length_from : (j r : ℕ) (t : List Column) → length (rows_from j r t) ≡ r
unfolding rows_from
length_from j zero t = refl
length_from j (suc r) t = ap suc (length_from (suc j) r t)

pub length-rows : (r : ℕ) (t : List Column) → length (rows r t) ≡ r
length-rows r t = length_from 0 r t

-- The table without rows

pub rows_none : (t : List Column) → rows 0 t ≡ []
unfolding rows_from
rows_none t = refl

pub hollow-within : (n r : ℕ) → Within r (replicate n hollow)
hollow-within zero r q = (pow_pos r, pow_pos r)
hollow-within (suc n) r zero = (pow_pos r, pow_pos r)
hollow-within (suc n) r (suc q) = hollow-within n r q
