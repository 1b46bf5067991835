-- The rows that clash with a letter and with a word, as bits. Assumes nothing.
use Rattle.std.proofs.Common.{◌≡◌, ℕ, zero, suc, ◌+◌, ◌/◌, ◌^◌, ◌<◌, ◌≤◌, Bool, List, [], ◌∷◌, ◌++◌, map, length, get_or, take, sym, refl, ap, ◌∙◌, ap₂, div-one, arith, pow_pos}
use lib.Bits.{bit_xor, xor_assoc, xor_zero_r}
use Rattle.std.proofs.lemmas.Nat.{xor_lt}
use Rattle.pauli.specs.declared.letter.Letter.{Letter}
use Rattle.pauli.specs.declared.letter.Letter.TheVariants.{I, X, Y, Z}
use Rattle.pauli.specs.Letters.{clash}
use Rattle.pauli.specs.Words.{Word, xor, star, at, syndrome}
use Rattle.columns.specs.Masks.{bit, bits}
use Rattle.columns.specs.Columns.{told, letter_in, row, rows_from, rows, against, clashes, hollow, Within}
use Rattle.columns.specs.declared.column.Column.{Column}
use Rattle.columns.proofs.Masks.{bit-xor, bit-none}
use Rattle.columns.proofs.Telling.{clash-told-I, clash-told-X, clash-told-Y, clash-told-Z, shift}

-- a test of the rows whose answer for row i is bit i of a mask
rows-bits_from : (f : Word → Bool) (m : ℕ) (cols : List Column) → ((i : ℕ) → bit i m ≡ f (row i cols)) → (j r : ℕ)
    → bits r (m / 2 ^ j) ≡ map f (rows_from j r cols)
unfolding bits rows_from
rows-bits_from f m cols h j zero = refl
rows-bits_from f m cols h j (suc r) = ap₂ ◌∷◌ (h j) (ap (bits r) (shift m j) ∙ rows-bits_from f m cols h (suc j) r)

pub rows-bits : (f : Word → Bool) (m : ℕ) (cols : List Column) → ((i : ℕ) → bit i m ≡ f (row i cols)) → (r : ℕ) → bits r m ≡ map f (rows r cols)
rows-bits f m cols h r = ap (bits r) (sym (div-one m)) ∙ rows-bits_from f m cols h 0 r

pub bit-against : (i : ℕ) (e : Letter) (c : Column) → bit i (against e c) ≡ clash (letter_in i c) e
bit-against i I c = bit-none i ∙ sym (clash-told-I (bit i c.x) (bit i c.z))
bit-against i X c = sym (clash-told-X (bit i c.x) (bit i c.z))
bit-against i Y c = bit-xor i c.x c.z ∙ sym (clash-told-Y (bit i c.x) (bit i c.z))
bit-against i Z c = sym (clash-told-Z (bit i c.x) (bit i c.z))

bit-clashes : (i : ℕ) (w : Word) (cols : List Column) → bit i (clashes w cols) ≡ star (row i cols) w
unfolding clashes
bit-clashes i [] [] = bit-none i
bit-clashes i [] (c ∷ cols) = bit-none i
bit-clashes i (e ∷ w) [] = bit-none i
bit-clashes i (e ∷ w) (c ∷ cols) = bit-xor i (against e c) (clashes w cols) ∙ ap₂ xor (bit-against i e c) (bit-clashes i w cols)

syndrome-map : (rs : List Word) (w : Word) → map (λ r. star r w) rs ≡ syndrome rs w
syndrome-map [] w = refl
syndrome-map (r ∷ rs) w = ap (λ bs. star r w ∷ bs) (syndrome-map rs w)

-- the accumulated set is the syndrome
pub clashes-syndrome : (r : ℕ) (w : Word) (cols : List Column) → bits r (clashes w cols) ≡ syndrome (rows r cols) w
clashes-syndrome r w cols = rows-bits (λ v. star v w) (clashes w cols) cols (λ i. bit-clashes i w cols) r ∙ syndrome-map (rows r cols) w

-- ---- one letter of a row

pub letter_in_row : (j : ℕ) (cols : List Column) (k : ℕ) → at k (row j cols) ≡ letter_in j (get_or cols k hollow)
letter_in_row j [] k = sym (ap₂ told (bit-none j) (bit-none j))
letter_in_row j (c ∷ cols) zero = refl
letter_in_row j (c ∷ cols) (suc k) = letter_in_row j cols k

row_from : (j k r : ℕ) (cols : List Column) → k < r → get_or (rows_from j r cols) k [] ≡ row (j + k) cols
unfolding rows_from
row_from j k zero cols h = absurd (omega arith)
row_from j zero (suc r) cols h = ap (λ (i : ℕ). row i cols) (let e : j ≡ j + 0 = omega arith in e)
row_from j (suc k) (suc r) cols h =
    row_from (suc j) k r cols (omega arith) ∙ ap (λ (i : ℕ). row i cols) (let e : suc j + k ≡ j + suc k = omega arith in e)

pub row_in_rows : (k r : ℕ) (cols : List Column) → k < r → get_or (rows r cols) k [] ≡ row k cols
row_in_rows k r cols h = row_from 0 k r cols h ∙ ap (λ (i : ℕ). row i cols) (let e : 0 + k ≡ k = omega arith in e)

-- the rows that clash with a letter at a place
pub clash-bits : (r : ℕ) (e : Letter) (cols : List Column) (k : ℕ)
    → bits r (against e (get_or cols k hollow)) ≡ map (λ w. clash (at k w) e) (rows r cols)
clash-bits r e cols k =
    rows-bits (λ w. clash (at k w) e) (against e (get_or cols k hollow)) cols
    (λ i. bit-against i e (get_or cols k hollow) ∙ ap (λ a. clash a e) (sym (letter_in_row i cols k))) r

pub none-against : (e : Letter) → against e hollow ≡ 0
none-against I = refl
none-against X = refl
none-against Y = refl
none-against Z = refl

-- ---- bounds

pub against_below : (r : ℕ) (e : Letter) (c : Column) → c.x < 2 ^ r → c.z < 2 ^ r → against e c < 2 ^ r
against_below r I c p q = pow_pos r
against_below r X c p q = p
against_below r Y c p q = xor_lt r c.x c.z p q
against_below r Z c p q = q

pub clashes_below : (r : ℕ) (w : Word) (cols : List Column) → Within r cols → clashes w cols < 2 ^ r
unfolding clashes
clashes_below r [] [] h = pow_pos r
clashes_below r [] (c ∷ cols) h = pow_pos r
clashes_below r (e ∷ w) [] h = pow_pos r
clashes_below r (e ∷ w) (c ∷ cols) h =
    xor_lt r (against e c) (clashes w cols) (against_below r e c (h 0).0 (h 0).1) (clashes_below r w cols (λ j. h (suc j)))

-- ---- one place more

pub clashes_push : (w : Word) (cols : List Column) (e : Letter) (c : Column) → length w ≡ length cols
    → clashes (w ++ e ∷ []) (cols ++ c ∷ []) ≡ bit_xor (clashes w cols) (against e c)
unfolding clashes
clashes_push [] [] e c h = xor_zero_r (against e c)
clashes_push [] (d ∷ cols) e c h = absurd (omega arith)
clashes_push (a ∷ w) [] e c h = absurd (omega arith)
clashes_push (a ∷ w) (d ∷ cols) e c h =
    ap (bit_xor (against a d)) (clashes_push w cols e c (omega arith)) ∙ sym (xor_assoc (against a d) (clashes w cols) (against e c))

-- columns past the word's last place do not count
pub clashes-take : (n : ℕ) (w : Word) (cols : List Column) → length w ≤ n → clashes w (take n cols) ≡ clashes w cols
unfolding clashes
clashes-take zero [] [] h = refl
clashes-take zero [] (c ∷ cols) h = refl
clashes-take zero (e ∷ w) cols h = absurd (omega arith)
clashes-take (suc n) [] [] h = refl
clashes-take (suc n) [] (c ∷ cols) h = refl
clashes-take (suc n) (e ∷ w) [] h = refl
clashes-take (suc n) (e ∷ w) (c ∷ cols) h = ap (bit_xor (against e c)) (clashes-take n w cols (omega arith))
