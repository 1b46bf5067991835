-- One place more of the loops over a table. Assumes nothing.
use Rattle.std.proofs.Common.{◌≡◌, ℕ, zero, suc, ◌+◌, ◌<◌, min, List, [], ◌∷◌, ◌++◌, length, get_or, take, set, sym, refl, ap, ◌∙◌, ap₂, arith}
use lib.Bits.{bit_xor}
use Rattle.std.proofs.lemmas.List.{take_more, map_push, length-map, length-take-le}
use Rattle.pauli.specs.Letters.{letter}
use Rattle.pauli.specs.Text.{letters_of}
use Rattle.columns.specs.declared.column.Column.{Column}
use Rattle.columns.specs.Columns.{against, clashes, marked, with_row, hollow}
use Rattle.columns.proofs.Clashing.{clashes_push}
use Rattle.columns.proofs.Marking as M

next : (ns : List ℕ) (i : ℕ) → i < length ns → letters_of (take i ns) ++ (letter (get_or ns i 0) ∷ []) ≡ letters_of (take (i + 1) ns)
next ns i h = sym (ap letters_of (take_more ns i 0 h) ∙ map_push letter (take i ns) (get_or ns i 0))

long : (ns : List ℕ) (i : ℕ) → i < length ns → length (letters_of (take i ns)) ≡ i
long ns i h = length-map (take i ns) letter ∙ length-take-le i ns (omega arith)

-- ---- the rows that clash with a word

pub clashes_none : clashes [] [] ≡ 0
unfolding clashes
clashes_none = refl

pub clashes_more : (ns : List ℕ) (cols : List Column) (i : ℕ) → i < length ns → i < length cols
    → clashes (letters_of (take (i + 1) ns)) (take (i + 1) cols)
    ≡ bit_xor (clashes (letters_of (take i ns)) (take i cols)) (against (letter (get_or ns i 0)) (get_or cols i hollow))
clashes_more ns cols i h k =
    let same : length (letters_of (take i ns)) ≡ length (take i cols) = long ns i h ∙ sym (length-take-le i cols (omega arith)) in
    ap₂ clashes (sym (next ns i h)) (take_more cols i hollow k)
    ∙ clashes_push (letters_of (take i ns)) (take i cols) (letter (get_or ns i 0)) (get_or cols i hollow) same

pub clashes_all : (ns : List ℕ) (cols : List Column) (n : ℕ) → n ≡ min (length cols) (length ns)
    → clashes (letters_of (take n ns)) (take n cols) ≡ clashes (letters_of ns) cols
unfolding clashes
clashes_all [] [] zero h = refl
clashes_all [] (c ∷ cols) zero h = refl
clashes_all (a ∷ ns) [] zero h = refl
clashes_all (a ∷ ns) (c ∷ cols) zero h = absurd (omega arith)
clashes_all [] [] (suc n) h = refl
clashes_all [] (c ∷ cols) (suc n) h = absurd (omega arith)
clashes_all (a ∷ ns) [] (suc n) h = absurd (omega arith)
clashes_all (a ∷ ns) (c ∷ cols) (suc n) h = ap (bit_xor (against (letter a) c)) (clashes_all ns cols n (omega arith))

-- ---- a word put into a row

pub put_none : (r : ℕ) (cols : List Column) → with_row r [] cols ≡ cols
unfolding with_row
put_none r cols = refl

pub put_more : (r : ℕ) (ns : List ℕ) (cols : List Column) (i : ℕ) → i < length ns → i < length cols
    → with_row r (letters_of (take (i + 1) ns)) cols
    ≡ set (with_row r (letters_of (take i ns)) cols) i (marked r (letter (get_or ns i 0)) (get_or (with_row r (letters_of (take i ns)) cols) i hollow))
put_more r ns cols i h k =
    sym (M.with_row_more r (letters_of (take i ns)) (letter (get_or ns i 0)) cols i (long ns i h) k ∙ ap (λ v. with_row r v cols) (next ns i h))
