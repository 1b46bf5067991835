-- Elimination over words, as it computes: whether a word is a sum of rows, and of which. Assumes nothing.
use Rattle.std.specs.Prelude.{◌≡◌, ℕ, Bool, true, false, cond, List, [], ◌∷◌, length, is_some, Some, None, Option, ◌≢◌}
use Rattle.pauli.specs.Words.{Word, star, is_blank, Long, select}
use Rattle.pauli.specs.Laws.{add_if, spot}

-- A row with a partner, a word that commutes with all earlier rows. It does not commute with this row,
-- unless the row is a sum of the earlier ones; then it is blank.
pub record Pivot : Type 0 where
  pub row : Word
  pub partner : Word

-- the word with rows added until it commutes with every partner
abbrev pub residue : List Pivot → Word → Word
residue [] w = w
residue (p ∷ ps) w = residue ps (add_if (star w p.partner) p.row w)

-- which rows residue adds, before those already counted; the oldest row first
abbrev pub coefficients : List Bool → List Pivot → Word → List Bool
coefficients ks [] w = ks
coefficients ks (p ∷ ps) w = coefficients (star w p.partner ∷ ks) ps (add_if (star w p.partner) p.row w)

-- the word with partners added until it commutes with every row
abbrev pub cleared : List Pivot → Word → Word
cleared [] v = v
cleared (p ∷ ps) v = let u = cleared ps v in add_if (star p.row u) p.partner u

-- a row with its partner after these pivots
abbrev pub pivot : List Pivot → Word → Pivot
pivot ps r = record { row = r; partner = cleared ps (spot (residue ps r)) }

-- the pivots of the rows, after those already there
abbrev pub pivots : List Pivot → List Word → List Pivot
pivots ps [] = ps
pivots ps (r ∷ rows) = pivots (pivot ps r ∷ ps) rows

-- the rows that add to the word, if any do
abbrev pub addends : List Word → Word → Option (List Bool)
addends rows w =
    let ps = pivots [] rows in
    cond (is_blank (residue ps w)) (Some (coefficients [] ps w)) None

-- whether the word is a sum of the rows
abbrev pub is_sum : List Word → Word → Bool
is_sum rows w = is_some (addends rows w)

-- a word that commutes with every row and not with the word, where this is no sum of the rows
abbrev pub witness : List Word → Word → Word
witness rows w = (pivot (pivots [] rows) w).partner

-- What addends answers is true of every list of rows, independent or not.
-- An answer is a sum; where there is None, a word commutes with all rows and not with this one, so that no choice adds to it.
pub record Decided (n : ℕ) (rows : List Word) (w : Word) : Type 0 where
  pub sound : (ks : List Bool) → addends rows w ≡ Some ks → (length ks ≡ length rows) × (select n ks rows ≡ w)
  pub complete : addends rows w ≡ None → (ks : List Bool) → select n ks rows ≢ w
  pub clashing : addends rows w ≡ None → star w (witness rows w) ≡ true
  pub commuting : addends rows w ≡ None → (ks : List Bool) → star (select n ks rows) (witness rows w) ≡ false

-- elimination decides sums of all rows
abbrev pub SumsDecided : Type 0
SumsDecided = (n : ℕ) (rows : List Word) (w : Word) → Long n rows → length w ≡ n → Decided n rows w
