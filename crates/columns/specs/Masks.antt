-- Sets of rows as masks: bit j of the mask stands for row j, from 0. Assumes nothing.
use Rattle.std.specs.Prelude.{ℕ, zero, suc, ◌+◌, ◌*◌, ◌/◌, ◌^◌, Bool, cond, List, [], ◌∷◌}
use Rattle.pauli.specs.Words.{odd}

-- whether row j is in the set
abbrev pub bit : ℕ → ℕ → Bool
bit j m = odd (m / 2 ^ j)

-- the lowest bits of a mask, the lowest first
unfoldable pub bits : ℕ → ℕ → List Bool
bits zero m = []
bits (suc k) m = odd m ∷ bits k (m / 2)

-- the mask of the rows whose bit is true
unfoldable pub set_of : List Bool → ℕ
set_of [] = 0
set_of (b ∷ bs) = cond b 1 0 + 2 * set_of bs
