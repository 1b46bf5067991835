-- One bit of the list of a mask's bits. Assumes nothing.
use Rattle.std.proofs.Common.{◌≡◌, ℕ, zero, suc, ◌/◌, ◌<◌, ◌≤◌, false, get_or, refl, ◌∙◌, arith}
use Rattle.columns.specs.Masks.{bit, bits}
use Rattle.columns.proofs.Masks.{bit-zero, bit-suc}

pub within : (j r m : ℕ) → j < r → bit j m ≡ get_or (bits r m) j false
unfolding bits
within j zero m h = absurd (omega arith)
within zero (suc r) m h = bit-zero m
within (suc j) (suc r) m h = bit-suc j m ∙ within j r (m / 2) (omega arith)

pub past : (j r m : ℕ) → r ≤ j → false ≡ get_or (bits r m) j false
unfolding bits
past j zero m h = refl
past zero (suc r) m h = absurd (omega arith)
past (suc j) (suc r) m h = past j r (m / 2) (omega arith)
