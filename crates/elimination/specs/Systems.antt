-- What a system of equations says. Assumes nothing.
use Rattle.std.specs.Prelude.{◌≡◌, ℕ, ◌<◌, Bool, true, false, ◌↔◌, List, length, get_or, ◌≢◌, bit_xor, slice_index_or}
use Rattle.pauli.specs.Limits.{max_rows}
use Rattle.pauli.specs.declared.letter.Letter.{Letter}
use Rattle.pauli.specs.declared.letter.Letter.TheVariants.{X, Z}
use Rattle.pauli.specs.Letters.{clash}
use Rattle.pauli.specs.Words.{xor}
use Rattle.pauli.specs.Laws.{chosen}
use Rattle.columns.specs.Masks.{bit, bits}
use Rattle.columns.specs.declared.column.Column.{Column}
use Rattle.elimination.specs.declared.equation.Equation.{Equation}

-- the bits meet an equation
abbrev pub Meets : List Bool → ℕ → Bool → Type 0
Meets ks m b = chosen ks (bits max_rows m) ≡ b

-- an equation that says nothing
abbrev pub idle : Equation
idle = record { mask = 0; odd = false }

-- the sum of two equations: bits that meet both meet it
abbrev pub both : Equation → Equation → Equation
both e f = record { mask = bit_xor e.mask f.mask; odd = xor e.odd f.odd }

-- the bits meet each equation of the system
abbrev pub Holds : List Bool → List Equation → Type 0
Holds ks es = (j : ℕ) → j < max_rows → Meets ks (get_or es j idle).mask (get_or es j idle).odd

-- the equation says nothing, or j is its lowest unknown
pub record LowestAt (j : ℕ) (e : Equation) : Type 0 where
  pub nothing : e.mask ≡ 0 → e.odd ≡ false
  pub own : (e.mask ≢ 0) → bit j e.mask ≡ true
  pub below : (i : ℕ) → i < j → bit i e.mask ≡ false

-- an equation for each unknown, which is the lowest of its own
abbrev pub Triangular : List Equation → Type 0
Triangular es = record { size : length es ≡ max_rows; lowest : (j : ℕ) → j < max_rows → LowestAt j (slice_index_or es j idle) }

-- a system after an equation was offered: it says that too, or, where that contradicts it, is as it was
unfoldable pub Took : List Equation → ℕ → Bool → List Equation → Bool → Type 0
Took before m b after true = (ks : List Bool) → Holds ks after ↔ (Holds ks before × Meets ks m b)
Took before m b after false = record { kept : after ≡ before; against : (ks : List Bool) → Holds ks before → Meets ks m b → ⊥ }

-- the bits choose rows with a letter at a place
abbrev pub Here : List Bool → Column → Letter → Type 0
Here ks c e = Meets ks c.x (clash e X) × Meets ks c.z (clash e Z)

-- a system after it was asked for a letter at a place: it says that too, or that contradicts the system before
unfoldable pub Asked : List Equation → Column → Letter → List Equation → Bool → Type 0
Asked before c e after true = (ks : List Bool) → Holds ks after ↔ (Holds ks before × Here ks c e)
Asked before c e after false = (ks : List Bool) → Holds ks before → Here ks c e → ⊥
