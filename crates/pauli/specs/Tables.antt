-- Tables with an entry for each place that a word may have, places counted from 1. Assumes nothing.
use Rattle.std.specs.Prelude.{ℕ, ◌-◌, Bool, cond, ◌&&◌, List, nat_le, nat_lt, slice_index_or, slice_set}
use Rattle.pauli.specs.Limits.{max_places}

-- whether a place is one of 1 to n
abbrev pub within : ℕ → ℕ → Bool
within n p = nat_lt 0 p && nat_le p n

-- the entry of a place, and the given value at a place that the table does not have
abbrev pub entry : {A : Type 0} → List A → ℕ → A → A
entry xs p x = cond (within max_places p) (slice_index_or xs (p - 1) x) x

-- a table with the entry of one place changed; a place that it does not have is passed over
abbrev pub put : {A : Type 0} → List A → ℕ → A → List A
put xs p x = cond (within max_places p) (slice_set xs (p - 1) x) xs
