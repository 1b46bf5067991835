-- Tables with an entry for each place. Assumes nothing.
use Rattle.std.proofs.Common.{◌≡◌, ℕ, ◌+◌, ◌-◌, ◌<◌, ltb, leb, List, get_or, ap, ◌∙◌, arith}
use Rattle.std.proofs.lemmas.Bool.{and_from, lt-ltb, le-leb, cond-true}
use Rattle.pauli.specs.Limits.{max_places}
use Rattle.pauli.specs.Tables.{within, entry}

-- the entry of a place that the table has
pub entry_at : {A : Type 0} (xs : List A) (k : ℕ) (x : A) → k < max_places → entry xs (1 + k) x ≡ get_or xs k x
entry_at xs k x h =
    cond-true (within max_places (1 + k)) (get_or xs ((1 + k) - 1) x) x
    (and_from (ltb 0 (1 + k)) (leb (1 + k) max_places) (lt-ltb 0 (1 + k) (omega arith)) (le-leb (1 + k) max_places (omega arith)))
    ∙ ap (λ i. get_or xs i x) (omega arith)
