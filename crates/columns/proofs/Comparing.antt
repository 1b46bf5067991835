-- That the comparison of tables is right. Assumes nothing.
use Rattle.std.proofs.Common.{◌≡◌, ℕ, ◌<◌, true, false, eqb, ◌&&◌, List, length, get_or, Decides, refl, ap, ap₂}
use mathlib.Core.Bool.{false≢true}
use Rattle.std.specs.Bool.{one_answer}
use Rattle.std.proofs.lemmas.List.{ext_get_or}
use Rattle.std.specs.Cmp.{unsigned_Decides, first_so, second_so}
use Rattle.std.specs.Cmp.Lexicographic.{pointwise_decides}
use Rattle.columns.specs.declared.column.Column.{Column}
use Rattle.columns.specs.Columns.{hollow, same_columns}

-- the test of two columns is right
column-decides : (c d : Column) → Decides (eqb c.x d.x && eqb c.z d.z) (c ≡ d)
column-decides c d =
    let x = unsigned_Decides c.x d.x in
    let z = unsigned_Decides c.z d.z in (
      λ e. ap₂ (λ (m n : ℕ). let r : Column = record { x = m; z = n } in r) (x.0 (first_so _ _ e)) (z.0 (second_so _ _ e)),
      λ e. ap₂ ◌&&◌ (x.1 (ap (λ (r : Column). r.x) e)) (z.1 (ap (λ (r : Column). r.z) e)),
    )

-- the test of two tables is right
pub same_columns-decides : (a b : List Column) → Decides (same_columns a b) (a ≡ b)
same_columns-decides a b = pointwise_decides column-decides a b

-- ---- the comparison, column by column

pub other_column : (a b : List Column) (i : ℕ) → (get_or a i hollow ≡ get_or b i hollow → ⊥) → false ≡ same_columns a b
other_column a b i n =
    one_answer false (same_columns a b) (λ h. absurd (false≢true h), λ h. absurd (n (ap (λ (t : List Column). get_or t i hollow) h))) (same_columns-decides a b)

pub all_columns : (a b : List Column) → length a ≡ length b → ((k : ℕ) → k < length a → get_or a k hollow ≡ get_or b k hollow) → true ≡ same_columns a b
all_columns a b l h = one_answer true (same_columns a b) (λ _. ext_get_or hollow a b l h, λ _. refl) (same_columns-decides a b)
