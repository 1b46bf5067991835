-- That codes compare as their places and rows do. Assumes nothing.
use Rattle.std.proofs.Common.{◌≡◌, Bool, true, false, ◌&&◌, ◌≢◌, sym, ap, ◌∙◌, ap₂}
use Rattle.std.specs.Bool.{Decides, one_answer}
use Rattle.std.specs.Cmp.{unsigned_Decides, first_so, second_so}
use Rattle.std.specs.Cmp.Lexicographic.{pointwise_decides}
use Rattle.columns.specs.Columns.{same_columns}
use Rattle.columns.proofs.Comparing.{same_columns-decides}
use Rattle.code.proofs.Canonical.{rows_by_table, same-places-rows, rows_number}
use mathlib.Core.Bool.{false≢true}
use Rattle.pauli.specs.declared.letter.Letter.{Letter}
use Rattle.pauli.specs.Letters.{number, letter, same}
use Rattle.pauli.proofs.LetterLaws.{letter-number}
use Rattle.code.specs.declared.code.Code.{Code}
use Rattle.code.specs.Codes.{places_of, rows_of, same_code}

-- the test of two letters is right
same-decides : (a b : Letter) → Decides (same a b) (a ≡ b)
same-decides a b = (
  λ e. sym (letter-number a) ∙ (ap letter ((unsigned_Decides (number a) (number b)).0 e) ∙ letter-number b),
  λ e. (unsigned_Decides (number a) (number b)).1 (ap number e),
)

-- the test of two codes is right
pub same_code-decides : (a b : Code) → Decides (same_code a b) ((places_of a ≡ places_of b) × (rows_of a ≡ rows_of b))
same_code-decides a b =
    let places = unsigned_Decides (places_of a) (places_of b) in
    let rows = pointwise_decides (pointwise_decides same-decides) (rows_of a) (rows_of b) in (
      λ e. (places.0 (first_so _ _ e), rows.0 (second_so _ _ e)),
      λ h. ap₂ ◌&&◌ (places.1 h.0) (rows.1 h.1),
    )

-- ---- what each step of the comparison tells

module _ (a b : Code) where
  abbrev Same : Type 0
  Same = (places_of a ≡ places_of b) × (rows_of a ≡ rows_of b)

  pub told : (r : Bool) → Decides r Same → r ≡ same_code a b
  told r h = one_answer r (same_code a b) h (same_code-decides a b)

  pub other_places : a.places ≢ b.places → false ≡ same_code a b
  other_places n = told false (λ h. absurd (false≢true h), λ h. absurd (n h.0))

  pub other_rows : a.rows ≢ b.rows → false ≡ same_code a b
  other_rows n = told false (λ h. absurd (false≢true h), λ h. absurd (n (rows_number a b h.1)))

  -- where the sizes are the same, the tables decide
  module _ (r : Bool) (p : a.places ≡ b.places) (q : a.rows ≡ b.rows)
      (e : r ≡ same_columns a.columns.table b.columns.table) where
    decided : Decides r Same
    decided =
        let t = rw (← e) at (same_columns-decides a.columns.table b.columns.table) in
        (λ h. (p, rows_by_table a b p q (t.0 h)), λ h. t.1 (same-places-rows a b p q h.1))

    pub tables_told : r ≡ same_code a b
    tables_told = told r decided

  pub same_places : (r : Bool) → r ≡ same_code a b → r ≡ true → places_of a ≡ places_of b
  same_places r e h = ((rw (← e) at (same_code-decides a b)).0 h).0

  pub same_rows : (r : Bool) → r ≡ same_code a b → r ≡ true → rows_of a ≡ rows_of b
  same_rows r e h = ((rw (← e) at (same_code-decides a b)).0 h).1

  pub test_passed : (r : Bool) → r ≡ same_code a b → places_of a ≡ places_of b → rows_of a ≡ rows_of b → r ≡ true
  test_passed r e p q = (rw (← e) at (same_code-decides a b)).1 (p, q)
