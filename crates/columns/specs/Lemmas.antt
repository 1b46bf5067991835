-- What the comparison of tables has to show as a comparison; it is proved, and nothing to believe. Assumes nothing.
use Rattle.std.specs.Ordering.{on}
use Rattle.std.specs.Cmp.{IsEquivalence, IsPartialEquivalence, and_equiv, on_equiv, partial_equiv_from_equiv, nat_eq_equiv}
use Rattle.std.specs.Cmp.Lexicographic.{lists_equiv}
use Rattle.columns.specs.Columns.{same_columns}
use Rattle.columns.specs.declared.column.Column.{Column}
use Rattle.columns.specs.declared.table.Columns.{Columns}

same_columns-equivalence : IsEquivalence same_columns
same_columns-equivalence = lists_equiv (and_equiv (on_equiv (λ (c : Column). c.x) nat_eq_equiv) (on_equiv (λ (c : Column). c.z) nat_eq_equiv))

-- it is an equivalence
pub same_tables-equivalence : IsEquivalence (on (λ (c : Columns). c.table) same_columns)
same_tables-equivalence = on_equiv (λ (c : Columns). c.table) same_columns-equivalence

pub same_tables-laws : IsPartialEquivalence (on (λ (c : Columns). c.table) same_columns)
same_tables-laws = partial_equiv_from_equiv same_tables-equivalence
