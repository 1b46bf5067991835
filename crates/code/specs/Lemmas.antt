-- What the comparison of codes has to show as a comparison; it is proved, and nothing to believe. Assumes nothing.
use Rattle.std.specs.Cmp.{IsPartialEquivalence, and_per, on_per, partial_equiv_from_equiv, nat_eq_equiv}
use Rattle.std.specs.Cmp.Lexicographic.{lists_per}
use Rattle.pauli.specs.Letters.{number}
use Rattle.code.specs.Codes.{rows_of, same_code, places_of}

-- the comparison of codes is symmetric and transitive
pub same_code-laws : IsPartialEquivalence same_code
same_code-laws =
    let numbers = partial_equiv_from_equiv nat_eq_equiv in
    and_per (on_per places_of numbers) (on_per rows_of (lists_per (lists_per (on_per number numbers))))
