-- The numbers that words write, as `parse` reads them. Assumes nothing.
use Rattle.std.proofs.Common.{◌≡◌, ℕ, ◌^◌, ◌<◌, true, List, [], ◌∷◌, ◌⊎◌, inl, inr, Some, None, Option, refl, sym, ◌∙◌, append_assoc, arith}
use Rattle.std.specs.Str.Parse.{IsNumeral, digits_value, without_leading_plus}
use Rattle.std.specs.Str.{all_ascii_digits}
use Rattle.std.proofs.lemmas.Str.Parse.{IsNumeralModel, numerals_by_value, tells_all_ascii_digits}
use Rattle.std.proofs.lemmas.Bool.{true≢false, cond_both, and_from, and_parts, lt-ltb, ltb-true}
use Rattle.numerals.specs.Numbers.{digits_number, number_in}

own : IsNumeralModel (λ ds. all_ascii_digits ds ≡ true) (digits_value 10)
own = numerals_by_value _ tells_all_ascii_digits

-- the text is digits that `parse` reads into so many bits
abbrev Reads : ℕ → List ℕ → Type 0
Reads bits ds = IsNumeral 10 ds × (digits_value 10 ds < 2 ^ bits)

-- the number is that of the digits, or there is none since they are not read
abbrev ReadOrNone : ℕ → List ℕ → Option ℕ → Type 0
ReadOrNone bits ds o = ((o ≡ Some (digits_value 10 ds)) × Reads bits ds) ⊎ ((o ≡ None) × (Reads bits ds → ⊥))

digits_cases : (bits : ℕ) (ds : List ℕ) → ReadOrNone bits ds (digits_number bits ds)
digits_cases bits [] = inr (refl, λ n. absurd (omega (arith, n.0.0)))
digits_cases bits (d ∷ ds) =
    cond_both _ (Some (digits_value 10 (d ∷ ds))) None (ReadOrNone bits (d ∷ ds))
    (λ e. let p = and_parts _ _ e in inl (refl, ((omega arith, own.to (d ∷ ds) p.0), ltb-true _ _ p.1)))
    (λ e. inr (refl, λ n. absurd (true≢false (sym (and_from _ _ (own.from (d ∷ ds) n.0.1) (lt-ltb _ _ n.1)) ∙ e))))

-- the number of a word, by what `parse` reads of it
pub number_cases : (bits : ℕ) (word : List ℕ) → ReadOrNone bits (without_leading_plus word) (number_in bits word)
unfolding number_in
number_cases bits word = digits_cases bits (without_leading_plus word)

-- what the loop over prices needs of each word
pub ruleset price_taken = (number_cases, append_assoc)

-- what the loop over marks needs of each word
pub ruleset places_taken = (number_cases)
