-- The laws of the checks of a row's text. Assumes nothing.
use Rattle.std.proofs.Common.{◌≡◌, ℕ, ◌+◌, ◌<◌, true, false, leb, List, length, Some, None, Option, sym, ap, ◌∙◌, leb-false, leb-true}
use Rattle.pauli.specs.Limits.{max_rows}
use Rattle.pauli.specs.Words.{Word, syndrome}
use Rattle.pauli.specs.Text.{first, word_of}
use Rattle.independence.specs.Pivots.{is_sum}
use Rattle.pauli.proofs.Firsts.{first-none}
use Rattle.code.specs.declared.code.Code.{Code}
use Rattle.answers.specs.declared.refusal.Refusal.{Refusal}
use Rattle.answers.specs.declared.refusal.Refusal.TheVariants.{Full, Clash, Sum}
use Rattle.code.specs.Refusals.{text_refusal, row_refusal}
use Rattle.code.specs.Meanings.{Means}
use Rattle.code.specs.Codes.{places_of, rows_of, front}
use Rattle.code.specs.Checks.{Spelt, Passed}
use Rattle.code.proofs.Sounds.{syndrome-at}
use Rattle.code.proofs.Checking.{rows_count, rows_long, rows_few, sum-none}
use Rattle.code.proofs.Refusing.{when_full, when_text, when_clash, when_sum, when_new}
use Rattle.code.proofs.Meaning.{row_means as refusal_means}

module _ (c : Code) (text ns : List ℕ) (room : false ≡ leb max_rows (length (rows_of c))) (spelt : Spelt c.places text ns) where
  abbrev rs : List Word
  rs = rows_of c

  space : length rs < max_rows
  space = leb-false max_rows (length rs) (sym room)

  -- what is known of the table's word is known of the text's
  clash-told : (o : Option ℕ) → o ≡ first (syndrome rs (front c.places ns)) → first (syndrome rs (word_of text)) ≡ o
  clash-told o h = sym (h ∙ ap (λ w. first (syndrome rs w)) spelt.read)

  module _ (none : None ≡ first (syndrome rs (front c.places ns))) where
    sum_told : true ≡ is_sum rs (front c.places ns) → is_sum rs (word_of text) ≡ true
    sum_told h = sym (h ∙ ap (is_sum rs) spelt.read)

    passed : false ≡ is_sum rs (front c.places ns) → Passed c.places rs text ns
    passed h =
        record {
          fits =
              record {
                room = space;
                long = spelt.wide;
                commutes = λ i. syndrome-at rs (front c.places ns) i ∙ first-none (syndrome rs (front c.places ns)) (sym none) i;
                new = sum-none c.places rs (front c.places ns) (rows_long c) spelt.wide (sym h);
              };
          read = spelt.read;
          none = when_new c.places rs text space spelt.none (clash-told None none) (sym (h ∙ ap (is_sum rs) spelt.read));
        }

-- ---- each check, and what the refusal of a row then is

module _ (c : Code) (text : List ℕ) where
  pub row_full : true ≡ leb max_rows (length (rows_of c)) → row_refusal (places_of c) (rows_of c) text ≡ Some (Full max_rows)
  row_full h = when_full c.places (rows_of c) text (leb-true max_rows (length (rows_of c)) (sym h))

  pub row_means : Means (places_of c) (rows_of c) text (row_refusal (places_of c) (rows_of c) text)
  row_means = refusal_means c.places (rows_of c) text c.few (rows_few c) (rows_long c)

  module _ (room : false ≡ leb max_rows (length (rows_of c))) where
    pub row_worded : (e : Refusal) → text_refusal (places_of c) text ≡ Some e → row_refusal (places_of c) (rows_of c) text ≡ Some e
    row_worded e = when_text c.places (rows_of c) text (leb-false max_rows (length (rows_of c)) (sym room)) e

    module _ (ns : List ℕ) (spelt : Spelt (places_of c) text ns) where
      pub row_clash : (k : ℕ) → Some k ≡ first (syndrome (rows_of c) (front (places_of c) ns))
          → row_refusal (places_of c) (rows_of c) text ≡ Some (Clash k)
      row_clash k q = when_clash c.places (rows_of c) text (space c text ns room spelt) spelt.none k (clash-told c text ns room spelt (Some k) q)

      module _ (none : None ≡ first (syndrome (rows_of c) (front (places_of c) ns))) where
        pub row_sum : true ≡ is_sum (rows_of c) (front (places_of c) ns)
            → row_refusal (places_of c) (rows_of c) text ≡ Some (Sum (c.rows + 1))
        row_sum b =
            when_sum c.places (rows_of c) text (space c text ns room spelt) spelt.none (clash-told c text ns room spelt None none)
            (sum_told c text ns room spelt none b)
            ∙ ap (λ k. Some (Sum (k + 1))) (rows_count c)

        pub row_passed : false ≡ is_sum (rows_of c) (front (places_of c) ns) → Passed (places_of c) (rows_of c) text ns
        row_passed = passed c text ns room spelt none
