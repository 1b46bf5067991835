-- The refusal of a row in plain terms. Assumes nothing.
use Rattle.std.proofs.Common.{◌≡◌, ℕ, ◌+◌, ◌-◌, ◌<◌, ◌≤◌, Bool, true, false, cond, not, eqb, leb, List, [], map, length, get_or, Some, None, Option, sym, refl, ap, ◌∙◌, subst, arith, eqb-true, le-leb, leb-false, leb-true}
use borrow.Author.Tests.{eqb-false}
use Rattle.std.specs.Option.{option_map}
use Rattle.std.proofs.lemmas.List.{length-map, get_or-map}
use Rattle.pauli.specs.Limits.{max_places, max_rows}
use Rattle.pauli.specs.Words.{Word, odd, clash_count, Long, syndrome}
use Rattle.pauli.specs.Text.{fault, first, is_fault, word_of}
use Rattle.pauli.proofs.Firsts.{first-true, first-none}
use Rattle.pauli.proofs.WordLaws.{star_counts}
use Rattle.independence.specs.Pivots.{is_sum}
use Rattle.answers.specs.declared.refusal.Refusal.TheVariants.{Full, Length, NoLetter, Clash, Sum}
use Rattle.code.specs.Refusals.{or_else, refused_if, row_refusal, text_refusal, clash_refusal, sum_refusal}
use Rattle.code.specs.Meanings.{Means}
use Rattle.code.proofs.Sounds.{syndrome-at}
use Rattle.code.proofs.Checking.{length-word, length-syndrome, sum_some, sum-none}

module _ (n : ℕ) (rows : List Word) (text : List ℕ) (fits : n ≤ max_places) (few : length rows ≤ max_rows) (long : Long n rows) where
  abbrev w : Word
  w = word_of text

  parity : (i : ℕ) (b : Bool) → get_or (syndrome rows w) i false ≡ b → odd (clash_count (get_or rows i []) w) ≡ b
  parity i b h = sym (star_counts (get_or rows i []) w) ∙ (syndrome-at rows w i ∙ h)

  named : (i : ℕ) (b : Bool) → i < length text → get_or (map is_fault text) i false ≡ b → is_fault (get_or text i 0) ≡ b
  named i b l h = sym (get_or-map is_fault text i 0 false l) ∙ h

  module _ (room : length rows < max_rows) where
    module _ (same : length text ≡ n) where
      short : length w ≡ n
      short = length-word text ∙ same

      module _ (clean : first (map is_fault text) ≡ None) where
        sum_means : first (syndrome rows w) ≡ None → (b : Bool) → is_sum rows w ≡ b → Means n rows text (refused_if b (Sum (length rows + 1)))
        sum_means c true e = let s = sum_some n rows w long short e in (refl, record { bits = s.0; each = s.1; sum = s.2 })
        sum_means c false e =
            record {
              room = room;
              long = same;
              letters = λ i l. named i false (omega arith) (first-none (map is_fault text) clean i);
              even = λ i l. parity i false (first-none (syndrome rows w) c i);
              new = sum-none n rows w long short e;
            }

        clash_means : (o : Option ℕ) → first (syndrome rows w) ≡ o → Means n rows text (or_else (option_map Clash o) (sum_refusal rows w))
        clash_means None e = sum_means e (is_sum rows w) refl
        clash_means (Some k) e =
            let f = first-true (syndrome rows w) k e in
            record {
              from = f.from;
              to = omega (arith, f.to, length-syndrome rows w);
              here = parity (k - 1) true f.here;
              before = λ i l. parity i false (f.before i l);
            }

      letter_means : (o : Option ℕ) → first (map is_fault text) ≡ o
          → Means n rows text (or_else (option_map NoLetter o) (or_else (clash_refusal rows w) (sum_refusal rows w)))
      letter_means None e = clash_means e (first (syndrome rows w)) refl
      letter_means (Some k) e =
          let f = first-true (map is_fault text) k e in
          let t : k ≤ length text = omega (arith, f.to, length-map text is_fault) in
          record {
            from = f.from;
            to = t;
            here = named (k - 1) true (omega (arith, f.from)) f.here;
            before = λ i l. named i false (omega arith) (f.before i l);
          }

      -- a text of the code's length is not too long
      all_read : first (map is_fault text) ≡ fault text
      all_read = sym (ap (λ b. cond b (first (map is_fault text)) (Some (max_places + 1))) (le-leb (length text) max_places (omega arith)))

    length_means : (b : Bool) → eqb (length text) n ≡ b
        → Means n rows text
        (or_else (or_else (refused_if (not b) (Length (length text))) (option_map NoLetter (fault text))) (or_else (clash_refusal rows w) (sum_refusal rows w)))
    length_means false e = (refl, eqb-false (length text) n e)
    length_means true e =
        let same = eqb-true (length text) n e in
        subst (λ (o : Option ℕ). Means n rows text (or_else (option_map NoLetter o) (or_else (clash_refusal rows w) (sum_refusal rows w)))) (all_read same)
        (letter_means same (first (map is_fault text)) refl)

  full_means : (b : Bool) → leb max_rows (length rows) ≡ b
      → Means n rows text (or_else (refused_if b (Full max_rows)) (or_else (text_refusal n text) (or_else (clash_refusal rows w) (sum_refusal rows w))))
  full_means true e = (refl, omega (arith, leb-true max_rows (length rows) e))
  full_means false e = length_means (leb-false max_rows (length rows) e) (eqb (length text) n) refl

  pub row_means : Means n rows text (row_refusal n rows text)
  unfolding row_refusal
  row_means = full_means (leb max_rows (length rows)) refl
