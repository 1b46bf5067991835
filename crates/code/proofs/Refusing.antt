-- The refusals of a text and of a row, one after another. Assumes nothing.
use Rattle.std.proofs.Common.{◌≡◌, ℕ, ◌+◌, ◌<◌, ◌≤◌, Bool, true, false, not, ◌≢◌, List, length, Some, None, Option, ap, ◌∙◌, ap₂, eq-eqb, ne_eqb, le-leb}
use borrow.Author.Tests.{lt-leb}
use Rattle.std.specs.Option.{option_map}
use Rattle.pauli.specs.Limits.{max_rows}
use Rattle.pauli.specs.Words.{Word, syndrome}
use Rattle.pauli.specs.Text.{fault, first, word_of}
use Rattle.independence.specs.Pivots.{is_sum}
use Rattle.answers.specs.declared.refusal.Refusal.{Refusal}
use Rattle.answers.specs.declared.refusal.Refusal.TheVariants.{Full, Length, NoLetter, Clash, Sum}
use Rattle.code.specs.Refusals.{or_else, refused_if, text_refusal, row_refusal}

module _ (n : ℕ) (text : List ℕ) where
  abbrev told_text : Bool → Option ℕ → Option Refusal
  told_text same o = or_else (refused_if (not same) (Length (length text))) (option_map NoLetter o)

  pub when_length : length text ≢ n → text_refusal n text ≡ Some (Length (length text))
  when_length h = ap (λ b. told_text b (fault text)) (ne_eqb (length text) n h)

  pub when_fault : length text ≡ n → (p : ℕ) → fault text ≡ Some p → text_refusal n text ≡ Some (NoLetter p)
  when_fault l p h = ap₂ told_text (eq-eqb (length text) n l) h

  pub when_spelt : length text ≡ n → fault text ≡ None → text_refusal n text ≡ None
  when_spelt l h = ap₂ told_text (eq-eqb (length text) n l) h

module _ (n : ℕ) (rows : List Word) (text : List ℕ) where
  -- the refusal from what each test answered
  abbrev told : Bool → Option Refusal → Option ℕ → Bool → Option Refusal
  told full worded clash sum =
      or_else (refused_if full (Full max_rows)) (or_else worded (or_else (option_map Clash clash) (refused_if sum (Sum (length rows + 1)))))

  pub when_full : max_rows ≤ length rows → row_refusal n rows text ≡ Some (Full max_rows)
  unfolding row_refusal
  when_full h = ap (λ b. told b (text_refusal n text) (first (syndrome rows (word_of text))) (is_sum rows (word_of text))) (le-leb max_rows (length rows) h)

  module _ (room : length rows < max_rows) where
    pub when_text : (e : Refusal) → text_refusal n text ≡ Some e → row_refusal n rows text ≡ Some e
    unfolding row_refusal
    when_text e h = ap₂ (λ a b. told a b (first (syndrome rows (word_of text))) (is_sum rows (word_of text))) (lt-leb max_rows (length rows) room) h

    module _ (spelt : text_refusal n text ≡ None) where
      to_clash : row_refusal n rows text ≡ told false None (first (syndrome rows (word_of text))) (is_sum rows (word_of text))
      unfolding row_refusal
      to_clash = ap₂ (λ a b. told a b (first (syndrome rows (word_of text))) (is_sum rows (word_of text))) (lt-leb max_rows (length rows) room) spelt

      pub when_clash : (k : ℕ) → first (syndrome rows (word_of text)) ≡ Some k → row_refusal n rows text ≡ Some (Clash k)
      when_clash k h = to_clash ∙ ap (λ o. told false None o (is_sum rows (word_of text))) h

      module _ (commutes : first (syndrome rows (word_of text)) ≡ None) where
        pub when_sum : is_sum rows (word_of text) ≡ true → row_refusal n rows text ≡ Some (Sum (length rows + 1))
        when_sum h = to_clash ∙ ap₂ (told false None) commutes h

        pub when_new : is_sum rows (word_of text) ≡ false → row_refusal n rows text ≡ None
        when_new h = to_clash ∙ ap₂ (told false None) commutes h
