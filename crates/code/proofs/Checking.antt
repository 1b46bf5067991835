-- What the checks of a text tell, and the table of a code with a row more. Assumes nothing.
use Rattle.std.proofs.Common.{◌≡◌, ℕ, suc, ◌+◌, ◌≤◌, Bool, true, false, List, [], ◌∷◌, ◌++◌, length, take, is_some, Some, None, Option, unwrap_or, sym, refl, ap, ◌∙◌, subst, ap₂, arith}
use mathlib.Core.Bool.{false≢true}
use Rattle.std.proofs.lemmas.List.{length-map, length-take-le}
use Rattle.pauli.specs.Limits.{max_places, max_rows}
use Rattle.pauli.specs.declared.letter.Letter.TheVariants.{I}
use Rattle.pauli.specs.Words.{Word, Long, select, syndrome}
use Rattle.pauli.specs.Letters.{letter}
use Rattle.pauli.specs.Text.{word_of, letters_of, named, Read}
use Rattle.pauli.proofs.Reading.{read_letters}
use Rattle.independence.specs.Independence.{Commuting, Independent}
use Rattle.independence.specs.Pivots.{is_sum, addends, Decided}
use Rattle.independence.proofs.Pivots.{sums_decided}
use Rattle.independence.proofs.Independence.{explained}
use Rattle.columns.specs.declared.column.Column.{Column}
use Rattle.columns.specs.Masks.{bits, set_of}
use Rattle.columns.specs.Columns.{rows, clashes, with_row, Within}
use Rattle.elimination.specs.Sums.{Solved}
use Rattle.elimination.proofs.Adding.{rows-within}
use Rattle.columns.proofs.Clashing.{clashes-syndrome, clashes_below, clashes-take}
use Rattle.columns.proofs.Digits.{bits_set, set_bits}
use Rattle.columns.proofs.Marking.{length-rows, long_rows, within-take}
use Rattle.code.specs.Table.{Unused, words_of}
use Rattle.code.specs.declared.code.Code.{Code}
use Rattle.code.specs.Codes.{places_of, rows_of, front, Admitted}
use Rattle.code.specs.Checks.{Spelt, Fits}
use Rattle.code.proofs.Sounds.{added_rows, added_long, added_within, added_unused, added_commute, added_free}
use Rattle.code.proofs.Refusing.{when_spelt}

pub length-word : (text : List ℕ) → length (word_of text) ≡ length text
length-word text = length-map text (λ b. unwrap_or (named b) I)

pub length-syndrome : (rs : List Word) (w : Word) → length (syndrome rs w) ≡ length rs
length-syndrome [] w = refl
length-syndrome (r ∷ rs) w = ap suc (length-syndrome rs w)

-- a word is a sum of rows just where some choice of them adds to it
module _ (n : ℕ) (rs : List Word) (w : Word) (long : Long n rs) (short : length w ≡ n) where
  decided : Decided n rs w
  decided = sums_decided n rs w long short

  pub some_sum : (ks : List Bool) → select n ks rs ≡ w → is_sum rs w ≡ true
  some_sum ks e = go (addends rs w) refl
    where
      go : (o : Option (List Bool)) → addends rs w ≡ o → is_some o ≡ true
      go (Some js) h = refl
      go None h = absurd (decided.complete h ks e)

  pub no_sum : ((ks : List Bool) → select n ks rs ≡ w → ⊥) → is_sum rs w ≡ false
  no_sum f = go (addends rs w) refl
    where
      go : (o : Option (List Bool)) → addends rs w ≡ o → is_some o ≡ false
      go (Some js) h = absurd (f js (decided.sound js h).1)
      go None h = refl

  pub sum_some : is_sum rs w ≡ true → (ks : List Bool) × (length ks ≡ length rs) × (select n ks rs ≡ w)
  sum_some e = go (addends rs w) refl
    where
      go : (o : Option (List Bool)) → addends rs w ≡ o → (ks : List Bool) × (length ks ≡ length rs) × (select n ks rs ≡ w)
      go (Some ks) h = (ks, (decided.sound ks h).0, (decided.sound ks h).1)
      go None h = absurd (false≢true (sym (ap is_some h) ∙ e))

  pub sum-none : is_sum rs w ≡ false → (ks : List Bool) → select n ks rs ≡ w → ⊥
  sum-none e ks h = false≢true (sym e ∙ some_sum ks h)

-- a text of n letters that was read
pub told_spelt : (n : ℕ) (text ns : List ℕ) → length text ≡ n → Read text ns → Spelt n text ns
told_spelt n text ns l r =
    let e : front n ns ≡ word_of text = ap (λ k. front k ns) (sym l) ∙ read_letters text ns r.numbers_are in
    record { long = l; wide = ap length e ∙ (length-word text ∙ l); none = when_spelt n text l r.none; read = e }

module _ (self : Code) where
  abbrev columns : List Column
  columns = take self.places self.columns.table

  pub rows_count : length (rows_of self) ≡ self.rows
  rows_count = length-rows self.rows columns

  length-columns : length columns ≡ self.places
  length-columns = let f = self.few in let l = self.long in length-take-le self.places self.columns.table (omega arith)

  pub rows_long : Long self.places (rows_of self)
  rows_long = long_rows self.places self.rows columns length-columns

  pub rows_few : length (rows_of self) ≤ max_rows
  rows_few = let c = rows_count in let r = self.room in omega arith

  pub admitted : Admitted (places_of self) (rows_of self)
  admitted =
      record {
        some = self.some;
        fits = self.few;
        few = rows_few;
        long = rows_long;
        commute = self.commute;
        free = self.free;
        explained = explained self.places (rows_of self) rows_long self.free;
      }

  columns-within : Within self.rows columns
  columns-within = within-take self.rows self.places self.columns.table self.within

  -- a sum of all the rows of the table is one of the code's rows
  narrow : (ks : List Bool) → select (length columns) ks (rows max_rows columns) ≡ select self.places ks (rows_of self)
  narrow ks = rows-within self.rows ks columns self.room columns-within ∙ ap (λ m. select m ks (rows_of self)) length-columns

  -- the rows that clash with a word in the columns that are used
  pub odd_columns : (w : Word) → clashes w columns ≡ set_of (syndrome (rows_of self) w)
  odd_columns w = sym (set_bits self.rows (clashes w columns) (clashes_below self.rows w columns columns-within)) ∙ ap set_of (clashes-syndrome self.rows w columns)

  pub odd_set : (ns : List ℕ) (odd : ℕ) → length ns ≡ self.places → odd ≡ clashes (letters_of ns) self.columns.table
      → odd ≡ set_of (syndrome (rows_of self) (letters_of ns))
  odd_set ns odd l e =
      let w : Word = letters_of ns in
      let short : length w ≤ self.places = omega (arith, length-map ns letter) in
      e ∙ sym (clashes-take self.places w self.columns.table short) ∙ odd_columns w

  pub odd_few : (w : Word) → length (syndrome (rows_of self) w) ≤ max_rows
  odd_few w = omega (arith, length-syndrome (rows_of self) w, rows_few)

  pub told_bits : (w : Word) (odd : ℕ) → odd ≡ set_of (syndrome (rows_of self) w) → bits self.rows odd ≡ syndrome (rows_of self) w
  told_bits w odd e = ap₂ bits (sym (length-syndrome (rows_of self) w ∙ rows_count)) e ∙ bits_set (syndrome (rows_of self) w)

  pub summed : (ns : List ℕ) → length ns ≡ self.places → (found : Option ℕ) → Solved columns ns found
      → is_some found ≡ is_sum (rows_of self) (letters_of ns)
  summed ns l (Some m) h =
      sym (some_sum self.places (rows_of self) (letters_of ns) rows_long (length-map ns letter ∙ l) (bits max_rows m) (sym (narrow (bits max_rows m)) ∙ h))
  summed ns l None h =
      sym (no_sum self.places (rows_of self) (letters_of ns) rows_long (length-map ns letter ∙ l) (λ ks q. h ks (narrow ks ∙ q)))

  -- ---- a word that fits, put into the table

  module _ (w : Word) (fits : Fits self.places (rows_of self) w)
      (table : List Column) (is : table ≡ with_row self.rows w self.columns.table) where
    pub put_room : self.rows + 1 ≤ max_rows
    put_room = let c = rows_count in let r = fits.room in omega arith

    pub put_long : length table ≡ max_places
    put_long = ap length is ∙ added_long self.places self.rows self.columns.table w self.within self.few self.long fits.long

    pub put-within : Within (self.rows + 1) table
    put-within =
        subst (λ (t : List Column). Within (self.rows + 1) t) (sym is)
        (added_within self.places self.rows self.columns.table w self.within self.few self.long fits.long)

    pub put_unused : Unused self.places table
    put_unused =
        subst (λ (t : List Column). Unused self.places t) (sym is)
        (added_unused self.places self.rows self.columns.table w self.within self.few self.long fits.long self.unused)

    pub put-rows : words_of self.places (self.rows + 1) table ≡ rows_of self ++ (w ∷ [])
    put-rows =
        ap (words_of self.places (self.rows + 1)) is
        ∙ added_rows self.places self.rows self.columns.table w self.within self.few self.long fits.long

    pub put_commute : Commuting (words_of self.places (self.rows + 1) table)
    put_commute =
        subst (λ (t : List Column). Commuting (words_of self.places (self.rows + 1) t)) (sym is)
        (added_commute self.places self.rows self.columns.table w self.within self.few self.long fits.long self.commute fits.commutes)

    pub put_free : Independent self.places (words_of self.places (self.rows + 1) table)
    put_free =
        subst (λ (t : List Column). Independent self.places (words_of self.places (self.rows + 1) t)) (sym is)
        (added_free self.places self.rows self.columns.table w self.within self.few self.long fits.long self.free fits.new)
