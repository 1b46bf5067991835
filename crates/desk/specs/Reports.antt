-- What a word measures under a channel, under the layers over it, and by each measure. Assumes nothing.
use Rattle.std.specs.Prelude.{◌≡◌, ℕ, Bool, List, map, Some, None, Option, codes, vec_items}
use Rattle.std.specs.Fmt.{◌++?◌}
use Rattle.pauli.specs.Letters.{number}
use Rattle.pauli.specs.Text.{fault, word_of}
use Rattle.measure.specs.Scale.{Scale}
use Rattle.measure.specs.Measures.{sums, worsts}
use Rattle.measure.specs.declared.sum.Sum.{Sum}
use Rattle.channel.specs.Prices.{Prices, measure_of_numbers}
use Rattle.channel.specs.Channels.{flat, tabled}
use Rattle.layers.specs.Layers.{erased, shifted, worst_of}
use Rattle.desk.specs.declared.report.Quote.{Quote}
use Rattle.desk.specs.declared.report.Quotes.{Quotes}
use Rattle.desk.specs.declared.desk.Desk.{Desk}
use Rattle.desk.specs.declared.desk.Report.{Report}
use Rattle.desk.specs.declared.desk.Reply.{Reply}
use Rattle.desk.specs.declared.desk.Reply.TheVariants.{Priced, NoWord, Unread}

-- the measures of a word of letter numbers by the prices, with marked places erased, with letters shifted, and with both
pub record Quoted {V : Type 0} (s : Scale V) (c : Prices V) (marks : List Bool) (shifts word : List ℕ) (r : Quote V) : Type 0 where
  pub plain_is : r.plain ≡ measure_of_numbers s c word
  pub erased_is : r.erased ≡ measure_of_numbers s (erased s marks c) word
  pub shifted_is : r.shifted ≡ measure_of_numbers s (shifted shifts c) word
  pub both_is : r.both ≡ measure_of_numbers s (erased s marks (shifted shifts c)) word

-- a quote as text, where its measures are text
abbrev pub quote_text : {V : Type 0} → (V → Option (List ℕ)) → Quote V → Option (List ℕ)
quote_text text q =
    text q.plain ++? Some (codes ", erased ") ++? text q.erased ++? Some (codes ", shifted ") ++? text q.shifted ++? Some (codes ", both ") ++? text q.both

-- how many places are priced, and the measures by the total of the prices and by the largest of them
pub record Both (c : Prices Sum) (marks : List Bool) (shifts word : List ℕ) (r : Quotes) : Type 0 where
  pub places_is : r.places ≡ c.priced
  pub sum_is : Quoted sums c marks shifts word r.sum
  pub worst_is : Quoted worsts (worst_of c) marks shifts word r.worst

-- under the flat prices of a desk, and under its table
pub record Reported (desk : Desk) (word : List ℕ) (r : Report) : Type 0 where
  pub flat_is : Both (flat sums desk.values) desk.overlay.marks.marks desk.overlay.shifts.numbers word r.flat
  pub table_is : Both (tabled sums (vec_items desk.entries)) desk.overlay.marks.marks desk.overlay.shifts.numbers word r.table

-- what a line that is not a setting comes to: its word is priced, or it is no word from some place on
abbrev pub WordReply : Desk → List ℕ → Reply → Type 0
WordReply desk line (Priced report) = (fault line ≡ None) × Reported desk (map number (word_of line)) report
WordReply desk line (NoWord place) = fault line ≡ Some place
WordReply desk line Unread = ⊥
