-- What a line does to the desk. Assumes nothing.
use Rattle.std.specs.Prelude.{◌≡◌, ℕ, false, List, [], ◌∷◌, length, replicate, Ok, Err, Some, None, vec_items, Option, Result, MatchResult, ◌≢◌}
use Rattle.std.specs.declared.alloc.AllocError.{AllocError}
use Rattle.pauli.specs.Limits.{max_places}
use Rattle.pauli.specs.Text.{fault, Read}
use Rattle.measure.specs.Measures.{as_sum}
use Rattle.measure.specs.declared.sum.Sum.{Sum}
use Rattle.desk.specs.Lines.{Parted}
use Rattle.numerals.specs.Numbers.{prices_in, marks_in}
use Rattle.desk.specs.Reports.{WordReply}
use Rattle.desk.specs.declared.desk.Desk.{Desk}
use Rattle.desk.specs.declared.desk.Reply.{Reply}
use Rattle.desk.specs.declared.desk.Reply.TheVariants.{Unread}
use Rattle.desk.specs.declared.desk.NotSet.{NotSet}
use Rattle.desk.specs.declared.desk.NotSet.TheVariants.{NotRead, NoMemory}
use Rattle.desk.specs.declared.line.Kind.{Kind}
use Rattle.desk.specs.declared.line.Kind.TheVariants.{Flat, Table, Marks, Shifts, Word}

-- I is free and the others cost 1, the table is empty, no place is marked and no letter shifted
pub record NewDesk (desk : Desk) : Type 0 where
  pub values_are : desk.values ≡ as_sum 0 ∷ as_sum 1 ∷ as_sum 1 ∷ as_sum 1 ∷ []
  pub entries_are : vec_items desk.entries ≡ []
  pub marks_are : desk.overlay.marks.marks ≡ replicate max_places false
  pub shifts_are : desk.overlay.shifts.numbers ≡ replicate max_places 0

-- the flat prices become the four that a text writes, and nothing else changes
pub record FlatSet (text : List ℕ) (before after : Desk) : Type 0 where
  pub values_are : prices_in text ≡ Some after.values
  pub four : length after.values ≡ 4
  pub entries_kept : after.entries ≡ before.entries
  pub overlay_kept : after.overlay ≡ before.overlay

-- the table becomes the prices that a text writes, and nothing else changes
pub record TableSet (text : List ℕ) (before after : Desk) : Type 0 where
  pub entries_are : prices_in text ≡ Some (vec_items after.entries)
  pub values_kept : after.values ≡ before.values
  pub overlay_kept : after.overlay ≡ before.overlay

-- the marks become those at the places that a text writes, and nothing else changes
pub record MarksSet (text : List ℕ) (before after : Desk) : Type 0 where
  pub marks_are : marks_in text ≡ Some after.overlay.marks.marks
  pub values_kept : after.values ≡ before.values
  pub entries_kept : after.entries ≡ before.entries
  pub shifts_kept : after.overlay.shifts ≡ before.overlay.shifts

-- the shifts become the letters that a text spells, and nothing else changes
pub record ShiftsSet (text : List ℕ) (before after : Desk) : Type 0 where
  pub shifts_are : Read text after.overlay.shifts.numbers
  pub values_kept : after.values ≡ before.values
  pub entries_kept : after.entries ≡ before.entries
  pub marks_kept : after.overlay.marks ≡ before.overlay.marks

-- how a setting is answered: with nothing where it is taken, and otherwise as not read, or by the error of memory
abbrev pub answered : Result (Unit {0}) NotSet → Result (Option Reply) AllocError
answered (Ok _) = Ok None
answered (Err NotRead) = Ok (Some Unread)
answered (Err (NoMemory error)) = Err error

-- what a setting comes to: it is taken, with no reply; or it is not read, and the desk is as it was
abbrev pub Setting : Type 0 → Type 0 → Desk → Option Reply → Desk → Type 0
Setting taken unread before None after = taken
Setting taken unread before (Some reply) after = unread × (reply ≡ Unread) × (after ≡ before)

-- flat prices: not read unless there are four; where no memory is found, the desk is as it was
abbrev pub FlatLine : List ℕ → Desk → Result (Option Reply) AllocError → Desk → Type 0
FlatLine text before answer after =
    MatchResult answer (λ reply. Setting (FlatSet text before after) ((values : List Sum) → prices_in text ≡ Some values → length values ≢ 4) before reply after)
    (λ _. after ≡ before)

-- a table: not read where some word is no price; where no memory is found, the desk is as it was
abbrev pub TableLine : List ℕ → Desk → Result (Option Reply) AllocError → Desk → Type 0
TableLine text before answer after =
    MatchResult answer (λ reply. Setting (TableSet text before after) (prices_in text ≡ None) before reply after) (λ _. after ≡ before)

-- marks: not read where some word is no place
abbrev pub MarksLine : List ℕ → Desk → Result (Option Reply) AllocError → Desk → Type 0
MarksLine text before answer after =
    MatchResult answer (λ reply. Setting (MarksSet text before after) (marks_in text ≡ None) before reply after) (λ _. ⊥)

-- shifts: not read where the text is no word
abbrev pub ShiftsLine : List ℕ → Desk → Result (Option Reply) AllocError → Desk → Type 0
ShiftsLine text before answer after =
    MatchResult answer (λ reply. Setting (ShiftsSet text before after) (fault text ≢ None) before reply after) (λ _. ⊥)

-- a word: its reply, and the desk is as it was
abbrev pub WordLine : List ℕ → Desk → Option Reply → Desk → Type 0
WordLine line before None after = ⊥
WordLine line before (Some reply) after = WordReply before line reply × (after ≡ before)

-- one line, by what it is
abbrev pub LineAt : Kind → List ℕ → List ℕ → Desk → Result (Option Reply) AllocError → Desk → Type 0
LineAt Flat line rest before answer after = FlatLine rest before answer after
LineAt Table line rest before answer after = TableLine rest before answer after
LineAt Marks line rest before answer after = MarksLine rest before answer after
LineAt Shifts line rest before answer after = ShiftsLine rest before answer after
LineAt Word line rest before answer after = MatchResult answer (λ reply. WordLine line before reply after) (λ _. ⊥)

-- one line
abbrev pub Line : List ℕ → Desk → Result (Option Reply) AllocError → Desk → Type 0
Line line before answer after = (kind : Kind) × (rest : List ℕ) × Parted line kind rest × LineAt kind line rest before answer after
