use Rattle.std.proofs.Common.{◌≡◌, ℕ, List, refl, ap, ◌∙◌, arith}
use Rattle.pauli.specs.Text.{letters_of}
use Rattle.columns.specs.declared.column.Column.{Column}
use Rattle.code.specs.declared.code.Code.{Code}
use Rattle.columns.specs.Columns.{with_row}
use Rattle.code.specs.Codes.{front}
use Rattle.code.proofs.Checking.{rows_count, put_room, put_long, put-within, put_unused, put-rows, put_commute, put_free}
use Rattle.code.proofs.code.Code.write_row.Goals as goal

pub put_row-requires : goal.put_row-requires
put_row-requires c =
    let r = c.requires.room in
    (omega (arith, rows_count c.args.self.now), omega (arith, c.args.self.now.few, c.front-word.ensures.long))

-- the table that was written to, by the word that the front of the letters spells
as_word :
    (self : Code) (ns front_ns : List ℕ) (t : List Column) → t ≡ with_row self.rows (letters_of front_ns) self.columns.table
    → letters_of front_ns ≡ front self.places ns → t ≡ with_row self.rows (front self.places ns) self.columns.table
as_word self ns front_ns t e f = e ∙ ap (λ w. with_row self.rows w self.columns.table) f

pub invariant_of-self : goal.invariant_of-self
invariant_of-self c =
    let self = c.args.self.now in
    let w = front self.places c.args.word.now.numbers in
    let t = c.put_row.new.self.table in
    let e = as_word self c.args.word.now.numbers c.front-word.result.now t c.put_row.ensures.after c.front-word.ensures.letters in
    record {
      some = self.some;
      few = self.few;
      room = put_room self w c.requires t e;
      long = put_long self w c.requires t e;
      within = put-within self w c.requires t e;
      unused = put_unused self w c.requires t e;
      commute = put_commute self w c.requires t e;
      free = put_free self w c.requires t e;
    }

pub returns : goal.returns
returns c =
    let self = c.args.self.now in
    let t = c.put_row.new.self.table in
    let e = as_word self c.args.word.now.numbers c.front-word.result.now t c.put_row.ensures.after c.front-word.ensures.letters in
    record {
      places = refl;
      rows = put-rows self (front self.places c.args.word.now.numbers) c.requires t e;
    }
