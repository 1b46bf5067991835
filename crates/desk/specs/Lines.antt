-- What a line is, by its bytes. Assumes nothing.
use Rattle.std.specs.Prelude.{◌≡◌, ℕ, cond, List, [], ◌∷◌, codes, IsUtf8, ◌==◌, ◌≢◌}
use Rattle.desk.specs.declared.line.Kind.{Kind}
use Rattle.desk.specs.declared.line.Kind.TheVariants.{Flat, Table, Marks, Shifts, Word}

-- the bytes before the first blank, which is 32
abbrev pub name_of : List ℕ → List ℕ
name_of [] = []
name_of (b ∷ bs) = cond (b == 32) [] (b ∷ name_of bs)

-- the bytes after the first blank
abbrev pub rest_of : List ℕ → List ℕ
rest_of [] = []
rest_of (b ∷ bs) = cond (b == 32) bs (rest_of bs)

-- the name of each setting; every other name is no setting's
abbrev pub Names : Kind → List ℕ → Type 0
Names Flat name = name ≡ codes "flat"
Names Table name = name ≡ codes "table"
Names Marks name = name ≡ codes "marks"
Names Shifts name = name ≡ codes "shifts"
Names Word name = (name ≢ codes "flat") × (name ≢ codes "table") × (name ≢ codes "marks") × (name ≢ codes "shifts")

-- what a line is and what stands after its name; a line that is no text is no setting
pub record Parted (line : List ℕ) (kind : Kind) (rest : List ℕ) : Type 0 where
  pub text : IsUtf8 line → Names kind (name_of line) × (rest ≡ rest_of line)
  pub other : (IsUtf8 line → ⊥) → kind ≡ Word
