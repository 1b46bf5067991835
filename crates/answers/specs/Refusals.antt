-- How a refusal is numbered. Assumes nothing.
use Rattle.std.specs.Prelude.{ℕ}
use Rattle.answers.specs.declared.refusal.Refusal.{Refusal}
use Rattle.answers.specs.declared.refusal.Refusal.TheVariants.{Places, Full, Length, NoLetter, Clash, Sum}

-- the number of a refusal
abbrev pub number_of : Refusal → ℕ
number_of (Places n) = 1
number_of (Full n) = 2
number_of (Length n) = 3
number_of (NoLetter n) = 4
number_of (Clash n) = 5
number_of (Sum n) = 6

-- the place of a refusal
abbrev pub place_of : Refusal → ℕ
place_of (Places n) = n
place_of (Full n) = n
place_of (Length n) = n
place_of (NoLetter n) = n
place_of (Clash n) = n
place_of (Sum n) = n
