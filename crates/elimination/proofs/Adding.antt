-- Sums of a table's rows, place by place. Assumes nothing.
use Rattle.std.proofs.Common.{◌≡◌, ℕ, zero, suc, ◌+◌, ◌/◌, ◌^◌, ◌<◌, ◌≤◌, min, Bool, true, false, ◌↔◌, List, [], ◌∷◌, map, length, get_or, replicate, Some, None, Option, sym, refl, ap, ◌∙◌, subst, ap₂, div-one, arith, below_more}
use lib.ListN.{length-replicate, length-map}
use Rattle.pauli.specs.Limits.{max_rows}
use Rattle.pauli.specs.declared.letter.Letter.{Letter}
use Rattle.pauli.specs.declared.letter.Letter.TheVariants.{X, Z}
use Rattle.pauli.specs.Letters.{letter, clash}
use Rattle.pauli.specs.Words.{xor, add, select}
use Rattle.pauli.specs.Laws.{chosen}
use Rattle.pauli.proofs.WordLaws.{heads, tails, length-select}
use Rattle.columns.specs.Masks.{bit, bits}
use Rattle.elimination.specs.Systems.{Meets, Holds, idle, LowestAt, Triangular, Here, Asked}
use Rattle.columns.specs.Columns.{told, row, rows_from, rows, hollow, Within}
use Rattle.columns.specs.declared.column.Column.{Column}
use Rattle.elimination.specs.Sums.{Solved, Gives, Stated}
use Rattle.columns.proofs.Telling.{told-plus, told-clash, clash-told-X, clash-told-Z, shift}
use Rattle.columns.proofs.Marking.{long_rows}
use Rattle.columns.proofs.Masks.{bit-none, chosen_none, chosen-within}
use Rattle.elimination.specs.declared.equation.Equation.{Equation}
use Rattle.elimination.specs.declared.system.System.{System}

-- the letter at the first place of a sum
abbrev first : List Bool → ℕ → ℕ → Column → Letter
first ks j r c = told (chosen ks (bits r (c.x / 2 ^ j))) (chosen ks (bits r (c.z / 2 ^ j)))

select-first : (n : ℕ) (ks : List Bool) (j r : ℕ) (c : Column) (cs : List Column)
    → select (suc n) ks (rows_from j r (c ∷ cs)) ≡ first ks j r c ∷ select n ks (rows_from j r cs)
unfolding rows_from bits
select-first n [] j zero c cs = refl
select-first n [] j (suc r) c cs = refl
select-first n (k ∷ ks) j zero c cs = refl
select-first n (true ∷ ks) j (suc r) c cs =
    ap (λ w. add (row j (c ∷ cs)) w) (select-first n ks (suc j) r c cs)
    ∙ ap (λ a. a ∷ add (row j cs) (select n ks (rows_from (suc j) r cs)))
    (told-plus (bit j c.x) (bit j c.z) (chosen ks (bits r (c.x / 2 ^ suc j))) (chosen ks (bits r (c.z / 2 ^ suc j)))
    ∙ ap₂ (λ x z. told (xor (bit j c.x) (chosen ks (bits r x))) (xor (bit j c.z) (chosen ks (bits r z)))) (sym (shift c.x j)) (sym (shift c.z j)))
select-first n (false ∷ ks) j (suc r) c cs =
    select-first n ks (suc j) r c cs
    ∙ ap₂ (λ x z. told (chosen ks (bits r x)) (chosen ks (bits r z)) ∷ select n ks (rows_from (suc j) r cs)) (sym (shift c.x j)) (sym (shift c.z j))

select-empty : (ks : List Bool) (j r : ℕ) → select 0 ks (rows_from j r []) ≡ []
unfolding rows_from
select-empty [] j zero = refl
select-empty [] j (suc r) = refl
select-empty (k ∷ ks) j zero = refl
select-empty (true ∷ ks) j (suc r) = ap (λ w. add [] w) (select-empty ks (suc j) r)
select-empty (false ∷ ks) j (suc r) = select-empty ks (suc j) r

whole : (ks : List Bool) (m : ℕ) → chosen ks (bits max_rows (m / 2 ^ 0)) ≡ chosen ks (bits max_rows m)
whole ks m = ap (λ n. chosen ks (bits max_rows n)) (div-one m)

-- a sum that is the word is so at every place
sum_gives : (ks : List Bool) (columns : List Column) (word : List ℕ) → length columns ≡ length word
    → select (length columns) ks (rows max_rows columns) ≡ map letter word → Gives ks columns word (length columns)
sum_gives ks [] word l e q k = absurd (omega arith)
sum_gives ks (c ∷ cs) [] l e q k = absurd (omega arith)
sum_gives ks (c ∷ cs) (a ∷ word) l e zero k =
    let x = chosen ks (bits max_rows (c.x / 2 ^ 0)) in
    let z = chosen ks (bits max_rows (c.z / 2 ^ 0)) in
    let h = heads (told x z) (letter a) (select (length cs) ks (rows max_rows cs)) (map letter word) (sym (select-first (length cs) ks 0 max_rows c cs) ∙ e) in (
      sym (whole ks c.x) ∙ (sym (clash-told-X x z) ∙ ap (λ b. clash b X) h),
      sym (whole ks c.z) ∙ (sym (clash-told-Z x z) ∙ ap (λ b. clash b Z) h),
    )
sum_gives ks (c ∷ cs) (a ∷ word) l e (suc q) k =
    sum_gives ks cs word (omega arith)
    (tails (first ks 0 max_rows c) (letter a) (select (length cs) ks (rows max_rows cs)) (map letter word) (sym (select-first (length cs) ks 0 max_rows c cs) ∙ e)) q (omega arith)

gives_sum : (ks : List Bool) (columns : List Column) (word : List ℕ) → length columns ≡ length word
    → Gives ks columns word (length columns) → select (length columns) ks (rows max_rows columns) ≡ map letter word
gives_sum ks [] [] l g = select-empty ks 0 max_rows
gives_sum ks [] (a ∷ word) l g = absurd (omega arith)
gives_sum ks (c ∷ cs) [] l g = absurd (omega arith)
gives_sum ks (c ∷ cs) (a ∷ word) l g =
    let h = g 0 (omega arith) in
    select-first (length cs) ks 0 max_rows c cs
    ∙ ap₂ ◌∷◌ (ap₂ told (whole ks c.x ∙ h.0) (whole ks c.z ∙ h.1) ∙ told-clash (letter a))
    (gives_sum ks cs word (omega arith) (λ q k. g (suc q) (omega arith)))

-- The empty system

idle-at : (n j : ℕ) → get_or (replicate n idle) j idle ≡ idle
idle-at zero j = refl
idle-at (suc n) zero = refl
idle-at (suc n) (suc j) = idle-at n j

idle-lowest : (j : ℕ) → LowestAt j idle
idle-lowest j = record { nothing = λ z. refl; own = λ n. absurd (n refl); below = λ i k. bit-none i }

pub idle_triangular : Triangular (replicate max_rows idle)
idle_triangular =
    record {
      size = length-replicate max_rows idle;
      lowest = λ j k. subst (λ (e : Equation). LowestAt j e) (sym (idle-at max_rows j)) (idle-lowest j);
    }

idle_holds : (ks : List Bool) → Holds ks (replicate max_rows idle)
idle_holds ks j k = subst (λ (e : Equation). Meets ks e.mask e.odd) (sym (idle-at max_rows j)) (chosen_none max_rows ks)

-- One more place

gives_more : (ks : List Bool) (columns : List Column) (word : List ℕ) (p : ℕ) → Gives ks columns word p → Here ks (get_or columns p hollow) (letter (get_or word p 0))
    → Gives ks columns word (p + 1)
gives_more ks columns word p g h = below_more (λ q. Here ks (get_or columns q hollow) (letter (get_or word q 0))) p g h

gives_less : (ks : List Bool) (columns : List Column) (word : List ℕ) (p n : ℕ) → p ≤ n → Gives ks columns word n → Gives ks columns word p
gives_less ks columns word p n l g q k = g q (omega arith)

-- The loop over the places

-- the system says just what the first p places ask of the rows chosen
pub Says : List Equation → List Column → List ℕ → ℕ → Type 0
Says es columns word p = (ks : List Bool) → Holds ks es ↔ Gives ks columns word p

pub says_none : (columns : List Column) (word : List ℕ) → Says (replicate max_rows idle) columns word 0
unfolding Says
says_none columns word ks = (λ h q k. absurd (omega arith), λ g. idle_holds ks)

-- the place at p, as the loop reads it
asked_at : (s t : List Equation) (columns : List Column) (word : List ℕ) (p : ℕ) (c : Column) (e : Letter) (r v : Bool)
    → c ≡ get_or columns p hollow → e ≡ letter (get_or word p 0) → Asked s c e t r → r ≡ v → Asked s (get_or columns p hollow) (letter (get_or word p 0)) t v
asked_at s t columns word p c e r v is at a o = rw (← is, ← at, ← o) a

-- a place more was asked for
pub says_more : (s t : List Equation) (columns : List Column) (word : List ℕ) (p : ℕ) (c : Column) (e : Letter) (r : Bool) → Says s columns word p
    → c ≡ get_or columns p hollow → e ≡ letter (get_or word p 0) → Asked s c e t r → r ≡ true → Says t columns word (p + 1)
unfolding Says Asked
says_more s t columns word p c e r h is at a o =
    let k : (ks : List Bool) → Holds ks t ↔ (Holds ks s × Here ks (get_or columns p hollow) (letter (get_or word p 0))) =
    asked_at s t columns word p c e r true is at a o in
    λ ks. (
      λ m. let n = (k ks).0 m in gives_more ks columns word p ((h ks).0 n.0) n.1,
      λ g. (k ks).1 ((h ks).1 (gives_less ks columns word p (p + 1) (omega arith) g), g p (omega arith)),
    )

-- a place contradicted those before it
pub says_against : (s t : List Equation) (columns : List Column) (word : List ℕ) (p : ℕ) (c : Column) (e : Letter) (r : Bool) (found : Option System)
    → Says s columns word p → p < length columns → p < length word
    → c ≡ get_or columns p hollow → e ≡ letter (get_or word p 0) → Asked s c e t r → r ≡ false → found ≡ None → Stated columns word found
unfolding Says Asked Stated
says_against s t columns word p c e r found h i j is at a o n =
    let k : (ks : List Bool) → Holds ks s → Here ks (get_or columns p hollow) (letter (get_or word p 0)) → ⊥ =
    asked_at s t columns word p c e r false is at a o in
    subst (λ (x : Option System). Stated columns word x) (sym n) (λ ks g.
    k ks ((h ks).1 (gives_less ks columns word p (min (length columns) (length word)) (omega arith) g)) (g p (omega arith)))

-- no place is left
pub says_all : (s : System) (columns : List Column) (word : List ℕ) (p : ℕ) → Says s.equations columns word p → p ≡ min (length columns) (length word)
    → Stated columns word (Some s)
unfolding Says Stated
says_all s columns word p h e = subst (λ (n : ℕ). Says s.equations columns word n) e h

-- what the system is for
pub solved_none : (columns : List Column) (word : List ℕ) (o : Option System) (found : Option ℕ) → length columns ≡ length word
    → Stated columns word o → o ≡ None → found ≡ None → Solved columns word found
unfolding Stated
solved_none columns word o found l h e n =
    let k : (ks : List Bool) → Gives ks columns word (min (length columns) (length word)) → ⊥ = subst (λ (x : Option System). Stated columns word x) e h in
    subst (λ (x : Option ℕ). Solved columns word x) (sym n) (λ ks m.
    k ks (gives_less ks columns word (min (length columns) (length word)) (length columns) (omega arith) (sum_gives ks columns word l m)))

pub solved_some : (columns : List Column) (word : List ℕ) (s : System) (m : ℕ) → length columns ≡ length word
    → Stated columns word (Some s) → Holds (bits max_rows m) s.equations → Solved columns word (Some m)
unfolding Stated
solved_some columns word s m l h k =
    let ks = bits max_rows m in
    gives_sum ks columns word l (gives_less ks columns word (length columns) (min (length columns) (length word)) (omega arith) ((h ks).0 k))

-- a sum of rows is as long as the table
pub sum_long : (ks : List Bool) (columns : List Column) (word : List ℕ) → select (length columns) ks (rows max_rows columns) ≡ map letter word
    → length columns ≡ length word
sum_long ks columns word e =
    sym (length-select (length columns) ks (rows max_rows columns) (long_rows (length columns) max_rows columns refl)) ∙ (ap length e ∙ length-map word letter)

-- rows past the masks add nothing
pub rows-within : (r : ℕ) (ks : List Bool) (columns : List Column) → r ≤ max_rows → Within r columns
    → select (length columns) ks (rows max_rows columns) ≡ select (length columns) ks (rows r columns)
rows-within r ks [] l h = select-empty ks 0 max_rows ∙ sym (select-empty ks 0 r)
rows-within r ks (c ∷ cs) l h =
    select-first (length cs) ks 0 max_rows c cs
    ∙ (ap₂ ◌∷◌ (ap₂ told (narrow c.x (h 0).0) (narrow c.z (h 0).1)) (rows-within r ks cs l (λ q. h (suc q))) ∙ sym (select-first (length cs) ks 0 r c cs))
  where
    narrow : (m : ℕ) → m < 2 ^ r → chosen ks (bits max_rows (m / 2 ^ 0)) ≡ chosen ks (bits r (m / 2 ^ 0))
    narrow m q = chosen-within r max_rows ks (m / 2 ^ 0) l (subst (λ (n : ℕ). n < 2 ^ r) (sym (div-one m)) q)
