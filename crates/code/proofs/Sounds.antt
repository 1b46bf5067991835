-- What holds of a table without rows, and of one with a row more. Assumes nothing.
use Rattle.std.proofs.Common.{◌≡◌, ℕ, zero, suc, ◌+◌, ◌≤◌, Bool, false, List, [], ◌∷◌, ◌++◌, length, get_or, take, replicate, sym, refl, ap, ◌∙◌, subst, ap₂, add-one, arith}
use Rattle.std.proofs.lemmas.List.{length-take-le}
use Rattle.pauli.specs.Limits.{max_places}
use Rattle.pauli.specs.Words.{Word, star, select, syndrome}
use Rattle.pauli.proofs.WordLaws.{star-none, star_sym, star_self}
use Rattle.independence.specs.Independence.{Commuting, Independent}
use Rattle.independence.proofs.Independence.{independent_push, independent-none}
use Rattle.columns.specs.declared.column.Column.{Column}
use Rattle.columns.specs.Columns.{rows, with_row, hollow, Within}
use Rattle.columns.proofs.Marking.{rows_none, rows-put, take-with_row, within-take, within_more, length-with_row, beyond}
use Rattle.code.specs.Table.{Unused, words_of}

hollows : (n k : ℕ) → get_or (replicate n hollow) k hollow ≡ hollow
hollows zero k = refl
hollows (suc n) zero = refl
hollows (suc n) (suc k) = hollows n k

module _ (table : List Column) (e : table ≡ replicate max_places hollow) where
  here : (k : ℕ) → get_or table k hollow ≡ hollow
  here k = ap (λ t. get_or t k hollow) e ∙ hollows max_places k

  pub blank_long : length table ≡ max_places
  blank_long = ap length e ∙ lib.ListN.length-replicate max_places hollow

  pub blank-within : Within 0 table
  blank-within k = let x = ap (λ (c : Column). c.x) (here k) in let z = ap (λ (c : Column). c.z) (here k) in (omega arith, omega arith)

  pub blank_unused : (n : ℕ) → Unused n table
  blank_unused n k h = (ap (λ (c : Column). c.x) (here k), ap (λ (c : Column). c.z) (here k))

pub no_words : (n : ℕ) (table : List Column) → words_of n 0 table ≡ []
no_words n table = rows_none (take n table)

pub none_commute : (n : ℕ) (table : List Column) → Commuting (words_of n 0 table)
none_commute n table = subst (λ (rs : List Word). Commuting rs) (sym (no_words n table)) (λ i j. refl)

pub none_free : (n : ℕ) (table : List Column) → Independent n (words_of n 0 table)
none_free n table = subst (λ (rs : List Word). Independent n rs) (sym (no_words n table)) (independent-none n)

-- ---- a word more that commutes with all rows

pub syndrome-at : (rs : List Word) (w : Word) (i : ℕ) → star (get_or rs i []) w ≡ get_or (syndrome rs w) i false
syndrome-at [] w i = star-none w
syndrome-at (r ∷ rs) w zero = refl
syndrome-at (r ∷ rs) w (suc i) = syndrome-at rs w i

-- a word that commutes with the old rows and with the new one
push_row : (rs : List Word) (w v : Word) → ((i : ℕ) → star (get_or rs i []) v ≡ false) → star w v ≡ false
    → (i : ℕ) → star (get_or (rs ++ (w ∷ [])) i []) v ≡ false
push_row [] w v f h zero = h
push_row [] w v f h (suc i) = star-none v
push_row (r ∷ rs) w v f h zero = f 0
push_row (r ∷ rs) w v f h (suc i) = push_row rs w v (λ k. f (suc k)) h i

pub commuting_push : (rs : List Word) (w : Word) → Commuting rs → ((i : ℕ) → star (get_or rs i []) w ≡ false) → Commuting (rs ++ (w ∷ []))
commuting_push rs w c f i j =
    let old : (k : ℕ) → star (get_or (rs ++ (w ∷ [])) k []) w ≡ false = push_row rs w w f (star_self w) in
    push_row rs w (get_or (rs ++ (w ∷ [])) j [])
    (λ k. star_sym (get_or rs k []) (get_or (rs ++ (w ∷ [])) j []) ∙ push_row rs w (get_or rs k []) (λ l. c l k) (star_sym w (get_or rs k []) ∙ f k) j)
    (star_sym w (get_or (rs ++ (w ∷ [])) j []) ∙ old j) i

-- ---- a row more in the table

module _ (n r : ℕ) (t : List Column) (w : Word) (within : Within r t) (few : n ≤ max_places) (long : length t ≡ max_places) (short : length w ≡ n) where
  pub added_rows : words_of n (r + 1) (with_row r w t) ≡ words_of n r t ++ (w ∷ [])
  added_rows =
      ap₂ rows (add-one r) (take-with_row r n w t (omega arith))
      ∙ rows-put r w (take n t) (length-take-le n t (omega arith) ∙ sym short) (within-take r n t within)

  pub added_long : length (with_row r w t) ≡ max_places
  added_long = length-with_row r w t ∙ long

  pub added_within : Within (r + 1) (with_row r w t)
  added_within = subst (λ (k : ℕ). Within k (with_row r w t)) (sym (add-one r)) (within_more r w t within)

  pub added_unused : Unused n t → Unused n (with_row r w t)
  added_unused u k h =
      let same = beyond r w t k (omega arith) in
      (ap (λ (c : Column). c.x) same ∙ (u k h).0, ap (λ (c : Column). c.z) same ∙ (u k h).1)

  pub added_commute : Commuting (words_of n r t) → ((i : ℕ) → star (get_or (words_of n r t) i []) w ≡ false)
      → Commuting (words_of n (r + 1) (with_row r w t))
  added_commute c f = subst (λ (rs : List Word). Commuting rs) (sym added_rows) (commuting_push (words_of n r t) w c f)

  pub added_free : Independent n (words_of n r t) → ((ks : List Bool) → select n ks (words_of n r t) ≡ w → ⊥)
      → Independent n (words_of n (r + 1) (with_row r w t))
  added_free i f = subst (λ (rs : List Word). Independent n rs) (sym added_rows) (independent_push n (words_of n r t) w i f)
