-- Elimination with a partner for each row: it keeps its promise for every list of rows. Assumes nothing.
use Rattle.std.proofs.Common.{◌≡◌, ℕ, suc, Bool, true, false, cond, ◌&&◌, ◌⊎◌, List, [], ◌∷◌, ◌++◌, length, Some, None, sym, refl, ap, ◌∙◌, subst, ap₂, inl, inr, append-nil}
use mathlib.Core.Bool.{and_comm, and-false, false≢true}
use Rattle.pauli.specs.Words.{Word, xor, add, star, blank, select, Long, is_blank}
use Rattle.pauli.specs.Laws.{spot, add_if}
use Rattle.independence.specs.Pivots.{Pivot, residue, coefficients, cleared, pivot, pivots, witness, SumsDecided}
use Rattle.pauli.proofs.WordLaws.{add_comm, add_assoc, add_self, add-blank, length-add, length-blank, length-add_if, length-select, length-spot, star-add_if, star-add_if_right, star-blank, star-spot, is_blank_is}

-- the rows, the newest first as the pivots are
abbrev pub pivot_rows : List Pivot → List Word
pivot_rows [] = []
pivot_rows (p ∷ ps) = p.row ∷ pivot_rows ps

-- the word commutes with each row
abbrev pub Commutes : List Word → Word → Type 0
Commutes [] v = Unit {0}
Commutes (r ∷ rows) v = (star r v ≡ false) × Commutes rows v

-- Each partner commutes with the rows before it. It clashes with its own row, unless that row adds nothing:
-- what commutes with the rows before it commutes with it.
abbrev pub Sound : ℕ → List Pivot → Type 0
Sound n [] = Unit {0}
Sound n (p ∷ ps) =
    (length p.row ≡ n) × (length p.partner ≡ n) × Commutes (pivot_rows ps) p.partner
    × ((star p.row p.partner ≡ true) ⊎ ((v : Word) → length v ≡ n → star p.row (cleared ps v) ≡ false)) × Sound n ps

pub length-residue : (n : ℕ) (ps : List Pivot) (w : Word) → Sound n ps → length w ≡ n → length (residue ps w) ≡ n
length-residue n [] w s h = h
length-residue n (p ∷ ps) w s h =
    length-residue n ps (add_if (star w p.partner) p.row w) s.4 (length-add_if n (star w p.partner) p.row w s.0 h)

pub length-cleared : (n : ℕ) (ps : List Pivot) (v : Word) → Sound n ps → length v ≡ n → length (cleared ps v) ≡ n
length-cleared n [] v s h = h
length-cleared n (p ∷ ps) v s h =
    length-add_if n (star p.row (cleared ps v)) p.partner (cleared ps v) s.1 (length-cleared n ps v s.4 h)

-- taking the residue and clearing are adjoint
pub adjoint : (n : ℕ) (ps : List Pivot) (w v : Word) → Sound n ps → length w ≡ n → length v ≡ n → star (residue ps w) v ≡ star w (cleared ps v)
adjoint n [] w v s hw hv = refl
adjoint n (p ∷ ps) w v s hw hv =
    adjoint n ps (add_if (star w p.partner) p.row w) v s.4 (length-add_if n (star w p.partner) p.row w s.0 hw) hv
    ∙ (star-add_if n (star w p.partner) p.row w (cleared ps v) s.0 hw
    ∙ (ap (λ b. xor b (star w (cleared ps v))) (and_comm (star w p.partner) (star p.row (cleared ps v)))
    ∙ sym (star-add_if_right n (star p.row (cleared ps v)) w p.partner (cleared ps v) s.1 (length-cleared n ps v s.4 hv))))

pub commutes_add_if : (n : ℕ) (k : Bool) (rows : List Word) (u v : Word) → length u ≡ n → length v ≡ n → Commutes rows u → Commutes rows v → Commutes rows (add_if k u v)
commutes_add_if n k [] u v hu hv cu cv = tt
commutes_add_if n k (r ∷ rows) u v hu hv cu cv = (
  star-add_if_right n k r u v hu hv ∙ ap₂ xor (ap (λ b. k && b) cu.0 ∙ and-false k) cv.0,
  commutes_add_if n k rows u v hu hv cu.1 cv.1,
)

-- a bit added where it stands, and where the other does
xor_and_true : (a b : Bool) → b ≡ true → xor (a && b) a ≡ false
xor_and_true true true h = refl
xor_and_true true false h = sym h
xor_and_true false b h = refl

pub cleared_commutes : (n : ℕ) (ps : List Pivot) (v : Word) → Sound n ps → length v ≡ n → Commutes (pivot_rows ps) (cleared ps v)
cleared_commutes n [] v s h = tt
cleared_commutes n (p ∷ ps) v s h = (
  star-add_if_right n (star p.row (cleared ps v)) p.row p.partner (cleared ps v) s.1 (length-cleared n ps v s.4 h)
      ∙ own s.3,
  commutes_add_if n (star p.row (cleared ps v)) (pivot_rows ps) p.partner (cleared ps v) s.1 (length-cleared n ps v s.4 h) s.2
      (cleared_commutes n ps v s.4 h),
)
  where
    own : (star p.row p.partner ≡ true) ⊎ ((v : Word) → length v ≡ n → star p.row (cleared ps v) ≡ false)
        → xor (star p.row (cleared ps v) && star p.row p.partner) (star p.row (cleared ps v)) ≡ false
    own (inl e) = xor_and_true (star p.row (cleared ps v)) (star p.row p.partner) e
    own (inr f) = ap (λ b. xor (b && star p.row p.partner) b) (f v h)

-- a word with a residue that is blank commutes with all that is cleared
pub blank-residue : (n : ℕ) (ps : List Pivot) (w v : Word) → Sound n ps → length w ≡ n → length v ≡ n → is_blank (residue ps w) ≡ true → star w (cleared ps v) ≡ false
blank-residue n ps w v s hw hv b =
    sym (adjoint n ps w v s hw hv)
    ∙ (ap (λ u. star u v) (is_blank_is (residue ps w) b) ∙ star-blank (length (residue ps w)) v)

-- one with another residue clashes with what stands as its partner
pub clashes_partner : (n : ℕ) (ps : List Pivot) (w : Word) → Sound n ps → length w ≡ n → is_blank (residue ps w) ≡ false → star w (pivot ps w).partner ≡ true
clashes_partner n ps w s h b =
    sym (adjoint n ps w (spot (residue ps w)) s h (length-spot (residue ps w) ∙ length-residue n ps w s h)) ∙ star-spot (residue ps w) b

pub length_partner : (n : ℕ) (ps : List Pivot) (w : Word) → Sound n ps → length w ≡ n → length (pivot ps w).partner ≡ n
length_partner n ps w s h = length-cleared n ps (spot (residue ps w)) s (length-spot (residue ps w) ∙ length-residue n ps w s h)

pub pivot_sound : (n : ℕ) (ps : List Pivot) (r : Word) → Sound n ps → length r ≡ n → Sound n (pivot ps r ∷ ps)
pivot_sound n ps r s h = (
  h,
  length_partner n ps r s h,
  cleared_commutes n ps (spot (residue ps r)) s (length-spot (residue ps r) ∙ length-residue n ps r s h),
  go (is_blank (residue ps r)) refl,
  s,
)
  where
    go : (b : Bool) → is_blank (residue ps r) ≡ b
        → (star r (pivot ps r).partner ≡ true) ⊎ ((v : Word) → length v ≡ n → star r (cleared ps v) ≡ false)
    go true e = inr (λ v hv. blank-residue n ps r v s h hv e)
    go false e = inl (clashes_partner n ps r s h e)

pub pivots_sound : (n : ℕ) (ps : List Pivot) (rows : List Word) → Sound n ps → Long n rows → Sound n (pivots ps rows)
pivots_sound n ps [] s h = s
pivots_sound n ps (r ∷ rows) s h = pivots_sound n (pivot ps r ∷ ps) rows (pivot_sound n ps r s h.0) h.1

-- the pivots' rows in their own order, before others
abbrev pub rows_onto : List Pivot → List Word → List Word
rows_onto [] rest = rest
rows_onto (p ∷ ps) rest = rows_onto ps (p.row ∷ rest)

onto_pivots : (ps : List Pivot) (rows rest : List Word) → rows_onto (pivots ps rows) rest ≡ rows_onto ps (rows ++ rest)
onto_pivots ps [] rest = refl
onto_pivots ps (r ∷ rows) rest = onto_pivots (pivot ps r ∷ ps) rows rest

pub onto_all : (rows : List Word) → rows_onto (pivots [] rows) [] ≡ rows
onto_all rows = onto_pivots [] rows [] ∙ append-nil rows

commutes_onto : (ps : List Pivot) (rest : List Word) (v : Word) → Commutes (pivot_rows ps) v → Commutes rest v → Commutes (rows_onto ps rest) v
commutes_onto [] rest v c d = d
commutes_onto (p ∷ ps) rest v c d = commutes_onto ps (p.row ∷ rest) v c.1 (c.0, d)

pub chosen_commutes : (n : ℕ) (ks : List Bool) (rows : List Word) (v : Word) → Long n rows → Commutes rows v → star (select n ks rows) v ≡ false
chosen_commutes n [] [] v h c = star-blank n v
chosen_commutes n [] (r ∷ rows) v h c = star-blank n v
chosen_commutes n (k ∷ ks) [] v h c = star-blank n v
chosen_commutes n (k ∷ ks) (r ∷ rows) v h c =
    star-add_if n k r (select n ks rows) v h.0 (length-select n ks rows h.1)
    ∙ ap₂ xor (ap (λ b. k && b) c.0 ∙ and-false k) (chosen_commutes n ks rows v h.1 c.1)

pub witness_commutes : (n : ℕ) (rows : List Word) (w : Word) → Long n rows → length w ≡ n → Commutes rows (witness rows w)
witness_commutes n rows w h hw =
    let s = pivots_sound n [] rows tt h in
    let ps = pivots [] rows in
    subst (λ (rs : List Word). Commutes rs (witness rows w)) (onto_all rows)
    (commutes_onto ps [] (witness rows w)
    (cleared_commutes n ps (spot (residue ps w)) s (length-spot (residue ps w) ∙ length-residue n ps w s hw)) tt)

add_twice : (n : ℕ) (w v : Word) → length w ≡ n → length v ≡ n → add w (add w v) ≡ v
add_twice n w v hw hv =
    sym (add_assoc w w v) ∙ (ap (λ u. add u v) (add_self w) ∙ add-blank (length w) v (hv ∙ sym hw))

pub add_if_both : (n : ℕ) (k : Bool) (r w v : Word) → length r ≡ n → length w ≡ n → length v ≡ n → add (add_if k r w) (add_if k r v) ≡ add w v
add_if_both n true r w v hr hw hv =
    ap (λ u. add u (add r v)) (add_comm r w)
    ∙ (add_assoc w r (add r v) ∙ ap (λ u. add w u) (add_twice n r v hr hv))
add_if_both n false r w v hr hw hv = refl

select-coefficients : (n : ℕ) (ks : List Bool) (ps : List Pivot) (w : Word) (rest : List Word) → Sound n ps → length w ≡ n → Long n rest
    → select n (coefficients ks ps w) (rows_onto ps rest) ≡ add (residue ps w) (add w (select n ks rest))
select-coefficients n ks [] w rest s hw h = sym (add_twice n w (select n ks rest) hw (length-select n ks rest h))
select-coefficients n ks (p ∷ ps) w rest s hw h =
    let k = star w p.partner in
    let w' = add_if k p.row w in
    select-coefficients n (k ∷ ks) ps w' (p.row ∷ rest) s.4 (length-add_if n k p.row w s.0 hw) (s.0, h)
    ∙ ap (λ u. add (residue ps w') u) (add_if_both n k p.row w (select n ks rest) s.0 hw (length-select n ks rest h))

length-coefficients : (ks : List Bool) (ps : List Pivot) (w : Word) (rest : List Word) → length ks ≡ length rest → length (coefficients ks ps w) ≡ length (rows_onto ps rest)
length-coefficients ks [] w rest h = h
length-coefficients ks (p ∷ ps) w rest h =
    length-coefficients (star w p.partner ∷ ks) ps (add_if (star w p.partner) p.row w) (p.row ∷ rest) (ap suc h)

-- a word with a blank residue is the sum of the rows that its coefficients choose
pub blank-sums : (n : ℕ) (rows : List Word) (w : Word) → Long n rows → length w ≡ n → is_blank (residue (pivots [] rows) w) ≡ true
    → select n (coefficients [] (pivots [] rows) w) rows ≡ w
blank-sums n rows w h hw b =
    let ps = pivots [] rows in
    let s = pivots_sound n [] rows tt h in
    ap (λ rs. select n (coefficients [] ps w) rs) (sym (onto_all rows))
    ∙ (select-coefficients n [] ps w [] s hw tt
    ∙ (ap (λ u. add u (add w (blank n))) (is_blank_is (residue ps w) b)
    ∙ (add-blank (length (residue ps w)) (add w (blank n)) (length-add n w (blank n) hw (length-blank n) ∙ sym (length-residue n ps w s hw))
    ∙ (add_comm w (blank n) ∙ add-blank n w hw))))

-- one with another residue is no sum
pub other_sums-not : (n : ℕ) (rows : List Word) (w : Word) → Long n rows → length w ≡ n → is_blank (residue (pivots [] rows) w) ≡ false
    → (ks : List Bool) → select n ks rows ≡ w → ⊥
other_sums-not n rows w h hw b ks e =
    false≢true
    (sym (chosen_commutes n ks rows (witness rows w) h (witness_commutes n rows w h hw))
    ∙ (ap (λ u. star u (witness rows w)) e ∙ clashes_partner n (pivots [] rows) w (pivots_sound n [] rows tt h) hw b))

-- what a choice between an answer and None tells
chose_Some : (b : Bool) (x y : List Bool) → cond b (Some x) None ≡ Some y → (b ≡ true) × (x ≡ y)
chose_Some true x y e = (refl, cc)
chose_Some false x y e = (cc, cc)

chose_None : (b : Bool) (x : List Bool) → cond b (Some x) None ≡ None → b ≡ false
chose_None true x e = cc
chose_None false x e = refl

pub sums_decided : SumsDecided
sums_decided n rows w h hw =
    let ps = pivots [] rows in
    let ks₀ = coefficients [] ps w in
    record {
      sound = λ ks e.
          let c = chose_Some (is_blank (residue ps w)) ks₀ ks e in (
            ap length (sym c.1) ∙ (length-coefficients [] ps w [] refl ∙ ap length (onto_all rows)),
            ap (λ ls. select n ls rows) (sym c.1) ∙ blank-sums n rows w h hw c.0,
          );
      complete = λ e. other_sums-not n rows w h hw (chose_None (is_blank (residue ps w)) ks₀ e);
      clashing = λ e. clashes_partner n ps w (pivots_sound n [] rows tt h) hw (chose_None (is_blank (residue ps w)) ks₀ e);
      commuting = λ e ks. chosen_commutes n ks rows (witness rows w) h (witness_commutes n rows w h hw);
    }
