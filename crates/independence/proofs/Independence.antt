-- Independent rows: the test for them is right, and they explain every syndrome. Assumes nothing.
use Rattle.std.proofs.Common.{◌≡◌, ℕ, zero, suc, ◌<◌, ◌≤◌, Bool, true, false, not, ◌&&◌, ◌⊎◌, ◌↔◌, List, [], ◌∷◌, ◌++◌, length, get_or, take, sym, refl, ap, ◌∙◌, subst, ap₂, inl, inr, append_assoc, append-nil, eq-or-lt_of_le, arith, length-append}
use mathlib.Core.HLevel.{Π_prop, ⊥_prop}
use mathlib.Core.Bool.{and-false, false≢true}
use lib.Seq.{take-append_seam, take-append-le, get_or-append_seam}
use Rattle.std.proofs.lemmas.List.{get_or_append_left}
use Rattle.pauli.specs.Words.{Word, xor, star, blank, select, syndrome, Long, is_blank}
use Rattle.pauli.specs.Laws.{add_if}
use Rattle.independence.specs.Independence.{Independent, Explained}
use Rattle.independence.specs.Pivots.{Pivot, residue, coefficients, pivot, pivots}
use Rattle.pauli.proofs.WordLaws.{heads, tails, length-blank, length-add_if, star-add_if_right}
use Rattle.independence.proofs.Pivots.{pivot_rows, Commutes, Sound, pivot_sound, clashes_partner, blank-sums, other_sums-not}

-- whether no row is a sum of the rows before it
abbrev independent_after : List Pivot → List Word → Bool
independent_after ps [] = true
independent_after ps (r ∷ rows) = not (is_blank (residue ps r)) && independent_after (pivot ps r ∷ ps) rows

-- the test for independent rows
abbrev independent : List Word → Bool
independent rows = independent_after [] rows

-- a word with the bits as its syndrome over the pivots' rows, if each row clashes with its partner
abbrev explain : ℕ → List Pivot → List Bool → Word
explain n [] b = blank n
explain n (p ∷ ps) [] = blank n
explain n (p ∷ ps) (k ∷ b) = let u = explain n ps b in add_if (xor k (star p.row u)) p.partner u

-- the test for independent rows is right
abbrev IndependenceDecided : Type 0
IndependenceDecided = (n : ℕ) (rows : List Word) → Long n rows → Independent n rows ↔ (independent rows ≡ true)

-- no row of the second list is a sum of the rows before it, where the first list stands before all
abbrev After : ℕ → List Word → List Word → Type 0
After n before rows = (k : ℕ) (ks : List Bool) → k < length rows → select n ks (before ++ take k rows) ≡ get_or rows k [] → ⊥

pivots_push : (ps : List Pivot) (rows : List Word) (r : Word) → pivots ps (rows ++ (r ∷ [])) ≡ pivot (pivots ps rows) r ∷ pivots ps rows
pivots_push ps [] r = refl
pivots_push ps (q ∷ rows) r = pivots_push (pivot ps q ∷ ps) rows r

pub long_append : (n : ℕ) (rows more : List Word) → Long n rows → Long n more → Long n (rows ++ more)
long_append n [] more h k = k
long_append n (r ∷ rows) more h k = (h.0, long_append n rows more h.1 k)

both_true : (a b : Bool) → a ≡ false → b ≡ true → (not a && b) ≡ true
both_true true b p q = sym p
both_true false b p q = q

pub first-false : (a b : Bool) → (not a && b) ≡ true → a ≡ false
first-false true b e = sym e
first-false false b e = refl

pub second_true : (a b : Bool) → (not a && b) ≡ true → b ≡ true
second_true true b e = absurd (false≢true e)
second_true false b e = e

-- the test passes where no row is a sum
passes : (n : ℕ) (before rows : List Word) → Long n before → Long n rows → After n before rows → independent_after (pivots [] before) rows ≡ true
passes n before [] hb h a = refl
passes n before (r ∷ rows) hb h a =
    let ps = pivots [] before in
    both_true (is_blank (residue ps r)) (independent_after (pivot ps r ∷ ps) rows) (go (is_blank (residue ps r)) refl)
    (subst (λ (qs : List Pivot). independent_after qs rows ≡ true) (pivots_push [] before r)
    (passes n (before ++ (r ∷ [])) rows (long_append n before (r ∷ []) hb (h.0, tt)) h.1
    (λ k ks l e. a (suc k) ks (omega arith) (ap (λ rs. select n ks rs) (sym (append_assoc before (r ∷ []) (take k rows))) ∙ e))))
  where
    go : (b : Bool) → is_blank (residue (pivots [] before) r) ≡ b → is_blank (residue (pivots [] before) r) ≡ false
    go true e =
        absurd
        (a 0 (coefficients [] (pivots [] before) r) (omega arith)
        (ap (λ rs. select n (coefficients [] (pivots [] before) r) rs) (append-nil before) ∙ blank-sums n before r hb h.0 e))
    go false e = e

-- and only there
passed : (n : ℕ) (before rows : List Word) → Long n before → Long n rows → independent_after (pivots [] before) rows ≡ true → After n before rows
passed n before [] hb h t k ks l e = omega arith
passed n before (r ∷ rows) hb h t zero ks l e =
    other_sums-not n before r hb h.0
    (first-false (is_blank (residue (pivots [] before) r)) (independent_after (pivot (pivots [] before) r ∷ pivots [] before) rows) t)
    ks (ap (λ rs. select n ks rs) (sym (append-nil before)) ∙ e)
passed n before (r ∷ rows) hb h t (suc k) ks l e =
    passed n (before ++ (r ∷ [])) rows (long_append n before (r ∷ []) hb (h.0, tt)) h.1
    (subst (λ (qs : List Pivot). independent_after qs rows ≡ true) (sym (pivots_push [] before r))
    (second_true (is_blank (residue (pivots [] before) r)) (independent_after (pivot (pivots [] before) r ∷ pivots [] before) rows) t))
    k ks (omega arith) (ap (λ rs. select n ks rs) (append_assoc before (r ∷ []) (take k rows)) ∙ e)

independence_decided : IndependenceDecided
independence_decided n rows h = (passes n [] rows tt h, passed n [] rows tt h)

-- one more row that is no sum of the others
pub independent_push : (n : ℕ) (rows : List Word) (r : Word) → Independent n rows → ((ks : List Bool) → select n ks rows ≡ r → ⊥) → Independent n (rows ++ (r ∷ []))
independent_push n rows r a h k ks l e = go (eq-or-lt_of_le (let q : k ≤ length rows = omega (arith, length-append rows (r ∷ [])) in q))
  where
    go : (k ≡ length rows) ⊎ (k < length rows) → ⊥
    go (inl p) =
        h ks
        (ap (λ rs. select n ks rs) (sym (ap (λ i. take i (rows ++ (r ∷ []))) p ∙ take-append_seam rows (r ∷ [])))
        ∙ (e ∙ (ap (λ i. get_or (rows ++ (r ∷ [])) i []) p ∙ get_or-append_seam rows r [] [])))
    go (inr q) =
        a k ks q
        (ap (λ rs. select n ks rs) (sym (take-append-le k rows (r ∷ []) (omega arith)))
        ∙ (e ∙ get_or_append_left rows (r ∷ []) [] k q))

pub independent-none : (n : ℕ) → Independent n []
independent-none n k ks l e = omega arith

-- it has at most one proof
pub independent_prop : (n : ℕ) (rows : List Word) → IsProp (Independent n rows)
independent_prop n rows = Π_prop (λ k. Π_prop (λ ks. Π_prop (λ l. Π_prop (λ e. ⊥_prop))))

-- each row clashes with its partner
abbrev pub Clashing : List Pivot → Type 0
Clashing [] = Unit {0}
Clashing (p ∷ ps) = (star p.row p.partner ≡ true) × Clashing ps

length-explain : (n : ℕ) (ps : List Pivot) (b : List Bool) → Sound n ps → length (explain n ps b) ≡ n
length-explain n [] b s = length-blank n
length-explain n (p ∷ ps) [] s = length-blank n
length-explain n (p ∷ ps) (k ∷ b) s =
    length-add_if n (xor k (star p.row (explain n ps b))) p.partner (explain n ps b) s.1 (length-explain n ps b s.4)

-- a word that commutes with the rows adds nothing to a syndrome
syndrome-add_if : (n : ℕ) (k : Bool) (rows : List Word) (u v : Word) → length u ≡ n → length v ≡ n → Commutes rows u → syndrome rows (add_if k u v) ≡ syndrome rows v
syndrome-add_if n k [] u v hu hv c = refl
syndrome-add_if n k (r ∷ rows) u v hu hv c =
    ap₂ ◌∷◌ (star-add_if_right n k r u v hu hv ∙ ap (λ b. xor b (star r v)) (ap (λ b. k && b) c.0 ∙ and-false k))
    (syndrome-add_if n k rows u v hu hv c.1)

mends : (k x b : Bool) → b ≡ true → xor (xor k x && b) x ≡ k
mends true true b e = refl
mends true false true e = refl
mends true false false e = e
mends false true true e = refl
mends false true false e = sym e
mends false false b e = refl

explain_right : (n : ℕ) (ps : List Pivot) (b : List Bool) → Sound n ps → Clashing ps → length b ≡ length ps → syndrome (pivot_rows ps) (explain n ps b) ≡ b
explain_right n [] [] s c h = refl
explain_right n [] (k ∷ b) s c h = absurd (omega arith)
explain_right n (p ∷ ps) [] s c h = absurd (omega arith)
explain_right n (p ∷ ps) (k ∷ b) s c h =
    let u = explain n ps b in
    let x = star p.row u in
    ap₂ ◌∷◌
    (star-add_if_right n (xor k x) p.row p.partner u s.1 (length-explain n ps b s.4) ∙ mends k x (star p.row p.partner) c.0)
    (syndrome-add_if n (xor k x) (pivot_rows ps) p.partner u s.1 (length-explain n ps b s.4) s.2
    ∙ explain_right n ps b s.4 c.1 (omega arith))

explained_after : (n : ℕ) (ps : List Pivot) (rows : List Word) (b s : List Bool) → Sound n ps → Clashing ps → Long n rows → independent_after ps rows ≡ true
    → length b ≡ length ps → length s ≡ length rows → (e : Word) × (length e ≡ n) × (syndrome (pivot_rows ps) e ≡ b) × (syndrome rows e ≡ s)
explained_after n ps [] b [] sd c h t hb hs = (explain n ps b, length-explain n ps b sd, explain_right n ps b sd c hb, refl)
explained_after n ps [] b (k ∷ s) sd c h t hb hs = absurd (omega arith)
explained_after n ps (r ∷ rows) b [] sd c h t hb hs = absurd (omega arith)
explained_after n ps (r ∷ rows) b (k ∷ s) sd c h t hb hs =
    let blanks = is_blank (residue ps r) in
    let later = independent_after (pivot ps r ∷ ps) rows in
    let g =
    explained_after n (pivot ps r ∷ ps) rows (k ∷ b) s (pivot_sound n ps r sd h.0)
    (clashes_partner n ps r sd h.0 (first-false blanks later t), c) h.1 (second_true blanks later t) (ap suc hb) (omega arith)
    in
    let e = g.0 in (
      e,
      g.1,
      tails (star r e) k (syndrome (pivot_rows ps) e) b g.2,
      ap₂ ◌∷◌ (heads (star r e) k (syndrome (pivot_rows ps) e) b g.2) g.3,
    )

pub explained : Explained
explained n rows h i s hs =
    let g = explained_after n [] rows [] s tt tt h ((independence_decided n rows h).0 i) refl hs in
    (g.0, record { long = g.1; syndrome = g.3 })
