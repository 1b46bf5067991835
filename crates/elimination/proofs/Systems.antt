-- A triangular system: an equation reduced by another, an equation put in its place, an unknown turned over. Assumes nothing.
use Rattle.std.proofs.Common.{◌≡◌, ℕ, ◌+◌, ◌*◌, ◌%◌, ◌^◌, ◌<◌, ◌≤◌, Bool, true, false, not, ◌⊎◌, ◌↔◌, List, get_or, set, Decides, sym, refl, ap, ◌∙◌, subst, ap₂, inl, inr, eq-or-lt_of_le, arith, lit<, length-set, get_or-set_other, get_or-set_same}
use mathlib.Core.Bool.{beq, false≢true}
use native.Mathlib.Decide.{ℕ_discrete}
use lib.Count.{ones}
use lib.Bits.{bit_and, bit_xor, xor_lt}
use lib.Pow.{pow-lt}
use Rattle.std.specs.Cmp.{booleans_Decides}
use Rattle.std.proofs.lemmas.Nat.{one_shl}
use Rattle.pauli.specs.Limits.{max_rows}
use Rattle.pauli.specs.declared.letter.Letter.{Letter}
use Rattle.pauli.specs.declared.letter.Letter.TheVariants.{X, Z}
use Rattle.pauli.specs.Letters.{clash}
use Rattle.pauli.specs.Words.{odd, xor}
use Rattle.pauli.specs.Laws.{chosen}
use Rattle.pauli.proofs.WordLaws.{xor-false}
use Rattle.columns.specs.Masks.{bit, bits}
use Rattle.columns.specs.declared.column.Column.{Column}
use Rattle.elimination.specs.Systems.{Meets, Holds, both, idle, LowestAt, Triangular, Took, Asked}
use Rattle.elimination.specs.declared.equation.Equation.{Equation}
use Rattle.columns.proofs.Masks.{bit-xor, bit-none, chosen-xor, chosen_sym, chosen_off, chosen_none, chosen_one, parity}

-- two parities differ just where one of them is odd
pub differ_xor : (a b : Bool) → not (beq a b) ≡ xor a b
differ_xor true true = refl
differ_xor true false = refl
differ_xor false true = refl
differ_xor false false = refl

-- whether the unknowns meet an equation, by the number of unknowns in it that are chosen
pub met_by : (m n : ℕ) (b : Bool) → m < 2 ^ max_rows → Decides (beq (odd (ones (bit_and m n))) b) (Meets (bits max_rows m) n b)
met_by m n b l = let x = odd (ones (bit_and m n)) in subst (λ (y : Bool). Decides (beq x b) (y ≡ b)) (parity max_rows m n l) (booleans_Decides x b)

-- an equation that is met, added to another, leaves what that says
reduced : (ks : List Bool) (m n : ℕ) (a b : Bool) → Meets ks n b → Meets ks m a ↔ Meets ks (bit_xor m n) (xor a b)
reduced ks m n a b h = (
  λ e. chosen-xor max_rows ks m n ∙ ap₂ xor e h,
  λ e. back (chosen ks (bits max_rows m)) a b (ap (λ x. xor (chosen ks (bits max_rows m)) x) (sym h) ∙ (sym (chosen-xor max_rows ks m n) ∙ e)),
)
  where
    back : (x y z : Bool) → xor x z ≡ xor y z → x ≡ y
    back true true z e = refl
    back true false true e = sym e
    back true false false e = e
    back false true true e = sym e
    back false true false e = e
    back false false z e = refl

-- its unknowns: those below, and the one that both have
reduced_below : (j m n : ℕ) → ((i : ℕ) → i < j → bit i m ≡ false) → ((i : ℕ) → i < j → bit i n ≡ false) → bit j m ≡ true → bit j n ≡ true
    → (i : ℕ) → i < j + 1 → bit i (bit_xor m n) ≡ false
reduced_below j m n hm hn bm bn i l = go (eq-or-lt_of_le (let h : i ≤ j = omega arith in h))
  where
    go : (i ≡ j) ⊎ (i < j) → bit i (bit_xor m n) ≡ false
    go (inl e) = ap (λ k. bit k (bit_xor m n)) e ∙ (bit-xor j m n ∙ ap₂ xor bm bn)
    go (inr k) = bit-xor i m n ∙ ap₂ xor (hm i k) (hn i k)

below_next : (j m : ℕ) → ((i : ℕ) → i < j → bit i m ≡ false) → bit j m ≡ false → (i : ℕ) → i < j + 1 → bit i m ≡ false
below_next j m h b i l = go (eq-or-lt_of_le (let h : i ≤ j = omega arith in h))
  where
    go : (i ≡ j) ⊎ (i < j) → bit i m ≡ false
    go (inl e) = ap (λ k. bit k m) e ∙ b
    go (inr k) = h i k

-- what has a bit is not 0
bit_some : (j m : ℕ) → bit j m ≡ true → m ≡ 0 → ⊥
bit_some j m b e = false≢true (sym (bit-none j) ∙ (ap (λ n. bit j n) (sym e) ∙ b))

idle_met : (ks : List Bool) (j : ℕ) (e : Equation) → LowestAt j e → e.mask ≡ 0 → Meets ks e.mask e.odd
idle_met ks j e l z = ap (λ m. chosen ks (bits max_rows m)) z ∙ (chosen_none max_rows ks ∙ sym (l.nothing z))

-- an equation in a place where none stood
placed : (es : List Equation) (j : ℕ) (e : Equation) → Triangular es → j < max_rows → ((i : ℕ) → i < j → bit i e.mask ≡ false) → bit j e.mask ≡ true
    → Triangular (set es j e)
placed es j e t l below own = record { size = length-set es j e ∙ t.size; lowest = λ i k. go i k (ℕ_discrete i j) }
  where
    new : LowestAt j e
    new = record { nothing = λ z. absurd (bit_some j e.mask own z); own = λ n. own; below = below }

    go : (i : ℕ) → i < max_rows → Dec (i ≡ j) → LowestAt i (get_or (set es j e) i idle)
    go i k (yes p) =
        subst (λ (x : Equation). LowestAt i x) (sym (ap (λ n. get_or (set es j e) n idle) p ∙ get_or-set_same es j e idle (rw t.size l)))
        (subst (λ (n : ℕ). LowestAt n e) (sym p) new)
    go i k (no n) = subst (λ (x : Equation). LowestAt i x) (sym (get_or-set_other es j i e idle n)) (t.lowest i k)

placed_holds : (es : List Equation) (j : ℕ) (e : Equation) → Triangular es → j < max_rows → (get_or es j idle).mask ≡ 0 → (ks : List Bool)
    → Holds ks (set es j e) ↔ (Holds ks es × Meets ks e.mask e.odd)
placed_holds es j e t l z ks = (λ h. (λ i k. old h i k (ℕ_discrete i j), here h), λ p i k. all p i k (ℕ_discrete i j))
  where
    same : get_or (set es j e) j idle ≡ e
    same = get_or-set_same es j e idle (rw t.size l)

    here : Holds ks (set es j e) → Meets ks e.mask e.odd
    here h = subst (λ (x : Equation). Meets ks x.mask x.odd) same (h j l)

    old : Holds ks (set es j e) → (i : ℕ) → i < max_rows → Dec (i ≡ j) → Meets ks (get_or es i idle).mask (get_or es i idle).odd
    old h i k (yes p) =
        subst (λ (n : ℕ). Meets ks (get_or es n idle).mask (get_or es n idle).odd) (sym p) (idle_met ks j (get_or es j idle) (t.lowest j l) z)
    old h i k (no n) = subst (λ (x : Equation). Meets ks x.mask x.odd) (get_or-set_other es j i e idle n) (h i k)

    all : Holds ks es × Meets ks e.mask e.odd → (i : ℕ) → i < max_rows → Dec (i ≡ j) → Meets ks (get_or (set es j e) i idle).mask (get_or (set es j e) i idle).odd
    all p i k (yes q) =
        subst (λ (n : ℕ). Meets ks (get_or (set es j e) n idle).mask (get_or (set es j e) n idle).odd) (sym q)
        (subst (λ (x : Equation). Meets ks x.mask x.odd) (sym same) p.1)
    all p i k (no n) = subst (λ (x : Equation). Meets ks x.mask x.odd) (sym (get_or-set_other es j i e idle n)) (p.0 i k)

-- turning an unknown over turns over the parity of what has it
flipped : (j m n : ℕ) → j < max_rows → chosen (bits max_rows (bit_xor m (2 ^ j))) (bits max_rows n) ≡ xor (chosen (bits max_rows m) (bits max_rows n)) (bit j n)
flipped j m n l =
    chosen_sym (bits max_rows (bit_xor m (2 ^ j))) (bits max_rows n)
    ∙ (chosen-xor max_rows (bits max_rows n) m (2 ^ j)
    ∙ ap₂ xor (chosen_sym (bits max_rows n) (bits max_rows m)) (chosen_sym (bits max_rows n) (bits max_rows (2 ^ j)) ∙ chosen_one max_rows j n l))

-- The loop that takes an equation in

-- what is left of an equation at j: it has no unknown below j, and under the system it says what the equation says
pub Left : Equation → List Equation → ℕ → Equation → Type 0
Left e es j rest =
    record {
      triangular : Triangular es;
      below : (i : ℕ) → i < j → bit i rest.mask ≡ false;
      says : (ks : List Bool) → Holds ks es → Meets ks e.mask e.odd ↔ Meets ks rest.mask rest.odd;
    }

pub left_all : (es : List Equation) (e : Equation) → Triangular es → Left e es 0 e
unfolding Left
left_all es e t = record { triangular = t; below = λ i k. absurd (omega arith); says = λ ks h. (λ x. x, λ x. x) }

pub left_skipped : (es : List Equation) (e rest : Equation) (j : ℕ) → Left e es j rest → bit j rest.mask ≡ false → Left e es (j + 1) rest
unfolding Left
left_skipped es e rest j h u = record { triangular = h.triangular; below = below_next j rest.mask h.below u; says = h.says }

pub left_added : (es : List Equation) (e rest : Equation) (j : ℕ) → Left e es j rest → j < max_rows → bit j rest.mask ≡ true
    → ((get_or es j idle).mask ≡ 0 → ⊥) → Left e es (j + 1) (both rest (get_or es j idle))
unfolding Left
left_added es e rest j h l u z =
    let known = get_or es j idle in
    let k = h.triangular.lowest j l in
    record {
      triangular = h.triangular;
      below = reduced_below j rest.mask known.mask h.below k.below u (k.own z);
      says = λ ks hs.
          let p = h.says ks hs in
          let q = reduced ks rest.mask known.mask rest.odd known.odd (hs j l) in
          (λ x. q.0 (p.0 x), λ x. p.1 (q.1 x));
    }

pub left_placed : (es : List Equation) (e rest : Equation) (j : ℕ) → Left e es j rest → j < max_rows → bit j rest.mask ≡ true
    → Triangular (set es j rest)
unfolding Left
left_placed es e rest j h l u = placed es j rest h.triangular l h.below u

pub left_took : (es : List Equation) (e rest : Equation) (j : ℕ) → Left e es j rest → j < max_rows
    → (get_or es j idle).mask ≡ 0 → Took es e.mask e.odd (set es j rest) true
unfolding Left Took
left_took es e rest j h l z ks =
    let p = placed_holds es j rest h.triangular l z ks in
    (λ x. let q = p.0 x in (q.0, (h.says ks q.0).1 q.1), λ x. p.1 (x.0, (h.says ks x.0).0 x.1))

-- what is left has no unknown
left_off : (es : List Equation) (e rest : Equation) (j : ℕ) → Left e es j rest → max_rows ≤ j → (ks : List Bool) → chosen ks (bits max_rows rest.mask) ≡ false
unfolding Left
left_off es e rest j h l ks = chosen_off max_rows ks rest.mask (λ i k. h.below i (omega arith))

pub left_against : (es : List Equation) (e rest : Equation) (j : ℕ) → Left e es j rest → max_rows ≤ j → rest.odd ≡ true → Took es e.mask e.odd es false
unfolding Left Took
left_against es e rest j h l o =
    record { kept = refl; against = λ ks x y. false≢true (sym (left_off es e rest j h l ks) ∙ ((h.says ks x).0 y ∙ o)) }

pub left_said : (es : List Equation) (e rest : Equation) (j : ℕ) → Left e es j rest → max_rows ≤ j → rest.odd ≡ false → Took es e.mask e.odd es true
unfolding Left Took
left_said es e rest j h l o ks = (λ x. (x, (h.says ks x).1 (left_off es e rest j h l ks ∙ sym o)), λ x. x.0)

-- A place's two equations

pub asked_x : (s t : List Equation) (c : Column) (e : Letter) (a r v : Bool) → a ≡ clash e X → Took s c.x a t r → r ≡ false → v ≡ false → Asked s c e t v
unfolding Took Asked
asked_x s t c e a true v x h o w = absurd (false≢true (sym o))
asked_x s t c e a false true x h o w = absurd (false≢true (sym w))
asked_x s t c e a false false x h o w = λ ks k m. h.against ks k (m.0 ∙ sym x)

pub asked_z : (s t u : List Equation) (c : Column) (e : Letter) (a b r v : Bool) → a ≡ clash e X → b ≡ clash e Z
    → Took s c.x a t r → r ≡ true → Took t c.z b u v → Asked s c e u v
unfolding Took Asked
asked_z s t u c e a b false v x z h o k = absurd (false≢true o)
asked_z s t u c e a b true true x z h o k = λ ks. (
  λ m. let q = (k ks).0 m in let p = (h ks).0 q.0 in (p.0, (p.1 ∙ x, q.1 ∙ z)),
  λ m. (k ks).1 ((h ks).1 (m.0, m.1.0 ∙ sym x), m.1.1 ∙ sym z),
)
asked_z s t u c e a b true false x z h o k = λ ks m n. k.against ks ((h ks).1 (m, n.0 ∙ sym x)) (n.1 ∙ sym z)

-- The loop that solves the system

-- the equations from j on are met by m
pub From : List Equation → ℕ → ℕ → Type 0
From es m j =
    record {
      triangular : Triangular es;
      within : j ≤ max_rows;
      fits : m < 2 ^ max_rows;
      met : (i : ℕ) → j ≤ i → i < max_rows → Meets (bits max_rows m) (get_or es i idle).mask (get_or es i idle).odd;
    }

pub from_none : (es : List Equation) → Triangular es → From es 0 max_rows
unfolding From
from_none es t = record { triangular = t; within = omega arith; fits = lit< tt; met = λ i l k. absurd (omega arith) }

-- one more, which is met
pub from_met : (es : List Equation) (m j : ℕ) → From es m (j + 1) → Meets (bits max_rows m) (get_or es j idle).mask (get_or es j idle).odd → From es m j
unfolding From
from_met es m j f h =
    record { triangular = f.triangular; within = omega arith; fits = f.fits; met = λ i l k. go i k (eq-or-lt_of_le l) }
  where
    go : (i : ℕ) → i < max_rows → (j ≡ i) ⊎ (j < i) → Meets (bits max_rows m) (get_or es i idle).mask (get_or es i idle).odd
    go i k (inl e) = subst (λ (n : ℕ). Meets (bits max_rows m) (get_or es n idle).mask (get_or es n idle).odd) e h
    go i k (inr q) = f.met i (omega arith) k

-- one more, which says nothing
pub from_idle : (es : List Equation) (m j : ℕ) → From es m (j + 1) → (get_or es j idle).mask ≡ 0 → From es m j
unfolding From
from_idle es m j f z =
    let w : j < max_rows = let k = f.within in omega arith in
    from_met es m j f (idle_met (bits max_rows m) j (get_or es j idle) (f.triangular.lowest j w) z)

-- an unknown below them changes nothing for them
from_flipped : (es : List Equation) (m j k : ℕ) → From es m k → j < k → From es (bit_xor m (2 ^ j)) k
unfolding From
from_flipped es m j k f l =
    record {
      triangular = f.triangular;
      within = f.within;
      fits = xor_lt max_rows m (2 ^ j) f.fits (pow-lt {j = max_rows} (omega arith));
      met = λ i p q.
          let x = chosen (bits max_rows m) (bits max_rows (get_or es i idle).mask) in
          flipped j m (get_or es i idle).mask (omega arith)
          ∙ (ap (λ y. xor x y) ((f.triangular.lowest i q).below j (omega arith)) ∙ (xor-false x ∙ f.met i p q));
    }

other : (a b : Bool) → (a ≡ b → ⊥) → xor a true ≡ b
other true true h = absurd (h refl)
other true false h = refl
other false true h = refl
other false false h = absurd (h refl)

-- one more, which was not met, and is by its lowest unknown turned over
pub from_mended : (es : List Equation) (m j : ℕ) → From es m (j + 1) → (Meets (bits max_rows m) (get_or es j idle).mask (get_or es j idle).odd → ⊥)
    → From es (bit_xor m ((1 * 2 ^ j) % 2 ^ max_rows)) j
unfolding From
from_mended es m j f d =
    let e = get_or es j idle in
    let x = chosen (bits max_rows m) (bits max_rows e.mask) in
    let w : j < max_rows = let k = f.within in omega arith in
    let k = f.triangular.lowest j w in
    subst (λ (n : ℕ). From es (bit_xor m n) j) (sym (one_shl j max_rows w))
    (from_met es (bit_xor m (2 ^ j)) j (from_flipped es m j (j + 1) f (omega arith))
    (flipped j m e.mask w
    ∙ (ap (λ b. xor x b) (k.own (λ z. d (idle_met (bits max_rows m) j e k z)))
    ∙ other x e.odd d)))

pub from_all : (es : List Equation) (m : ℕ) → From es m 0 → Holds (bits max_rows m) es
unfolding From
from_all es m f i k = f.met i (omega arith) k
