-- A text is cut at its first blank. Assumes nothing.
use Rattle.std.proofs.Common.{◌≡◌, ℕ, suc, ◌<◌, List, [], ◌∷◌, ◌++◌, length, get_or, Some, None, Option, unwrap_or, sym, refl, ap, ◌∙◌, arith, ne_eqb, lit<}
use denote.Ref.{Bor}
use Rattle.std.proofs.lemmas.Str.Pattern.{IsSplitOnceResult, split_parts}
use Rattle.std.proofs.lemmas.Bool.{cond-false}
use Rattle.desk.specs.Lines.{name_of, rest_of}

-- no byte is a blank
abbrev pub Whole : List ℕ → Type 0
Whole xs = (i : ℕ) → i < length xs → get_or xs i 0 ≡ 32 → ⊥

whole_tail : (x : ℕ) (xs : List ℕ) → Whole (x ∷ xs) → Whole xs
whole_tail x xs h i l = h (suc i) (omega arith)

pub first_cut : (xs ys : List ℕ) → Whole xs → (name_of (xs ++ (32 ∷ ys)) ≡ xs) × (rest_of (xs ++ (32 ∷ ys)) ≡ ys)
first_cut [] ys h = (refl, refl)
first_cut (x ∷ xs) ys h =
    let no_blank = ne_eqb x 32 (h 0 (omega arith)) in
    let p = first_cut xs ys (whole_tail x xs h) in
    (cond-false _ _ _ no_blank ∙ ap (λ l. x ∷ l) p.0, cond-false _ _ _ no_blank ∙ p.1)

pub no_cut : (xs : List ℕ) → Whole xs → (name_of xs ≡ xs) × (rest_of xs ≡ [])
no_cut [] h = (refl, refl)
no_cut (x ∷ xs) h =
    let no_blank = ne_eqb x 32 (h 0 (omega arith)) in
    let p = no_cut xs (whole_tail x xs h) in
    (cond-false _ _ _ no_blank ∙ ap (λ l. x ∷ l) p.0, cond-false _ _ _ no_blank ∙ p.1)

-- what `split_once` of a blank answers, or all of the text and nothing
pub cut_at_blank : (text none : Bor (List ℕ)) (o : Option (Bor (List ℕ) × Bor (List ℕ))) (r : Bor (List ℕ) × Bor (List ℕ)) → IsSplitOnceResult 32 text.now o
    → none.now ≡ [] → r ≡ unwrap_or o (text, none) → (r.0.now ≡ name_of text.now) × (r.1.now ≡ rest_of text.now)
cut_at_blank text none (Some parts) r h _ e =
    let p = split_parts 32 text.now (Some parts) h (lit< tt) in
    let cut = first_cut parts.0.now parts.1.now p.1 in
    rw e (sym (ap name_of p.0 ∙ cut.0), sym (ap rest_of p.0 ∙ cut.1))
cut_at_blank text none None r h n e =
    let cut = no_cut text.now (split_parts 32 text.now None h (lit< tt)) in
    rw e (sym cut.0, n ∙ sym cut.1)
