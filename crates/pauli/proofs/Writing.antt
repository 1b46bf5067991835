-- What one turn of writing a word does, and that what was written reads back. Assumes nothing.
use Rattle.std.proofs.Common.{◌≡◌, ℕ, zero, suc, ◌+◌, ◌<◌, ◌≤◌, min, List, [], ◌∷◌, ◌++◌, map, length, get_or, take, drop, set, Some, None, unwrap_or, sym, refl, ap, ◌∙◌, subst, ap₂, append_assoc, append-nil, arith, lit<}
use Rattle.std.specs.Option.{option_map}
use Rattle.std.proofs.lemmas.List.{map_more, drop_more, drop_all, length-map, length-take, length-take-le, set_at}
use Rattle.pauli.specs.declared.letter.Letter.{Letter}
use Rattle.pauli.specs.declared.letter.Letter.TheVariants.{I, X, Y, Z}
use Rattle.pauli.specs.Letters.{number, letter}
use Rattle.pauli.specs.Limits.{max_places}
use Rattle.pauli.specs.Text.{first, is_fault, unread, word_of, named, spelled, padded, text_of, written, Lettered, Read}
use Rattle.pauli.proofs.Reading.{fault_short}

-- ---- the law of the loop

-- an output with the text of the first i numbers written over its front
unfoldable pub over : ℕ → List ℕ → List ℕ → List ℕ
over i ns output = text_of (take i ns) ++ drop i output

-- one turn, which the loop's invariant carries for Rattle's own search
abbrev pub WritingLaw : Type 0
WritingLaw =
    (ns output : List ℕ) (i : ℕ) → i < length ns → i < length output
    → set (over i ns output) i (spelled (letter (get_or ns i 0))) ≡ over (i + 1) ns output

pub writing_law : WritingLaw
unfolding over
writing_law ns output i h k =
    let b : ℕ = spelled (letter (get_or ns i 0)) in
    let front : List ℕ = text_of (take i ns) in
    let long : length front ≡ i = length-map (take i ns) (λ n. spelled (letter n)) ∙ length-take-le i ns (omega arith) in
    ap (λ ys. set (front ++ ys) i b) (drop_more output i 0 k)
    ∙ set_at front (get_or output i 0) (drop (i + 1) output) b i long
    ∙ sym (append_assoc front (b ∷ []) (drop (i + 1) output))
    ∙ ap (λ ys. ys ++ drop (i + 1) output) (sym (map_more (λ n. spelled (letter n)) ns i 0 h))

pub none_written : (ns output : List ℕ) → output ≡ over 0 ns output
unfolding over
none_written ns output = refl

-- all letters that there is room for, written over an output
pub all_over : (ns output : List ℕ) (i : ℕ) → i ≡ min (length output) max_places → over i ns output ≡ written ns output
unfolding over written
all_over ns output i e = ap (λ n. text_of (take n ns) ++ drop n output) e

-- the letters that were written over the front of an output that has room for so many, and the rest of it
pub all_written :
    (ns output front : List ℕ) (room i : ℕ) → room ≡ min (length output) max_places → i ≡ length (take room output)
    → front ≡ over i ns (take room output) → front ++ drop room output ≡ written ns output
unfolding over written
all_written ns output front room i r e h =
    let l : length (take room output) ≡ room = length-take-le room output (omega arith) in
    let none : drop i (take room output) ≡ [] = drop_all i (take room output) (omega arith) in
    let text : front ≡ text_of (take room ns) =
    h ∙ ap (λ ys. text_of (take i ns) ++ ys) none ∙ append-nil (text_of (take i ns)) ∙ ap (λ n. text_of (take n ns)) (e ∙ l) in
    ap (λ ys. ys ++ drop room output) text ∙ ap (λ n. text_of (take n ns) ++ drop n output) r

-- ---- what was written reads back

named-spelled : (e : Letter) → named (spelled e) ≡ Some e
named-spelled I = refl
named-spelled X = refl
named-spelled Y = refl
named-spelled Z = refl

number-letter : (n : ℕ) → n < 4 → number (letter n) ≡ n
number-letter zero h = refl
number-letter (suc zero) h = refl
number-letter (suc (suc zero)) h = refl
number-letter (suc (suc (suc n))) h = omega arith

no_fault : (ns : List ℕ) → first (map is_fault (text_of ns)) ≡ None
no_fault [] = refl
no_fault (n ∷ ns) =
    ap (λ o. first (unread o ∷ map is_fault (text_of ns))) (named-spelled (letter n)) ∙ ap (option_map suc) (no_fault ns)

same_numbers : (ns : List ℕ) → Lettered ns → map number (word_of (text_of ns)) ≡ ns
same_numbers [] h = refl
same_numbers (n ∷ ns) h =
    ap₂ ◌∷◌ (ap (λ o. number (unwrap_or o I)) (named-spelled (letter n)) ∙ number-letter n (h 0)) (same_numbers ns (λ k. h (suc k)))

reads_back : (ns : List ℕ) → Lettered ns → length ns ≤ max_places → Read (text_of ns) (padded ns)
reads_back ns h few =
    let l = length-map ns (λ n. spelled (letter n)) in
    record {
      none = fault_short (text_of ns) (omega arith) ∙ no_fault ns;
      numbers_are = ap padded (sym (same_numbers ns h));
    }

lettered_take : (n : ℕ) (ns : List ℕ) → Lettered ns → Lettered (take n ns)
lettered_take zero ns h k = lit< tt
lettered_take (suc n) [] h k = lit< tt
lettered_take (suc n) (m ∷ ns) h zero = h 0
lettered_take (suc n) (m ∷ ns) h (suc k) = lettered_take n ns (λ j. h (suc j)) k

-- an output that is not too long has the text of its letters, and no more
whole : (ns output : List ℕ) → length output ≤ max_places → written ns output ≡ text_of (take (length output) ns)
unfolding written
whole ns output few =
    let text : List ℕ = text_of (take (length output) ns) in
    let all : min (length output) max_places ≡ length output = omega arith in
    ap (λ n. text_of (take n ns) ++ drop n output) all
    ∙ ap (λ ys. text ++ ys) (drop_all (length output) output (omega arith))
    ∙ append-nil text

pub written_back : (ns output after : List ℕ) → after ≡ written ns output → Lettered ns → length output ≤ max_places
    → Read after (padded (take (length output) ns))
written_back ns output after e h few =
    let front : List ℕ = take (length output) ns in
    let l = length-take (length output) ns in
    subst (λ ys. Read ys (padded front)) (sym (e ∙ whole ns output few)) (reads_back front (lettered_take (length output) ns h) (omega arith))
