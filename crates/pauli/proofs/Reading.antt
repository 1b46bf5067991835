-- What one turn of reading a text does, and what was read at its end. Assumes nothing.
use Rattle.std.proofs.Common.{◌≡◌, ℕ, suc, ◌+◌, ◌-◌, ◌<◌, ◌≤◌, cond, List, [], ◌∷◌, ◌++◌, map, length, get_or, take, drop, set, replicate, Some, None, unwrap_or, sym, refl, ap, ◌∙◌, subst, ap₂, append_assoc, arith}
use Rattle.std.proofs.lemmas.List.{take_more, take_all, map-append, map_push, take-append-drop, drop_more, length-map, length_push, length-take-le, take_at, set_at}
use Rattle.std.proofs.lemmas.Bool.{le-leb}
use Rattle.pauli.specs.declared.letter.Letter.{Letter}
use Rattle.pauli.specs.declared.letter.Letter.TheVariants.{I}
use Rattle.pauli.specs.Letters.{number}
use Rattle.pauli.specs.Limits.{max_places}
use Rattle.pauli.specs.Text.{first, is_fault, fault, word_of, named, unread, letters_of, padded, numbers_of, Read}
use Rattle.pauli.proofs.LetterLaws.{letter-number}
use Rattle.pauli.proofs.Firsts.{first_push_false, first-at}

-- a text that is not too long has its fault at the first byte that is no letter
pub fault_short : (text : List ℕ) → length text ≤ max_places → fault text ≡ first (map is_fault text)
fault_short text h = ap (λ t. cond t (first (map is_fault text)) (Some (max_places + 1))) (le-leb (length text) max_places h)

put_next : (ns : List ℕ) (n : ℕ) → length ns < max_places → set (padded ns) (length ns) n ≡ padded (ns ++ n ∷ [])
put_next ns n h =
    let l = length_push ns n in
    let left : ℕ = max_places - length (ns ++ n ∷ []) in
    let d : max_places - length ns ≡ suc left = omega arith in
    ap (λ k. set (ns ++ replicate k 0) (length ns) n) d
    ∙ set_at ns 0 (replicate left 0) n (length ns) refl
    ∙ sym (append_assoc ns (n ∷ []) (replicate left 0))

-- as many numbers as bytes
length-read : (text : List ℕ) → length (map number (word_of text)) ≡ length text
length-read text = length-map (word_of text) number ∙ length-map text (λ b. unwrap_or (named b) I)

-- ---- one byte after those that were read

module _ (front ns : List ℕ) (b : ℕ) (r : Read front ns) where
  none : length front ≤ max_places → first (map is_fault front) ≡ None
  none h = sym (fault_short front h) ∙ r.none

  push : (a : Letter) → length front < max_places → named b ≡ Some a → Read (front ++ b ∷ []) (set ns (length front) (number a))
  push a h e =
      let l = length_push front b in
      let m = length-read front in
      record {
        none =
            fault_short (front ++ b ∷ []) (omega arith)
            ∙ ap first (map_push is_fault front b)
            ∙ ap (λ o. first (map is_fault front ++ unread o ∷ [])) e
            ∙ first_push_false (map is_fault front) (none (omega arith));
        numbers_are =
            ap₂ (λ ys i. set ys i (number a)) r.numbers_are (sym m)
            ∙ put_next (map number (word_of front)) (number a) (omega arith)
            ∙ ap padded
            (ap (λ o. map number (word_of front) ++ number (unwrap_or o I) ∷ []) (sym e)
            ∙ sym (map_push number (word_of front) (unwrap_or (named b) I))
            ∙ ap (map number) (sym (map_push (λ c. unwrap_or (named c) I) front b)));
      }

  stop : (rest : List ℕ) → length front ≤ max_places → length (front ++ b ∷ rest) ≤ max_places → named b ≡ None
      → fault (front ++ b ∷ rest) ≡ Some (length front + 1)
  stop rest h k e =
      fault_short (front ++ b ∷ rest) k
      ∙ ap first (map-append is_fault front (b ∷ rest))
      ∙ ap (λ o. first (map is_fault front ++ unread o ∷ map is_fault rest)) e
      ∙ first-at (map is_fault front) (map is_fault rest) (none h)
      ∙ ap (λ i. Some (i + 1)) (length-map front is_fault)

-- ---- the laws of the loop

-- the first i bytes of a text are letters, and the table has their numbers
unfoldable pub Spelling : List ℕ → ℕ → List ℕ → Type 0
Spelling text i ns = Read (take i text) ns

-- a turn at a letter
pub one_more : (text ns : List ℕ) (i : ℕ) (a : Letter) → Spelling text i ns → i < length text → length text ≤ max_places
    → named (get_or text i 0) ≡ Some a → Spelling text (i + 1) (set ns i (number a))
unfolding Spelling
one_more text ns i a r h k e =
    let front : List ℕ = take i text in
    let b : ℕ = get_or text i 0 in
    let l : length front ≡ i = length-take-le i text (omega arith) in
    subst (λ ys. Read ys (set ns i (number a))) (sym (take_more text i 0 h))
    (subst (λ j. Read (front ++ b ∷ []) (set ns j (number a))) l (push front ns b r a (omega arith) e))

-- a turn at a byte that is no letter
pub no_letter : (text ns : List ℕ) (i : ℕ) → Spelling text i ns → i < length text → length text ≤ max_places
    → named (get_or text i 0) ≡ None → fault text ≡ Some (i + 1)
unfolding Spelling
no_letter text ns i r h k e =
    let front : List ℕ = take i text in
    let b : ℕ = get_or text i 0 in
    let rest : List ℕ = drop (i + 1) text in
    let l : length front ≡ i = length-take-le i text (omega arith) in
    let whole : front ++ b ∷ rest ≡ text = ap (λ ys. front ++ ys) (sym (drop_more text i 0 h)) ∙ take-append-drop i text in
    let few : length (front ++ b ∷ rest) ≤ max_places = subst (λ ys. length ys ≤ max_places) (sym whole) k in
    ap fault (sym whole) ∙ stop front ns b r rest (omega arith) few e ∙ ap (λ j. Some (j + 1)) l

-- the end
pub all_read : (text ns : List ℕ) (i : ℕ) → Spelling text i ns → length text ≤ i → Read text ns
unfolding Spelling
all_read text ns i r h = subst (λ ys. Read ys ns) (take_all i text h) r

-- the beginning
pub none_read : (text ns : List ℕ) → ns ≡ replicate max_places 0 → Spelling text 0 ns
unfolding Spelling
none_read text ns e = record { none = refl; numbers_are = e }

-- ---- what was read

letters_numbers : (w : List Letter) → letters_of (map number w) ≡ w
letters_numbers [] = refl
letters_numbers (e ∷ w) = ap₂ ◌∷◌ (letter-number e) (letters_numbers w)

pub read_letters : (text ns : List ℕ) → ns ≡ numbers_of text → letters_of (take (length text) ns) ≡ word_of text
read_letters text ns e =
    let read : List ℕ = map number (word_of text) in
    ap (λ ys. letters_of (take (length text) ys)) e
    ∙ ap letters_of (take_at read (replicate (max_places - length read) 0) (length text) (length-read text))
    ∙ letters_numbers (word_of text)

-- ---- what was read stands in front

-- the front of a table that was read, as long as the text, has the numbers of its letters
pub front_read : (text numbers : List ℕ) → Read text numbers → take (length text) numbers ≡ map number (word_of text)
front_read text numbers read =
    let letters : List ℕ = map number (word_of text) in
    let long : length letters ≡ length text = length-map (word_of text) number ∙ length-map text (λ b. unwrap_or (named b) I) in
    ap (take (length text)) read.numbers_are ∙ take_at letters (replicate (max_places - length letters) 0) (length text) long
