-- The words of a text. Assumes nothing.
use Rattle.std.proofs.Common.{◌≡◌, ℕ, zero, suc, ◌+◌, ◌<◌, ◌≤◌, true, false, List, [], ◌∷◌, ◌++◌, length, get_or, take, drop, sym, refl, ap, ◌∙◌, subst, ⊎_elim, append_assoc, append-nil, arith}
use Rattle.std.specs.Char.{char_set_contains, is_ascii_whitespace}
use Rattle.std.specs.Str.Pattern.{HasPassingCharAt}
use Rattle.std.specs.Str.{NoCharPasses}
use Rattle.std.proofs.lemmas.Bool.{cond-false, cond-true, cases_lt, both_ways}
use Rattle.std.proofs.lemmas.Str.{NoCharPasses-byte}
use Rattle.std.proofs.lemmas.Bool.Decides.{nat_tests}
use Rattle.std.proofs.lemmas.List.{take-append-drop, get_or-drop}
use Rattle.std.proofs.lemmas.Str.Pattern.{drop_at_char}
use Rattle.numerals.specs.Numbers.{words_in, words_from, in_front}

-- no byte is white space
abbrev pub Dark : List ℕ → Type 0
Dark xs = (i : ℕ) → i < length xs → is_ascii_whitespace (get_or xs i 0) ≡ false

dark_tail : (x : ℕ) (xs : List ℕ) → Dark (x ∷ xs) → Dark xs
dark_tail x xs h i l = h (suc i) (omega arith)

-- bytes that are no white space go to the word
along : (w xs ys : List ℕ) → Dark xs → words_from w (xs ++ ys) ≡ words_from (w ++ xs) ys
along w [] ys h = ap (λ v. words_from v ys) (sym (append-nil w))
along w (x ∷ xs) ys h =
    cond-false _ _ _ (h 0 (omega arith)) ∙ (along (w ++ (x ∷ [])) xs ys (dark_tail x xs h) ∙ ap (λ v. words_from v ys) (append_assoc w (x ∷ []) xs))

-- white space in front makes no word
pub past_gap : (n : ℕ) (text : List ℕ) → ((i : ℕ) → i < n → is_ascii_whitespace (get_or text i 0) ≡ true) → words_in text ≡ words_in (drop n text)
unfolding words_in
past_gap zero text h = refl
past_gap (suc n) [] h = refl
past_gap (suc n) (b ∷ bs) h = cond-true _ _ _ (h 0 (omega arith)) ∙ past_gap n bs (λ i l. h (suc i) (omega arith))

front_some : (w : List ℕ) (ws : List (List ℕ)) → 0 < length w → in_front w ws ≡ w ∷ ws
front_some [] ws l = absurd (omega arith)
front_some (b ∷ w) ws l = refl

-- a word up to white space
pub first_word : (w rest : List ℕ) (b : ℕ) → Dark w → 0 < length w → is_ascii_whitespace b ≡ true → words_in (w ++ (b ∷ rest)) ≡ w ∷ words_in rest
unfolding words_in
first_word w rest b h l e = along [] w (b ∷ rest) h ∙ (cond-true _ _ _ e ∙ front_some w _ l)

-- a word up to the end
pub last_word : (w : List ℕ) → Dark w → 0 < length w → words_in w ≡ w ∷ words_in []
unfolding words_in
last_word w h l = ap (words_from []) (sym (append-nil w)) ∙ (along [] w [] h ∙ front_some w [] l)

pub no_words : words_in [] ≡ []
unfolding words_in
no_words = refl

-- the five characters of white space
pub blanks_white : (c : ℕ) → char_set_contains (32 ∷ 9 ∷ 10 ∷ 12 ∷ 13 ∷ []) c ≡ is_ascii_whitespace c
blanks_white c = grind (arith, nat_tests)

pub white_ascii : (c : ℕ) → is_ascii_whitespace c ≡ true → c < 128
white_ascii c e = grind (arith, nat_tests)

high_dark : (c : ℕ) → 128 ≤ c → is_ascii_whitespace c ≡ false
high_dark c l = grind (arith, nat_tests)

pub dark_from_without : (xs : List ℕ) → NoCharPasses is_ascii_whitespace xs → Dark xs
dark_from_without xs h i l =
    ⊎_elim (λ (k : get_or xs i 0 < 128). NoCharPasses-byte is_ascii_whitespace xs i h l k) (λ (k : 128 ≤ get_or xs i 0). high_dark (get_or xs i 0) k)
    (cases_lt (get_or xs i 0) 128)

-- ---- the first word of a text

-- t is a text without the white space in front of it
abbrev pub Trimmed : List ℕ → List ℕ → Type 0
Trimmed text t =
    (n : ℕ) × (t ≡ drop n text) × (length t + n ≡ length text) × ((i : ℕ) → i < n → is_ascii_whitespace (get_or text i 0) ≡ true)
    × (n < length text → is_ascii_whitespace (get_or text n 0) ≡ false)

same_words : (text t : List ℕ) → Trimmed text t → words_in text ≡ words_in t
same_words text t h = past_gap h.0 text h.3 ∙ ap words_in (sym h.1)

pub none_in : (xs : List ℕ) → length xs ≡ 0 → words_in xs ≡ []
none_in [] e = no_words
none_in (x ∷ xs) e = absurd (omega arith)

-- a text that is only white space
pub next_empty : (text t : List ℕ) → Trimmed text t → length t ≡ 0 → words_in text ≡ []
next_empty text t h l = same_words text t h ∙ none_in t l

-- a text with one word
pub next_last : (text t : List ℕ) → Trimmed text t → 0 < length t → NoCharPasses is_ascii_whitespace t → (words_in text ≡ t ∷ words_in []) × (0 < length text)
next_last text t h l w = (same_words text t h ∙ last_word t (dark_from_without t w) l, omega (arith, h.2))

first_dark : (text t : List ℕ) → Trimmed text t → 0 < length t → is_ascii_whitespace (get_or t 0 0) ≡ false
first_dark text t h l =
    let e : h.0 + 0 ≡ h.0 = omega arith in
    ap (λ (xs : List ℕ). is_ascii_whitespace (get_or xs 0 0)) h.1 ∙ (ap is_ascii_whitespace (get_or-drop h.0 text 0 0)
    ∙ (ap (λ (k : ℕ). is_ascii_whitespace (get_or text k 0)) e ∙ h.4 (omega (arith, h.2))))

-- a text with a word that white space follows
pub next_more : (text t x y : List ℕ) (i j : ℕ) → Trimmed text t → 0 < length t → NoCharPasses is_ascii_whitespace (take i t) → HasPassingCharAt is_ascii_whitespace t i j
    → x ≡ take i t → y ≡ drop j t → i ≤ j → length x ≡ i → length y + j ≡ length t → (words_in text ≡ x ∷ words_in y) × (length y < length text)
next_more text t x y zero j h l w a ex ey ij lx ly =
    let b : is_ascii_whitespace (get_or t 0 0) ≡ true = ap is_ascii_whitespace (a.2.byte (white_ascii a.0 a.1)) ∙ a.1 in
    absurd (both_ways _ (first_dark text t h l) b)
next_more text t x y (suc i) j h l w a ex ey ij lx ly =
    let cut : drop (suc i) t ≡ a.0 ∷ drop j t = drop_at_char a.0 t (suc i) j a.2 (white_ascii a.0 a.1) in
    let dark : Dark x = subst Dark (sym ex) (dark_from_without (take (suc i) t) w) in
    let parts : t ≡ x ++ (a.0 ∷ y) =
    sym (take-append-drop (suc i) t) ∙ (ap (λ (v : List ℕ). v ++ drop (suc i) t) (sym ex) ∙ ap (λ (v : List ℕ). x ++ v) (cut ∙ ap (λ (v : List ℕ). a.0 ∷ v) (sym ey))) in
    (same_words text t h ∙ (ap words_in parts ∙ first_word x y a.0 dark (omega arith) a.1), omega (arith, h.2))
