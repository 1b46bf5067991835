-- The measure of a word, letter by letter, from the laws of its scale alone. Assumes nothing.
use Rattle.std.proofs.Common.{◌≡◌, ℕ, suc, ◌+◌, ◌<◌, List, [], ◌∷◌, ◌++◌, map, length, get_or, take, refl, arith}
use Rattle.std.proofs.lemmas.List.{take_more, take_all, length-take-le}
use Rattle.std.proofs.lemmas.Bool.Decides.{nat_tests}
use Rattle.pauli.specs.declared.letter.Letter.{Letter}
use Rattle.pauli.specs.declared.letter.Letter.TheVariants.{I, X, Y, Z}
use Rattle.pauli.specs.Letters.{number}
use Rattle.pauli.specs.Words.{Word, at}
use Rattle.measure.specs.Scale.{Scale, Le, Lawful}
use Rattle.channel.specs.Prices.{Prices, cost, asked, joined_from, measure_of, measure_of_numbers}
use Rattle.channel.specs.Laws.{Alike, MeasureLaws}

module _ {V E : Type 0} (join : V → V → V) (price : ℕ → E → V) where
  pub joined_append : (w t : List E) (p : ℕ) (v : V) → joined_from join price v p (w ++ t) ≡ joined_from join price (joined_from join price v p w) (p + length w) t
  joined_append [] t p v = grind arith
  joined_append (e ∷ w) t p v = grind (arith, joined_append w t (p + 1) (join v (price p e)))

  -- one letter more of a word that is gone through
  pub joined_take : (w : List E) (x : E) (v : V) (i : ℕ) → i < length w
      → join (joined_from join price v 1 (take i w)) (price (i + 1) (get_or w i x)) ≡ joined_from join price v 1 (take (i + 1) w)
  joined_take w x v i h = grind (arith, take_more w i x h, joined_append (take i w) (get_or w i x ∷ []) 1 v, length-take-le i w)

-- words measure the same where their letters cost the same
pub joined_same : {V E : Type 0} (join : V → V → V) (f g : ℕ → E → V) → ((p : ℕ) (e : E) → f p e ≡ g p e) → (w : List E) (p : ℕ) (v : V) → joined_from join f v p w ≡ joined_from join g v p w
joined_same join f g same [] p v = refl
joined_same join f g same (e ∷ w) p v = grind (arith, same p e, joined_same join f g same w (p + 1) (join v (g p e)))

-- two words measure the same if the letters at each place cost the same
pub joined_places : {V : Type 0} (join : V → V → V) (f g : ℕ → Letter → V) (u v : Word) (p : ℕ) (x : V)
    → length u ≡ length v → ((k : ℕ) → k < length u → f (p + k) (at k u) ≡ g (p + k) (at k v))
    → joined_from join f x p u ≡ joined_from join g x p v
joined_places join f g [] [] p x same h = refl
joined_places join f g [] (b ∷ v) p x same h = absurd (omega arith)
joined_places join f g (a ∷ u) [] p x same h = absurd (omega arith)
joined_places join f g (a ∷ u) (b ∷ v) p x same h =
    let rest = joined_places join f g u v (p + 1) (join x (g p b)) (omega arith) (λ k lt. grind (arith, h (suc k))) in
    grind (arith, h 0, rest)

-- ---- letters and their numbers

asked-number : {V : Type 0} (s : Scale V) (c : Prices V) (p : ℕ) (e : Letter) → asked s c p (number e) ≡ cost s c p e
asked-number s c p = elim [ I ↦ refl | X ↦ refl | Y ↦ refl | Z ↦ refl ]

joined_numbers : {V : Type 0} (s : Scale V) (c : Prices V) (w : Word) (p : ℕ) (v : V) → joined_from s.join (asked s c) v p (map number w) ≡ joined_from s.join (cost s c) v p w
joined_numbers s c [] p v = refl
joined_numbers s c (e ∷ w) p v = cc (asked-number s c p e, joined_numbers s c w (p + 1) (s.join v (cost s c p e)))

pub measure_numbers : {V : Type 0} (s : Scale V) (c : Prices V) (w : Word) → measure_of_numbers s c (map number w) ≡ measure_of s c w
measure_numbers s c w = joined_numbers s c w 1 s.start

-- what the loop over the letters needs: a turn, the end, and letters by their numbers
pub ruleset joining = (joined_take, take_all, measure_numbers)

-- ---- the order is kept

module _ {V E : Type 0} {s : Scale V} (laws : Lawful s) (price : ℕ → E → V) where
  pub joined_mono : (w : List E) (p : ℕ) (a b : V) → Le s a b → Le s (joined_from s.join price a p w) (joined_from s.join price b p w)
  joined_mono [] p a b h = h
  joined_mono (e ∷ w) p a b h = joined_mono w (p + 1) (s.join a (price p e)) (s.join b (price p e)) (laws.mono a b (price p e) h)

  pub joined_keeps : (u v t : List E) → length u ≡ length v → Le s (joined_from s.join price s.start 1 u) (joined_from s.join price s.start 1 v) → Le s (joined_from s.join price s.start 1 (u ++ t)) (joined_from s.join price s.start 1 (v ++ t))
  joined_keeps u v t same h =
      rw (joined_append s.join price u t 1 s.start, joined_append s.join price v t 1 s.start, same)
      (joined_mono t (1 + length v) (joined_from s.join price s.start 1 u) (joined_from s.join price s.start 1 v) h)

-- ---- channels that are alike

-- channels whose prices agree where they are priced cost the same everywhere
pub cost_alike : {V : Type 0} (s : Scale V) (c d : Prices V) → Alike c d → (p : ℕ) (e : Letter) → cost s c p e ≡ cost s d p e
cost_alike s c d same p e = grind (arith, nat_tests, same.number, same.prices)

-- ---- the laws

pub measure_laws : {V : Type 0} (s : Scale V) → Lawful s → MeasureLaws s
measure_laws s laws = record {
  empty = λ c. refl;
  last = λ c w e. joined_append s.join (cost s c) w (e ∷ []) 1 s.start;
  numbers = measure_numbers s;
  keeps = λ c. joined_keeps laws (cost s c);
  alike = λ c d same w. joined_places s.join (cost s c) (cost s d) w w 1 s.start refl (λ k lt. cost_alike s c d same (1 + k) (at k w));
}
