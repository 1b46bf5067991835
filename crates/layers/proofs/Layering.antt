-- What the layers do to the measure of a word. Assumes nothing.
use Rattle.std.proofs.Common.{◌≡◌, ℕ, ◌+◌, ◌%◌, ◌<◌, ◌≤◌, List, length, refl, arith}
use Rattle.std.proofs.lemmas.List.{get_or-map, length-map}
use Rattle.std.proofs.lemmas.Bool.Decides.{nat_tests}
use Rattle.pauli.specs.declared.letter.Letter.{Letter}
use Rattle.pauli.specs.declared.letter.Letter.TheVariants.{I}
use Rattle.pauli.specs.Letters.{letter, plus}
use Rattle.pauli.specs.Limits.{max_places}
use Rattle.pauli.specs.Words.{Word, add, at}
use Rattle.pauli.proofs.WordLaws.{at-add, length-sum}
use Rattle.measure.specs.Scale.{Scale}
use Rattle.channel.specs.Prices.{cost}
use Rattle.channel.proofs.Joined.{joined_places}
use Rattle.layers.specs.Layers.{erased, shifted, shift_at}
use Rattle.layers.specs.Laws.{shift_word, LayerLaws}

-- the letters of a shifted word are those of its sum with the word of the shifts
shifted-letter : (shifts : List ℕ) (w : Word) (k : ℕ) → k < length w → length w ≤ length shifts → length shifts ≤ max_places
    → plus (at k w) (shift_at shifts (1 + k)) ≡ at k (add w (shift_word shifts))
shifted-letter shifts w k lt long few =
    let f : ℕ → Letter = λ n. letter (n % 4) in
    grind (arith, nat_tests, get_or-map f shifts k 0 I, at-add w (shift_word shifts) k, length-map shifts f)

pub layer_laws : {V : Type 0} (s : Scale V) → LayerLaws s
layer_laws s = record {
  erases = λ c marks u v long same.
      let e = erased s marks c in
      joined_places s.join (cost s e) (cost s e) u v 1 s.start long (λ k lt. grind (arith, same k));
  shifts = λ c shifts w long few.
      let l = length-map shifts (λ (n : ℕ). letter (n % 4)) in
      joined_places s.join (cost s (shifted shifts c)) (cost s c) w (add w (shift_word shifts)) 1 s.start
      (length-sum w (shift_word shifts) (omega arith)) (λ k lt. cc (shifted-letter shifts w k lt long few));
  either = λ c marks shifts w. refl;
}
