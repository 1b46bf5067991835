-- What each refusal of a row means, and what it means that there is none, in plain terms. Assumes nothing.
use Rattle.std.specs.Prelude.{◌≡◌, ℕ, ◌+◌, ◌-◌, ◌<◌, ◌≤◌, Bool, true, false, List, [], length, Some, None, Option, ◌≢◌, slice_index, slice_index_or}
use Rattle.pauli.specs.Limits.{max_rows}
use Rattle.pauli.specs.Words.{Word, odd, clash_count, select}
use Rattle.pauli.specs.Text.{is_fault, word_of}
use Rattle.answers.specs.declared.refusal.Refusal.{Refusal}
use Rattle.answers.specs.declared.refusal.Refusal.TheVariants.{Places, Full, Length, NoLetter, Clash, Sum}

-- the byte at place p, from 1, names no letter, and each before it does
pub record FirstFault (text : List ℕ) (p : ℕ) : Type 0 where
  pub from : 1 ≤ p
  pub to : p ≤ length text
  pub here : is_fault (slice_index text (p - 1)) ≡ true
  pub before : (i : ℕ) → i + 1 < p → is_fault (slice_index text i) ≡ false

-- a word clashes with row k, from 1, at an odd number of places, and with each row before it at an even number
pub record FirstClash (rows : List Word) (w : Word) (k : ℕ) : Type 0 where
  pub from : 1 ≤ k
  pub to : k ≤ length rows
  pub here : odd (clash_count (slice_index_or rows (k - 1) []) w) ≡ true
  pub before : (i : ℕ) → i + 1 < k → odd (clash_count (slice_index_or rows i []) w) ≡ false

-- a word is the sum of some chosen rows, with a bit for each row
pub record Chosen (n : ℕ) (rows : List Word) (w : Word) : Type 0 where
  pub bits : List Bool
  pub each : length bits ≡ length rows
  pub sum : select n bits rows ≡ w

-- a text of n letters whose word clashes with each row at an even number of places, and that no choice of rows adds to
pub record Fresh (n : ℕ) (rows : List Word) (text : List ℕ) : Type 0 where
  pub room : length rows < max_rows
  pub long : length text ≡ n
  pub letters : (i : ℕ) → i < n → is_fault (slice_index text i) ≡ false
  pub even : (i : ℕ) → i < length rows → odd (clash_count (slice_index_or rows i []) (word_of text)) ≡ false
  pub new : (ks : List Bool) → select n ks rows ≢ word_of text

-- what a refusal of a row says of it; without one it is fresh
abbrev pub Means : ℕ → List Word → List ℕ → Option Refusal → Type 0
Means n rows text None = Fresh n rows text
Means n rows text (Some (Places k)) = ⊥
Means n rows text (Some (Full k)) = (k ≡ max_rows) × (length rows ≡ max_rows)
Means n rows text (Some (Length k)) = (k ≡ length text) × (k ≢ n)
Means n rows text (Some (NoLetter k)) = FirstFault text k
Means n rows text (Some (Clash k)) = FirstClash rows (word_of text) k
Means n rows text (Some (Sum k)) = (k ≡ length rows + 1) × Chosen n rows (word_of text)
