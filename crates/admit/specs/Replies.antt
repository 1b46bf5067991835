-- What each line of the input comes to. Assumes nothing.
use Rattle.std.specs.Prelude.{◌≡◌, ℕ, List, [], ◌∷◌, length, Some, None, Ok, Err, IsUtf8, Option, Result}
use Rattle.std.specs.Int.{w64}
use Rattle.std.proofs.Common.{Fits}
use Rattle.std.specs.Str.Parse.{IsNumeral, digits_value, without_leading_plus}
use Rattle.answers.specs.declared.refusal.Refusal.{Refusal}
use Rattle.answers.specs.declared.syndrome.Syndrome.{Syndrome}
use Rattle.code.specs.Codes.{rows_of}
use Rattle.code.specs.Calls.{Begun, Added, Told}
use Rattle.admit.specs.declared.reply.Reply.{Reply}
use Rattle.admit.specs.declared.reply.Reply.TheVariants as R
use Rattle.admit.specs.declared.reply.Fault.{Fault}
use Rattle.admit.specs.declared.reply.Fault.TheVariants.{NoNumber, Refused}
use Rattle.admit.specs.declared.session.Stage.{Stage}
use Rattle.admit.specs.declared.session.Stage.TheVariants.{Places, Rows, Errors, Ended}
use Rattle.admit.specs.declared.session.Session.{Session}

-- what a call that was asked comes to: a reply, or that it was turned down
abbrev pub answered : {A : Type 0} → (A → Reply) → Result A Refusal → Result Reply Fault
answered reply (Ok x) = Ok (reply x)
answered reply (Err e) = Err (Refused e)

-- what is read after a number of places: rows, or nothing any more
abbrev pub after_begin : Result (Unit {0}) Refusal → Stage
after_begin (Ok u) = Rows
after_begin (Err e) = Ended

-- the number that a line of text writes in decimal digits, a plus in front or not; none where it writes none, or one that no usize holds
abbrev pub Numbered : List ℕ → Option ℕ → Type 0
Numbered line (Some n) = IsNumeral 10 (without_leading_plus line) × (n ≡ digits_value 10 (without_leading_plus line))
Numbered line None = IsUtf8 line → IsNumeral 10 (without_leading_plus line) → Fits w64 (digits_value 10 (without_leading_plus line)) → ⊥

-- a first line that writes this number, or none: a code is begun and rows come next, or nothing does
abbrev pub BeginAt : Option ℕ → Session → Result Reply Fault → Session → Type 0
BeginAt None before answer after = (answer ≡ Err NoNumber) × (after.code ≡ before.code) × (after.stage ≡ Ended)
BeginAt (Some n) before answer after =
    (r : Result (Unit {0}) Refusal) × Begun n before.code r after.code × (answer ≡ answered (λ u. R.Begun n) r) × (after.stage ≡ after_begin r)

-- the first line
abbrev pub BeginLine : List ℕ → Session → Result Reply Fault → Session → Type 0
BeginLine line before answer after = (places : Option ℕ) × Numbered line places × BeginAt places before answer after

-- a row: it is added, now the last of so many, or refused, and rows go on
abbrev pub RowLine : List ℕ → Session → Result Reply Fault → Session → Type 0
RowLine line before answer after =
    (r : Result (Unit {0}) Refusal) × Added line before.code r after.code
    × (answer ≡ answered (λ u. R.Taken (length (rows_of after.code))) r) × (after.stage ≡ before.stage)

-- an error: its syndrome is told, or it is refused
abbrev pub ErrorLine : List ℕ → Session → Result Reply Fault → Type 0
ErrorLine line session answer = (r : Result Syndrome Refusal) × Told session.code line r × (answer ≡ answered R.Told r)

-- one line, by what it is read as: a number of places, a row or the empty line after the rows, an error, or nothing any more
abbrev pub LineAt : Stage → List ℕ → Session → Option (Result Reply Fault) → Session → Type 0
LineAt Places line before reply after = (answer : Result Reply Fault) × BeginLine line before answer after × (reply ≡ Some answer)
LineAt Rows [] before reply after = (reply ≡ None) × (after.code ≡ before.code) × (after.stage ≡ Errors)
LineAt Rows (b ∷ line) before reply after =
    (answer : Result Reply Fault) × RowLine (b ∷ line) before answer after × (reply ≡ Some answer)
LineAt Errors line before reply after =
    (answer : Result Reply Fault) × ErrorLine line before answer × (reply ≡ Some answer) × (after ≡ before)
LineAt Ended line before reply after = (reply ≡ None) × (after ≡ before)

-- one line
abbrev pub Line : List ℕ → Session → Option (Result Reply Fault) → Session → Type 0
Line line before reply after = LineAt before.stage line before reply after
