-- The laws of letters, each by a test of all cases that computes. Assumes nothing.
use Rattle.std.proofs.Common.{◌≡◌, Bool, true, false, ◌&&◌, T, sym, refl, ap, ◌∙◌, eqb→eq}
use mathlib.Core.Bool.{beq}
use Rattle.pauli.specs.declared.letter.Letter.{Letter}
use Rattle.pauli.specs.declared.letter.Letter.TheVariants.{I, X, Y, Z}
use Rattle.pauli.specs.Letters.{number, letter, same, clash, plus}
use Rattle.pauli.specs.Words.{xor}

and_left : (a b : Bool) → T (a && b) → T a
and_left true b t = tt
and_left false b t = t

and_right : (a b : Bool) → T (a && b) → T b
and_right true b t = t
and_right false b t = absurd t

-- a test passes at every letter
abbrev every : (Letter → Bool) → Bool
every P = P I && (P X && (P Y && P Z))

every-at : (P : Letter → Bool) → T (every P) → (a : Letter) → T (P a)
every-at P t I = and_left (P I) (P X && (P Y && P Z)) t
every-at P t X = and_left (P X) (P Y && P Z) (and_right (P I) (P X && (P Y && P Z)) t)
every-at P t Y = and_left (P Y) (P Z) (and_right (P X) (P Y && P Z) (and_right (P I) (P X && (P Y && P Z)) t))
every-at P t Z = and_right (P Y) (P Z) (and_right (P X) (P Y && P Z) (and_right (P I) (P X && (P Y && P Z)) t))

twice : (P : Letter → Letter → Bool) → T (every (λ a. every (λ b. P a b))) → (a b : Letter) → T (P a b)
twice P t a b = every-at (λ c. P a c) (every-at (λ c. every (λ d. P c d)) t a) b

thrice : (P : Letter → Letter → Letter → Bool) → T (every (λ a. every (λ b. every (λ c. P a b c)))) → (a b c : Letter) → T (P a b c)
thrice P t a b c = twice (λ d e. P a d e) (every-at (λ d. every (λ e. every (λ f. P d e f))) t a) b c

pub letter-number : (a : Letter) → letter (number a) ≡ a
letter-number I = refl
letter-number X = refl
letter-number Y = refl
letter-number Z = refl

same_is : (a b : Letter) → T (same a b) → a ≡ b
same_is a b t = sym (letter-number a) ∙ (ap letter (eqb→eq (number a) (number b) t) ∙ letter-number b)

beq_is : (a b : Bool) → T (beq a b) → a ≡ b
beq_is true true t = refl
beq_is true false t = absurd t
beq_is false true t = absurd t
beq_is false false t = refl

pub plus_comm : (a b : Letter) → plus a b ≡ plus b a
plus_comm a b = same_is (plus a b) (plus b a) (twice (λ c d. same (plus c d) (plus d c)) tt a b)

pub plus_assoc : (a b c : Letter) → plus (plus a b) c ≡ plus a (plus b c)
plus_assoc a b c = same_is (plus (plus a b) c) (plus a (plus b c)) (thrice (λ d e f. same (plus (plus d e) f) (plus d (plus e f))) tt a b c)

pub plus_self : (a : Letter) → plus a a ≡ I
plus_self I = refl
plus_self X = refl
plus_self Y = refl
plus_self Z = refl

pub plus-I : (a : Letter) → plus I a ≡ a
plus-I a = refl

pub clash_sym : (a b : Letter) → clash a b ≡ clash b a
clash_sym a b = beq_is (clash a b) (clash b a) (twice (λ c d. beq (clash c d) (clash d c)) tt a b)

pub clash-I : (a : Letter) → clash I a ≡ false
clash-I a = refl

pub clash-plus : (a b c : Letter) → clash (plus a b) c ≡ xor (clash a c) (clash b c)
clash-plus a b c =
    beq_is (clash (plus a b) c) (xor (clash a c) (clash b c))
    (thrice (λ d e f. beq (clash (plus d e) f) (xor (clash d f) (clash e f))) tt a b c)
