-- Laws of sets as functions that are not 0 at their members: members of unions and intersections, of the set of one number, and of a test. Assumes nothing.
use Rattle.std.specs.Prelude.{◌≡◌, refl, ◌⊎◌, Bool, true, false, ℕ, zero, suc, max, min, eqb}
use Rattle.std.proofs.Common.{inl, inr, arith, eqb-true, eq-eqb}
use Rattle.book.specs.Basics.{bit}
use Rattle.automaton.specs.Automata.{On, is}

pub on_max : (a b : ℕ) → On (max a b) → On a ⊎ On b
on_max zero b h = inr (omega arith)
on_max (suc a) b h = inl (omega arith)

pub on_left : (a b : ℕ) → On a → On (max a b)
on_left a b h = omega arith

pub on_right : (a b : ℕ) → On b → On (max a b)
on_right a b h = omega arith

pub on_both : (a b : ℕ) → On a → On b → On (min a b)
on_both a b h g = omega arith

pub on_min : (a b : ℕ) → On (min a b) → On a × On b
on_min a b h = (omega arith, omega arith)

pub on_bit : (t : Bool) → On (bit t) → t ≡ true
on_bit true h = refl
on_bit false h = absurd (omega arith)

pub bit_on : {t : Bool} → t ≡ true → On (bit t)
bit_on h = rw h (omega arith)

pub on_is : (a b : ℕ) → On (is a b) → b ≡ a
on_is a b h = eqb-true b a (on_bit (eqb b a) h)

pub is_on : (a : ℕ) → On (is a a)
is_on a = bit_on (eq-eqb a a refl)
