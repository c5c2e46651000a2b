-- Answers by computation: that the definitions say what the request says.
-- Assumes nothing.
use Rattle.std.specs.Prelude.{◌≡◌, refl, List, [], ◌∷◌, ℕ, zero, suc, ◌*◌, ℤ, pos, negsuc}
use Rattle.offsets.specs.declared.Tie.{Tie}
use Rattle.offsets.specs.Relax.{lower, third, relaxed, settled}
use Rattle.offsets.specs.Offsets.{cannot, limits}
use Rattle.offsets.specs.Thirds.{firstly}
use Rattle.offsets.specs.Finds.{offsets, ran, least-word, most-word}

abbrev tie : ℕ → ℕ → ℤ → ℤ → Tie
tie a b lo hi = record { first = a; second = b; least = lo; most = hi }

-- the list at first
abbrev listed : (ℕ → ℤ) → ℕ → ℕ → List ℤ
listed f i zero = []
listed f i (suc k) = f i ∷ listed f (suc i) k

abbrev begin : ℕ → ℕ → List ℤ
begin n base = listed (firstly n base) 0 (n * 3)

-- a poor match, a chain of two, and a record that is not tied
one : offsets 2 (tie 0 1 (pos 31) (pos 38) ∷ []) (begin 2 0) ≡ limits (pos 0 ∷ pos 0 ∷ pos 31 ∷ pos 38 ∷ [])
unfolding offsets ran least-word most-word firstly settled lower relaxed third
one = refl

backward : offsets 2 (tie 0 1 (pos 31) (pos 38) ∷ []) (begin 2 1) ≡ limits (negsuc 37 ∷ negsuc 30 ∷ pos 0 ∷ pos 0 ∷ [])
unfolding offsets ran least-word most-word firstly settled lower relaxed third
backward = refl

chain : offsets 4 (tie 0 1 (pos 31) (pos 38) ∷ tie 3 1 (pos 5) (pos 7) ∷ []) (begin 4 0)
    ≡ limits (pos 0 ∷ pos 0 ∷ pos 31 ∷ pos 38 ∷ pos 1 ∷ pos 0 ∷ pos 24 ∷ pos 33 ∷ [])
unfolding offsets ran least-word most-word firstly settled lower relaxed third
chain = refl

-- a third tie narrows both
triangle : offsets 3 (tie 0 1 (pos 10) (pos 20) ∷ tie 1 2 (pos 10) (pos 20) ∷ tie 0 2 (pos 36) (pos 60) ∷ []) (begin 3 0)
    ≡ limits (pos 0 ∷ pos 0 ∷ pos 16 ∷ pos 20 ∷ pos 36 ∷ pos 40 ∷ [])
unfolding offsets ran least-word most-word firstly settled lower relaxed third
triangle = refl

-- several ties between the same two, one of them turned round
twice : offsets 2 (tie 0 1 (pos 10) (pos 20) ∷ tie 1 0 (negsuc 16) (negsuc 11) ∷ []) (begin 2 0) ≡ limits (pos 0 ∷ pos 0 ∷ pos 12 ∷ pos 17 ∷ [])
unfolding offsets ran least-word most-word firstly settled lower relaxed third
twice = refl

-- a tie from a record to itself joins nothing, and asks that 0 is within it; a contradiction away from the base counts
round : offsets 2 (tie 1 1 (negsuc 4) (pos 5) ∷ []) (begin 2 0) ≡ limits (pos 0 ∷ pos 0 ∷ pos 1 ∷ pos 0 ∷ [])
unfolding offsets ran least-word most-word firstly settled lower relaxed third
round = refl

round_not : offsets 2 (tie 1 1 (pos 1) (pos 5) ∷ []) (begin 2 0) ≡ cannot
unfolding offsets ran least-word most-word firstly settled lower relaxed third
round_not = refl

away : offsets 3 (tie 1 2 (pos 1) (pos 5) ∷ tie 2 1 (pos 1) (pos 5) ∷ []) (begin 3 0) ≡ cannot
unfolding offsets ran least-word most-word firstly settled lower relaxed third
away = refl

-- a contradiction that shows only by going round many times
slow : offsets 3 (tie 0 1 (negsuc 19999) (pos 20000) ∷ tie 1 2 (pos 1) (pos 1) ∷ tie 2 1 (pos 0) (pos 0) ∷ []) (begin 3 0) ≡ cannot
unfolding offsets ran least-word most-word firstly settled lower relaxed third
slow = refl

-- the far ends
ends : offsets 3 (tie 0 1 (pos 20000) (pos 20000) ∷ tie 1 2 (negsuc 19999) (pos 20000) ∷ []) (begin 3 2)
    ≡ limits (negsuc 39999 ∷ pos 0 ∷ negsuc 19999 ∷ pos 20000 ∷ pos 0 ∷ pos 0 ∷ [])
unfolding offsets ran least-word most-word firstly settled lower relaxed third
ends = refl
