-- The answer as passes find it; that it is the answer of `Offsets` is shown in proofs/FindsLaws.
--   ran n ts l            n + 1 passes over the ties, from a list l that `Starts n base`
--   least-word, most-word
--                         the two words of a record, of the list that was made
--   Told, Fits            a list that has the words of the first k records; that all words fit 32 bits
--   words, answer         two words to a record, k records from x on; the answer, by the flag and the list
--   offsets n ts l        what a program makes of it
use Rattle.std.specs.Prelude.{◌≡◌, List, [], ◌∷◌, Bool, ℕ, zero, suc, ◌+◌, ◌*◌, ◌^◌, ◌<◌, ℤ, pos, neg_ℤ, get_or}
use Rattle.std.proofs.Math.Bool.{true, false}
use Rattle.std.specs.Int.Signed.{mag}
use Rattle.offsets.specs.declared.Tie.{Tie}
use Rattle.offsets.specs.Relax.{State, known, dist, settled}
use Rattle.offsets.specs.Offsets.{Answer, cannot, limits}
use Rattle.offsets.specs.Thirds.{choose}

-- ---- what a program does
unfoldable pub ran : ℕ → List Tie → List ℤ → State
ran n ts l = settled n (suc n) ts (l, false)

-- the two words of a record, of the list that was made
unfoldable pub least-word : ℕ → List ℤ → ℕ → ℤ
least-word n r x = choose (known (dist r (n + x))) (neg_ℤ (dist r (n * 2 + x))) (pos 1)

unfoldable pub most-word : ℕ → List ℤ → ℕ → ℤ
most-word n r x = choose (known (dist r (n + x))) (dist r (n + x)) (pos 0)

-- a list that has the words of the first k records, and that all words fit 32 bits
abbrev pub Told : ℕ → List ℤ → ℕ → List ℤ → Type 0
Told n r k ws = (x : ℕ) → x < k → (get_or ws (x * 2) (pos 0) ≡ least-word n r x) × (get_or ws (x * 2 + 1) (pos 0) ≡ most-word n r x)

abbrev pub Fits : ℕ → List ℤ → Type 0
Fits n r = (x : ℕ) → x < n → (mag (least-word n r x) < 2 ^ 31) × (mag (most-word n r x) < 2 ^ 31)

-- two words to a record, k records from x on
abbrev pub words : (ℕ → ℤ) → (ℕ → ℤ) → ℕ → ℕ → List ℤ
words lo hi x zero = []
words lo hi x (suc k) = lo x ∷ (hi x ∷ words lo hi (suc x) k)

abbrev pub answer : Bool → List ℤ → Answer
answer true ws = cannot
answer false ws = limits ws

unfoldable pub offsets : ℕ → List Tie → List ℤ → Answer
offsets n ts l = answer (ran n ts l).1 (words (least-word n (ran n ts l).0) (most-word n (ran n ts l).0) 0 n)
