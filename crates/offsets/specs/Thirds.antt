-- One run of passes does all three: a list of three thirds of n distances. The first begins with all records at 0 and tells whether there is a placing. The
-- second begins at the base and has the most that each record begins after it. The third is relaxed by the ties turned round, and has the least, with the sign
-- changed. That the thirds settle as if alone is shown in proofs/ThirdsLaws.
--   far              the number of a record that is not reached
--   choose b y z     the one or the other
--   firstly, Starts  what stands in the list at first
use Rattle.std.specs.Prelude.{◌≡◌, List, Bool, true, false, ℕ, ◌+◌, ◌*◌, ◌^◌, ◌<◌, ltb, eqb, ℤ, pos, length}
use Rattle.offsets.specs.Relax.{dist}

-- the number of a record that is not reached
abbrev pub far : ℤ
far = pos (2 ^ 62)

abbrev pub choose : Bool → ℤ → ℤ → ℤ
choose true y z = y
choose false y z = z

unfoldable pub firstly : ℕ → ℕ → ℕ → ℤ
firstly n base i = choose (ltb i n) (pos 0) (choose (eqb i (n + base)) (pos 0) (choose (eqb i (n * 2 + base)) (pos 0) far))

abbrev pub Starts : ℕ → ℕ → List ℤ → Type 0
Starts n base l = (length l ≡ n * 3) × ((i : ℕ) → i < n * 3 → dist l i ≡ firstly n base i)
