-- Laws of words of states: a list of zeros, and rows joined. Assumes nothing.
use mathlib.Core.Path.{◌≡◌}
use mathlib.Core.Logic.{◌⊎◌, inl, inr}
use mathlib.Core.List.{List}
use Prim.Native.Nat.{ℕ, ◌<◌, max}
use native.Mathlib.Omega.{arith}
use lib.Bits.{bit_or}
use lib.ListN.{get_or}
use Rattle.k2.specs.Bits.{digit}
use Rattle.k2.specs.DigitLaws.{digit_or}
use Rattle.automaton.specs.Automata.{On}
use Rattle.automaton.proofs.SetLaws.{on_max}
use Rattle.search.specs.Levels.{Spread}
use Rattle.automaton.proofs.LowestLaws.{none_on, Lowest, gone, Among}

-- ---- rows joined
pub spread_none : (rows : List ℕ) (x : ℕ) → Spread rows x x 0
spread_none rows x = record { from = λ p o. absurd (none_on p o); all = λ p q o e. absurd (omega arith) }

pub spread_more : {rows : List ℕ} {x left r q left' : ℕ} → Spread rows x left r
    → Among left x → Lowest left q left' → Spread rows x left' (bit_or r (get_or rows q 0))
spread_more {rows} {x} {left} {r} {q} {left'} S A L =
    record { from = λ p o. fm p (on_max _ _ (rw digit_or at o)); all = λ p j o e h. rw digit_or (al p j o h (gone L j e)) }
  where
    fm : (p : ℕ) → On (digit r p) ⊎ On (digit (get_or rows q 0) p) → (j : ℕ) × (j < 64) × On (digit x j) × On (digit (get_or rows j 0) p)
    fm p (inl o) = S.from p o
    fm p (inr o) = (q, L.small, A q L.on, o)

    al : (p j : ℕ) → On (digit x j) → On (digit (get_or rows j 0) p) → (digit left j ≡ 0) ⊎ (j ≡ q) → On (max (digit r p) (digit (get_or rows q 0) p))
    al p j o h (inl e) = let z = S.all p j o e h in omega arith
    al p j o h (inr e) = let z : On (digit (get_or rows q 0) p) = rw e at h in omega arith
