-- Laws of the walk over the ones of a word below an end.
--   Left v end p      p is what is left of the ones of v below the end
--   begun             so it is at first
--   Went v end at k p
--                     the walk stood at a one, has given its place, k, and p is what is left
--   went              so it goes
-- Assumes nothing.
use Rattle.std.proofs.Common.{◌≡◌, sym, ap, ◌∙◌, ℕ, ◌+◌, ◌≤◌, ◌<◌, arith}
use borrow.Author.Tests.{ne_eqb}
use Rattle.k2.specs.Bits.{digit}
use Rattle.grid.specs.Steps.{low, Lowest, One}
use Rattle.grid.specs.declared.words.Ones.{Ones}
use Rattle.grid.proofs.ScanLaws.{low_gap, low_hit, low_is, low_rises}

pub record Left (v end : ℕ) (p : Ones) : Type 0 where
  pub end_is : p.end ≡ end
  pub rest : (j : ℕ) → low p.left ≤ j → digit p.left j ≡ digit v j

pub begun : {v end : ℕ} {p q : Ones} → q ≡ p → (p.left ≡ v) × (p.end ≡ end) → Left v end q × Lowest (digit v) 0 64 (low q.left)
begun {v} {p = p} e O =
    rw e (
      record { end_is = O.1; rest = λ j h. ap (λ (u : ℕ). digit u j) O.0 },
      rw O.0 (low_is v),
    )

pub record Went (v end at k : ℕ) (p : Ones) : Type 0 where
  pub left : Left v end p
  pub here : at ≡ k
  pub inside : k < end
  pub is_one : digit v k ≡ 1
  pub next : Lowest (digit v) (k + 1) 64 (low p.left)

pub went : {v end k : ℕ} {p : Ones} (q : Ones) → Left v end p → (q.end ≡ p.end) × One p.left p.end k q.left → Went v end (low p.left) k q
went {v} {end} {k} {p} q L (e, O) = record {
  left = record { end_is = e ∙ L.end_is; rest = λ j h. same j (omega (arith, past)) };
  here = sym O.at;
  inside = rw L.end_is at O.inside;
  is_one = sym (L.rest k (omega (arith, O.at))) ∙ O.is_one;
  next = record {
    low = omega (arith, past);
    gap = λ j a b. sym (same j (omega arith)) ∙ low_gap q.left j (omega arith) b;
    hit = λ l. sym (same (low q.left) past) ∙ low_hit q.left l;
  };
}
  where
    same : (j : ℕ) → k < j → digit q.left j ≡ digit v j
    same j l = O.rest j ∙ rw (ne_eqb j k (λ z. absurd (omega arith))) (L.rest j (omega (arith, O.at)))

    past : k < low q.left
    past = low_rises p.left q.left k O.at (omega (arith, O.inside, p.within_word)) O.rest
