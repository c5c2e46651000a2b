-- `next` drops the lowest one of what is left (`low_dropped`), and the next one is above it (`low_rises`). Assumes nothing.
use Rattle.std.proofs.Common.{◌≡◌, ℕ, ◌-◌, ◌≤◌, ◌<◌, bit_and, refl, arith, rules}
use Rattle.grid.specs.Steps.{low, One}
use Rattle.grid.proofs.ScanLaws.{low_hit, some_low, low_dropped, low_rises}
use Rattle.grid.proofs.words.OnesIterator.next.Goals as goal

pub overflow_sub-self : goal.overflow_sub-self
overflow_sub-self c = some_low c.args.self.now.left (omega (arith, c.lowest-k.ensures.place, c.args.self.now.within_word))

dropped : (v end k : ℕ) → k ≡ low v → k < end → end ≤ 64 → One v end k (bit_and v (v - 1))
dropped v end k e h w = rw e (record {
  inside = omega arith;
  at = refl;
  is_one = low_hit v (omega arith);
  rest = low_dropped v (omega arith);
})

pub returns-clause-steps : goal.returns-clause-steps
returns-clause-steps c =
    let s = c.args.self.now in
    (refl, dropped s.left s.end c.lowest-k.result c.lowest-k.ensures.place c.if-self-k.false s.within_word)

pub returns-clause-goes : goal.returns-clause-goes
returns-clause-goes c =
    let s = c.args.self.now in
    let O = dropped s.left s.end c.lowest-k.result c.lowest-k.ensures.place c.if-self-k.false s.within_word in
    let h = low_rises s.left _ c.lowest-k.result O.at (omega (arith, O.inside, s.within_word)) O.rest in
    search rules
