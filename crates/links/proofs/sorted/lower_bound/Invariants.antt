-- The loop's invariant: the word before low is below x, and the word at high, if high is below count, is not.
-- The measure is the distance from low to high. Assumes nothing.
use Rattle.std.proofs.Common.{◌≡◌, ℕ, suc, ◌-◌, ◌<◌, ◌≤◌, get_or}
use Rattle.links.proofs.sorted.lower_bound.Given as goal

-- the word before low is below x, and the word at high, if high is below count, is not
abbrev pub invariant-loop-low : goal.invariant-loop-low
invariant-loop-low l = record {
  low_most : l.low ≤ l.high;
  inside : l.high ≤ l.count;
  before_low : (j : ℕ) → suc j ≡ l.low → get_or l.words j 0 < l.x;
  from_high : l.high < l.count → l.x ≤ get_or l.words l.high 0;
}

abbrev pub decreases-loop-low : goal.decreases-loop-low
decreases-loop-low l = l.high - l.low
