-- The counters of a register in range.
--   Ranged n c t h  n, the number of links, the top of the ring and the number of held edits are in range, so that the arrays hold what they count
--   InRange r       the counters of the register r are; contents out of range are those of no register
-- Assumes nothing: these are definitions.
use Rattle.std.specs.Prelude.{ℕ, ◌≤◌, ◌<◌}
use Rattle.book.specs.Causes.{max_records, max_links, max_held}
use Rattle.register.specs.declared.Register.{Register}

pub record Ranged (n c t h : ℕ) : Type 0 where
  pub size : n ≤ max_records
  pub count : c ≤ max_links
  pub top : t < max_held
  pub held : h ≤ max_held

abbrev pub InRange : Register → Type 0
InRange r = Ranged r.n r.count r.top r.held
