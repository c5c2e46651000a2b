use mathlib.Core.Path.{◌≡◌}
use Prim.Native.Nat.{◌≤◌}
use lib.ListN.{length, take}
use Rattle.register.specs.Parting.{filter}
use Rattle.register.specs.Apart.{apart_word}
use Rattle.register.proofs.parting.links_apart.Given as goal

-- the first words of the list are those of the first i that stay
abbrev pub invariant-loop-i : goal.invariant-loop-i
invariant-loop-i l = record {
  inside : l.i ≤ length l.links;
  few : l.kept ≤ l.i;
  stand : take l.kept l.to ≡ filter (apart_word l.«record») (take l.i l.links);
}
