-- `register::edits::put_in` meets its contract: the word goes to the place found for it, and the total of its label follows. Assumes nothing.
use mathlib.Core.Path.{refl, ap}
use mathlib.Core.List.{List}
use Prim.Native.Nat.{ℕ, ◌+◌, ◌<◌}
use native.Mathlib.Omega.{arith}
use lib.ListN.{length, take}
use lib.Seq.{length-take-le}
use Rattle.links.specs.AscendingLaws.{seam_insert}
use Rattle.links.specs.TotalLaws.{raised_counted}
use Rattle.register.proofs.edits.put_in.Goals as goal

pub returns : goal.returns
returns c =
    let s = c.args in
    let h = c.requires in
    let n = s.counters.count in
    let l = take n s.links.now in
    let few : length l < 4096 = omega (arith, length-take-le n s.links.now (omega (arith, h))) in
    let links = c.put.new.a in
    let total = c.raise_total in
    let put_in = seam_insert s.x s.links.now links n s.at (omega (arith, h)) h.3 c.put.ensures in
    λ marks ring. record {
      kept = record { n = refl; ring = refl; top = refl; held = refl; count = omega (arith, h) };
      marks = refl;
      sheet = λ r. ap (λ (m : List ℕ). record { links = m; marks = marks }) (put_in r);
      counted = λ r t. raised_counted s.x s.totals.now total.new.totals l (take (n + 1) links) few (put_in r) total.ensures t;
    }
