-- `register::edits::cut_out` meets its contract: the word is cut where it stands, and the total of its label follows. Assumes nothing.
use mathlib.Core.Path.{◌≡◌, refl, ap, sym, ◌∙◌}
use mathlib.Core.Bool.{true}
use mathlib.Core.List.{List}
use Prim.Native.Nat.{ℕ, ◌-◌, ◌≤◌, ◌<◌}
use native.Mathlib.Omega.{arith}
use lib.ListN.{length, take}
use lib.Dec.{eqb}
use Rattle.book.specs.Basics.{Rises, has}
use Rattle.links.specs.AscendingLaws.{seam_has, seam_without, stands_below}
use Rattle.links.specs.TotalLaws.{lowered_counted}
use Rattle.register.proofs.edits.cut_out.Goals as goal
use Rattle.register.proofs.edits.cut_out.Goals.{Start}

below_count : (c : Start) → c.args.at < c.args.counters.count
below_count c = stands_below c.args.links.now c.args.counters.count c.args.at c.args.x c.requires.4

pub cut-requires : goal.cut-requires
cut-requires c = let below = below_count ((goal.at.cut-requires c).Start) in (below, c.requires.0, c.requires.1)

pub overflow_sub-changed : goal.overflow_sub-changed
overflow_sub-changed c = let below = below_count ((goal.at.overflow_sub-changed c).Start) in omega arith

pub returns : goal.returns
returns c =
    let s = c.args in
    let h = c.requires in
    let n = s.counters.count in
    let l = take n s.links.now in
    let room : n ≤ length s.links.now = omega (arith, h) in
    let links = c.cut.new.a in
    let total = c.lower_total in
    let there : Rises 0 l → has eqb s.x l ≡ true = λ r. sym (seam_has s.x s.links.now n s.at room r h.3) ∙ h.4 in
    let taken_out = seam_without s.x s.links.now links n s.at room h.3 c.cut.ensures in
    λ marks ring. record {
      kept = record { n = refl; ring = refl; top = refl; held = refl; count = omega (arith, h) };
      marks = refl;
      sheet = λ r. ap (λ (m : List ℕ). record { links = m; marks = marks }) (taken_out r (there r));
      counted = λ r t.
          lowered_counted s.x s.totals.now total.new.totals l (take (n - 1) links) r (there r) (taken_out r (there r)) total.ensures t;
    }
