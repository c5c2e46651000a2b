-- `register::edits::taken_back` meets its contract: each kind by what undoes it. Assumes nothing.
use mathlib.Core.Path.{◌≡◌, refl, ap, sym, ◌∙◌}
use mathlib.Core.List.{List}
use Prim.Native.Nat.{ℕ, ◌≤◌}
use native.Mathlib.Omega.{arith}
use lib.ListN.{length, take}
use lib.Seq.{length-take-le}
use Rattle.book.proofs.SetLaws.{eqb_test, without_absent}
use Rattle.links.specs.AscendingLaws.{seam_has, length-insert}
use Rattle.register.specs.Packed.{Packed, take_back_kind}
use Rattle.register.proofs.StepLaws.{back_rest, back_marks, taken_changed}
use Rattle.register.proofs.edits.taken_back.Goals as goal

-- it is not there
pub returns-then-not-stands : goal.returns-then-not-stands
unfolding take_back_kind
returns-then-not-stands c =
    let s = c.args in
    let n = s.counters.count in
    let ls = s.links.now in
    let seam = c.lower_bound-at in
    let st = c.stands in
    let few : n ≤ length ls = omega (arith, c.requires.0, c.requires.1) in
    λ ring. back_marks s.counters ls s.marks.now ring s.totals.now s.marks.now s.kind s.x c.requires.0
    (rw c.in-0.is refl)
    (rw c.in-0.is (λ r. ap (λ (m : List ℕ). record { links = m; marks = s.marks.now })
    (sym (without_absent eqb_test s.x (take n ls) (sym (seam_has s.x ls n seam.result few r seam.ensures)
    ∙ sym st.ensures ∙ c.if-not-stands.true)))))

-- at 4,096 links there is no room for one more
pub returns-then-count-ge-MAX_LINKS : goal.returns-then-count-ge-MAX_LINKS
unfolding take_back_kind
returns-then-count-ge-MAX_LINKS c =
    let s = c.args in
    let n = s.counters.count in
    let ls = s.links.now in
    let h : length (take n ls) ≡ n = length-take-le n ls (omega (arith, c.requires.0, c.requires.1)) in
    λ ring. record {
      kept = record { n = refl; ring = refl; top = refl; held = refl; count = c.requires.0 };
      marks = rw c.in-1.is refl;
      sheet = rw c.in-1.is (λ _ f. absurd (omega (arith, length-insert s.x (take n ls), h, f, c.if-count-ge-MAX_LINKS.true)));
      counted = λ _ t. t;
    }

pub returns-else-not-stands : goal.returns-else-not-stands
unfolding take_back_kind
returns-else-not-stands c = λ ring. taken_changed (rw c.in-0.is refl) (c.cut_out.ensures c.args.marks.now ring)

pub returns-else-count-ge-MAX_LINKS : goal.returns-else-count-ge-MAX_LINKS
unfolding take_back_kind
returns-else-count-ge-MAX_LINKS c = λ ring. taken_changed (rw c.in-1.is refl) (c.put_in.ensures c.args.marks.now ring)

pub returns-in-2 : goal.returns-in-2
unfolding take_back_kind
returns-in-2 c = λ ring. taken_changed (rw c.in-2.is refl) (c.set_mark.ensures c.args.links.now ring c.args.totals.now)

pub returns-in-3 : goal.returns-in-3
unfolding take_back_kind
returns-in-3 c = λ ring. taken_changed (rw c.in-3.is refl) (c.set_mark-in-3.ensures c.args.links.now ring c.args.totals.now)

pub returns-in-4 : goal.returns-in-4
unfolding take_back_kind
returns-in-4 c = λ ring. taken_changed (rw c.in-4.is refl) (c.set_mark-in-4.ensures c.args.links.now ring c.args.totals.now)

pub returns-in-5 : goal.returns-in-5
unfolding take_back_kind
returns-in-5 c = λ ring. taken_changed (rw c.in-5.is refl) (c.set_mark-in-5.ensures c.args.links.now ring c.args.totals.now)

pub returns-in_default : goal.returns-in_default
returns-in_default c =
    let s = c.args in
    λ ring. let same = sym
    (back_rest s.kind s.x _ (λ e. omega arith) (λ e. omega arith) (λ e. omega arith) (λ e. omega arith) (λ e. omega arith) (λ e. omega arith)) in
    back_marks s.counters s.links.now s.marks.now ring s.totals.now s.marks.now s.kind s.x c.requires.0
    (ap (λ (p : Packed). p.marks) same) (λ _. same)
