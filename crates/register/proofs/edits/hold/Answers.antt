-- `register::edits::hold` meets its contract: the word goes where top is, and top goes on, so it is walked to first. Assumes nothing.
use mathlib.Core.Path.{◌≡◌, refl}
use Prim.Native.Nat.{◌<◌}
use native.Mathlib.Omega.{arith}
use Rattle.register.specs.Representation.{previous}
use Rattle.register.proofs.RingLaws.{previous_next, hold_more, hold_full}
use Rattle.register.proofs.edits.hold.Goals as goal
use Rattle.register.proofs.edits.hold.Goals.{then-next-eq-MAX_HELD, else-next-eq-MAX_HELD}

pub returns-then-held-lt-MAX_HELD : goal.returns-then-held-lt-MAX_HELD
returns-then-held-lt-MAX_HELD c =
    let s = c.args in
    let next = c.if-next-eq-MAX_HELD.next in
    let stepped : (previous next ≡ s.counters.top) × (next < 256) =
    elim c.if-next-eq-MAX_HELD.branch [
      | then-next-eq-MAX_HELD w ↦ rw w.next-is (omega arith, omega arith)
      | else-next-eq-MAX_HELD w ↦ rw w.next-is (previous_next s.counters.top, omega arith)
    ] in (
      refl,
      λ links marks totals. record {
        n = refl;
        sheet = refl;
        count = refl;
        top = stepped.1;
        few = omega arith;
        words = hold_more s.ring.now s.counters.top s.word next s.counters.held stepped.0 (omega arith) (omega arith);
        totals = refl;
      },
    )

pub returns-else-held-lt-MAX_HELD : goal.returns-else-held-lt-MAX_HELD
returns-else-held-lt-MAX_HELD c =
    let s = c.args in
    let next = c.if-next-eq-MAX_HELD.next in
    let stepped : (previous next ≡ s.counters.top) × (next < 256) =
    elim c.if-next-eq-MAX_HELD.branch [
      | then-next-eq-MAX_HELD w ↦ rw w.next-is (omega arith, omega arith)
      | else-next-eq-MAX_HELD w ↦ rw w.next-is (previous_next s.counters.top, omega arith)
    ] in (
      refl,
      λ links marks totals. record {
        n = refl;
        sheet = refl;
        count = refl;
        top = stepped.1;
        few = omega arith;
        words = hold_full s.ring.now s.counters.top s.word next s.counters.held stepped.0 (omega arith) (omega arith);
        totals = refl;
      },
    )
