-- `register::edits::undo` meets its contract: the latest word stands in the place before top, and what it takes back is the top of the pile. Assumes nothing.
use mathlib.Core.Path.{◌≡◌, ap, sym, ◌∙◌}
use Prim.Native.Nat.{◌<◌}
use native.Mathlib.Omega.{arith}
use lib.ListN.{get_or}
use Rattle.register.specs.Representation.{previous}
use Rattle.register.specs.Inner.{register_of}
use Rattle.register.proofs.RingLaws.{latest_step, latest_none, previous_less}
use Rattle.register.proofs.StepLaws.{refused_as, refuse_undo, accept_undo}
use Rattle.register.proofs.edits.undo.Goals as goal
use Rattle.register.proofs.edits.undo.Goals.{then-top-ne0, else-top-ne0}

pub returns-then-held-eq0 : goal.returns-then-held-eq0
returns-then-held-eq0 c =
    let a = c.args in
    let s = register_of a.counters a.links.now a.marks.now a.ring.now a.totals.now in
    refused_as c.refused.ensures (refuse_undo s c.requires.0.ranged (latest_none s.ring s.top s.held c.if-held-eq0.true))

pub returns : goal.returns
returns c =
    let a = c.args in
    let s = register_of a.counters a.links.now a.marks.now a.ring.now a.totals.now in
    let h = c.requires.0.ranged in
    let o = c.taken_back.ensures s.ring in
    let k = o.kept in
    let p : (c.if-top-ne0.at ≡ previous a.counters.top) × (c.if-top-ne0.at < 256) =
    elim c.if-top-ne0.branch [
      | then-top-ne0 w ↦ (w.at-is ∙ sym (previous_less a.counters.top w.if-top-ne0.true), omega (arith, w.at-is, h.top))
      | else-top-ne0 w ↦ (w.at-is ∙ ap previous (sym w.if-top-ne0.false), omega (arith, w.at-is))
    ] in
    accept_undo s h (get_or s.ring c.if-top-ne0.at 0) _ (record {
      n = k.n;
      ranged = record { size = omega (arith, k.n, h.size); count = k.count; top = omega (arith, k.top, p.1); held = omega (arith, k.held, h.held) };
      words = latest_step s.ring s.top s.held c.if-held-eq0.false ∙ rw (← p.0, k.top, k.held);
      marks = o.marks;
      sheet = o.sheet;
      counted = o.counted;
    })
