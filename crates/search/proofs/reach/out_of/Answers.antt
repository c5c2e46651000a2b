-- One arc more is crossed (`expanding_more`, `fewer_more`).
use Rattle.std.proofs.Common.{◌≡◌, ◌<◌, ◌-◌, ◌^◌, ℕ, get_or, ◌∙◌, arith, length-set, bit_and, bit_or}
use Rattle.arcs.specs.Arcs.{arc_from, arc_to, arc_letter}
use Rattle.arcs.specs.IndexLaws.{cursor_next}
use Rattle.search.proofs.FrontierLaws.{added_more}
use Rattle.search.proofs.ReachLaws.{expanding_more, expanding_done, fewer_more}
use Rattle.search.proofs.reach.out_of.Goals as goal

pub loop-cursor-preserved : goal.loop-cursor-preserved
unfolding arc_from arc_to arc_letter
loop-cursor-preserved c =
    let s = c.args in
    let p = c.requires in
    let X = p.by_index.indexed in
    let l = c.loop-cursor in
    let hp : 0 < l.cursor = omega arith in
    let to : ℕ = arc_to s.arcs.now (l.cursor - 1) in
    let v : ℕ = bit_and (bit_and s.entry.states (get_or s.enter.now (arc_letter s.arcs.now (l.cursor - 1)) 0)) ((2 ^ 64 - 1) - get_or l.seen to 0) in
    let tn : to < 1024 = omega arith in
    let fit : get_or l.seen to 0 < 2 ^ 64 = omega arith in
    let A = c.add_states-queued in
    let B = added_more l.seen 1024 to v (omega (arith, l.invariant.seen_as_long, p.seen_long)) tn in
    let less = fewer_more s.arcs.now s.enter.now l.seen l.cursor s.entry.states fit tn B A.ensures.1 in
    record {
      seen_as_long = length-set {A = ℕ} l.seen to (bit_or (get_or l.seen to 0) v) ∙ l.invariant.seen_as_long;
      pending_as_long = A.auto.next ∙ l.invariant.pending_as_long;
      list_as_long = A.auto.list ∙ l.invariant.list_as_long;
      stands = rw c.next_arc-cursor.ensures (cursor_next X l.invariant.stands hp);
      listed = A.ensures.0;
      fewer = λ i h. (let y = less i h in let z = l.invariant.fewer i h in omega arith);
      expanding = rw c.next_arc-cursor.ensures (λ fs x mask S I.
          expanding_more s.arcs.now s.enter.now l.seen l.cursor s.entry.states
          fit tn B A.ensures.1 X l.invariant.stands hp S (l.invariant.expanding fs x mask S I));
    }

pub returns : goal.returns
returns c =
    let l = c.loop-cursor in
    let z : l.cursor ≡ 0 = omega arith in
    (l.invariant.listed, l.invariant.fewer, λ fs x mask S I. expanding_done (rw z at (l.invariant.expanding fs x mask S I)))
