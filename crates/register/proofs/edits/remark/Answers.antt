-- `register::edits::remark` meets its contract: each refusal by `refuse` with the tests that led to it, and acceptance by `accept`; what an edit refuses and
-- does is that of its row of the table. Assumes nothing.
use mathlib.Core.Path.{◌≡◌, refl, sym, ◌∙◌}
use mathlib.Core.List.{List, [], map}
use Prim.Native.Nat.{ℕ}
use lib.Dec.{eqb}
use lib.ListN.{take}
use borrow.Author.Tests.{le-leb, lt-leb, eq-eqb, ne_eqb}
use Rattle.book.specs.Causes.{no_record, touched_record, number, first_number}
use Rattle.book.specs.Basics.{pick}
use Rattle.book.specs.Book.{Book, Edit, touched}
use Rattle.links.specs.Parts.{link_of}
use Rattle.register.specs.Marks.{withdrawn_mark}
use Rattle.register.specs.MarkLaws.{represents_marked}
use Rattle.register.specs.Representation.{packed_of, Represents}
use Rattle.register.specs.Inner.{register_of, Remarks}
use Rattle.register.specs.declared.Register.{Register}
use Rattle.register.proofs.SheetLaws.{packed_causes}
use Rattle.register.proofs.StepLaws.{refuse, refused_as, kept_room, accept, accepted_as, remark_number, remark_cause, remark_caused, remark_edit}
use Rattle.register.proofs.edits.remark.Goals as goal
use Rattle.register.proofs.edits.remark.Goals.{Start, then-marking-eq-WITHDRAWN_MARK+else-touched, else-marking-eq-WITHDRAWN_MARK}

abbrev self : (c : Start) → List ℕ → Register
self c ts = register_of c.args.counters c.args.links.now c.args.marks.now c.args.ring.now ts

-- the number of the first cause, by the table
row : (c : Start) (e : Edit) (ts : List ℕ) → Remarks e c.args.x c.args.marking → (b : Book) → Represents (self c ts) b
    → first_number (packed_causes c.args.counters.n (packed_of (self c ts)) e)
    ≡ remark_number c.args.counters.n (packed_of (self c ts)) c.args.x c.args.marking
row c e ts t b h = remark_cause t c.args.counters.n (packed_of (self c ts)) _ refl (represents_marked h c.args.x)

pub returns-then-counters-x : goal.returns-then-counters-x
unfolding remark_number number
returns-then-counters-x c =
    let start = (goal.at.returns-then-counters-x c).Start in
    λ e ts t. refused_as c.refused.ensures (refuse (self start ts) start.requires.0.ranged e _ (no_record, refl)
    (λ b h. row start e ts t b h ∙ rw (le-leb _ _ c.if-counters-x.true)))

pub returns-then-mark-marking : goal.returns-then-mark-marking
unfolding remark_number number
returns-then-mark-marking c =
    let start = (goal.at.returns-then-mark-marking c).Start in
    λ e ts t. refused_as c.refused-then-mark-marking.ensures (refuse (self start ts) start.requires.0.ranged e _ (remark_caused t).0
    (λ b h. row start e ts t b h ∙ rw (lt-leb _ _ c.if-counters-x.false, eq-eqb _ _ c.if-mark-marking.true)))

pub returns-then-mark-marking-2 : goal.returns-then-mark-marking-2
unfolding remark_number number
returns-then-mark-marking-2 c =
    let start = (goal.at.returns-then-mark-marking-2 c).Start in
    λ e ts t. refused_as c.refused-then-mark-marking-2.ensures (refuse (self start ts) start.requires.0.ranged e _ (remark_caused t).1
    (λ b h. row start e ts t b h ∙ rw (lt-leb _ _ c.if-counters-x.false, ne_eqb _ _ c.if-mark-marking.false, ne_eqb _ _ c.if-mark-marking-2.true)))

pub returns-then-touched : goal.returns-then-touched
unfolding remark_number number
returns-then-touched c =
    let start = (goal.at.returns-then-touched c).Start in
    λ e ts t. refused_as c.refused-then-touched.ensures (refuse (self start ts) start.requires.0.ranged e _ (touched_record, refl)
    (λ b h. row start e ts t b h ∙ rw (
      lt-leb _ _ c.if-counters-x.false,
      ne_eqb _ _ c.if-mark-marking.false,
      eq-eqb _ _ c.if-mark-marking-2.false,
      eq-eqb _ _ c.if-marking-eq-WITHDRAWN_MARK.true,
      sym c.touched.ensures,
      c.if-touched.true,
    )))

pub hold-requires : goal.hold-requires
hold-requires c =
    let p = c.requires.0 in
    let k = kept_room (c.set_mark-changed.ensures [] [] []).kept p.ranged in
    (k.0, k.1, p.ring)

pub returns : goal.returns
unfolding remark_number number
returns c =
    let start = (goal.at.returns c).Start in
    let set-mark = c.set_mark-changed in
    let hold = c.hold in
    let a = start.args in
    -- no link touches a record that is to be withdrawn
    let free : ◌≡◌ {A = ℕ} (pick (eqb a.marking.to withdrawn_mark) (pick (touched a.x (map link_of (take a.counters.count a.links.now))) 17 0) 0) 0 =
    elim c.if-marking-eq-WITHDRAWN_MARK.branch [
      | then-marking-eq-WITHDRAWN_MARK+else-touched w ↦ rw (eq-eqb _ _ w.if-marking-eq-WITHDRAWN_MARK.true, sym w.touched.ensures, w.if-touched.false)
      | else-marking-eq-WITHDRAWN_MARK w ↦ rw (ne_eqb _ _ w.if-marking-eq-WITHDRAWN_MARK.false)
    ] in
    λ e ts t. let s = self start ts in
    let p = start.requires.0 in
    let d = remark_edit t (packed_of s) in
    accepted_as hold.ensures.0 (accept s e (register_of set-mark.result a.links.now set-mark.new.marks a.ring.now ts) _ p.ranged p.marks
    (λ b h. row start e ts t b h ∙ rw (lt-leb _ _ c.if-counters-x.false, ne_eqb _ _ c.if-mark-marking.false, eq-eqb _ _ c.if-mark-marking-2.false) free)
    (rw d.0 (set-mark.ensures a.links.now a.ring.now ts))
    (rw d.1 (hold.ensures.1 a.links.now set-mark.new.marks ts)))
