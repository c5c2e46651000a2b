-- `register::edits::relink` meets its contract: each refusal by `refuse` with the tests that led to it, and acceptance by `accept`. Assumes nothing.
use mathlib.Core.Path.{◌≡◌, refl, sym, ◌∙◌}
use mathlib.Core.Bool.{not}
use mathlib.Core.List.{[], ◌∷◌}
use Prim.Native.Nat.{◌≤◌, ◌<◌}
use native.Mathlib.Omega.{arith}
use lib.Dec.{leb}
use lib.ListN.{length, take}
use lib.Seq.{length-take-le}
use borrow.Author.Tests.{le-leb, lt-leb}
use Rattle.book.specs.Causes.{already, full, missing, number, first_number, max_links}
use Rattle.book.specs.Book.{Link, Book, add, remove}
use Rattle.book.proofs.BookLaws.{first_caused}
use Rattle.register.specs.Packed.{held_word}
use Rattle.register.specs.Representation.{packed_of, Represents}
use Rattle.register.specs.Inner.{link_causes, register_of, relinks}
use Rattle.register.specs.declared.Register.{Register}
use Rattle.register.proofs.SheetLaws.{packed_causes, packed_edit}
use Rattle.register.proofs.StepLaws.{refuse, refused_as, kept_room, accept, accepted_as, add_cause, remove_cause, link_stop, link_proper}
use Rattle.register.specs.declared.Linking.{Linking}
use Rattle.register.proofs.edits.relink.Goals as goal
use Rattle.register.proofs.edits.relink.Goals.{After-stands-found}

abbrev link_in : Linking → Link
link_in l = record { from = l.from; label = l.label; to = l.to }

abbrev self : (c : After-stands-found) → Register
self c = register_of c.args.counters c.args.links.now c.args.marks.now c.args.ring.now c.args.totals.now

pub returns-then-cause-ne0 : goal.returns-then-cause-ne0
unfolding relinks
returns-then-cause-ne0 c =
    let a = c.args in
    let s = register_of a.counters a.links.now a.marks.now a.ring.now a.totals.now in
    let f = c.link_cause-cause.ensures in
    let some = c.if-cause-ne0.true in
    refused_as c.refused.ensures (refuse s c.requires.0.ranged _ _ (first_caused _ f some)
    (λ _ _. link_stop s (link_in a.linking) _ a.linking.adds f some))

pub link_word-x-requires : goal.link_word-x-requires
link_word-x-requires c =
    let p = link_proper _ c.args.marks.now _ (sym c.link_cause-cause.ensures ∙ c.if-cause-ne0.false) in
    let h = c.requires.0.ranged in
    (omega (arith, p.from, h.size), p.label, omega (arith, p.to, h.size))

-- no cause in the ends and the label
free : (c : After-stands-found) → first_number (link_causes c.args.counters.n c.args.marks.now (link_in c.args.linking)) ≡ 0
free c = sym c.link_cause-cause.ensures ∙ c.if-cause-ne0.false

-- the causes left, by what stands at the place of the link's word
add_left : (c : After-stands-found) → (b : Book) → Represents (self c) b
    → first_number (packed_causes c.args.counters.n (packed_of (self c)) (add (link_in c.args.linking)))
    ≡ first_number ((already, c.stands-found.result) ∷ (full, leb max_links (length (packed_of (self c)).links)) ∷ [])
add_left c b h =
    let word = c.link_word-x in
    let bound = c.lower_bound-at in
    let few : c.args.counters.count ≤ length c.args.links.now = omega (arith, c.requires.0.ranged.count, c.requires.0.links) in
    add_cause (self c) (link_in c.args.linking) word.result bound.result word.ensures
    (free c) c.stands-found.result c.stands-found.ensures bound.ensures few h.sheet.links.ascending

remove_left : (c : After-stands-found) → (b : Book) → Represents (self c) b
    → first_number (packed_causes c.args.counters.n (packed_of (self c)) (remove (link_in c.args.linking)))
    ≡ first_number ((missing, not c.stands-found.result) ∷ [])
remove_left c b h =
    let word = c.link_word-x in
    let bound = c.lower_bound-at in
    let few : c.args.counters.count ≤ length c.args.links.now = omega (arith, c.requires.0.ranged.count, c.requires.0.links) in
    remove_cause (self c) (link_in c.args.linking) word.result bound.result word.ensures
    (free c) c.stands-found.result c.stands-found.ensures bound.ensures few h.sheet.links.ascending

pub returns-then-found : goal.returns-then-found
unfolding relinks first_number number
returns-then-found c =
    let d = (goal.at.returns-then-found c).After-stands-found in
    rw c.if-linking.true (refused_as c.refused-then-found.ensures (refuse (self d) c.requires.0.ranged (add (link_in c.args.linking)) _ (already, refl)
    (λ b h. add_left d b h ∙ rw c.if-found.true)))

pub returns-then-count-ge-MAX_LINKS : goal.returns-then-count-ge-MAX_LINKS
unfolding relinks first_number number
returns-then-count-ge-MAX_LINKS c =
    let d = (goal.at.returns-then-count-ge-MAX_LINKS c).After-stands-found in
    let s = self d in
    let p = c.requires.0 in
    let long : 4096 ≤ length (take s.count s.links) =
    omega (arith, length-take-le s.count s.links (omega (arith, p.ranged.count, p.links)), c.if-count-ge-MAX_LINKS.true) in
    rw c.if-linking.true (refused_as c.refused-then-count-ge-MAX_LINKS.ensures (refuse s p.ranged (add (link_in c.args.linking)) _ (full, refl)
    (λ b h. add_left d b h ∙ rw (c.if-found.false, le-leb 4096 _ long))))

pub hold-requires : goal.hold-requires
hold-requires c =
    let p = c.requires.0 in
    let k = kept_room (c.put_in-changed.ensures [] []).kept p.ranged in
    (k.0, k.1, p.ring)

pub returns-then-linking : goal.returns-then-linking
unfolding relinks first_number number packed_edit held_word
returns-then-linking c =
    let d = (goal.at.returns-then-linking c).After-stands-found in
    let a = c.args in
    let s = self d in
    let p = c.requires.0 in
    let w = c.link_word-x.ensures in
    let few : length (take s.count s.links) < 4096 =
    omega (arith, length-take-le s.count s.links (omega (arith, p.ranged.count, p.links)), c.if-count-ge-MAX_LINKS.false) in
    let put_in = c.put_in-changed in
    let hold = c.hold in
    rw c.if-linking.true (accepted_as hold.ensures.0 (accept s (add (link_in a.linking)) _ _ p.ranged p.marks
    (λ b h. add_left d b h ∙ rw (c.if-found.false, lt-leb 4096 _ few))
    (rw w at (put_in.ensures a.marks.now a.ring.now))
    (rw w at (hold.ensures.1 put_in.new.links a.marks.now put_in.new.totals))))

pub returns-then-not-found : goal.returns-then-not-found
unfolding relinks first_number number
returns-then-not-found c =
    let d = (goal.at.returns-then-not-found c).After-stands-found in
    rw c.if-linking.false (refused_as c.refused-then-not-found.ensures (refuse (self d) c.requires.0.ranged (remove (link_in c.args.linking)) _ (missing, refl)
    (λ b h. remove_left d b h ∙ rw c.if-not-found.true)))

pub hold-requires-2 : goal.hold-requires-2
hold-requires-2 c =
    let p = c.requires.0 in
    let k = kept_room (c.cut_out-changed.ensures [] []).kept p.ranged in
    (k.0, k.1, p.ring)

pub returns : goal.returns
unfolding relinks first_number number packed_edit held_word
returns c =
    let d = (goal.at.returns c).After-stands-found in
    let a = c.args in
    let p = c.requires.0 in
    let w = c.link_word-x.ensures in
    let cut_out = c.cut_out-changed in
    let hold = c.hold-2 in
    rw c.if-linking.false (accepted_as hold.ensures.0 (accept (self d) (remove (link_in a.linking)) _ _ p.ranged p.marks
    (λ b h. remove_left d b h ∙ rw c.if-not-found.false)
    (rw w at (cut_out.ensures a.marks.now a.ring.now))
    (rw w at (hold.ensures.1 cut_out.new.links a.marks.now cut_out.new.totals))))
