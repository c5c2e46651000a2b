-- `compared` hands over the records that the first marks have and the second have not, by the promises of the calls in their order
-- (Answering). Assumes nothing.
use mathlib.Core.List.{List}
use mathlib.Core.Path.{◌≡◌, sym, subst}
use Prim.Native.Nat.{ℕ}
use lib.ListN.{length}
use Rattle.book.specs.Book.{Book}
use Rattle.register.specs.Parting.{without_record}
use Rattle.rowpairs.specs.Evaluation.{Known}
use Rattle.rowpairs.specs.RelatingLaws.{known_without}
use Rattle.support.proofs.AnswerLaws.{first-refused, second_refused, handed_over}
use Rattle.register.specs.Parting.{filter}
use Rattle.register.specs.Apart.{apart_word}
use Rattle.support.proofs.compared.Goals as goal

-- what is known of a book without the core's links
rest : (core : ℕ) (marks links : List ℕ) {left : List ℕ} → left ≡ filter (apart_word core) links
    → (b : Book) → Known b (length marks) links marks → Known (without_record core b) (length marks) left marks
rest core marks links e b K =
    subst (λ (l : List ℕ). Known (without_record core b) (length marks) l marks) (sym e) (known_without core (length marks) links marks b K)

pub returns-then-before-ne0 : goal.returns-then-before-ne0
returns-then-before-ne0 c =
    let p = c.requires in
    first-refused _ _ _ _ _ _ _ p.few p.core_in p.anchors_in p.ascending c.mark_records-before.ensures c.if-before-ne0.true

pub returns-then-after-ne0 : goal.returns-then-after-ne0
returns-then-after-ne0 c =
    let p = c.requires in
    second_refused _ _ _ _ _ _ _ p.few p.core_in p.anchors_in p.ascending c.mark_records-before.ensures c.if-before-ne0.false
    (rest c.args.core c.args.marks.now c.args.links.now c.links_apart-left.ensures.1) c.mark_records-before.auto.work
    c.mark_records-after.ensures c.if-after-ne0.true

pub returns : goal.returns
returns c =
    let p = c.requires in
    handed_over _ _ _ _ _ _ _ p.few p.core_in p.anchors_in p.ascending c.mark_records-before.ensures c.if-before-ne0.false
    (rest c.args.core c.args.marks.now c.args.links.now c.links_apart-left.ensures.1) c.mark_records-before.auto.work
    c.mark_records-after.ensures c.list_fallen.ensures
