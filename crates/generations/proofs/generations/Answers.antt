-- Refused by the order of causes, and else the numbers if no record leads to itself (`book_numbers`), or the first loop (`book_loop`). Assumes nothing.
use Rattle.std.proofs.Common.{arith, ◌≡◌, ◌-◌, ◌∙◌, sym, ap, refl, ℕ, List, length, take, subst}
use Rattle.std.proofs.Common.{false}
use Rattle.book.specs.Causes.{bad_label, short_work, short_list, number}
use Rattle.links.specs.Links.{Linked}
use Rattle.rows.specs.RowSets.{labelled}
use Rattle.generations.specs.Generations.{above, written}
use Rattle.generations.specs.Inner.{Right, Leads, chosen}
use Rattle.generations.proofs.AnswerLaws.{label_first, work_next, list_last, told, refuses, tells_numbers, tells_loop, book_numbers, book_loop}
use Rattle.generations.proofs.generations.Goals as goal

pub returns-then-any_above : goal.returns-then-any_above
unfolding number
returns-then-any_above c =
    refuses 3 (bad_label, refl) (λ b R. label_first b c.args.labels.now (length c.args.work.now)
    (length c.args.list.now) (sym c.any_above.ensures ∙ c.if-any_above.true))

pub returns-then-work-n : goal.returns-then-work-n
unfolding number
returns-then-work-n c =
    let a = c.args in
    let low : above a.labels.now ≡ false = sym c.any_above.ensures ∙ c.if-any_above.false in
    let n = c.size-n.ensures in
    refuses 12 (short_work, refl) (λ b R. (let e = n.size b R in
    work_next b a.labels.now (length a.work.now) (length a.list.now) low (omega (arith, e, c.if-work-n.true))))

pub returns-then-list-count_in_use : goal.returns-then-list-count_in_use
unfolding number written
returns-then-list-count_in_use c =
    let a = c.args in
    let n = c.size-n.ensures in
    let d : List ℕ = c.visit_all.new.depths in
    let t = c.visit_all.ensures.0 c.if-visit_all.true in
    let low : above a.labels.now ≡ false = sym c.any_above.ensures ∙ c.if-any_above.false in
    let k = c.keep-few in
    let part : k.result - 0 ≡ k.result = omega arith in
    let kept : take (k.result - 0) k.new.kept ≡ labelled c.set_of-set.result (take (c.links-links.result.count - 0) c.links-links.result.words) =
    ap (λ (i : ℕ). take i k.new.kept) part ∙ k.ensures.1 in
    let whole : c.links-links.result.count ≡ c.links-links.result.count - 0 = omega arith in
    refuses 13 (short_list, refl) (λ b R. (let e = n.size b R in
    list_last b a.labels.now (length a.work.now) (length a.list.now) low (omega (arith, e, c.if-work-n.false))
    (book_numbers n b R (take (c.links-links.result.count - 0) c.links-links.result.words)
    (subst (λ (i : ℕ). Linked (take i c.links-links.result.words) b.sheet) whole (c.links-links.ensures.linked b R))
    c.set_of-set.result a.labels.now c.set_of-set.ensures d (subst (λ (l : List ℕ). Right l d) kept t.0) t.1 c.marks-marks.result c.marks-marks.ensures)
    (omega (arith, c.if-list-count_in_use.true, c.count_in_use.ensures d))))

pub returns-then-visit_all : goal.returns-then-visit_all
unfolding written
returns-then-visit_all c =
    let a = c.args in
    let n = c.size-n.ensures in
    let d : List ℕ = c.visit_all.new.depths in
    let t = c.visit_all.ensures.0 c.if-visit_all.true in
    let low : above a.labels.now ≡ false = sym c.any_above.ensures ∙ c.if-any_above.false in
    let k = c.keep-few in
    let part : k.result - 0 ≡ k.result = omega arith in
    let kept : take (k.result - 0) k.new.kept ≡ labelled c.set_of-set.result (take (c.links-links.result.count - 0) c.links-links.result.words) =
    ap (λ (i : ℕ). take i k.new.kept) part ∙ k.ensures.1 in
    let whole : c.links-links.result.count ≡ c.links-links.result.count - 0 = omega arith in
    tells_numbers (chosen c.marks-marks.result d c.size-n.result)
    c.write_numbers.ensures (λ b R. (let e = n.size b R in
    told b a.labels.now (length a.work.now) (length a.list.now) low (omega (arith, e, c.if-work-n.false))
    (book_numbers n b R (take (c.links-links.result.count - 0) c.links-links.result.words)
    (subst (λ (i : ℕ). Linked (take i c.links-links.result.words) b.sheet) whole (c.links-links.ensures.linked b R))
    c.set_of-set.result a.labels.now c.set_of-set.ensures d (subst (λ (l : List ℕ). Right l d) kept t.0) t.1 c.marks-marks.result c.marks-marks.ensures)
    (omega (arith, c.if-list-count_in_use.false, c.count_in_use.ensures d))))

pub returns : goal.returns
returns c =
    let a = c.args in
    let n = c.size-n.ensures in
    let low : above a.labels.now ≡ false = sym c.any_above.ensures ∙ c.if-any_above.false in
    let k = c.keep-few in
    let part : k.result - 0 ≡ k.result = omega arith in
    let kept : take (k.result - 0) k.new.kept ≡ labelled c.set_of-set.result (take (c.links-links.result.count - 0) c.links-links.result.words) =
    ap (λ (i : ℕ). take i k.new.kept) part ∙ k.ensures.1 in
    let whole : c.links-links.result.count ≡ c.links-links.result.count - 0 = omega arith in
    let C = c.set_of-set.ensures in
    let z = subst (λ (l : List ℕ). (x : ℕ) × Leads l x x) kept (c.visit_all.ensures.1 c.if-visit_all.false) in
    tells_loop c.first_loop.ensures low C (λ b R. (let e = n.size b R in (
      omega (arith, e, c.if-work-n.false),
      book_loop n b R (take (c.links-links.result.count - 0) c.links-links.result.words)
          (subst (λ (i : ℕ). Linked (take i c.links-links.result.words) b.sheet) whole (c.links-links.ensures.linked b R))
          c.set_of-set.result a.labels.now C z c.first_returning-first.ensures.1,
    )))
