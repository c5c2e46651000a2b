-- `register::words::edit_in` meets its contract: what `edit` promises of the register whose words these are. A refused edit leaves the links, so it leaves the
-- words; after an accepted one counters and arrays are those of the register handed back. Assumes nothing.
use mathlib.Core.Path.{◌≡◌, refl, sym, ap, subst, ◌∙◌}
use mathlib.Core.List.{List}
use Prim.Native.Nat.{ℕ}
use native.Mathlib.Omega.{arith}
use lib.ListN.{length, take, drop, get_or, length-replicate}
use borrow.Rule.Slice.PartMut.{put_mid, put_same, same_len_mid}
use Rattle.book.specs.Causes.{number}
use Rattle.register.specs.Calls.{answer_number}
use Rattle.register.specs.Words.{state_words, Keeps}
use Rattle.register.specs.WordLaws.{loaded, keeps_formed, edit_foreign, edit_stepped}
use Rattle.register.specs.Inner.{register_of, AsLong, Formed}
use Rattle.register.specs.declared.Register.{Register}
use Rattle.register.proofs.StepLaws.{refused_done}
use Rattle.register.proofs.KeepLaws.{part_read, edited_in}
use Rattle.register.proofs.words.edit_in.Goals as goal
use Rattle.register.proofs.words.edit_in.Goals.{After-edit-edited}

pub returns-then-not-is_register : goal.returns-then-not-is_register
unfolding number
returns-then-not-is_register c = edit_foreign _ _ (λ r k. c.is_register.ensures.none c.if-not-is_register.true (r, k))

pub slice_bounds-copy_u32-end : goal.slice_bounds-copy_u32-end
slice_bounds-copy_u32-end c = let m = keeps_formed c.args.words.now (c.is_register.ensures.sure c.if-not-is_register.false) in omega (arith, m.long)

pub slice_bounds-copy_u32-end-3 : goal.slice_bounds-copy_u32-end-3
slice_bounds-copy_u32-end-3 c = let m = keeps_formed c.args.words.now (c.is_register.ensures.sure c.if-not-is_register.false) in omega (arith, m.long)

pub slice_bounds-copy_u32-end-5 : goal.slice_bounds-copy_u32-end-5
slice_bounds-copy_u32-end-5 c = let m = keeps_formed c.args.words.now (c.is_register.ensures.sure c.if-not-is_register.false) in omega (arith, m.long)

pub bounds-words-1 : goal.bounds-words-1
bounds-words-1 c = let m = keeps_formed c.args.words.now (c.is_register.ensures.sure c.if-not-is_register.false) in omega (arith, m.long)

pub bounds-words-2 : goal.bounds-words-2
bounds-words-2 c = let m = keeps_formed c.args.words.now (c.is_register.ensures.sure c.if-not-is_register.false) in omega (arith, m.long)

pub bounds-words-3 : goal.bounds-words-3
bounds-words-3 c = let m = keeps_formed c.args.words.now (c.is_register.ensures.sure c.if-not-is_register.false) in omega (arith, m.long)

pub slice_bounds-links-end : goal.slice_bounds-links-end
slice_bounds-links-end c = let m = keeps_formed c.args.words.now (c.is_register.ensures.sure c.if-not-is_register.false) in omega (arith, m.long)

pub overflow_cast-counters : goal.overflow_cast-counters
overflow_cast-counters c = let m = keeps_formed c.args.words.now (c.is_register.ensures.sure c.if-not-is_register.false) in omega (arith, m.ranged.size)

made : (c : After-edit-edited) → Formed c.args.words.now
made c = keeps_formed _ (c.is_register.ensures.sure c.if-not-is_register.false)

-- the register whose words they are
abbrev before : (c : After-edit-edited) → Register
before c =
    let ws = c.args.words.now in
    register_of (record { n = get_or ws 0 0; count = get_or ws 1 0; top = get_or ws 2 0; held = get_or ws 3 0 }) (take 4096 (drop 4 ws))
    c.copy_u32-2.new.to c.copy_u32.new.to c.copy_u32-3.new.to

kept : (c : After-edit-edited) → Keeps c.args.words.now (before c)
kept c =
    let ws = c.args.words.now in
    let m = made c in
    loaded ws _ c.copy_u32.new.to c.copy_u32-2.new.to c.copy_u32-3.new.to m refl
    (part_read ws 4100 256 (omega (arith, m.long)) (length-replicate {A = ℕ} 256 0) c.copy_u32.ensures)
    (part_read ws 4356 1024 (omega (arith, m.long)) (length-replicate {A = ℕ} 1024 0) c.copy_u32-2.ensures)
    (part_read ws 5380 26 (omega (arith, m.long)) (length-replicate {A = ℕ} 26 0) c.copy_u32-3.ensures)

-- the register handed back
abbrev after : (c : After-edit-edited) → Register
after c = let e = c.edit-edited in register_of e.result.counters e.new.links e.new.marks e.new.ring e.new.totals

as_long : (c : After-edit-edited) → AsLong (after c).links (after c).marks (after c).ring (after c).totals
as_long c =
    let k = c.edit-edited.auto in
    let b = kept c in
    (k.links ∙ b.links, k.marks ∙ b.marks, k.ring ∙ b.ring, k.totals ∙ b.totals)

-- the words stay as many as they were
many : (c : After-edit-edited) → length (put_mid 4 4096 c.args.words.now c.edit-edited.new.links) ≡ length c.args.words.now
many c = same_len_mid 4 4096 c.args.words.now c.edit-edited.new.links c.edit-edited.auto.links

pub copy_u32-requires-in-Done-2 : goal.copy_u32-requires-in-Done-2
copy_u32-requires-in-Done-2 c =
    let d = (goal.at.copy_u32-requires-in-Done-2 c).After-edit-edited in
    omega (arith, c.copy_u32-in-Done.auto.to, many d, (made d).long, (as_long d).2)

pub copy_u32-requires-in-Done-3 : goal.copy_u32-requires-in-Done-3
copy_u32-requires-in-Done-3 c =
    let d = (goal.at.copy_u32-requires-in-Done-3 c).After-edit-edited in
    omega (arith, c.copy_u32-in-Done.auto.to, c.copy_u32-in-Done-2.auto.to, many d, (made d).long, (as_long d).1)

pub copy_u32-requires-in-Done-4 : goal.copy_u32-requires-in-Done-4
copy_u32-requires-in-Done-4 c =
    let d = (goal.at.copy_u32-requires-in-Done-4 c).After-edit-edited in
    omega (arith, c.copy_u32-in-Done.auto.to, c.copy_u32-in-Done-2.auto.to, c.copy_u32-in-Done-3.auto.to, many d, (made d).long, (as_long d).3)

pub returns-in-Refused : goal.returns-in-Refused
returns-in-Refused c =
    let d = (goal.at.returns-in-Refused c).After-edit-edited in
    let ws = c.args.words.now in
    let done = c.edit-edited in
    let g = c.in-Refused.is in
    let k = kept d in
    let same = done.ensures.refused (λ e. refused_done (sym g ∙ e)) in
    let back : put_mid 4 4096 ws done.new.links ≡ ws = ap (λ (r : Register). put_mid 4 4096 ws r.links) same ∙ put_same 4 4096 ws in
    edit_stepped _ k (λ _. back) (ap (drop state_words) back) done.ensures (sym (ap answer_number g))
    (subst (λ (us : List ℕ). Keeps us (after d)) (sym back) (subst (Keeps ws) (sym same) k))

pub returns-in-Done : goal.returns-in-Done
returns-in-Done c =
    let d = (goal.at.returns-in-Done c).After-edit-edited in
    let done = c.edit-edited in
    let f = done.ensures.formed c.in-Done.is in
    let w = edited_in (after d) f.0 (f.1 (kept d).marked) (as_long d) c.args.words.now _
    c.copy_u32-in-Done.new.to c.copy_u32-in-Done-2.new.to c.copy_u32-in-Done-3.new.to
    c.copy_u32-in-Done-4.new.to (made d).long refl c.copy_u32-in-Done.ensures c.copy_u32-in-Done-2.ensures
    c.copy_u32-in-Done-3.ensures c.copy_u32-in-Done-4.ensures in
    edit_stepped _ (kept d) (λ z. absurd (z refl)) w.1 done.ensures (sym (ap answer_number c.in-Done.is)) w.0
