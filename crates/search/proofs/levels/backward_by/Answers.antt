-- The levels are made one after another (`level_start`, `level_next`), until the start is seen (`sought`) or a level is empty (`level_empty`).
use Rattle.std.proofs.Common.{◌≡◌, ◌∙◌, subst, List, ℕ, suc, ◌+◌, ◌*◌, ◌-◌, length, get_or, set, take, arith, add-one, length-set, length-take-le}
use Rattle.std.proofs.Common.{get_or-set_same, get_or-set_other}
use Rattle.std.proofs.Math.ListN.{length-replicate}
use Rattle.k2.specs.DigitLaws.{digit_zero}
use Rattle.k2.specs.BitLaws.{zeros_at}
use Rattle.search.specs.Levels.{number_at, nowhere}
use Rattle.search.specs.Frontiers.{Listed, Frontier}
use Rattle.search.proofs.LevelLaws.{level_start, level_next, level_falls, level_empty, bits_few, sought}
use Rattle.search.proofs.FrontierLaws.{listed_none, listed_fits, listed_take, none_listed, frontier_start}
use Rattle.search.proofs.LevellingLaws.{levelling_none, levelling_all}
use Rattle.search.proofs.CommitLaws.{commit_zero}
use Rattle.search.proofs.levels.backward_by.Goals as goal

-- the records queued, as they are lent
part_long : {list : List ℕ} {q n : ℕ} {nx : List ℕ} → Listed list q n nx → length list ≡ 1024 → length (take (q - 0) list) ≡ q - 0
part_long {list} {q} L e = let h = listed_fits L in length-take-le (q - 0) list (omega arith)

listed_part : {list : List ℕ} {q n : ℕ} {nx : List ℕ} → Listed list q n nx → length list ≡ 1024
    → Listed (take (q - 0) list) (length (take (q - 0) list)) n nx
listed_part {list} {q} L e = let h = listed_fits L in let part : q - 0 ≡ q = omega arith in rw part (listed_take L (omega arith))

pub loop-seen-init : goal.loop-seen-init
loop-seen-init c =
    let p = c.requires.1 in
    let s = c.args in
    let y : ℕ = s.ends.to in
    let f : ℕ = s.ends.accepting in
    let cur : List ℕ = set s.seen.now y f in
    let long : length cur ≡ 1024 = simp length-set p.seen_long in
    let here : get_or cur y 0 ≡ f = get_or-set_same s.seen.now y f 0 (omega (arith, p.between, p.seen_long)) in
    let off : (r : ℕ) → (r ≡ y → ⊥) → get_or cur r 0 ≡ 0 = λ r h. get_or-set_other s.seen.now y r f 0 h ∙ p.none_seen r in
    record {
      work_as_long = c.stamp.auto.work;
      seen_long = long;
      next_long = length-replicate {A = ℕ} 1024 0;
      list_long = length-replicate {A = ℕ} 1024 0;
      records_long = length-replicate {A = ℕ} 1024 y;
      masks_long = length-replicate {A = ℕ} 1024 f;
      count_most = omega arith;
      level_most = omega arith;
      cleared = zeros_at 1024;
      cur = cur;
      frontier = frontier_start 1024 y f cur (omega arith) (omega (arith, p.between)) here off;
      known = λ g M fs S. level_start S c.stamp.ensures cur here off;
    }

pub loop-i-init : goal.loop-i-init
loop-i-init c =
    let i = c.loop-seen.invariant in
    record {
      i_most = omega arith;
      next_long = i.next_long;
      list_long = i.list_long;
      listed = listed_none _ _ _ i.cleared;
      levelling = λ cur F. levelling_none _ _ _ _ _ _ _ _ _ i.cleared;
    }

pub returns-then-queued-eq0 : goal.returns-then-queued-eq0
returns-then-queued-eq0 c =
    let i = c.loop-seen.invariant in
    let e : c.loop-i.i ≡ c.loop-seen.count = omega arith in
    let made = levelling_all (rw e at (c.loop-i.invariant.levelling c.loop-seen.invariant.cur c.loop-seen.invariant.frontier)) c.loop-seen.invariant.frontier in
    let none = none_listed c.loop-i.invariant.listed c.if-queued-eq0.true in
    let unseen = digit_zero _ ∙ c.loop-seen-test.true in
    λ g M fs S. nowhere
    (level_empty S (i.known g M fs S) made (commit_zero _ _ _ _ _ none)
    c.args.ends.from c.requires.1.between.from_below unseen none)

pub slice_bounds-commit-end-in-loop-seen : goal.slice_bounds-commit-end-in-loop-seen
slice_bounds-commit-end-in-loop-seen c = let h = listed_fits c.loop-i.invariant.listed in omega (arith, c.loop-i.invariant.list_long)

pub overflow_add-level : goal.overflow_add-level
overflow_add-level c =
    let p = c.requires.1.between.records in
    let i = c.loop-seen.invariant.level_most in
    omega (arith, bits_few c.loop-seen.seen (c.args.ends.n * 64))

pub commit-requires : goal.commit-requires
commit-requires c =
    let b = c.requires.1.between in
    let i = c.loop-seen.invariant in
    let l = c.loop-i.invariant in
    let h = listed_fits l.listed in
    record {
      next_long = l.next_long;
      records_long = i.records_long;
      masks_long = i.masks_long;
      list_few = omega (arith, part_long l.listed l.list_long);
      n = c.args.ends.n;
      n_most = b.records;
      work_long = omega (arith, i.work_as_long, b.work_long);
      seen_long = omega (arith, i.seen_long, b.records);
      listed = listed_part l.listed l.list_long;
    }

pub overflow_add-level-in-loop-seen : goal.overflow_add-level-in-loop-seen
overflow_add-level-in-loop-seen c =
    let p = c.requires.1.between.records in
    let i = c.loop-seen.invariant.level_most in
    omega (arith, bits_few c.loop-seen.seen (c.args.ends.n * 64))

pub loop-seen-smaller : goal.loop-seen-smaller
loop-seen-smaller c =
    let e : c.loop-i.i ≡ c.loop-seen.count = omega arith in
    let made = levelling_all (rw e at (c.loop-i.invariant.levelling c.loop-seen.invariant.cur c.loop-seen.invariant.frontier)) c.loop-seen.invariant.frontier in
    let L = c.loop-i.invariant.listed in
    let state = L.some 0 (omega arith) in
    let grows = level_falls made (c.commit.ensures.2 _ (listed_part L c.loop-i.invariant.list_long)) (L.small 0 (omega arith)) state.1 state.2 in
    omega (arith, grows, bits_few c.commit.new.seen (c.args.ends.n * 64))

pub loop-seen-preserved : goal.loop-seen-preserved
loop-seen-preserved c =
    let l = c.loop-seen in
    let m = c.loop-i in
    let done = c.commit in
    let e : c.loop-i.i ≡ c.loop-seen.count = omega arith in
    let made = levelling_all (rw e at (c.loop-i.invariant.levelling c.loop-seen.invariant.cur c.loop-seen.invariant.frontier)) c.loop-seen.invariant.frontier in
    let L = c.loop-i.invariant.listed in
    let state = L.some 0 (omega arith) in
    let grows = level_falls made (c.commit.ensures.2 _ (listed_part L c.loop-i.invariant.list_long)) (L.small 0 (omega arith)) state.1 state.2 in
    let two : l.level + 2 ≡ suc (suc l.level) = omega arith in
    let long : length (take (m.queued - 0) m.list) ≡ m.queued = (let e = part_long m.invariant.listed m.invariant.list_long in omega arith) in
    record {
      work_as_long = done.auto.work ∙ l.invariant.work_as_long;
      seen_long = done.auto.seen ∙ l.invariant.seen_long;
      next_long = done.auto.next ∙ m.invariant.next_long;
      list_long = m.invariant.list_long;
      records_long = done.auto.records ∙ l.invariant.records_long;
      masks_long = done.auto.masks ∙ l.invariant.masks_long;
      count_most = listed_fits m.invariant.listed;
      level_most = omega (arith, grows, l.invariant.level_most);
      cleared = done.ensures.0;
      cur = m.next;
      frontier = subst (λ (k : ℕ). Frontier done.new.records done.new.masks k m.next) long done.ensures.1;
      known = λ g M fs S. rw add-one
          (level_next S (l.invariant.known g M fs S) made
          (rw two at (done.ensures.2 _ (listed_part L m.invariant.list_long))));
    }

pub returns : goal.returns
unfolding number_at
returns c =
    let s = c.args.ends in
    let l = c.loop-seen in
    let z : s.from * 64 + 0 ≡ s.from * 64 = omega arith in
    let odd = c.loop-seen-test.false in
    λ g M fs S. rw z at
    (sought s.from c.requires.1.between.from_below (l.invariant.known g M fs S) (rw (digit_zero (get_or l.seen s.from 0)) (omega (arith, odd))))
