-- A record is taken off the list, and gone out of (`expanding_pop`, `fewer_pop`).
use Rattle.std.proofs.Common.{◌≡◌, ◌∙◌, ℕ, ◌*◌, ◌-◌, ◌<◌, length, get_or, set, arith, length-set}
use Rattle.std.proofs.Math.ListN.{replicate, length-replicate}
use Rattle.k2.specs.BitLaws.{zeros_at, ones_most}
use Rattle.search.proofs.LevelLaws.{mask_here, mask_off}
use Rattle.search.proofs.FrontierLaws.{listed_none, listed_fits, none_listed}
use Rattle.search.proofs.ReachLaws.{listed_less, expanding_pop, fewer_pop, expanding_start, expanding_all}
use Rattle.search.proofs.reach.reach.Goals as goal

pub index_by_left-requires : goal.index_by_left-requires
index_by_left-requires c = (c.requires.few, omega (arith, length-replicate {A = ℕ} 9216 0, c.requires.few), zeros_at 9216)

pub add_states-count-requires : goal.add_states-count-requires
add_states-count-requires c =
    let p = c.requires in
    record {
      records = p.records;
      at_below = omega (arith, p.from_below, p.records);
      next_long = length-replicate {A = ℕ} 1024 0;
      list_long = length-replicate {A = ℕ} 1024 0;
      listed = listed_none _ _ _ (zeros_at 1024);
    }

pub loop-count-init : goal.loop-count-init
loop-count-init c =
    let s = c.args in
    let p = c.requires in
    let long : length (set {A = ℕ} (replicate 1024 0) s.from 1) ≡ 1024 = simp length-set (length-replicate {A = ℕ} 1024 0) in
    let here = mask_here 1024 s.from 1 (omega (arith, p.from_below, p.records)) in
    let A = c.add_states-count in
    record {
      seen_long = long;
      pending_long = A.auto.next ∙ length-replicate {A = ℕ} 1024 0;
      list_long = A.auto.list ∙ length-replicate {A = ℕ} 1024 0;
      listed = A.ensures.0;
      expanding = expanding_start p.from_below (zeros_at 1024) here (mask_off 1024 s.from 1) A.ensures.1;
    }

pub offset_bounds-list-last : goal.offset_bounds-list-last
offset_bounds-list-last c = let h = listed_fits c.loop-count.invariant.listed in omega arith

pub bounds-list-last : goal.bounds-list-last
bounds-list-last c = let h = listed_fits c.loop-count.invariant.listed in omega arith

pub out_of-count-requires : goal.out_of-count-requires
out_of-count-requires c =
    let p = c.requires in
    let l = c.loop-count in
    let inn : get_or l.list (l.count - 1) 0 < c.args.n = l.invariant.listed.small (l.count - 1) (omega arith) in
    let within : get_or l.list (l.count - 1) 0 < length l.pending = omega (arith, inn, l.invariant.pending_long) in
    let X = c.index_by_left in
    let long : length X.new.index ≡ 9216 = X.auto.index ∙ length-replicate {A = ℕ} 9216 0 in
    record {
      by_index = record { few = p.few; long = omega (arith, long, p.few); indexed = X.ensures };
      enter_long = p.tables.enter_long;
      seen_long = l.invariant.seen_long;
      queue =
          record {
            records = p.records;
            at_below = omega (arith, inn, p.records);
            next_long = length-set {A = ℕ} l.pending (get_or l.list (l.count - 1) 0) 0 ∙ l.invariant.pending_long;
            list_long = l.invariant.list_long;
            listed = listed_less l.invariant.listed (omega arith) within;
          };
    }

pub loop-count-smaller : goal.loop-count-smaller
loop-count-smaller c =
    let l = c.loop-count in
    let inn : get_or l.list (l.count - 1) 0 < c.args.n = l.invariant.listed.small (l.count - 1) (omega arith) in
    let within : get_or l.list (l.count - 1) 0 < length l.pending = omega (arith, inn, l.invariant.pending_long) in
    let a = fewer_pop l.invariant.listed (omega arith) within l.seen l.invariant.expanding.waits in
    let b = ones_most _ _ (c.args.n * 64) c.out_of-count.ensures.1 in
    omega (arith, a, b)

pub loop-count-preserved : goal.loop-count-preserved
loop-count-preserved c =
    let l = c.loop-count in
    let inn : get_or l.list (l.count - 1) 0 < c.args.n = l.invariant.listed.small (l.count - 1) (omega arith) in
    let within : get_or l.list (l.count - 1) 0 < length l.pending = omega (arith, inn, l.invariant.pending_long) in
    let P = c.out_of-count in
    record {
      seen_long = P.auto.seen ∙ l.invariant.seen_long;
      pending_long = P.auto.pending ∙ length-set {A = ℕ} l.pending (get_or l.list (l.count - 1) 0) 0 ∙ l.invariant.pending_long;
      list_long = P.auto.list ∙ l.invariant.list_long;
      listed = P.ensures.0;
      expanding =
          P.ensures.2 _ _ _ c.spread-states.ensures
          (expanding_pop l.invariant.listed (omega arith) within l.invariant.expanding);
    }

pub returns : goal.returns
returns c = expanding_all c.loop-count.invariant.expanding (none_listed c.loop-count.invariant.listed (omega arith))
