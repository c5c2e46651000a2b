-- The early returns add nothing, and else it goes by whether the record had a state (`listed_old`, `listed_new`). There is room on the list for a record that
-- comes new, since the list is no longer than the number of records with a state (`list_room`).
use Rattle.std.proofs.Common.{ℕ, ◌<◌, arith}
use Rattle.k2.specs.Bits.{digit}
use Rattle.automaton.specs.Automata.{On}
use Rattle.automaton.proofs.LowestLaws.{some_digit}
use Rattle.search.proofs.FrontierLaws.{added_zero, added_more, listed_old, list_room, listed_new}
use Rattle.search.proofs.levels.add_states.Goals as goal

pub returns-then-entry-eq0 : goal.returns-then-entry-eq0
returns-then-entry-eq0 c = (c.requires.listed, added_zero _ _ _ _ c.if-entry-eq0.true)

pub returns-then-old-ne0 : goal.returns-then-old-ne0
returns-then-old-ne0 c =
    let q : (q : ℕ) × (q < 64) × On (digit c.args.entry.states q) = some_digit 64 c.args.entry.states (omega arith) (omega arith) in (
      listed_old c.requires.listed c.args.entry.at c.args.entry.states c.requires.at_below (omega arith) q c.requires.next_long (omega arith),
      added_more _ _ _ _ (omega arith) (omega arith),
    )

pub offset_bounds-list-queued : goal.offset_bounds-list-queued
offset_bounds-list-queued c =
    let q : (q : ℕ) × (q < 64) × On (digit c.args.entry.states q) = some_digit 64 c.args.entry.states (omega arith) (omega arith) in
    let r = list_room c.requires.listed c.args.entry.at c.args.entry.states c.requires.at_below (omega arith) q c.requires.next_long c.if-old-ne0.false in
    omega (arith, r)

pub bounds-list-queued : goal.bounds-list-queued
bounds-list-queued c =
    let q : (q : ℕ) × (q < 64) × On (digit c.args.entry.states q) = some_digit 64 c.args.entry.states (omega arith) (omega arith) in
    let r = list_room c.requires.listed c.args.entry.at c.args.entry.states c.requires.at_below (omega arith) q c.requires.next_long c.if-old-ne0.false in
    omega (arith, r)

pub overflow_add-result : goal.overflow_add-result
overflow_add-result c =
    let q : (q : ℕ) × (q < 64) × On (digit c.args.entry.states q) = some_digit 64 c.args.entry.states (omega arith) (omega arith) in
    let r = list_room c.requires.listed c.args.entry.at c.args.entry.states c.requires.at_below (omega arith) q c.requires.next_long c.if-old-ne0.false in
    omega (arith, r)

pub returns : goal.returns
returns c =
    let q : (q : ℕ) × (q < 64) × On (digit c.args.entry.states q) = some_digit 64 c.args.entry.states (omega arith) (omega arith) in (
      listed_new c.requires.listed c.args.entry.at c.args.entry.states c.requires.at_below
          (omega arith) q c.requires.next_long c.if-old-ne0.false c.requires.list_long,
      added_more _ _ _ _ (omega arith) (omega arith),
    )
