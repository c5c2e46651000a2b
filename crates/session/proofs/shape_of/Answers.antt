-- kind by kind; no other kind has a shape. Assumes nothing.
use borrow.Author.Tests.{ne_eqb}
use Rattle.register.specs.History.{add_kind, remove_kind, lock_kind, unlock_kind, undo_kind, withdraw_kind, reinstate_kind}
use Rattle.session.specs.Program.{open_kind, pairs_kind, chain_kind, total_kind, shape_of}
use Rattle.session.proofs.shape_of.Goals as goal

pub returns-in-1 : goal.returns-in-1
unfolding shape_of
returns-in-1 c = rw c.in-1.is

pub returns-in-2 : goal.returns-in-2
unfolding shape_of
returns-in-2 c = rw c.in-2.is

pub returns-in-3 : goal.returns-in-3
unfolding shape_of
returns-in-3 c = rw c.in-3.is

pub returns-in-4 : goal.returns-in-4
unfolding shape_of
returns-in-4 c = rw c.in-4.is

pub returns-in-5 : goal.returns-in-5
unfolding shape_of
returns-in-5 c = rw c.in-5.is

pub returns-in-6 : goal.returns-in-6
unfolding shape_of
returns-in-6 c = rw c.in-6.is

pub returns-in-7 : goal.returns-in-7
unfolding shape_of
returns-in-7 c = rw c.in-7.is

pub returns-in-8 : goal.returns-in-8
unfolding shape_of
returns-in-8 c = rw c.in-8.is

pub returns-in-9 : goal.returns-in-9
unfolding shape_of
returns-in-9 c = rw c.in-9.is

pub returns-in-10 : goal.returns-in-10
unfolding shape_of
returns-in-10 c = rw c.in-10.is

pub returns-in-11 : goal.returns-in-11
unfolding shape_of
returns-in-11 c = rw c.in-11.is

pub returns-in_default : goal.returns-in_default
unfolding shape_of
returns-in_default c =
    let k = c.args.kind in
    let (before-reinstate, not-reinstate) = c.in_default.in_default-own.rest in
    let (before-withdraw, not-withdraw) = before-reinstate in
    let (before-total, not-total) = before-withdraw in
    let (before-chain, not-chain) = before-total in
    let (before_pairs, not-pairs) = before-chain in
    let (before-undo, not-undo) = before_pairs in
    let (before-unlock, not-unlock) = before-undo in
    let (before-lock, not-lock) = before-unlock in
    let (before-remove, not-remove) = before-lock in
    let (before-add, not-add) = before-remove in
    let (before-open, not_open) = before-add in
    rw (
      ne_eqb k open_kind not_open,
      ne_eqb k add_kind not-add,
      ne_eqb k remove_kind not-remove,
      ne_eqb k lock_kind not-lock,
      ne_eqb k unlock_kind not-unlock,
      ne_eqb k undo_kind not-undo,
      ne_eqb k pairs_kind not-pairs,
      ne_eqb k chain_kind not-chain,
      ne_eqb k total_kind not-total,
      ne_eqb k withdraw_kind not-withdraw,
      ne_eqb k reinstate_kind not-reinstate,
    )
