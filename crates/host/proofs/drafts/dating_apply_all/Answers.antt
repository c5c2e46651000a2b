-- `host::drafts::dating_apply_all` carries the promise of `engine::apply_all` over to words, by the laws of `DraftCarryLaws`. Assumes nothing.
use Rattle.book.specs.Causes.{number}
use Rattle.host.proofs.CarryLaws.{load_none, load_some}
use Rattle.host.proofs.DraftCarryLaws.{draft_foreign, draft_long, draft_refused, draft_kept, draft_lost}
use Rattle.host.proofs.drafts.dating_apply_all.Goals as goal

pub returns-then-number_of-ne0 : goal.returns-then-number_of-ne0
unfolding number
returns-then-number_of-ne0 c =
    draft_foreign (load_none c.load-loaded.ensures c.number_of.ensures c.if-number_of-ne0.true) c.told_refusal.ensures

pub returns-then-count-ge-PAST_COUNTS : goal.returns-then-count-ge-PAST_COUNTS
unfolding number
returns-then-count-ge-PAST_COUNTS c =
    draft_long (load_some c.load-loaded.ensures c.number_of.ensures c.if-number_of-ne0.false) _ c.if-count-ge-PAST_COUNTS.true
    c.told_refusal-then-count-ge-PAST_COUNTS.ensures

pub returns-then-not-store : goal.returns-then-not-store
unfolding number
returns-then-not-store c =
    let q = c.store.ensures.refused c.if-not-store.true in
    draft_lost (load_some c.load-loaded.ensures c.number_of.ensures c.if-number_of-ne0.false) _ c.if-count-ge-PAST_COUNTS.false
    c.apply_all-applied.ensures c.in-Made.is c.told_refusal-then-not-store.ensures q.0 q.1

pub returns-in-Refused : goal.returns-in-Refused
returns-in-Refused c =
    draft_refused (load_some c.load-loaded.ensures c.number_of.ensures c.if-number_of-ne0.false) _ c.if-count-ge-PAST_COUNTS.false
    c.apply_all-applied.ensures c.in-Refused.is c.told_at.ensures

pub returns-else-not-store : goal.returns-else-not-store
returns-else-not-store c =
    let q = c.store.ensures.done c.if-not-store.false in
    draft_kept (load_some c.load-loaded.ensures c.number_of.ensures c.if-number_of-ne0.false) _ c.if-count-ge-PAST_COUNTS.false
    c.apply_all-applied.ensures c.in-Made.is q.0 q.1
