-- What each item does (`RunLaws`).
use Rattle.std.proofs.Common.{sym, ◌∙◌}
use Rattle.tables.proofs.RunLaws.{inverts, stars, repeats, allows_none, unites, follows, room_symbol, after_symbol, room_one, after_one, room_two, after_two}
use Rattle.tables.proofs.step.Goals as goal

pub symbol-requires : goal.symbol-requires
symbol-requires c = let z = room_symbol c.requires.1.2 (sym c.item_of-item.ensures ∙ c.in-Letters.is) in (c.requires.0.enter_long, z.0, z.1)

pub inverted-requires : goal.inverted-requires
inverted-requires c =
    let z = room_one c.requires.1.2 (sym c.item_of-item.ensures ∙ c.in-Inverse.is) inverts in
    (record { follow_long = c.requires.0.follow_long; pred_long = c.requires.0.pred_long; some = z.0; few = z.1 }, c.requires.0.enter_long)

pub repeated-requires : goal.repeated-requires
repeated-requires c =
    let z = room_one c.requires.1.2 (sym c.item_of-item.ensures ∙ c.in-Star.is) stars in
    record { follow_long = c.requires.0.follow_long; pred_long = c.requires.0.pred_long; some = z.0; few = z.1 }

pub maybe-requires : goal.maybe-requires
maybe-requires c = room_one c.requires.1.2 (sym c.item_of-item.ensures ∙ c.in-Star.is) stars

pub repeated-requires-in-Plus : goal.repeated-requires-in-Plus
repeated-requires-in-Plus c =
    let z = room_one c.requires.1.2 (sym c.item_of-item.ensures ∙ c.in-Plus.is) repeats in
    record { follow_long = c.requires.0.follow_long; pred_long = c.requires.0.pred_long; some = z.0; few = z.1 }

pub maybe-requires-in-Optional : goal.maybe-requires-in-Optional
maybe-requires-in-Optional c = room_one c.requires.1.2 (sym c.item_of-item.ensures ∙ c.in-Optional.is) allows_none

pub either-requires : goal.either-requires
either-requires c = room_two c.requires.1.2 (sym c.item_of-item.ensures ∙ c.in-Alternative.is) unites

pub followed-requires : goal.followed-requires
followed-requires c =
    let z = room_two c.requires.1.2 (sym c.item_of-item.ensures ∙ c.in-Sequence.is) follows in
    record { follow_long = c.requires.0.follow_long; pred_long = c.requires.0.pred_long; some = z.0; few = z.1 }

pub returns-in-Letters : goal.returns-in-Letters
returns-in-Letters c = λ k v N. after_symbol N (sym c.item_of-item.ensures ∙ c.in-Letters.is) (λ m st H. c.symbol.ensures _ _ m st H)

pub returns-in-Inverse : goal.returns-in-Inverse
returns-in-Inverse c = λ k v N. after_one N (sym c.item_of-item.ensures ∙ c.in-Inverse.is) inverts c.inverted.ensures

pub returns-in-Star : goal.returns-in-Star
returns-in-Star c =
    λ k v N. after_one N (sym c.item_of-item.ensures ∙ c.in-Star.is) stars
    (λ m x st H. c.maybe.ensures _ _ _ m _ st (c.repeated.ensures _ m x st H))

pub returns-in-Plus : goal.returns-in-Plus
returns-in-Plus c = λ k v N. after_one N (sym c.item_of-item.ensures ∙ c.in-Plus.is) repeats (λ m x st H. c.repeated-in-Plus.ensures _ m x st H)

pub returns-in-Optional : goal.returns-in-Optional
returns-in-Optional c =
    λ k v N. after_one N (sym c.item_of-item.ensures ∙ c.in-Optional.is) allows_none (λ m x st H. c.maybe-in-Optional.ensures _ _ _ m x st H)

pub returns-in-Alternative : goal.returns-in-Alternative
returns-in-Alternative c = λ k v N. after_two N (sym c.item_of-item.ensures ∙ c.in-Alternative.is) unites (λ m x y st H. c.either.ensures _ _ _ m x y st H)

pub returns-in-Sequence : goal.returns-in-Sequence
returns-in-Sequence c = λ k v N. after_two N (sym c.item_of-item.ensures ∙ c.in-Sequence.is) follows (λ m x y st H. c.followed.ensures _ m x y st H)
