-- Sole support on a small sheet, computed: a sheet of five records with the links 1 a 0, 2 a 1, 3 a 1, 3 a 4 and 4 a 0, and both ends of 2 a 1 locked.
--   falls_alone     2 has its only chain to 0 over 1; 3 has another over 4; the core 1 is not listed
--   falls_locked    so it is without the locks
--   core_anchored   with the core an anchor too
--   one_lost        3 loses its chain to the anchor 4, and keeps one to the anchor 0
--   core_only       the core is the only anchor: all others fall, and not the core
--   anchor_stays    an anchor that reaches itself by zero steps keeps that chain
--   no_anchors      no anchors, no records
-- Assumes nothing.
use Rattle.std.specs.Prelude.{◌≡◌, refl, List, [], ◌∷◌, ℕ}
use Rattle.book.specs.Basics.{has}
use Rattle.book.specs.Book.{Link, Book}
use Rattle.k2.specs.PairSets.{union, most, via, closure, diagonal}
use Rattle.paths.specs.Expressions.{stands_for, Expr, letter, symbol, star, plus}
use Rattle.paths.specs.Chains.{asked}
use Rattle.paths.specs.Relations.{crossed_by, zero_steps, cells}
use Rattle.support.specs.Support.{without, some, chosen, reaches, falls, fallen}

abbrev overlap : ℕ → ℕ → Link
overlap x y = record { from = x; label = 0; to = y }

abbrev house : List ℕ → Book
house locks = record {
  n = 5;
  sheet = record { links = overlap 1 0 ∷ overlap 2 1 ∷ overlap 3 1 ∷ overlap 3 4 ∷ overlap 4 0 ∷ []; locks = locks; withdrawn = [] };
  pile = [];
}

-- the records that fall of a+, and of a*
abbrev some_steps : Expr
some_steps = plus (symbol (letter 0))

abbrev any_steps : Expr
any_steps = star (symbol (letter 0))

pub falls_alone : fallen (asked (house (1 ∷ 2 ∷ []))) some_steps 1 (0 ∷ []) ≡ 2 ∷ []
unfolding fallen falls reaches some chosen without asked cells closure via crossed_by most stands_for has
falls_alone = refl

pub falls_locked : fallen (asked (house [])) some_steps 1 (0 ∷ []) ≡ 2 ∷ []
unfolding fallen falls reaches some chosen without asked cells closure via crossed_by most stands_for has
falls_locked = refl

pub core_anchored : fallen (asked (house [])) some_steps 1 (0 ∷ 1 ∷ []) ≡ 2 ∷ []
unfolding fallen falls reaches some chosen without asked cells closure via crossed_by most stands_for has
core_anchored = refl

pub one_lost : fallen (asked (house [])) some_steps 4 (0 ∷ 4 ∷ []) ≡ []
unfolding fallen falls reaches some chosen without asked cells closure via crossed_by most stands_for has
one_lost = refl

pub core_only : fallen (asked (house [])) any_steps 0 (0 ∷ []) ≡ 1 ∷ 2 ∷ 3 ∷ 4 ∷ []
unfolding fallen falls reaches some chosen without asked cells closure via crossed_by zero_steps diagonal union most stands_for has
core_only = refl

pub anchor_stays : fallen (asked (house [])) any_steps 1 (0 ∷ 2 ∷ []) ≡ []
unfolding fallen falls reaches some chosen without asked cells closure via crossed_by zero_steps diagonal union most stands_for has
anchor_stays = refl

pub no_anchors : fallen (asked (house [])) any_steps 1 [] ≡ []
unfolding fallen falls reaches some chosen without asked
no_anchors = refl
