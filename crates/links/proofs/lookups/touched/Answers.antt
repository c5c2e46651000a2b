-- A record is touched exactly if some word's link has it as an end. Assumes nothing.
use Rattle.std.proofs.Common.{◌≡◌, refl, List, [], ◌∷◌, ◌||◌, map, ℕ, take, rules, ap}
use Rattle.std.specs.Prelude.{eqb}
use Rattle.std.specs.List.{list_any}
use Rattle.std.proofs.lemmas.Iterator.{YieldsList-from_slice}
use Rattle.std.proofs.lemmas.Iterator.Search.{any_from_yields_List}
use borrow.Author.Tests.{tests}
use Rattle.book.specs.Book.{touched}
use Rattle.links.specs.Parts.{link_of}
use Rattle.links.proofs.lookups.touched.Goals as goal

touched_any : (r : ℕ) (ws : List ℕ) → touched r (map link_of ws) ≡ list_any (λ w. eqb (link_of w).from r || eqb (link_of w).to r) ws
unfolding touched
touched_any r [] = refl
touched_any r (w ∷ ws) = ap (λ b. (eqb (link_of w).from r || eqb (link_of w).to r) || b) (touched_any r ws)

pub returns : goal.returns
returns c =
    let r = c.args.«record» in
    let part : List ℕ = take c.args.count c.args.words.now in
    rw (touched_any r part)
    (any_from_yields_List (λ w. eqb (link_of w).from r || eqb (link_of w).to r) _ _ _ c.any.ensures.ran
    (YieldsList-from_slice part cc) (λ x b q k. search (rules, tests)))
