-- The computed set of an expression is its relation.
--   crossed_is, is_crossed, crossed_same
--                         the pairs that one step joins, by the letters of a set
--   crossed_set, zero_steps_set
--                         one step, and none, are sets of pairs below n
--   cells_set             the computed set is one of pairs of records below n
--   cells_rel, rel_cells  a cell is 1 exactly if the pair is in the relation
--   cells_is, cells_has   a cell is 1, or not 0, exactly if the pair has a chain
-- Assumes nothing.
use Rattle.std.specs.Prelude.{◌≡◌, ◌↔◌, ◌⊎◌, Bool, ℕ, max, ◌≤◌, ◌<◌, eqb}
use Rattle.std.proofs.Math.Path.{refl, ap, fun_ext}
use Rattle.std.proofs.Common.{ap₂, subst, arith}
use Rattle.std.proofs.Math.Logic.{⊎_elim}
use Rattle.std.proofs.Math.Bool.{true, false}
use Rattle.std.proofs.Math.Decide.{dec_lt}
use borrow.Author.Tests.{eq-eqb, eqb-true}
use Rattle.book.specs.Basics.{pick, bit}
use Rattle.book.specs.Causes.{labels}
use Rattle.k2.specs.PairSets.{Cells, IsSet, union, transpose, OneOrMore, once as once_more, more, closure, diagonal}
use Rattle.k2.specs.PairSetLaws.{one_of, bit_small, bit_on, most_some, some_most, most_bit, union_set, product_set, transpose_set, closure_set, diagonal_set}
use Rattle.k2.specs.PairSetLaws.{most_same, product_middle, middle_product, closure_leads, leads_closure}
use Rattle.paths.specs.Expressions.{Letter, stands_for, Expr, symbol, group, inverse, star, plus, optional, alternative, sequence}
use Rattle.paths.specs.Chains.{Graph, crossing, Has}
use Rattle.paths.specs.Relations.{Rel, link, inside, swapped, left, right, joined, once, again, star_none, star_some, optional_none, optional_once, joins}
use Rattle.paths.specs.Relations.{crossed_by, zero_steps, cells}
use Rattle.paths.specs.Inside.{Inside}
use Rattle.paths.proofs.ChainLaws.{crossing_in, crossing_label, rel_in_use, rel_has}

-- ---- one step
joins_lt : (t p : Bool) → pick t (bit p) 0 < 2
joins_lt true p = bit_small p
joins_lt false p = omega arith

joins_on : (t p : Bool) → 1 ≤ pick t (bit p) 0 → (t ≡ true) × (p ≡ true)
joins_on true p h = (refl, bit_on p h)
joins_on false p h = absurd (omega arith)

on_joins : (t p : Bool) → t ≡ true → p ≡ true → pick t (bit p) 0 ≡ 1
on_joins t p e f = rw (e, f)

module _ (g : Graph) (f : Letter → Bool) where
  -- the pairs joined by a step over the label l, in either sense
  abbrev both_ways : ℕ → ℕ → ℕ → ℕ
  both_ways x y l = max (joins g f (record { label = l; inverted = false }) x y) (joins g f (record { label = l; inverted = true }) x y)

  both_ways_lt : (x y l : ℕ) → both_ways x y l < 2
  both_ways_lt x y l =
      omega (
        arith,
        joins_lt (f (record { label = l; inverted = false })) (g.present (crossing (record { label = l; inverted = false }) x y)),
        joins_lt (f (record { label = l; inverted = true })) (g.present (crossing (record { label = l; inverted = true }) x y)),
      )

  crossed_lt : (x y : ℕ) → crossed_by g f x y < 2
  unfolding crossed_by
  crossed_lt x y = most_bit 26 (both_ways x y) (both_ways_lt x y)

  pub crossed_is : (x y : ℕ) → 1 ≤ crossed_by g f x y → (a : Letter) × (f a ≡ true) × (g.present (crossing a x y) ≡ true)
  unfolding crossed_by
  crossed_is x y h =
      let r = most_some 26 (both_ways x y) h in
      ⊎_elim (way false r.0) (way true r.0)
      (one_of (joins g f (record { label = r.0; inverted = false }) x y) (joins g f (record { label = r.0; inverted = true }) x y) r.2)
    where
      way : (b : Bool) (l : ℕ) → 1 ≤ joins g f (record { label = l; inverted = b }) x y → (a : Letter) × (f a ≡ true) × (g.present (crossing a x y) ≡ true)
      way b l p =
          let a : Letter = record { label = l; inverted = b } in
          let q = joins_on (f a) (g.present (crossing a x y)) p in
          (a, q.0, q.1)

  module _ (I : Inside g) where
    pub is_crossed : (a : Letter) (x y : ℕ) → f a ≡ true → g.present (crossing a x y) ≡ true → crossed_by g f x y ≡ 1
    unfolding crossed_by
    is_crossed a x y h p =
        let q : 1 ≤ both_ways x y a.label = go a.inverted refl in
        omega (arith, some_most 26 a.label (both_ways x y) (crossing_label g I a x y p) q, most_bit 26 (both_ways x y) (both_ways_lt x y))
      where
        on : (b : Bool) → a.inverted ≡ b → joins g f (record { label = a.label; inverted = b }) x y ≡ 1
        on b e =
            let k : a ≡ record { label = a.label; inverted = b } = ap (λ (c : Bool). record { label = a.label; inverted = c }) e in
            on_joins (f (record { label = a.label; inverted = b })) (g.present (crossing (record { label = a.label; inverted = b }) x y))
            (subst (λ (c : Letter). f c ≡ true) k h) (subst (λ (c : Letter). g.present (crossing c x y) ≡ true) k p)

        go : (b : Bool) → a.inverted ≡ b → 1 ≤ both_ways x y a.label
        go true e = omega (arith, on true e)
        go false e = omega (arith, on false e)

    crossed_none : (x y : ℕ) → (g.in_use x ≡ true → g.in_use y ≡ true → ⊥) → crossed_by g f x y ≡ 0
    crossed_none x y n = go (dec_lt 0 (crossed_by g f x y))
      where
        go : Dec (0 < crossed_by g f x y) → crossed_by g f x y ≡ 0
        go (yes h) = let r = crossed_is x y h in let u = crossing_in g I r.0 x y r.2 in absurd (n u.0 u.1)
        go (no h) = omega arith

    pub crossed_set : IsSet g.n (crossed_by g f)
    crossed_set = record {
      bit = crossed_lt;
      row = λ x y h. crossed_none x y (λ u v. absurd (omega (arith, I.below x u)));
      column = λ x y h. crossed_none x y (λ u v. absurd (omega (arith, I.below y v)));
    }

-- sets that have the same letters are crossed alike
pub crossed_same : (g : Graph) (f h : Letter → Bool) → ((a : Letter) → a.label < labels → f a ≡ h a) → crossed_by g f ≡ crossed_by g h
unfolding crossed_by
crossed_same g f h e = fun_ext (λ x. fun_ext (λ y. most_same labels _ _ (λ l k.
    ap₂ max
    (ap (λ (t : Bool). pick t (bit (g.present (crossing (record { label = l; inverted = false }) x y))) 0) (e (record { label = l; inverted = false }) k))
    (ap (λ (t : Bool). pick t (bit (g.present (crossing (record { label = l; inverted = true }) x y))) 0) (e (record { label = l; inverted = true }) k)))))

-- ---- zero steps
module _ (g : Graph) where
  zero-steps : (x y : ℕ) → 1 ≤ zero_steps g x y → (g.in_use x ≡ true) × (x ≡ y)
  unfolding zero_steps diagonal
  zero-steps x y h = (bit_on (g.in_use x) (omega arith), eqb-true x y (bit_on (eqb x y) (omega arith)))

  steps_zero : (x : ℕ) → g.in_use x ≡ true → zero_steps g x x ≡ 1
  unfolding zero_steps diagonal
  steps_zero x u = rw (u, eq-eqb x x refl)

  module _ (I : Inside g) where
    pub zero_steps_set : IsSet g.n (zero_steps g)
    unfolding zero_steps
    zero_steps_set = diagonal_set g.n (λ x. bit (g.in_use x)) (λ x. bit_small (g.in_use x)) (λ x h. none x h (g.in_use x) refl)
      where
        none : (x : ℕ) → g.n ≤ x → (b : Bool) → g.in_use x ≡ b → bit b ≡ 0
        none x h true e = absurd (omega (arith, I.below x e))
        none x h false e = refl

    -- ---- the set of an expression
    pub cells_set : (e : Expr) → IsSet g.n (cells g e)
    unfolding cells
    cells_set (symbol s) = crossed_set g (stands_for s) I
    cells_set (group e) = cells_set e
    cells_set (inverse e) = transpose_set g.n (cells g e) (cells_set e)
    cells_set (star e) = union_set g.n (closure g.n (cells g e)) (zero_steps g) (closure_set g.n g.n (cells g e) (cells_set e)) zero_steps_set
    cells_set (plus e) = closure_set g.n g.n (cells g e) (cells_set e)
    cells_set (optional e) = union_set g.n (cells g e) (zero_steps g) (cells_set e) zero_steps_set
    cells_set (alternative e f) = union_set g.n (cells g e) (cells g f) (cells_set e) (cells_set f)
    cells_set (sequence e f) = product_set g.n (cells g e) (cells g f) (cells_set e) (cells_set f)

    one : (e : Expr) (x y : ℕ) → 1 ≤ cells g e x y → cells g e x y ≡ 1
    one e x y h = omega (arith, (cells_set e).bit x y)

    leads_plus : (e : Expr) → ((x y : ℕ) → cells g e x y ≡ 1 → Rel g e x y) → {x y : ℕ} → OneOrMore (cells g e) x y → Rel g (plus e) x y
    leads_plus e f (once_more p) = once (f _ _ p)
    leads_plus e f (more p r) = again (f _ _ p) (leads_plus e f r)

    plus_leads : (e : Expr) → ((x y : ℕ) → cells g e x y ≡ 1 → Rel g e x y) → (x y : ℕ) → closure g.n (cells g e) x y ≡ 1 → Rel g (plus e) x y
    plus_leads e f x y h = leads_plus e f (closure_leads g.n (cells g e) (cells_set e) g.n x y h)

    in_either_set : (a b : Cells) (x y : ℕ) → union a b x y ≡ 1 → (1 ≤ a x y) ⊎ (1 ≤ b x y)
    unfolding union
    in_either_set a b x y h = one_of (a x y) (b x y) (omega arith)

    or-none : (e : Expr) (a : Cells) (x y : ℕ) → a x y < 2 → (a x y ≡ 1 → Rel g e x y)
        → (g.in_use x ≡ true → Rel g e x x) → union a (zero_steps g) x y ≡ 1 → Rel g e x y
    or-none e a x y l f n h = ⊎_elim
        (λ p. f (omega arith))
        (λ p. let z = zero-steps x y p in subst (λ (v : ℕ). Rel g e x v) z.1 (n z.0))
        (in_either_set a (zero_steps g) x y h)

    pub cells_rel : (e : Expr) (x y : ℕ) → cells g e x y ≡ 1 → Rel g e x y
    unfolding cells transpose
    cells_rel (symbol s) x y h = let r = crossed_is g (stands_for s) x y (omega arith) in link r.0 r.1 r.2
    cells_rel (group e) x y h = inside (cells_rel e x y h)
    cells_rel (inverse e) x y h = swapped (cells_rel e y x h)
    cells_rel (star e) x y h =
        or-none (star e) (closure g.n (cells g e)) x y ((closure_set g.n g.n (cells g e) (cells_set e)).bit x y)
        (λ p. star_some (plus_leads e (cells_rel e) x y p)) star_none h
    cells_rel (plus e) x y h = plus_leads e (cells_rel e) x y h
    cells_rel (optional e) x y h = or-none (optional e) (cells g e) x y ((cells_set e).bit x y) (λ p. optional_once (cells_rel e x y p)) optional_none h
    cells_rel (alternative e f) x y h = ⊎_elim
        (λ p. left (cells_rel e x y (one e x y p)))
        (λ p. right (cells_rel f x y (one f x y p)))
        (in_either_set (cells g e) (cells g f) x y h)
    cells_rel (sequence e f) x y h =
        let r = product_middle g.n (cells g e) (cells g f) x y ((cells_set e).bit x) (λ z. (cells_set f).bit z y) h in
        joined (cells_rel e x r.0 r.2) (cells_rel f r.0 y r.3)

    plus_leads_on : {e : Expr} {x y : ℕ} → Rel g (plus e) x y → cells g (plus e) x y ≡ 1 → OneOrMore (cells g e) x y
    unfolding cells
    plus_leads_on {e} {x} {y} r h = closure_leads g.n (cells g e) (cells_set e) g.n x y h

    pub rel_cells : {e : Expr} {x y : ℕ} → Rel g e x y → cells g e x y ≡ 1
    unfolding cells transpose union
    rel_cells (link {s} a {x} {y} h p) = is_crossed g (stands_for s) I a x y h p
    rel_cells (inside r) = rel_cells r
    rel_cells (swapped r) = rel_cells r
    rel_cells (left {e} {f} {x} {y} r) = omega (arith, rel_cells r, (cells_set f).bit x y)
    rel_cells (right {e} {f} {x} {y} r) = omega (arith, rel_cells r, (cells_set e).bit x y)
    rel_cells (joined {e} {f} {x} {z} {y} r q) =
        middle_product g.n (cells g e) (cells g f) x y ((cells_set e).bit x) z (I.below z (rel_in_use g I r).1) (rel_cells r) (rel_cells q)
    rel_cells (once {e} {x} {y} r) = leads_closure g.n (cells g e) (cells_set e) (once_more (rel_cells r))
    rel_cells (again {e} {x} {z} {y} r q) = leads_closure g.n (cells g e) (cells_set e) (more (rel_cells r) (plus_leads_on q (rel_cells q)))
    rel_cells (star_none {e} {x} u) = omega (arith, steps_zero x u, (closure_set g.n g.n (cells g e) (cells_set e)).bit x x)
    rel_cells (star_some {e} {x} {y} r) = omega (arith, rel_cells r, zero_steps_set.bit x y)
    rel_cells (optional_none {e} {x} u) = omega (arith, steps_zero x u, (cells_set e).bit x x)
    rel_cells (optional_once {e} {x} {y} r) = omega (arith, rel_cells r, zero_steps_set.bit x y)

    -- the theorem
    pub cells_is : (e : Expr) (x y : ℕ) → (cells g e x y ≡ 1) ↔ Has g e x y
    cells_is e x y = ((λ h. (rel_has g I e x y).0 (cells_rel e x y h)), (λ h. rel_cells ((rel_has g I e x y).1 h)))

    pub cells_has : (e : Expr) (x y : ℕ) → (1 ≤ cells g e x y) ↔ Has g e x y
    cells_has e x y = ((λ h. (cells_is e x y).0 (one e x y h)), (λ h. omega (arith, (cells_is e x y).1 h)))
