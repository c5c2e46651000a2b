-- The links of letters, label by label, in plain variables: the part of a label has the pairs of its links, and the labels together have those of the letters.
--   below, part_pairs, part_set
--                  the part of a label has the pairs of its links, below n
--   part_stepped, none_stepped
--                  one step by the letters of a label, in either sense; none where neither set has it
--   below_none, below_more, below_all
--                  the labels below k together: none, one more, all
--   put_begins, put_more, put_same, put_ends
--                  put into a relation label by label: none, one more, one that neither set has, all
--   every_true, every_false, every_le
--                  whether a set has a label, as the code tells it
-- Assumes nothing.
use mathlib.Core.Path.{◌≡◌, refl, sym, ap, ap₂, ◌∙◌, subst, fun_ext}
use mathlib.Core.Bool.{Bool, true, false}
use mathlib.Core.List.{List, [], ◌∷◌, map}
use Prim.Native.Nat.{ℕ, zero, suc, ◌+◌, ◌/◌, ◌%◌, ◌^◌, ◌<◌, ◌≤◌, max}
use native.Mathlib.Decide.{dec_lt}
use native.Mathlib.Omega.{arith}
use lib.Dec.{eqb}
use lib.ListN.{take, drop}
use borrow.Author.Tests.{eq-eqb, ne_eqb}
use Rattle.book.specs.Basics.{pick, bit, In, here, there}
use Rattle.book.proofs.ListLaws.{in_none, in_map, map_in}
use Rattle.book.specs.Book.{Book, present}
use Rattle.k2.specs.Bits.{digit, value}
use Rattle.k2.specs.BitLaws.{value_digit}
use Rattle.k2.specs.PairSets.{Cells, pair_word, set_of, PairsBelow, union, transpose, most}
use Rattle.k2.specs.PairSetLaws.{set-in, in_set, set_past}
use Rattle.paths.specs.Expressions.{Letter}
use Rattle.paths.specs.Chains.{Graph, asked}
use Rattle.paths.specs.Relations.{crossed_by}
use Rattle.rows.specs.RowSets.{no_pairs, labelled, crossed_words}
use Rattle.links.specs.Parts.{link_pair}
use Rattle.rows.specs.RowLaws.{crossed_set, labelled_none, set_none, union_right, union_join}
use Rattle.reader.specs.Letters.{letters_in}
use Rattle.links.specs.Lookups.{PairsOf, LabelPart}
use Rattle.grid.specs.Grid.{within, first}
use Rattle.grid.specs.GridLaws.{within_set}
use Rattle.query.specs.Evaluation.{Lettered}
use Rattle.query.proofs.LetterLaws.{links_below}
use Rattle.rowpairs.specs.Labels.{every_label, every_if, stepped_by, stepped_below, PutBelow}

-- ---- the members of a part
in_take : {w : ℕ} (k : ℕ) (l : List ℕ) → In w (take k l) → In w l
in_take zero l h = absurd (in_none h refl)
in_take (suc k) [] h = h
in_take (suc k) (x ∷ l) here = here
in_take (suc k) (x ∷ l) (there h) = there (in_take k l h)

in_drop : {w : ℕ} (k : ℕ) (l : List ℕ) → In w (drop k l) → In w l
in_drop zero l h = h
in_drop (suc k) [] h = h
in_drop (suc k) (x ∷ l) h = there (in_drop k l h)

-- ---- every label
every_digit : (l : ℕ) → l < 26 → digit every_label l ≡ 1
unfolding value
every_digit l h = value_digit 26 (λ k. 1) l (λ k. omega arith) h

every_labelled : (ws : List ℕ) → ((w : ℕ) → In w ws → w / 1048576 < 26) → labelled every_label ws ≡ ws
unfolding labelled
every_labelled [] h = refl
every_labelled (w ∷ ws) h = rw (eq-eqb (digit every_label (w / 1048576)) 1 (every_digit (w / 1048576) (h w here)), every_labelled ws (λ v i. h v (there i)))

-- ---- the pairs of a label's part
module _ (b : Book) (n : ℕ) (links : List ℕ) (used : ℕ → ℕ) (L : Lettered b n links used) (l : ℕ) (part : List ℕ) (P : LabelPart links l part) where
  abbrev g : Graph
  g = asked b

  in_part : {w : ℕ} → In w part → In w links
  in_part {w} h = let i = P.inside in in_drop i.0 links (in_take i.1 (drop i.0 links) (subst (λ (ws : List ℕ). In w ws) i.2 h))

  labels_few : (w : ℕ) → In w part → w / 1048576 < 26
  labels_few w h =
      let k = L.linked.sound w (in_part h) in
      let f = L.fit.links k.0 k.2 in
      let s = L.small in
      let e : w / 1048576 ≡ k.0.label = ap (λ (v : ℕ). v / 1048576) k.1 ∙ omega (arith, f.from, f.to) in
      omega (arith, f.label)

  pub below : PairsBelow n (map link_pair part)
  below p h =
      let r = in_map link_pair part h in
      links_below b n links used L p (subst (λ (v : ℕ). In v (map link_pair links)) (sym r.2) (map_in link_pair (in_part r.1)))

  pub part_pairs : PairsOf b.sheet l (map link_pair part)
  unfolding link_pair
  part_pairs = P.pairs b.n b.sheet L.small L.fit L.linked

  pub part_set : (x y : ℕ) → set_of (map link_pair part) x y ≡ bit (present b.sheet (record { from = x; label = l; to = y }))
  part_set x y = go (present b.sheet (record { from = x; label = l; to = y })) refl (dec_lt 0 (set_of (map link_pair part) x y))
    where
      go : (t : Bool) → present b.sheet (record { from = x; label = l; to = y }) ≡ t
          → Dec (0 < set_of (map link_pair part) x y) → set_of (map link_pair part) x y ≡ bit t
      go true e d = let f = L.fit.links _ e in let s = L.small in in_set (map link_pair part) x y (omega (arith, f.to)) (part_pairs.whole x y e)
      go false e (no d) = omega arith
      go false e (yes d) = absurd (same (dec_lt y 1024))
        where
          same : Dec (y < 1024) → ⊥
          same (no k) = omega (arith, set_past (map link_pair part) x y (omega arith))
          same (yes k) =
              let r = part_pairs.sound (pair_word x y) (set-in (map link_pair part) x y d) in
              let f = L.fit.links _ r.3 in
              let s = L.small in
              let u : r.0 ≡ x = omega (arith, f.to, r.2) in
              let v : r.1 ≡ y = omega (arith, f.to, r.2) in
              let z : present b.sheet (record { from = x; label = l; to = y }) ≡ true =
              subst (λ (i : ℕ). present b.sheet (record { from = x; label = l; to = i }) ≡ true) v
              (subst (λ (i : ℕ). present b.sheet (record { from = i; label = l; to = r.1 }) ≡ true) u r.3) in
              let q : false ≡ true = sym e ∙ z in
              let y : ◌≡◌ {A = ℕ} 0 1 = ap bit q in
              omega arith

  -- the part of a set that has the label or not
  side : (m x y : ℕ) → set_of (map link_pair (labelled (every_if m l) part)) x y
      ≡ pick (eqb (digit m l) 1) (bit (present b.sheet (record { from = x; label = l; to = y }))) 0
  unfolding every_if no_pairs
  side m x y = go (eqb (digit m l) 1)
    where
      go : (t : Bool) → set_of (map link_pair (labelled (pick t every_label 0) part)) x y
          ≡ pick t (bit (present b.sheet (record { from = x; label = l; to = y }))) 0
      go true = ap (λ (ws : List ℕ). set_of (map link_pair ws) x y) (every_labelled part labels_few) ∙ part_set x y
      go false = ap (λ (ws : List ℕ). set_of (map link_pair ws) x y) (labelled_none part) ∙ ap (λ (a : Cells). a x y) set_none

  pub part_stepped : (forward against : ℕ)
      → within n (crossed_words part (every_if forward l) (every_if against l)) ≡ stepped_by g (letters_in forward against) l
  unfolding crossed_words stepped_by letters_in asked union transpose
  part_stepped forward against =
      within_set n _ (crossed_set n part (every_if forward l) (every_if against l) (omega (arith, L.size, L.small)) below)
      ∙ fun_ext (λ x. fun_ext (λ y. ap₂ max (side forward x y) (side against y x)))

-- a label that neither set has
pub none_stepped : (g : Graph) (forward against l : ℕ) → every_if forward l ≡ 0 → every_if against l ≡ 0
    → stepped_by g (letters_in forward against) l ≡ no_pairs
unfolding stepped_by letters_in every_if no_pairs
none_stepped g forward against l e f = fun_ext (λ x. fun_ext (λ y. go (eqb (digit forward l) 1) (eqb (digit against l) 1) e f _ _))
  where
    go : (s t : Bool) → pick s every_label 0 ≡ 0 → pick t every_label 0 ≡ 0 → (u v : ℕ) → max (pick s u 0) (pick t v 0) ≡ 0
    go true t p q u v = absurd (omega arith)
    go false true p q u v = absurd (omega arith)
    go false false p q u v = refl

-- ---- label by label
pub below_none : (g : Graph) (f : Letter → Bool) → stepped_below g f 0 ≡ no_pairs
unfolding stepped_below no_pairs most
below_none g f = refl

pub below_more : (g : Graph) (f : Letter → Bool) (k : ℕ) → union (stepped_below g f k) (stepped_by g f k) ≡ stepped_below g f (k + 1)
unfolding stepped_below most union
below_more g f k = let e : suc k ≡ k + 1 = omega arith in ap (stepped_below g f) e

pub below_all : (g : Graph) (f : Letter → Bool) → stepped_below g f 26 ≡ crossed_by g f
unfolding stepped_below stepped_by crossed_by
below_all g f = refl

module _ (n w : ℕ) (links : List ℕ) (forward against : ℕ) (ws ms : List ℕ) where
  pub put_begins : PutBelow n w links forward against ws ms ws ms 0
  put_begins b used L = sym (ap (union (first n w ws ms)) (below_none (asked b) (letters_in forward against)) ∙ union_right (first n w ws ms))

  module _ (l p t : ℕ) (vs ns : List ℕ) (plain : p ≡ every_if forward l)
      (turned : t ≡ every_if against l) (so_far : PutBelow n w links forward against ws ms vs ns l) where
    next_label : (b : Book) (used : ℕ → ℕ) (vs' ns' : List ℕ) → Lettered b n links used
        → first n w vs' ns' ≡ union (first n w vs ns) (stepped_by (asked b) (letters_in forward against) l)
        → first n w vs' ns' ≡ union (first n w ws ms) (stepped_below (asked b) (letters_in forward against) (l + 1))
    next_label b used vs' ns' L made =
        let g : Graph = asked b in
        let f : Letter → Bool = letters_in forward against in
        made ∙ ap (λ (a : Cells). union a (stepped_by g f l)) (so_far b used L) ∙ union_join (first n w ws ms) (stepped_below g f l) (stepped_by g f l)
        ∙ ap (union (first n w ws ms)) (below_more g f l)

    -- a label of the letters: its part of the links has been put in
    pub put_more : (part vs' ns' : List ℕ) → LabelPart links l part
        → first n w vs' ns' ≡ union (first n w vs ns) (within n (crossed_words part p t)) → PutBelow n w links forward against ws ms vs' ns' (l + 1)
    put_more part vs' ns' P made b used L =
        next_label b used vs' ns' L
        (made ∙ ap (union (first n w vs ns))
        (ap₂ (λ (i j : ℕ). within n (crossed_words part i j)) plain turned ∙ part_stepped b n links used L l part P forward against))

    -- any other label
    pub put_same : p + t ≡ 0 → PutBelow n w links forward against ws ms vs ns (l + 1)
    put_same z b used L =
        next_label b used vs ns L
        (sym (ap (union (first n w vs ns)) (none_stepped (asked b) forward against l (sym plain ∙ omega arith) (sym turned ∙ omega arith))
        ∙ union_right (first n w vs ns)))

  pub put_ends : (k : ℕ) (vs ns : List ℕ) → k ≡ 26 → PutBelow n w links forward against ws ms vs ns k
      → (b : Book) (used : ℕ → ℕ) → Lettered b n links used → first n w vs ns ≡ union (first n w ws ms) (crossed_by (asked b) (letters_in forward against))
  put_ends k vs ns e made b used L =
      made b used L ∙ ap (λ (i : ℕ). union (first n w ws ms) (stepped_below (asked b) (letters_in forward against) i)) e
      ∙ ap (union (first n w ws ms)) (below_all (asked b) (letters_in forward against))

-- ---- whether a set has a label
pub every_true : (m l : ℕ) → m / 2 ^ l % 2 ≡ 1 → every_label ≡ every_if m l
unfolding every_if digit
every_true m l h = rw (eq-eqb (m / 2 ^ l % 2) 1 h) refl

pub every_false : (m l : ℕ) → (m / 2 ^ l % 2 ≡ 1 → ⊥) → 0 ≡ every_if m l
unfolding every_if digit
every_false m l h = rw (ne_eqb (m / 2 ^ l % 2) 1 h) refl

pub every_le : (m l : ℕ) → every_if m l ≤ every_label
unfolding every_if
every_le m l = go (eqb (digit m l) 1)
  where
    go : (t : Bool) → pick t every_label 0 ≤ every_label
    go true = omega arith
    go false = omega arith
