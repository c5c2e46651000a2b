-- One number of the code, in plain variables: what letters, `^`, and an operator do to the operands that wait.
--   starts_early         the trees of the operands below the top end early enough to leave room for the value
--   takes_letters, takes_inverse, takes_one, takes_two
--                        what each kind of item takes off the stack
--   has_one, has_turned, has_two
--                        where the operands lie that an item takes
--   takes_early          few operands stay
--   goes_letters, goes_inverse
--                        letters are put on the stack; `^` turns the operand on top
--   lent, goes_operator  what is lent to an operation, and that its tree is the operand on top then
-- Assumes nothing.
use mathlib.Core.Path.{◌≡◌, refl, sym, ap, ap₂, ◌∙◌, subst}
use mathlib.Core.List.{List, ◌∷◌, ◌++◌, append-nil}
use Prim.Native.Nat.{ℕ, ◌+◌, ◌-◌, ◌*◌, ◌<◌, ◌≤◌}
use native.Mathlib.Nat.{mul-le-mul_right}
use native.Mathlib.Omega.{arith}
use lib.ListN.{length, take, drop, set, length-set, length-drop}
use lib.Seq.{drop_at, drop-drop, length-take-le, drop-length, get_or-set_same}
use borrow.Rule.Slice.PartMut.{put_mid, take_put}
use Rattle.book.specs.Book.{Book}
use Rattle.book.proofs.ListLaws.{rest_whole, rest_length}
use Rattle.k2.specs.Bits.{bit_at}
use Rattle.k2.specs.BitLaws.{bit_lt}
use Rattle.k2.specs.PairSets.{Cells, IsSet, union, diagonal}
use Rattle.k2.specs.Trees.{tree_unit, tree_words}
use Rattle.paths.specs.Expressions.{Expr}
use Rattle.paths.specs.Chains.{Graph, asked}
use Rattle.paths.specs.Relations.{crossed_by, zero_steps}
use Rattle.rows.specs.RowSets.{no_pairs, crossed_words}
use Rattle.rows.specs.RowLaws.{none_set, none_tree, union_none}
use Rattle.packing.specs.declared.loading.Sense.TheVariants.{Plain}
use Rattle.reader.specs.declared.items.Item.{Item}
use Rattle.reader.specs.declared.items.Item.TheVariants.{Letters, Inverse}
use Rattle.reader.specs.Letters.{letters_in}
use Rattle.reader.specs.Code.{item_of, does}
use Rattle.reader.specs.Running.{operands}
use Rattle.tree.specs.declared.operations.Operation.{Operation}
use Rattle.tree.specs.declared.operations.Operation.TheVariants.{Union}
use Rattle.tree.specs.declared.operations.Operand.{Operand}
use Rattle.tree.specs.Inner.{nothing, tree_alone, flipped, valued, outcome, Room as Spaces, Lent, term_set, TreeAt, Operated}
use Rattle.tree.specs.InnerLaws.{valued_flipped, valued_alone, valued_nothing, term-set}
use Rattle.query.specs.Evaluation.{relations, Ready, Lettered}
use Rattle.query.proofs.EvaluationLaws.{height_ready}
use Rattle.query.proofs.LetterLaws.{links_below, letters_crossed, zero_used, used-below}
use Rattle.pairs.specs.declared.Stack.{Stack}
use Rattle.pairs.specs.declared.Taken.{Taken}
use Rattle.pairs.specs.Evaluation.{Holding, letters_operand, pushed, turned, on_top, below_top, taken_none, taken_one, taken_two, Standing, Waiting}
use Rattle.pairs.specs.Evaluation.{Totals, Placed, Room}
use Rattle.pairs.specs.EvaluationLaws.{Unary, Binary, unary_one, binary_two, does_letters, does_inverse, does_one, does_two, standing_top, standing_kept}
use Rattle.pairs.specs.EvaluationLaws.{standing_put, waits_next}
use Rattle.pairs.specs.RoomLaws.{placed_put, room_next, totals_below, totals_most}
use Rattle.pairs.specs.Steps.{Taking, Takes, Goes}

-- ---- work with a part of it, from a word on, changed
module _ (work part : List ℕ) (start : ℕ) (h : start ≤ length work) where
  abbrev changed : List ℕ
  changed = put_mid start (length work - start) work part

  front : take start changed ≡ take start work
  front = take_put start (length work - start) work part h

  back : drop start changed ≡ part
  back =
      drop_at (take start work) (part ++ drop (length work - start) (drop start work)) start (length-take-le start work h)
      ∙ ap (λ (l : List ℕ). part ++ l) (drop-drop (length work - start) start work
      ∙ ap (λ (k : ℕ). drop k work) (let e : start + (length work - start) ≡ length work = omega arith in e) ∙ drop-length work)
      ∙ append-nil part

-- a list's first words, as many as another has
long_as : (r : ℕ) (l xs : List ℕ) → r ≤ length l → take r l ≡ xs → r ≡ length xs
long_as r l xs h e = sym (length-take-le r l h) ∙ ap length e

-- ---- where the operands lie
product_le : (k m d : ℕ) → k ≤ m → k * d ≤ m * d
product_le k m d h = mul-le-mul_right d h

-- the trees of the operands below the top end early enough to leave room for the value
pub starts_early : {d k at : ℕ} {os : List Operand} → Totals d os k at → k ≤ 18 → at ≤ 18 * d
starts_early {d} {k} t h = omega (arith, totals_most t, product_le k 18 d h)

-- ---- the operands taken off
module _ {d : ℕ} {y : Item} {S : Stack} (P : Placed d S) (Q : Ready y S.count) where
  -- letters take none
  pub takes_letters : (forward against : ℕ) → y ≡ Letters forward against → Takes d y S (taken_none (letters_operand forward against) S)
  takes_letters forward against e =
      let o : operands y ≡ 0 = ap operands e in
      record { below = omega arith; totals = P.totals; first = omega arith; second = omega arith; taking = taken }
    where
      taken : (g : Graph) (ws work : List ℕ) (u : ℕ → ℕ) (st : List Cells) → diagonal u ≡ zero_steps g
          → ((f a : ℕ) → crossed_words ws f a ≡ crossed_by g (letters_in f a)) → Standing g.n ws work S.operands S.count S.end st
          → Taking g ws work u y S (taken_none (letters_operand forward against) S) st
      taken g ws work u st z l s = record {
        a = no_pairs;
        b = no_pairs;
        others = st;
        first = none_set g.n;
        second = none_set g.n;
        front = none_tree g.n;
        behind = none_tree g.n;
        stand = s;
        does = ap (λ (i : Item). does (relations g) i st) e ∙ does_letters g forward against st ∙ ap (λ (x : Cells). x ∷ st)
            (sym (ap₂ union (valued_nothing ws) (union_none (crossed_words ws forward against))
            ∙ union_none (crossed_words ws forward against) ∙ l forward against));
      }

  module _ (some : 1 ≤ operands y) where
    top_totals : ((on_top S).size ≤ S.end) × ((on_top S).size ≤ d) × Totals d S.operands (S.count - 1) (S.end - (on_top S).size)
    top_totals = totals_below P.totals (S.count - 1) (omega (arith, Q.found))

    -- what an operator on one operand asks
    pub has_one : Holding 1 S
    has_one = record { some = omega (arith, Q.found); few = Q.few; slots = P.slots; top = top_totals.0 }

    -- the same of the operand on top, read with the other sense
    pub has_turned : Holding 1 (turned S)
    has_turned =
        let h = has_one in
        record {
          some = h.some;
          few = h.few;
          slots = length-set S.operands (S.count - 1) (flipped (on_top S)) ∙ h.slots;
          top = rw (get_or-set_same S.operands (S.count - 1) (flipped (on_top S)) nothing (omega arith)) h.top;
        }

  -- `^`
  pub takes_inverse : y ≡ Inverse → Takes d y S (taken_one Union (turned S))
  takes_inverse e =
      let o : operands y ≡ 1 = ap operands e in
      let t = top_totals (omega arith) in
      let h = has_one (omega arith) in
      subst (λ (o : Operand). Takes d y S (record {
        term = record { operation = Union; first = nothing; second = o };
        start = S.end - o.size;
        below = S.count - 1;
      }))
      (sym (get_or-set_same S.operands (S.count - 1) (flipped (on_top S)) nothing (omega arith)))
      (record { below = omega arith; totals = t.2; first = omega arith; second = t.1; taking = taken h.some })
    where
      taken : 1 ≤ S.count → (g : Graph) (ws work : List ℕ) (u : ℕ → ℕ) (st : List Cells) → diagonal u ≡ zero_steps g
          → ((f a : ℕ) → crossed_words ws f a ≡ crossed_by g (letters_in f a)) → Standing g.n ws work S.operands S.count S.end st
          → Taking g ws work u y S (record {
            term = record { operation = Union; first = nothing; second = flipped (on_top S) };
            start = S.end - (on_top S).size;
            below = S.count - 1;
          }) st
      taken h g ws work u st z l s =
          let T = standing_top s (S.count - 1) (omega arith) in
          record {
            a = no_pairs;
            b = T.a;
            others = T.others;
            first = none_set g.n;
            second = T.set;
            front = none_tree g.n;
            behind = T.tree;
            stand = T.below;
            does =
                ap₂ (λ (i : Item) (x : List Cells). does (relations g) i x) e T.is
                ∙ (does_inverse g (valued ws (on_top S) T.a) T.others ∙ ap (λ (x : Cells). x ∷ T.others)
                (sym (valued_flipped ws (on_top S) T.a) ∙ sym (union_none _)
                ∙ ap (λ (x : Cells). union x (valued ws (flipped (on_top S)) T.a)) (sym (valued_nothing ws))));
          }

  -- an operator on one operand
  pub takes_one : {k : Operation} → Unary y k → Takes d y S (taken_one k S)
  takes_one {k} U =
      let o = unary_one U in
      let t = top_totals (omega arith) in
      let h = has_one (omega arith) in
      record { below = omega arith; totals = t.2; first = omega arith; second = t.1; taking = taken h.some }
    where
      taken : 1 ≤ S.count → (g : Graph) (ws work : List ℕ) (u : ℕ → ℕ) (st : List Cells) → diagonal u ≡ zero_steps g
          → ((f a : ℕ) → crossed_words ws f a ≡ crossed_by g (letters_in f a))
          → Standing g.n ws work S.operands S.count S.end st → Taking g ws work u y S (taken_one k S) st
      taken h g ws work u st z l s =
          let T = standing_top s (S.count - 1) (omega arith) in
          record {
            a = no_pairs;
            b = T.a;
            others = T.others;
            first = none_set g.n;
            second = T.set;
            front = none_tree g.n;
            behind = T.tree;
            stand = T.below;
            does = ap (does (relations g) y) T.is ∙ (does_one g u z U (valued ws (on_top S) T.a) T.others
                ∙ ap (λ (x : Cells). outcome k g.n u x (valued ws (on_top S) T.a) ∷ T.others) (sym (valued_nothing ws)));
          }

  -- an operator on two
  module _ {k : Operation} (B : Binary y k) where
    below_totals : ((below_top S).size ≤ S.end - (on_top S).size) × ((below_top S).size ≤ d)
        × Totals d S.operands (S.count - 1 - 1) (S.end - (on_top S).size - (below_top S).size)
    below_totals = let o = binary_two B in totals_below (top_totals (omega arith)).2 (S.count - 1 - 1) (omega (arith, Q.found))

    pub has_two : Holding 2 S × ((below_top S).size ≤ S.end - (on_top S).size)
    has_two =
        let o = binary_two B in
        (record { some = omega (arith, Q.found); few = Q.few; slots = P.slots; top = (top_totals (omega arith)).0 }, below_totals.0)

    pub takes_two : Takes d y S (taken_two k S)
    takes_two =
        let o = binary_two B in
        let h = has_two in
        let t = top_totals (omega arith) in
        let t' = below_totals in
        record { below = omega arith; totals = t'.2; first = t'.1; second = t.1; taking = taken h.0.some }
      where
        taken : 2 ≤ S.count → (g : Graph) (ws work : List ℕ) (u : ℕ → ℕ) (st : List Cells) → diagonal u ≡ zero_steps g
            → ((f a : ℕ) → crossed_words ws f a ≡ crossed_by g (letters_in f a))
            → Standing g.n ws work S.operands S.count S.end st → Taking g ws work u y S (taken_two k S) st
        taken n g ws work u st z l s =
            let T = standing_top s (S.count - 1) (omega arith) in
            let U = standing_top T.below (S.count - 1 - 1) (omega arith) in
            let q : S.end - (on_top S).size - (below_top S).size + (below_top S).size ≡ S.end - (on_top S).size = let w = U.within in omega arith in
            record {
              a = U.a;
              b = T.a;
              others = U.others;
              first = U.set;
              second = T.set;
              front = U.tree;
              behind =
                  ap (take (on_top S).size) (drop-drop (below_top S).size (S.end - (on_top S).size - (below_top S).size) work ∙ ap (λ (i : ℕ). drop i work) q)
                  ∙ T.tree;
              stand = U.below;
              does = ap (does (relations g) y) (T.is ∙ ap (λ (x : List Cells). valued ws (on_top S) T.a ∷ x) U.is)
                  ∙ does_two g u z B (valued ws (below_top S) U.a) (valued ws (on_top S) T.a) U.others;
            }

-- few operands stay
pub takes_early : {d : ℕ} {y : Item} {S : Stack} {q : Taken} → Ready y S.count → Takes d y S q → q.below ≤ 18
takes_early Q T = omega (arith, Q.room, T.below)

-- ---- letters
module _ (n forward against : ℕ) (ws used work : List ℕ) (S : Stack) where
  abbrev letters : Operand
  letters = letters_operand forward against

  letters_room : (i : ℕ) (c : List ℕ) → item_of i ≡ Letters forward against
      → Room (tree_unit n) (i ∷ c) S → Room (tree_unit n) c (pushed letters S.count S.end S)
  letters_room i c e R =
      let o : operands (item_of i) ≡ 0 = ap operands e in
      let z : S.end + 0 ≡ S.end = omega arith in
      room_next R (subst (λ (j : ℕ). Placed (tree_unit n) (pushed letters S.count j S)) z
      (placed_put S.end S.count letters R.placed R.placed.totals (omega arith) (let q =
      height_ready R.height in omega (arith, q.room)))) (omega arith)

  letters_waits : (b : Book) → Lettered b n ws (bit_at used) → (e : Expr) (i : ℕ) (c : List ℕ) (st : List Cells)
      → item_of i ≡ Letters forward against → length S.operands ≡ 19 → S.count < 19
      → Waiting (asked b) e (i ∷ c) ws work S st → (st' : List Cells) × Waiting (asked b) e c ws work (pushed letters S.count S.end S) st'
  unfolding asked
  letters_waits b L e i c st is k m w =
      let g : Graph = asked b in
      let v : valued ws letters no_pairs ≡ crossed_by g (letters_in forward against) =
      union_none (crossed_words ws forward against) ∙ letters_crossed b n ws (bit_at used) L forward against in
      let z : S.end + 0 ≡ S.end = omega arith in (
        valued ws letters no_pairs ∷ st,
        waits_next (valued ws letters no_pairs ∷ st) w
            (ap (λ (y : Item). does (relations g) y st) is ∙ does_letters g forward against st ∙ ap (λ (a : Cells). a ∷ st) (sym v))
            (subst (λ (j : ℕ). Standing b.n ws work (set S.operands S.count letters) (S.count + 1) j (valued ws letters no_pairs ∷ st)) z
            (standing_put b.n ws work S.operands S.count S.end letters no_pairs st w.stand
            (omega arith) (none_set b.n) (none_tree b.n) (ap length (none_tree b.n)))),
      )

  pub goes_letters : length S.operands ≡ 19 → S.count < 19 → Goes n ws used (Letters forward against) work work S (pushed letters S.count S.end S)
  goes_letters k m = record { room = letters_room; waits = λ b L e i c st is w. letters_waits b L e i c st is k m w }

-- ---- `^`
module _ (n : ℕ) (ws used work : List ℕ) (S : Stack) where
  abbrev top : ℕ
  top = S.count - 1

  module _ (some : 1 ≤ S.count) (within : (on_top S).size ≤ S.end) where
    one_more : top + 1 ≡ S.count
    one_more = omega arith

    same_end : S.end - (on_top S).size + (on_top S).size ≡ S.end
    same_end = omega arith

    turned_placed : {d : ℕ} → Placed d (record {
      operands = set S.operands top (flipped (on_top S));
      count = top + 1;
      end = S.end - (on_top S).size + (on_top S).size;
    }) → Placed d (turned S)
    turned_placed {d} P =
        subst (λ (i : ℕ). Placed d (record { operands = set S.operands top (flipped (on_top S)); count = i; end = S.end })) one_more
        (subst (λ (i : ℕ). Placed d (record { operands = set S.operands top (flipped (on_top S)); count = top + 1; end = i })) same_end P)

    turned_stands : {m : ℕ} {st : List Cells}
        → Standing m ws work (set S.operands top (flipped (on_top S))) (top + 1) (S.end - (on_top S).size + (on_top S).size) st
        → Standing m ws work (set S.operands top (flipped (on_top S))) S.count S.end st
    turned_stands {m} {st} s =
        subst (λ (i : ℕ). Standing m ws work (set S.operands top (flipped (on_top S))) i S.end st) one_more
        (subst (λ (i : ℕ). Standing m ws work (set S.operands top (flipped (on_top S))) (top + 1) i st) same_end s)

  inverse_room : (i : ℕ) (c : List ℕ) → item_of i ≡ Inverse → Room (tree_unit n) (i ∷ c) S → Room (tree_unit n) c (turned S)
  inverse_room i c e R =
      let o : operands (item_of i) ≡ 1 = ap operands e in
      let Q = height_ready R.height in
      let h = has_one R.placed Q (omega arith) in
      let t = top_totals R.placed Q (omega arith) in
      room_next R (turned_placed h.some t.0 (placed_put (S.end - (on_top S).size) top (flipped (on_top S)) R.placed t.2 t.1 (omega arith)))
      (omega arith)

  inverse_waits : 1 ≤ S.count → S.count ≤ 19 → length S.operands ≡ 19
      → (b : Book) (e : Expr) (i : ℕ) (c : List ℕ) (st : List Cells) → item_of i ≡ Inverse → Waiting (asked b) e (i ∷ c) ws work S st
      → (st' : List Cells) × Waiting (asked b) e c ws work (turned S) st'
  unfolding asked
  inverse_waits some few slots b e i c st is w =
      let g : Graph = asked b in
      let T = standing_top w.stand top (omega arith) in
      let v : Cells = valued ws (flipped (on_top S)) T.a in
      let d : does (relations g) (item_of i) st ≡ v ∷ T.others =
      ap₂ (λ (y : Item) (x : List Cells). does (relations g) y x) is T.is
      ∙ (does_inverse g (valued ws (on_top S) T.a) T.others ∙ ap (λ (x : Cells). x ∷ T.others) (sym (valued_flipped ws (on_top S) T.a))) in
      let l : top < length S.operands = omega arith in (
        v ∷ T.others,
        waits_next (v ∷ T.others) w d (turned_stands some T.within
            (standing_put b.n ws work S.operands top (S.end - (on_top S).size)
            (flipped (on_top S)) T.a T.others T.below l T.set T.tree T.long)),
      )

  pub goes_inverse : 1 ≤ S.count → S.count ≤ 19 → length S.operands ≡ 19 → Goes n ws used Inverse work work S (turned S)
  goes_inverse some few slots = record { room = inverse_room; waits = λ b L e i c st is w. inverse_waits some few slots b e i c st is w }

-- ---- an operator
-- what is lent to the operation
module _ (n : ℕ) (y : Item) (ws used work : List ℕ) (S : Stack) (q : Taken) (T : Takes (tree_unit n) y S q) where
  pub lent : (b : Book) (L : Lettered b n ws (bit_at used)) (st : List Cells) → Standing b.n ws work S.operands S.count S.end st
      → (t : Taking (asked b) ws work (bit_at used) y S q st) × Lent q.term n ws (bit_at used) (drop q.start work) t.a t.b
  unfolding asked
  lent b L st s =
      let t = T.taking (asked b) ws work (bit_at used) st (zero_used b n ws (bit_at used) L) (letters_crossed b n ws (bit_at used) L) s in
      let z = sym L.size in (
        t,
        record {
          first = subst (λ (i : ℕ). IsSet i t.a) z t.first;
          second = subst (λ (i : ℕ). IsSet i t.b) z t.second;
          front = subst (λ (i : ℕ). take q.term.first.size (drop q.start work) ≡ tree_words i t.a) z t.front;
          behind = subst (λ (i : ℕ). take q.term.second.size (drop q.term.first.size (drop q.start work)) ≡ tree_words i t.b) z t.behind;
          links = links_below b n ws (bit_at used) L;
          used = used-below b n ws (bit_at used) L;
        },
      )

module _ (n : ℕ) (y : Item) (ws used work part : List ℕ) (S : Stack) (q : Taken) (r size : ℕ) (small : n ≤ 1024) (wide : 32 * tree_unit n ≤ length work)
    (T : Takes (tree_unit n) y S q) (h : q.start ≤ length work) (few : size ≤ tree_unit n)
    (cut : r ≤ tree_unit n → size ≡ r) (long : length part ≡ length (take (length work - q.start) (drop q.start work)))
    (rows : ℕ) (bits : rows ≡ 16384) (made : Operated q.term n ws used rows (take (length work - q.start) (drop q.start work)) part r)
    (sixteen : length used ≡ 16) (early : q.below ≤ 18) where
  abbrev after : Stack
  after = record { operands = set S.operands q.below (tree_alone size Plain); count = q.below + 1; end = q.start + size }

  O : Operated q.term n ws used 16384 (drop q.start work) part r
  O = subst (λ (l : List ℕ). Operated q.term n ws used 16384 l part r) (rest_whole work q.start)
      (subst (λ (i : ℕ). Operated q.term n ws used i (take (length work - q.start) (drop q.start work)) part r) bits made)

  spaces : Spaces n q.term (length (drop q.start work)) (length used) 16384
  spaces = record {
    trees =
        record { size = small; first = T.first; second = T.second; work = rw (length-drop q.start work) (omega (arith, starts_early T.totals early)) };
    records = sixteen;
    bits = refl;
  }

  operator_room : (i : ℕ) (c : List ℕ) → item_of i ≡ y → Room (tree_unit n) (i ∷ c) S → Room (tree_unit n) c after
  operator_room i c e R =
      let o : operands (item_of i) ≡ operands y = ap operands e in
      let k = T.below in
      room_next R (placed_put q.start q.below (tree_alone size Plain) R.placed T.totals few (omega (arith, early))) (omega arith)

  operator_waits : length S.operands ≡ 19 → (b : Book) → Lettered b n ws (bit_at used)
      → (e : Expr) (i : ℕ) (c : List ℕ) (st : List Cells) → item_of i ≡ y → Waiting (asked b) e (i ∷ c) ws work S st
      → (st' : List Cells) × Waiting (asked b) e c ws (changed work part q.start h) after st'
  unfolding asked
  operator_waits slots b L e i c st is w =
      let m = lent n y ws used work S q T b L st w.stand in
      let t = m.0 in
      let v : Cells = term_set q.term b.n ws (bit_at used) t.a t.b in
      let tree : TreeAt n (term_set q.term n ws (bit_at used) t.a t.b) part r = O.tree spaces t.a t.b m.1 in
      let same : size ≡ r = cut tree.few in
      let words : take size part ≡ tree_words b.n v =
      subst (λ (i : ℕ). take i part ≡ tree_words b.n v) (sym same)
      (subst (λ (i : ℕ). take r part ≡ tree_words i (term_set q.term i ws (bit_at used) t.a t.b)) L.size tree.words) in
      let x : Cells = valued ws (tree_alone size Plain) v in
      let j : q.below < length S.operands = omega (arith, early, slots) in (
        x ∷ t.others,
        waits_next (x ∷ t.others) w (ap (λ (z : Item). does (relations (asked b)) z st) is
            ∙ t.does ∙ ap (λ (z : Cells). z ∷ t.others) (sym (valued_alone ws size Plain v)))
            (standing_put b.n ws (changed work part q.start h) S.operands q.below q.start (tree_alone size Plain) v t.others
            (standing_kept t.stand q.start (omega arith) (front work part q.start h)) j
            (subst (λ (i : ℕ). IsSet i (term_set q.term i ws (bit_at used) t.a t.b)) L.size
            (term-set q.term n ws (bit_at used) _ t.a t.b small (bit_lt used) m.1)) (ap (take size) (back work part q.start h) ∙ words)
            (long_as size part (tree_words b.n v) (omega (arith, O.most, rest_length work q.start, length-drop q.start work)) words)),
      )

  pub goes_operator : length S.operands ≡ 19 → Goes n ws used y work (changed work part q.start h) S after
  goes_operator slots = record { room = operator_room; waits = λ b L e i c st is w. operator_waits slots b L e i c st is w }
