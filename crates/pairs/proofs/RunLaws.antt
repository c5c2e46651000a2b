-- The whole code, in plain variables: how it begins, goes on and ends with its last number, whose value is left in rows.
--   going_begins, coded_some
--                  before the first number; a code has one
--   going_room, going_ready, going_more
--                  the next number finds its operands and room, and one number more is done
--   going_ends, ends_term
--                  the last number: its value is the expression's set, in rows
-- Assumes nothing.
use mathlib.Core.Path.{◌≡◌, sym, ap, ◌∙◌, subst}
use mathlib.Core.Bool.{Bool}
use mathlib.Core.List.{List, [], ◌∷◌}
use Prim.Native.Nat.{ℕ, suc, ◌+◌, ◌-◌, ◌*◌, ◌<◌, ◌≤◌}
use native.Mathlib.Numerals.{add-one}
use native.Mathlib.Omega.{arith}
use lib.ListN.{length, take, drop, get_or, length-drop, drop_of_length-le}
use lib.Seq.{drop-cons}
use Rattle.book.specs.Book.{Book}
use Rattle.book.proofs.ListLaws.{rest_whole}
use Rattle.k2.specs.Bits.{bit_at}
use Rattle.k2.specs.PairSets.{Cells}
use Rattle.k2.specs.Trees.{tree_unit}
use Rattle.k2.specs.PairSetLaws.{head_same}
use Rattle.paths.specs.Expressions.{Expr}
use Rattle.paths.specs.Chains.{asked}
use Rattle.paths.specs.Relations.{cells}
use Rattle.rows.specs.Rows.{flat}
use Rattle.reader.specs.declared.items.Item.{Item}
use Rattle.reader.specs.Code.{item_of, does, run}
use Rattle.query.specs.Evaluation.{relations, most_waiting, Ready, Coded, Height, Lettered}
use Rattle.query.proofs.EvaluationLaws.{height_begins, height_ready, height_ends}
use Rattle.tree.specs.declared.operations.Operand.{Operand}
use Rattle.tree.specs.Inner.{Room as Spaces, term_set, InRows}
use Rattle.pairs.specs.declared.Stack.{Stack}
use Rattle.pairs.specs.declared.Taken.{Taken}
use Rattle.pairs.specs.Evaluation.{Waiting, Placed, Room}
use Rattle.pairs.specs.EvaluationLaws.{begins}
use Rattle.pairs.specs.RoomLaws.{room_begins}
use Rattle.pairs.specs.Steps.{Takes, Goes, Going, Ends}
use Rattle.pairs.proofs.StepLaws.{starts_early, lent}

-- ---- the whole code
module _ (n : ℕ) (ws used c : List ℕ) where
  pub going_begins : {s : List ℕ} {e : Expr} → Coded s e c → (work : List ℕ) (os : List Operand) → length os ≡ most_waiting
      → Going n ws used c work (record { operands = os; count = 0; end = 0 }) 0
  going_begins k work os l = record {
    room = room_begins (tree_unit n) k os l;
    waits = λ b L t f q. ([], begins (asked b) q ws work os);
  }

  module _ {work : List ℕ} {S : Stack} (i : ℕ) (h : i < length c) (G : Going n ws used c work S i) where
    next_number : drop i c ≡ get_or c i 0 ∷ drop (suc i) c
    next_number = drop-cons c i 0 h

    pub going_room : Room (tree_unit n) (get_or c i 0 ∷ drop (suc i) c) S
    going_room = subst (λ (x : List ℕ). Room (tree_unit n) x S) next_number G.room

    -- what the next number asks, which is the item y
    pub going_ready : {y : Item} → item_of (get_or c i 0) ≡ y → Ready y S.count × Placed (tree_unit n) S
    going_ready is = (subst (λ (z : Item). Ready z S.count) is (height_ready going_room.height), going_room.placed)

    pub going_more : {y : Item} {work' : List ℕ} {S' : Stack} → item_of (get_or c i 0) ≡ y
        → Goes n ws used y work work' S S' → Going n ws used c work' S' (i + 1)
    going_more is g = rw add-one (record {
      room = g.room (get_or c i 0) (drop (suc i) c) is going_room;
      waits =
          λ b L s e q. let w = G.waits b L s e q in
          g.waits b L e (get_or c i 0) (drop (suc i) c) w.0 is (subst (λ (x : List ℕ). Waiting (asked b) e x ws work S w.0) next_number w.1);
    })

  -- a code has a number
  pub coded_some : {s : List ℕ} {e : Expr} → Coded s e c → 1 ≤ length c
  coded_some k = some c (height_begins k)
    where
      some : (c : List ℕ) → Height c 0 → 1 ≤ length c
      some [] H = absurd (omega (arith, height_ends H))
      some (i ∷ c) H = omega arith

  pub going_ends : {y : Item} {work : List ℕ} {S : Stack} {rows : List ℕ} → 1 ≤ length c
      → item_of (get_or c (length c - 1) 0) ≡ y → Going n ws used c work S (length c - 1)
      → Ends n ws used y work S rows
      → (b : Book) → Lettered b n ws (bit_at used) → (s : List ℕ) (e : Expr) → Coded s e c → bit_at rows ≡ flat (cells (asked b) e)
  going_ends {work = work} {S} h is G l b L s e k =
      let w = G.waits b L s e k in
      let z : drop (length c - 1) c ≡ get_or c (length c - 1) 0 ∷ [] =
      next_number (length c - 1) (omega arith) G
      ∙ ap (λ (x : List ℕ). get_or c (length c - 1) 0 ∷ x) (drop_of_length-le c {i = suc (length c - 1)} (omega arith)) in
      l.value b L e (get_or c (length c - 1) 0) w.0 is (subst (λ (x : List ℕ). Waiting (asked b) e x ws work S w.0) z w.1)

-- ---- the last number's value
module _ (n : ℕ) (y : Item) (ws used work before after : List ℕ) (r : Bool) (S : Stack)
    (small : n ≤ 1024) (wide : 32 * tree_unit n ≤ length work) (sixteen : length used ≡ 16)
    (rows : length before ≡ 16384) where
  pub ends_term : (q : Taken) → Takes (tree_unit n) y S q → q.below ≤ 18
      → InRows q.term n ws used (take (length work - q.start) (drop q.start work)) before after r
      → Ends n ws used y work S after
  unfolding run asked
  ends_term q T early made = record { value = value }
    where
      I : InRows q.term n ws used (drop q.start work) before after r
      I = subst (λ (l : List ℕ). InRows q.term n ws used l before after r) (rest_whole work q.start) made

      room : Spaces n q.term (length (drop q.start work)) (length used) (length before)
      room = record {
        trees =
            record {
              size = small;
              first = T.first;
              second = T.second;
              work = rw (length-drop q.start work) (omega (arith, starts_early T.totals early));
            };
        records = sixteen;
        bits = rows;
      }

      value : (b : Book) → Lettered b n ws (bit_at used) → (e : Expr) (i : ℕ) (st : List Cells) → item_of i ≡ y
          → Waiting (asked b) e (i ∷ []) ws work S st → bit_at after ≡ flat (cells (asked b) e)
      value b L e i st is w =
          let m = lent n y ws used work S q T b L st w.stand in
          let t = m.0 in
          let c : term_set q.term b.n ws (bit_at used) t.a t.b ≡ cells (asked b) e =
          head_same (sym (ap (λ (z : Item). does (relations (asked b)) z st) is ∙ t.does) ∙ w.rest) in
          I.rows room t.a t.b m.1 ∙ ap flat (ap (λ (i : ℕ). term_set q.term i ws (bit_at used) t.a t.b) L.size ∙ c)
