-- The whole code, in plain variables: how it begins, goes on and ends.
--   going_begins   before the first number
--   going_ready, going_more
--                  the next number finds its operands, and one number more is done
--   reading_used, reading_few, reading_ready, reading_more
--                  the same of letters and a `^` after them, read as one
--   going_ends     one relation is left, and it is the value
-- Assumes nothing.
use mathlib.Core.Path.{◌≡◌, sym, ap, ap₂, ◌∙◌, subst, fun_ext}
use mathlib.Core.List.{List, [], ◌∷◌}
use Prim.Native.Nat.{ℕ, zero, suc, ◌+◌, ◌-◌, ◌*◌, ◌<◌, ◌≤◌, max}
use native.Mathlib.Numerals.{add-one}
use native.Mathlib.Omega.{arith}
use lib.ListN.{length, drop, get_or, drop_of_length-le}
use lib.Seq.{drop-cons}
use Rattle.book.specs.Causes.{labels}
use Rattle.k2.specs.PairSets.{Cells, transpose, most}
use Rattle.k2.specs.PairSetLaws.{head_same}
use Rattle.paths.specs.Expressions.{Expr}
use Rattle.paths.specs.Chains.{Graph, asked}
use Rattle.paths.specs.Relations.{crossed_by}
use Rattle.paths.specs.Questions.{row_width}
use Rattle.reader.specs.declared.items.Item.{Item}
use Rattle.reader.specs.declared.items.Item.TheVariants.{Letters, Inverse}
use Rattle.reader.specs.Letters.{letters_in}
use Rattle.reader.specs.Code.{item_of, does, run}
use Rattle.reader.specs.Running.{operands}
use Rattle.grid.specs.Grid.{first}
use Rattle.query.specs.Evaluation.{relations, Ready, Coded, Height}
use Rattle.query.proofs.EvaluationLaws.{coded_value, height_begins, height_ready, height_next}
use Rattle.rowpairs.specs.Evaluation.{relation_at, lying, Goes, Reading, one_number, turned_letters, Going, ValueFirst}
use Rattle.rowpairs.specs.declared.running.Next.{Next}

-- ---- letters and `^`
turned_crossed : (g : Graph) (forward against : ℕ) → transpose (crossed_by g (letters_in forward against)) ≡ crossed_by g (letters_in against forward)
unfolding transpose crossed_by letters_in
turned_crossed g forward against = fun_ext (λ x. fun_ext (λ y. ap (most labels) (fun_ext (λ l. swap _ _))))
  where
    swap : (u v : ℕ) → max u v ≡ max v u
    swap u v = omega arith

turned_does : (g : Graph) (forward against : ℕ) (st : List Cells)
    → does (relations g) Inverse (does (relations g) (Letters forward against) st) ≡ does (relations g) (Letters against forward) st
unfolding does relations
turned_does g forward against st = ap (λ (a : Cells). a ∷ st) (turned_crossed g forward against)

-- ---- the whole code
module _ (n : ℕ) (links marks c : List ℕ) where
  pub going_begins : {s : List ℕ} {e : Expr} → Coded s e c → (ws ms : List ℕ) → Going n links marks c ws ms 0 0
  unfolding lying
  going_begins k ws ms = record { height = height_begins k; few = omega arith; rest = λ b L t f q. coded_value (asked b) q }

  module _ {ws ms : List ℕ} {k : ℕ} (i : ℕ) (h : i < length c) (G : Going n links marks c ws ms k i) where
    next_number : drop i c ≡ get_or c i 0 ∷ drop (suc i) c
    next_number = drop-cons c i 0 h

    next_height : Height (get_or c i 0 ∷ drop (suc i) c) k
    next_height = subst (λ (x : List ℕ). Height x k) next_number G.height

    -- what the next number asks, which is the item y
    pub going_ready : {y : Item} → item_of (get_or c i 0) ≡ y → Ready y k
    going_ready is = subst (λ (z : Item). Ready z k) is (height_ready next_height)

    pub going_more : {y : Item} {ws' ms' : List ℕ} {k' : ℕ} → item_of (get_or c i 0) ≡ y
        → Goes n links marks y ws ws' ms ms' k k' → Going n links marks c ws' ms' k' (i + 1)
    unfolding run
    going_more {y} {ws'} {ms'} {k'} is S = rw add-one (record {
      height = height_next next_height (S.count ∙ ap (λ (z : Item). suc (k - operands z)) (sym is));
      few = omega (arith, G.few, S.count);
      rest = λ b L s e q.
          ap (run (relations (asked b)) (drop (suc i) c)) (sym (S.value b L) ∙ ap (λ (z : Item). does (relations (asked b)) z (lying n ws ms k)) (sym is))
          ∙ ap (λ (x : List ℕ). run (relations (asked b)) x (lying n ws ms k)) (sym next_number)
          ∙ G.rest b L s e q;
    })

    -- some numbers are read, and no more than there are
    pub reading_used : {q : Next} → Reading c i q → (1 ≤ q.used) × (q.used ≤ 2) × (i + q.used ≤ length c)
    reading_used (one_number is) = (omega arith, omega arith, omega arith)
    reading_used (turned_letters is more then) = (omega arith, omega arith, omega arith)

    -- one relation more than there are waits at the most, and no more than numbers have been run
    pub reading_few : {q : Next} → Reading c i q → suc (k - operands q.item) ≤ length c
    reading_few r = omega (arith, G.few)

    pub reading_ready : {q : Next} → Reading c i q → Ready q.item k
    reading_ready (one_number is) = going_ready is
    reading_ready (turned_letters is more then) =
        let r = going_ready is in record { found = r.found; few = r.few; room = r.room }

    pub reading_more : {q : Next} {ws' ms' : List ℕ} {k' : ℕ} → Reading c i q
        → Goes n links marks q.item ws ws' ms ms' k k' → Going n links marks c ws' ms' k' (i + q.used)
    unfolding run
    reading_more (one_number is) S = going_more is S
    reading_more {ws' = ws'} {ms'} {k'} (turned_letters {forward} {against} is more then) S =
        let e : i + 2 ≡ suc (suc i) = omega arith in
        let s : i + 1 ≡ suc i = omega arith in
        let inverse : item_of (get_or c (suc i) 0) ≡ Inverse = subst (λ (j : ℕ). item_of (get_or c j 0) ≡ Inverse) s then in
        let second : drop (suc i) c ≡ get_or c (suc i) 0 ∷ drop (suc (suc i)) c = drop-cons c (suc i) 0 (omega arith) in
        let o : operands (item_of (get_or c i 0)) ≡ 0 = ap operands is in
        let u : operands (item_of (get_or c (suc i) 0)) ≡ 1 = ap operands inverse in
        let H : Height (drop (suc i) c) (suc k) = height_next next_height (omega arith) in
        subst (λ (j : ℕ). Going n links marks c ws' ms' k' j) (sym e) (record {
          height = height_next (subst (λ (x : List ℕ). Height x (suc k)) second H) (S.count ∙ omega arith);
          few = omega (arith, G.few, S.count);
          rest = λ b L s f q.
              let g : Graph = asked b in
              let st : List Cells = lying n ws ms k in
              let done : does (relations g) (item_of (get_or c (suc i) 0)) (does (relations g) (item_of (get_or c i 0)) st) ≡ lying n ws' ms' k' =
              ap₂ (λ (x y : Item). does (relations g) x (does (relations g) y st)) inverse is ∙ turned_does g forward against st ∙ S.value b L in
              ap (run (relations g) (drop (suc (suc i)) c)) (sym done)
              ∙ ap (λ (x : List ℕ). run (relations g) x (does (relations g) (item_of (get_or c i 0)) st)) (sym second)
              ∙ ap (λ (x : List ℕ). run (relations g) x st) (sym next_number)
              ∙ G.rest b L s f q;
        })

  -- one relation is left, and it is the value
  pub going_ends : {ws ms : List ℕ} {k i : ℕ} → length c ≤ i → Going n links marks c ws ms k i → ValueFirst n links marks c ws ms
  unfolding run lying relation_at
  going_ends {ws} {ms} {k} {i} h G =
      record {
        value =
            λ b L s e q. alone k (ap (λ (x : List ℕ). run (relations (asked b)) x (lying n ws ms k)) (sym (drop_of_length-le c {i = i} h)) ∙ G.rest b L s e q);
      }
    where
      tail_same : {x y : Cells} {xs ys : List Cells} → x ∷ xs ≡ y ∷ ys → xs ≡ ys
      tail_same e = cc

      at_first : first n (row_width n) ws ms ≡ relation_at n ws ms 0
      at_first =
          ap₂ (λ (i j : ℕ). first n (row_width n) (drop i ws) (drop j ms)) (let z : 0 ≡ 0 * (n * row_width n) = omega arith in z) (let z : 0 ≡ 0 * n =
          omega arith in z)

      alone : {v : Cells} (k : ℕ) → lying n ws ms k ≡ v ∷ [] → first n (row_width n) ws ms ≡ v
      alone zero e = absurd (let z : ◌≡◌ {A = ℕ} 0 1 = ap length e in omega arith)
      alone (suc zero) e = at_first ∙ head_same e
      alone (suc (suc j)) e = absurd (let z : ◌≡◌ {A = ℕ} (length (lying n ws ms (suc j))) 0 = ap length (tail_same e) in omega arith)
