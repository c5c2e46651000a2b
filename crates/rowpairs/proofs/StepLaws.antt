-- One number of the code, in plain variables: where relations lie in the work, and what an item does to those that wait.
--   start_le, mark_le, space, list_space
--                      what an item and the list are lent: at most 18 relations stand before, and there is room
--   first-kept         the first relation is as it was if its words and masks are
--   goes_step          what the operation left at the front of the parts is the relation at the place of its first operand, and those below stay as they were
--   lent_space, goes_part
--                      the same with the words of a row as a number, and the parts as they are lent
-- Assumes nothing.
use mathlib.Core.Path.{◌≡◌, refl, sym, ap, ap₂, ◌∙◌, subst}
use mathlib.Core.List.{List, ◌∷◌, ◌++◌, append-nil}
use Prim.Native.Nat.{ℕ, zero, suc, ◌+◌, ◌-◌, ◌*◌, ◌/◌, ◌%◌, ◌<◌, ◌≤◌, min}
use native.Mathlib.Nat.{mul-le-mul_right, suc-mul}
use native.Mathlib.Omega.{arith}
use lib.ListN.{length, take, drop, get_or}
use lib.Seq.{drop_at, drop-drop, length-take-le, drop-length, get_or-take, get_or-drop}
use borrow.Rule.Slice.PartMut.{put_mid, take_put}
use Rattle.book.specs.Book.{Book}
use Rattle.book.proofs.ListLaws.{rest_whole, rest_length}
use Rattle.k2.specs.Bits.{digit}
use Rattle.k2.specs.PairSets.{Cells}
use Rattle.paths.specs.Chains.{Graph, asked}
use Rattle.paths.specs.Questions.{row_width}
use Rattle.reader.specs.declared.items.Item.{Item}
use Rattle.reader.specs.declared.items.Item.TheVariants.{Letters, Inverse, Star, Plus, Optional, Alternative, Sequence}
use Rattle.reader.specs.Code.{does}
use Rattle.reader.specs.Running.{operands}
use Rattle.grid.specs.Grid.{Space, row_of, first_rows, first, second}
use Rattle.grid.specs.GridLaws.{within_same, second_part}
use Rattle.query.specs.Evaluation.{relations}
use Rattle.query.proofs.WorkLaws.{width_le, width_wide}
use Rattle.rowpairs.specs.Evaluation.{Lent, Known, outcome_of, Operates, relation_at, lying, Goes, Held, relation_in}

-- ---- sizes
product_le : (k m d : ℕ) → k ≤ m → k * d ≤ m * d
product_le k m d h = mul-le-mul_right d h

next_le : (k m d : ℕ) → k < m → k * d + d ≤ m * d
next_le k m d h = omega (arith, suc-mul k d, product_le (suc k) m d h)

-- a relation has a row's words at least
width_unit : (n : ℕ) → row_width n ≤ n * row_width n
width_unit zero = omega arith
width_unit (suc n) = omega (arith, suc-mul n (row_width (suc n)))

-- ---- what an item is lent: the part that begins with its operands, of which 18 relations at most stand before
module _ (n k cells masks : ℕ) (L : Lent n (suc k) cells masks) (early : k ≤ 18) where
  pub start_le : k * (n * row_width n) ≤ 18 * (n * row_width n)
  start_le = product_le k 18 (n * row_width n) early

  pub mark_le : k * n ≤ 18 * n
  mark_le = product_le k 18 n early

  pub space : Space n (row_width n) (n + n + 1) (cells - k * (n * row_width n)) (masks - k * n)
  space = record {
    small = L.small;
    narrow = width_le n L.small;
    wide = width_wide n;
    words = omega (arith, start_le, L.words, width_unit n);
    marks = omega (arith, L.marks, suc-mul k n);
  }

-- what the list is lent
pub list_space : (n w cells masks : ℕ) → w ≡ row_width n → Held n cells → n ≤ masks → Space n w n cells masks
list_space n w cells masks e H m = record {
  small = H.small;
  narrow = rw e (width_le n H.small);
  wide = rw e (width_wide n);
  words = rw e H.front;
  marks = m;
}

-- ---- a slice with a part of it, from a place on, changed
module _ (xs part : List ℕ) (start : ℕ) (h : start ≤ length xs) where
  abbrev changed : List ℕ
  changed = put_mid start (length xs - start) xs part

  front : (i : ℕ) → i < start → get_or changed i 0 ≡ get_or xs i 0
  front i l = sym (get_or-take start changed i 0 l) ∙ ap (λ (l : List ℕ). get_or l i 0) (take_put start (length xs - start) xs part h) ∙
      get_or-take start xs i 0 l

  back : drop start changed ≡ part
  back =
      drop_at (take start xs) (part ++ drop (length xs - start) (drop start xs)) start (length-take-le start xs h)
      ∙ ap (λ (l : List ℕ). part ++ l) (drop-drop (length xs - start) start xs ∙ ap (λ (k : ℕ). drop k xs) (let e : start + (length xs - start) ≡ length xs =
      omega arith in e) ∙ drop-length xs)
      ∙ append-nil part

-- ---- relations that lie below what has changed are as they were
pub first-kept : (n : ℕ) (ws ws' ms ms' : List ℕ) → ((i : ℕ) → i < n * row_width n → get_or ws' i 0 ≡ get_or ws i 0)
    → ((i : ℕ) → i < n → get_or ms' i 0 ≡ get_or ms i 0) → relation_in ws' ms' n ≡ relation_in ws ms n
unfolding first_rows row_of
first-kept n ws ws' ms ms' same marks =
    within_same n (first_rows (row_width n) ws' ms') (first_rows (row_width n) ws ms)
    (λ x y a b.
    let c : y / 64 < row_width n = omega (arith, width_wide n) in
    let p : x * row_width n + y / 64 < n * row_width n = omega (arith, next_le x n (row_width n) a) in
    ap₂ (λ (d v : ℕ). min (digit d (y / 64)) (digit v (y % 64))) (marks x a) (same _ p))

module _ (n : ℕ) (ws ws' ms ms' : List ℕ) (k : ℕ) (same : (i : ℕ) → i < k * (n * row_width n) → get_or ws' i 0 ≡ get_or ws i 0)
    (marks : (i : ℕ) → i < k * n → get_or ms' i 0 ≡ get_or ms i 0) where
  relation_kept : (j : ℕ) → j < k → relation_at n ws' ms' j ≡ relation_at n ws ms j
  unfolding relation_at
  relation_kept j h =
      let at : ℕ = j * (n * row_width n) in
      first-kept n (drop at ws) (drop at ws') (drop (j * n) ms) (drop (j * n) ms')
      (λ i a. get_or-drop at ws' i 0 ∙ same (at + i) (omega (arith, next_le j k (n * row_width n) h)) ∙ sym (get_or-drop at ws i 0))
      (λ i a. get_or-drop (j * n) ms' i 0 ∙ marks (j * n + i) (omega (arith, next_le j k n h)) ∙ sym (get_or-drop (j * n) ms i 0))

  lying_kept : (j : ℕ) → j ≤ k → lying n ws' ms' j ≡ lying n ws ms j
  unfolding lying
  lying_kept zero h = refl
  lying_kept (suc j) h = ap₂ (λ (a : Cells) (st : List Cells). a ∷ st) (relation_kept j h) (lying_kept j (omega arith))

-- ---- what an item does to the relations that lie in the work
module _ (n : ℕ) (ws ms : List ℕ) (k : ℕ) where
  -- the second operand is the relation at the next place
  second_at : second n (row_width n) (drop (k * (n * row_width n)) ws) (drop (k * n) ms) ≡ relation_at n ws ms (suc k)
  unfolding relation_at
  second_at =
      sym (second_part n (row_width n) (drop (k * (n * row_width n)) ws) (drop (k * n) ms))
      ∙ ap₂ (λ (l m : List ℕ). first n (row_width n) l m)
      (drop-drop (n * row_width n) (k * (n * row_width n)) ws ∙ ap (λ (i : ℕ). drop i ws) (sym (suc-mul k (n * row_width n))))
      (drop-drop n (k * n) ms ∙ ap (λ (i : ℕ). drop i ms) (sym (suc-mul k n)))

  does_lying : (g : Graph) (y : Item) (m : ℕ) → m ≡ k + operands y
      → does (relations g) y (lying n ws ms m) ≡ outcome_of g y (relation_at n ws ms k) (relation_at n ws ms (suc k)) ∷ lying n ws ms k
  unfolding does relations outcome_of lying
  does_lying g (Letters forward against) m e = ap (λ (i : ℕ). does (relations g) (Letters forward against) (lying n ws ms i)) (let z : m ≡ k = omega arith in z)
  does_lying g Inverse m e = ap (λ (i : ℕ). does (relations g) Inverse (lying n ws ms i)) (let z : m ≡ suc k = omega arith in z)
  does_lying g Star m e = ap (λ (i : ℕ). does (relations g) Star (lying n ws ms i)) (let z : m ≡ suc k = omega arith in z)
  does_lying g Plus m e = ap (λ (i : ℕ). does (relations g) Plus (lying n ws ms i)) (let z : m ≡ suc k = omega arith in z)
  does_lying g Optional m e = ap (λ (i : ℕ). does (relations g) Optional (lying n ws ms i)) (let z : m ≡ suc k = omega arith in z)
  does_lying g Alternative m e = ap (λ (i : ℕ). does (relations g) Alternative (lying n ws ms i)) (let z : m ≡ suc (suc k) = omega arith in z)
  does_lying g Sequence m e = ap (λ (i : ℕ). does (relations g) Sequence (lying n ws ms i)) (let z : m ≡ suc (suc k) = omega arith in z)

-- ---- one number: what the operation left at the front of the parts is the relation at the place of its first operand
module _ (n : ℕ) (links held : List ℕ) (y : Item) (ws part ms marks : List ℕ) (m k : ℕ) (is : m ≡ k + operands y)
    (a : k * (n * row_width n) ≤ length ws) (b : k * n ≤ length ms)
    (made : (book : Book) → Known book n links held → first n (row_width n) part marks
    ≡ outcome_of (asked book) y (first n (row_width n) (drop (k * (n * row_width n)) ws) (drop (k * n) ms))
    (second n (row_width n) (drop (k * (n * row_width n)) ws) (drop (k * n) ms))) where
  abbrev ws' : List ℕ
  ws' = changed ws part (k * (n * row_width n)) a

  abbrev ms' : List ℕ
  ms' = changed ms marks (k * n) b

  at_place : relation_at n ws' ms' k ≡ first n (row_width n) part marks
  unfolding relation_at
  at_place = ap₂ (λ (l m : List ℕ). first n (row_width n) l m) (back ws part (k * (n * row_width n)) a) (back ms marks (k * n) b)

  pub goes_step : Goes n links held y ws ws' ms ms' m (k + 1)
  unfolding lying relation_at
  goes_step = record {
    count = omega arith;
    value = λ book L.
        let g : Graph = asked book in
        let below : lying n ws' ms' k ≡ lying n ws ms k =
        lying_kept n ws ws' ms ms' k (front ws part (k * (n * row_width n)) a) (front ms marks (k * n) b) k (omega arith) in
        let top : relation_at n ws' ms' k ≡ outcome_of g y (relation_at n ws ms k) (relation_at n ws ms (suc k)) =
        at_place ∙ made book L ∙ ap (outcome_of g y (relation_at n ws ms k)) (second_at n ws ms k) in
        let more : k + 1 ≡ suc k = omega arith in
        does_lying n ws ms k g y m is
        ∙ ap₂ (λ (x : Cells) (st : List Cells). x ∷ st) (sym top) (sym below)
        ∙ ap (λ (i : ℕ). lying n ws' ms' i) (sym more);
  }

-- ---- the same with the words of a row as a number, and the parts as they are lent
pub lent_space : (n k w : ℕ) (ws ms : List ℕ) → w ≡ row_width n → Lent n (suc k) (length ws) (length ms) → k ≤ 18
    → Space n w (n + n + 1) (length (take (length ws - k * (n * w)) (drop (k * (n * w)) ws))) (length (take (length ms - k * n) (drop (k * n) ms)))
lent_space n k w ws ms e L h =
    subst (λ (v : ℕ). Space n v (n + n + 1) (length (take (length ws - k * (n * v)) (drop (k * (n * v)) ws)))
    (length (take (length ms - k * n) (drop (k * n) ms)))) (sym e)
    (subst (λ (i : ℕ). Space n (row_width n) (n + n + 1) i (length (take (length ms - k * n) (drop (k * n) ms)))) (sym (rest_length ws (k * (n * row_width n))))
    (subst (λ (i : ℕ). Space n (row_width n) (n + n + 1) (length ws - k * (n * row_width n)) i)
    (sym (rest_length ms (k * n))) (space n k (length ws) (length ms) L h)))

pub goes_part : (n : ℕ) (links held : List ℕ) (y : Item) (ws part ms marks : List ℕ) (m k w : ℕ)
    → w ≡ row_width n → m ≡ k + operands y → Lent n (suc k) (length ws) (length ms) → k ≤ 18
    → Operates n w links held y (take (length ws - k * (n * w)) (drop (k * (n * w)) ws)) part (take (length ms - k * n) (drop (k * n) ms)) marks
    → Goes n links held y ws (put_mid (k * (n * w)) (length ws - k * (n * w)) ws part) ms (put_mid (k * n) (length ms - k * n) ms marks) m (k + 1)
goes_part n links held y ws part ms marks m k w e is L h made =
    subst (λ (v : ℕ). Operates n v links held y (take (length ws - k * (n * v)) (drop (k * (n * v)) ws)) part (take (length ms - k * n) (drop (k * n) ms)) marks
    → Goes n links held y ws (put_mid (k * (n * v)) (length ws - k * (n * v)) ws part)
    ms (put_mid (k * n) (length ms - k * n) ms marks) m (k + 1)) (sym e) whole made
  where
    whole : Operates n (row_width n) links held y (take (length ws - k * (n * row_width n)) (drop (k * (n * row_width n)) ws))
        part (take (length ms - k * n) (drop (k * n) ms)) marks
        → Goes n links held y ws (put_mid (k * (n * row_width n)) (length ws - k * (n * row_width n)) ws part)
        ms (put_mid (k * n) (length ms - k * n) ms marks) m (k + 1)
    whole o =
        goes_step n links held y ws part ms marks m k is
        (omega (arith, start_le n k (length ws) (length ms) L h, L.words)) (omega (arith, L.marks, suc-mul k n))
        (subst (λ (l : List ℕ). Operates n (row_width n) links held y (drop (k * (n * row_width n)) ws) part l marks) (rest_whole ms (k * n))
        (subst (λ (l : List ℕ). Operates n (row_width n) links held y l part (take (length ms - k * n) (drop (k * n) ms)) marks)
        (rest_whole ws (k * (n * row_width n))) o))
