-- Laws of sets of pairs, of the operations on them, and of their pairs as listed words.
--   one_of, bit_small, bit_on, on_bit
--                         numbers that are not 0; a test as a number
--   most_some, some_most, most_bit, most_same, most_none
--                         the largest of the first n values: 1 or more exactly if one of them is
--   union_set, intersection_set, difference_set, product_set, transpose_set, via_set, closure_set, diagonal_set
--                         each operation makes a set of sets
--   product_middle, middle_product
--                         the product holds exactly where a middle record serves
--   leads_on, closure_leads, leads_closure
--                         the closure holds exactly where one or more pairs lead
--   set-in, in_set, set_bit, set_past, set_of_set
--                         the set of a list of pair words has exactly these pairs, and is a set
--   in_listed, listed_in  the listed words are the set's pairs and no others
--   Within m l t          the numbers of l ascend, from m on, and are below t
--   within_rises, within_append, within_length
--                         such numbers ascend; two lists as one; no more members than numbers
--   listed_within, listed_rises, listed_below
--                         the listed words ascend, each once, and are of records below n
--   set_of_listed          the set of the listed words is the set
--   head_same             the first of two equal lists of sets
-- Assumes nothing.
use Rattle.std.specs.Prelude.{◌≡◌, refl, ◌⊎◌, Bool, true, false, List, [], ◌∷◌, ◌++◌, ltb, length}
use Rattle.std.proofs.Common.{sym, ap, ap₂, ◌∙◌, subst, inl, inr, arith, eqb-true, lt-ltb, le-ltb}
use Rattle.std.proofs.Math.Path.{fun_ext}
use Rattle.std.proofs.Math.Logic.{⊎_elim}
use Prim.Native.Nat.{ℕ, zero, suc, ◌+◌, ◌*◌, ◌/◌, ◌%◌, ◌≤◌, ◌<◌, min, max}
use Rattle.std.proofs.Math.Decide.{dec_lt}
use Rattle.std.proofs.Math.Dec.{eqb}
use Rattle.book.specs.Basics.{bit, has, In, here, Rises, ended, rises}
use Rattle.book.proofs.ListLaws.{in_left, in_right, in_either, in_none, in_one}
use Rattle.book.proofs.SetLaws.{eqb_test, has_in, in_has}
use Rattle.k2.specs.PairSets.{Cells, IsSet, pair_word, if_set, row_pairs, rows_pairs, listed, set_of, PairsBelow, union, intersection, difference, transpose}
use Rattle.k2.specs.PairSets.{most, serves, product, OneOrMore, once, more, via, closure, diagonal}

-- ---- numbers that are not 0
pub one_of : (a b : ℕ) → 1 ≤ max a b → (1 ≤ a) ⊎ (1 ≤ b)
one_of zero b h = inr (omega arith)
one_of (suc a) b h = inl (omega arith)

pub bit_small : (b : Bool) → bit b < 2
bit_small true = omega arith
bit_small false = omega arith

pub bit_on : (b : Bool) → 1 ≤ bit b → b ≡ true
bit_on true h = refl
bit_on false h = absurd (omega arith)

pub on_bit : (b : Bool) → b ≡ true → bit b ≡ 1
on_bit b e = rw e

pub most_some : (n : ℕ) (f : ℕ → ℕ) → 1 ≤ most n f → (z : ℕ) × (z < n) × (1 ≤ f z)
unfolding most
most_some zero f h = absurd (omega arith)
most_some (suc n) f h = ⊎_elim
    (λ p. let r = most_some n f p in (r.0, omega (arith, r.1), r.2))
    (λ p. (n, omega arith, p))
    (one_of (most n f) (f n) h)

pub some_most : (n z : ℕ) (f : ℕ → ℕ) → z < n → 1 ≤ f z → 1 ≤ most n f
unfolding most
some_most zero z f h p = absurd (omega arith)
some_most (suc n) z f h p = go (dec_lt z n) (some_most n z f)
  where
    go : Dec (z < n) → (z < n → 1 ≤ f z → 1 ≤ most n f) → 1 ≤ max (most n f) (f n)
    go (yes l) ih = omega (arith, ih l p)
    go (no l) ih = let e : z ≡ n = omega arith in let q : 1 ≤ f n = rw (← e) p in omega arith

pub most_bit : (n : ℕ) (f : ℕ → ℕ) → ((z : ℕ) → f z < 2) → most n f < 2
unfolding most
most_bit zero f h = omega arith
most_bit (suc n) f h = omega (arith, most_bit n f h, h n)

pub most_same : (n : ℕ) (f g : ℕ → ℕ) → ((z : ℕ) → z < n → f z ≡ g z) → most n f ≡ most n g
unfolding most
most_same zero f g e = refl
most_same (suc n) f g e = ap₂ max (most_same n f g (λ z l. e z (omega arith))) (e n (omega arith))

pub most_none : (n : ℕ) (f : ℕ → ℕ) → ((z : ℕ) → z < n → f z ≡ 0) → most n f ≡ 0
unfolding most
most_none zero f h = refl
most_none (suc n) f h = omega (arith, most_none n f (λ z l. h z (omega arith)), h n (omega arith))

-- ---- each operation makes a set of sets
module _ (n : ℕ) (a b : Cells) (A : IsSet n a) (B : IsSet n b) where
  pub union_set : IsSet n (union a b)
  unfolding union
  union_set = record {
    bit = λ x y. omega (arith, A.bit x y, B.bit x y);
    row = λ x y l. omega (arith, A.row x y l, B.row x y l);
    column = λ x y l. omega (arith, A.column x y l, B.column x y l);
  }

  pub intersection_set : IsSet n (intersection a b)
  unfolding intersection
  intersection_set = record {
    bit = λ x y. omega (arith, A.bit x y);
    row = λ x y l. omega (arith, A.row x y l);
    column = λ x y l. omega (arith, A.column x y l);
  }

  pub difference_set : IsSet n (difference a b)
  unfolding difference
  difference_set = record {
    bit = λ x y. omega (arith, A.bit x y);
    row = λ x y l. omega (arith, A.row x y l);
    column = λ x y l. omega (arith, A.column x y l);
  }

  pub product_set : IsSet n (product n a b)
  unfolding product serves
  product_set = record {
    bit = λ x y. most_bit n (serves a b x y) (λ z. omega (arith, A.bit x z));
    row = λ x y l. most_none n (serves a b x y) (λ z h. omega (arith, A.row x z l));
    column = λ x y l. most_none n (serves a b x y) (λ z h. omega (arith, B.column z y l));
  }

module _ (n : ℕ) (a : Cells) (A : IsSet n a) where
  pub transpose_set : IsSet n (transpose a)
  unfolding transpose
  transpose_set = record { bit = λ x y. A.bit y x; row = λ x y l. A.column y x l; column = λ x y l. A.row y x l }

  pub via_set : (k : ℕ) → IsSet n (via k a)
  unfolding via
  via_set k = record {
    bit = λ x y. omega (arith, A.bit x y, A.bit x k);
    row = λ x y l. omega (arith, A.row x y l, A.row x k l);
    column = λ x y l. omega (arith, A.column x y l, A.column k y l);
  }

pub closure_set : (n k : ℕ) (a : Cells) → IsSet n a → IsSet n (closure k a)
unfolding closure
closure_set n zero a A = A
closure_set n (suc k) a A = via_set n (closure k a) (closure_set n k a A) k

pub diagonal_set : (n : ℕ) (f : ℕ → ℕ) → ((x : ℕ) → f x < 2) → ((x : ℕ) → n ≤ x → f x ≡ 0) → IsSet n (diagonal f)
unfolding diagonal
diagonal_set n f b z = record {
  bit = λ x y. omega (arith, b x);
  row = λ x y l. omega (arith, z x l);
  column = λ x y l. go x y l (eqb x y) refl;
}
  where
    go : (x y : ℕ) → n ≤ y → (t : Bool) → eqb x y ≡ t → min (f x) (bit t) ≡ 0
    go x y l false e = omega arith
    go x y l true e = omega (arith, z x (omega (arith, eqb-true x y e)))

-- ---- the product: some middle record serves
module _ (n : ℕ) (a b : Cells) (x y : ℕ) where
  pub product_middle : ((z : ℕ) → a x z < 2) → ((z : ℕ) → b z y < 2) → product n a b x y ≡ 1 → (z : ℕ) × (z < n) × (a x z ≡ 1) × (b z y ≡ 1)
  unfolding product serves
  product_middle A B e =
      let r = most_some n (serves a b x y) (omega arith) in
      (r.0, r.1, omega (arith, r.2, A r.0), omega (arith, r.2, B r.0))

  pub middle_product : ((z : ℕ) → a x z < 2) → (z : ℕ) → z < n → a x z ≡ 1 → b z y ≡ 1 → product n a b x y ≡ 1
  unfolding product serves
  middle_product A z l p q =
      omega (arith, some_most n z (serves a b x y) l (omega arith), most_bit n (serves a b x y) (λ z. omega (arith, A z)))

-- ---- the closure: one or more pairs lead
pub leads_on : {a : Cells} {x z y : ℕ} → OneOrMore a x z → OneOrMore a z y → OneOrMore a x y
leads_on (once e) q = more e q
leads_on (more e p) q = more e (leads_on p q)

-- a pair of `via k a`
via_by : (k : ℕ) (a : Cells) (x y : ℕ) → a x y < 2 → a x k < 2 → a k y < 2 → via k a x y ≡ 1 → (a x y ≡ 1) ⊎ ((a x k ≡ 1) × (a k y ≡ 1))
unfolding via
via_by k a x y p q r e = go (dec_lt 0 (a x y))
  where
    go : Dec (0 < a x y) → (a x y ≡ 1) ⊎ ((a x k ≡ 1) × (a k y ≡ 1))
    go (yes l) = inl (omega arith)
    go (no l) = inr (omega arith, omega arith)

via_old : (k : ℕ) (a : Cells) (x y : ℕ) → a x k < 2 → a x y ≡ 1 → via k a x y ≡ 1
unfolding via
via_old k a x y p e = omega arith

via_new : (k : ℕ) (a : Cells) (x y : ℕ) → a x y < 2 → a x k ≡ 1 → a k y ≡ 1 → via k a x y ≡ 1
unfolding via
via_new k a x y p q r = omega arith

module _ (n : ℕ) (a : Cells) (A : IsSet n a) where
  closure_bit : (k x y : ℕ) → closure k a x y < 2
  closure_bit k x y = (closure_set n k a A).bit x y

  pub closure_leads : (k x y : ℕ) → closure k a x y ≡ 1 → OneOrMore a x y
  unfolding closure
  closure_leads zero x y e = once e
  closure_leads (suc k) x y e =
      ⊎_elim (λ p. closure_leads k x y p) (λ w. leads_on (closure_leads k x k w.0) (closure_leads k k y w.1))
      (via_by k (closure k a) x y (closure_bit k x y) (closure_bit k x k) (closure_bit k k y) e)

  closure_keeps : (k x y : ℕ) → a x y ≡ 1 → closure k a x y ≡ 1
  unfolding closure
  closure_keeps zero x y e = e
  closure_keeps (suc k) x y e = via_old k (closure k a) x y (closure_bit k x k) (closure_keeps k x y e)

  -- it leads on at every middle record below k
  closure_joins : (k z x y : ℕ) → z < k → closure k a x z ≡ 1 → closure k a z y ≡ 1 → closure k a x y ≡ 1
  unfolding closure
  closure_joins zero z x y l p q = absurd (omega arith)
  closure_joins (suc k) z x y l p q =
      go (dec_lt z k) (λ x y. closure_joins k z x y)
      (via_by k Q x z (closure_bit k x z) (closure_bit k x k) (closure_bit k k z) p)
      (via_by k Q z y (closure_bit k z y) (closure_bit k z k) (closure_bit k k y) q)
    where
      Q : Cells
      Q = closure k a

      new : Q x k ≡ 1 → Q k y ≡ 1 → via k Q x y ≡ 1
      new p q = via_new k Q x y (closure_bit k x y) p q

      last : (z ≡ k) → (Q x z ≡ 1) ⊎ ((Q x k ≡ 1) × (Q k z ≡ 1)) → (Q z y ≡ 1) ⊎ ((Q z k ≡ 1) × (Q k y ≡ 1)) → via k Q x y ≡ 1
      last e p q =
          new (⊎_elim (λ h. ap (λ (t : ℕ). Q x t) (sym e) ∙ h) (λ w. w.0) p) (⊎_elim (λ h. ap (λ (t : ℕ). Q t y) (sym e) ∙ h) (λ w. w.1) q)

      go : Dec (z < k) → ((x y : ℕ) → z < k → Q x z ≡ 1 → Q z y ≡ 1 → Q x y ≡ 1)
          → (Q x z ≡ 1) ⊎ ((Q x k ≡ 1) × (Q k z ≡ 1)) → (Q z y ≡ 1) ⊎ ((Q z k ≡ 1) × (Q k y ≡ 1)) → via k Q x y ≡ 1
      go (no d) ih p q = last (omega arith) p q
      go (yes d) ih (inl p) (inl q) = via_old k Q x y (closure_bit k x k) (ih x y d p q)
      go (yes d) ih (inl p) (inr w) = new (ih x k d p w.0) w.1
      go (yes d) ih (inr w) (inl q) = new w.0 (ih k y d w.1 q)
      go (yes d) ih (inr w) (inr v) = new w.0 v.1

  pub leads_closure : {x y : ℕ} → OneOrMore a x y → closure n a x y ≡ 1
  leads_closure {x} {y} (once e) = closure_keeps n x y e
  leads_closure {x} {y} (more {z = z} e p) = closure_joins n z x y (inside (dec_lt z n)) (closure_keeps n x z e) (leads_closure p)
    where
      inside : Dec (z < n) → z < n
      inside (yes l) = l
      inside (no l) = absurd (omega (arith, A.column x z (omega arith)))

-- ---- the set of a list of pair words
module _ (ps : List ℕ) (x y : ℕ) where
  pub set-in : 1 ≤ set_of ps x y → In (pair_word x y) ps
  unfolding set_of
  set-in h = has_in eqb_test (pair_word x y) ps (bit_on (has eqb (pair_word x y) ps) (omega arith))

  pub in_set : y < 1024 → In (pair_word x y) ps → set_of ps x y ≡ 1
  unfolding set_of
  in_set l h = rw (lt-ltb y 1024 l, in_has eqb_test (pair_word x y) ps h)

  pub set_bit : set_of ps x y < 2
  unfolding set_of
  set_bit = omega (arith, bit_small (ltb y 1024))

  pub set_past : 1024 ≤ y → set_of ps x y ≡ 0
  unfolding set_of
  set_past l = rw (le-ltb y 1024 l) (omega arith)

pub set_of_set : (n : ℕ) (ps : List ℕ) → n ≤ 1024 → PairsBelow n ps → IsSet n (set_of ps)
set_of_set n ps nl b = record {
  bit = set_bit ps;
  row = λ x y l. go x y (λ p q. omega (arith, p)) (dec_lt y 1024) (dec_lt 0 (set_of ps x y));
  column = λ x y l. go x y (λ p q. omega (arith, q)) (dec_lt y 1024) (dec_lt 0 (set_of ps x y));
}
  where
    go : (x y : ℕ) → (x < n → y < n → ⊥) → Dec (y < 1024) → Dec (0 < set_of ps x y) → set_of ps x y ≡ 0
    go x y out (no c) d = set_past ps x y (omega arith)
    go x y out (yes c) (no d) = omega arith
    go x y out (yes c) (yes d) =
        let r = b (pair_word x y) (set-in ps x y (omega arith)) in
        let p : pair_word x y / 1024 ≡ x = omega arith in
        let q : pair_word x y % 1024 ≡ y = omega arith in
        absurd (out (omega (arith, r.0)) (omega (arith, r.1)))

-- ---- the words of a set's pairs
in_if : {w : ℕ} (v p : ℕ) → In w (if_set v p) → (1 ≤ v) × (w ≡ p)
in_if zero p h = absurd (in_none h refl)
in_if (suc v) p h = (omega arith, in_one h refl)

if_in : (v p : ℕ) → 1 ≤ v → In p (if_set v p)
if_in zero p h = absurd (omega arith)
if_in (suc v) p h = here

in_row : {w : ℕ} (a : Cells) (x m : ℕ) → In w (row_pairs a x m) → (y : ℕ) × (y < m) × (1 ≤ a x y) × (w ≡ pair_word x y)
unfolding row_pairs
in_row {w = w} a x zero h = absurd (in_none h refl)
in_row {w = w} a x (suc m) h = ⊎_elim
    (λ (p : In w (row_pairs a x m)). let r : ((y : ℕ) × (y < m) × (1 ≤ a x y) × (w ≡ pair_word x y)) = in_row {w = w} a x m p in
    (r.0, omega (arith, r.1), r.2, r.3))
    (λ p. let r = in_if (a x m) (pair_word x m) p in (m, omega arith, r.0, r.1))
    (in_either (row_pairs a x m) (if_set (a x m) (pair_word x m)) h)

row_in : (a : Cells) (x m y : ℕ) → y < m → 1 ≤ a x y → In (pair_word x y) (row_pairs a x m)
unfolding row_pairs
row_in a x zero y l h = absurd (omega arith)
row_in a x (suc m) y l h = go (dec_lt y m) (row_in a x m y)
  where
    go : Dec (y < m) → (y < m → 1 ≤ a x y → In (pair_word x y) (row_pairs a x m)) → In (pair_word x y) (row_pairs a x m ++ if_set (a x m) (pair_word x m))
    go (yes k) ih = in_left (if_set (a x m) (pair_word x m)) (ih k h)
    go (no k) ih =
        let e : y ≡ m = omega arith in
        in_right (row_pairs a x m) (subst (λ (v : ℕ). In (pair_word x y) (if_set (a x v) (pair_word x v))) e (if_in (a x y) (pair_word x y) h))

in_rows : {w : ℕ} (a : Cells) (n m : ℕ) → In w (rows_pairs a n m) → (x y : ℕ) × (x < m) × (y < n) × (1 ≤ a x y) × (w ≡ pair_word x y)
unfolding rows_pairs
in_rows {w = w} a n zero h = absurd (in_none h refl)
in_rows {w = w} a n (suc m) h = ⊎_elim
    (λ (p : In w (rows_pairs a n m)). let r : ((x y : ℕ) × (x < m) × (y < n) × (1 ≤ a x y) × (w ≡ pair_word x y)) = in_rows {w = w} a n m p in
    (r.0, r.1, omega (arith, r.2), r.3, r.4, r.5))
    (λ p. let r = in_row a m n p in (m, r.0, omega arith, r.1, r.2, r.3))
    (in_either (rows_pairs a n m) (row_pairs a m n) h)

rows_in : (a : Cells) (n m x y : ℕ) → x < m → y < n → 1 ≤ a x y → In (pair_word x y) (rows_pairs a n m)
unfolding rows_pairs
rows_in a n zero x y l k h = absurd (omega arith)
rows_in a n (suc m) x y l k h = go (dec_lt x m) (rows_in a n m x y)
  where
    go : Dec (x < m) → (x < m → y < n → 1 ≤ a x y → In (pair_word x y) (rows_pairs a n m)) → In (pair_word x y) (rows_pairs a n m ++ row_pairs a m n)
    go (yes q) ih = in_left (row_pairs a m n) (ih q k h)
    go (no q) ih =
        let e : x ≡ m = omega arith in
        in_right (rows_pairs a n m) (subst (λ (v : ℕ). In (pair_word x y) (row_pairs a v n)) e (row_in a x n y k h))

-- they are the pairs, and no others
pub in_listed : {w : ℕ} (n : ℕ) (a : Cells) → In w (listed n a) → (x y : ℕ) × (x < n) × (y < n) × (1 ≤ a x y) × (w ≡ pair_word x y)
unfolding listed
in_listed n a h = in_rows a n n h

pub listed_in : (n : ℕ) (a : Cells) (x y : ℕ) → x < n → y < n → 1 ≤ a x y → In (pair_word x y) (listed n a)
unfolding listed
listed_in n a x y l k h = rows_in a n n x y l k h

pub data Within : ℕ → List ℕ → ℕ → Type 0 where
  ends : {m t : ℕ} → m ≤ t → Within m [] t
  goes : {m w t : ℕ} {l : List ℕ} → m ≤ w → Within (suc w) l t → Within m (w ∷ l) t

pub within_rises : {m t : ℕ} {l : List ℕ} → Within m l t → Rises m l
within_rises (ends h) = ended
within_rises (goes h r) = rises h (within_rises r)

within_from : {m k t : ℕ} {l : List ℕ} → k ≤ m → Within m l t → Within k l t
within_from {m} {k} {t} h (ends g) = ends {m = k} {t = t} (omega arith)
within_from {m} {k} {t} h (goes {w = w} g r) = goes {m = k} {w = w} (omega arith) r

within_to : {m t u : ℕ} {l : List ℕ} → t ≤ u → Within m l t → Within m l u
within_to {m} {t} {u} h (ends g) = ends {m = m} {t = u} (omega arith)
within_to h (goes g r) = goes g (within_to h r)

pub within_append : {m t u : ℕ} {l k : List ℕ} → Within m l t → Within t k u → Within m (l ++ k) u
within_append (ends h) r = within_from h r
within_append (goes h q) r = goes h (within_append q r)

-- no more members than numbers
pub within_length : {m t : ℕ} {l : List ℕ} → Within m l t → length l + m ≤ t
within_length (ends h) = omega arith
within_length (goes {m = m} {w = w} h r) = omega (arith, within_length r)

if_within : (v w : ℕ) → Within w (if_set v w) (suc w)
if_within zero w = ends {m = w} {t = suc w} (omega arith)
if_within (suc v) w = goes {m = w} {w = w} (omega arith) (ends {m = suc w} {t = suc w} (omega arith))

row_within : (a : Cells) (x m : ℕ) → Within (x * 1024) (row_pairs a x m) (x * 1024 + m)
unfolding row_pairs
row_within a x zero = ends {m = x * 1024} {t = x * 1024 + 0} (omega arith)
row_within a x (suc m) =
    let e : suc (x * 1024 + m) ≡ x * 1024 + suc m = omega arith in
    within_append (row_within a x m) (subst (λ (v : ℕ). Within (pair_word x m) (if_set (a x m) (pair_word x m)) v) e (if_within (a x m) (pair_word x m)))

rows_within : (a : Cells) (n m : ℕ) → n ≤ 1024 → Within 0 (rows_pairs a n m) (m * 1024)
unfolding rows_pairs
rows_within a n zero h = ends {m = 0} {t = 0} (omega arith)
rows_within a n (suc m) h =
    let e : m * 1024 + n ≤ suc m * 1024 = omega arith in
    within_append (rows_within a n m h) (within_to e (row_within a m n))

pub listed_within : (n : ℕ) (a : Cells) → n ≤ 1024 → Within 0 (listed n a) (n * 1024)
unfolding listed
listed_within n a h = rows_within a n n h

-- they ascend, so that each pair stands once
pub listed_rises : (n : ℕ) (a : Cells) → n ≤ 1024 → Rises 0 (listed n a)
listed_rises n a h = within_rises (listed_within n a h)

pub listed_below : (n : ℕ) (a : Cells) → n ≤ 1024 → PairsBelow n (listed n a)
listed_below n a nl w h =
    let r = in_listed n a h in
    let k : r.1 < n = r.3 in
    let e : w ≡ r.0 * 1024 + r.1 = r.5 in
    (omega (arith, r.2), omega arith)

-- the set of the listed words is the set
pub set_of_listed : (n : ℕ) (a : Cells) → n ≤ 1024 → IsSet n a → set_of (listed n a) ≡ a
set_of_listed n a nl A = fun_ext (λ x. fun_ext (λ y. go x y (dec_lt 0 (a x y)) (dec_lt 0 (set_of (listed n a) x y))))
  where
    inside : (x y : ℕ) → 0 < a x y → (x < n) × (y < n)
    inside x y h = (by (dec_lt x n) (λ l. A.row x y l), by (dec_lt y n) (λ l. A.column x y l))
      where
        by : {z : ℕ} → Dec (z < n) → (n ≤ z → a x y ≡ 0) → z < n
        by (yes l) f = l
        by (no l) f = absurd (omega (arith, f (omega arith)))

    same : (x y v w : ℕ) → y < 1024 → w < 1024 → pair_word x y ≡ pair_word v w → 1 ≤ a v w → 0 < a x y
    same x y v w l k e h =
        let p : x ≡ v = omega arith in
        let q : y ≡ w = omega arith in
        rw (p, q) h

    back : (x y : ℕ) → 0 < set_of (listed n a) x y → 0 < a x y
    back x y h =
        let r = in_listed n a (set-in (listed n a) x y (omega arith)) in
        same x y r.0 r.1 (column (dec_lt y 1024)) (omega (arith, r.3)) r.5 r.4
      where
        column : Dec (y < 1024) → y < 1024
        column (yes l) = l
        column (no l) = absurd (omega (arith, set_past (listed n a) x y (omega arith)))

    go : (x y : ℕ) → Dec (0 < a x y) → Dec (0 < set_of (listed n a) x y) → set_of (listed n a) x y ≡ a x y
    go x y (yes h) d =
        let i = inside x y h in
        in_set (listed n a) x y (omega (arith, i.1)) (listed_in n a x y i.0 i.1 h) ∙ omega (arith, A.bit x y)
    go x y (no h) (yes d) = absurd (h (back x y d))
    go x y (no h) (no d) = omega arith

-- the first of a list of sets
pub head_same : {a b : Cells} {l j : List Cells} → a ∷ l ≡ b ∷ j → a ≡ b
head_same e = cc
