-- Laws of rows, of the operations on sets, and of the pairs of link words.
--   flat_at        a row's bits are the set's cells
--   flat_none, none_set, union_none, union_right, transpose_none, none_tree
--                  the set with no pair, under each operation
--   union_join, union_swap, transpose_union, transpose_twice
--                  the algebra of unions and transposes
--   flat_intersection, flat_difference
--                  the rows of an intersection and of a difference, bit by bit
--   pair_links, labelled_none, set_none
--                  pair words read as links are their own; no label, no words; no words, no pairs
--   crossed_none, crossed_turned, crossed_pairs, crossed_set, crossed_all
--                  one step over link words: by no label, with the senses exchanged, over pair words as they are; it makes a set; over all of them
--   length-places, places_gap
--                  there are no more places than numbers below the bound; places over a gap are those before it
--   pairs-in       rows of a set hold its pairs
-- Assumes nothing.
use Rattle.std.specs.Prelude.{◌≡◌, Bool, true, false, eqb, length, take}
use Rattle.std.proofs.Math.Path.{refl, sym, ap, fun_ext}
use Rattle.std.proofs.Common.{ap₂, ◌∙◌, add-zero, add-suc, mod-eq_of_lt, length-append}
use mathlib.Core.List.{List, [], ◌∷◌, ◌++◌, map, append-nil, append_assoc}
use Prim.Native.Nat.{ℕ, zero, suc, ◌+◌, ◌-◌, ◌*◌, ◌/◌, ◌%◌, ◌≤◌, ◌<◌}
use native.Mathlib.Omega.{arith}
use Rattle.std.proofs.Math.Seq.{take-length}
use Rattle.book.specs.Basics.{pick, has, In, here, there}
use Rattle.k2.specs.Bits.{digit, bit_at}
use Rattle.k2.specs.DigitLaws.{digit_none}
use Rattle.k2.specs.PairSets.{Cells, IsSet, if_set, row_pairs, rows_pairs, listed, set_of, union, intersection, difference, transpose, PairsBelow}
use Rattle.k2.specs.PairSetLaws.{union_set, transpose_set, set_of_set}
use Rattle.k2.specs.Trees.{tree_words}
use Rattle.k2.specs.TreeLaws.{tree_words_none}
use Rattle.bits.specs.BitSets.{none, both, minus, Gap}
use Rattle.rows.specs.Rows.{flat, places}
use Rattle.rows.specs.RowSets.{no_pairs, labelled, crossed_words, pairs_in}
use Rattle.links.specs.Parts.{link_pair}

pub flat_at : (a : Cells) (x y : ℕ) → y < 1024 → flat a (x * 1024 + y) ≡ a x y
unfolding flat
flat_at a x y l =
    let p : (x * 1024 + y) / 1024 ≡ x = omega arith in
    let q : (x * 1024 + y) % 1024 ≡ y = omega arith in
    rw (p, q)

-- ---- no pair
pub flat_none : flat no_pairs ≡ none
unfolding flat no_pairs none
flat_none = refl

pub none_set : (n : ℕ) → IsSet n no_pairs
unfolding no_pairs
none_set n = record { bit = λ x y. omega arith; row = λ x y l. refl; column = λ x y l. refl }

pub union_none : (a : Cells) → union no_pairs a ≡ a
unfolding union no_pairs
union_none a = fun_ext (λ x. fun_ext (λ y. omega arith))

pub union_right : (a : Cells) → union a no_pairs ≡ a
unfolding union no_pairs
union_right a = fun_ext (λ x. fun_ext (λ y. omega arith))

pub transpose_none : transpose no_pairs ≡ no_pairs
unfolding transpose no_pairs
transpose_none = refl

-- its tree has no words
pub none_tree : (n : ℕ) → [] ≡ tree_words n no_pairs
none_tree n = sym (tree_words_none n) ∙ ap (tree_words n) (unfold no_pairs in refl)

-- ---- the operations, cell by cell
pub union_join : (x a b : Cells) → union (union x a) b ≡ union x (union a b)
unfolding union
union_join x a b = fun_ext (λ u. fun_ext (λ y. omega arith))

pub union_swap : (a b : Cells) → union a b ≡ union b a
unfolding union
union_swap a b = fun_ext (λ u. fun_ext (λ y. omega arith))

pub transpose_union : (a b : Cells) → transpose (union a b) ≡ union (transpose a) (transpose b)
unfolding transpose union
transpose_union a b = refl

pub transpose_twice : (a : Cells) → transpose (transpose a) ≡ a
unfolding transpose
transpose_twice a = refl

pub flat_intersection : (a b : Cells) → both (flat a) (flat b) ≡ flat (intersection a b)
unfolding both flat intersection
flat_intersection a b = refl

pub flat_difference : (a b : Cells) → minus (flat a) (flat b) ≡ flat (difference a b)
unfolding minus flat difference
flat_difference a b = refl

-- ---- the pairs of link words
-- pair words are their own
pub pair_links : (ps : List ℕ) → PairsBelow 1024 ps → map link_pair ps ≡ ps
unfolding link_pair
pair_links [] b = refl
pair_links (w ∷ ps) b =
    let r = b w here in
    let e : w % 1048576 ≡ w = mod-eq_of_lt (omega (arith, r.0, r.1)) in
    rw (e, pair_links ps (λ v h. b v (there h)))

-- no label is in the set 0, and 0 alone in the set 1
pub labelled_none : (ws : List ℕ) → labelled 0 ws ≡ []
unfolding labelled
labelled_none [] = refl
labelled_none (w ∷ ws) = rw (digit_none (w / 1048576)) (labelled_none ws)

labelled_pairs : (ps : List ℕ) → PairsBelow 1024 ps → labelled 1 ps ≡ ps
unfolding labelled digit
labelled_pairs [] b = refl
labelled_pairs (w ∷ ps) b =
    let r = b w here in
    let e : w / 1048576 ≡ 0 = omega (arith, r.0, r.1) in
    rw (e, labelled_pairs ps (λ v h. b v (there h)))

in_more : {p v : ℕ} {l k : List ℕ} → (In p l → In p k) → In p (v ∷ l) → In p (v ∷ k)
in_more f here = here
in_more f (there h) = there (f h)

in_labelled : {p : ℕ} (m : ℕ) (ws : List ℕ) → In p (map link_pair (labelled m ws)) → In p (map link_pair ws)
unfolding labelled
in_labelled m [] h = h
in_labelled {p} m (w ∷ ws) h = go (eqb (digit m (w / 1048576)) 1) (in_labelled m ws) h
  where
    go : (b : Bool) → (In p (map link_pair (labelled m ws)) → In p (map link_pair ws))
        → In p (map link_pair (pick b (w ∷ labelled m ws) (labelled m ws))) → In p (link_pair w ∷ map link_pair ws)
    go true f k = in_more f k
    go false f k = there (f k)

pub set_none : set_of [] ≡ no_pairs
unfolding set_of has no_pairs
set_none = fun_ext (λ x. fun_ext (λ y. omega arith))

-- ---- one step over link words
-- no label
pub crossed_none : (ws : List ℕ) → crossed_words ws 0 0 ≡ no_pairs
unfolding crossed_words
crossed_none ws = rw (labelled_none ws, set_none, transpose_none) (union_none no_pairs)

-- the senses exchanged
pub crossed_turned : (ws : List ℕ) (f a : ℕ) → transpose (crossed_words ws f a) ≡ crossed_words ws a f
unfolding crossed_words
crossed_turned ws f a =
    let p = set_of (map link_pair (labelled f ws)) in
    let q = set_of (map link_pair (labelled a ws)) in
    transpose_union p (transpose q) ∙ union_swap (transpose p) (transpose (transpose q)) ∙ ap (λ (t : Cells). union t (transpose p)) (transpose_twice q)

-- pair words as they are
pub crossed_pairs : (ps : List ℕ) → PairsBelow 1024 ps → crossed_words ps 1 0 ≡ set_of ps
unfolding crossed_words
crossed_pairs ps b = rw (labelled_pairs ps b, pair_links ps b, labelled_none ps, set_none, transpose_none) (union_right (set_of ps))

pub crossed_set : (n : ℕ) (ws : List ℕ) (f a : ℕ) → n ≤ 1024 → PairsBelow n (map link_pair ws) → IsSet n (crossed_words ws f a)
unfolding crossed_words
crossed_set n ws f a nl b =
    union_set n (set_of (map link_pair (labelled f ws))) (transpose (set_of (map link_pair (labelled a ws)))) (part f)
    (transpose_set n (set_of (map link_pair (labelled a ws))) (part a))
  where
    part : (m : ℕ) → IsSet n (set_of (map link_pair (labelled m ws)))
    part m = set_of_set n (map link_pair (labelled m ws)) nl (λ p h. b p (in_labelled m ws h))

-- ---- a lent set of records, each joined to itself

-- ---- the pairs that rows hold
places_far : (f : ℕ → ℕ) (p d : ℕ) → Gap f p (p + d) → places f (p + d) ≡ places f p
unfolding places
places_far f p zero g = ap (places f) (add-zero p)
places_far f p (suc d) g =
    ap (places f) (add-suc p d) ∙ rw (g (p + d) (omega arith) (omega arith)) (append-nil (places f (p + d))) ∙ places_far f p d (λ k a b. g k a (omega arith))

pub crossed_all : (ws : List ℕ) (i f a : ℕ) → i ≡ length ws → crossed_words (take i ws) f a ≡ crossed_words ws f a
crossed_all ws i f a e = ap (λ (l : List ℕ). crossed_words l f a) (ap (λ (k : ℕ). take k ws) e ∙ take-length ws)

pub length-places : (f : ℕ → ℕ) (n : ℕ) → length (places f n) ≤ n
unfolding places
length-places f zero = omega arith
length-places f (suc n) = omega (arith, length-append (places f n) (if_set (f n) n), one (f n), length-places f n)
  where
    one : (v : ℕ) → length (if_set v n) ≤ 1
    one zero = omega arith
    one (suc v) = omega arith

pub places_gap : (f : ℕ → ℕ) (p q : ℕ) → p ≤ q → Gap f p q → places f q ≡ places f p
places_gap f p q l g = let e : q ≡ p + (q - p) = omega arith in ap (places f) e ∙ places_far f p (q - p) (λ k a b. g k a (omega arith))

row_places : (a : Cells) (x m : ℕ) → m ≤ 1024 → places (flat a) (x * 1024 + m) ≡ places (flat a) (x * 1024) ++ row_pairs a x m
unfolding row_pairs places
row_places a x zero l = ap (places (flat a)) (add-zero (x * 1024)) ∙ sym (append-nil (places (flat a) (x * 1024)))
row_places a x (suc m) l =
    ap (places (flat a)) (add-suc (x * 1024) m)
    ∙ ap₂ (λ (l : List ℕ) (v : ℕ). l ++ if_set v (x * 1024 + m)) (row_places a x m (omega arith)) (flat_at a x m (omega arith))
    ∙ append_assoc (places (flat a) (x * 1024)) (row_pairs a x m) (if_set (a x m) (x * 1024 + m))

module _ (n : ℕ) (a : Cells) (nl : n ≤ 1024) (A : IsSet n a) where
  -- a row has no pair from column n on
  row_gap : (x : ℕ) → Gap (flat a) (x * 1024 + n) ((x + 1) * 1024)
  unfolding flat
  row_gap x k l h = A.column (k / 1024) (k % 1024) (omega arith)

  rows_places : (m : ℕ) → rows_pairs a n m ≡ places (flat a) (m * 1024)
  unfolding rows_pairs places
  rows_places zero = refl
  rows_places (suc m) =
      let e : (m + 1) * 1024 ≡ suc m * 1024 = omega arith in
      ap (λ (l : List ℕ). l ++ row_pairs a m n) (rows_places m)
      ∙ sym (row_places a m n nl) ∙ sym (places_gap (flat a) (m * 1024 + n) ((m + 1) * 1024) (omega arith) (row_gap m)) ∙ ap (places (flat a)) e

  -- rows of a set hold its pairs
  pub pairs-in : (ws : List ℕ) → bit_at ws ≡ flat a → pairs_in n ws ≡ listed n a
  unfolding listed
  pairs-in ws e = ap (λ (f : ℕ → ℕ). places f (n * 1024)) e ∙ sym (rows_places n)
