-- Laws of pairs put into rows, and of rows that lie below n.
--   exchange w        the place of a pair's word with the pair exchanged
--   letters_of m ws    the pairs of the words whose label is in the set m
--   letters_out       a word whose label is not in it adds none
--   crossing ps qs    the pairs of two lists, the second's exchanged
--   crossed_forward, crossed_against
--                     a word more, forward and then against
--   crossed_is, crossed_start
--                     so link words one after another: they are the words crossed; none
--   diagonal_none, diagonal_more, diagonal_skip, diagonal_all
--                     the diagonal: no record, one in the set, one that is not, all
--   rows_of, rows_in  rows that lie below n, from their gaps; and what a bit of them says
-- Assumes nothing.
use mathlib.Core.Path.{◌≡◌, refl, sym, ap, ◌∙◌, fun_ext}
use mathlib.Core.Bool.{Bool, true, false, ◌||◌, ◌&&◌}
use mathlib.Core.List.{List, [], ◌∷◌, ◌++◌, map, append-nil}
use Prim.Native.Nat.{ℕ, ◌+◌, ◌*◌, ◌/◌, ◌%◌, ◌≤◌, ◌<◌, min, max}
use native.Mathlib.Numerals.{add-one}
use native.Mathlib.Decide.{dec_lt, ℕ_discrete}
use native.Mathlib.Omega.{arith}
use lib.Dec.{eqb, ltb}
use lib.ListN.{length, get_or, take}
use lib.Seq.{take-suc}
use borrow.Author.Tests.{eq-eqb, ne_eqb, lt-ltb, le-ltb}
use Rattle.book.specs.Basics.{pick, bit, has}
use Rattle.k2.specs.Bits.{digit, bit_at}
use Rattle.k2.specs.BitLaws.{Bits, bit_lt, bit_out}
use Rattle.k2.specs.PairSets.{Cells, IsSet, set_of, union, transpose, diagonal}
use Rattle.k2.specs.PairSetLaws.{set_bit, set_past}
use Rattle.bits.specs.BitSets.{put, Gap}
use Rattle.bits.specs.BitSetLaws.{put_at, put_off}
use Rattle.rows.specs.Rows.{flat}
use Rattle.rows.specs.RowSets.{labelled, crossed_words, RowsOf}
use Rattle.links.specs.Parts.{link_pair}
use Rattle.rows.specs.RowLaws.{union_join, union_swap}
use Rattle.rows.specs.Steps.{below}
use Rattle.rows.proofs.SearchLaws.{below_in, below_out, below_skip}

-- bits put in agree with a set's rows if they do at the place and off it
put_flat : (f : ℕ → ℕ) (v : ℕ) (b : Cells) → flat b v ≡ 1 → ((p : ℕ) → (p ≡ v → ⊥) → f p ≡ flat b p) → put v 1 f ≡ flat b
put_flat f v b e g = fun_ext (λ p. go p (ℕ_discrete p v))
  where
    go : (p : ℕ) → Dec (p ≡ v) → put v 1 f p ≡ flat b p
    go p (yes s) = ap (put v 1 f) s ∙ put_at v 1 f ∙ sym (ap (flat b) s ∙ e)
    go p (no s) = put_off v 1 f p s ∙ g p s

-- one pair more: b has it, and otherwise what a has
one_more : (x a b : Cells) (v : ℕ) → Bits (flat x) → b (v / 1024) (v % 1024) ≡ 1 → ((i j : ℕ) → (i * 1024 + j ≡ v → ⊥) → a i j ≡ b i j)
    → put v 1 (flat (union x a)) ≡ flat (union x b)
one_more x a b v l e g = put_flat (flat (union x a)) v (union x b) here off
  where
    here : flat (union x b) v ≡ 1
    here = let z : x (v / 1024) (v % 1024) < 2 = unfold flat in (l v) in unfold flat union in (rw e (omega (arith, z)))

    off : (p : ℕ) → (p ≡ v → ⊥) → flat (union x a) p ≡ flat (union x b) p
    off p n = unfold flat union in (ap (max (x (p / 1024) (p % 1024))) (g (p / 1024) (p % 1024) (λ q. n (omega arith))))

-- ---- a list's pairs
has_last : (v w : ℕ) (ps : List ℕ) → has eqb w (ps ++ (v ∷ [])) ≡ (has eqb w ps || eqb v w)
unfolding has
has_last v w [] = go (eqb v w)
  where
    go : (b : Bool) → (b || false) ≡ b
    go true = refl
    go false = refl
has_last v w (u ∷ ps) = go (eqb u w) (has_last v w ps)
  where
    go : (b : Bool) → has eqb w (ps ++ (v ∷ [])) ≡ (has eqb w ps || eqb v w) → (b || has eqb w (ps ++ (v ∷ []))) ≡ ((b || has eqb w ps) || eqb v w)
    go true e = refl
    go false e = e

-- a word more: its pair is in, and the others are as they were
set_last : (v : ℕ) (ps : List ℕ) → set_of (ps ++ (v ∷ [])) (v / 1024) (v % 1024) ≡ 1
unfolding set_of
set_last v ps =
    let e : v / 1024 * 1024 + v % 1024 ≡ v = omega arith in
    rw (lt-ltb (v % 1024) 1024 (omega arith), e, has_last v v ps, eq-eqb v v refl) (go (has eqb v ps))
  where
    go : (b : Bool) → min 1 (bit (b || true)) ≡ 1
    go true = refl
    go false = refl

set_off : (v : ℕ) (ps : List ℕ) (x y : ℕ) → (x * 1024 + y ≡ v → ⊥) → set_of ps x y ≡ set_of (ps ++ (v ∷ [])) x y
unfolding set_of
set_off v ps x y n = rw (has_last v (x * 1024 + y) ps, ne_eqb v (x * 1024 + y) (λ e. n (sym e))) (go (has eqb (x * 1024 + y) ps))
  where
    go : (b : Bool) → min (bit (ltb y 1024)) (bit b) ≡ min (bit (ltb y 1024)) (bit (b || false))
    go true = refl
    go false = refl

list_more : (x : Cells) (ps : List ℕ) (v : ℕ) → Bits (flat x) → put v 1 (flat (union x (set_of ps))) ≡ flat (union x (set_of (ps ++ (v ∷ []))))
list_more x ps v b = one_more x (set_of ps) (set_of (ps ++ (v ∷ []))) v b (set_last v ps) (set_off v ps)

-- the place of a pair's word with the pair exchanged
abbrev pub exchange : ℕ → ℕ
exchange v = v % 1024 * 1024 + v / 1024

turned_more : (x : Cells) (ps : List ℕ) (v : ℕ) → v < 1048576 → Bits (flat x)
    → put (exchange v) 1 (flat (union x (transpose (set_of ps)))) ≡ flat (union x (transpose (set_of (ps ++ (v ∷ [])))))
unfolding transpose
turned_more x ps v l b = one_more x (transpose (set_of ps)) (transpose (set_of (ps ++ (v ∷ [])))) (exchange v) b here (λ i j n. off i j n (dec_lt i 1024))
  where
    here : set_of (ps ++ (v ∷ [])) (exchange v % 1024) (exchange v / 1024) ≡ 1
    here =
        let e : exchange v % 1024 ≡ v / 1024 = omega arith in
        let f : exchange v / 1024 ≡ v % 1024 = omega arith in
        rw (e, f) (set_last v ps)

    off : (i j : ℕ) → (i * 1024 + j ≡ exchange v → ⊥) → Dec (i < 1024) → set_of ps j i ≡ set_of (ps ++ (v ∷ [])) j i
    off i j n (yes h) = set_off v ps j i (λ e. n (omega arith))
    off i j n (no h) = set_past ps j i (omega arith) ∙ sym (set_past (ps ++ (v ∷ [])) j i (omega arith))

-- ---- the pairs of the first i words whose label is in a set of labels
abbrev pub letters_of : ℕ → List ℕ → List ℕ
letters_of m ws = map link_pair (labelled m ws)

map_last : (ws : List ℕ) (w : ℕ) → map link_pair (ws ++ (w ∷ [])) ≡ map link_pair ws ++ (link_pair w ∷ [])
map_last [] w = refl
map_last (v ∷ ws) w = ap (λ (l : List ℕ). link_pair v ∷ l) (map_last ws w)

module _ (m : ℕ) where
  labelled_last : (ws : List ℕ) (w : ℕ) → labelled m (ws ++ (w ∷ [])) ≡ labelled m ws ++ pick (eqb (digit m (w / 1048576)) 1) (w ∷ []) []
  unfolding labelled
  labelled_last [] w = refl
  labelled_last (v ∷ ws) w = go (eqb (digit m (v / 1048576)) 1) (labelled_last ws w)
    where
      go : (b : Bool) → labelled m (ws ++ (w ∷ [])) ≡ labelled m ws ++ pick (eqb (digit m (w / 1048576)) 1) (w ∷ []) []
          → pick b (v ∷ labelled m (ws ++ (w ∷ []))) (labelled m (ws ++ (w ∷ [])))
          ≡ pick b (v ∷ labelled m ws) (labelled m ws) ++ pick (eqb (digit m (w / 1048576)) 1) (w ∷ []) []
      go true e = ap (λ (l : List ℕ). v ∷ l) e
      go false e = e

  module _ (ws : List ℕ) (i : ℕ) (l : i < length ws) where
    labelled_next : labelled m (take (i + 1) ws) ≡ labelled m (take i ws) ++ pick (eqb (digit m (get_or ws i 0 / 1048576)) 1) (get_or ws i 0 ∷ []) []
    labelled_next =
        ap (λ (k : ℕ). labelled m (take k ws)) (add-one i) ∙ ap (labelled m) (take-suc ws i 0 l) ∙ labelled_last (take i ws) (get_or ws i 0)

    letters-in : eqb (digit m (get_or ws i 0 / 1048576)) 1 ≡ true
        → letters_of m (take i ws) ++ (link_pair (get_or ws i 0) ∷ []) ≡ letters_of m (take (i + 1) ws)
    letters-in t =
        sym (ap (map link_pair) (labelled_next ∙ ap (λ (b : Bool). labelled m (take i ws) ++ pick b (get_or ws i 0 ∷ []) []) t)
        ∙ map_last (labelled m (take i ws)) (get_or ws i 0))

    pub letters_out : eqb (digit m (get_or ws i 0 / 1048576)) 1 ≡ false → letters_of m (take i ws) ≡ letters_of m (take (i + 1) ws)
    letters_out t =
        sym (ap (map link_pair) (labelled_next ∙ ap (λ (b : Bool). labelled m (take i ws) ++ pick b (get_or ws i 0 ∷ []) []) t
        ∙ append-nil (labelled m (take i ws))))

-- ---- the pairs of two lists, the second's exchanged
unfoldable pub crossing : List ℕ → List ℕ → Cells
crossing ps qs = union (set_of ps) (transpose (set_of qs))

union_bits : (x a : Cells) → Bits (flat x) → ((i j : ℕ) → a i j < 2) → Bits (flat (union x a))
unfolding flat union
union_bits x a b d k = omega (arith, b k, d (k / 1024) (k % 1024))

union_last : (x a b : Cells) → union x (union a b) ≡ union (union x b) a
union_last x a b = ap (union x) (union_swap a b) ∙ sym (union_join x b a)

module _ (x : Cells) (ps qs : List ℕ) (v : ℕ) (b : Bits (flat x)) where
  forward_more : put v 1 (flat (union x (crossing ps qs))) ≡ flat (union x (crossing (ps ++ (v ∷ [])) qs))
  unfolding crossing transpose
  forward_more =
      ap (λ (a : Cells). put v 1 (flat a)) (union_last x (set_of ps) (transpose (set_of qs)))
      ∙ list_more (union x (transpose (set_of qs))) ps v (union_bits x (transpose (set_of qs)) b (λ i j. set_bit qs j i))
      ∙ ap flat (sym (union_last x (set_of (ps ++ (v ∷ []))) (transpose (set_of qs))))

  against_more : v < 1048576 → put (exchange v) 1 (flat (union x (crossing ps qs))) ≡ flat (union x (crossing ps (qs ++ (v ∷ []))))
  unfolding crossing
  against_more l =
      ap (λ (a : Cells). put (exchange v) 1 (flat a)) (sym (union_join x (set_of ps) (transpose (set_of qs))))
      ∙ turned_more (union x (set_of ps)) qs v l (union_bits x (set_of ps) b (set_bit ps))
      ∙ ap flat (union_join x (set_of ps) (transpose (set_of (qs ++ (v ∷ [])))))

-- a word more, forward and then against
module _ (x : Cells) (ws : List ℕ) (i f a : ℕ) (l : i < length ws) (b : Bits (flat x)) where
  pub crossed_forward : (qs : List ℕ) → eqb (digit f (get_or ws i 0 / 1048576)) 1 ≡ true
      → put (link_pair (get_or ws i 0)) 1 (flat (union x (crossing (letters_of f (take i ws)) qs))) ≡
      flat (union x (crossing (letters_of f (take (i + 1) ws)) qs))
  crossed_forward qs t =
      forward_more x (letters_of f (take i ws)) qs (link_pair (get_or ws i 0)) b ∙ ap (λ (ps : List ℕ). flat (union x (crossing ps qs))) (letters-in f ws i l t)

  pub crossed_against : (ps : List ℕ) → eqb (digit a (get_or ws i 0 / 1048576)) 1 ≡ true
      → put (exchange (link_pair (get_or ws i 0))) 1 (flat (union x (crossing ps (letters_of a (take i ws)))))
      ≡ flat (union x (crossing ps (letters_of a (take (i + 1) ws))))
  crossed_against ps t =
      against_more x ps (letters_of a (take i ws)) (link_pair (get_or ws i 0)) b (unfold link_pair in (omega arith))
      ∙ ap (λ (qs : List ℕ). flat (union x (crossing ps qs))) (letters-in a ws i l t)

pub crossed_is : (ws : List ℕ) (f a : ℕ) → crossed_words ws f a ≡ crossing (letters_of f ws) (letters_of a ws)
unfolding crossed_words crossing
crossed_is ws f a = refl

pub crossed_start : (x : Cells) (f a : ℕ) → union x (crossed_words [] f a) ≡ x
unfolding crossed_words labelled union transpose set_of has
crossed_start x f a = fun_ext (λ u. fun_ext (λ y. omega arith))

-- ---- the diagonal
module _ (f : ℕ → ℕ) (b : Bits f) where
  diagonal_at : (x : ℕ) → diagonal f x x ≡ f x
  unfolding diagonal
  diagonal_at x = rw (eq-eqb x x refl) (omega (arith, b x))

diagonal_off : (f : ℕ → ℕ) (x y : ℕ) → (x ≡ y → ⊥) → diagonal f x y ≡ 0
unfolding diagonal
diagonal_off f x y h = rw (ne_eqb x y h) (omega arith)

pub diagonal_none : (x : Cells) (f : ℕ → ℕ) → union x (diagonal (below 0 f)) ≡ x
unfolding union diagonal
diagonal_none x f = fun_ext (λ u. fun_ext (λ y. rw (below_out f 0 u (omega arith)) (omega arith)))

module _ (f : ℕ → ℕ) (b : Bits f) where
  below_bits : (n : ℕ) → Bits (below n f)
  below_bits n k = go (dec_lt k n)
    where
      go : Dec (k < n) → below n f k < 2
      go (yes l) = rw (below_in f n k l) (b k)
      go (no l) = rw (below_out f n k (omega arith)) (omega arith)

  -- record i is in the set
  pub diagonal_more : (x : Cells) (i : ℕ) → i < 1024 → Bits (flat x) → f i ≡ 1
      → put (i * 1024 + i) 1 (flat (union x (diagonal (below i f)))) ≡ flat (union x (diagonal (below (i + 1) f)))
  diagonal_more x i l bx one =
      one_more x (diagonal (below i f)) (diagonal (below (i + 1) f)) (i * 1024 + i) bx here (λ u y n. same u y n (ℕ_discrete u y) (dec_lt u i))
    where
      here : diagonal (below (i + 1) f) ((i * 1024 + i) / 1024) ((i * 1024 + i) % 1024) ≡ 1
      here =
          let p : (i * 1024 + i) / 1024 ≡ i = omega arith in
          let q : (i * 1024 + i) % 1024 ≡ i = omega arith in
          rw (p, q) (diagonal_at (below (i + 1) f) (below_bits (i + 1)) i ∙ below_in f (i + 1) i (omega arith) ∙ one)

      on : (u : ℕ) → below i f u ≡ below (i + 1) f u → diagonal (below i f) u u ≡ diagonal (below (i + 1) f) u u
      on u e = diagonal_at (below i f) (below_bits i) u ∙ e ∙ sym (diagonal_at (below (i + 1) f) (below_bits (i + 1)) u)

      same : (u y : ℕ) → (u * 1024 + y ≡ i * 1024 + i → ⊥) → Dec (u ≡ y) → Dec (u < i) → diagonal (below i f) u y ≡ diagonal (below (i + 1) f) u y
      same u y n (no s) d = diagonal_off (below i f) u y s ∙ sym (diagonal_off (below (i + 1) f) u y s)
      same u y n (yes s) (yes d) = rw (← s) (on u (below_in f i u d ∙ sym (below_in f (i + 1) u (omega arith))))
      same u y n (yes s) (no d) =
          let z : (u ≡ i → ⊥) = λ e. n (omega arith) in
          rw (← s) (on u (below_out f i u (omega arith) ∙ sym (below_out f (i + 1) u (omega (arith, z)))))

  -- it is not
  pub diagonal_skip : (i : ℕ) → f i ≡ 0 → diagonal (below i f) ≡ diagonal (below (i + 1) f)
  diagonal_skip i e = ap diagonal (below_skip f i (i + 1) (omega arith) (λ c l h. let s : c ≡ i = omega arith in ap f s ∙ e))

pub diagonal_all : (ws : List ℕ) → length ws ≡ 16 → diagonal (below 1024 (bit_at ws)) ≡ diagonal (bit_at ws)
diagonal_all ws e = ap diagonal (fun_ext (λ c. go c (dec_lt c 1024)))
  where
    go : (c : ℕ) → Dec (c < 1024) → below 1024 (bit_at ws) c ≡ bit_at ws c
    go c (yes l) = below_in (bit_at ws) 1024 c l
    go c (no l) = below_out (bit_at ws) 1024 c (omega arith) ∙ sym (bit_out ws c (omega arith))

-- ---- rows below n
module _ (n : ℕ) (ws : List ℕ) (nl : n ≤ 1024) (long : length ws ≡ 16384) where
  -- of the bits, those in rows and columns below n
  abbrev cut : Cells
  cut x y = pick (ltb x n && ltb y n) (bit_at ws (x * 1024 + y)) 0

  cut_in : (x y : ℕ) → x < n → y < n → cut x y ≡ bit_at ws (x * 1024 + y)
  cut_in x y a b = rw (lt-ltb x n a, lt-ltb y n b)

  cut_row : (x y : ℕ) → n ≤ x → cut x y ≡ 0
  cut_row x y a = rw (le-ltb x n a)

  cut_column : (x y : ℕ) → n ≤ y → cut x y ≡ 0
  cut_column x y a = rw (le-ltb y n a) (go (ltb x n))
    where
      go : (b : Bool) → pick (b && false) (bit_at ws (x * 1024 + y)) 0 ≡ 0
      go true = refl
      go false = refl

  cut_set : IsSet n cut
  cut_set = record { bit = λ x y. go x y (dec_lt x n) (dec_lt y n); row = cut_row; column = cut_column }
    where
      go : (x y : ℕ) → Dec (x < n) → Dec (y < n) → cut x y < 2
      go x y (yes a) (yes b) = rw (cut_in x y a b) (bit_lt ws (x * 1024 + y))
      go x y (no a) b = rw (cut_row x y (omega arith)) (omega arith)
      go x y (yes a) (no b) = rw (cut_column x y (omega arith)) (omega arith)

  pub rows_of : ((i : ℕ) → i < n → Gap (bit_at ws) (i * 1024 + n) (i * 1024 + 1024)) → Gap (bit_at ws) (n * 1024) 1048576 → RowsOf n ws
  unfolding flat
  rows_of g h = record { set = cut; is_set = cut_set; rows = fun_ext (λ p. go p (dec_lt (p / 1024) n) (dec_lt (p % 1024) n)) }
    where
      past : (p : ℕ) → n ≤ p / 1024 → Dec (p < 1048576) → bit_at ws p ≡ 0
      past p a (yes l) = h p (omega arith) l
      past p a (no l) = bit_out ws p (omega arith)

      go : (p : ℕ) → Dec (p / 1024 < n) → Dec (p % 1024 < n) → bit_at ws p ≡ cut (p / 1024) (p % 1024)
      go p (yes a) (yes b) =
          let e : p / 1024 * 1024 + p % 1024 ≡ p = omega arith in
          sym (cut_in (p / 1024) (p % 1024) a b ∙ ap (bit_at ws) e)
      go p (no a) b = past p (omega arith) (dec_lt p 1048576) ∙ sym (cut_row (p / 1024) (p % 1024) (omega arith))
      go p (yes a) (no b) = g (p / 1024) a p (omega arith) (omega arith) ∙ sym (cut_column (p / 1024) (p % 1024) (omega arith))

  pub rows_in : RowsOf n ws → (p : ℕ) → bit_at ws p ≡ 1 → (p / 1024 < n) × (p % 1024 < n)
  rows_in r p e = (row (dec_lt (p / 1024) n), column (dec_lt (p % 1024) n))
    where
      at : bit_at ws p ≡ r.set (p / 1024) (p % 1024)
      at = ap (λ (f : ℕ → ℕ). f p) r.rows ∙ unfold flat in refl

      row : Dec (p / 1024 < n) → p / 1024 < n
      row (yes a) = a
      row (no a) = absurd (omega (arith, at, r.is_set.row (p / 1024) (p % 1024) (omega arith)))

      column : Dec (p % 1024 < n) → p % 1024 < n
      column (yes a) = a
      column (no a) = absurd (omega (arith, at, r.is_set.column (p / 1024) (p % 1024) (omega arith)))
