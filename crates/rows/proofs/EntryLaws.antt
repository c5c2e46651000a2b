-- Laws of the list of occupied rows: as it is built, a row at a time, and its entries.
--   row-at, row_end  the row of an entry, and of the place after the last
--   row_front, masks_front
--                    the front of a list has the same entries
--   occupied_none    no row looked at, none listed
--   entries_skip, entries_add
--                    row i passed, as it is empty, or put in as an entry
--   masks_add        the entry has the row's mask
-- Assumes nothing.
use mathlib.Core.Path.{◌≡◌, sym, ap, ◌∙◌, subst, fun_ext}
use mathlib.Core.List.{List}
use Prim.Native.Nat.{ℕ, ◌+◌, ◌≤◌, ◌<◌}
use native.Mathlib.Decide.{dec_lt}
use native.Mathlib.Omega.{arith}
use lib.ListN.{length, get_or, set, take}
use lib.Seq.{get_or-set_same, get_or-set_other, get_or-take}
use borrow.Author.Tests.{lt-ltb, le-ltb}
use borrow.Author.Count.{below_more}
use Rattle.rows.specs.declared.entry.Entry.{Entry}
use Rattle.rows.specs.Steps.{EmptyRow, Masked, past_end, row_at, Occupied, Masks}

-- ---- an entry's row
module _ (n m : ℕ) (l : List Entry) where
  pub row-at : (t : ℕ) → t < m → row_at n m l t ≡ (get_or l t past_end).row
  unfolding row_at
  row-at t h = rw (lt-ltb t m h)

  pub row_end : row_at n m l m ≡ n
  unfolding row_at
  row_end = rw (le-ltb m m (omega arith))

-- the front of a list has the same entries
pub row_front : (n m : ℕ) (l : List Entry) → row_at n m (take m l) ≡ row_at n m l
unfolding row_at
row_front n m l = fun_ext (λ t. go t (dec_lt t m))
  where
    go : (t : ℕ) → Dec (t < m) → row_at n m (take m l) t ≡ row_at n m l t
    go t (yes h) = rw (get_or-take m l t past_end h)
    go t (no h) = let z : (t < m → ⊥) = h in rw (le-ltb t m (omega (arith, z)))

pub masks_front : (f : ℕ → ℕ) (m : ℕ) (l : List Entry) → Masks f m l → Masks f m (take m l)
masks_front f m l g t h = rw (get_or-take m l t past_end h) (g t h)

-- ---- the rows below i listed, row i next
pub occupied_none : (f : ℕ → ℕ) (l : List Entry) → Occupied f 0 (row_at 0 0 l) 0
occupied_none f l = record {
  first = λ i h. absurd (omega (arith, row_end 0 0 l));
  gap = λ t h. absurd (omega arith);
  rise = λ t h. absurd (omega arith);
  last = row_end 0 0 l;
}

module _ (f : ℕ → ℕ) (i m : ℕ) (r s : ℕ → ℕ) (O : Occupied f i r m) (same : (t : ℕ) → t < m → s t ≡ r t) where
  -- it is empty
  occupied_skip : EmptyRow f i → s m ≡ i + 1 → Occupied f (i + 1) s m
  occupied_skip z e = record {
    first = λ j h. first j h (dec_lt 0 m);
    gap = λ t h j p q. gap t h j p q (dec_lt (t + 1) m);
    rise = λ t h. rise t h (dec_lt (t + 1) m);
    last = e;
  }
    where
      -- between the last of the list and row i
      near : (j : ℕ) → (j < i → EmptyRow f j) → j < i + 1 → EmptyRow f j
      near j g h = go (dec_lt j i)
        where
          go : Dec (j < i) → EmptyRow f j
          go (yes p) = g p
          go (no p) = let q : i ≡ j = omega arith in subst (λ (v : ℕ). EmptyRow f v) q z

      first : (j : ℕ) → j < s 0 → Dec (0 < m) → EmptyRow f j
      first j h (yes p) = O.first j (omega (arith, same 0 p))
      first j h (no p) =
          let q : m ≡ 0 = omega arith in
          let a : r 0 ≡ i = ap r (sym q) ∙ O.last in
          let b : s 0 ≡ i + 1 = ap s (sym q) ∙ e in
          near j (λ g. O.first j (omega arith)) (omega arith)

      gap : (t : ℕ) → t < m → (j : ℕ) → s t < j → j < s (t + 1) → Dec (t + 1 < m) → EmptyRow f j
      gap t h j p q (yes d) = O.gap t h j (omega (arith, same t h)) (omega (arith, same (t + 1) d))
      gap t h j p q (no d) =
          let u : m ≡ t + 1 = omega arith in
          let a : r (t + 1) ≡ i = ap r (sym u) ∙ O.last in
          let b : s (t + 1) ≡ i + 1 = ap s (sym u) ∙ e in
          near j (λ g. O.gap t h j (omega (arith, same t h)) (omega arith)) (omega arith)

      rise : (t : ℕ) → t < m → Dec (t + 1 < m) → s t < s (t + 1)
      rise t h (yes d) = omega (arith, same t h, same (t + 1) d, O.rise t h)
      rise t h (no d) =
          let u : m ≡ t + 1 = omega arith in
          let a : r (t + 1) ≡ i = ap r (sym u) ∙ O.last in
          let b : s (t + 1) ≡ i + 1 = ap s (sym u) ∙ e in
          omega (arith, same t h, O.rise t h)

  -- it is the next entry
  occupied_add : s m ≡ i → s (m + 1) ≡ i + 1 → Occupied f (i + 1) s (m + 1)
  occupied_add d e = record {
    first = λ j h. O.first j (omega (arith, all 0 (omega arith)));
    gap = λ t h j p q. gap t h j p q (dec_lt t m);
    rise = λ t h. rise t h (dec_lt t m);
    last = e;
  }
    where
      all : (t : ℕ) → t ≤ m → s t ≡ r t
      all t h = go (dec_lt t m)
        where
          go : Dec (t < m) → s t ≡ r t
          go (yes p) = same t p
          go (no p) = let u : t ≡ m = omega arith in ap s u ∙ d ∙ sym O.last ∙ ap r (sym u)

      end : (t : ℕ) → t < m + 1 → (t < m → ⊥) → (s t ≡ i) × (s (t + 1) ≡ i + 1)
      end t h p =
          let u : t ≡ m = omega (arith, p) in
          (ap s u ∙ d, ap (λ (v : ℕ). s (v + 1)) u ∙ e)

      gap : (t : ℕ) → t < m + 1 → (j : ℕ) → s t < j → j < s (t + 1) → Dec (t < m) → EmptyRow f j
      gap t h j p q (yes g) = O.gap t g j (omega (arith, all t (omega arith))) (omega (arith, all (t + 1) (omega arith)))
      gap t h j p q (no g) = let w = end t h g in absurd (omega (arith, w.0, w.1))

      rise : (t : ℕ) → t < m + 1 → Dec (t < m) → s t < s (t + 1)
      rise t h (yes g) = omega (arith, all t (omega arith), all (t + 1) (omega arith), O.rise t g)
      rise t h (no g) = let w = end t h g in omega (arith, w.0, w.1)

-- ---- the same of lists: row i passed, or put in as the entry v
module _ (f : ℕ → ℕ) (i m : ℕ) (l : List Entry) (O : Occupied f i (row_at i m l) m) where
  pub entries_skip : EmptyRow f i → Occupied f (i + 1) (row_at (i + 1) m l) m
  entries_skip z =
      occupied_skip f i m (row_at i m l) (row_at (i + 1) m l) O (λ t h. row-at (i + 1) m l t h ∙ sym (row-at i m l t h)) z (row_end (i + 1) m l)

  pub entries_add : (v : Entry) → m < length l → v.row ≡ i → Occupied f (i + 1) (row_at (i + 1) (m + 1) (set l m v)) (m + 1)
  entries_add v h e =
      occupied_add f i m (row_at i m l) (row_at (i + 1) (m + 1) (set l m v)) O
      (λ t g. row-at (i + 1) (m + 1) (set l m v) t (omega arith)
      ∙ ap (λ (w : Entry). w.row) (get_or-set_other l m t v past_end (λ s. omega arith)) ∙ sym (row-at i m l t g))
      (row-at (i + 1) (m + 1) (set l m v) m (omega arith) ∙ ap (λ (w : Entry). w.row) (get_or-set_same l m v past_end h) ∙ e)
      (row_end (i + 1) (m + 1) (set l m v))

pub masks_add : (f : ℕ → ℕ) (m : ℕ) (v : Entry) (l : List Entry) → m < length l → Masks f m l → Masked f v.row v.squares → Masks f (m + 1) (set l m v)
masks_add f m v l h g a =
    below_more (λ (t : ℕ). Masked f (get_or (set l m v) t past_end).row (get_or (set l m v) t past_end).squares) m
    (λ t k. rw (get_or-set_other l m t v past_end (λ s. omega arith)) (g t k)) (rw (get_or-set_same l m v past_end h) a)
