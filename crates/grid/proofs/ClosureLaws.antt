-- Laws of the closure: the rows closed one after another, and rows of 1,024 bits.
--   unmasked_none, half_none
--                         a row with no mask has no pair; none of the rows is closed yet
--   onward_same, onward_next, onward_beyond, onward_row
--                         on from marks to marks: not at all, one after another, by a mark beyond the records, by a row closed
--   Settled n a c u       record u is closed, or has no pair
--   settled_gap, settled_next
--                         records that are not filled; the first x + 1 records
--   half_all              all records: the relation is the closure
--   clean_flat            clean words of 1,024 bits a row are the rows of the relation
--   masked_set, masked_clean
--                         rows of a set, with masks of the words that are not empty
-- Assumes nothing.
use mathlib.Core.Path.{◌≡◌, sym, ap, subst, ◌∙◌, fun_ext}
use mathlib.Core.Logic.{◌⊎◌, inl, inr, ⊎_elim}
use mathlib.Core.List.{List}
use Prim.Native.Nat.{ℕ, ◌+◌, ◌-◌, ◌*◌, ◌/◌, ◌%◌, ◌≤◌, ◌<◌}
use native.Mathlib.Decide.{dec_lt, ℕ_discrete}
use native.Mathlib.Omega.{arith}
use lib.ListN.{get_or}
use Rattle.book.specs.Causes.{max_records}
use Rattle.k2.specs.Bits.{digit, bit_at}
use Rattle.k2.specs.DigitLaws.{digit_lt}
use Rattle.k2.specs.BitLaws.{bit_in}
use Rattle.k2.specs.PairSets.{Cells, IsSet, OneOrMore, once, more, closure}
use Rattle.k2.specs.PairSetLaws.{closure_leads, closure_set}
use Rattle.bits.specs.BitSets.{Gap, put}
use Rattle.bits.specs.BitSetLaws.{put_at, put_off}
use Rattle.rows.specs.Rows.{flat}
use Rattle.rows.specs.RowLaws.{flat_at}
use Rattle.rows.specs.Steps.{Masked}
use Rattle.grid.specs.Grid.{row_of, first_rows, first}
use Rattle.grid.specs.GridLaws.{within_in, within_row, within_same, within_set}
use Rattle.grid.specs.Steps.{held, Clean, empty_marks, Filled, Started, Half, RowClosed, Onward}
use Rattle.grid.proofs.RowLaws.{row_empty, row_held}
use Rattle.grid.proofs.SearchLaws.{empty_row, put_keeps}

-- ---- the rows closed one after another
-- a mark put below those of empty rows
put_below : (v : ℕ) (c : ℕ → ℕ) (p u : ℕ) → p < empty_marks → put p v c (empty_marks + u) ≡ c (empty_marks + u)
put_below v c p u l = put_off p v c (empty_marks + u) (λ q. absurd (omega arith))

-- a row with no mask has no pair
pub unmasked_none : (n w : ℕ) (ws ms : List ℕ) (u : ℕ) → u < n → get_or ms u 0 ≡ 0 → (y : ℕ) → y < n → first n w ws ms u y ≡ 0
unmasked_none n w ws ms u ul e y l = within_in n (first_rows w ws ms) u y ul l ∙ empty_row n w ws ms u e y

pub half_none : (n w : ℕ) (ws ms : List ℕ) (f c : ℕ → ℕ) → n ≤ max_records
    → Filled n ms f → Started max_records f c → Half n (first n w ws ms) c (first_rows w ws ms)
half_none n w ws ms f c nl F S = record {
  whole = λ u y ul l h. absurd (omega (arith, h, S.closed u (omega arith)));
  plain = λ u y ul l h. sym (within_in n (first_rows w ws ms) u y ul l);
  empty = λ u y ul l h. unmasked_none n w ws ms u ul (F.all u ul (omega (arith, h, S.empty u (omega arith)))) y l;
  past = λ u h l. S.empty u l ∙ ap (λ (k : ℕ). 1 - k) (F.past u h);
}

half_more : (n : ℕ) (a : Cells) (c : ℕ → ℕ) (x : ℕ) (f g : Cells) → x < empty_marks → ((u y : ℕ) → u < n → y < n → (u ≡ x → ⊥) → g u y ≡ f u y)
    → ((y : ℕ) → y < n → g x y ≡ closure n a x y) → Half n a c f → Half n a (put x 1 c) g
half_more n a c x f g xl others row H = record {
  whole = λ u y ul l h. whole u y ul l h (ℕ_discrete u x);
  plain = λ u y ul l h. plain u y ul l h (ℕ_discrete u x);
  empty = λ u y ul l h. H.empty u y ul l (sym (put_below 1 c x u xl) ∙ h);
  past = λ u h l. put_below 1 c x u xl ∙ H.past u h l;
}
  where
    whole : (u y : ℕ) → u < n → y < n → put x 1 c u ≡ 1 → Dec (u ≡ x) → g u y ≡ closure n a u y
    whole u y ul l h (yes e) = rw e (row y l)
    whole u y ul l h (no e) = others u y ul l e ∙ H.whole u y ul l (sym (put_off x 1 c u e) ∙ h)

    plain : (u y : ℕ) → u < n → y < n → put x 1 c u ≡ 0 → Dec (u ≡ x) → g u y ≡ a u y
    plain u y ul l h (yes e) = absurd (omega (arith, ap (put x 1 c) e ∙ put_at x 1 c, h))
    plain u y ul l h (no e) = others u y ul l e ∙ H.plain u y ul l (sym (put_off x 1 c u e) ∙ h)

-- a mark beyond the records
half_beyond : (n : ℕ) (a : Cells) (c d : ℕ → ℕ) (p : ℕ) (f : Cells) → n ≤ p → p < empty_marks → d ≡ put p 1 c → Half n a c f → Half n a d f
half_beyond n a c d p f l pl e H = record {
  whole = λ u y ul yl h. H.whole u y ul yl (sym (same u ul) ∙ h);
  plain = λ u y ul yl h. H.plain u y ul yl (sym (same u ul) ∙ h);
  empty = λ u y ul yl h. H.empty u y ul yl (sym (kept u) ∙ h);
  past = λ u h ul. kept u ∙ H.past u h ul;
}
  where
    same : (u : ℕ) → u < n → d u ≡ c u
    same u ul = ap (λ (g : ℕ → ℕ). g u) e ∙ put_off p 1 c u (λ q. absurd (omega arith))

    kept : (u : ℕ) → d (empty_marks + u) ≡ c (empty_marks + u)
    kept u = ap (λ (g : ℕ → ℕ). g (empty_marks + u)) e ∙ put_below 1 c p u pl

-- ---- on from marks to marks
pub onward_same : (n w : ℕ) (cs ws ms : List ℕ) → Onward n w cs ws ms cs ws ms
onward_same n w cs ws ms = record { half = λ a A H. H; marks = λ u h. h; clean = λ C. C }

pub onward_next : {n w : ℕ} {cs ws ms cs' ws' ms' cs'' ws'' ms'' : List ℕ} → Onward n w cs ws ms cs' ws' ms' → Onward n w cs' ws' ms' cs'' ws'' ms''
    → Onward n w cs ws ms cs'' ws'' ms''
onward_next O P = record { half = λ a A H. P.half a A (O.half a A H); marks = λ u h. P.marks u (O.marks u h); clean = λ C. P.clean (O.clean C) }

-- a mark beyond the records
pub onward_beyond : (n w p : ℕ) (cs cs' ws ms : List ℕ) → n ≤ p → p < empty_marks → bit_at cs' ≡ put p 1 (bit_at cs) → Onward n w cs ws ms cs' ws ms
onward_beyond n w p cs cs' ws ms l pl e = record {
  half = λ a A H. half_beyond n a (bit_at cs) (bit_at cs') p (first_rows w ws ms) l pl e H;
  marks = λ u h. ap (λ (f : ℕ → ℕ). f u) e ∙ put_keeps (bit_at cs) p u h;
  clean = λ C. C;
}

-- row x is closed and marked
pub onward_row : (n w x : ℕ) (cs cs' ws ms ws' ms' : List ℕ) → x < empty_marks
    → bit_at cs x ≡ 0 → bit_at cs' ≡ put x 1 (bit_at cs) → RowClosed n w x (bit_at cs) ws ms ws' ms'
    → Onward n w cs ws ms cs' ws' ms'
onward_row n w x cs cs' ws ms ws' ms' xl z e R = record {
  half = λ a A H. subst (λ (s : ℕ → ℕ). Half n a s (first_rows w ws' ms')) (sym e)
      (half_more n a (bit_at cs) x (first_rows w ws ms) (first_rows w ws' ms') xl R.others (R.row a A H z) H);
  marks = λ u h. ap (λ (f : ℕ → ℕ). f u) e ∙ put_keeps (bit_at cs) x u h;
  clean = R.clean;
}

-- ---- all rows
-- a row with no pair leads nowhere
empty_closed : (n : ℕ) (a : Cells) → IsSet n a → (u : ℕ) → ((y : ℕ) → y < n → a u y ≡ 0) → (y : ℕ) → y < n → closure n a u y ≡ 0
empty_closed n a A u z y l = go (ℕ_discrete (closure n a u y) 1)
  where
    none : {y : ℕ} → y < n → OneOrMore a u y → ⊥
    none {y} l (once e) = absurd (omega (arith, e, z y l))
    none l (more {z = s} e p) = inside (dec_lt s n) e
      where
        inside : Dec (s < n) → a u s ≡ 1 → ⊥
        inside (yes h) e = absurd (omega (arith, e, z s h))
        inside (no h) e = absurd (omega (arith, e, A.column u s (omega arith)))

    go : Dec (closure n a u y ≡ 1) → closure n a u y ≡ 0
    go (yes e) = absurd (none l (closure_leads n a A n u y e))
    go (no e) = omega (arith, e, (closure_set n n a A).bit u y)

-- record u is closed, or has no pair
abbrev pub Settled : ℕ → Cells → (ℕ → ℕ) → ℕ → Type 0
Settled n a c u = (c u ≡ 1) ⊎ ((y : ℕ) → y < n → a u y ≡ 0)

-- records that are not filled
pub settled_gap : (n w : ℕ) (c f : ℕ → ℕ) (ws ms : List ℕ) (lo p : ℕ) → Filled n ms f → Gap f lo p
    → ((u : ℕ) → u < lo → Settled n (first n w ws ms) c u) → (u : ℕ) → u < p → Settled n (first n w ws ms) c u
settled_gap n w c f ws ms lo p F g all u l = go (dec_lt u lo) (dec_lt u n)
  where
    go : Dec (u < lo) → Dec (u < n) → Settled n (first n w ws ms) c u
    go (yes h) i = all u h
    go (no h) (yes i) = inr (λ y yl. unmasked_none n w ws ms u i (F.all u i (g u (omega arith) l)) y yl)
    go (no h) (no i) = inr (λ y yl. within_row n (first_rows w ws ms) u y (omega arith))

pub settled_next : (n : ℕ) (a : Cells) (c d : ℕ → ℕ) (x : ℕ) → ((u : ℕ) → u < x → Settled n a c u) → ((u : ℕ) → c u ≡ 1 → d u ≡ 1)
    → d x ≡ 1 → (u : ℕ) → u < x + 1 → Settled n a d u
settled_next n a c d x all keeps new u l = go (ℕ_discrete u x)
  where
    go : Dec (u ≡ x) → Settled n a d u
    go (yes e) = inl (ap d e ∙ new)
    go (no e) = ⊎_elim (λ h. inl (keeps u h)) (λ z. inr z) (all u (omega (arith, e)))

pub half_all : (n w : ℕ) (a : Cells) (c : ℕ → ℕ) (ws ms : List ℕ) → IsSet n a → ((u : ℕ) → c u < 2) → Half n a c (first_rows w ws ms)
    → ((u : ℕ) → u < n → Settled n a c u) → first n w ws ms ≡ closure n a
half_all n w a c ws ms A cb H all =
    within_same n (first_rows w ws ms) (closure n a) (λ u y ul l. go u y ul l (ℕ_discrete (c u) 1) (all u ul)) ∙
    within_set n (closure n a) (closure_set n n a A)
  where
    go : (u y : ℕ) → u < n → y < n → Dec (c u ≡ 1) → Settled n a c u → first_rows w ws ms u y ≡ closure n a u y
    go u y ul l (yes h) s = H.whole u y ul l h
    go u y ul l (no h) (inl k) = absurd (h k)
    go u y ul l (no h) (inr z) = H.plain u y ul l (omega (arith, h, cb u)) ∙ z y l ∙ sym (empty_closed n a A u z y l)

-- ---- rows of 1,024 bits
held_bit : (rs : List ℕ) (x y : ℕ) → y < 1024 → held rs (x * 16) y ≡ bit_at rs (x * 1024 + y)
unfolding held
held_bit rs x y l =
    let e : (x * 16 + y / 64) * 64 + y % 64 ≡ x * 1024 + y = omega arith in
    sym (ap (bit_at rs) (sym e) ∙ bit_in rs (x * 16 + y / 64) (y % 64) (omega arith))

pub clean_flat : (n : ℕ) (rs ms : List ℕ) → Clean n 16 rs ms → bit_at rs ≡ flat (first n 16 rs ms)
unfolding flat
clean_flat n rs ms C = fun_ext (λ p. go p)
  where
    go : (p : ℕ) → bit_at rs p ≡ first n 16 rs ms (p / 1024) (p % 1024)
    go p =
        let e : p ≡ p / 1024 * 1024 + p % 1024 = omega arith in
        ap (bit_at rs) e ∙ sym (held_bit rs (p / 1024) (p % 1024) (omega arith)) ∙ C (p / 1024) (p % 1024) (omega arith)

module _ (n : ℕ) (a : Cells) (rs ms : List ℕ) (nl : n ≤ 1024) (A : IsSet n a) (e : bit_at rs ≡ flat a)
    (M : (x : ℕ) → x < n → Masked (bit_at rs) x (get_or ms x 0)) where
  cell : (x y : ℕ) → y < 1024 → held rs (x * 16) y ≡ a x y
  cell x y l = held_bit rs x y l ∙ ap (λ (f : ℕ → ℕ). f (x * 1024 + y)) e ∙ flat_at a x y l

  row_cell : (x y : ℕ) → x < n → y < n → first_rows 16 rs ms x y ≡ a x y
  unfolding first_rows
  row_cell x y xl yl = go (ℕ_discrete (digit (get_or ms x 0) (y / 64)) 1)
    where
      go : Dec (digit (get_or ms x 0) (y / 64) ≡ 1) → row_of rs (x * 16) (get_or ms x 0) y ≡ a x y
      go (yes d) = sym (row_held rs (x * 16) (get_or ms x 0) y d) ∙ cell x y (omega arith)
      go (no d) =
          let z : digit (get_or ms x 0) (y / 64) ≡ 0 = omega (arith, d, digit_lt (get_or ms x 0) (y / 64)) in
          row_empty rs (x * 16) (get_or ms x 0) y z
          ∙ sym (sym (ap (λ (f : ℕ → ℕ). f (x * 1024 + y)) e ∙ flat_at a x y (omega arith)) ∙ M x xl y (omega arith) z)

  -- the relation with such masks is the set, and the rows are clean
  pub masked_set : first n 16 rs ms ≡ a
  masked_set = within_same n (first_rows 16 rs ms) a row_cell ∙ within_set n a A

  pub masked_clean : Clean n 16 rs ms
  masked_clean x y l = cell x y (omega arith) ∙ ap (λ (b : Cells). b x y) (sym masked_set)
