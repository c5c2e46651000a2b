-- Laws of a search: a row merged into another, clean words, what a search has seen and found, and the row that it closes.
--   first_bit, empty_row  a cell of the rows is 0 or 1; a row with no mask is empty
--   merged_here, merged_else, merged_self
--                         a row merged into another, as rows of the relation: this one, every other, and into itself
--   clean_merged, clean_past
--                         clean words after that, if no column from n on is merged in; they hold none
--   LookedTo n w p f g r  r is a column that is not seen, or those below p are, where all from n on are
--   lacks, looked_gap, fresh_found, looked_word
--                         the bits that a set lacks; words that are not in the mask; a column found in a word; a word looked at
--   Adding w b m c ws vs vs'
--                         a row added to a set, up to word c
--   adding_none, adding_gap, adding_word
--                         so before the first word, over words that are not in the mask, a word more
--   Search n a x r v      r is among what x leads to by a, with the columns of a x, and with all that the seen, v, lead to in one step
--   search_done           all that is found is seen: the row is closed
--   search_plain, search_whole
--                         a record more is seen, whose row is that of a, or is closed already
--   back_done             records that lead to one another lead to the same
--   put_keeps             a mark put leaves the marks that stand
--   Searching n w x c v ws ms ws' ms'
--                         row x is being searched, v is seen, and the other rows are as they were
--   searching_none, searching_more, left_less
--                         before the first; a record more; one less is left
--   row_done, row_back    the row is closed: all that is found is seen, or a whole row leads back
-- Assumes nothing.
use mathlib.Core.Path.{◌≡◌, refl, sym, ap, ap₂, ◌∙◌}
use mathlib.Core.Logic.{◌⊎◌, inl, inr, ⊎_elim}
use mathlib.Core.List.{List}
use Prim.Native.Nat.{ℕ, ◌+◌, ◌-◌, ◌*◌, ◌/◌, ◌%◌, ◌^◌, ◌≤◌, ◌<◌, min, max}
use native.Mathlib.Decide.{dec_lt, ℕ_discrete}
use native.Mathlib.Omega.{arith}
use lib.Bits.{bit_and, bit_or}
use lib.Dec.{eqb}
use lib.ListN.{length, get_or, set}
use Rattle.book.specs.Basics.{pick}
use Rattle.book.specs.Causes.{max_records}
use Rattle.k2.specs.Bits.{digit, bit_at, ones_below}
use Rattle.k2.specs.DigitLaws.{digit_none, digit_or, digit_and, digit_not}
use Rattle.k2.specs.BitLaws.{bit_lt, bit_in, bit_set, bit_set_off, ones_less}
use Rattle.k2.specs.PairSets.{Cells, IsSet, OneOrMore, once, more, closure}
use Rattle.k2.specs.PairSetLaws.{leads_on, closure_leads, leads_closure, closure_set}
use Rattle.bits.specs.BitSets.{Gap, put}
use Rattle.bits.specs.BitSetLaws.{put_at, put_off}
use Rattle.grid.specs.Grid.{row_of, first_rows, first}
use Rattle.grid.specs.GridLaws.{row_bit, within_in, within_row, within_column}
use Rattle.grid.specs.Steps.{held, Clean, Merged, Past, Fresh, empty_marks, Half, RowClosed}
use Rattle.grid.proofs.RowLaws.{row_same, row_empty, row_in, held_none}
use Rattle.grid.proofs.RelationLaws.{rows_apart}

pub first_bit : (w : ℕ) (ws ms : List ℕ) (x y : ℕ) → first_rows w ws ms x y < 2
unfolding first_rows
first_bit w ws ms x y = row_bit ws (x * w) (get_or ms x 0) y

pub empty_row : (n w : ℕ) (ws ms : List ℕ) (m : ℕ) → get_or ms m 0 ≡ 0 → (y : ℕ) → first_rows w ws ms m y ≡ 0
unfolding first_rows
empty_row n w ws ms m e y = row_empty ws (m * w) (get_or ms m 0) y (ap (λ (v : ℕ). digit v (y / 64)) e ∙ digit_none (y / 64))

-- ---- a row merged into another, as rows of the relation
pub merged_here : (w t : ℕ) (src : ℕ → ℕ) (ws ms ws' ms' : List ℕ) → Merged w t (t * w) src ws ms ws' ms' → (y : ℕ) → y < w * 64
    → first_rows w ws' ms' t y ≡ max (first_rows w ws ms t y) (src y)
unfolding first_rows
merged_here w t src ws ms ws' ms' M y l = M.row y l

pub merged_else : (w t : ℕ) (src : ℕ → ℕ) (ws ms ws' ms' : List ℕ) → Merged w t (t * w) src ws ms ws' ms' → (u y : ℕ) → y < w * 64 → (u ≡ t → ⊥)
    → first_rows w ws' ms' u y ≡ first_rows w ws ms u y
unfolding first_rows
merged_else w t src ws ms ws' ms' M u y l n = go (dec_lt u t)
  where
    go : Dec (u < t) → row_of ws' (u * w) (get_or ms' u 0) y ≡ row_of ws (u * w) (get_or ms u 0) y
    go (yes h) = row_same ws' ws (u * w) _ _ y (M.masks u n) (M.below (u * w + y / 64) (omega (arith, rows_apart u t w h)))
    go (no h) = row_same ws' ws (u * w) _ _ y (M.masks u n) (M.above (u * w + y / 64) (omega (arith, rows_apart t u w (omega (arith, n, h)))))

pub merged_self : (w x : ℕ) (ws ms : List ℕ) → Merged w x (x * w) (first_rows w ws ms x) ws ms ws ms
merged_self w x ws ms = record {
  row = λ y h. unfold first_rows in (omega arith);
  below = λ k h. refl;
  above = λ k h. refl;
  masks = λ k n. refl;
  clean = λ y h k. k;
}

-- ---- clean words
-- what another row held it holds
held_else : (w x : ℕ) (src : ℕ → ℕ) (ws ms ws' ms' : List ℕ) → Merged w x (x * w) src ws ms ws' ms' → (u y : ℕ) → y < w * 64 → (u ≡ x → ⊥)
    → held ws' (u * w) y ≡ held ws (u * w) y
unfolding held
held_else w x src ws ms ws' ms' M u y l d = ap (λ (v : ℕ). digit v (y % 64)) (go (dec_lt u x))
  where
    go : Dec (u < x) → get_or ws' (u * w + y / 64) 0 ≡ get_or ws (u * w + y / 64) 0
    go (yes h) = M.below (u * w + y / 64) (omega (arith, rows_apart u x w h))
    go (no h) = M.above (u * w + y / 64) (omega (arith, rows_apart x u w (omega (arith, d, h))))

-- a row merged into row x that has no column from n on
module _ (n w x : ℕ) (src : ℕ → ℕ) (ws ms ws' ms' : List ℕ) (xl : x < n) (M : Merged w x (x * w) src ws ms ws' ms')
    (z : (y : ℕ) → n ≤ y → y < w * 64 → src y ≡ 0) (C : Clean n w ws ms) where
  clean_here : (y : ℕ) → y < w * 64 → held ws' (x * w) y ≡ first n w ws' ms' x y
  unfolding first_rows
  clean_here y l = go (dec_lt y n)
    where
      go : Dec (y < n) → held ws' (x * w) y ≡ first n w ws' ms' x y
      go (yes h) = M.clean y l (C x y l ∙ within_in n (first_rows w ws ms) x y xl h) ∙ sym (within_in n (first_rows w ws' ms') x y xl h)
      go (no h) =
          let e : held ws (x * w) y ≡ 0 = C x y l ∙ within_column n (first_rows w ws ms) x y (omega arith) in
          let r : row_of ws (x * w) (get_or ms x 0) y ≡ 0 = held_none ws (x * w) (get_or ms x 0) y e in
          M.clean y l (e ∙ sym r) ∙ M.row y l ∙ ap₂ max r (z y (omega arith) l) ∙ sym (within_column n (first_rows w ws' ms') x y (omega arith))

  clean_else : (u y : ℕ) → y < w * 64 → (u ≡ x → ⊥) → held ws' (u * w) y ≡ first n w ws' ms' u y
  clean_else u y l d = held_else w x src ws ms ws' ms' M u y l d ∙ C u y l ∙ go (dec_lt u n) (dec_lt y n)
    where
      go : Dec (u < n) → Dec (y < n) → first n w ws ms u y ≡ first n w ws' ms' u y
      go (yes i) (yes h) =
          within_in n (first_rows w ws ms) u y i h ∙ sym (merged_else w x src ws ms ws' ms' M u y l d) ∙ sym (within_in n (first_rows w ws' ms') u y i h)
      go (no i) h = within_row n (first_rows w ws ms) u y (omega arith) ∙ sym (within_row n (first_rows w ws' ms') u y (omega arith))
      go (yes i) (no h) = within_column n (first_rows w ws ms) u y (omega arith) ∙ sym (within_column n (first_rows w ws' ms') u y (omega arith))

  pub clean_merged : Clean n w ws' ms'
  clean_merged u y l = go (ℕ_discrete u x)
    where
      go : Dec (u ≡ x) → held ws' (u * w) y ≡ first n w ws' ms' u y
      go (yes d) = rw d (clean_here y l)
      go (no d) = clean_else u y l d

-- clean words hold no column from n on
pub clean_past : (n w : ℕ) (ws ms : List ℕ) → Clean n w ws ms → (z y : ℕ) → n ≤ y → y < w * 64 → first_rows w ws ms z y ≡ 0
unfolding first_rows
clean_past n w ws ms C z y h l = held_none ws (z * w) (get_or ms z 0) y (C z y l ∙ within_column n (first_rows w ws ms) z y h)

-- ---- a column that is not seen
-- r is one, if it is below n; else the columns below p are seen
pub record LookedTo (n w p : ℕ) (f g : ℕ → ℕ) (r : ℕ) : Type 0 where
  pub found : r < n → (f r ≡ 1) × (g r ≡ 0)
  pub all : Past n w g → n ≤ r → (y : ℕ) → y < n → y < p → f y ≡ 1 → g y ≡ 1

-- the bits of a word that a set lacks
pub lacks : (ws vs : List ℕ) (b c : ℕ) → get_or vs c 0 < 2 ^ 64 → (j : ℕ) → j < 64
    → digit (bit_and (get_or ws (b + c) 0) ((2 ^ 64 - 1) - get_or vs c 0)) j ≡ min (digit (get_or ws (b + c) 0) j) (1 - bit_at vs (c * 64 + j))
lacks ws vs b c f j h =
    digit_and (get_or ws (b + c) 0) ((2 ^ 64 - 1) - get_or vs c 0) j
    ∙ ap (min (digit (get_or ws (b + c) 0) j)) (digit_not 64 j (get_or vs c 0) f h ∙ ap (λ (k : ℕ). 1 - k) (sym (bit_in vs c j h)))

module _ (n w b m : ℕ) (ws vs : List ℕ) where
  abbrev Looked : (p r : ℕ) → Type 0
  Looked p r = LookedTo n w p (row_of ws b m) (bit_at vs) r

  -- words that are not in the mask
  pub looked_gap : (c k r : ℕ) → Gap (digit m) c k → Looked (c * 64) r → Looked (k * 64) r
  looked_gap c k r g L = record { found = L.found; all = λ p o y l h e. go p o y l h e (dec_lt y (c * 64)) }
    where
      go : Past n w (bit_at vs) → n ≤ r → (y : ℕ) → y < n → y < k * 64 → row_of ws b m y ≡ 1 → Dec (y < c * 64) → bit_at vs y ≡ 1
      go p o y l h e (yes d) = L.all p o y l d e
      go p o y l h e (no d) = absurd (omega (arith, e, row_empty ws b m y (g (y / 64) (omega arith) (omega arith))))

  module _ (c left : ℕ) (cl : c < w) (d : digit m c ≡ 1)
      (lack : (j : ℕ) → j < 64 → digit left j ≡ min (digit (get_or ws (b + c) 0) j) (1 - bit_at vs (c * 64 + j))) where
    -- what is left of word c, in terms of the row and the set
    left_is : (y : ℕ) → y / 64 ≡ c → digit left (y % 64) ≡ min (row_of ws b m y) (1 - bit_at vs y)
    left_is y q =
        let e : c * 64 + y % 64 ≡ y = omega arith in
        lack (y % 64) (omega arith) ∙ ap₂ (λ (p q : ℕ). min p (1 - q)) (sym (row_in ws b m c y q d)) (ap (bit_at vs) e)

    pub fresh_found : (k : ℕ) → k < 64 → digit left k ≡ 1 → Fresh n w (row_of ws b m) (bit_at vs) (c * 64 + k)
    fresh_found k h e =
        let q : (c * 64 + k) / 64 ≡ c = omega arith in
        let r : (c * 64 + k) % 64 ≡ k = omega arith in
        let z : digit left k ≡ min (row_of ws b m (c * 64 + k)) (1 - bit_at vs (c * 64 + k)) = rw r at (left_is (c * 64 + k) q) in
        record {
          found = λ i. (omega (arith, e, z, row_bit ws b m (c * 64 + k)), omega (arith, e, z));
          all = λ p o. absurd (omega (arith, e, z, p (c * 64 + k) o (omega arith)));
        }

    pub looked_word : (f r : ℕ) → ((r ≡ f) × ((f < n) ⊎ (left ≡ 0))) ⊎ ((k : ℕ) × (k < 64) × (digit left k ≡ 1) × (r ≡ c * 64 + k))
        → Looked (c * 64) f → Looked ((c + 1) * 64) r
    looked_word f r (inl (e, inl l)) L = rw e (record { found = L.found; all = λ p o. absurd (omega arith) })
    looked_word f r (inl (q, inr z)) L = rw q (record { found = L.found; all = λ p o y l h e. go p o y l h e (dec_lt y (c * 64)) })
      where
        go : Past n w (bit_at vs) → n ≤ f → (y : ℕ) → y < n → y < (c + 1) * 64 → row_of ws b m y ≡ 1 → Dec (y < c * 64) → bit_at vs y ≡ 1
        go p o y l h e (yes k) = L.all p o y l k e
        go p o y l h e (no k) =
            let i : y / 64 ≡ c = omega arith in
            let t : digit left (y % 64) ≡ 0 = ap (λ (v : ℕ). digit v (y % 64)) z ∙ digit_none (y % 64) in
            omega (arith, left_is y i, t, e, bit_lt vs y)
    looked_word f r (inr (k, l, d, e)) L = rw e (let F = fresh_found k l d in record { found = F.found; all = λ p o y l h e. F.all p o y l e })

-- ---- a row added to a set, word by word
-- the columns before word c are added
pub record Adding (w b m c : ℕ) (ws vs vs' : List ℕ) : Type 0 where
  pub done : (y : ℕ) → y < c * 64 → y < w * 64 → bit_at vs' y ≡ max (bit_at vs y) (row_of ws b m y)
  pub ahead : (y : ℕ) → c * 64 ≤ y → bit_at vs' y ≡ bit_at vs y

pub adding_none : (w b m : ℕ) (ws vs : List ℕ) → Adding w b m 0 ws vs vs
adding_none w b m ws vs = record { done = λ y h. absurd (omega arith); ahead = λ y h. refl }

module _ (w b m : ℕ) (ws vs vs' : List ℕ) where
  pub adding_gap : (c k : ℕ) → c ≤ k → Gap (digit m) c k → Adding w b m c ws vs vs' → Adding w b m k ws vs vs'
  adding_gap c k low g A = record { done = λ y h l. go y h l (dec_lt y (c * 64)); ahead = λ y h. A.ahead y (omega arith) }
    where
      go : (y : ℕ) → y < k * 64 → y < w * 64 → Dec (y < c * 64) → bit_at vs' y ≡ max (bit_at vs y) (row_of ws b m y)
      go y h l (yes d) = A.done y d l
      go y h l (no d) =
          A.ahead y (omega arith) ∙ sym (ap (max (bit_at vs y)) (row_empty ws b m y (g (y / 64) (omega arith) (omega arith))) ∙ omega arith)

  pub adding_word : (c : ℕ) → c < length vs' → digit m c ≡ 1 → Adding w b m c ws vs vs'
      → Adding w b m (c + 1) ws vs (set vs' c (bit_or (get_or vs' c 0) (get_or ws (b + c) 0)))
  adding_word c cl d A = record {
    done = λ y h l. go y h l (ℕ_discrete (y / 64) c);
    ahead = λ y h. bit_set_off vs' c _ y (λ q. absurd (omega arith)) ∙ A.ahead y (omega arith);
  }
    where
      v : ℕ
      v = bit_or (get_or vs' c 0) (get_or ws (b + c) 0)

      go : (y : ℕ) → y < (c + 1) * 64 → y < w * 64 → Dec (y / 64 ≡ c) → bit_at (set vs' c v) y ≡ max (bit_at vs y) (row_of ws b m y)
      go y h l (yes q) =
          let e : c * 64 + y % 64 ≡ y = omega arith in
          let old : digit (get_or vs' c 0) (y % 64) ≡ bit_at vs y = sym (bit_in vs' c (y % 64) (omega arith)) ∙ ap (bit_at vs') e ∙ A.ahead y (omega arith) in
          bit_set vs' c v y cl q ∙ digit_or (get_or vs' c 0) (get_or ws (b + c) 0) (y % 64) ∙ ap₂ max old (sym (row_in ws b m c y q d))
      go y h l (no q) = bit_set_off vs' c v y q ∙ A.done y (omega (arith, q)) l

-- ---- a search
pub record Search (n : ℕ) (a : Cells) (x : ℕ) (r v : ℕ → ℕ) : Type 0 where
  pub sound : (y : ℕ) → y < n → r y ≡ 1 → OneOrMore a x y
  pub start : (y : ℕ) → y < n → a x y ≡ 1 → r y ≡ 1
  pub step : (z y : ℕ) → z < n → y < n → v z ≡ 1 → a z y ≡ 1 → r y ≡ 1

either : (p q : ℕ) → p < 2 → q < 2 → max p q ≡ 1 → (p ≡ 1) ⊎ (q ≡ 1)
either p q a b e = go (ℕ_discrete p 1)
  where
    go : Dec (p ≡ 1) → (p ≡ 1) ⊎ (q ≡ 1)
    go (yes h) = inl h
    go (no h) = inr (omega (arith, h))

left_one : (p q : ℕ) → q < 2 → p ≡ 1 → max p q ≡ 1
left_one p q b e = omega arith

right_one : (p q : ℕ) → p < 2 → q ≡ 1 → max p q ≡ 1
right_one p q b e = omega arith

-- all that is found is seen: the row is closed
module _ (n : ℕ) (a : Cells) (A : IsSet n a) (x : ℕ) (r v : ℕ → ℕ) (rb : (y : ℕ) → r y < 2)
    (S : Search n a x r v) (all : (y : ℕ) → y < n → r y ≡ 1 → v y ≡ 1) where
  inside : (u y : ℕ) → a u y ≡ 1 → y < n
  inside u y e = go (dec_lt y n)
    where
      go : Dec (y < n) → y < n
      go (yes h) = h
      go (no h) = absurd (omega (arith, A.column u y (omega arith)))

  reached : {u y : ℕ} → OneOrMore a u y → ((s : ℕ) → s < n → a u s ≡ 1 → r s ≡ 1) → r y ≡ 1
  reached {u} {y} (once e) h = h y (inside u y e) e
  reached {u} {y} (more {z = z} e p) h =
      let l = inside u z e in
      reached p (λ s k f. S.step z s l k (all z l (h z l e)) f)

  pub search_done : (y : ℕ) → y < n → r y ≡ closure n a x y
  search_done y l = go (ℕ_discrete (r y) 1) (ℕ_discrete (closure n a x y) 1)
    where
      go : Dec (r y ≡ 1) → Dec (closure n a x y ≡ 1) → r y ≡ closure n a x y
      go (yes e) d = e ∙ sym (leads_closure n a A (S.sound y l e))
      go (no e) (yes d) = absurd (e (reached (closure_leads n a A n x y d) S.start))
      go (no e) (no d) = omega (arith, rb y, (closure_set n n a A).bit x y, e, d)

-- record z, which is found, is seen
module _ (n : ℕ) (a : Cells) (A : IsSet n a) (x z : ℕ) (zl : z < n) (r v r' v' q : ℕ → ℕ)
    (rb : (y : ℕ) → r y < 2) (vb : (y : ℕ) → v y < 2) (qb : (y : ℕ) → q y < 2)
    (S : Search n a x r v) (found : r z ≡ 1) (row : (y : ℕ) → y < n → r' y ≡ max (r y) (q y)) where
  -- its row is that of a, or is that of x
  pub search_plain : ((y : ℕ) → y < n → v' y ≡ 1 → (v y ≡ 1) ⊎ (y ≡ z)) → ((y : ℕ) → y < n → a z y ≡ 1 → max (r y) (q y) ≡ 1)
      → ((y : ℕ) → y < n → q y ≡ 1 → OneOrMore a x y) → Search n a x r' v'
  search_plain seen all sound = record {
    sound = λ y l e. ⊎_elim (S.sound y l) (sound y l) (either (r y) (q y) (rb y) (qb y) (sym (row y l) ∙ e));
    start = λ y l e. row y l ∙ left_one (r y) (q y) (qb y) (S.start y l e);
    step =
        λ u y ul l e f. row y l ∙ ⊎_elim (λ h. left_one (r y) (q y) (qb y) (S.step u y ul l h f))
        (λ h. all y l (ap (λ (k : ℕ). a k y) (sym h) ∙ f)) (seen u ul e);
  }

  -- its row is closed
  pub search_whole : ((y : ℕ) → y < n → q y ≡ closure n a z y) → ((y : ℕ) → y < n → v' y ≡ 1 → ((v y ≡ 1) ⊎ (q y ≡ 1)) ⊎ (y ≡ z)) → Search n a x r' v'
  search_whole whole seen = record {
    sound = λ y l e. ⊎_elim (S.sound y l) (λ h. leads_on (S.sound z zl found) (leads y l h)) (either (r y) (q y) (rb y) (qb y) (sym (row y l) ∙ e));
    start = λ y l e. row y l ∙ left_one (r y) (q y) (qb y) (S.start y l e);
    step = λ u y ul l e f.
        row y l
        ∙ ⊎_elim (λ g. ⊎_elim (λ h. left_one (r y) (q y) (qb y) (S.step u y ul l h f)) (λ h. new y l (leads_on (leads u ul h) (once f))) g)
        (λ h. new y l (once (ap (λ (k : ℕ). a k y) (sym h) ∙ f))) (seen u ul e);
  }
    where
      leads : (y : ℕ) → y < n → q y ≡ 1 → OneOrMore a z y
      leads y l e = closure_leads n a A n z y (sym (whole y l) ∙ e)

      new : (y : ℕ) → y < n → OneOrMore a z y → max (r y) (q y) ≡ 1
      new y l p = right_one (r y) (q y) (rb y) (whole y l ∙ leads_closure n a A p)

-- records that lead to one another lead to the same
pub back_done : (n : ℕ) (a : Cells) (A : IsSet n a) (x z : ℕ) → OneOrMore a x z → OneOrMore a z x → (r y : ℕ) → r < 2 → (r ≡ 1 → OneOrMore a x y)
    → {q : ℕ} → q ≡ closure n a z y → max r q ≡ closure n a x y
back_done n a A x z there home r y rb sound {q} e = go (ℕ_discrete (closure n a x y) 1)
  where
    cb : (u : ℕ) → closure n a u y < 2
    cb u = (closure_set n n a A).bit u y

    go : Dec (closure n a x y ≡ 1) → max r q ≡ closure n a x y
    go (yes h) = right_one r q rb (e ∙ leads_closure n a A (leads_on home (closure_leads n a A n x y h))) ∙ sym h
    go (no h) =
        let p : (r ≡ 1 → ⊥) = λ d. h (leads_closure n a A (sound d)) in
        let k : (closure n a z y ≡ 1 → ⊥) = λ d. h (leads_closure n a A (leads_on there (closure_leads n a A n z y d))) in
        let r0 : r ≡ 0 = omega (arith, p, rb) in
        let z0 : closure n a z y ≡ 0 = omega (arith, k, cb z) in
        let x0 : closure n a x y ≡ 0 = omega (arith, h, cb x) in
        ap₂ max r0 (e ∙ z0) ∙ sym x0

-- a mark put leaves the marks that stand
pub put_keeps : (c : ℕ → ℕ) (x u : ℕ) → c u ≡ 1 → put x 1 c u ≡ 1
put_keeps c x u e = go (ℕ_discrete u x)
  where
    go : Dec (u ≡ x) → put x 1 c u ≡ 1
    go (yes d) = ap (put x 1 c) d ∙ put_at x 1 c
    go (no d) = put_off x 1 c u d ∙ e

-- ---- the rows, while row x is searched
pub record Searching (n w x : ℕ) (c v : ℕ → ℕ) (ws ms ws' ms' : List ℕ) : Type 0 where
  pub others : (u y : ℕ) → u < n → y < w * 64 → (u ≡ x → ⊥) → first_rows w ws' ms' u y ≡ first_rows w ws ms u y
  pub search : (a : Cells) → IsSet n a → Half n a c (first_rows w ws ms) → c x ≡ 0 → Search n a x (first_rows w ws' ms' x) v
  pub past : ((u : ℕ) → n ≤ u → u < max_records → c (empty_marks + u) ≡ 1) → Past n w v
  pub clean : Clean n w ws ms → Clean n w ws' ms'

pub searching_none : (n w x : ℕ) (c v : ℕ → ℕ) (ws ms : List ℕ) → n ≤ max_records → w ≤ 16 → x < n
    → ((u : ℕ) → u < max_records → v u ≡ c (empty_marks + u)) → Searching n w x c v ws ms ws ms
searching_none n w x c v ws ms nl wl xl e = record {
  others = λ u y ul l h. refl;
  search = λ a A H z. record {
    sound = λ y l h. once (sym (H.plain x y xl l z) ∙ h);
    start = λ y l h. H.plain x y xl l z ∙ h;
    step = λ u y ul l h f. absurd (omega (arith, f, H.empty u y ul l (sym (e u (omega arith)) ∙ h)));
  };
  past = λ P y h l. e y (omega arith) ∙ P y h (omega arith);
  clean = λ C. C;
}

module _ (n w x z : ℕ) (c v : ℕ → ℕ) (ws ms ws' ms' ws'' ms'' : List ℕ) (nl : n ≤ w * 64) (xl : x < n) (zl : z < n)
    (N : Merged w x (x * w) (first_rows w ws' ms' z) ws' ms' ws'' ms'') (found : first_rows w ws' ms' x z ≡ 1) (T : Searching n w x c v ws ms ws' ms') where
  row_is : (y : ℕ) → y < n → first_rows w ws'' ms'' x y ≡ max (first_rows w ws' ms' x y) (first_rows w ws' ms' z y)
  row_is y l = merged_here w x _ ws' ms' ws'' ms'' N y (omega arith)

  led_others : (u y : ℕ) → u < n → y < w * 64 → (u ≡ x → ⊥) → first_rows w ws'' ms'' u y ≡ first_rows w ws ms u y
  led_others u y ul l h = merged_else w x _ ws' ms' ws'' ms'' N u y l h ∙ T.others u y ul l h

  led_clean : Clean n w ws ms → Clean n w ws'' ms''
  led_clean C = clean_merged n w x _ ws' ms' ws'' ms'' xl N (clean_past n w ws' ms' (T.clean C) z) (T.clean C)

  -- row z is whole, and leads to x
  pub row_back : c z ≡ 1 → first_rows w ws'' ms'' z x ≡ 1 → RowClosed n w x c ws ms ws'' ms''
  row_back whole back = record { others = λ u y ul l h. led_others u y ul (omega arith) h; row = λ a A H cx y l. go a A H cx y l; clean = led_clean }
    where
      go : (a : Cells) → IsSet n a → Half n a c (first_rows w ws ms) → c x ≡ 0 → (y : ℕ) → y < n → first_rows w ws'' ms'' x y ≡ closure n a x y
      go a A H cx y l =
          let S = T.search a A H cx in
          let e : (z ≡ x → ⊥) = λ d. absurd (omega (arith, whole, ap c d ∙ cx)) in
          let is : (y : ℕ) → y < n → first_rows w ws' ms' z y ≡ closure n a z y = λ y l. T.others z y zl (omega arith) e ∙ H.whole z y zl l whole in
          let there : OneOrMore a x z = S.sound z zl found in
          let home : OneOrMore a z x = closure_leads n a A n z x
          (sym (is x xl) ∙ sym (merged_else w x _ ws' ms' ws'' ms'' N z x (omega arith) e) ∙ back) in
          row_is y l ∙ back_done n a A x z there home (first_rows w ws' ms' x y) y (first_bit w ws' ms' x y) (S.sound y l) (is y l)

  -- a record more is seen
  module _ (v' : ℕ → ℕ) (seen : (y : ℕ) → y < w * 64 → v' y ≡ max (put z 1 v y) (pick (eqb (c z) 1) (first_rows w ws'' ms'' z y) 0)) where
    seen_plain : c z ≡ 0 → (y : ℕ) → y < n → v' y ≡ 1 → (v y ≡ 1) ⊎ (y ≡ z)
    seen_plain e y l h = go (ℕ_discrete y z)
      where
        go : Dec (y ≡ z) → (v y ≡ 1) ⊎ (y ≡ z)
        go (yes d) = inr d
        go (no d) =
            let pk : pick (eqb (c z) 1) (first_rows w ws'' ms'' z y) 0 ≡ 0 = rw e refl in
            inl (omega (arith, sym (seen y (omega arith)) ∙ h, put_off z 1 v y d, pk))

    seen_whole : c z ≡ 1 → (z ≡ x → ⊥) → ((y : ℕ) → v y < 2) → (y : ℕ) → y < n → v' y ≡ 1 → ((v y ≡ 1) ⊎ (first_rows w ws' ms' z y ≡ 1)) ⊎ (y ≡ z)
    seen_whole e f vb y l h = go (ℕ_discrete y z)
      where
        go : Dec (y ≡ z) → ((v y ≡ 1) ⊎ (first_rows w ws' ms' z y ≡ 1)) ⊎ (y ≡ z)
        go (yes d) = inr d
        go (no d) =
            let pk : pick (eqb (c z) 1) (first_rows w ws'' ms'' z y) 0 ≡ first_rows w ws' ms' z y =
            rw e (merged_else w x _ ws' ms' ws'' ms'' N z y (omega arith) f) in
            inl (either (v y) (first_rows w ws' ms' z y) (vb y) (first_bit w ws' ms' z y)
            (omega (arith, sym (seen y (omega arith)) ∙ h, put_off z 1 v y d, pk)))

    pub searching_more : ((y : ℕ) → c y < 2) → ((y : ℕ) → v y < 2) → ((y : ℕ) → v' y < 2) → Searching n w x c v' ws ms ws'' ms''
    searching_more cb vb nb = record {
      others = led_others;
      search = λ a A H cx. go a A H cx (T.search a A H cx) (ℕ_discrete z x) (ℕ_discrete (c z) 1);
      past = λ P y h l. omega (arith, seen y l, put_keeps v z y (T.past P y h l), nb y);
      clean = led_clean;
    }
      where
        go : (a : Cells) → IsSet n a → Half n a c (first_rows w ws ms) → c x ≡ 0 → Search n a x (first_rows w ws' ms' x) v → Dec (z ≡ x)
            → Dec (c z ≡ 1) → Search n a x (first_rows w ws'' ms'' x) v'
        go a A H cx S (yes e) d =
            search_plain n a A x z zl _ _ _ _ (first_rows w ws' ms' z) (first_bit w ws' ms' x) vb (first_bit w ws' ms' z) S found
            row_is (seen_plain (ap c e ∙ cx))
            (λ y l h. left_one (first_rows w ws' ms' x y) (first_rows w ws' ms' z y) (first_bit w ws' ms' z y)
            (S.start y l (ap (λ (k : ℕ). a k y) (sym e) ∙ h)))
            (λ y l h. S.sound y l (ap (λ (k : ℕ). first_rows w ws' ms' k y) (sym e) ∙ h))
        go a A H cx S (no e) (yes d) =
            search_whole n a A x z zl _ _ _ _ (first_rows w ws' ms' z) (first_bit w ws' ms' x) vb (first_bit w ws' ms' z) S found
            row_is (λ y l. T.others z y zl (omega arith) e ∙ H.whole z y zl l d) (seen_whole d e vb)
        go a A H cx S (no e) (no d) =
            let cz : c z ≡ 0 = omega (arith, cb z, d) in
            let is : (y : ℕ) → y < n → first_rows w ws' ms' z y ≡ a z y = λ y l. T.others z y zl (omega arith) e ∙ H.plain z y zl l cz in
            search_plain n a A x z zl _ _ _ _ (first_rows w ws' ms' z) (first_bit w ws' ms' x) vb (first_bit w ws' ms' z) S found
            row_is (seen_plain cz)
            (λ y l h. right_one (first_rows w ws' ms' x y) (first_rows w ws' ms' z y) (first_bit w ws' ms' x y) (is y l ∙ h))
            (λ y l h. leads_on (S.sound z zl found) (once (sym (is y l) ∙ h)))

    -- one record less is left
    pub left_less : v z ≡ 0 → ones_below (λ y. 1 - v' y) n < ones_below (λ y. 1 - v y) n
    left_less e =
        ones_less (λ y. 1 - v' y) (λ y. 1 - v y) n z zl
        (λ y l. omega (arith, seen y (omega arith), put_most y))
        (omega (arith, seen z (omega arith), put_at z 1 v))
      where
        put_most : (y : ℕ) → v y ≤ put z 1 v y
        put_most y = go (ℕ_discrete y z)
          where
            go : Dec (y ≡ z) → v y ≤ put z 1 v y
            go (yes d) = rw (d, e) (omega arith)
            go (no d) = rw (put_off z 1 v y d) (omega arith)

-- all that is found is seen
pub row_done : (n w x z : ℕ) (c v : ℕ → ℕ) (ws ms ws' ms' : List ℕ) → n ≤ w * 64 → n ≤ z → Fresh n w (first_rows w ws' ms' x) v z
    → Searching n w x c v ws ms ws' ms' → RowClosed n w x c ws ms ws' ms'
row_done n w x z c v ws ms ws' ms' nl h F T = record {
  others = λ u y ul l d. T.others u y ul (omega arith) d;
  row = λ a A H cx y l. search_done n a A x (first_rows w ws' ms' x) v (first_bit w ws' ms' x) (T.search a A H cx) (F.all (T.past H.past) h) y l;
  clean = T.clean;
}
