-- Laws of labels: one out of range, their set as the bits of a number, the links that are kept, and the letters of a text.
--   above_here, above_next, above_end, above_none
--                      looking for a label above 25: here, further on, none left; with none, all are below 26
--   contains_none, contains_more
--                      the set of labels as the bits of a number: empty, and one label more
--   keep_yes, keep_no  the links that are kept: a link of the labels, and one that is not
--   separator_bar      the byte before any letter but the first is a bar
--   two_more           two bytes more
--   Laid set k text count
--                      the letters below k of a set are in the text
--   laid_none, laid_yes, laid_no
--                      no letter yet; a letter of the set, and one that is not
-- Assumes nothing.
use mathlib.Core.Path.{◌≡◌, refl, sym, ap, ap₂, ◌∙◌}
use mathlib.Core.List.{List, [], ◌∷◌, ◌++◌, append_assoc, append-nil}
use mathlib.Core.Bool.{Bool, true, false, ◌||◌}
use Prim.Native.Nat.{ℕ, zero, suc, ◌+◌, ◌*◌, ◌/◌, ◌%◌, ◌^◌, ◌<◌, ◌≤◌}
use native.Mathlib.Numerals.{add-one}
use native.Mathlib.Omega.{arith}
use native.Mathlib.Decide.{ℕ_discrete}
use lib.Bits.{bit_or}
use lib.Dec.{leb, eqb}
use lib.ListN.{length, get_or, set, take, drop, length-set, drop_of_length-le}
use lib.Seq.{drop-cons, take-suc, take-suc-set, length-take-le}
use borrow.Author.Tests.{le-leb, lt-leb, leb-false, eq-eqb, ne_eqb, eqb-true, eqb-false}
use Rattle.book.specs.Basics.{pick, bit, has}
use Rattle.book.proofs.SetLaws.{or_neither, or-true}
use Rattle.k2.specs.Bits.{digit}
use Rattle.k2.specs.DigitLaws.{digit_none, digit_lt, one_shl_32}
use Rattle.k2.specs.PairSets.{if_set}
use Rattle.bits.specs.BitSets.{put}
use Rattle.bits.specs.BitSetLaws.{put_at, put_off, digit_or_pow}
use Rattle.paths.specs.Grammar.{bar, open_group, letter_a}
use Rattle.rows.specs.Rows.{places}
use Rattle.rows.specs.RowSets.{labelled}
use Rattle.generations.specs.Generations.{above}
use Rattle.generations.specs.Inner.{Contains, separator_at, letters_after}

-- ---- labels above 25
module _ (ls : List ℕ) (i : ℕ) (h : i < length ls) where
  pub above_here : 26 ≤ get_or ls i 0 → above (drop i ls) ≡ true
  unfolding above
  above_here g = ap above (drop-cons ls i 0 h) ∙ ap (λ (t : Bool). t || above (drop (suc i) ls)) (le-leb 26 (get_or ls i 0) g)

  pub above_next : get_or ls i 0 < 26 → above (drop i ls) ≡ above (drop (i + 1) ls)
  unfolding above
  above_next g =
      ap above (drop-cons ls i 0 h) ∙ ap (λ (t : Bool). t || above (drop (suc i) ls)) (lt-leb 26 (get_or ls i 0) g)
      ∙ ap (λ (k : ℕ). above (drop k ls)) (sym (add-one i))

pub above_end : (ls : List ℕ) (i : ℕ) → length ls ≤ i → above (drop i ls) ≡ false
unfolding above
above_end ls i h = ap above (drop_of_length-le ls h)

pub above_none : (ls : List ℕ) → above ls ≡ false → (i : ℕ) → i < length ls → get_or ls i 0 < 26
unfolding above
above_none [] e i h = absurd (omega arith)
above_none (l ∷ ls) e zero h = small (leb 26 l) refl (or_neither (leb 26 l) (above ls) e).0
  where
    small : (t : Bool) → leb 26 l ≡ t → t ≡ false → l < 26
    small true p q = absurd (let z : ◌≡◌ {A = ℕ} 0 1 = cc in omega arith)
    small false p q = leb-false 26 l p
above_none (l ∷ ls) e (suc i) h = above_none ls (or_neither (leb 26 l) (above ls) e).1 i (omega arith)

-- ---- the set of labels
or-false : (t : Bool) → (t || false) ≡ t
or-false true = refl
or-false false = refl

has_last : (x : ℕ) (l : List ℕ) (y : ℕ) → has eqb x (l ++ (y ∷ [])) ≡ (has eqb x l || eqb y x)
unfolding has
has_last x [] y = or-false (eqb y x)
has_last x (z ∷ l) y = ap (λ (t : Bool). eqb z x || t) (has_last x l y) ∙ sym (or_assoc (eqb z x) (has eqb x l) (eqb y x))
  where
    or_assoc : (a b c : Bool) → ((a || b) || c) ≡ (a || (b || c))
    or_assoc true b c = refl
    or_assoc false b c = refl

pub contains_none : (ls : List ℕ) → Contains 0 (take 0 ls)
unfolding has
contains_none ls l = digit_none l

pub contains_more : (m : ℕ) (ls : List ℕ) (i : ℕ) → i < length ls → get_or ls i 0 < 26
    → Contains m (take i ls) → Contains (bit_or m ((1 * 2 ^ get_or ls i 0) % 2 ^ 32)) (take (i + 1) ls)
contains_more m ls i h g C l =
    let k : ℕ = get_or ls i 0 in
    let e : has eqb l (take (i + 1) ls) ≡ (has eqb l (take i ls) || eqb k l) =
    ap (λ (j : ℕ). has eqb l (take j ls)) (add-one i) ∙ ap (has eqb l) (take-suc ls i 0 h) ∙ has_last l (take i ls) k in
    ap (λ (v : ℕ). digit (bit_or m v) l) (one_shl_32 k (omega arith)) ∙ digit_or_pow m k l ∙ go k (ℕ_discrete l k) ∙ ap bit (sym e)
  where
    go : (k : ℕ) → Dec (l ≡ k) → put k 1 (digit m) l ≡ bit (has eqb l (take i ls) || eqb k l)
    go k (yes q) = ap (put k 1 (digit m)) q ∙ put_at k 1 (digit m) ∙ rw (eq-eqb k l (sym q), or-true (has eqb l (take i ls)))
    go k (no n) = put_off k 1 (digit m) l n ∙ C l ∙ rw (ne_eqb k l (λ q. n (sym q))) (ap bit (sym (or-false (has eqb l (take i ls)))))

-- ---- the links that are kept
labelled_last : (m : ℕ) (ws : List ℕ) (w : ℕ) → labelled m (ws ++ (w ∷ [])) ≡ labelled m ws ++ pick (eqb (digit m (w / 1048576)) 1) (w ∷ []) []
unfolding labelled
labelled_last m [] w = refl
labelled_last m (v ∷ ws) w = go (eqb (digit m (v / 1048576)) 1) (labelled_last m ws w)
  where
    go : (t : Bool) → labelled m (ws ++ (w ∷ [])) ≡ labelled m ws ++ pick (eqb (digit m (w / 1048576)) 1) (w ∷ []) []
        → pick t (v ∷ labelled m (ws ++ (w ∷ []))) (labelled m (ws ++ (w ∷ [])))
        ≡ pick t (v ∷ labelled m ws) (labelled m ws) ++ pick (eqb (digit m (w / 1048576)) 1) (w ∷ []) []
    go true e = ap (λ (l : List ℕ). v ∷ l) e
    go false e = e

module _ (m : ℕ) (ws : List ℕ) (i : ℕ) (h : i < length ws) where
  next_kept : (t : Bool) → eqb (digit m (get_or ws i 0 / 1048576)) 1 ≡ t
      → labelled m (take (i + 1) ws) ≡ labelled m (take i ws) ++ pick t (get_or ws i 0 ∷ []) []
  next_kept t e =
      ap (λ (j : ℕ). labelled m (take j ws)) (add-one i) ∙ ap (labelled m) (take-suc ws i 0 h) ∙ labelled_last m (take i ws) (get_or ws i 0)
      ∙ ap (λ (b : Bool). labelled m (take i ws) ++ pick b (get_or ws i 0 ∷ []) []) e

  pub keep_yes : {t : Bool} (kept : List ℕ) (count : ℕ) → count < length kept
      → t ≡ eqb (digit m (get_or ws i 0 / 1048576)) 1 → t ≡ true → take count kept ≡ labelled m (take i ws)
      → take (count + 1) (set kept count (get_or ws i 0)) ≡ labelled m (take (i + 1) ws)
  keep_yes kept count l e q k =
      ap (λ (j : ℕ). take j (set kept count (get_or ws i 0))) (add-one count) ∙ take-suc-set kept count (get_or ws i 0) l
      ∙ ap (λ (v : List ℕ). v ++ (get_or ws i 0 ∷ [])) k ∙ sym (next_kept true (sym e ∙ q))

  pub keep_no : {t : Bool} (kept : List ℕ) (count : ℕ) → t ≡ eqb (digit m (get_or ws i 0 / 1048576)) 1 → t ≡ false → take count kept ≡ labelled m (take i ws)
      → take count kept ≡ labelled m (take (i + 1) ws)
  keep_no kept count e q k = k ∙ sym (append-nil (labelled m (take i ws))) ∙ sym (next_kept false (sym e ∙ q))

-- ---- the text of a loop
pub separator_bar : (p : ℕ) → (p ≡ 0 → ⊥) → bar ≡ separator_at p
separator_bar zero n = absurd (n refl)
separator_bar (suc p) n = refl

bar_last : (ls : List ℕ) (l : ℕ) → letters_after bar (ls ++ (l ∷ [])) ≡ letters_after bar ls ++ (bar ∷ (letter_a + l) ∷ [])
unfolding letters_after
bar_last [] l = refl
bar_last (k ∷ ls) l = ap (λ (t : List ℕ). bar ∷ (letter_a + k) ∷ t) (bar_last ls l)

letters_last : (ls : List ℕ) (l : ℕ) → letters_after open_group (ls ++ (l ∷ []))
    ≡ letters_after open_group ls ++ (separator_at (length (letters_after open_group ls)) ∷ (letter_a + l) ∷ [])
unfolding letters_after
letters_last [] l = refl
letters_last (k ∷ ls) l = ap (λ (t : List ℕ). open_group ∷ (letter_a + k) ∷ t) (bar_last ls l)

-- two bytes more
pub two_more : (t : List ℕ) (p a b : ℕ) → p + 1 < length t → take (p + 2) (set (set t p a) (p + 1) b) ≡ take p t ++ (a ∷ b ∷ [])
two_more t p a b h =
    let e : p + 2 ≡ suc (p + 1) = omega arith in
    let l : length (set t p a) ≡ length t = length-set t p a in
    ap (λ (j : ℕ). take j (set (set t p a) (p + 1) b)) e ∙ take-suc-set (set t p a) (p + 1) b (omega arith)
    ∙ ap (λ (v : List ℕ). v ++ (b ∷ [])) (ap (λ (j : ℕ). take j (set t p a)) (add-one p) ∙ take-suc-set t p a (omega arith))
    ∙ append_assoc (take p t) (a ∷ []) (b ∷ [])

-- the letters below k of a set are in the text
pub record Laid (set k : ℕ) (text : List ℕ) (count : ℕ) : Type 0 where
  pub few : count ≤ 2 * k
  pub letters : take count text ≡ letters_after open_group (places (digit set) k)

pub laid_none : (set : ℕ) (text : List ℕ) → Laid set 0 text 0
unfolding places letters_after
laid_none set text = record { few = omega arith; letters = refl }

module _ {m k : ℕ} {text : List ℕ} {count : ℕ} (L : Laid m k text count) (room : 2 * k + 2 ≤ length text) where
  pub laid_yes : {t : Bool} {s : ℕ} → t ≡ eqb (digit m k) 1 → t ≡ true → s ≡ separator_at count
      → Laid m (k + 1) (set (set text count s) (count + 1) (letter_a + k)) (count + 2)
  unfolding places
  laid_yes {t} {s} e q f =
      let few = L.few in
      let d : digit m k ≡ 1 = eqb-true (digit m k) 1 (sym e ∙ q) in
      let len : count ≡ length (letters_after open_group (places (digit m) k)) = sym (length-take-le count text (omega arith)) ∙ ap length L.letters in
      let next : places (digit m) (k + 1) ≡ places (digit m) k ++ (k ∷ []) =
      ap (places (digit m)) (add-one k) ∙ ap (λ (v : ℕ). places (digit m) k ++ if_set v k) d in
      record {
        few = omega arith;
        letters =
            two_more text count s (letter_a + k) (omega arith)
            ∙ ap₂ (λ (v : List ℕ) (a : ℕ). v ++ (a ∷ (letter_a + k) ∷ [])) L.letters (f ∙ ap separator_at len)
            ∙ sym (letters_last (places (digit m) k) k) ∙ ap (letters_after open_group) (sym next);
      }

  pub laid_no : {t : Bool} → t ≡ eqb (digit m k) 1 → t ≡ false → Laid m (k + 1) text count
  unfolding places
  laid_no {t} e q =
      let few = L.few in
      let d : digit m k ≡ 0 = none (digit m k) (digit_lt m k) (sym e ∙ q) in
      let next : places (digit m) (k + 1) ≡ places (digit m) k =
      ap (places (digit m)) (add-one k) ∙ ap (λ (v : ℕ). places (digit m) k ++ if_set v k) d ∙ append-nil (places (digit m) k) in
      record { few = omega arith; letters = L.letters ∙ ap (letters_after open_group) (sym next) }
    where
      none : (v : ℕ) → v < 2 → eqb v 1 ≡ false → v ≡ 0
      none v h g = let z = eqb-false v 1 g in omega (arith, z)
