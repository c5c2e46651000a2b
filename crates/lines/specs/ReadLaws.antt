-- Laws of words as the code reads them.
--   read_fits, read_not  from what was read: whether the word fits, and what it is
--   number_small, label_small
--                        a number and a label are below what stands for none
--   read_after v w        the rest w of a number, of which v is read
--   number_begun, number_empty, number_next, number_below, number_above, number_over, number_none
--                        a number read figure by figure: begun, no byte, one figure more, a byte below or above the figures, too large, none left
--   label_size, label_below, label_above, label_is
--                        a label's only byte, and which bytes are one
-- Assumes nothing.
use Rattle.std.specs.Prelude.{◌≡◌, refl, List, [], ◌∷◌, Bool, true, false, ◌&&◌, ℕ, ◌+◌, ◌-◌, ◌*◌, ◌≤◌, ◌<◌, length, drop, get_or, eqb, leb, ltb}
use Rattle.std.proofs.Common.{add-one, arith, drop_of_length-le, drop-cons, eq-eqb, ne_eqb, le-leb, lt-ltb, le-ltb, leb-true, ltb-true}
use Rattle.std.proofs.lemmas.Bool.{lt-leb}
use Rattle.book.specs.Causes.{labels}
use Rattle.report.specs.Report.{figure_0, letter_a}
use Rattle.lines.specs.Typed.{figure, all_figures, number_after, number_of, is_number, is_label, label_of, max_number}
use Rattle.lines.specs.TypedLaws.{and_right, and-false}
use Rattle.lines.specs.Read.{unfit, read}

-- ---- what was read
pub read_fits : (b : Bool) (n : ℕ) → read b n < unfit → b ≡ true
unfolding read
read_fits true n h = refl
read_fits false n h = absurd (omega arith)

pub read_not : (b : Bool) (n : ℕ) → (b ≡ true → n < unfit) → unfit ≤ read b n → b ≡ false
unfolding read
read_not true n h k = absurd (omega (arith, h refl))
read_not false n h k = refl

-- a number and a label are below what stands for none
pub number_small : (w : List ℕ) → is_number w ≡ true → number_of w < unfit
unfolding is_number
number_small w h =
    let rest = and_right (ltb 0 (length w)) (all_figures w && leb (number_of w) max_number) h in
    omega (arith, leb-true (number_of w) max_number (and_right (all_figures w) (leb (number_of w) max_number) rest))

pub label_small : (w : List ℕ) → is_label w ≡ true → label_of w < labels
unfolding is_label label_of
label_small w h =
    let c = get_or w 0 0 in
    let rest = and_right (eqb (length w) 1) (leb letter_a c && ltb c (letter_a + labels)) h in
    omega (arith, ltb-true c (letter_a + labels) (and_right (leb letter_a c) (ltb c (letter_a + labels)) rest))

-- ---- numbers
-- the rest w of a number, of which v is read
unfoldable pub read_after : ℕ → List ℕ → ℕ
read_after v w = read (all_figures w && leb (number_after v w) max_number) (number_after v w)

pub number_begun : (w : List ℕ) → 0 < length w → read_after 0 w ≡ read (is_number w) (number_of w)
unfolding read_after is_number number_of
number_begun w h = rw (lt-ltb 0 (length w) h)

pub number_empty : (w : List ℕ) → length w ≡ 0 → read (is_number w) (number_of w) ≡ unfit
unfolding read is_number
number_empty w h = rw (le-ltb 0 (length w) (omega arith))

pub number_next : (v : ℕ) (w : List ℕ) (i : ℕ) → i < length w → figure_0 ≤ get_or w i 0 → get_or w i 0 < figure_0 + 10
    → read_after (v * 10 + (get_or w i 0 - figure_0)) (drop (i + 1) w) ≡ read_after v (drop i w)
unfolding read_after all_figures figure number_after
number_next v w i h l m = rw (add-one i, drop-cons w i 0 h, le-leb figure_0 (get_or w i 0) l, lt-ltb (get_or w i 0) (figure_0 + 10) m)

pub number_below : (v : ℕ) (w : List ℕ) (i : ℕ) → i < length w → get_or w i 0 < figure_0 → read_after v (drop i w) ≡ unfit
unfolding read_after all_figures figure number_after read
number_below v w i h l = rw (drop-cons w i 0 h, lt-leb figure_0 (get_or w i 0) l)

pub number_above : (v : ℕ) (w : List ℕ) (i : ℕ) → i < length w → figure_0 ≤ get_or w i 0 → figure_0 + 10 ≤ get_or w i 0
    → read_after v (drop i w) ≡ unfit
unfolding read_after all_figures figure number_after read
number_above v w i h l m = rw (drop-cons w i 0 h, le-leb figure_0 (get_or w i 0) l, le-ltb (get_or w i 0) (figure_0 + 10) m)

-- more figures make a number no less
grows : (v : ℕ) (w : List ℕ) → v ≤ number_after v w
unfolding number_after
grows v [] = omega arith
grows v (c ∷ w) = omega (arith, grows (v * 10 + (c - figure_0)) w)

pub number_over : (v : ℕ) (w : List ℕ) → max_number < v → read_after v w ≡ unfit
unfolding read_after read
number_over v w h =
    let k : max_number < number_after v w = omega (arith, grows v w) in
    rw (lt-leb (number_after v w) max_number k, and-false (all_figures w))

pub number_none : (v : ℕ) (w : List ℕ) (i : ℕ) → length w ≤ i → v ≤ max_number → read_after v (drop i w) ≡ v
unfolding read_after all_figures number_after read
number_none v w i h k = rw (drop_of_length-le w h, le-leb v max_number k)

-- ---- labels
pub label_size : (w : List ℕ) → (length w ≡ 1 → ⊥) → is_label w ≡ false
unfolding is_label
label_size w h = rw (ne_eqb (length w) 1 h)

-- a word of one byte, by that byte
pub label_below : (w : List ℕ) → length w ≡ 1 → get_or w 0 0 < letter_a → is_label w ≡ false
unfolding is_label
label_below w h l = rw (eq-eqb (length w) 1 h, lt-leb letter_a (get_or w 0 0) l)

pub label_above : (w : List ℕ) → length w ≡ 1 → letter_a + labels ≤ get_or w 0 0 → is_label w ≡ false
unfolding is_label
label_above w h l =
    let k : letter_a ≤ get_or w 0 0 = omega arith in
    rw (eq-eqb (length w) 1 h, le-leb letter_a (get_or w 0 0) k, le-ltb (get_or w 0 0) (letter_a + labels) l)

pub label_is : (w : List ℕ) → length w ≡ 1 → letter_a ≤ get_or w 0 0 → get_or w 0 0 < letter_a + labels
    → read (is_label w) (label_of w) ≡ get_or w 0 0 - letter_a
unfolding read is_label label_of
label_is w h l m = rw (eq-eqb (length w) 1 h, le-leb letter_a (get_or w 0 0) l, lt-ltb (get_or w 0 0) (letter_a + labels) m)
