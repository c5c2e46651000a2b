-- Laws of the words of a line.
--   requested w r  what the word w says with the bytes r after it
--   and_left, and_right, and-false
--                  of two tests
--   skip_on, skip_at, skip_none
--                  blanks in front, one after the other, up to a byte that is none or the end
--   word_more, word_end, word_none
--                  the bytes of a word, one after the other, up to a blank or the end
--   take_word, word_short
--                  a word stands at the front of its line, and is no longer
--   trim_blank, trim_at, trim_none
--                  blanks at the end, one after the other, down to a byte that is none or the front
--   length_text    what is sent of a text is within its limit
--   same_next, same_not, same_none, same_length
--                  two texts byte by byte
--   equal_same     they are the same exactly if they are equal
--   decimal_typed  a number as the program prints it is that number when it is typed
-- Assumes nothing.
use Rattle.std.specs.Prelude.{◌≡◌, refl, Bool, true, false, ◌&&◌, ℕ, zero, suc, ◌+◌, ◌-◌, ◌*◌, ◌/◌, ◌%◌, ◌≤◌, ◌<◌, length, take, drop, get_or, eqb, ltb}
use Rattle.std.proofs.Common.{sym, ap, subst, ◌∙◌, add-one, arith, length-append, length-take, drop_of_length-le, drop-cons, take-suc, eq-eqb, ne_eqb, eqb-true}
use Rattle.std.proofs.Common.{le-leb, lt-ltb, ltb-true, ltb-false}
use mathlib.Core.List.{List, [], ◌∷◌, ◌++◌, reverse, reverse-cons, reverse-append, reverse-reverse}
use Rattle.report.specs.Report.{figures, decimal, figure_0}
use Rattle.session.specs.Program.{shape_of}
use Rattle.lines.specs.Typed.{blank, skip, trim, word, same_bytes, text, max_text, figure, all_figures, number_after, number_of, is_number, max_number}
use Rattle.lines.specs.Typed.{Typed, kind_named, argued}

-- what the word w says with the bytes r after it
abbrev pub requested : List ℕ → List ℕ → Typed
requested w r = argued (shape_of (kind_named w)) (kind_named w) r

-- ---- two tests
pub and_left : (a b : Bool) → (a && b) ≡ true → a ≡ true
and_left true b h = refl
and_left false b h = h

pub and_right : (a b : Bool) → (a && b) ≡ true → b ≡ true
and_right true b h = h
and_right false b h = cc

pub and-false : (b : Bool) → (b && false) ≡ false
and-false true = refl
and-false false = refl

-- ---- blanks in front
pub skip_on : (s : List ℕ) → 0 < length s → blank (get_or s 0 0) ≡ true → skip (drop 1 s) ≡ skip s
unfolding skip
skip_on [] h b = refl
skip_on (c ∷ s) h b = rw b

pub skip_at : (s : List ℕ) → blank (get_or s 0 0) ≡ false → skip s ≡ s
unfolding skip
skip_at [] b = refl
skip_at (c ∷ s) b = rw b

pub skip_none : (s : List ℕ) → length s ≡ 0 → skip s ≡ s
unfolding skip
skip_none [] h = refl
skip_none (c ∷ s) h = absurd (omega arith)

-- ---- words
pub word_more : (s : List ℕ) (i : ℕ) → i < length s → blank (get_or s i 0) ≡ false → length (word (drop i s)) ≡ suc (length (word (drop (i + 1) s)))
unfolding word
word_more s i h b = rw (add-one i, drop-cons s i 0 h, b)

pub word_end : (s : List ℕ) (i : ℕ) → i < length s → blank (get_or s i 0) ≡ true → length (word (drop i s)) ≡ 0
unfolding word
word_end s i h b = rw (drop-cons s i 0 h, b)

pub word_none : (s : List ℕ) (i : ℕ) → length s ≤ i → length (word (drop i s)) ≡ 0
unfolding word
word_none s i h = rw (drop_of_length-le s h)

take_word_by : (c : ℕ) (s : List ℕ) (b : Bool) → blank c ≡ b → take (length (word s)) s ≡ word s
    → take (length (word (c ∷ s))) (c ∷ s) ≡ word (c ∷ s)
unfolding word
take_word_by c s true e h = rw e
take_word_by c s false e h = rw e (ap (λ (t : List ℕ). c ∷ t) h)

pub take_word : (s : List ℕ) → take (length (word s)) s ≡ word s
unfolding word
take_word [] = refl
take_word (c ∷ s) = take_word_by c s (blank c) refl (take_word s)

pub word_short : (s : List ℕ) → length (word s) ≤ length s
word_short s = omega (arith, rw length-take at (ap length (take_word s)))

-- ---- blanks at the end
last_blank : (s : List ℕ) (i : ℕ) → i < length s → blank (get_or s i 0) ≡ true → trim (take (suc i) s) ≡ trim (take i s)
unfolding trim skip
last_blank s i h b = rw (take-suc s i 0 h, reverse-append (take i s) (get_or s i 0 ∷ []), b)

last_at : (s : List ℕ) (i : ℕ) → i < length s → blank (get_or s i 0) ≡ false → trim (take (suc i) s) ≡ take (suc i) s
unfolding trim skip
last_at s i h b =
    rw (take-suc s i 0 h, reverse-append (take i s) (get_or s i 0 ∷ []), b, reverse-cons (get_or s i 0) (reverse (take i s)), reverse-reverse (take i s))

pub trim_blank : (s : List ℕ) (n : ℕ) → 0 < n → n ≤ length s → blank (get_or s (n - 1) 0) ≡ true → trim (take n s) ≡ trim (take (n - 1) s)
trim_blank s n z h b =
    let e : suc (n - 1) ≡ n = omega arith in
    ap (λ (m : ℕ). trim (take m s)) (sym e) ∙ last_blank s (n - 1) (omega arith) b

pub trim_at : (s : List ℕ) (n : ℕ) → 0 < n → n ≤ length s → blank (get_or s (n - 1) 0) ≡ false → trim (take n s) ≡ take n s
trim_at s n z h b =
    let e : suc (n - 1) ≡ n = omega arith in
    ap (λ (m : ℕ). trim (take m s)) (sym e) ∙ last_at s (n - 1) (omega arith) b ∙ ap (λ (m : ℕ). take m s) e

pub trim_none : (s : List ℕ) (n : ℕ) → n ≤ 0 → trim (take n s) ≡ take n s
unfolding trim skip
trim_none s zero h = refl
trim_none s (suc n) h = absurd (omega arith)

pub length_text : (s : List ℕ) → length (text s) ≤ max_text
unfolding text
length_text s = omega (arith, length-take max_text (trim s))

-- ---- the same text
pub same_next : (s t : List ℕ) (i : ℕ) → i < length s → i < length t → get_or s i 0 ≡ get_or t i 0
    → same_bytes (drop (i + 1) s) (drop (i + 1) t) ≡ same_bytes (drop i s) (drop i t)
unfolding same_bytes
same_next s t i h k e = rw (add-one i, drop-cons s i 0 h, drop-cons t i 0 k, eq-eqb (get_or s i 0) (get_or t i 0) e)

pub same_not : (s t : List ℕ) (i : ℕ) → i < length s → i < length t → (get_or s i 0 ≡ get_or t i 0 → ⊥)
    → same_bytes (drop i s) (drop i t) ≡ false
unfolding same_bytes
same_not s t i h k e = rw (drop-cons s i 0 h, drop-cons t i 0 k, ne_eqb (get_or s i 0) (get_or t i 0) e)

pub same_none : (s t : List ℕ) (i : ℕ) → length s ≤ i → length t ≤ i → same_bytes (drop i s) (drop i t) ≡ true
unfolding same_bytes
same_none s t i h k = rw (drop_of_length-le s h, drop_of_length-le t k)

pub same_length : (s t : List ℕ) → (length s ≡ length t → ⊥) → same_bytes s t ≡ false
unfolding same_bytes
same_length [] [] h = absurd (h refl)
same_length [] (d ∷ t) h = refl
same_length (c ∷ s) [] h = refl
same_length (c ∷ s) (d ∷ t) h = rw (same_length s t (λ e. h (ap suc e))) (and-false (eqb c d))

same_equal : (s t : List ℕ) → same_bytes s t ≡ true → s ≡ t
unfolding same_bytes
same_equal [] [] h = refl
same_equal [] (d ∷ t) h = cc
same_equal (c ∷ s) [] h = cc
same_equal (c ∷ s) (d ∷ t) h =
    let a : c ≡ d = eqb-true c d (and_left (eqb c d) (same_bytes s t) h) in
    let b : s ≡ t = same_equal s t (and_right (eqb c d) (same_bytes s t) h) in
    cc

same_self : (s : List ℕ) → same_bytes s s ≡ true
unfolding same_bytes
same_self [] = refl
same_self (c ∷ s) = rw (eq-eqb c c refl, same_self s)

pub equal_same : (s t : List ℕ) → (same_bytes s t ≡ true → s ≡ t) × (s ≡ t → same_bytes s t ≡ true)
equal_same s t = (same_equal s t, λ e. subst (λ (u : List ℕ). same_bytes s u ≡ true) e (same_self s))

-- ---- a number as the program prints it is that number when it is typed
number_more : (v : ℕ) (w : List ℕ) (c : ℕ) → number_after v (w ++ (c ∷ [])) ≡ number_after v w * 10 + (c - figure_0)
unfolding number_after
number_more v [] c = refl
number_more v (d ∷ w) c = number_more (v * 10 + (d - figure_0)) w c

figures_more : (w : List ℕ) (c : ℕ) → all_figures w ≡ true → figure c ≡ true → all_figures (w ++ (c ∷ [])) ≡ true
unfolding all_figures
figures_more [] c h k = rw k
figures_more (d ∷ w) c h k = rw (and_left (figure d) (all_figures w) h) (figures_more w c (and_right (figure d) (all_figures w) h) k)

is_figure : (k : ℕ) → k < 10 → figure (figure_0 + k) ≡ true
unfolding figure
is_figure k h =
    let a : figure_0 ≤ figure_0 + k = omega arith in
    let b : figure_0 + k < figure_0 + 10 = omega arith in
    rw (le-leb figure_0 (figure_0 + k) a, lt-ltb (figure_0 + k) (figure_0 + 10) b)

-- w is figures of the number n
record Spells (w : List ℕ) (n : ℕ) : Type 0 where
  some : 0 < length w
  plain : all_figures w ≡ true
  is : number_of w ≡ n

spells_last : (w : List ℕ) (m k : ℕ) → Spells w m → k < 10 → Spells (w ++ ((figure_0 + k) ∷ [])) (m * 10 + k)
unfolding number_of
spells_last w m k r h =
    record {
      some = omega (arith, length-append w ((figure_0 + k) ∷ []));
      plain = figures_more w (figure_0 + k) r.plain (is_figure k h);
      is = omega (arith, number_more 0 w (figure_0 + k), r.is);
    }

spells_first : (k : ℕ) → k < 10 → Spells ((figure_0 + k) ∷ []) k
unfolding number_of number_after all_figures
spells_first k h = record { some = omega arith; plain = rw (is_figure k h); is = omega arith }

spells_figures_by : (f n : ℕ) (b : Bool) → ltb n 10 ≡ b → (10 ≤ n → Spells (figures f (n / 10)) (n / 10)) → Spells (figures (suc f) n) n
unfolding figures
spells_figures_by f n true e r = rw e (spells_first n (ltb-true n 10 e))
spells_figures_by f n false e r =
    let whole : n / 10 * 10 + n % 10 ≡ n = omega arith in
    let last : n % 10 < 10 = omega arith in
    rw e (subst (λ (m : ℕ). Spells (figures f (n / 10) ++ ((figure_0 + n % 10) ∷ [])) m) whole
    (spells_last (figures f (n / 10)) (n / 10) (n % 10) (r (ltb-false n 10 e)) last))

spells_figures : (f n : ℕ) → n < f → Spells (figures f n) n
spells_figures zero n h = absurd (omega arith)
spells_figures (suc f) n h = spells_figures_by f n (ltb n 10) refl (λ k. spells_figures f (n / 10) (omega arith))

is-number : (w : List ℕ) → 0 < length w → all_figures w ≡ true → number_of w ≤ max_number → is_number w ≡ true
unfolding is_number
is-number w h k l = rw (lt-ltb 0 (length w) h, k, le-leb (number_of w) max_number l)

pub decimal_typed : (n : ℕ) → n ≤ max_number → (is_number (decimal n) ≡ true) × (number_of (decimal n) ≡ n)
unfolding decimal
decimal_typed n h =
    let r = spells_figures (suc n) n (omega arith) in
    (is-number (figures (suc n) n) r.some r.plain (omega (arith, r.is)), r.is)
