-- Laws of the program's lines: a number's figures one by one, and bounds on lengths, so that callers can bound the room.
--   decimal_small, decimal_more
--                   a number's figures: one, or those of a tenth of it and the last
--   length_decimal  a number below 10 ^ k has at most k figures, and a number has at least one
--   lines-append, lines_more, wrote_line
--                   lines of joined lists, of one word more, and as they are written
--   length_pair_line, length_step_line
--                   a pair word of 32 bits takes at most 13 bytes, a step word at most 9
--   length_counted, length_counted_most
--                   a line of a name and a number: of 64 bits it takes at most 21 bytes more than the name
--   pair-line       a pair's line is the figures of from, and then a line of a space and to
--   refused-text    the text of a number that is not 0 is that of a refusal
-- Assumes nothing.
use Rattle.std.specs.Prelude.{◌≡◌, refl, List, [], ◌∷◌, ◌++◌, ℕ, zero, suc, ◌+◌, ◌-◌, ◌*◌, ◌/◌, ◌%◌, ◌^◌, ◌≤◌, ◌<◌, length, take, get_or}
use Rattle.std.proofs.Common.{sym, ap, ◌∙◌, append_assoc, append-nil, suc-mul, add-one, arith, lt-ltb, le-ltb, length-append, take-suc, take_all}
use Rattle.std.proofs.Math.Nat.{pow-succ'}
use Rattle.std.proofs.Math.Numerals.{unary_clauses}
use Rattle.std.proofs.Math.Decide.{dec_lt}
use Rattle.answers.specs.Written.{Wrote}
use Rattle.answers.specs.WrittenLaws.{wrote_none, wrote_as, wrote_then}
use Rattle.report.specs.Report.{figure_0, space, newline, figures, decimal, pair_line, step_line, lines, counted, refused_text, answer_text}

-- figures in plenty: how many are asked for does not matter
figures_plenty : (f g n : ℕ) → n < f → n < g → figures f n ≡ figures g n
unfolding figures
figures_plenty zero g n h k = absurd (omega arith)
figures_plenty (suc f) zero n h k = absurd (omega arith)
figures_plenty (suc f) (suc g) n h k = go (λ i j. figures_plenty f g (n / 10) i j) (dec_lt n 10)
  where
    go : (n / 10 < f → n / 10 < g → figures f (n / 10) ≡ figures g (n / 10)) → Dec (n < 10) → figures (suc f) n ≡ figures (suc g) n
    go r (yes l) = rw (lt-ltb n 10 l)
    go r (no l) = rw (le-ltb n 10 (omega arith), r (omega arith) (omega arith))

pub decimal_small : (n : ℕ) → n < 10 → decimal n ≡ (figure_0 + n) ∷ []
unfolding decimal figures
decimal_small n h = rw (lt-ltb n 10 h)

pub decimal_more : (n : ℕ) → 10 ≤ n → decimal n ≡ decimal (n / 10) ++ ((figure_0 + n % 10) ∷ [])
unfolding decimal figures
decimal_more n h = rw (le-ltb n 10 h, figures_plenty n (suc (n / 10)) (n / 10) (omega arith) (omega arith))

-- a single figure; and the tenth part has one figure less
pub length_decimal_small : (n : ℕ) → n < 10 → length (decimal n) ≡ 1
length_decimal_small n h = ap length (decimal_small n h)

pub length_decimal_more : (n : ℕ) → 10 ≤ n → length (decimal n) ≡ length (decimal (n / 10)) + 1
length_decimal_more n h = rw (decimal_more n h, length-append)

-- a number below 10 ^ k has at most k figures, and a number has at least one
pub length_decimal : (k n : ℕ) → n < 10 ^ suc k → length (decimal n) ≤ suc k
length_decimal zero n h = rw (decimal_small n (omega arith)) (omega arith)
length_decimal (suc k) n h = go (length_decimal k (n / 10)) (dec_lt n 10)
  where
    go : (n / 10 < 10 ^ suc k → length (decimal (n / 10)) ≤ suc k) → Dec (n < 10) → length (decimal n) ≤ suc (suc k)
    go r (yes l) = rw (decimal_small n l) (omega arith)
    go r (no l) =
        let s : n < 10 * 10 ^ suc k = rw pow-succ' at h in
        let d : length (decimal (n / 10)) ≤ suc k = r (omega arith) in
        rw (decimal_more n (omega arith), length-append) (omega arith)

-- the lines, and what they take of room
pub lines-append : (f : ℕ → List ℕ) (v w : List ℕ) → lines f (v ++ w) ≡ lines f v ++ lines f w
unfolding lines
lines-append f [] w = refl
lines-append f (a ∷ v) w = ap (λ (t : List ℕ). f a ++ t) (lines-append f v w) ∙ sym (append_assoc (f a) (lines f v) (lines f w))

-- one word more
pub lines_more : (f : ℕ → List ℕ) (ws : List ℕ) (i : ℕ) → i < length ws → lines f (take (i + 1) ws) ≡ lines f (take i ws) ++ f (get_or ws i 0)
unfolding lines
lines_more f ws i h = rw (add-one, take-suc ws i 0 h, lines-append) (ap (λ (t : List ℕ). lines f (take i ws) ++ t) (append-nil (f (get_or ws i 0))))

-- a line more is written
pub wrote_line : (f : ℕ → List ℕ) (ws : List ℕ) (i : ℕ) {p q r : ℕ} {l m k : List ℕ}
    → Wrote p (lines f (take i ws)) l m q → Wrote q (f (get_or ws i 0)) m k r → i < length ws → Wrote p (lines f (take (i + 1) ws)) l k r
wrote_line f ws i a b h = wrote_as (sym (lines_more f ws i h)) (wrote_then a b)

-- a loop that writes a line of at most m bytes for each word: the lines of the first i are written, and there is room for the others
pub record Lined (f : ℕ → List ℕ) (m : ℕ) (ws : List ℕ) (p : ℕ) (l : List ℕ) (i q : ℕ) (k : List ℕ) : Type 0 where
  pub inside : i ≤ length ws
  pub kept : length k ≡ length l
  pub room : q + (length ws - i) * m ≤ length k
  pub wrote : Wrote p (lines f (take i ws)) l k q

module _ {f : ℕ → List ℕ} {m : ℕ} {ws : List ℕ} {p : ℕ} {l : List ℕ} where
  pub lined_none : p + length ws * m ≤ length l → Lined f m ws p l 0 p l
  unfolding lines
  lined_none h = record { inside = omega arith; kept = refl; room = simp unary_clauses h; wrote = wrote_none p l (omega arith) }

  pub lined_more : {i q r : ℕ} {k k' : List ℕ} → Lined f m ws p l i q k → i < length ws → length k' ≡ length k → length (f (get_or ws i 0)) ≤ m
      → Wrote q (f (get_or ws i 0)) k k' r → Lined f m ws p l (i + 1) r k'
  lined_more {i} {q} {r} {k} {k'} a h e s w =
      let left : (length ws - i) * m ≡ (length ws - (i + 1)) * m + m = ap (λ (j : ℕ). j * m) (more (length ws) i h) ∙ suc-mul (length ws - (i + 1)) m in
      record { inside = omega arith; kept = e ∙ a.kept; room = omega (arith, a.room, w.place); wrote = wrote_line f ws i a.wrote w h }
    where
      more : (n i : ℕ) → i < n → n - i ≡ suc (n - (i + 1))
      more n i h = omega arith

  pub lined_all : {i q : ℕ} {k : List ℕ} → Lined f m ws p l i q k → length ws ≤ i → Wrote p (lines f ws) l k q
  lined_all {i} a h = wrote_as (ap (lines f) (take_all i ws h)) a.wrote

-- a pair word of 32 bits takes at most 13 bytes, a step word at most 9
pub length_pair_line : (w : ℕ) → w < 2 ^ 32 → length (pair_line w) ≤ 13
unfolding pair_line
length_pair_line w h =
    let a = length_decimal 6 (w / 1024) (omega arith) in
    let b = length_decimal 3 (w % 1024) (omega arith) in
    simp length-append (omega arith)

pub length_step_line : (w : ℕ) → length (step_line w) ≤ 9
unfolding step_line
length_step_line w =
    let b = length_decimal 3 (w % 1024) (omega arith) in
    simp length-append (omega arith)

-- a line of a name and a number; of 64 bits it takes at most 21 bytes more than the name
pub length_counted : (name : List ℕ) (k : ℕ) → length (counted name k) ≡ length name + length (decimal k) + 1
unfolding counted
length_counted name k = simp length-append

pub length_counted_most : (name : List ℕ) (k : ℕ) → k < 2 ^ 64 → length (counted name k) ≤ length name + 21
length_counted_most name k h = let a = length_decimal 19 k (omega arith) in omega (arith, length_counted name k)

-- a pair's line is the figures of from, and then a line of a space and to
pub pair-line : (w : ℕ) → decimal (w / 1024) ++ counted (space ∷ []) (w % 1024) ≡ pair_line w
unfolding pair_line counted
pair-line w = sym (append_assoc (decimal (w / 1024)) (space ∷ decimal (w % 1024)) (newline ∷ []))

-- the text of a refusal's number, which is not 0
pub refused-text : (k : ℕ) → (k ≡ 0 → ⊥) → answer_text k ≡ refused_text k
unfolding answer_text
refused-text zero h = absurd (h refl)
refused-text (suc k) h = refl
