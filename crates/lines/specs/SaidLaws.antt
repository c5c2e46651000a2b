-- Laws of what is said, by what the code has read.
--   typed_long, typed_short, begun_none, begun_comment, begun_request
--                         a line, by its length and its first byte that is no blank
--   label_under           a label that was read is one
--   numbered_not, numbered_more, numbered_is
--                         one number and no more: it is none; more follows; it is
--   lettered_not, lettered_more, lettered_is
--                         one letter and no more
--   alone_more, alone_is  no argument
--   LinkRead s x t l u y v
--                         of the bytes s the words x, l and y are read, with what follows each
--   linked_not_from, linked_not_label, linked_not_to, linked_more, linked_is
--                         FROM LETTER TO and no more, in this order
--   EndsRead s x t y u v  of the bytes s the words x and y are read, with what follows each, and then the text v
--   chained_not_from, chained_not_to, chained_is
--                         FROM TO EXPRESSION, in this order
-- Assumes nothing.
use Rattle.std.specs.Prelude.{◌≡◌, refl, List, [], ◌∷◌, ◌++◌, true, false, ℕ, ◌≤◌, ◌<◌, length, get_or}
use Rattle.std.proofs.Common.{◌∙◌, arith, lt-ltb, le-ltb, eq-eqb, ne_eqb}
use Rattle.book.specs.Causes.{labels}
use Rattle.session.specs.Program.{two_bytes}
use Rattle.session.specs.declared.Shape.TheVariants.{Empty, Record, Link, Label, Ends}
use Rattle.lines.specs.Typed.{word, rest, skip, empty, is_number, number_of, is_label, label_of, text, hash, max_line, nothing, framed}
use Rattle.lines.specs.Typed.{misfit, argued, begun, typed}
use Rattle.lines.specs.TypedLaws.{requested, and-false}
use Rattle.lines.specs.Read.{unfit, read}
use Rattle.lines.specs.ReadLaws.{read_fits, read_not, number_small, label_small}

-- ---- a line
pub typed_long : (s : List ℕ) → max_line < length s → typed s ≡ misfit
unfolding typed
typed_long s h = rw (lt-ltb max_line (length s) h)

pub typed_short : (s : List ℕ) → length s ≤ max_line → typed s ≡ begun (skip s)
unfolding typed
typed_short s h = rw (le-ltb max_line (length s) h)

pub begun_none : (s : List ℕ) → length s ≡ 0 → begun s ≡ nothing
unfolding begun
begun_none [] h = refl
begun_none (c ∷ s) h = absurd (omega arith)

pub begun_comment : (s : List ℕ) → get_or s 0 0 ≡ hash → begun s ≡ nothing
unfolding begun
begun_comment [] h = refl
begun_comment (c ∷ s) h = rw (eq-eqb c hash h)

pub begun_request : (s : List ℕ) → (length s ≡ 0 → ⊥) → (get_or s 0 0 ≡ hash → ⊥) → begun s ≡ requested (word s) (rest s)
unfolding begun
begun_request [] h k = absurd (h refl)
begun_request (c ∷ s) h k = rw (ne_eqb c hash k)

-- ---- words as read
number_fits : (w : List ℕ) (n : ℕ) → n ≡ read (is_number w) (number_of w) → n < unfit → record { fits : is_number w ≡ true; is : n ≡ number_of w }
unfolding read
number_fits w n e h =
    let yes : is_number w ≡ true = read_fits (is_number w) (number_of w) (rw e at h) in
    record { fits = yes; is = e ∙ rw yes }

number_not : (w : List ℕ) (n : ℕ) → n ≡ read (is_number w) (number_of w) → unfit ≤ n → is_number w ≡ false
number_not w n e h = read_not (is_number w) (number_of w) (number_small w) (rw e at h)

label_fits : (w : List ℕ) (n : ℕ) → n ≡ read (is_label w) (label_of w) → n < unfit → record { fits : is_label w ≡ true; is : n ≡ label_of w }
unfolding read
label_fits w n e h =
    let yes : is_label w ≡ true = read_fits (is_label w) (label_of w) (rw e at h) in
    record { fits = yes; is = e ∙ rw yes }

label_not : (w : List ℕ) (n : ℕ) → n ≡ read (is_label w) (label_of w) → unfit ≤ n → is_label w ≡ false
label_not w n e h = read_not (is_label w) (label_of w) (λ y. omega (arith, label_small w y)) (rw e at h)

pub label_under : (w : List ℕ) (n : ℕ) → n ≡ read (is_label w) (label_of w) → n < unfit → n < labels
label_under w n e h = let f = label_fits w n e h in omega (arith, f.is, label_small w f.fits)

empty_none : (s : List ℕ) → length s ≤ 0 → empty s ≡ true
unfolding empty
empty_none s h = rw (eq-eqb (length s) 0 (omega arith))

empty_some : (s : List ℕ) → 0 < length s → empty s ≡ false
unfolding empty
empty_some s h = rw (ne_eqb (length s) 0 (λ e. omega (arith, e)))

-- ---- one number
module _ (s : List ℕ) {n : ℕ} {u : List ℕ} (is-n : n ≡ read (is_number (word s)) (number_of (word s))) (is-u : u ≡ rest s) (k : ℕ) where
  pub numbered_not : unfit ≤ n → argued Record k s ≡ misfit
  unfolding argued
  numbered_not h = rw (number_not (word s) n is-n h)

  pub numbered_more : 0 < length u → argued Record k s ≡ misfit
  unfolding argued
  numbered_more h = rw (← is-u, empty_some u h, and-false (is_number (word s)))

  pub numbered_is : n < unfit → length u ≤ 0 → argued Record k s ≡ framed k (two_bytes n)
  unfolding argued
  numbered_is h i =
      let v = number_fits (word s) n is-n h in
      rw (← is-u, empty_none u i, v.fits, v.is)

-- ---- one letter
module _ (s : List ℕ) {n : ℕ} {u : List ℕ} (is-n : n ≡ read (is_label (word s)) (label_of (word s))) (is-u : u ≡ rest s) (k : ℕ) where
  pub lettered_not : unfit ≤ n → argued Label k s ≡ misfit
  unfolding argued
  lettered_not h = rw (label_not (word s) n is-n h)

  pub lettered_more : 0 < length u → argued Label k s ≡ misfit
  unfolding argued
  lettered_more h = rw (← is-u, empty_some u h, and-false (is_label (word s)))

  pub lettered_is : n < unfit → length u ≤ 0 → argued Label k s ≡ framed k (n ∷ [])
  unfolding argued
  lettered_is h i =
      let v = label_fits (word s) n is-n h in
      rw (← is-u, empty_none u i, v.fits, v.is)

-- ---- no argument
pub alone_more : (k : ℕ) (s : List ℕ) → 0 < length s → argued Empty k s ≡ misfit
unfolding argued
alone_more k s h = rw (empty_some s h)

pub alone_is : (k : ℕ) (s : List ℕ) → length s ≤ 0 → argued Empty k s ≡ framed k []
unfolding argued
alone_is k s h = rw (empty_none s h)

-- ---- a link: x and what follows it, t, of it l and u, of that y and v
pub record LinkRead (s : List ℕ) (x : ℕ) (t : List ℕ) (l : ℕ) (u : List ℕ) (y : ℕ) (v : List ℕ) : Type 0 where
  pub from : x ≡ read (is_number (word s)) (number_of (word s))
  pub after_from : t ≡ rest s
  pub label : l ≡ read (is_label (word t)) (label_of (word t))
  pub after_label : u ≡ rest t
  pub to : y ≡ read (is_number (word u)) (number_of (word u))
  pub after_to : v ≡ rest u

module _ {s t u v : List ℕ} {x l y : ℕ} (r : LinkRead s x t l u y v) (k : ℕ) where
  pub linked_not_from : unfit ≤ x → argued Link k s ≡ misfit
  unfolding argued
  linked_not_from h = rw (number_not (word s) x r.from h)

  pub linked_not_label : x < unfit → unfit ≤ l → argued Link k s ≡ misfit
  unfolding argued
  linked_not_label h i = rw (← r.after_from, (number_fits (word s) x r.from h).fits, label_not (word t) l r.label i)

  pub linked_not_to : x < unfit → l < unfit → unfit ≤ y → argued Link k s ≡ misfit
  unfolding argued
  linked_not_to h i j =
      let a = number_fits (word s) x r.from h in
      let b = label_fits (word t) l r.label i in
      rw (← r.after_from, ← r.after_label, a.fits, b.fits, number_not (word u) y r.to j)

  pub linked_more : x < unfit → l < unfit → y < unfit → 0 < length v → argued Link k s ≡ misfit
  unfolding argued
  linked_more h i j m =
      let a = number_fits (word s) x r.from h in
      let b = label_fits (word t) l r.label i in
      let d = number_fits (word u) y r.to j in
      rw (← r.after_from, ← r.after_label, ← r.after_to, a.fits, b.fits, d.fits, empty_some v m)

  pub linked_is : x < unfit → l < unfit → y < unfit → length v ≤ 0 → argued Link k s ≡ framed k (two_bytes x ++ (l ∷ two_bytes y))
  unfolding argued
  linked_is h i j m =
      let a = number_fits (word s) x r.from h in
      let b = label_fits (word t) l r.label i in
      let d = number_fits (word u) y r.to j in
      rw (← r.after_from, ← r.after_label, ← r.after_to, a.fits, b.fits, d.fits, empty_none v m, a.is, b.is, d.is)

-- ---- two ends and an expression: x and what follows it, t, of it y and u, whose text is v
pub record EndsRead (s : List ℕ) (x : ℕ) (t : List ℕ) (y : ℕ) (u v : List ℕ) : Type 0 where
  pub from : x ≡ read (is_number (word s)) (number_of (word s))
  pub after_from : t ≡ rest s
  pub to : y ≡ read (is_number (word t)) (number_of (word t))
  pub after_to : u ≡ rest t
  pub expression : v ≡ text u

module _ {s t u v : List ℕ} {x y : ℕ} (r : EndsRead s x t y u v) (k : ℕ) where
  pub chained_not_from : unfit ≤ x → argued Ends k s ≡ misfit
  unfolding argued
  chained_not_from h = rw (number_not (word s) x r.from h)

  pub chained_not_to : x < unfit → unfit ≤ y → argued Ends k s ≡ misfit
  unfolding argued
  chained_not_to h i = rw (← r.after_from, (number_fits (word s) x r.from h).fits, number_not (word t) y r.to i)

  pub chained_is : x < unfit → y < unfit → argued Ends k s ≡ framed k (two_bytes x ++ (two_bytes y ++ v))
  unfolding argued
  chained_is h i =
      let a = number_fits (word s) x r.from h in
      let b = number_fits (word t) y r.to i in
      rw (← r.after_from, ← r.after_to, ← r.expression, a.fits, b.fits, a.is, b.is)
