-- Laws of sets of letters as two sets of labels.
--   label_set_lt    a set of labels is a number of 26 bits
--   label_set_tell  a number of 26 bits that has the labels of f is their set
--   letters-in      the two sets of a set of letters have its letters, as far as there are labels
--   letters_past    and no others
--   letters_all     so they are the set, if that has no others
--   letter_past, none_past
--                   a letter and a negated set stand for no others
--   letter_forward, letter_against
--                   those of a letter alone
-- Assumes nothing.
use Rattle.std.specs.Prelude.{◌≡◌, refl, List, Bool, true, false, not, ◌&&◌, ℕ, ◌^◌, ◌<◌, ◌≤◌, eqb}
use Rattle.std.proofs.Common.{sym, ap, ◌∙◌, arith, pow_pos, ne_eqb, le-ltb}
use Rattle.std.proofs.Math.Path.{fun_ext}
use Rattle.std.proofs.Math.Decide.{dec_lt}
use Rattle.std.proofs.Math.Pow.{pow-lt}
use Rattle.book.specs.Basics.{pick, bit, has}
use Rattle.book.specs.Causes.{labels}
use Rattle.k2.specs.Bits.{digit}
use Rattle.k2.specs.BitLaws.{value_lt, value_digit}
use Rattle.k2.specs.DigitLaws.{digit_none, digit_pow, digit_big, digits_tell}
use Rattle.k2.specs.PairSetLaws.{bit_small}
use Rattle.paths.specs.Expressions.{Letter, letter, none_of, same_letter, has_sense, stands_for}
use Rattle.reader.specs.Letters.{label_set, forward_of, against_of, letters_in}

pub label_set_lt : (f : ℕ → Bool) → label_set f < 2 ^ labels
unfolding label_set
label_set_lt f = value_lt labels (λ l. bit (f l)) (λ l. bit_small (f l))

label_set_digit : (f : ℕ → Bool) (l : ℕ) → l < labels → digit (label_set f) l ≡ bit (f l)
unfolding label_set
label_set_digit f l h = value_digit labels (λ k. bit (f k)) l (λ k. bit_small (f k)) h

pub label_set_tell : (f : ℕ → Bool) (x : ℕ) → x < 2 ^ labels → ((l : ℕ) → l < labels → digit x l ≡ bit (f l)) → label_set f ≡ x
label_set_tell f x h d = digits_tell labels (label_set f) x (label_set_lt f) h (λ l k. label_set_digit f l k ∙ sym (d l k))

eqb_bit : (b : Bool) → eqb (bit b) 1 ≡ b
eqb_bit true = refl
eqb_bit false = refl

pub letters-in : (f : Letter → Bool) (a : Letter) → a.label < labels → letters_in (forward_of f) (against_of f) a ≡ f a
unfolding letters_in
letters-in f a h = go a.inverted
  where
    go : (s : Bool) → eqb (digit (pick s (against_of f) (forward_of f)) a.label) 1 ≡ f (record { label = a.label; inverted = s })
    go true = ap (λ (d : ℕ). eqb d 1) (label_set_digit (λ l. f (record { label = l; inverted = true })) a.label h) ∙ eqb_bit _
    go false = ap (λ (d : ℕ). eqb d 1) (label_set_digit (λ l. f (record { label = l; inverted = false })) a.label h) ∙ eqb_bit _

pub letters_past : (f : Letter → Bool) (a : Letter) → labels ≤ a.label → letters_in (forward_of f) (against_of f) a ≡ false
unfolding letters_in
letters_past f a h = go a.inverted
  where
    go : (s : Bool) → eqb (digit (pick s (against_of f) (forward_of f)) a.label) 1 ≡ false
    go true = ap (λ (d : ℕ). eqb d 1) (digit_big labels a.label (against_of f) (label_set_lt (λ l. f (record { label = l; inverted = true }))) h)
    go false = ap (λ (d : ℕ). eqb d 1) (digit_big labels a.label (forward_of f) (label_set_lt (λ l. f (record { label = l; inverted = false }))) h)

pub letters_all : (f : Letter → Bool) → ((a : Letter) → labels ≤ a.label → f a ≡ false) → letters_in (forward_of f) (against_of f) ≡ f
letters_all f h = fun_ext (λ a. go a (dec_lt a.label labels))
  where
    go : (a : Letter) → Dec (a.label < labels) → letters_in (forward_of f) (against_of f) a ≡ f a
    go a (yes l) = letters-in f a l
    go a (no l) = let z : labels ≤ a.label = omega (arith, l) in letters_past f a z ∙ sym (h a z)

-- a letter alone
and-false : (b : Bool) → b && false ≡ false
and-false true = refl
and-false false = refl

pub letter_past : (k : ℕ) → k < labels → (a : Letter) → labels ≤ a.label → stands_for (letter k) a ≡ false
unfolding stands_for
letter_past k h a l = ap (λ (b : Bool). b && not a.inverted) (ne_eqb a.label k (λ e. omega arith))

pub none_past : (w : List Letter) (a : Letter) → labels ≤ a.label → stands_for (none_of w) a ≡ false
unfolding stands_for
none_past w a l = ap (λ (b : Bool). b && (has_sense a.inverted w && not (has same_letter a w))) (le-ltb a.label labels l)

pub letter_forward : (k : ℕ) → k < labels → forward_of (stands_for (letter k)) ≡ 2 ^ k
unfolding stands_for
letter_forward k h = label_set_tell _ (2 ^ k) (pow-lt {j = labels} h) (λ l g. digit_pow k l ∙ go (eqb l k))
  where
    go : (b : Bool) → pick b 1 0 ≡ bit (b && true)
    go true = refl
    go false = refl

pub letter_against : (k : ℕ) → against_of (stands_for (letter k)) ≡ 0
unfolding stands_for
letter_against k = label_set_tell _ 0 (pow_pos labels) (λ l g. digit_none l ∙ sym (ap bit (and-false (eqb l k))))
