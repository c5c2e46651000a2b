-- The laws of reading a symbol: a letter, or a negated set with its members.
--   label_letter, label_other, IsLetter, letter_there, no_letter_there
--                  the label of a byte as a set
--   marks_none, marks_same, marks_other, others_are
--                  the sets of the members read so far, and what the negated set stands for
--   hat_member, hat_none, plain_member, plain_none, member_of, no_member_of
--                  a member, or none
--   Setting, set_starts, set_again, set_ends, set_fails, set_other
--                  the loop over the members of a set
--   set_reaches    the loop stays within the text and the sets
--   symbol_letter, symbol_none, symbol_negated, negated_set, negated_member, negated_none
--                  what the descent reads where no group begins, and after a !
-- Assumes nothing.
use mathlib.Core.Path.{◌≡◌, refl, sym, ap, ap₂, ◌∙◌, subst}
use mathlib.Core.Logic.{◌⊎◌, ⊎_elim}
use mathlib.Core.List.{List, [], ◌∷◌, ◌++◌}
use mathlib.Core.Bool.{Bool, true, false, not, ◌&&◌, ◌||◌}
use Prim.Native.Nat.{ℕ, zero, suc, ◌+◌, ◌-◌, ◌^◌, ◌≤◌, ◌<◌, max}
use native.Mathlib.Omega.{arith}
use lib.Bits.{bit_or, or_lt}
use lib.Dec.{leb, ltb, eqb}
use lib.ListN.{length, drop, length-drop}
use lib.Pow.{pow-lt, pow_pos}
use borrow.Author.Tests.{eq-eqb, ne_eqb, eqb-true, eqb-false, le-leb, lt-leb, leb-true, lt-ltb, le-ltb, ltb-true}
use Rattle.book.specs.Basics.{pick, bit, has}
use Rattle.book.proofs.SetLaws.{and_both, or-true}
use Rattle.book.specs.Causes.{labels}
use Rattle.k2.specs.Bits.{digit}
use Rattle.k2.specs.DigitLaws.{digit_lt, digit_none, digit_or, digit_not, digit_pow}
use Rattle.paths.specs.Expressions.{Letter, letter, none_of, same_sense, same_letter, has_sense, stands_for, symbol}
use Rattle.paths.specs.Grammar.{bar, hat, bang, open_group, close_group, letter_a}
use Rattle.paths.specs.Descent.{Parse, got, fault, first_byte, rest, is_letter, letter_of, read_member, members_in, got_negated, read_negated, read_atom}
use Rattle.paths.proofs.DescentEquationLaws.{if_true, if_false, atom_letter, atom_negated, atom_fault}
use Rattle.reader.specs.declared.symbols.Letters.{Letters}
use Rattle.reader.specs.declared.symbols.Symbol.{Symbol as Symbol-read}
use Rattle.reader.specs.declared.symbols.Symbol.TheVariants.{Read, Missing}
use Rattle.reader.specs.Letters.{label_set}
use Rattle.reader.specs.LetterLaws.{label_set_tell, letter_forward, letter_against}
use Rattle.reader.specs.Code.{label_sets}
use Rattle.reader.specs.Progress.{Stands, missing, stands, label_at, Marks, Marked, MemberIs, MemberAt, no_member, a_member, others_of}
use Rattle.reader.proofs.StepLaws.{rest_drop, there}

-- ---- the label of a byte as a set
not_letter : (c : ℕ) → (c < letter_a) ⊎ (letter_a + labels ≤ c) → is_letter c ≡ false
not_letter c h =
    ⊎_elim (λ k. ap (λ (b : Bool). b && ltb c (letter_a + labels)) (lt-leb letter_a c k))
    (λ k. go (leb letter_a c) (ltb c (letter_a + labels)) (le-ltb c (letter_a + labels) k)) h
  where
    go : (a b : Bool) → b ≡ false → (a && b) ≡ false
    go true b e = e
    go false b e = refl

pub label_letter : (c : ℕ) → letter_a ≤ c → c < letter_a + labels → label_at c ≡ 2 ^ (c - letter_a)
label_letter c low high =
    let is_one : (leb letter_a c && ltb c (letter_a + labels)) ≡ true = rw (le-leb letter_a c low, lt-ltb c (letter_a + labels) high) in
    ap (λ (b : Bool). pick b (2 ^ (c - letter_a)) 0) is_one

pub label_other : (c : ℕ) → (c < letter_a) ⊎ (letter_a + labels ≤ c) → label_at c ≡ 0
label_other c h = ap (λ (b : Bool). pick b (2 ^ (c - letter_a)) 0) (not_letter c h)

pub record IsLetter (c : ℕ) : Type 0 where
  pub is : is_letter c ≡ true
  pub low : letter_a ≤ c
  pub high : c < letter_a + labels
  pub label : label_at c ≡ 2 ^ (c - letter_a)

-- a label's set is empty exactly if there is no letter
pub letter_there : (c : ℕ) → (label_at c ≡ 0 → ⊥) → IsLetter c
letter_there c h = go (is_letter c) refl
  where
    go : (b : Bool) → is_letter c ≡ b → IsLetter c
    go false e = absurd (h (ap (λ (b : Bool). pick b (2 ^ (c - letter_a)) 0) e))
    go true e =
        let p = and_both (leb letter_a c) (ltb c (letter_a + labels)) e in
        let low = leb-true letter_a c p.0 in
        let high = ltb-true c (letter_a + labels) p.1 in
        record { is = e; low = low; high = high; label = label_letter c low high }

pub no_letter_there : (c : ℕ) → label_at c ≡ 0 → is_letter c ≡ false
no_letter_there c h = go (is_letter c) refl
  where
    go : (b : Bool) → is_letter c ≡ b → is_letter c ≡ false
    go false e = e
    go true e = absurd (let z : 2 ^ (c - letter_a) ≡ 0 = sym (ap (λ (b : Bool). pick b (2 ^ (c - letter_a)) 0) e) ∙ h in omega (arith, pow_pos (c - letter_a)))

-- ---- the sets of the members
or-false : (b : Bool) → (b || false) ≡ b
or-false true = refl
or-false false = refl

or_under : (p r t : Bool) {q : Bool} → q ≡ (r || t) → (p || q) ≡ ((p || r) || t)
or_under true r t e = refl
or_under false r t e = e

has_more : (x : Letter) (w : List Letter) (a : Letter) → has same_letter x (w ++ (a ∷ [])) ≡ (has same_letter x w || same_letter a x)
unfolding has
has_more x [] a = or-false (same_letter a x)
has_more x (b ∷ w) a = or_under (same_letter b x) (has same_letter x w) (same_letter a x) (has_more x w a)

sense_more : (b : Bool) (w : List Letter) (a : Letter) → has_sense b (w ++ (a ∷ [])) ≡ (has_sense b w || same_sense a.inverted b)
unfolding has_sense
sense_more b [] a = or-false (same_sense a.inverted b)
sense_more b (c ∷ w) a = or_under (same_sense c.inverted b) (has_sense b w) (same_sense a.inverted b) (sense_more b w a)

max_or : (p q : Bool) → max (bit p) (bit q) ≡ bit (p || q)
max_or true true = refl
max_or true false = refl
max_or false true = refl
max_or false false = refl

same-sense : (b : Bool) → same_sense b b ≡ true
same-sense true = refl
same-sense false = refl

other_sense : (b : Bool) → same_sense (not b) b ≡ false
other_sense true = refl
other_sense false = refl

and-false : (b : Bool) → (b && false) ≡ false
and-false true = refl
and-false false = refl

and-true : (b : Bool) → (b && true) ≡ b
and-true true = refl
and-true false = refl

eqb_turned : (k l : ℕ) → eqb l k ≡ eqb k l
eqb_turned k l = go (eqb k l) refl
  where
    go : (b : Bool) → eqb k l ≡ b → eqb l k ≡ b
    go true e = eq-eqb l k (sym (eqb-true k l e))
    go false e = ne_eqb l k (λ z. eqb-false k l e (sym z))

some_digit : (x k : ℕ) → digit x k ≡ 1 → 0 < x
some_digit zero k e = absurd (let z : ◌≡◌ {A = ℕ} 0 1 = sym (digit_none k) ∙ e in omega arith)
some_digit (suc x) k e = omega arith

pub marks_none : (b : Bool) → Marks b [] 0
unfolding has has_sense
marks_none b = record { below = omega arith; marked = λ l h. digit_none l; some = refl }

pub marks_same : {b : Bool} {w : List Letter} {x : ℕ} → Marks b w x → (k : ℕ)
    → k < labels → Marks b (w ++ (record { label = k; inverted = b } ∷ [])) (bit_or x (2 ^ k))
marks_same {b} {w} {x} M k h = record {
  below = or_lt labels x (2 ^ k) M.below (pow-lt h);
  marked =
      λ l g. digit_or x (2 ^ k) l ∙ ap₂ max (M.marked l g) (digit_pow k l ∙ at l)
      ∙ max_or (has same_letter (record { label = l; inverted = b }) w) (same_letter (record { label = k; inverted = b }) (record { label = l; inverted = b }))
      ∙ ap bit (sym (has_more (record { label = l; inverted = b }) w (record { label = k; inverted = b })));
  some =
      sense_more b w (record { label = k; inverted = b }) ∙ ap (λ (t : Bool). has_sense b w || t) (same-sense b)
      ∙ or-true (has_sense b w) ∙ sym (lt-ltb 0 (bit_or x (2 ^ k)) (some_digit (bit_or x (2 ^ k)) k one));
}
  where
    at : (l : ℕ) → pick (eqb l k) 1 0 ≡ bit (same_letter (record { label = k; inverted = b }) (record { label = l; inverted = b }))
    at l = ap bit (eqb_turned k l ∙ sym (and-true (eqb k l)) ∙ ap (λ (t : Bool). eqb k l && t) (sym (same-sense b)))

    one : digit (bit_or x (2 ^ k)) k ≡ 1
    one = let e : digit (2 ^ k) k ≡ 1 = digit_pow k k ∙ ap bit (eq-eqb k k refl) in digit_or x (2 ^ k) k ∙ (let z = digit_lt x k in omega (arith, e))

pub marks_other : {b : Bool} {w : List Letter} {x : ℕ} → Marks b w x → (k : ℕ) → Marks b (w ++ (record { label = k; inverted = not b } ∷ [])) x
marks_other {b} {w} {x} M k = record {
  below = M.below;
  marked =
      λ l g. M.marked l g
      ∙ ap bit (sym (has_more (record { label = l; inverted = b }) w (record { label = k; inverted = not b })
      ∙ ap (λ (t : Bool). has same_letter (record { label = l; inverted = b }) w || t) (none l)
      ∙ or-false (has same_letter (record { label = l; inverted = b }) w)));
  some = sense_more b w (record { label = k; inverted = not b }) ∙ ap (λ (t : Bool). has_sense b w || t) (other_sense b) ∙ or-false (has_sense b w) ∙ M.some;
}
  where
    none : (l : ℕ) → same_letter (record { label = k; inverted = not b }) (record { label = l; inverted = b }) ≡ false
    none l = ap (λ (t : Bool). eqb k l && t) (other_sense b) ∙ and-false (eqb k l)

-- what the set stands for, in the sense b
pub others_are : {b : Bool} {w : List Letter} {x : ℕ} → Marks b w x → label_set (λ l. stands_for (none_of w) (record { label = l; inverted = b })) ≡ others_of x
unfolding stands_for
others_are {b} {w} {x} M = go (eqb x 0) refl
  where
    stood : ℕ → Bool
    stood l = ltb l labels && (has_sense b w && not (has same_letter (record { label = l; inverted = b }) w))

    none : (p q : Bool) → 0 ≡ bit (p && (false && q))
    none true q = refl
    none false q = refl

    rest_of : (d : ℕ) (p : Bool) → d ≡ bit p → 1 - d ≡ bit (not p)
    rest_of d true e = rw e
    rest_of d false e = rw e

    go : (t : Bool) → eqb x 0 ≡ t → label_set (λ l. ltb l labels && (has_sense b w && not (has same_letter (record { label = l; inverted = b }) w)))
        ≡ pick t 0 ((label_sets - 1) - x)
    go true e =
        let z : has_sense b w ≡ false = M.some ∙ le-ltb 0 x (omega (arith, eqb-true x 0 e)) in
        label_set_tell _ 0 (pow_pos labels) (λ l h. digit_none l ∙ none (ltb l labels) (not (has same_letter (record { label = l; inverted = b }) w))
        ∙ ap (λ (t : Bool). bit (ltb l labels && (t && not (has same_letter (record { label = l; inverted = b }) w)))) (sym z))
    go false e =
        let n = eqb-false x 0 e in
        let z : has_sense b w ≡ true = M.some ∙ lt-ltb 0 x (omega (arith, n)) in
        label_set_tell _ ((label_sets - 1) - x) (omega arith) (λ l h.
        digit_not labels l x M.below h ∙ rest_of (digit x l) (has same_letter (record { label = l; inverted = b }) w) (M.marked l h)
        ∙ ap (λ (t : Bool). bit (t && not (has same_letter (record { label = l; inverted = b }) w))) (sym z)
        ∙ ap (λ (t : Bool). bit (t && (has_sense b w && not (has same_letter (record { label = l; inverted = b }) w)))) (sym (lt-ltb l labels h)))

-- ---- a member
module _ {s : List ℕ} {q : Letters} {w : List Letter} (M : Marked w q) where
  pub plain_member : (first_byte (drop q.at s) ≡ hat → ⊥) → {y : ℕ} → y ≡ label_at (first_byte (drop q.at s)) → (y ≡ 0 → ⊥)
      → MemberAt s q.at w (Read (record { at = q.at + 1; forward = bit_or q.forward y; against = q.against }))
  plain_member v {y} e n =
      let c : ℕ = first_byte (drop q.at s) in
      let i = letter_there c (λ z. n (e ∙ z)) in
      let inside = there s q.at c refl (omega (arith, i.low)) in
      a_member {q = record { at = q.at + 1; forward = bit_or q.forward y; against = q.against }} (letter_of false c) (record {
        is = λ k. if_false (eqb c hat) _ _ (ne_eqb c hat v) ∙ if_true (is_letter c) _ _ i.is ∙ ap (k (letter_of false c)) (rest_drop s q.at);
        past = omega arith;
        inside = omega arith;
        marks = (rw (e ∙ i.label) (marks_same M.0 (c - letter_a) (omega (arith, i.low, i.high))), marks_other M.1 (c - letter_a));
      })

  pub plain_none : (first_byte (drop q.at s) ≡ hat → ⊥) → label_at (first_byte (drop q.at s)) ≡ 0 → MemberAt s q.at w Missing
  plain_none v e =
      no_member (λ k. if_false (eqb (first_byte (drop q.at s)) hat) _ _ (ne_eqb _ hat v)
      ∙ if_false (is_letter (first_byte (drop q.at s))) _ _ (no_letter_there (first_byte (drop q.at s)) e))

  pub hat_member : first_byte (drop q.at s) ≡ hat → {y : ℕ} → y ≡ label_at (first_byte (drop (q.at + 1) s)) → (y ≡ 0 → ⊥)
      → MemberAt s q.at w (Read (record { at = q.at + 2; forward = q.forward; against = bit_or q.against y }))
  hat_member v {y} e n =
      let c : ℕ = first_byte (drop (q.at + 1) s) in
      let i = letter_there c (λ z. n (e ∙ z)) in
      let inside = there s (q.at + 1) c refl (omega (arith, i.low)) in
      let two : q.at + 1 + 1 ≡ q.at + 2 = omega arith in
      a_member {q = record { at = q.at + 2; forward = q.forward; against = bit_or q.against y }} (letter_of true c) (record {
        is = λ k. if_true (eqb (first_byte (drop q.at s)) hat) _ _ (eq-eqb _ hat v)
            ∙ ap (λ (l : List ℕ). elim (is_letter (first_byte l)) [ true ↦ k (letter_of true (first_byte l)) (rest l) | false ↦ fault ]) (rest_drop s q.at)
            ∙ if_true (is_letter c) _ _ i.is ∙ ap (k (letter_of true c)) (rest_drop s (q.at + 1) ∙ ap (λ (p : ℕ). drop p s) two);
        past = omega arith;
        inside = omega arith;
        marks = (marks_other M.0 (c - letter_a), rw (e ∙ i.label) (marks_same M.1 (c - letter_a) (omega (arith, i.low, i.high))));
      })

  pub hat_none : first_byte (drop q.at s) ≡ hat → label_at (first_byte (drop (q.at + 1) s)) ≡ 0 → MemberAt s q.at w Missing
  hat_none v e =
      no_member (λ k. if_true (eqb (first_byte (drop q.at s)) hat) _ _ (eq-eqb _ hat v)
      ∙ if_false (is_letter (first_byte (rest (drop q.at s)))) _ _
      (ap (λ (l : List ℕ). is_letter (first_byte l)) (rest_drop s q.at) ∙ no_letter_there (first_byte (drop (q.at + 1) s)) e))

-- by what `member` answered
abbrev Answered : List ℕ → ℕ → List Letter → Symbol-read → Type 0
Answered s at w Missing = (k : Letter → List ℕ → Parse) → read_member k (drop at s) ≡ fault
Answered s at w (Read q) = (a : Letter) × MemberIs s at w a q

answered : {s : List ℕ} {at : ℕ} {w : List Letter} {r : Symbol-read} → MemberAt s at w r → Answered s at w r
answered (no_member h) = h
answered (a_member a h) = (a, h)

pub member_of : {s : List ℕ} {at : ℕ} {w : List Letter} {r : Symbol-read} {q : Letters} → r ≡ Read q → MemberAt s at w r → (a : Letter) × MemberIs s at w a q
member_of {s} {at} {w} e h = subst (Answered s at w) e (answered h)

pub no_member_of : {s : List ℕ} {at : ℕ} {w : List Letter} {r : Symbol-read} → r ≡ Missing
    → MemberAt s at w r → (k : Letter → List ℕ → Parse) → read_member k (drop at s) ≡ fault
no_member_of {s} {at} {w} e h = subst (Answered s at w) e (answered h)

-- ---- the members of a set
abbrev members_of : List ℕ → ℕ → Parse
members_of s at = members_in (length (drop at s) + 1) [] (drop at s)

-- the members w are read, and q stands before the next
pub record Setting (s : List ℕ) (at : ℕ) (q : Letters) : Type 0 where
  pub w : List Letter
  pub f : ℕ
  pub is : members_of s at ≡ members_in f w (drop q.at s)
  pub enough : length s < f + q.at
  pub past : at ≤ q.at
  pub inside : q.at ≤ length s
  pub marks : Marked w q

pub set_starts : (s : List ℕ) (at : ℕ) → at ≤ length s → Setting s at (record { at = at; forward = 0; against = 0 })
set_starts s at h =
    record {
      w = [];
      f = length (drop at s) + 1;
      is = refl;
      enough = omega (arith, length-drop at s);
      past = omega arith;
      inside = h;
      marks = (marks_none false, marks_none true);
    }

-- what is done after the members w
abbrev after_members : ℕ → List Letter → List ℕ → Parse
after_members f w r =
    elim (eqb (first_byte r) bar) [
      | true ↦ members_in f w (rest r)
      | false ↦ elim (eqb (first_byte r) close_group) [ true ↦ got (symbol (none_of w)) (rest r) | false ↦ fault ]
    ]

members_more : (f : ℕ) (w : List Letter) (l : List ℕ) → members_in (suc f) w l ≡ read_member (λ a r. after_members f (w ++ (a ∷ [])) r) l
unfolding members_in
members_more f w l = refl

module _ {s : List ℕ} {at : ℕ} {before : Letters} (i : Setting s at before) where
  -- one more is allowed
  record More : Type 0 where
    f : ℕ
    is : members_of s at ≡ members_in (suc f) i.w (drop before.at s)
    enough : length s < suc f + before.at

  more : More
  more = go i.f i.is i.enough
    where
      go : (f : ℕ) → members_of s at ≡ members_in f i.w (drop before.at s) → length s < f + before.at → More
      go zero e h = absurd (omega (arith, i.inside))
      go (suc f) e h = record { f = f; is = e; enough = h }

  pub set_fails : {r : Symbol-read} → r ≡ Missing → MemberAt s before.at i.w r → members_of s at ≡ fault
  set_fails e h = more.is ∙ members_more more.f i.w (drop before.at s) ∙ no_member_of e h (λ a r. after_members more.f (i.w ++ (a ∷ [])) r)

  module _ {r : Symbol-read} {q : Letters} (e : r ≡ Read q) (h : MemberAt s before.at i.w r) where
    m : (a : Letter) × MemberIs s before.at i.w a q
    m = member_of e h

    goes : members_of s at ≡ after_members more.f (i.w ++ (m.0 ∷ [])) (drop q.at s)
    goes = more.is ∙ members_more more.f i.w (drop before.at s) ∙ m.1.is (λ a r. after_members more.f (i.w ++ (a ∷ [])) r)

    pub set_reaches : (before.at < q.at) × (q.at ≤ length s) × (q.forward < label_sets) × (q.against < label_sets)
    set_reaches = (m.1.past, m.1.inside, m.1.marks.0.below, m.1.marks.1.below)

    pub set_again : first_byte (drop q.at s) ≡ bar → Setting s at (record { at = q.at + 1; forward = q.forward; against = q.against })
    set_again v =
        let y = there s q.at bar v (omega arith) in
        record {
          w = i.w ++ (m.0 ∷ []);
          f = more.f;
          is =
              goes ∙ if_true (eqb (first_byte (drop q.at s)) bar) _ _ (eq-eqb _ bar v) ∙ ap (members_in more.f (i.w ++ (m.0 ∷ []))) (rest_drop s q.at);
          enough = omega (arith, more.enough, m.1.past);
          past = omega (arith, m.1.past, i.past);
          inside = omega arith;
          marks = m.1.marks;
        }

    pub set_ends : first_byte (drop q.at s) ≡ close_group → {y z : ℕ} → y ≡ others_of q.forward
        → z ≡ others_of q.against → Stands s at (members_of s at) (Read (record { at = q.at + 1; forward = y; against = z }))
    set_ends v {y} {z} ey ez =
        let u = there s q.at close_group v (omega arith) in
        let c : ℕ = first_byte (drop q.at s) in
        stands {q = record { at = q.at + 1; forward = y; against = z }} (none_of (i.w ++ (m.0 ∷ []))) (record {
          is =
              goes ∙ if_false (eqb c bar) _ _ (ne_eqb c bar (λ o. omega arith)) ∙ if_true (eqb c close_group) _ _ (eq-eqb c close_group v)
              ∙ ap (got (symbol (none_of (i.w ++ (m.0 ∷ []))))) (rest_drop s q.at);
          past = omega (arith, m.1.past, i.past);
          inside = omega arith;
          forward = ey ∙ sym (others_are m.1.marks.0);
          against = ez ∙ sym (others_are m.1.marks.1);
        })

    pub set_other : (first_byte (drop q.at s) ≡ close_group → ⊥) → (first_byte (drop q.at s) ≡ bar → ⊥) → members_of s at ≡ fault
    set_other v u =
        goes ∙ if_false (eqb (first_byte (drop q.at s)) bar) _ _ (ne_eqb _ bar u)
        ∙ if_false (eqb (first_byte (drop q.at s)) close_group) _ _ (ne_eqb _ close_group v)

-- ---- after a !
-- told from earlier on
earlier : {s : List ℕ} {at at' : ℕ} {x y : Parse} {r : Symbol-read} → at ≤ at' → x ≡ y → Stands s at' y r → Stands s at x r
earlier h e (missing k) = missing (e ∙ k)
earlier h e (stands {q} y k) =
    stands {q = q} y (record { is = e ∙ k.is; past = omega (arith, k.past); inside = k.inside; forward = k.forward; against = k.against })

pub negated_set : {s : List ℕ} {at : ℕ} {r : Symbol-read} → first_byte (drop at s) ≡ open_group
    → Stands s (at + 1) (members_of s (at + 1)) r → Stands s at (read_negated (drop at s)) r
negated_set {s} {at} v h =
    let y = there s at open_group v (omega arith) in
    let long : length (drop at s) ≡ length (drop (at + 1) s) + 1 = omega (arith, length-drop at s, length-drop (at + 1) s) in
    earlier (omega arith)
    (if_true (eqb (first_byte (drop at s)) open_group) _ _ (eq-eqb _ open_group v) ∙ ap₂ (λ (f : ℕ) (l : List ℕ). members_in f [] l) long (rest_drop s at)) h

pub negated_member : {s : List ℕ} {at : ℕ} {r : Symbol-read} {q : Letters} → (first_byte (drop at s) ≡ open_group → ⊥)
    → r ≡ Read q → MemberAt s at [] r → {y z : ℕ} → y ≡ others_of q.forward → z ≡ others_of q.against
    → Stands s at (read_negated (drop at s)) (Read (record { at = q.at; forward = y; against = z }))
negated_member {s} {at} {q = q} v e h {y} {z} ey ez =
    let m = member_of e h in
    stands {q = record { at = q.at; forward = y; against = z }} (none_of (m.0 ∷ [])) (record {
      is = if_false (eqb (first_byte (drop at s)) open_group) _ _ (ne_eqb _ open_group v) ∙ m.1.is got_negated;
      past = m.1.past;
      inside = m.1.inside;
      forward = ey ∙ sym (others_are m.1.marks.0);
      against = ez ∙ sym (others_are m.1.marks.1);
    })

pub negated_none : {s : List ℕ} {at : ℕ} {r : Symbol-read} → (first_byte (drop at s) ≡ open_group → ⊥)
    → r ≡ Missing → MemberAt s at [] r → Stands s at (read_negated (drop at s)) Missing
negated_none {s} {at} v e h = missing (if_false (eqb (first_byte (drop at s)) open_group) _ _ (ne_eqb _ open_group v) ∙ no_member_of e h got_negated)

-- ---- where no group begins
pub symbol_negated : {s : List ℕ} {at : ℕ} {r : Symbol-read} → first_byte (drop at s) ≡ bang
    → Stands s (at + 1) (read_negated (drop (at + 1) s)) r → Stands s at (read_atom (drop at s)) r
symbol_negated {s} {at} v h =
    let c : ℕ = first_byte (drop at s) in
    let letterless : is_letter c ≡ false = ap is_letter v in
    earlier (omega arith) (atom_negated (drop at s) (ne_eqb c open_group (λ w. omega arith)) letterless (eq-eqb c bang v) ∙ ap read_negated (rest_drop s at)) h

pub symbol_letter : {s : List ℕ} {at : ℕ} {y : ℕ} → y ≡ label_at (first_byte (drop at s)) → (y ≡ 0 → ⊥)
    → Stands s at (read_atom (drop at s)) (Read (record { at = at + 1; forward = y; against = 0 }))
symbol_letter {s} {at} {y} e n =
    let c : ℕ = first_byte (drop at s) in
    let i = letter_there c (λ z. n (e ∙ z)) in
    let within = there s at c refl (omega (arith, i.low)) in
    stands {q = record { at = at + 1; forward = y; against = 0 }} (letter (c - letter_a)) (record {
      is = atom_letter (drop at s) (ne_eqb c open_group (λ w. omega (arith, i.low))) i.is ∙ ap (got (symbol (letter (c - letter_a)))) (rest_drop s at);
      past = omega arith;
      inside = omega arith;
      forward = e ∙ i.label ∙ sym (letter_forward (c - letter_a) (omega (arith, i.low, i.high)));
      against = sym (letter_against (c - letter_a));
    })

pub symbol_none : {s : List ℕ} {at : ℕ} → (first_byte (drop at s) ≡ open_group → ⊥)
    → (first_byte (drop at s) ≡ bang → ⊥) → label_at (first_byte (drop at s)) ≡ 0 → Stands s at (read_atom (drop at s)) Missing
symbol_none {s} {at} v u e = missing (atom_fault (drop at s) (ne_eqb _ open_group v) (no_letter_there (first_byte (drop at s)) e) (ne_eqb _ bang u))
