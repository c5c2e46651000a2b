-- A negated set stands for the letters that its members leave.
--   Leaves w a      the members w leave the letter a: it has a label, a member has its sense, and none is a itself
--   stands_leaves, leaves_stands
--                   a negated set stands for exactly these
-- Assumes nothing.
use Rattle.std.specs.Prelude.{◌≡◌, refl, List, [], ◌∷◌, Bool, true, false, not, ◌&&◌, ◌||◌, ◌<◌, eqb, ltb}
use Rattle.std.proofs.Common.{sym, ap, ◌∙◌, eqb-true, eq-eqb, lt-ltb, ltb-true}
use Rattle.std.proofs.lemmas.Bool.{false≢true}
use Rattle.book.specs.Basics.{In, here, there, has}
use Rattle.book.proofs.SetLaws.{and_both, or-true, EqualityTest, has_in, in_has}
use Rattle.book.specs.Causes.{labels}
use Rattle.paths.specs.Expressions.{Letter, none_of, same_sense, same_letter, has_sense, stands_for}

pub record Leaves (w : List Letter) (a : Letter) : Type 0 where
  pub known : a.label < labels
  pub member : Letter
  pub is_member : In member w
  pub sense : member.inverted ≡ a.inverted
  pub other : In a w → ⊥

-- senses and letters are compared
sense_sound : (b c : Bool) → same_sense b c ≡ true → b ≡ c
sense_sound true c e = sym e
sense_sound false true e = e
sense_sound false false e = refl

sense_same : (b : Bool) → same_sense b b ≡ true
sense_same true = refl
sense_same false = refl

same_letter_test : EqualityTest same_letter
same_letter_test = record {
  sound = λ a b e.
      let p = and_both (eqb a.label b.label) (same_sense a.inverted b.inverted) e in
      let l : a.label ≡ b.label = eqb-true a.label b.label p.0 in
      let s : a.inverted ≡ b.inverted = sense_sound a.inverted b.inverted p.1 in
      λ i. record { label = l i; inverted = s i };
  reflexive = λ a. rw (eq-eqb a.label a.label refl) (sense_same a.inverted);
}

-- a member has the sense
record Sensed (b : Bool) (w : List Letter) : Type 0 where
  member : Letter
  is_member : In member w
  sense : member.inverted ≡ b

has-sense : (b : Bool) (w : List Letter) → has_sense b w ≡ true → Sensed b w
unfolding has_sense
has-sense b [] e = absurd (false≢true e)
has-sense b (a ∷ w) e = go (same_sense a.inverted b) refl e (has-sense b w)
  where
    go : (t : Bool) → same_sense a.inverted b ≡ t → (t || has_sense b w) ≡ true → (has_sense b w ≡ true → Sensed b w) → Sensed b (a ∷ w)
    go true q h f = record { member = a; is_member = here; sense = sense_sound a.inverted b q }
    go false q h f = let r = f h in record { member = r.member; is_member = there r.is_member; sense = r.sense }

sense_has : (b : Bool) (a : Letter) {w : List Letter} → In a w → a.inverted ≡ b → has_sense b w ≡ true
unfolding has_sense
sense_has b a (here {l = w}) e = ap (λ (t : Bool). t || has_sense b w) (ap (λ (c : Bool). same_sense c b) e ∙ sense_same b)
sense_has b a (there {v = c} i) e = ap (λ (t : Bool). same_sense c.inverted b || t) (sense_has b a i e) ∙ or-true (same_sense c.inverted b)

not-true : (b : Bool) → not b ≡ true → b ≡ false
not-true true e = sym e
not-true false e = refl

pub stands_leaves : (w : List Letter) (a : Letter) → stands_for (none_of w) a ≡ true → Leaves w a
unfolding stands_for
stands_leaves w a h =
    let p = and_both (ltb a.label labels) (has_sense a.inverted w && not (has same_letter a w)) h in
    let q = and_both (has_sense a.inverted w) (not (has same_letter a w)) p.1 in
    let r = has-sense a.inverted w q.0 in
    record {
      known = ltb-true a.label labels p.0;
      member = r.member;
      is_member = r.is_member;
      sense = r.sense;
      other = λ i. false≢true (sym (not-true (has same_letter a w) q.1) ∙ in_has same_letter_test a w i);
    }

pub leaves_stands : (w : List Letter) (a : Letter) → Leaves w a → stands_for (none_of w) a ≡ true
unfolding stands_for
leaves_stands w a L =
    rw (lt-ltb a.label labels L.known, sense_has a.inverted L.member L.is_member L.sense) (absent (has same_letter a w) refl)
  where
    absent : (t : Bool) → has same_letter a w ≡ t → not t ≡ true
    absent true e = absurd (L.other (has_in same_letter_test a w e))
    absent false e = refl
