-- The tables hold the fragments of the parts that wait, after a symbol.
--   digit_bit, letter-digit
--                 whether a letter is in the two sets of a symbol, by its number
--   holds_symbol  a symbol: one position more, which its letters enter
-- Assumes nothing.
use mathlib.Core.Path.{◌≡◌, refl, ap, ◌∙◌}
use mathlib.Core.List.{List, ◌∷◌}
use mathlib.Core.Bool.{Bool, true, false}
use Prim.Native.Nat.{ℕ, zero, suc, ◌+◌, ◌*◌, ◌/◌, ◌%◌, ◌^◌, ◌<◌, min}
use native.Mathlib.Omega.{arith}
use lib.Dec.{eqb}
use lib.ListN.{length, get_or, set}
use lib.Seq.{get_or-set_same, get_or-set_other}
use borrow.Author.Tests.{eq-eqb, ne_eqb}
use Rattle.book.specs.Basics.{pick, bit}
use Rattle.k2.specs.Bits.{digit}
use Rattle.k2.specs.DigitLaws.{digit_lt, digit_pow}
use Rattle.k2.specs.PairSetLaws.{bit_small}
use Rattle.paths.specs.Expressions.{Letter}
use Rattle.reader.specs.Letters.{letters_in}
use Rattle.automaton.specs.Automata.{is, single}
use Rattle.automaton.proofs.SetLaws.{on_is}
use Rattle.automaton.specs.Traces.{Between}
use Rattle.automaton.specs.Masks.{letter_number}
use Rattle.tables.specs.Rows.{Joined, letter_digit}
use Rattle.tables.specs.Builds.{Build, Part, parts, Item, Holds}
use Rattle.tables.proofs.PartLaws.{fit_symbol, Same, items_keep, put_top}

-- whether a letter is in the two sets, by its number
digit_bit : (d : ℕ) → d < 2 → d ≡ bit (eqb d 1)
digit_bit zero h = refl
digit_bit (suc zero) h = refl
digit_bit (suc (suc d)) h = absurd (omega arith)

letter-digit : (forward against : ℕ) (a : Letter) → letter_digit forward against (letter_number a) ≡ bit (letters_in forward against a)
unfolding letters_in
letter-digit forward against a = go a.inverted refl
  where
    half : (a.label * 2 + bit a.inverted) / 2 ≡ a.label
    half = let z = bit_small a.inverted in omega arith

    go : (s : Bool) → a.inverted ≡ s → letter_digit forward against (a.label * 2 + bit a.inverted)
        ≡ bit (eqb (digit (pick a.inverted against forward) a.label) 1)
    go true e =
        let odd : (a.label * 2 + 1) % 2 ≡ 1 = omega arith in
        let b = digit_lt against a.label in
        rw (half, e, odd) (let z = digit_bit _ b in omega arith)
    go false e =
        let even : (a.label * 2 + 0) % 2 ≡ 0 = omega arith in
        let b = digit_lt forward a.label in
        rw (half, e, even) (let z = digit_bit _ b in omega arith)

pub holds_symbol : {b r : Build} {m : ℕ} {st : List Part} → Holds b m st → (forward against mark : ℕ) → b.used < 63
    → b.top < length b.first → b.top < length b.last → b.top < length b.own → b.top < length b.nullable
    → mark ≡ 2 ^ (b.used + 1) → r.top ≡ b.top + 1 → r.used ≡ b.used + 1 → r.first ≡ set b.first b.top mark
    → r.last ≡ set b.last b.top mark → r.own ≡ set b.own b.top mark → r.nullable ≡ set b.nullable b.top 0
    → Joined b.enter (letter_digit forward against) mark r.enter → r.follow ≡ b.follow
    → r.pred ≡ b.pred → Holds r (m + 1) (parts.of forward against ∷ st)
unfolding parts single
holds_symbol {b} {r} {m} {st} H forward against mark hm lf ll lo ln eb et em ef el eo en J eh ep =
    record {
      items =
          put_top (parts.of forward against) (m + 1) r.top (et ∙ (let z : b.top + 1 ≡ suc b.top = omega arith in z))
          refl (items_keep sm H.items) (fit_symbol forward against) it;
      count = em ∙ ap (λ (x : ℕ). x + 1) H.count;
      few = omega (arith, H.count);
      blank = record {
        follow = λ p q n. rw eh (H.blank.follow p q (λ h. n (omega arith, omega arith)));
        pred = λ p q n. rw ep (H.blank.pred p q (λ h. n (omega arith, omega arith)));
        enter = λ c q n. elsewhere c q (λ e. n (omega arith, omega arith)) ∙ H.blank.enter c q (λ h. n (omega arith, omega arith));
      };
    }
  where
    bm : mark ≡ 2 ^ suc m
    bm = eb ∙ ap (λ (x : ℕ). 2 ^ x) (let z = H.count in let y : b.used + 1 ≡ suc m = omega arith in y)

    bit_is : (q : ℕ) → digit mark q ≡ is (suc m) q
    bit_is q = rw bm (digit_pow (suc m) q)

    bit_no : (q : ℕ) → (q ≡ suc m → ⊥) → digit mark q ≡ 0
    bit_no q n = bit_is q ∙ rw (ne_eqb q (suc m) n)

    bit_yes : digit mark (suc m) ≡ 1
    bit_yes = bit_is (suc m) ∙ rw (eq-eqb (suc m) (suc m) refl)

    elsewhere : (c q : ℕ) → (q ≡ suc m → ⊥) → digit (get_or r.enter c 0) q ≡ digit (get_or b.enter c 0) q
    elsewhere c q n = J.at c q ∙ (let z = bit_no q n in omega arith)

    new : (c : ℕ) → digit (get_or r.enter c 0) (suc m) ≡ letter_digit forward against c
    new c =
        J.at c (suc m)
        ∙ (let z = H.blank.enter c (suc m) (λ h. omega arith) in
        let v = bit_yes in
        let f = digit_lt forward (c / 2) in
        let g = digit_lt against (c / 2) in
        omega arith)

    only_one : (q : ℕ) → Between m (m + 1) q → q ≡ suc m
    only_one q h = omega arith

    sm : Same b r m b.top
    sm = record {
      nullable = λ i h. rw en (get_or-set_other b.nullable b.top i 0 0 (λ e. omega arith));
      first = λ i h. rw ef (get_or-set_other b.first b.top i mark 0 (λ e. omega arith));
      last = λ i h. rw el (get_or-set_other b.last b.top i mark 0 (λ e. omega arith));
      own = λ i h. rw eo (get_or-set_other b.own b.top i mark 0 (λ e. omega arith));
      follow = λ p q h. rw eh;
      pred = λ p q h. rw ep;
      enter = λ c q h. elsewhere c q (λ e. omega arith);
    }

    small : (d : Bool) → bit d ≡ min 1 (bit d)
    small true = refl
    small false = refl

    it : Item r b.top m (m + 1) (single (suc m) (letters_in forward against))
    it = record {
      nullable = rw en (get_or-set_same b.nullable b.top 0 0 ln);
      first = λ q. rw (ef, get_or-set_same b.first b.top mark 0 lf) (bit_is q);
      last = λ q. rw (el, get_or-set_same b.last b.top mark 0 ll) (bit_is q);
      own_on = λ q o. (let e = on_is (suc m) q (rw (bit_is q) at (rw (eo, get_or-set_same b.own b.top mark 0 lo) at o)) in (omega arith, omega arith));
      own_all = λ q h. rw (eo, get_or-set_same b.own b.top mark 0 lo, only_one q h) (let v = bit_yes in omega arith);
      follow = λ p q h. rw eh (H.blank.follow p q (λ g. omega arith));
      pred = λ p q h. rw ep (H.blank.pred p q (λ g. omega arith));
      enters =
          λ q a h. rw (only_one q h) (new (letter_number a) ∙ letter-digit forward against a
          ∙ rw (eq-eqb (suc m) (suc m) refl) (small (letters_in forward against a)));
    }
