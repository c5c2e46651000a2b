-- Laws of the parts that wait: where their positions lie, that what an operation leaves alone stays, and the latest of them.
--   zero_of             a number that is not on is 0
--   fit_symbol, fit_repeated, fit_optional, fit_reversed, after_first, fit_either, fit_followed
--                       the positions of a part are those of its letters; of two, the second's come after the first's
--   Same b r o k        the masks of the stack below k and the rows up to o are as they were
--   items_keep          so the parts that lie there wait still
--   Top b m k x st      the latest that waits, and what waits below it
--   top_of, put_top     it is taken off, and put on
--   joins_off           the rows to which no edge is added stay
-- Assumes nothing.
use mathlib.Core.Path.{◌≡◌, refl, sym, ap, ◌∙◌, subst}
use mathlib.Core.List.{List, ◌∷◌}
use Prim.Native.Nat.{ℕ, zero, suc, ◌+◌, ◌<◌}
use native.Mathlib.Omega.{arith}
use lib.ListN.{get_or}
use Rattle.k2.specs.Bits.{digit}
use Rattle.reader.specs.Letters.{letters_in}
use Rattle.automaton.specs.Automata.{On, single, reversed, repeated, optional, either, followed}
use Rattle.automaton.specs.Traces.{Between, Within}
use Rattle.automaton.proofs.TraceLaws.{within_single, within_repeated, within_optional, within_reversed, within_either, within_followed}
use Rattle.automaton.specs.Masks.{letter_number}
use Rattle.tables.specs.Rows.{Joined}
use Rattle.tables.specs.Builds.{Build, Part, parts, Fit, Item, Items, none, item}

pub zero_of : (d : ℕ) → (On d → ⊥) → d ≡ 0
zero_of zero n = refl
zero_of (suc d) n = absurd (n (omega arith))

-- ---- the positions of a part are those of its letters
pub fit_symbol : (forward against : ℕ) → Fit (parts.of forward against)
unfolding parts single
fit_symbol forward against = record { within = λ o. within_single o (letters_in forward against); nullable_lt = λ o. omega arith }

pub fit_repeated : {x : Part} → Fit x → Fit (parts.repeated x)
unfolding parts repeated
fit_repeated F = record { within = λ o. within_repeated (F.within o); nullable_lt = F.nullable_lt }

pub fit_optional : {x : Part} → Fit x → Fit (parts.maybe x)
unfolding parts optional
fit_optional F = record { within = λ o. within_optional (F.within o); nullable_lt = λ o. omega arith }

pub fit_reversed : {x : Part} → Fit x → Fit (parts.inverted x)
unfolding parts reversed
fit_reversed F = record { within = λ o. within_reversed (F.within o); nullable_lt = F.nullable_lt }

-- of two, the second's come after the first's
after_first : (x : Part) {y : Part} → Fit y → (o : ℕ) → Within (o + x.letters) (o + (x.letters + y.letters)) (y.fragment (o + x.letters))
after_first x {y} G o = rw (let z : o + (x.letters + y.letters) ≡ o + x.letters + y.letters = omega arith in z) (G.within (o + x.letters))

pub fit_either : {x y : Part} → Fit x → Fit y → Fit (parts.either x y)
unfolding parts either
fit_either {x} {y} F G = record {
  within = λ o. within_either o (o + x.letters) (o + (x.letters + y.letters)) (omega arith) (omega arith) (F.within o) (after_first x G o);
  nullable_lt = λ o. let a = F.nullable_lt o in let b = G.nullable_lt (o + x.letters) in omega arith;
}

pub fit_followed : {x y : Part} → Fit x → Fit y → Fit (parts.followed x y)
unfolding parts followed
fit_followed {x} {y} F G = record {
  within = λ o. within_followed o (o + x.letters) (o + (x.letters + y.letters)) (omega arith) (omega arith) (F.within o) (after_first x G o);
  nullable_lt = λ o. let a = F.nullable_lt o in let b = G.nullable_lt (o + x.letters) in omega arith;
}

-- the masks of the stack below k and the rows up to o are as they were
pub record Same (b r : Build) (o k : ℕ) : Type 0 where
  pub nullable : (i : ℕ) → i < k → get_or r.nullable i 0 ≡ get_or b.nullable i 0
  pub first : (i : ℕ) → i < k → get_or r.first i 0 ≡ get_or b.first i 0
  pub last : (i : ℕ) → i < k → get_or r.last i 0 ≡ get_or b.last i 0
  pub own : (i : ℕ) → i < k → get_or r.own i 0 ≡ get_or b.own i 0
  pub follow : (p q : ℕ) → Between 0 o p → digit (get_or r.follow p 0) q ≡ digit (get_or b.follow p 0) q
  pub pred : (p q : ℕ) → Between 0 o q → digit (get_or r.pred q 0) p ≡ digit (get_or b.pred q 0) p
  pub enter : (c q : ℕ) → Between 0 o q → digit (get_or r.enter c 0) q ≡ digit (get_or b.enter c 0) q

pub items_keep : {b r : Build} {o k : ℕ} {st : List Part} → Same b r o k → Items b o k st → Items r o k st
items_keep S none = none
items_keep {b} {r} S (item {o} {k} {x} I F T) =
    item (items_keep (record {
      nullable = λ i h. S.nullable i (omega arith);
      first = λ i h. S.first i (omega arith);
      last = λ i h. S.last i (omega arith);
      own = λ i h. S.own i (omega arith);
      follow = λ p q h. S.follow p q (omega arith, omega arith);
      pred = λ p q h. S.pred p q (omega arith, omega arith);
      enter = λ c q h. S.enter c q (omega arith, omega arith);
    }) I) F (record {
      nullable = S.nullable k (omega arith) ∙ T.nullable;
      first = λ q. ap (λ (x : ℕ). digit x q) (S.first k (omega arith)) ∙ T.first q;
      last = λ q. ap (λ (x : ℕ). digit x q) (S.last k (omega arith)) ∙ T.last q;
      own_on = λ q h. T.own_on q (rw (S.own k (omega arith)) at h);
      own_all = λ q h. rw (S.own k (omega arith)) (T.own_all q h);
      follow = λ p q h. S.follow p q (omega arith, omega arith) ∙ T.follow p q h;
      pred = λ p q h. S.pred p q (omega arith, omega arith) ∙ T.pred p q h;
      enters = λ q a h. S.enter (letter_number a) q (omega arith, omega arith) ∙ T.enters q a h;
    })

-- the latest that waits
pub record Top (b : Build) (m k : ℕ) (x : Part) (st : List Part) : Type 0 where
  pub o : ℕ
  pub j : ℕ
  pub at : k ≡ suc j
  pub ends : m ≡ o + x.letters
  pub rest : Items b o j st
  pub fit : Fit x
  pub this : Item b j o (o + x.letters) (x.fragment o)

pub top_of : {b : Build} {m k : ℕ} {x : Part} {st : List Part} → Items b m k (x ∷ st) → Top b m k x st
top_of (item {o} {k} I F T) = record { o = o; j = k; at = refl; ends = refl; rest = I; fit = F; this = T }

-- and reversed
pub put_top : {b : Build} {o j : ℕ} {st : List Part} (x : Part) (m k : ℕ) → k ≡ suc j → m ≡ o + x.letters
    → Items b o j st → Fit x → Item b j o (o + x.letters) (x.fragment o) → Items b m k (x ∷ st)
put_top {b} {o} {j} {st} x m k e f I F T = subst (λ (i : ℕ). Items b m i (x ∷ st)) (sym e) (subst (λ (i : ℕ). Items b i (suc j) (x ∷ st)) (sym f) (item I F T))

-- ---- tables with edges added
pub joins_off : {rows : List ℕ} {from : ℕ → ℕ} {to : ℕ} {r : List ℕ} → Joined rows from to r → (p q : ℕ) → from p ≡ 0
    → digit (get_or r p 0) q ≡ digit (get_or rows p 0) q
joins_off J p q e = J.at p q ∙ (omega arith)
