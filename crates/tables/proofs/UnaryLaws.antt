-- The tables hold the fragments of the parts that wait, after an operator on one.
--   holds_plus      one or more
--   inverse-number  the number of a letter inverted
--   holds_optional  once or not at all; and the star of what is repeated
--   holds_inverse   inverted
-- Assumes nothing.
use mathlib.Core.Path.{◌≡◌, refl, sym, ap, ap₂, ◌∙◌}
use mathlib.Core.List.{List, ◌∷◌}
use mathlib.Core.Bool.{Bool, true, false}
use Prim.Native.Nat.{ℕ, ◌+◌, ◌-◌, ◌≤◌, ◌<◌, min, max}
use native.Mathlib.Omega.{arith}
use native.Mathlib.Decide.{dec_lt}
use lib.ListN.{length, get_or, set, get_or-eq_default}
use lib.Seq.{get_or-set_same, get_or-set_other}
use Rattle.k2.specs.Bits.{digit}
use Rattle.paths.specs.Expressions.{Letter}
use Rattle.paths.specs.Words.{inverse_letter}
use Rattle.automaton.specs.Automata.{On, reversed, repeated, optional}
use Rattle.automaton.specs.Traces.{Between, Within}
use Rattle.automaton.specs.Masks.{letter_number}
use Rattle.tables.specs.Rows.{Joined, Mixed, inverse_number, Turned}
use Rattle.tables.specs.Builds.{Build, Part, parts, Item, Holds}
use Rattle.tables.proofs.PartLaws.{zero_of, fit_repeated, fit_optional, fit_reversed, Same, items_keep, Top, top_of, put_top, joins_off}

-- ---- one or more
module _ {b r : Build} {m : ℕ} {x : Part} {st : List Part} (H : Holds b m (x ∷ st)) where
  pub holds_plus : r.top ≡ b.top → r.used ≡ b.used → r.first ≡ b.first
      → r.last ≡ b.last → r.own ≡ b.own → r.nullable ≡ b.nullable → r.enter ≡ b.enter
      → Joined b.follow (digit (get_or b.last (b.top - 1) 0)) (get_or b.first (b.top - 1) 0) r.follow
      → Joined b.pred (digit (get_or b.first (b.top - 1) 0)) (get_or b.last (b.top - 1) 0) r.pred → Holds r m (parts.repeated x ∷ st)
  unfolding parts repeated
  holds_plus et em ef el eo en ee J K =
      record {
        items = put_top (parts.repeated x) m r.top (et ∙ t.at) t.ends (items_keep sm t.rest) (fit_repeated t.fit) it;
        count = em ∙ H.count;
        few = H.few;
        blank = record { follow = bf; pred = bp; enter = λ c q n. rw ee (H.blank.enter c q n) };
      }
    where
      t : Top b m b.top x st
      t = top_of H.items

      j : b.top - 1 ≡ t.j
      j = let z = t.at in omega arith

      W : Within t.o (t.o + x.letters) (x.fragment t.o)
      W = t.fit.within t.o

      la : (p : ℕ) → digit (get_or b.last (b.top - 1) 0) p ≡ (x.fragment t.o).last p
      la p = rw j (t.this.last p)

      fi : (p : ℕ) → digit (get_or b.first (b.top - 1) 0) p ≡ (x.fragment t.o).first p
      fi p = rw j (t.this.first p)

      no_last : (p : ℕ) → (Between t.o (t.o + x.letters) p → ⊥) → digit (get_or b.last (b.top - 1) 0) p ≡ 0
      no_last p n = la p ∙ zero_of _ (λ o. n (W.last p o))

      no_first : (p : ℕ) → (Between t.o (t.o + x.letters) p → ⊥) → digit (get_or b.first (b.top - 1) 0) p ≡ 0
      no_first p n = fi p ∙ zero_of _ (λ o. n (W.first p o))

      bf : (p q : ℕ) → (Between 0 m p → ⊥) → digit (get_or r.follow p 0) q ≡ 0
      bf p q n = joins_off J p q (no_last p (λ h. n (omega arith, omega (arith, t.ends)))) ∙ H.blank.follow p q n

      bp : (p q : ℕ) → (Between 0 m q → ⊥) → digit (get_or r.pred q 0) p ≡ 0
      bp p q n = joins_off K q p (no_first q (λ h. n (omega arith, omega (arith, t.ends)))) ∙ H.blank.pred p q n

      sm : Same b r t.o t.j
      sm = record {
        nullable = λ i h. rw en;
        first = λ i h. rw ef;
        last = λ i h. rw el;
        own = λ i h. rw eo;
        follow = λ p q h. joins_off J p q (no_last p (λ g. omega arith));
        pred = λ p q h. joins_off K q p (no_first q (λ g. omega arith));
        enter = λ c q h. rw ee;
      }

      it : Item r t.j t.o (t.o + x.letters) (repeated (x.fragment t.o))
      it = record {
        nullable = rw en t.this.nullable;
        first = λ q. rw ef (t.this.first q);
        last = λ q. rw el (t.this.last q);
        own_on = λ q h. t.this.own_on q (rw eo at h);
        own_all = λ q h. rw eo (t.this.own_all q h);
        follow = λ p q h. J.at p q ∙ ap₂ max (t.this.follow p q h) (ap₂ min (la p) (fi q));
        pred =
            λ p q h. K.at q p
            ∙ ap₂ max (t.this.pred p q h) (ap₂ min (fi q) (la p)
            ∙ (let z : min ((x.fragment t.o).first q) ((x.fragment t.o).last p) ≡ min ((x.fragment t.o).last p) ((x.fragment t.o).first q) =
            omega arith in z));
        enters = λ q a h. rw ee (t.this.enters q a h);
      }

inverse-number : (a : Letter) → letter_number (inverse_letter a) ≡ inverse_number (letter_number a)
inverse-number a = go a.inverted refl
  where
    go : (s : Bool) → a.inverted ≡ s → letter_number (inverse_letter a) ≡ inverse_number (letter_number a)
    go true e = rw e (omega arith)
    go false e = rw e (omega arith)

-- ---- once or not at all; and the star of what is repeated
module _ {b r : Build} {m : ℕ} {x : Part} {st : List Part} (H : Holds b m (x ∷ st)) where
  pub holds_optional : b.top ≤ length b.nullable
      → r.top ≡ b.top → r.used ≡ b.used → r.first ≡ b.first → r.last ≡ b.last → r.own ≡ b.own
      → r.nullable ≡ set b.nullable (b.top - 1) 1 → r.enter ≡ b.enter → r.follow ≡ b.follow → r.pred ≡ b.pred
      → Holds r m (parts.maybe x ∷ st)
  unfolding parts optional
  holds_optional ln et em ef el eo en ee eh ep =
      record {
        items = put_top (parts.maybe x) m r.top (et ∙ t.at) t.ends (items_keep sm t.rest) (fit_optional t.fit) it;
        count = em ∙ H.count;
        few = H.few;
        blank =
            record {
              follow = λ p q n. rw eh (H.blank.follow p q n);
              pred = λ p q n. rw ep (H.blank.pred p q n);
              enter = λ c q n. rw ee (H.blank.enter c q n);
            };
      }
    where
      t : Top b m b.top x st
      t = top_of H.items

      j : b.top - 1 ≡ t.j
      j = let z = t.at in omega arith

      sm : Same b r t.o t.j
      sm = record {
        nullable = λ i h. rw en (get_or-set_other b.nullable (b.top - 1) i 1 0 (λ e. omega (arith, j)));
        first = λ i h. rw ef;
        last = λ i h. rw el;
        own = λ i h. rw eo;
        follow = λ p q h. rw eh;
        pred = λ p q h. rw ep;
        enter = λ c q h. rw ee;
      }

      it : Item r t.j t.o (t.o + x.letters) (optional (x.fragment t.o))
      it = record {
        nullable = rw (en, ← j) (get_or-set_same b.nullable (b.top - 1) 1 0 (let z = t.at in omega arith));
        first = λ q. rw ef (t.this.first q);
        last = λ q. rw el (t.this.last q);
        own_on = λ q h. t.this.own_on q (rw eo at h);
        own_all = λ q h. rw eo (t.this.own_all q h);
        follow = λ p q h. rw eh (t.this.follow p q h);
        pred = λ p q h. rw ep (t.this.pred p q h);
        enters = λ q a h. rw ee (t.this.enters q a h);
      }

  -- ---- inverted
  pub holds_inverse : b.top ≤ length b.first → b.top ≤ length b.last → length b.enter ≡ 64 → length r.enter ≡ 64
      → r.top ≡ b.top → r.used ≡ b.used → r.first ≡ set b.first (b.top - 1) (get_or b.last (b.top - 1) 0)
      → r.last ≡ set b.last (b.top - 1) (get_or b.first (b.top - 1) 0) → r.own ≡ b.own → r.nullable ≡ b.nullable
      → Mixed b.follow b.pred (digit (get_or b.own (b.top - 1) 0)) r.follow
      → Mixed b.pred b.follow (digit (get_or b.own (b.top - 1) 0)) r.pred → Turned b.enter (get_or b.own (b.top - 1) 0) 64 r.enter
      → Holds r m (parts.inverted x ∷ st)
  unfolding parts reversed
  holds_inverse lf ll le lr et em ef el eo en F P E =
      record {
        items = put_top (parts.inverted x) m r.top (et ∙ t.at) t.ends (items_keep sm t.rest) (fit_reversed t.fit) it;
        count = em ∙ H.count;
        few = H.few;
        blank =
            record {
              follow = λ p q n. off_row F p q (λ h. n (omega arith, omega (arith, t.ends))) ∙ H.blank.follow p q n;
              pred = λ p q n. off_row P q p (λ h. n (omega arith, omega (arith, t.ends))) ∙ H.blank.pred p q n;
              enter = be;
            };
      }
    where
      t : Top b m b.top x st
      t = top_of H.items

      j : b.top - 1 ≡ t.j
      j = let z = t.at in omega arith

      W : Within t.o (t.o + x.letters) (x.fragment t.o)
      W = t.fit.within t.o

      mine : (q : ℕ) → Between t.o (t.o + x.letters) q → On (digit (get_or b.own (b.top - 1) 0) q)
      mine q h = rw j (t.this.own_all q h)

      not_mine : (q : ℕ) → (Between t.o (t.o + x.letters) q → ⊥) → digit (get_or b.own (b.top - 1) 0) q ≡ 0
      not_mine q n = rw j (zero_of _ (λ o. n (t.this.own_on q o)))

      off_row : {u v w : List ℕ} → Mixed u v (digit (get_or b.own (b.top - 1) 0)) w → (p q : ℕ)
          → (Between t.o (t.o + x.letters) p → ⊥) → digit (get_or w p 0) q ≡ digit (get_or u p 0) q
      off_row M p q n = ap (λ (y : ℕ). digit y q) (M.outside p (not_mine p n))

      on_row : {u v w : List ℕ} → Mixed u v (digit (get_or b.own (b.top - 1) 0)) w → (p q : ℕ)
          → Between t.o (t.o + x.letters) p → digit (get_or w p 0) q ≡ digit (get_or v p 0) q
      on_row M p q h = ap (λ (y : ℕ). digit y q) (M.inside p (mine p h))

      off_enter : (c q : ℕ) → q < 64 → (Between t.o (t.o + x.letters) q → ⊥) → digit (get_or r.enter c 0) q ≡ digit (get_or b.enter c 0) q
      off_enter c q hq n = go (dec_lt c 64)
        where
          go : Dec (c < 64) → digit (get_or r.enter c 0) q ≡ digit (get_or b.enter c 0) q
          go (yes h) = E.outside c q h hq (not_mine q n)
          go (no h) = ap (λ (y : ℕ). digit y q) (E.above c (omega arith))

      gone : (l : List ℕ) (c : ℕ) → length l ≡ 64 → 64 ≤ c → get_or l c 0 ≡ 0
      gone l c e h = get_or-eq_default l 0 (let z : length l ≤ c = omega arith in z)

      on_enter : (c q : ℕ) → q < 64 → Between t.o (t.o + x.letters) q → digit (get_or r.enter c 0) q ≡ digit (get_or b.enter (inverse_number c) 0) q
      on_enter c q hq n = go (dec_lt c 64)
        where
          go : Dec (c < 64) → digit (get_or r.enter c 0) q ≡ digit (get_or b.enter (inverse_number c) 0) q
          go (yes h) = E.inside c q h hq (mine q n)
          go (no h) = ap (λ (y : ℕ). digit y q) (gone r.enter c lr (omega arith) ∙ sym (gone b.enter (inverse_number c) le (omega arith)))

      be : (c q : ℕ) → (Between 0 m q → ⊥) → digit (get_or r.enter c 0) q ≡ 0
      be c q n = go (dec_lt q 64)
        where
          go : Dec (q < 64) → digit (get_or r.enter c 0) q ≡ 0
          go (yes h) = off_enter c q h (λ g. n (omega arith, omega (arith, t.ends))) ∙ H.blank.enter c q n
          go (no h) = high (dec_lt c 64)
            where
              high : Dec (c < 64) → digit (get_or r.enter c 0) q ≡ 0
              high (yes g) = E.high c q g (omega arith)
              high (no g) = ap (λ (y : ℕ). digit y q) (E.above c (omega arith)) ∙ H.blank.enter c q n

      sm : Same b r t.o t.j
      sm = record {
        nullable = λ i h. rw en;
        first = λ i h. rw ef (get_or-set_other b.first (b.top - 1) i (get_or b.last (b.top - 1) 0) 0 (λ e. omega (arith, j)));
        last = λ i h. rw el (get_or-set_other b.last (b.top - 1) i (get_or b.first (b.top - 1) 0) 0 (λ e. omega (arith, j)));
        own = λ i h. rw eo;
        follow = λ p q h. off_row F p q (λ g. omega arith);
        pred = λ p q h. off_row P q p (λ g. omega arith);
        enter = λ c q h. off_enter c q (omega (arith, t.ends, H.few)) (λ g. omega arith);
      }

      it : Item r t.j t.o (t.o + x.letters) (reversed (x.fragment t.o))
      it = record {
        nullable = rw en t.this.nullable;
        first =
            λ q. rw (ef, ← j) (ap (λ (y : ℕ). digit y q) (get_or-set_same b.first (b.top - 1) (get_or b.last (b.top - 1) 0) 0 (let z =
            t.at in omega arith)) ∙ rw j (t.this.last q));
        last =
            λ q. rw (el, ← j) (ap (λ (y : ℕ). digit y q) (get_or-set_same b.last (b.top - 1) (get_or b.first (b.top - 1) 0) 0 (let z =
            t.at in omega arith)) ∙ rw j (t.this.first q));
        own_on = λ q h. t.this.own_on q (rw eo at h);
        own_all = λ q h. rw eo (t.this.own_all q h);
        follow = λ p q h. on_row F p q h ∙ t.this.pred q p h;
        pred = λ p q h. on_row P q p h ∙ t.this.follow q p h;
        enters =
            λ q a h. on_enter (letter_number a) q (omega (arith, t.ends, H.few)) h
            ∙ ap (λ (c : ℕ). digit (get_or b.enter c 0) q) (sym (inverse-number a)) ∙ t.this.enters q (inverse_letter a) h;
      }
