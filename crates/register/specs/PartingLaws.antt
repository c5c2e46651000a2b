-- Laws of a filtered list, and of the links that are left without a record's.
--   filter_in, in_filter   the members of a filtered list: those that pass
--   length-filter, tally_filter, filter-append
--                          as many as pass; those of them that pass another test; of a joined list
--   filter_next            a list's filtered front, one member more
--   rises_filter           an ascending list stays so
--   has_filter, filter_has, absent_filter, distinct_filter
--                          the members by the computed test; what is absent stays so, and what stands once still does
--   present_without        a link is left if it was there and does not touch the record
--   fit_without, linked_without
--                          a fit sheet stays fit without the record's links, and the words of its links are those that do not touch the record
-- Assumes nothing.
use Rattle.std.specs.Prelude.{◌≡◌, Bool, ◌&&◌, ℕ, suc, ◌+◌, ◌≤◌, ◌<◌, take, get_or}
use Rattle.std.proofs.Math.Path.{refl, ap}
use Rattle.std.proofs.Common.{sym, subst, ◌∙◌, true≢false, add-one, arith, take-suc}
use Rattle.std.proofs.Math.Logic.{⊎_elim}
use mathlib.Core.List.{List, [], ◌∷◌, ◌++◌}
use Rattle.std.proofs.Math.Bool.{true, false}
use Rattle.std.proofs.Math.ListN.{length}
use Rattle.book.specs.Basics.{pick, bit, In, here, there, has, tally, Rises, ended, rises}
use Rattle.book.specs.Book.{Link, Sheet, present}
use Rattle.book.specs.Causes.{max_records}
use Rattle.book.proofs.ListLaws.{in_none, in_front, rises_from}
use Rattle.book.proofs.SetLaws.{EqualityTest, same_link_test, has_in, in_has}
use Rattle.book.specs.Sheets.{Distinct, Fit}
use Rattle.book.proofs.TotalLaws.{tally_le}
use Rattle.links.specs.Links.{Linked}
use Rattle.links.specs.Parts.{link_of}
use Rattle.links.specs.LinkLaws.{word_link}
use Rattle.register.specs.Parting.{filter, apart, without_links}
use Rattle.register.specs.Apart.{apart_word}

module _ {A : Type 0} (t : A → Bool) where
  pub filter_in : {x : A} (l : List A) → In x (filter t l) → In x l × (t x ≡ true)
  unfolding filter
  filter_in {x} [] h = absurd (in_none h refl)
  filter_in {x} (y ∷ l) h = go (t y) refl h (filter_in l)
    where
      go : (b : Bool) → t y ≡ b → In x (pick b (y ∷ filter t l) (filter t l)) → (In x (filter t l) → In x l × (t x ≡ true)) → In x (y ∷ l) × (t x ≡ true)
      go true q i ih =
          ⊎_elim (λ e. (subst (λ (z : A). In x (z ∷ l)) e here, ap t e ∙ q)) (λ k. let r = ih k in (there r.0, r.1)) (in_front i refl)
      go false q i ih = let r = ih i in (there r.0, r.1)

  pub in_filter : {x : A} (l : List A) → In x l → t x ≡ true → In x (filter t l)
  unfolding filter
  in_filter {x = x} [] x3 e = elim x3 [ ]
  in_filter (y ∷ l) here e = rw e here
  in_filter {x} (y ∷ l) (there h) e = go (t y) (in_filter l h e)
    where
      go : (b : Bool) → In x (filter t l) → In x (pick b (y ∷ filter t l) (filter t l))
      go true i = there i
      go false i = i

  pub length-filter : (l : List A) → length (filter t l) ≡ tally t l
  unfolding filter tally
  length-filter [] = refl
  length-filter (x ∷ l) = go (t x) (length-filter l)
    where
      go : (b : Bool) → length (filter t l) ≡ tally t l → length (pick b (x ∷ filter t l) (filter t l)) ≡ bit b + tally t l
      go true e = omega (arith, e)
      go false e = omega (arith, e)

  pub tally_filter : (u : A → Bool) (l : List A) → tally u (filter t l) ≡ tally (λ x. t x && u x) l
  unfolding filter tally
  tally_filter u [] = refl
  tally_filter u (x ∷ l) = go (t x) (tally_filter u l)
    where
      go : (b : Bool) → tally u (filter t l) ≡ tally (λ y. t y && u y) l
          → tally u (pick b (x ∷ filter t l) (filter t l)) ≡ bit (b && u x) + tally (λ y. t y && u y) l
      go true e = ap (λ (k : ℕ). bit (u x) + k) e
      go false e = omega (arith, e)

  pub filter-append : (l m : List A) → filter t (l ++ m) ≡ filter t l ++ filter t m
  unfolding filter
  filter-append [] m = refl
  filter-append (x ∷ l) m = go (t x) (filter-append l m)
    where
      go : (b : Bool) → filter t (l ++ m) ≡ filter t l ++ filter t m
          → pick b (x ∷ filter t (l ++ m)) (filter t (l ++ m)) ≡ pick b (x ∷ filter t l) (filter t l) ++ filter t m
      go true e = ap (λ (k : List A). x ∷ k) e
      go false e = e

-- one member more of a list's front
pub filter_next : (t : ℕ → Bool) (l : List ℕ) (i : ℕ) (b : Bool) → i < length l → t (get_or l i 0) ≡ b
    → filter t (take (i + 1) l) ≡ filter t (take i l) ++ pick b (get_or l i 0 ∷ []) []
unfolding filter
filter_next t l i b h e =
    ap (λ (j : ℕ). filter t (take j l)) (add-one i) ∙ ap (filter t) (take-suc l i 0 h) ∙ filter-append t (take i l) (get_or l i 0 ∷ [])
    ∙ ap (λ (c : Bool). filter t (take i l) ++ pick c (get_or l i 0 ∷ []) []) e

pub rises_filter : (t : ℕ → Bool) {m : ℕ} (l : List ℕ) → Rises m l → Rises m (filter t l)
unfolding filter
rises_filter t [] ended = ended
rises_filter t {m} (w ∷ l) (rises h r) = go (t w) (rises_filter t l r)
  where
    go : (b : Bool) → Rises (suc w) (filter t l) → Rises m (pick b (w ∷ filter t l) (filter t l))
    go true q = rises {m = m} {w = w} h q
    go false q = rises_from (omega arith) q

module _ {A : Type 0} {same : A → A → Bool} (T : EqualityTest same) (t : A → Bool) where
  -- the members that are left, by the computed test
  pub has_filter : (x : A) (l : List A) → has same x (filter t l) ≡ true → (has same x l ≡ true) × (t x ≡ true)
  has_filter x l e = let r = filter_in t l (has_in T x (filter t l) e) in (in_has T x l r.0, r.1)

  pub filter_has : (x : A) (l : List A) → has same x l ≡ true → t x ≡ true → has same x (filter t l) ≡ true
  filter_has x l e p = in_has T x (filter t l) (in_filter t l (has_in T x l e) p)

  absent_filter : (x : A) (l : List A) → has same x l ≡ false → has same x (filter t l) ≡ false
  absent_filter x l e = go (has same x (filter t l)) refl
    where
      go : (b : Bool) → has same x (filter t l) ≡ b → b ≡ false
      go false q = refl
      go true q = absurd (true≢false (sym (has_filter x l q).0 ∙ e))

  pub distinct_filter : (l : List A) → Distinct same l → Distinct same (filter t l)
  unfolding Distinct filter
  distinct_filter [] d = tt
  distinct_filter (x ∷ l) d = go (t x) (distinct_filter l d.1)
    where
      go : (b : Bool) → Distinct same (filter t l) → Distinct same (pick b (x ∷ filter t l) (filter t l))
      go true q = (absent_filter x l d.0, q)
      go false q = q

pub present_without : (x : ℕ) (s : Sheet) (k : Link) → present (without_links x s) k ≡ (present s k && apart x k)
unfolding without_links
present_without x s k = go (present s k) refl (apart x k) refl
  where
    go : (a : Bool) → present s k ≡ a → (b : Bool) → apart x k ≡ b → present (without_links x s) k ≡ (a && b)
    go false p b q = absent_filter same_link_test (apart x) k s.links p
    go true p true q = filter_has same_link_test (apart x) k s.links p q
    go true p false q = none (present (without_links x s) k) refl
      where
        none : (c : Bool) → present (without_links x s) k ≡ c → c ≡ false
        none false e = refl
        none true e = absurd (true≢false (sym (has_filter same_link_test (apart x) k s.links e).1 ∙ q))

module _ {n : ℕ} (x : ℕ) {s : Sheet} (small : n ≤ max_records) (f : Fit n s) where
  pub fit_without : Fit n (without_links x s)
  unfolding without_links
  fit_without =
      let in-it : (k : Link) → present (without_links x s) k ≡ true → present s k ≡ true = λ k p. (has_filter same_link_test (apart x) k s.links p).0 in
      record {
        links = λ k p. f.links k (in-it k p);
        locks = f.locks;
        ends = λ k p. f.ends k (in-it k p);
        free = f.free;
        withdrawn = f.withdrawn;
        once = distinct_filter same_link_test (apart x) s.links f.once;
        single = f.single;
        apart = f.apart;
        room = omega (arith, f.room, tally_le (apart x) s.links, length-filter (apart x) s.links);
      }

  pub linked_without : (ws : List ℕ) → Linked ws s → Linked (filter (apart_word x) ws) (without_links x s)
  unfolding without_links
  linked_without ws L = record {
    ascending = rises_filter (apart_word x) ws L.ascending;
    sound = λ w i.
        let r = filter_in (apart_word x) ws i in
        let k = L.sound w r.0 in
        let e : link_of w ≡ k.0 = ap link_of k.1 ∙ word_link small (f.links k.0 k.2) in
        (k.0, k.1, filter_has same_link_test (apart x) k.0 s.links k.2 (ap (apart x) (sym e) ∙ r.1));
    whole = λ k p.
        let r = has_filter same_link_test (apart x) k s.links p in
        in_filter (apart_word x) ws (L.whole k r.0) (ap (apart x) (word_link small (f.links k r.0)) ∙ r.1);
  }
