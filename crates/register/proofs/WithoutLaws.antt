-- Laws of `without`: the loop over the words, and what the register then shows.
--   linked_tally              as many words of links pass a test as links do
--   copied_word, copied_gone  `links_apart`: a word that stays, and one that does not
--   Keeping x ws ts us vs k i
--                             the first i words of ws are looked at, and k of them stay at the front of vs
--   keeping_none, keeping_word, keeping_gone, keeping_all
--                             at the start, a word that stays, a word that goes, and at the end
--   WithoutLinks self x r     what the register that is handed back has to be
--   without_represents        it represents the book without the links
-- Assumes nothing.
use mathlib.Core.Path.{◌≡◌, refl, sym, ap, ap₂, subst, ◌∙◌}
use mathlib.Core.Logic.{⊎_elim}
use mathlib.Core.List.{List, [], ◌∷◌, ◌++◌, append_assoc, append-nil}
use mathlib.Core.Bool.{Bool, true, false, not, ◌&&◌, true≢false, false≢true}
use Prim.Native.Nat.{ℕ, ◌+◌, ◌/◌, ◌≤◌, ◌<◌}
use native.Mathlib.Omega.{arith}
use native.Mathlib.Numerals.{add-one}
use lib.Dec.{eqb}
use lib.ListN.{length, take, drop, get_or, set, drop_of_length-le}
use lib.Seq.{get_or-set_other, take-suc-set, drop-cons, take_all, take_at, set_split, length-take-le}
use borrow.Author.Tests.{eqb-true, eq-eqb}
use Rattle.book.specs.Basics.{bit, In, here, there, has, without, tally}
use Rattle.book.specs.Causes.{max_records}
use Rattle.book.specs.Book.{Link, same_link, Sheet, Book, present, total}
use Rattle.book.proofs.ListLaws.{in_none, in_front}
use Rattle.book.proofs.SetLaws.{eqb_test, same_link_test, and_both, has_in, in_has, has_without, distinct_without}
use Rattle.book.specs.Sheets.{Distinct}
use Rattle.book.proofs.TotalLaws.{tally_without}
use Rattle.links.specs.Links.{link_word, Linked}
use Rattle.links.specs.Parts.{link_of, label_unit, word_total}
use Rattle.links.specs.Totals.{Lowered, TotalsOf}
use Rattle.links.specs.LinkLaws.{word_link}
use Rattle.register.specs.Marks.{free_mark, mark_of}
use Rattle.register.specs.Packed.{Shows, Piled}
use Rattle.register.specs.Representation.{latest, packed_of, Represents}
use Rattle.register.specs.PartingLaws.{length-filter, tally_filter, filter_next, fit_without, linked_without}
use Rattle.register.specs.Parting.{filter, apart, without_links, without_record}
use Rattle.register.specs.Apart.{apart_word, Kept}
use Rattle.register.specs.declared.Register.{Register}
use Rattle.links.specs.TotalLaws.{rises_distinct}
use Rattle.register.proofs.TotalLaws.{represents_counted}

-- ---- words of links and the links, each once: as many pass a test
linked_tally : (t : Link → Bool) (ks : List Link) (ws : List ℕ) → Distinct same_link ks → Distinct eqb ws
    → ((w : ℕ) → In w ws → (k : Link) × In k ks × (w ≡ link_word k)) → ((k : Link) → In k ks → In (link_word k) ws × (link_of (link_word k) ≡ k))
    → tally (λ w. t (link_of w)) ws ≡ tally t ks
unfolding tally Distinct
linked_tally t [] [] dk dw sound whole = refl
linked_tally t [] (w ∷ ws) dk dw sound whole = absurd (in_none (sound w here).1 refl)
linked_tally t (k ∷ ks) ws dk dw sound whole =
    tally_without (λ w. t (link_of w)) eqb_test (link_word k) ws dw (in_has eqb_test (link_word k) ws (whole k here).0)
    ∙ ap₂ (λ (j : Link) (i : ℕ). bit (t j) + i) (whole k here).1
    (linked_tally t ks (without eqb (link_word k) ws) dk.1 (distinct_without eqb_test (link_word k) ws dw) sound' whole')
  where
    left : (w : ℕ) → In w (without eqb (link_word k) ws) → (not (eqb (link_word k) w) ≡ true) × (has eqb w ws ≡ true)
    left w i =
        and_both (not (eqb (link_word k) w)) (has eqb w ws)
        (sym (has_without eqb_test (link_word k) w ws) ∙ in_has eqb_test w (without eqb (link_word k) ws) i)

    sound' : (w : ℕ) → In w (without eqb (link_word k) ws) → (j : Link) × In j ks × (w ≡ link_word j)
    sound' w i =
        let l = left w i in
        let r = sound w (has_in eqb_test w ws l.1) in
        ⊎_elim
        (λ e. absurd (false≢true (sym (ap not (eq-eqb (link_word k) w (ap link_word (sym e) ∙ sym r.2))) ∙ l.0)))
        (λ j. (r.0, j, r.2))
        (in_front r.1 refl)

    other : (j : Link) → In j ks → (b : Bool) → eqb (link_word k) (link_word j) ≡ b → b ≡ false
    other j i false e = refl
    other j i true e =
        let z : k ≡ j = sym (whole k here).1 ∙ ap link_of (eqb-true (link_word k) (link_word j) e) ∙ (whole j (there i)).1 in
        absurd (true≢false (sym (in_has same_link_test k ks (subst (λ (m : Link). In m ks) (sym z) i)) ∙ dk.0))

    whole' : (j : Link) → In j ks → In (link_word j) (without eqb (link_word k) ws) × (link_of (link_word j) ≡ j)
    whole' j i =
        let r = whole j (there i) in (
          has_in eqb_test (link_word j) (without eqb (link_word k) ws)
              (has_without eqb_test (link_word k) (link_word j) ws
              ∙ ap₂ (λ (a b : Bool). not a && b) (other j i (eqb (link_word k) (link_word j)) refl) (in_has eqb_test (link_word j) ws r.0)),
          r.1,
        )

-- ---- words copied
module _ (x : ℕ) (ws vs : List ℕ) (k i : ℕ) (e : take k vs ≡ filter (apart_word x) (take i ws)) (h : i < length ws) (l : k < length vs) where
  abbrev w : ℕ
  w = get_or ws i 0

  pub copied_word : apart_word x w ≡ true → take (k + 1) (set vs k w) ≡ filter (apart_word x) (take (i + 1) ws)
  copied_word a =
      ap (λ (j : ℕ). take j (set vs k w)) (add-one k) ∙ take-suc-set vs k w l ∙ ap (λ (m : List ℕ). m ++ (w ∷ [])) e
      ∙ sym (filter_next (apart_word x) ws i true h a)

  pub copied_gone : apart_word x w ≡ false → take k (set vs k w) ≡ filter (apart_word x) (take (i + 1) ws)
  copied_gone a =
      ap (take k) (set_split vs k w l) ∙ take_at (take k vs) _ k (length-take-le k vs (omega arith)) ∙ e ∙ sym (append-nil _)
      ∙ sym (filter_next (apart_word x) ws i false h a)

-- ---- the loop over the words
-- the first i words are looked at, k of them stay; the words ahead are as they were
pub record Keeping (x : ℕ) (ws ts us vs : List ℕ) (k i : ℕ) : Type 0 where
  pub low : k ≤ i
  pub ahead : (j : ℕ) → i ≤ j → j < length ws → get_or vs j 0 ≡ get_or ws j 0
  pub words : take k vs ≡ filter (apart_word x) (take i ws)
  pub totals : TotalsOf ts ws → TotalsOf us (filter (apart_word x) (take i ws) ++ drop i ws)

pub keeping_none : (x : ℕ) (ws ts vs : List ℕ) → ((j : ℕ) → j < length ws → get_or vs j 0 ≡ get_or ws j 0) → Keeping x ws ts ts vs 0 0
unfolding filter
keeping_none x ws ts vs a = record { low = omega arith; ahead = λ j _ h. a j h; words = refl; totals = λ f. f }

tally_middle : (t : ℕ → Bool) (l : List ℕ) (w : ℕ) (m : List ℕ) → tally t (l ++ (w ∷ m)) ≡ bit (t w) + tally t (l ++ m)
unfolding tally
tally_middle t [] w m = refl
tally_middle t (v ∷ l) w m = let ih = tally_middle t l w m in omega (arith, ih)

total_middle : (j : ℕ) (l : List ℕ) (w : ℕ) (m : List ℕ) → word_total j (l ++ (w ∷ m)) ≡ bit (eqb (w / label_unit) j) + word_total j (l ++ m)
unfolding word_total
total_middle j l w m = tally_middle (λ v. eqb (v / label_unit) j) l w m

module _ (x : ℕ) (ws ts us vs : List ℕ) (k i : ℕ) (K : Keeping x ws ts us vs k i) (h : i < length ws) (w : ℕ) (e : w ≡ get_or vs i 0) where
  word_is : w ≡ get_or ws i 0
  word_is = e ∙ K.ahead i (omega arith) h

  rest-is : drop i ws ≡ w ∷ drop (i + 1) ws
  rest-is = drop-cons ws i 0 h ∙ ap₂ (λ (v : ℕ) (j : ℕ). v ∷ drop j ws) (sym word_is) (sym (add-one i))

  pub keeping_word : i < length vs → apart_word x w ≡ true → Keeping x ws ts us (set vs k w) (k + 1) (i + 1)
  keeping_word l a = record {
    low = omega (arith, K.low);
    ahead = λ j p q. get_or-set_other vs k j w 0 (λ z. omega (arith, K.low)) ∙ K.ahead j (omega arith) q;
    words =
        ap (λ (j : ℕ). take j (set vs k w)) (add-one k) ∙ take-suc-set vs k w (omega (arith, K.low))
        ∙ ap (λ (m : List ℕ). m ++ (w ∷ [])) K.words ∙ sym more;
    totals = λ f j p. K.totals f j p ∙ ap (word_total j) (sym same);
  }
    where
      F : List ℕ
      F = filter (apart_word x) (take i ws)

      more : filter (apart_word x) (take (i + 1) ws) ≡ F ++ (w ∷ [])
      more = filter_next (apart_word x) ws i true h (ap (apart_word x) (sym word_is) ∙ a) ∙ ap (λ (v : ℕ). F ++ (v ∷ [])) (sym word_is)

      same : filter (apart_word x) (take (i + 1) ws) ++ drop (i + 1) ws ≡ F ++ drop i ws
      same =
          ap (λ (m : List ℕ). m ++ drop (i + 1) ws) more ∙ append_assoc F (w ∷ []) (drop (i + 1) ws) ∙ ap (λ (m : List ℕ). F ++ m) (sym rest-is)

  pub keeping_gone : (us' : List ℕ) → apart_word x w ≡ false → Lowered (w / label_unit) us us' → Keeping x ws ts us' vs k (i + 1)
  keeping_gone us' a L = record {
    low = omega (arith, K.low);
    ahead = λ j p q. K.ahead j (omega arith) q;
    words = K.words ∙ sym same;
    totals = λ f j p.
        let d : get_or us j 0 ≡ bit (eqb (w / label_unit) j) + word_total j (filter (apart_word x) (take (i + 1) ws) ++ drop (i + 1) ws) =
        K.totals f j p ∙ fewer j in
        let b = L.less j p (omega (arith, d)) in
        omega (arith, b, d);
  }
    where
      F : List ℕ
      F = filter (apart_word x) (take i ws)

      same : filter (apart_word x) (take (i + 1) ws) ≡ F
      same = filter_next (apart_word x) ws i false h (ap (apart_word x) (sym word_is) ∙ a) ∙ append-nil F

      fewer : (j : ℕ) → word_total j (F ++ drop i ws) ≡ bit (eqb (w / label_unit) j) + word_total j (filter (apart_word x) (take (i + 1) ws) ++ drop (i + 1) ws)
      fewer j =
          ap (λ (m : List ℕ). word_total j (F ++ m)) rest-is ∙ total_middle j F w (drop (i + 1) ws)
          ∙ ap (λ (m : List ℕ). bit (eqb (w / label_unit) j) + word_total j (m ++ drop (i + 1) ws)) (sym same)

pub keeping_all : (x : ℕ) (ws ts us vs : List ℕ) (k i : ℕ) → i ≡ length ws → Keeping x ws ts us vs k i → Kept x ws ts us vs k
keeping_all x ws ts us vs k i e K = record {
  few = omega (arith, K.low);
  words = K.words ∙ ap (filter (apart_word x)) whole;
  totals = λ f l h.
      K.totals f l h
      ∙ ap (word_total l)
      (ap₂ (λ (m n : List ℕ). filter (apart_word x) m ++ n) whole (drop_of_length-le ws {i = i} (omega arith)) ∙ append-nil (filter (apart_word x) ws));
}
  where
    whole : take i ws ≡ ws
    whole = take_all i ws (omega arith)

-- ---- the sheet without the links
module _ {self : Register} {b : Book} (h : Represents self b) (x : ℕ) where
  abbrev ws : List ℕ
  ws = take self.count self.links

  abbrev cut_sheet : Sheet
  cut_sheet = without_links x b.sheet

  small : b.n ≤ max_records
  small = omega (arith, h.size, h.ranged.size)

  -- as many words as links pass a test
  both_tally : (t : Link → Bool) → tally (λ w. t (link_of w)) ws ≡ tally t b.sheet.links
  both_tally t =
      linked_tally t b.sheet.links ws h.sheet.fit.once (rises_distinct h.sheet.links.ascending)
      (λ w i. let s = h.sheet.links.sound w i in (s.0, has_in same_link_test s.0 b.sheet.links s.2, s.1))
      (λ k i. let p : present b.sheet k ≡ true = in_has same_link_test k b.sheet.links i in
      (h.sheet.links.whole k p, word_link small (h.sheet.fit.links k p)))

  left_total : (l : ℕ) → word_total l (filter (apart_word x) ws) ≡ total cut_sheet l
  unfolding word_total total without_links
  left_total l =
      tally_filter (apart_word x) (λ w. eqb (w / label_unit) l) ws ∙ both_tally (λ k. apart x k && eqb k.label l)
      ∙ sym (tally_filter (apart x) (λ k. eqb k.label l) b.sheet.links)

  left_count : length (filter (apart_word x) ws) ≡ length cut_sheet.links
  unfolding without_links
  left_count = length-filter (apart_word x) ws ∙ both_tally (apart x) ∙ sym (length-filter (apart x) b.sheet.links)

marks_same : (x : ℕ) (s : Sheet) (y : ℕ) → mark_of s y ≡ mark_of (without_links x s) y
unfolding without_links
marks_same x s y = refl

-- what the register that is handed back has to be
pub record WithoutLinks (self : Register) (x : ℕ) (r : Register) : Type 0 where
  pub n : r.n ≡ self.n
  pub kept : Kept x (take self.count self.links) self.totals r.totals r.links r.count
  pub marks : r.marks ≡ self.marks
  pub top : r.top ≡ 0
  pub held : r.held ≡ 0

pub without_represents : {self : Register} {b : Book} (x : ℕ) {r : Register} → self.count ≤ length self.links
    → WithoutLinks self x r → Represents self b → Represents r (without_record x b)
unfolding without_record latest Piled
without_represents {self} {b} x {r} l c h = record {
  size = c.n ∙ h.size;
  ranged = record {
    size = omega (arith, c.n, h.ranged.size);
    count = omega (arith, c.kept.few, length-take-le self.count self.links l, h.ranged.count);
    top = omega (arith, c.top);
    held = omega (arith, c.held);
  };
  sheet = shown;
  pile = subst (λ (k : ℕ). Piled b.n (packed_of r) (latest r.ring r.top k) []) (sym c.held) tt;
  totals = λ j p. c.kept.totals (represents_counted h) j p ∙ left_total h x j;
}
  where
    shown : Shows b.n (packed_of r) (without_links x b.sheet)
    shown = record {
      links =
          subst (λ (k : List ℕ). Linked k (without_links x b.sheet)) (sym c.kept.words)
          (linked_without x (small h x) h.sheet.fit _ h.sheet.links);
      count = ap length c.kept.words ∙ left_count h x;
      totals = λ j. ap (word_total j) c.kept.words ∙ left_total h x j;
      marks = λ y. ap (λ (m : List ℕ). get_or m y free_mark) c.marks ∙ h.sheet.marks y ∙ marks_same x b.sheet y;
      fit = fit_without x (small h x) h.sheet.fit;
    }
