-- Laws of closing up in a register, one word or one record more; what the closed register shows; and its refusals.
--   ranked_more, rank_in_use, rank_withdrawn, ranked_small
--                        the ranks: one more, by the mark; and that they are those of records
--   told_more, told_all  the list of new numbers
--   renamed_more, links_closed, renamed_less
--                        the words of the links: one more renamed, all by the ranks, in the same order
--   moved_none, moved_other, moved_lock
--                        the locks: none moved, a record that has none, one that has
--   used_marked, rank_marked
--                        below n the marks say what the book says, and so do the ranks
--   close_none, close_short, close_free
--                        the answer: 21, 13, or accepted
--   refuse_close, closes_refused, closes_foreign
--                        a refused closing up, with its list; and of contents that are no register's
--   Closed self r        what the register that an accepted closing up hands back has to be
--   closed_represents, closes_accepted
--                        it represents the closed book, so an accepted closing up keeps its promise
-- Assumes nothing.
use mathlib.Core.Path.{◌≡◌, refl, sym, ap, ap₂, subst, ◌∙◌}
use mathlib.Core.Logic.{◌⊎◌, inl, inr, ⊎_elim}
use mathlib.Core.List.{List, [], ◌∷◌, ◌++◌, map}
use mathlib.Core.Bool.{Bool, true, false, not, true≢false}
use Prim.Native.Nat.{ℕ, suc, ◌+◌, ◌*◌, ◌/◌, ◌%◌, ◌≤◌, ◌<◌}
use native.Mathlib.Omega.{arith}
use native.Mathlib.Numerals.{add-one}
use native.Mathlib.Decide.{dec_lt}
use lib.Dec.{eqb}
use lib.ListN.{length, take, drop, get_or, set}
use lib.Seq.{get_or-set_same, get_or-set_other, take-suc, drop-cons, take_at, drop_at, get_or_at, length-take-le}
use borrow.Author.Tests.{eqb-true, eq-eqb, ne_eqb, lt-ltb, le-ltb}
use Rattle.book.specs.Basics.{pick, In, has, Rises, over}
use Rattle.book.specs.Causes.{none_in_use, short_list, number, Caused, first_number, max_records}
use Rattle.book.specs.Book.{Link, Sheet, Book, close, present, is_locked, used, rank, renamed_link, closed_sheet, close_causes, close_answer, closed, no_number}
use Rattle.book.specs.Book.{new_numbers, close_given, answer, next, given}
use Rattle.book.proofs.ListLaws.{map_in, length-map, in_map, rises_map}
use Rattle.book.proofs.TotalLaws.{tally_map}
use Rattle.book.proofs.SetLaws.{eqb_test, same_link_test, has_map, map_has}
use Rattle.book.proofs.RankLaws.{rank_less, rank_le, rank_same, rank_passed, rank_failed}
use Rattle.book.proofs.CloseLaws.{link_used, closed_fit, closed_locked, closed_total}
use Rattle.book.proofs.GivenLaws.{length-numbers, numbers_same}
use Rattle.links.specs.Links.{link_word, Linked}
use Rattle.links.specs.Parts.{link_of, label_unit, word_total}
use Rattle.links.specs.LinkLaws.{word_link}
use Rattle.register.specs.Marks.{free_mark, lock_mark, withdrawn_mark, mark_of, Marked}
use Rattle.register.specs.MarkLaws.{shows_locked, shows_withdrawn, mark_by}
use Rattle.register.specs.Packed.{Shows, Piled}
use Rattle.register.specs.Counters.{InRange}
use Rattle.register.specs.Representation.{latest, packed_of, Represents}
use Rattle.register.specs.Calls.{answer_of, Steps, Closes}
use Rattle.register.specs.Closing.{in_use, new_of, renamed_word, Ranked, Small, Moved}
use Rattle.register.specs.declared.Register.{Register}
use Rattle.register.specs.declared.Answer.TheVariants.{Done, Refused}
use Rattle.register.proofs.ReplayLaws.{set_next}
use Rattle.register.proofs.StepLaws.{caused_as, done_refused, refused_done, refuse_foreign}

-- ---- ranks
pub ranked_more : (ms rs : List ℕ) (i k : ℕ) → i + 1 < length rs → k ≡ rank (in_use ms) (suc i) → ((x : ℕ) → x ≤ i → new_of rs x ≡ rank (in_use ms) x)
    → (x : ℕ) → x ≤ i + 1 → new_of (set rs (i + 1) k) x ≡ rank (in_use ms) x
ranked_more ms rs i k h e f x l = go (dec_lt i x)
  where
    go : Dec (i < x) → new_of (set rs (i + 1) k) x ≡ rank (in_use ms) x
    go (yes p) =
        let z : x ≡ i + 1 = omega arith in
        let y : x ≡ suc i = omega arith in
        ap (λ (j : ℕ). new_of (set rs (i + 1) k) j) z ∙ get_or-set_same rs (i + 1) k 0 h ∙ e ∙ ap (rank (in_use ms)) (sym y)
    go (no p) = get_or-set_other rs (i + 1) x k 0 (λ z. p (omega arith)) ∙ f x (omega arith)

-- the next rank, by the mark
pub rank_in_use : (ms : List ℕ) (i : ℕ) → (get_or ms i 0 ≡ withdrawn_mark → ⊥) → rank (in_use ms) (suc i) ≡ suc (rank (in_use ms) i)
rank_in_use ms i z = rank_passed (in_use ms) i (rw (ne_eqb (get_or ms i 0) withdrawn_mark z))

pub rank_withdrawn : (ms : List ℕ) (i : ℕ) → get_or ms i 0 ≡ withdrawn_mark → rank (in_use ms) (suc i) ≡ rank (in_use ms) i
rank_withdrawn ms i z = rank_failed (in_use ms) i (rw (eq-eqb (get_or ms i 0) withdrawn_mark z))

-- the ranks of records are those of records
pub ranked_small : (ms rs : List ℕ) → max_records ≤ length rs → Ranked ms rs → Small rs
ranked_small ms rs l f = record { long = l; below = λ x h. omega (arith, f x (omega arith), rank_le (in_use ms) x) }

-- ---- the list of new numbers
pub told_more : (ms old now : List ℕ) (i a : ℕ) → now ≡ new_numbers (in_use ms) i ++ drop i old
    → i < length old → a ≡ pick (in_use ms i) (rank (in_use ms) i) no_number
    → set now i a ≡ new_numbers (in_use ms) (i + 1) ++ drop (i + 1) old
unfolding new_numbers
told_more ms old now i a e h n =
    ap (λ (l : List ℕ). set l i a) e
    ∙ set_next (new_numbers (in_use ms) i) old i a (length-numbers (in_use ms) i) h
    ∙ ap (λ (k : ℕ). (new_numbers (in_use ms) i ++ (k ∷ [])) ++ drop (suc i) old) n
    ∙ ap (λ (j : ℕ). new_numbers (in_use ms) j ++ drop j old) (sym (add-one i))

pub told_all : (ms old : List ℕ) (n : ℕ) → new_numbers (in_use ms) n ++ drop n old ≡ over (new_numbers (in_use ms) n) old
told_all ms old n = ap (λ (k : ℕ). new_numbers (in_use ms) n ++ drop k old) (sym (length-numbers (in_use ms) n))

-- ---- words renamed
map-append : (f : ℕ → ℕ) (l m : List ℕ) → map f (l ++ m) ≡ map f l ++ map f m
map-append f [] m = refl
map-append f (x ∷ l) m = ap (λ (k : List ℕ). f x ∷ k) (map-append f l m)

pub renamed_more : (f : ℕ → ℕ) (old now : List ℕ) (i : ℕ) → now ≡ map f (take i old) ++ drop i old → i < length old
    → set now i (f (get_or now i 0)) ≡ map f (take (i + 1) old) ++ drop (i + 1) old
renamed_more f old now i e h =
    let l : length (map f (take i old)) ≡ i = length-map f (take i old) ∙ length-take-le i old (omega arith) in
    let a : get_or now i 0 ≡ get_or old i 0 =
    ap (λ (k : List ℕ). get_or k i 0) (e ∙ ap (λ (k : List ℕ). map f (take i old) ++ k) (drop-cons old i 0 h))
    ∙ get_or_at (map f (take i old)) (get_or old i 0) (drop (suc i) old) 0 i l in
    let m : map f (take (suc i) old) ≡ map f (take i old) ++ (f (get_or old i 0) ∷ []) =
    ap (map f) (take-suc old i 0 h) ∙ map-append f (take i old) (get_or old i 0 ∷ []) in
    ap₂ (λ (k : List ℕ) (w : ℕ). set k i (f w)) e a
    ∙ set_next (map f (take i old)) old i (f (get_or old i 0)) l h
    ∙ ap (λ (k : List ℕ). k ++ drop (suc i) old) (sym m)
    ∙ ap (λ (j : ℕ). map f (take j old) ++ drop j old) (sym (add-one i))

map_same : (f g : ℕ → ℕ) → ((w : ℕ) → f w ≡ g w) → (l : List ℕ) → map f l ≡ map g l
map_same f g h [] = refl
map_same f g h (x ∷ l) = ap₂ (λ (w : ℕ) (k : List ℕ). w ∷ k) (h x) (map_same f g h l)

-- the words renamed by the ranks that were counted
pub links_closed : (ms rs old new : List ℕ) (count : ℕ) → Ranked ms rs → count ≤ length old
    → new ≡ map (renamed_word (new_of rs)) (take count old) ++ drop count old
    → take count new ≡ map (renamed_word (rank (in_use ms))) (take count old)
links_closed ms rs old new count r h e =
    ap (take count) e
    ∙ take_at (map (renamed_word (new_of rs)) (take count old)) (drop count old) count
    (length-map (renamed_word (new_of rs)) (take count old) ∙ length-take-le count old h)
    ∙ map_same (renamed_word (new_of rs)) (renamed_word (rank (in_use ms)))
    (λ w. ap₂ (λ (x y : ℕ). (w / 1048576 * 1024 + x) * 1024 + y) (r (w / 1024 % 1024) (omega arith)) (r (w % 1024) (omega arith)))
    (take count old)

-- renaming keeps the order of words: by label, then from, then to
pub renamed_less : (l m f g t w F G T W : ℕ) → g < 1024 → t < 1024 → w < 1024 → F < 1024 → G < 1024 → T < 1024 → W < 1024
    → (l * 1024 + f) * 1024 + t < (m * 1024 + g) * 1024 + w → (f < g → F < G) → (f ≡ g → F ≡ G) → (t < w → T < W)
    → f < 1024 → (l * 1024 + F) * 1024 + T < (m * 1024 + G) * 1024 + W
renamed_less l m f g t w F G T W g< t< w< F< G< T< W< h p q r f< = go (dec_lt l m) (dec_lt f g)
  where
    go : Dec (l < m) → Dec (f < g) → (l * 1024 + F) * 1024 + T < (m * 1024 + G) * 1024 + W
    go (yes a) d = omega arith
    go (no a) (yes d) = let e : l ≡ m = omega arith in let k = p d in omega arith
    go (no a) (no d) =
        let e : l ≡ m = omega arith in
        let i : f ≡ g = omega arith in
        let j = q i in
        let k = r (omega arith) in
        omega arith

-- ---- locks moved
pub moved_none : (ms rs os : List ℕ) → ((y : ℕ) → get_or os y free_mark ≡ free_mark) → Moved ms rs 0 os
moved_none ms rs os f = record { all = λ x h. absurd (omega arith); from = λ y. inl (f y) }

pub moved_other : (ms rs os : List ℕ) (i : ℕ) → Moved ms rs i os → (get_or ms i free_mark ≡ lock_mark → ⊥) → Moved ms rs (i + 1) os
moved_other ms rs os i m z = record {
  all = λ x h e. go x h e (dec_lt x i);
  from = λ y. ⊎_elim (λ p. inl p) (λ p. inr (p.0, (p.1.0, omega (arith, p.1.1), p.1.2, p.1.3))) (m.from y);
}
  where
    go : (x : ℕ) → x < i + 1 → get_or ms x free_mark ≡ lock_mark → Dec (x < i) → get_or os (new_of rs x) free_mark ≡ lock_mark
    go x h e (yes l) = m.all x l e
    go x h e (no l) = let q : x ≡ i = omega arith in absurd (z (ap (λ (j : ℕ). get_or ms j free_mark) (sym q) ∙ e))

pub moved_lock : (ms rs os : List ℕ) (i : ℕ) → Moved ms rs i os → get_or ms i free_mark ≡ lock_mark
    → new_of rs i < length os → Moved ms rs (i + 1) (set os (new_of rs i) lock_mark)
moved_lock ms rs os i m z s = record {
  all = λ x h e. go x h e (dec_lt x i);
  from = λ y. there' y (eqb y (new_of rs i)) refl;
}
  where
    at : (y : ℕ) → y ≡ new_of rs i → get_or (set os (new_of rs i) lock_mark) y free_mark ≡ lock_mark
    at y e = ap (λ (j : ℕ). get_or (set os (new_of rs i) lock_mark) j free_mark) e ∙ get_or-set_same os (new_of rs i) lock_mark free_mark s

    away : (y : ℕ) → (y ≡ new_of rs i → ⊥) → get_or (set os (new_of rs i) lock_mark) y free_mark ≡ get_or os y free_mark
    away y e = get_or-set_other os (new_of rs i) y lock_mark free_mark e

    kept : (y : ℕ) → get_or os y free_mark ≡ lock_mark → (t : Bool) → eqb y (new_of rs i) ≡ t → get_or (set os (new_of rs i) lock_mark) y free_mark ≡ lock_mark
    kept y e true q = at y (eqb-true y (new_of rs i) q)
    kept y e false q = away y (λ p. true≢false (sym (eq-eqb y (new_of rs i) p) ∙ q)) ∙ e

    go : (x : ℕ) → x < i + 1 → get_or ms x free_mark ≡ lock_mark → Dec (x < i) → get_or (set os (new_of rs i) lock_mark) (new_of rs x) free_mark ≡ lock_mark
    go x h e (yes l) = kept (new_of rs x) (m.all x l e) (eqb (new_of rs x) (new_of rs i)) refl
    go x h e (no l) = let q : x ≡ i = omega arith in at (new_of rs x) (ap (new_of rs) q)

    there' : (y : ℕ) (t : Bool) → eqb y (new_of rs i) ≡ t → (get_or (set os (new_of rs i) lock_mark) y free_mark ≡ free_mark)
        ⊎ ((get_or (set os (new_of rs i) lock_mark) y free_mark ≡ lock_mark) ×
        ((x : ℕ) × (x < i + 1) × (get_or ms x free_mark ≡ lock_mark) × (new_of rs x ≡ y)))
    there' y true q = let e = eqb-true y (new_of rs i) q in inr (at y e, (i, omega arith, z, sym e))
    there' y false q =
        let e = away y (λ p. true≢false (sym (eq-eqb y (new_of rs i) p) ∙ q)) in
        ⊎_elim (λ p. inl (e ∙ p)) (λ p. inr (e ∙ p.0, (p.1.0, omega (arith, p.1.1), p.1.2, p.1.3))) (m.from y)

-- ---- a register that represents a book
module _ {self : Register} {b : Book} (h : Represents self b) where
  small : b.n ≤ max_records
  small = omega (arith, h.size, h.ranged.size)

  -- below n the marks say what the book says
  pub used_marked : (x : ℕ) → x < b.n → used b.n b.sheet x ≡ in_use self.marks x
  used_marked x l = rw (lt-ltb x b.n l) (ap not (sym (shows_withdrawn h.sheet x)))

  pub rank_marked : (x : ℕ) → x ≤ b.n → rank (used b.n b.sheet) x ≡ rank (in_use self.marks) x
  rank_marked x l = rank_same (used b.n b.sheet) (in_use self.marks) b.n used_marked x l

  count_marked : rank (used b.n b.sheet) b.n ≡ rank (in_use self.marks) self.n
  count_marked = rank_marked b.n (omega arith) ∙ ap (rank (in_use self.marks)) (sym h.size)

  -- its answers
  pub close_none : (room : ℕ) → rank (in_use self.marks) self.n ≡ 0 → close_answer b.n b.sheet room ≡ number none_in_use
  unfolding close_answer close_causes first_number
  close_none room e = rw (eq-eqb (rank (used b.n b.sheet) b.n) 0 (count_marked ∙ e))

  pub close_short : (room : ℕ) → (rank (in_use self.marks) self.n ≡ 0 → ⊥) → room < self.n → close_answer b.n b.sheet room ≡ number short_list
  unfolding close_answer close_causes first_number
  close_short room z l = rw (ne_eqb (rank (used b.n b.sheet) b.n) 0 (λ e. z (sym count_marked ∙ e)), lt-ltb room b.n (omega (arith, h.size)))

  pub close_free : (room : ℕ) → (rank (in_use self.marks) self.n ≡ 0 → ⊥) → self.n ≤ room → close_answer b.n b.sheet room ≡ 0
  unfolding close_answer close_causes first_number
  close_free room z l = rw (ne_eqb (rank (used b.n b.sheet) b.n) 0 (λ e. z (sym count_marked ∙ e)), le-ltb room b.n (omega (arith, h.size)))

-- ---- refusals
module _ (self : Register) (room k : ℕ) (inside : InRange self) (z : Caused (suc k))
    (told : (b : Book) → Represents self b → close_answer b.n b.sheet room ≡ suc k) where
  pub refuse_close : Steps self (close room) (record { register = self; answer = Refused (suc k) })
  unfolding answer next closed
  refuse_close = record {
    caused = caused_as z;
    refused = λ _. refl;
    foreign = λ o. absurd (o inside);
    formed = λ q. absurd (refused_done q);
    answers = λ b h. ap answer_of (sym (told b h));
    follows = λ b h. rw (told b h) h;
  }

  given_none : (b : Book) → Represents self b → given b (close room) ≡ []
  unfolding given close_given
  given_none b h = ap (λ (j : ℕ). close_given j b) (told b h)

pub closes_refused : (self : Register) (k : ℕ) (list : List ℕ) → InRange self → Caused (suc k)
    → ((b : Book) → Represents self b → close_answer b.n b.sheet (length list) ≡ suc k)
    → Closes self list list (record { register = self; answer = Refused (suc k) })
closes_refused self k list inside z told = record {
  steps = refuse_close self (length list) k inside z told;
  refused = λ _. refl;
  past = refl;
  formed = λ e. absurd (refused_done e);
  given = λ b h. ap (λ (g : List ℕ). over g list) (sym (given_none self (length list) k inside z told b h));
}

pub closes_foreign : (self : Register) (list : List ℕ) → (InRange self → ⊥) → Closes self list list (record { register = self; answer = Refused 16 })
closes_foreign self list none = record {
  steps = refuse_foreign self (close (length list)) none;
  refused = λ _. refl;
  past = refl;
  formed = λ e. absurd (refused_done e);
  given = λ b h. absurd (none h.ranged);
}

-- ---- the closed sheet
-- what the register that an accepted closing up hands back has to be
pub record Closed (self : Register) (r : Register) : Type 0 where
  pub n : r.n ≡ rank (in_use self.marks) self.n
  pub count : r.count ≡ self.count
  pub links : take r.count r.links ≡ map (renamed_word (rank (in_use self.marks))) (take self.count self.links)
  pub marks : (ranks : List ℕ) × Ranked self.marks ranks × Moved self.marks ranks self.n r.marks
  pub top : r.top ≡ 0
  pub held : r.held ≡ 0
  pub totals : r.totals ≡ self.totals

closed_ranged : (self r : Register) → InRange self → Closed self r → InRange r
closed_ranged self r i c = record {
  size = omega (arith, c.n, rank_le (in_use self.marks) self.n, i.size);
  count = omega (arith, c.count, i.count);
  top = omega (arith, c.top);
  held = omega (arith, c.held);
}

module _ {self : Register} {b : Book} (h : Represents self b) {r : Register} (c : Closed self r) where
  abbrev u : ℕ → Bool
  u = used b.n b.sheet

  abbrev v : ℕ → Bool
  v = in_use self.marks

  abbrev ws : List ℕ
  ws = take self.count self.links

  abbrev shut : Sheet
  shut = closed_sheet (rank u) b.sheet

  -- a word of the register is that of a link whose ends are in use
  word_is : (w : ℕ) → In w ws → (k : Link) × (present b.sheet k ≡ true) × (link_of w ≡ k) × (w ≡ link_word k)
  word_is w i =
      let s = h.sheet.links.sound w i in
      let p = h.sheet.fit.links s.0 s.2 in
      (s.0, s.2, ap link_of s.1 ∙ word_link (small h) p, s.1)

  end_marked : (k : Link) → present b.sheet k ≡ true → renamed_link (rank v) k ≡ renamed_link (rank u) k
  end_marked k p =
      let f = h.sheet.fit.links k p in
      ap₂ (λ (x y : ℕ). record { from = x; label = k.label; to = y })
      (sym (rank_marked h k.from (omega (arith, f.from))))
      (sym (rank_marked h k.to (omega (arith, f.to))))

  word_renamed : (w : ℕ) (i : In w ws) → renamed_word (rank v) w ≡ link_word (renamed_link (rank u) (word_is w i).0)
  word_renamed w i = let s = word_is w i in ap (λ (k : Link). link_word (renamed_link (rank v) k)) s.2 ∙ ap link_word (end_marked s.0 s.1)

  -- their order stays
  words_ascend : Rises 0 (map (renamed_word (rank v)) ws)
  words_ascend = rises_map (renamed_word (rank v)) ws h.sheet.links.ascending less (λ w i. omega arith)
    where
      less : (w y : ℕ) → In w ws → In y ws → w < y → renamed_word (rank v) w < renamed_word (rank v) y
      less w y i j l =
          let k = (word_is w i).0 in
          let m = (word_is y j).0 in
          let p = (word_is w i).1 in
          let q = (word_is y j).1 in
          let f = h.sheet.fit.links k p in
          let g = h.sheet.fit.links m q in
          let e : w ≡ link_word k = (word_is w i).3 in
          let d : y ≡ link_word m = (word_is y j).3 in
          let s = small h in
          let a : k.from < 1024 = omega (arith, f.from) in
          let a' : k.to < 1024 = omega (arith, f.to) in
          let c' : m.from < 1024 = omega (arith, g.from) in
          let d' : m.to < 1024 = omega (arith, g.to) in
          let used-k = link_used b.n b.sheet h.sheet.fit k p in
          let o = renamed_less k.label m.label k.from m.from k.to m.to (rank u k.from) (rank u m.from) (rank u k.to) (rank u m.to)
          c' a' d' (omega (arith, rank_le u k.from)) (omega (arith, rank_le u m.from))
          (omega (arith, rank_le u k.to)) (omega (arith, rank_le u m.to))
          (omega (arith, e, d)) (rank_less u k.from m.from used-k.0) (ap (rank u)) (rank_less u k.to m.to used-k.1) a in
          let x : renamed_word (rank v) w ≡ link_word (renamed_link (rank u) k) = word_renamed w i in
          let z : renamed_word (rank v) y ≡ link_word (renamed_link (rank u) m) = word_renamed y j in
          omega (arith, o, x, z)

  words_linked : Linked (map (renamed_word (rank v)) ws) shut
  unfolding closed_sheet
  words_linked = record {
    ascending = words_ascend;
    sound = λ y i.
        let m = in_map (renamed_word (rank v)) ws i in
        let s = word_is m.0 m.1 in
        (renamed_link (rank u) s.0, m.2 ∙ word_renamed m.0 m.1, has_map same_link_test (renamed_link (rank u)) s.0 b.sheet.links s.1);
    whole = λ j p.
        let m = map_has same_link_test (renamed_link (rank u)) j b.sheet.links p in
        let k = m.0 in
        let i = h.sheet.links.whole k m.1 in
        let f = h.sheet.fit.links k m.1 in
        let e : renamed_word (rank v) (link_word k) ≡ link_word j =
        ap (λ (g : Link). link_word (renamed_link (rank v) g)) (word_link (small h) f) ∙ ap link_word (end_marked k m.1) ∙ ap link_word m.2 in
        subst (λ (w : ℕ). In w (map (renamed_word (rank v)) ws)) e (map_in (renamed_word (rank v)) i);
  }

  -- a word's label stays
  label_same : (l w : ℕ) → In w ws → eqb (renamed_word (rank v) w / label_unit) l ≡ eqb (w / label_unit) l
  label_same l w i =
      let s = word_is w i in
      let k = s.0 in
      let f = h.sheet.fit.links k s.1 in
      let e : renamed_word (rank v) w ≡ link_word (renamed_link (rank u) k) = word_renamed w i in
      let d : w ≡ link_word k = s.3 in
      let n = small h in
      let x : rank u k.from < 1024 = omega (arith, rank_le u k.from, f.from) in
      let y : rank u k.to < 1024 = omega (arith, rank_le u k.to, f.to) in
      let a : renamed_word (rank v) w / label_unit ≡ w / label_unit = omega (arith, e, d, x, y, f.from, f.to) in
      ap (λ (j : ℕ). eqb j l) a

  words_total : (l : ℕ) → word_total l (map (renamed_word (rank v)) ws) ≡ word_total l ws
  unfolding word_total
  words_total l = tally_map (λ w. eqb (w / label_unit) l) (renamed_word (rank v)) ws (label_same l)

  -- the marks are those of the closed sheet
  marks_closed : (y : ℕ) → get_or r.marks y free_mark ≡ mark_of shut y
  unfolding closed_sheet has
  marks_closed y =
      ⊎_elim
      (λ p. p ∙ sym (mark_by shut y false false refl (unlocked p (is_locked shut y) refl)))
      (λ p. p.0 ∙ sym (mark_by shut y false true refl (locked p.1.0 p.1.1 p.1.2 p.1.3)))
      (c.marks.2.from y)
    where
      rs : List ℕ
      rs = c.marks.0

      -- the new number of a record, by the ranks
      new_is : (x : ℕ) → x < self.n → new_of rs x ≡ rank u x
      new_is x l = c.marks.1 x (omega (arith, h.ranged.size)) ∙ sym (rank_marked h x (omega (arith, h.size)))

      locked : (x : ℕ) → x < self.n → get_or self.marks x free_mark ≡ lock_mark → new_of rs x ≡ y → is_locked shut y ≡ true
      locked x l e q =
          let p : is_locked b.sheet x ≡ true = sym (shows_locked h.sheet x) ∙ eq-eqb (get_or self.marks x free_mark) lock_mark e in
          subst (λ (z : ℕ). is_locked shut z ≡ true) (sym (new_is x l) ∙ q) (closed_locked (rank u) b.sheet x p)

      unlocked : get_or r.marks y free_mark ≡ free_mark → (t : Bool) → is_locked shut y ≡ t → is_locked shut y ≡ false
      unlocked p false q = q
      unlocked p true q =
          let m = map_has eqb_test (rank u) y b.sheet.locks q in
          let l : m.0 < self.n = omega (arith, h.sheet.fit.locks m.0 m.1, h.size) in
          let e : get_or self.marks m.0 free_mark ≡ lock_mark =
          eqb-true (get_or self.marks m.0 free_mark) lock_mark (shows_locked h.sheet m.0 ∙ m.1) in
          let a : get_or r.marks (new_of rs m.0) free_mark ≡ lock_mark = c.marks.2.all m.0 l e in
          let z : new_of rs m.0 ≡ y = new_is m.0 l ∙ m.2 in
          let d : get_or r.marks y free_mark ≡ lock_mark = ap (λ (j : ℕ). get_or r.marks j free_mark) (sym z) ∙ a in
          absurd (omega (arith, d, p))

  shut_shown : Shows (rank u b.n) (packed_of r) shut
  shut_shown = record {
    links = subst (λ (k : List ℕ). Linked k shut) (sym c.links) words_linked;
    count = ap length c.links ∙ length-map (renamed_word (rank v)) ws ∙ h.sheet.count ∙ sym shut_length;
    totals = λ l. ap (word_total l) c.links ∙ words_total l ∙ h.sheet.totals l ∙ sym (closed_total (rank u) b.sheet l);
    marks = marks_closed;
    fit = closed_fit b.n b.sheet h.sheet.fit;
  }
    where
      shut_length : length shut.links ≡ length b.sheet.links
      shut_length = unfold closed_sheet in length-map (renamed_link (rank u)) b.sheet.links

  pub closed_represents : Represents r (closed 0 b)
  unfolding closed latest Piled
  closed_represents = record {
    size = c.n ∙ sym (count_marked h);
    ranged = closed_ranged self r h.ranged c;
    sheet = shut_shown;
    pile = subst (λ (k : ℕ). Piled (rank u b.n) (packed_of r) (latest r.ring r.top k) []) (sym c.held) tt;
    totals = λ l p. ap (λ (ts : List ℕ). get_or ts l 0) c.totals ∙ h.totals l p ∙ sym (closed_total (rank u) b.sheet l);
  }

-- ---- acceptance
module _ (self r : Register) (old new : List ℕ) (inside : InRange self) (some : rank (in_use self.marks) self.n ≡ 0 → ⊥) (room : self.n ≤ length old)
    (c : Closed self r) (told : new ≡ over (new_numbers (in_use self.marks) self.n) old) where
  free : (b : Book) → Represents self b → close_answer b.n b.sheet (length old) ≡ 0
  free b h = close_free h (length old) some room

  -- the marks are free or locks
  marks_right : Marked r.marks
  marks_right y = ⊎_elim (λ p. omega (arith, p)) (λ p. omega (arith, p.0)) (c.marks.2.from y)

  accept_close : Steps self (close (length old)) (record { register = r; answer = Done })
  unfolding answer next
  accept_close = record {
    caused = λ k q. absurd (done_refused q);
    refused = λ x. absurd (x refl);
    foreign = λ o. absurd (o inside);
    formed = λ _. (closed_ranged self r inside c, λ _. marks_right);
    answers = λ b h. ap answer_of (sym (free b h));
    follows = λ b h. subst (λ (k : ℕ). Represents r (closed k b)) (sym (free b h)) (closed_represents h c);
  }

  given_told : (b : Book) → Represents self b → given b (close (length old)) ≡ new_numbers (in_use self.marks) self.n
  unfolding given close_given
  given_told b h =
      ap (λ (k : ℕ). close_given k b) (free b h)
      ∙ numbers_same (used b.n b.sheet) (in_use self.marks) b.n (used_marked h) b.n (omega arith)
      ∙ ap (new_numbers (in_use self.marks)) (sym h.size)

  pub closes_accepted : Closes self old new (record { register = r; answer = Done })
  closes_accepted = record {
    steps = accept_close;
    refused = λ x. absurd (x refl);
    past =
        ap (drop self.n) told
        ∙ drop_at (new_numbers (in_use self.marks) self.n) (drop (length (new_numbers (in_use self.marks) self.n)) old)
        self.n (length-numbers (in_use self.marks) self.n)
        ∙ ap (λ (k : ℕ). drop k old) (length-numbers (in_use self.marks) self.n);
    formed = λ _. (closed_ranged self r inside c, marks_right);
    given = λ b h. told ∙ ap (λ (g : List ℕ). over g old) (sym (given_told b h));
  }
