-- Laws of marks: what a record's mark says of the sheet that is shown, and what setting one does. Assumes nothing.
use Rattle.std.specs.Prelude.{◌≡◌, refl, List, Bool, true, false, ℕ, ◌≤◌, ◌<◌, eqb, length, get_or, set}
use Rattle.std.proofs.Common.{sym, ap, subst, ◌∙◌, true≢false, arith, get_or-set_same, get_or-set_other, set-set, eqb-true}
use Rattle.std.proofs.lemmas.List.{set-get_or}
use Rattle.std.proofs.lemmas.Bool.{eqb-false}
use Rattle.book.specs.Basics.{pick}
use Rattle.book.specs.Book.{Sheet, Book, is_locked, is_withdrawn}
use Rattle.register.specs.Marks.{free_mark, lock_mark, withdrawn_mark, mark_of, has_mark, Marked}
use Rattle.register.specs.Packed.{Packed, Shows}
use Rattle.register.specs.Questions.{MarkList}
use Rattle.register.specs.Representation.{Represents}
use Rattle.register.specs.declared.Register.{Register}

module _ (s : Sheet) (r : ℕ) where
  -- the mark of a record by the two tests
  pub mark_by : (w l : Bool) → is_withdrawn s r ≡ w → is_locked s r ≡ l → mark_of s r ≡ pick w withdrawn_mark (pick l lock_mark free_mark)
  mark_by w l p q = rw (p, q)

  pub mark_withdrawn : eqb (mark_of s r) withdrawn_mark ≡ is_withdrawn s r
  mark_withdrawn = go (is_withdrawn s r) (is_locked s r)
    where
      go : (w l : Bool) → eqb (pick w withdrawn_mark (pick l lock_mark free_mark)) withdrawn_mark ≡ w
      go true l = refl
      go false true = refl
      go false false = refl

  -- a locked record is not withdrawn
  pub mark_locked : (is_locked s r ≡ true → is_withdrawn s r ≡ false) → eqb (mark_of s r) lock_mark ≡ is_locked s r
  mark_locked f = go (is_withdrawn s r) refl (is_locked s r) refl
    where
      go : (w : Bool) → is_withdrawn s r ≡ w → (l : Bool) → is_locked s r ≡ l → eqb (pick w withdrawn_mark (pick l lock_mark free_mark)) lock_mark ≡ l
      go true p true q = absurd (true≢false (sym p ∙ f q))
      go true p false q = refl
      go false p true q = refl
      go false p false q = refl

  pub mark_small : mark_of s r ≤ withdrawn_mark
  mark_small = go (is_withdrawn s r) (is_locked s r)
    where
      go : (w l : Bool) → pick w withdrawn_mark (pick l lock_mark free_mark) ≤ withdrawn_mark
      go true l = omega arith
      go false true = omega arith
      go false false = omega arith

-- ---- what is shown
module _ {n : ℕ} {p : Packed} {s : Sheet} (h : Shows n p s) where
  pub shows_locked : (r : ℕ) → has_mark lock_mark p.marks r ≡ is_locked s r
  shows_locked r = ap (λ (m : ℕ). eqb m lock_mark) (h.marks r) ∙ mark_locked s r (h.fit.free r)

  pub shows_withdrawn : (r : ℕ) → has_mark withdrawn_mark p.marks r ≡ is_withdrawn s r
  shows_withdrawn r = ap (λ (m : ℕ). eqb m withdrawn_mark) (h.marks r) ∙ mark_withdrawn s r

  pub shows_marked : Marked p.marks
  shows_marked r = omega (arith, h.marks r, mark_small s r)

pub represents_marked : {r : Register} {b : Book} → Represents r b → Marked r.marks
represents_marked h = shows_marked h.sheet

-- what `marks` hands out says of each record whether it is withdrawn
pub listed_withdrawn : {r : Register} {b : Book} {ms : List ℕ} → MarkList r ms → Represents r b → (x : ℕ)
    → has_mark withdrawn_mark ms x ≡ is_withdrawn b.sheet x
listed_withdrawn {b = b} M R x = ap (λ (m : ℕ). eqb m withdrawn_mark) (M.marks b R x) ∙ mark_withdrawn b.sheet x

-- ---- a mark set
mark_set : (ms : List ℕ) (r j m : ℕ) → r < length ms → get_or (set ms r m) j free_mark ≡ pick (eqb r j) m (get_or ms j free_mark)
mark_set ms r j m h = go (eqb r j) refl
  where
    go : (t : Bool) → eqb r j ≡ t → get_or (set ms r m) j free_mark ≡ pick t m (get_or ms j free_mark)
    go true q = subst (λ (i : ℕ). get_or (set ms r m) i free_mark ≡ m) (eqb-true r j q) (get_or-set_same ms r m free_mark h)
    go false q = get_or-set_other ms r j m free_mark (λ z. eqb-false r j q (sym z))

-- the marks of a sheet, after one that differs at the record r alone
pub marks_set : (ms : List ℕ) (s t : Sheet) (r m : ℕ) → r < length ms → ((j : ℕ) → get_or ms j free_mark ≡ mark_of s j)
    → mark_of t r ≡ m → ((j : ℕ) → eqb r j ≡ false → mark_of t j ≡ mark_of s j) → (j : ℕ) → get_or (set ms r m) j free_mark ≡ mark_of t j
marks_set ms s t r m h e at other j = mark_set ms r j m h ∙ go (eqb r j) refl
  where
    go : (u : Bool) → eqb r j ≡ u → pick u m (get_or ms j free_mark) ≡ mark_of t j
    go true q = sym at ∙ ap (mark_of t) (eqb-true r j q)
    go false q = e j ∙ sym (other j q)

-- set, and set to what it was
pub mark_back : (ms : List ℕ) (r m k : ℕ) → get_or ms r free_mark ≡ k → set (set ms r m) r k ≡ ms
mark_back ms r m k e = set-set ms r m k ∙ ap (set ms r) (sym e) ∙ set-get_or ms r free_mark
