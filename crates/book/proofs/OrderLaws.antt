-- Two adds or removes of different links change places: on a book that is not full, both are accepted in the one order if they are in the other, and the books
-- after them are alike.
--   exchange_free   accepted in one order, accepted in the other
--   exchange_same   the books after both orders are alike
--   full_order      not so on a full book: a link that is added there after another was removed is refused before it
-- Assumes nothing.
use Rattle.std.specs.Prelude.{◌≡◌, Bool, ◌||◌, leb, eqb}
use Rattle.std.proofs.Math.Path.{refl, ap₂}
use Rattle.std.proofs.Common.{sym, ap, subst, ◌∙◌, true≢false}
use mathlib.Core.List.{List, [], ◌∷◌}
use Rattle.std.proofs.Math.Bool.{true, false}
use Prim.Native.Nat.{ℕ, suc, ◌≤◌, ◌<◌}
use native.Mathlib.Omega.{arith}
use Rattle.std.proofs.Math.ListN.{length}
use borrow.Author.Tests.{leb-false, lt-leb, le-leb, not-false}
use Rattle.book.specs.Basics.{pick, has, without, tally}
use Rattle.book.specs.Causes.{no_record, bad_label, locked_end, already, missing, full, withdrawn_record, number, first_number, labels, max_links}
use Rattle.book.specs.Book.{Link, same_link, Sheet, Book, Edit, add, remove, edit, present, is_locked, is_withdrawn, total, causes, edit_answer, edited}
use Rattle.book.specs.Book.{turned, answer, next}
use Rattle.book.proofs.SetLaws.{same_link_test, without_other}
use Rattle.book.proofs.BookLaws.{first-none}
use Rattle.book.specs.Orders.{Single, adds, removes, link_in, Alike}

-- ---- an add or a remove is accepted
abbrev removing : {e : Edit} → Single e → Bool
removing adds = false
removing removes = true

-- nothing is against a link but what the sheet's own links may say
record Open (n : ℕ) (locks withdrawn : List ℕ) (k : Link) : Type 0 where
  records : (leb n k.from || leb n k.to) ≡ false
  in_use : (has eqb k.from withdrawn || has eqb k.to withdrawn) ≡ false
  label : leb labels k.label ≡ false
  unlocked : (has eqb k.from locks || has eqb k.to locks) ≡ false

record Accepted (n : ℕ) (s : Sheet) {e : Edit} (x : Single e) : Type 0 where
  unbarred : Open n s.locks s.withdrawn (link_in x)
  stands : present s (link_in x) ≡ removing x
  room : removing x ≡ false → length s.links < max_links

module _ (n : ℕ) (s : Sheet) where
  free_accepted : {e : Edit} (x : Single e) → edit_answer n s e ≡ 0 → Accepted n s x
  unfolding link_in edit_answer causes
  free_accepted (adds {k}) e =
      let p = first-none no_record _ _ e in
      let w = first-none withdrawn_record _ _ p.1 in
      let l = first-none bad_label _ _ w.1 in
      let q = first-none locked_end _ _ l.1 in
      let h = first-none already _ _ q.1 in
      let f = first-none full _ _ h.1 in
      record {
        unbarred = record { records = p.0; in_use = w.0; label = l.0; unlocked = q.0 };
        stands = h.0;
        room = λ _. leb-false max_links (length s.links) f.0;
      }
  free_accepted (removes {k}) e =
      let p = first-none no_record _ _ e in
      let w = first-none withdrawn_record _ _ p.1 in
      let l = first-none bad_label _ _ w.1 in
      let q = first-none locked_end _ _ l.1 in
      let h = first-none missing _ _ q.1 in
      record {
        unbarred = record { records = p.0; in_use = w.0; label = l.0; unlocked = q.0 };
        stands = not-false _ h.0;
        room = λ z. absurd (true≢false z);
      }

  accepted_free : {e : Edit} (x : Single e) → Accepted n s x → edit_answer n s e ≡ 0
  unfolding link_in edit_answer causes first_number
  accepted_free (adds {k}) a =
      let o = a.unbarred in
      rw (o.records, o.in_use, o.label, o.unlocked, a.stands, lt-leb max_links (length s.links) (a.room refl))
  accepted_free (removes {k}) a = let o = a.unbarred in rw (o.records, o.in_use, o.label, o.unlocked, a.stands)

-- ---- lists without some members
module _ {A : Type 0} (same : A → A → Bool) where
  without_le : (x : A) (l : List A) → length (without same x l) ≤ length l
  unfolding without
  without_le x [] = omega arith
  without_le x (y ∷ ys) = go (same y x) (without_le x ys)
    where
      go : (t : Bool) → length (without same x ys) ≤ length ys → length (pick t (without same x ys) (y ∷ without same x ys)) ≤ suc (length ys)
      go true h = omega arith
      go false h = omega arith

  -- two members taken out, in either order
  without_both : (x y : A) (l : List A) → without same x (without same y l) ≡ without same y (without same x l)
  unfolding without
  without_both x y [] = refl
  without_both x y (z ∷ zs) = go (same z y) refl (same z x) refl (without_both x y zs)
    where
      go : (t : Bool) → same z y ≡ t → (u : Bool) → same z x ≡ u → without same x (without same y zs) ≡ without same y (without same x zs)
          → without same x (pick t (without same y zs) (z ∷ without same y zs)) ≡ without same y (pick u (without same x zs) (z ∷ without same x zs))
      go true p true q ih = ih
      go true p false q ih = rw p ih
      go false p true q ih = rw q ih
      go false p false q ih = rw (p, q) (ap (λ (l : List A). z ∷ l) ih)

-- ---- what an add or a remove leaves
pub unlike : (j k : Link) → (j ≡ k → ⊥) → same_link j k ≡ false
unlike j k h = go (same_link j k) refl
  where
    go : (t : Bool) → same_link j k ≡ t → t ≡ false
    go true e = absurd (h (same_link_test.sound j k e))
    go false e = refl

module _ (s : Sheet) where
  marks_kept : {e : Edit} → Single e → ((edited e s).locks ≡ s.locks) × ((edited e s).withdrawn ≡ s.withdrawn)
  unfolding edited
  marks_kept adds = (refl, refl)
  marks_kept removes = (refl, refl)

  other_kept : {e : Edit} (x : Single e) (k : Link) → (link_in x ≡ k → ⊥) → present (edited e s) k ≡ present s k
  unfolding link_in edited has
  other_kept (adds {k = j}) k h = rw (unlike j k h)
  other_kept (removes {k = j}) k h = without_other same_link_test j k s.links (unlike j k h)

  open_kept : {e : Edit} → Single e → (n : ℕ) (k : Link) → Open n (edited e s).locks (edited e s).withdrawn k ≡ Open n s.locks s.withdrawn k
  open_kept x n k = ap₂ (λ (l w : List ℕ). Open n l w k) (marks_kept x).0 (marks_kept x).1

-- ---- both orders, on a sheet that is not full
-- an add that came first has room after the other edit, too
room_left : (n : ℕ) (s : Sheet) → length s.links < max_links → {d e : Edit} (x : Single d) (y : Single e) → Accepted n (edited d s) y → removing x ≡ false
    → length (edited e s).links < max_links
unfolding edited
room_left n s room adds adds a z = a.room refl
room_left n s room adds (removes {k}) a z = omega (arith, without_le same_link k s.links, room)
room_left n s room removes y a z = absurd (true≢false z)

module _ (n : ℕ) (s : Sheet) (room : length s.links < max_links) {d e : Edit} (x : Single d) (y : Single e) (apart : link_in x ≡ link_in y → ⊥) where
  -- the later edit is accepted first
  later_first : Accepted n (edited d s) y → Accepted n s y
  later_first a = record {
    unbarred = subst (λ (P : Type 0). P) (open_kept s x n (link_in y)) a.unbarred;
    stands = sym (other_kept s x (link_in y) apart) ∙ a.stands;
    room = λ _. room;
  }

  -- and the earlier one after it
  earlier_last : Accepted n s x → Accepted n (edited d s) y → Accepted n (edited e s) x
  earlier_last a b = record {
    unbarred = subst (λ (P : Type 0). P) (sym (open_kept s y n (link_in x))) a.unbarred;
    stands = other_kept s y (link_in x) (λ c. apart (sym c)) ∙ a.stands;
    room = room_left n s room x y b;
  }

  sheet_free : edit_answer n s d ≡ 0 → edit_answer n (edited d s) e ≡ 0 → (edit_answer n s e ≡ 0) × (edit_answer n (edited e s) d ≡ 0)
  sheet_free p q =
      let a = free_accepted n s x p in
      let b = free_accepted n (edited d s) y q in
      (accepted_free n s y (later_first b), accepted_free n (edited e s) x (earlier_last a b))

-- the links after both: the same but for the order of two that were added
or_swap : (a b c : Bool) → (a || (b || c)) ≡ (b || (a || c))
or_swap true true c = refl
or_swap true false c = refl
or_swap false b c = refl

abbrev LinksAlike : Sheet → Sheet → Type 0
LinksAlike s t = ((k : Link) → present s k ≡ present t k) × ((l : ℕ) → total s l ≡ total t l)

links_equal : (s t : Sheet) → s.links ≡ t.links → LinksAlike s t
unfolding total
links_equal s t p = (λ k. ap (has same_link k) p, λ l. ap (tally (λ j. eqb j.label l)) p)

links_alike : (s : Sheet) {d e : Edit} (x : Single d) (y : Single e) → (link_in x ≡ link_in y → ⊥) → LinksAlike (edited e (edited d s)) (edited d (edited e s))
unfolding link_in edited has without total tally
links_alike s (adds {k = j}) (adds {k}) h = (λ m. or_swap (same_link k m) (same_link j m) (present s m), λ l. omega arith)
links_alike s (adds {k = j}) (removes {k}) h = links_equal (edited (remove k) (edited (add j) s)) (edited (add j) (edited (remove k) s)) (rw (unlike j k h))
links_alike s (removes {k = j}) (adds {k}) h =
    links_equal (edited (add k) (edited (remove j) s)) (edited (remove j) (edited (add k) s)) (rw (unlike k j (λ c. h (sym c))))
links_alike s (removes {k = j}) (removes {k}) h =
    links_equal (edited (remove k) (edited (remove j) s)) (edited (remove j) (edited (remove k) s)) (without_both same_link k j s.links)

-- ---- on books
-- an accepted edit puts the edited sheet in the place of the sheet
taken : (b : Book) (e : Edit) → answer b (edit e) ≡ 0 → ((next b (edit e)).n ≡ b.n) × ((next b (edit e)).sheet ≡ edited e b.sheet)
unfolding answer next turned
taken b e h = (ap (λ (k : ℕ). (turned k b (edited e b.sheet)).n) h, ap (λ (k : ℕ). (turned k b (edited e b.sheet)).sheet) h)

module _ (b : Book) (room : length b.sheet.links < max_links) {d e : Edit} (x : Single d) (y : Single e) (apart : link_in x ≡ link_in y → ⊥)
    (p : answer b (edit d) ≡ 0) (q : answer (next b (edit d)) (edit e) ≡ 0) where
  pub exchange_free : (answer b (edit e) ≡ 0) × (answer (next b (edit e)) (edit d) ≡ 0)
  unfolding answer
  exchange_free =
      let t = taken b d p in
      let f = sheet_free b.n b.sheet room x y apart p (sym (ap₂ (λ (n : ℕ) (s : Sheet). edit_answer n s e) t.0 t.1) ∙ q) in
      let u = taken b e f.0 in
      (f.0, ap₂ (λ (n : ℕ) (s : Sheet). edit_answer n s d) u.0 u.1 ∙ f.1)

  sheet_after : (c : Edit) → answer b (edit c) ≡ 0 → (f : Edit) → answer (next b (edit c)) (edit f) ≡ 0
      → ((next (next b (edit c)) (edit f)).n ≡ b.n) × ((next (next b (edit c)) (edit f)).sheet ≡ edited f (edited c b.sheet))
  sheet_after c h f g =
      let t = taken b c h in
      let u = taken (next b (edit c)) f g in
      (u.0 ∙ t.0, u.1 ∙ ap (edited f) t.1)

  pub exchange_same : Alike (next (next b (edit d)) (edit e)) (next (next b (edit e)) (edit d))
  unfolding answer
  exchange_same =
      let v = taken b d p in
      let g = sheet_free b.n b.sheet room x y apart p (sym (ap₂ (λ (n : ℕ) (s : Sheet). edit_answer n s e) v.0 v.1) ∙ q) in
      let w = taken b e g.0 in
      let f : (answer b (edit e) ≡ 0) × (answer (next b (edit e)) (edit d) ≡ 0) =
      (g.0, ap₂ (λ (n : ℕ) (s : Sheet). edit_answer n s d) w.0 w.1 ∙ g.1) in
      let s = sheet_after d p e q in
      let t = sheet_after e f.0 d f.1 in
      let l = links_alike b.sheet x y apart in
      let k = marks_kept b.sheet x in
      let m = marks_kept b.sheet y in
      let k' = marks_kept (edited e b.sheet) x in
      let m' = marks_kept (edited d b.sheet) y in
      let locks : (edited e (edited d b.sheet)).locks ≡ (edited d (edited e b.sheet)).locks = m'.0 ∙ k.0 ∙ sym m.0 ∙ sym k'.0 in
      let gone : (edited e (edited d b.sheet)).withdrawn ≡ (edited d (edited e b.sheet)).withdrawn = m'.1 ∙ k.1 ∙ sym m.1 ∙ sym k'.1 in
      record {
        size = s.0 ∙ sym t.0;
        links = λ j. ap (λ (u : Sheet). present u j) s.1 ∙ l.0 j ∙ ap (λ (u : Sheet). present u j) (sym t.1);
        locks = λ r. ap (λ (u : Sheet). is_locked u r) s.1 ∙ ap (has eqb r) locks ∙ ap (λ (u : Sheet). is_locked u r) (sym t.1);
        withdrawn = λ r. ap (λ (u : Sheet). is_withdrawn u r) s.1 ∙ ap (has eqb r) gone ∙ ap (λ (u : Sheet). is_withdrawn u r) (sym t.1);
        totals = λ j. ap (λ (u : Sheet). total u j) s.1 ∙ l.1 j ∙ ap (λ (u : Sheet). total u j) (sym t.1);
      }

pub full_order : (b : Book) → max_links ≤ length b.sheet.links → (j k : Link) → (j ≡ k → ⊥) → answer b (edit (remove j)) ≡ 0
    → answer (next b (edit (remove j))) (edit (add k)) ≡ 0 → answer b (edit (add k)) ≡ number full
unfolding answer edit_answer causes first_number link_in
full_order b h j k apart p q =
    let s = b.sheet in
    let t = taken b (remove j) p in
    let a = free_accepted b.n (edited (remove j) s) (adds {k = k}) (sym (ap₂ (λ (n : ℕ) (u : Sheet). edit_answer n u (add k)) t.0 t.1) ∙ q) in
    let o = subst (λ (P : Type 0). P) (open_kept s (removes {k = j}) b.n k) a.unbarred in
    let f : present s k ≡ false = sym (other_kept s (removes {k = j}) k apart) ∙ a.stands in
    rw (o.records, o.in_use, o.label, o.unlocked, f, le-leb max_links (length s.links) h)
