-- What the register keeps and the sheet that it shows, side by side.
--   packed_causes n p e  the causes against an edit, by what the register keeps
--   first_append, first_stop
--                       the first of joined causes: by the second list if the first has none, else by the first
--   shows_cause         the same cause against an edit
--   packed_edit e p      what the register keeps after an accepted edit
--   shows_edited        the same members after it
--   taken_back          and what was kept before again when it is taken back
--   replicate_at        of no marks and no totals each is 0, past their end too
-- Assumes nothing.
use mathlib.Core.Path.{◌≡◌, refl, sym, ap, subst, ◌∙◌}
use mathlib.Core.Logic.{⊎_elim}
use mathlib.Core.List.{List, [], ◌∷◌, ◌++◌, map}
use mathlib.Core.Bool.{Bool, true, false, not, ◌||◌}
use Prim.Native.Nat.{ℕ, zero, suc, ◌+◌, ◌/◌, ◌%◌, ◌≤◌, ◌<◌}
use native.Mathlib.Omega.{arith}
use lib.Dec.{leb, eqb}
use lib.ListN.{length, get_or, set, replicate}
use borrow.Author.Tests.{leb-false, eq-eqb, not-false}
use Rattle.book.specs.Basics.{pick, bit, In, has, without}
use Rattle.book.specs.Causes.{Cause, no_record, locked_end, already, missing, full, touched_record, withdrawn_record, number, first_number, max_records, labels}
use Rattle.book.specs.Causes.{max_links}
use Rattle.book.specs.Book.{Link, same_link, Sheet, Edit, add, remove, lock, unlock, withdraw, reinstate, present, is_locked, is_withdrawn, touched, total}
use Rattle.book.specs.Book.{causes}
use Rattle.book.specs.Book.{edit_answer, edited}
use Rattle.book.proofs.SetLaws.{eqb_test, same_link_test, and_both, or_neither, has_in, in_has, has_without, without_self, without_other, length_without}
use Rattle.book.proofs.SetLaws.{or_else}
use Rattle.book.proofs.SetLaws.{without_absent}
use Rattle.book.specs.Sheets.{Proper, Fit}
use Rattle.book.proofs.BookLaws.{first-none, first_proper, edited_fit, fit_bare}
use Rattle.book.proofs.TotalLaws.{total-add, total_remove}
use Rattle.links.specs.Links.{link_word, Linked}
use Rattle.links.specs.Parts.{link_of, label_unit}
use Rattle.links.specs.Ascending.{insert}
use Rattle.register.specs.Marks.{free_mark, lock_mark, withdrawn_mark, mark_of, has_mark}
use Rattle.register.specs.Packed.{Packed, kind_unit, held_word, take_back_kind, take_back, Shows}
use Rattle.register.specs.Inner.{link_causes}
use Rattle.links.specs.LinkLaws.{word_test, linked_has, linked_touched}
use Rattle.register.specs.MarkLaws.{mark_by, shows_locked, shows_withdrawn, marks_set, mark_back}
use Rattle.links.specs.AscendingLaws.{insert_in, insert_keeps, in_insert, length-insert, rises_insert, rises_without, length_out, without_insert}
use Rattle.links.specs.AscendingLaws.{insert_without}
use Rattle.links.specs.TotalLaws.{word_total_insert, word_total_without}

-- ---- the same cause
unfoldable pub packed_causes : ℕ → Packed → Edit → List (Cause × Bool)
packed_causes n p (add k) = link_causes n p.marks k ++ ((already, has eqb (link_word k) p.links) ∷ (full, leb max_links (length p.links)) ∷ [])
packed_causes n p (remove k) = link_causes n p.marks k ++ ((missing, not (has eqb (link_word k) p.links)) ∷ [])
packed_causes n p (lock r) = (no_record, leb n r) ∷ (withdrawn_record, has_mark withdrawn_mark p.marks r) ∷ (already, has_mark lock_mark p.marks r) ∷ []
packed_causes n p (unlock r) =
    (no_record, leb n r) ∷ (withdrawn_record, has_mark withdrawn_mark p.marks r) ∷ (missing, not (has_mark lock_mark p.marks r)) ∷ []
packed_causes n p (withdraw r) =
    (no_record, leb n r) ∷ (locked_end, has_mark lock_mark p.marks r) ∷ (already, has_mark withdrawn_mark p.marks r) ∷
    (touched_record, touched r (map link_of p.links)) ∷ []
packed_causes n p (reinstate r) = (no_record, leb n r) ∷ (missing, not (has_mark withdrawn_mark p.marks r)) ∷ []

-- later causes matter where the earlier ones are not there
inner : (a b c : Bool) (x y z r q : ℕ) → (a ≡ false → c ≡ false → r ≡ q) → pick a x (pick b y (pick c z r)) ≡ pick a x (pick b y (pick c z q))
inner true b c x y z r q f = refl
inner false true c x y z r q f = refl
inner false false true x y z r q f = refl
inner false false false x y z r q f = f refl refl

pub first_append : (cs ds : List (Cause × Bool)) → first_number cs ≡ 0 → first_number (cs ++ ds) ≡ first_number ds
unfolding first_number
first_append [] ds e = refl
first_append (c ∷ cs) ds e = let h = first-none c.0 c.1 cs e in rw h.0 (first_append cs ds h.1)

pub first_stop : (cs ds : List (Cause × Bool)) → (first_number cs ≡ 0 → ⊥) → first_number (cs ++ ds) ≡ first_number cs
unfolding first_number
first_stop [] ds z = absurd (z refl)
first_stop (c ∷ cs) ds z = go c.1 z (first_stop cs ds)
  where
    go : (t : Bool) → (pick t (number c.0) (first_number cs) ≡ 0 → ⊥) → ((first_number cs ≡ 0 → ⊥) → first_number (cs ++ ds) ≡ first_number cs)
        → pick t (number c.0) (first_number (cs ++ ds)) ≡ pick t (number c.0) (first_number cs)
    go true z ih = refl
    go false z ih = ih z

module _ {n : ℕ} (small : n ≤ max_records) where
  is_proper : (k : Link) → (leb n k.from || leb n k.to) ≡ false → leb labels k.label ≡ false → Proper n k
  is_proper k u v =
      let h = or_neither (leb n k.from) (leb n k.to) u in
      record { from = leb-false _ _ h.0; label = leb-false labels k.label v; to = leb-false _ _ h.1 }

  pub shows_cause : {p : Packed} {s : Sheet} → Shows n p s → (e : Edit) → first_number (packed_causes n p e) ≡ edit_answer n s e
  unfolding packed_causes link_causes edit_answer causes first_number
  shows_cause {p} {s} h (add k) = rw (shows_withdrawn h k.from, shows_withdrawn h k.to)
      (inner (leb n k.from || leb n k.to) (is_withdrawn s k.from || is_withdrawn s k.to) (leb labels k.label) _ _ _ _ _
      (λ u v. rw (shows_locked h k.from, shows_locked h k.to, linked_has small h.fit h.links (is_proper k u v), h.count)))
  shows_cause {p} {s} h (remove k) = rw (shows_withdrawn h k.from, shows_withdrawn h k.to)
      (inner (leb n k.from || leb n k.to) (is_withdrawn s k.from || is_withdrawn s k.to) (leb labels k.label) _ _ _ _ _
      (λ u v. rw (shows_locked h k.from, shows_locked h k.to, linked_has small h.fit h.links (is_proper k u v))))
  shows_cause h (lock r) = rw (shows_withdrawn h r, shows_locked h r)
  shows_cause h (unlock r) = rw (shows_withdrawn h r, shows_locked h r)
  shows_cause h (withdraw r) = rw (shows_withdrawn h r, shows_locked h r, linked_touched small h.fit h.links r)
  shows_cause h (reinstate r) = rw (shows_withdrawn h r)

-- ---- the same members after an accepted edit
unfoldable pub packed_edit : Edit → Packed → Packed
packed_edit (add k) p = record { links = insert (link_word k) p.links; marks = p.marks }
packed_edit (remove k) p = record { links = without eqb (link_word k) p.links; marks = p.marks }
packed_edit (lock r) p = record { links = p.links; marks = set p.marks r lock_mark }
packed_edit (unlock r) p = record { links = p.links; marks = set p.marks r free_mark }
packed_edit (withdraw r) p = record { links = p.links; marks = set p.marks r withdrawn_mark }
packed_edit (reinstate r) p = record { links = p.links; marks = set p.marks r free_mark }

module _ {n : ℕ} (small : n ≤ max_records) where
  add_linked : {ws : List ℕ} {s : Sheet} (k : Link) → Fit n s → Linked ws s → Proper n k
      → present s k ≡ false → Linked (insert (link_word k) ws) (edited (add k) s)
  unfolding edited has
  add_linked {ws} {s} k f l p z = record {
    ascending = rises_insert (link_word k) l.ascending (omega arith) (linked_has small f l p ∙ z);
    sound = λ w i. ⊎_elim
        (λ e. (k, e, rw (same_link_test.reflexive k)))
        (λ h. let r = l.sound w h in (r.0, r.1, or_right (same_link k r.0) r.2))
        (in_insert (link_word k) ws i);
    whole = λ j e. or_else (same_link k j) (present s j) e _
        (λ q. subst (λ (i : Link). In (link_word i) (insert (link_word k) ws)) (same_link_test.sound k j q) (insert_in (link_word k) ws))
        (λ q. insert_keeps (link_word k) (l.whole j q));
  }
    where
      or_right : (a : Bool) {b : Bool} → b ≡ true → (a || b) ≡ true
      or_right true e = refl
      or_right false e = e

  remove_linked : {ws : List ℕ} {s : Sheet} (k : Link) → Fit n s → Linked ws s → Proper n k → Linked (without eqb (link_word k) ws) (edited (remove k) s)
  unfolding edited
  remove_linked {ws} {s} k f l p = record {
    ascending = rises_without (link_word k) l.ascending;
    sound = λ w i.
        let h = and_both (not (eqb (link_word k) w)) (has eqb w ws) (sym (has_without eqb_test (link_word k) w ws) ∙ in_has eqb_test w _ i) in
        let r = l.sound w (has_in eqb_test w ws h.1) in
        let d : not (same_link k r.0) ≡ true = ap not (sym (word_test small p (f.links r.0 r.2)) ∙ ap (eqb (link_word k)) (sym r.1)) ∙ h.0 in
        (r.0, r.1, has_without same_link_test k r.0 s.links ∙ rw (d, r.2));
    whole = λ j e.
        let h = and_both (not (same_link k j)) (present s j) (sym (has_without same_link_test k j s.links) ∙ e) in
        let d : not (eqb (link_word k) (link_word j)) ≡ true = ap not (word_test small p (f.links j h.1)) ∙ h.0 in
        has_in eqb_test (link_word j) _ (has_without eqb_test (link_word k) (link_word j) ws ∙ rw (d, in_has eqb_test (link_word j) ws (l.whole j h.1)));
  }

  -- another sheet with the same links, whose marks differ at the record r alone
  marked_anew : {p : Packed} {s : Sheet} → Shows n p s → (t : Sheet) → t.links ≡ s.links → (r m : ℕ) → r < length p.marks → Fit n t
      → mark_of t r ≡ m → ((j : ℕ) → eqb r j ≡ false → mark_of t j ≡ mark_of s j) → Shows n (record { links = p.links; marks = set p.marks r m }) t
  unfolding total
  marked_anew {p} {s} h t e r m l f at other = record {
    links = record {
      ascending = h.links.ascending;
      sound = λ w i. let o = h.links.sound w i in (o.0, o.1, rw e o.2);
      whole = λ k q. h.links.whole k (rw e at q);
    };
    count = h.count ∙ ap length (sym e);
    totals = λ j. rw e (h.totals j);
    marks = marks_set p.marks s t r m l h.marks at other;
    fit = f;
  }

  word_label : {k : Link} → Proper n k → link_word k / label_unit ≡ k.label
  word_label p = omega (arith, p.from, p.to)

  pub shows_edited : {p : Packed} {s : Sheet} → length p.marks ≡ max_records
      → Shows n p s → (e : Edit) → edit_answer n s e ≡ 0 → Shows n (packed_edit e p) (edited e s)
  unfolding packed_edit edited edit_answer causes has
  shows_edited {p} {s} m h (add k) z =
      let u = first_proper n k _ _ z in
      let v = first-none locked_end _ _ u.2 in
      let a = first-none already _ _ v.1 in
      record {
        links = add_linked k h.fit h.links u.0 a.0;
        count = length-insert (link_word k) p.links ∙ ap suc h.count;
        totals =
            λ l. word_total_insert l (link_word k) p.links
            ∙ rw (word_label u.0) (ap (λ (t : ℕ). bit (eqb k.label l) + t) (h.totals l) ∙ sym (total-add k s l));
        marks = h.marks;
        fit = edited_fit n s (add k) h.fit z;
      }
  shows_edited {p} {s} m h (remove k) z =
      let u = first_proper n k _ _ z in
      let v = first-none locked_end _ _ u.2 in
      let a = not-false (present s k) (first-none missing _ _ v.1).0 in
      record {
        links = remove_linked k h.fit h.links u.0;
        count =
            let x = length_out (link_word k) p.links h.links.ascending (linked_has small h.fit h.links u.0 ∙ a) in
            let y = length_without same_link_test k s.links h.fit.once a in
            omega (arith, h.count);
        totals = λ l.
            let x = word_total_without l (link_word k) p.links h.links.ascending (linked_has small h.fit h.links u.0 ∙ a) in
            let y = total_remove k s l h.fit.once a in
            let z : bit (eqb (link_word k / label_unit) l) ≡ bit (eqb k.label l) = ap (λ (i : ℕ). bit (eqb i l)) (word_label u.0) in
            omega (arith, x, y, z, h.totals l);
        marks = h.marks;
        fit = edited_fit n s (remove k) h.fit z;
      }
  shows_edited {p} {s} m h (lock r) z =
      let u = first-none no_record _ _ z in
      let w = first-none withdrawn_record _ _ u.1 in
      let t : Sheet = record { links = s.links; locks = r ∷ s.locks; withdrawn = s.withdrawn } in
      marked_anew h t refl r lock_mark (omega (arith, leb-false n r u.0, m)) (edited_fit n s (lock r) h.fit z)
      (mark_by t r false true w.0 (rw (eq-eqb r r refl)))
      (λ j q. rw q)
  shows_edited {p} {s} m h (unlock r) z =
      let u = first-none no_record _ _ z in
      let w = first-none withdrawn_record _ _ u.1 in
      let t : Sheet = record { links = s.links; locks = without eqb r s.locks; withdrawn = s.withdrawn } in
      marked_anew h t refl r free_mark (omega (arith, leb-false n r u.0, m)) (edited_fit n s (unlock r) h.fit z)
      (mark_by t r false false w.0 (without_self eqb_test r s.locks))
      (λ j q. rw (without_other eqb_test r j s.locks q))
  shows_edited {p} {s} m h (withdraw r) z =
      let u = first-none no_record _ _ z in
      let t : Sheet = record { links = s.links; locks = s.locks; withdrawn = r ∷ s.withdrawn } in
      marked_anew h t refl r withdrawn_mark (omega (arith, leb-false n r u.0, m)) (edited_fit n s (withdraw r) h.fit z)
      (mark_by t r true (is_locked s r) (rw (eq-eqb r r refl)) refl)
      (λ j q. rw q)
  shows_edited {p} {s} m h (reinstate r) z =
      let u = first-none no_record _ _ z in
      let w = not-false (is_withdrawn s r) (first-none missing _ _ u.1).0 in
      let t : Sheet = record { links = s.links; locks = s.locks; withdrawn = without eqb r s.withdrawn } in
      marked_anew h t refl r free_mark (omega (arith, leb-false n r u.0, m)) (edited_fit n s (reinstate r) h.fit z)
      (mark_by t r false false (without_self eqb_test r s.withdrawn) (fit_bare n s h.fit r w).1)
      (λ j q. rw (without_other eqb_test r j s.withdrawn q))

  -- ---- taking back an accepted edit
  marked_back : (p : Packed) (r m k : ℕ) → get_or p.marks r free_mark ≡ k → record { links = p.links; marks = set (set p.marks r m) r k } ≡ p
  marked_back p r m k e = ap (λ (l : List ℕ). record { links = p.links; marks = l }) (mark_back p.marks r m k e)

  pub taken_back : {p : Packed} {s : Sheet} → Shows n p s → (e : Edit) → edit_answer n s e ≡ 0 → take_back (held_word e) (packed_edit e p) ≡ p
  unfolding take_back_kind held_word packed_edit edit_answer causes
  taken_back {p} {s} h (add k) z =
      let u = first_proper n k _ _ z in
      let v = first-none locked_end _ _ u.2 in
      let a = first-none already _ _ v.1 in
      let q = u.0 in
      let x : link_word k / kind_unit ≡ 0 = omega (arith, q.from, q.label, q.to) in
      let y : link_word k % kind_unit ≡ link_word k = omega (arith, q.from, q.label, q.to) in
      rw (x, y) (ap (λ (l : List ℕ). record { links = l; marks = p.marks }) (without_insert (link_word k) p.links
      ∙ without_absent eqb_test (link_word k) p.links (linked_has small h.fit h.links q ∙ a.0)))
  taken_back {p} {s} h (remove k) z =
      let u = first_proper n k _ _ z in
      let v = first-none locked_end _ _ u.2 in
      let a = not-false (present s k) (first-none missing _ _ v.1).0 in
      let q = u.0 in
      let x : (kind_unit + link_word k) / kind_unit ≡ 1 = omega (arith, q.from, q.label, q.to) in
      let y : (kind_unit + link_word k) % kind_unit ≡ link_word k = omega (arith, q.from, q.label, q.to) in
      rw (x, y) (ap (λ (l : List ℕ). record { links = l; marks = p.marks })
      (insert_without (link_word k) p.links h.links.ascending (linked_has small h.fit h.links q ∙ a)))
  taken_back {p} {s} h (lock r) z =
      let u = first-none no_record _ _ z in
      let w = first-none withdrawn_record _ _ u.1 in
      let a = first-none already _ _ w.1 in
      let l = leb-false n r u.0 in
      let x : (67108864 + r) / kind_unit ≡ 2 = omega arith in
      let y : (67108864 + r) % kind_unit ≡ r = omega arith in
      rw (x, y) (marked_back p r lock_mark free_mark (h.marks r ∙ mark_by s r false false w.0 a.0))
  taken_back {p} {s} h (unlock r) z =
      let u = first-none no_record _ _ z in
      let w = first-none withdrawn_record _ _ u.1 in
      let a = not-false (is_locked s r) (first-none missing _ _ w.1).0 in
      let l = leb-false n r u.0 in
      let x : (100663296 + r) / kind_unit ≡ 3 = omega arith in
      let y : (100663296 + r) % kind_unit ≡ r = omega arith in
      rw (x, y) (marked_back p r free_mark lock_mark (h.marks r ∙ mark_by s r false true w.0 a))
  taken_back {p} {s} h (withdraw r) z =
      let u = first-none no_record _ _ z in
      let a = first-none locked_end _ _ u.1 in
      let w = first-none already _ _ a.1 in
      let l = leb-false n r u.0 in
      let x : (134217728 + r) / kind_unit ≡ 4 = omega arith in
      let y : (134217728 + r) % kind_unit ≡ r = omega arith in
      rw (x, y) (marked_back p r withdrawn_mark free_mark (h.marks r ∙ mark_by s r false false w.0 a.0))
  taken_back {p} {s} h (reinstate r) z =
      let u = first-none no_record _ _ z in
      let w = not-false (is_withdrawn s r) (first-none missing _ _ u.1).0 in
      let l = leb-false n r u.0 in
      let x : (167772160 + r) / kind_unit ≡ 5 = omega arith in
      let y : (167772160 + r) % kind_unit ≡ r = omega arith in
      rw (x, y) (marked_back p r free_mark withdrawn_mark (h.marks r ∙ mark_by s r true (is_locked s r) w refl))

-- of no marks and no totals each is 0, past their end too
pub replicate_at : (x n i : ℕ) → get_or (replicate n x) i x ≡ x
replicate_at x zero i = refl
replicate_at x (suc n) zero = refl
replicate_at x (suc n) (suc i) = replicate_at x n i
