-- What each way out of a call has to show: contents that represent no book, a refused edit, an accepted edit, and the two ways of undo.
--   caused_as, done_refused, refused_done
--                      the number of a refusal is its own; an accepted call is not refused, nor a refused one accepted
--   outside, inside, refuse_foreign
--                      contents out of range represent no book, and every call refuses them with 16
--   refuse, refused_as
--                      an edit that is refused, with the number by what the register keeps; the same of what `refused` hands back
--   accept, accepted_as
--                      an edit that is accepted; the same of what `hold` hands back
--   add_cause, remove_cause, link_stop, link_proper
--                      the causes against an add and a remove, where those of the link are not there and where they are; with none it is proper
--   remark_number n p r m
--                      the number of the first cause against a change of the record r's mark
--   remark_cause, remark_caused, remark_edit
--                      it is that of the edit; the numbers of the table are those of causes; what is kept and held after it
--   refuse_undo        undo with none held
--   back_rest, back_marks, taken_changed
--                      what is of no kind takes nothing back; an edit taken back that leaves the links, and one that is a change of the sheet
--   Restored self w r  what the register that an accepted undo hands back has to be: the latest word w is taken back
--   accept_undo        so an undo that is accepted
--   guard_none         contents that are not in range
--   opens, not_opens   asking for a fresh register
-- Assumes nothing.
use mathlib.Core.Path.{◌≡◌, refl, sym, ap, subst, ◌∙◌}
use mathlib.Core.List.{List, [], ◌∷◌, map}
use mathlib.Core.Bool.{Bool, true, false, not, false≢true}
use Prim.Native.Nat.{ℕ, zero, suc, ◌+◌, ◌≤◌, ◌<◌}
use native.Mathlib.Omega.{arith}
use lib.Dec.{leb, eqb}
use lib.ListN.{length, take, get_or, set}
use Rattle.book.specs.Basics.{pick, Rises, has}
use Rattle.book.specs.Causes.{no_record, locked_end, already, missing, full, none_held, not_open, touched_record, withdrawn_record, first_number, number}
use Rattle.book.specs.Causes.{Caused}
use Rattle.book.specs.Causes.{max_records, max_links, max_held}
use Rattle.book.specs.Book.{Link, Sheet, Book, Edit, add, remove, lock, unlock, withdraw, reinstate, Call, edit, undo, edit_answer, edited, turned, undo_answer}
use Rattle.book.specs.Book.{undone, fresh_answer, fresh, answer}
use Rattle.book.specs.Book.{next, touched}
use Rattle.book.specs.Sheets.{Proper}
use Rattle.book.proofs.BookLaws.{caused_positive, first_proper}
use Rattle.links.specs.Links.{link_word}
use Rattle.links.specs.Parts.{link_of}
use Rattle.links.specs.Ascending.{Seam, stands_at}
use Rattle.links.specs.AscendingLaws.{seam_has}
use Rattle.register.specs.Marks.{free_mark, lock_mark, withdrawn_mark, Marked}
use Rattle.register.specs.Packed.{Packed, held_word, take_back_kind, take_back, Shows, Piled}
use Rattle.register.specs.Counters.{Ranged, InRange}
use Rattle.register.specs.Representation.{held_words, packed_of, Represents}
use Rattle.register.specs.Calls.{answer_of, Opens, Steps}
use Rattle.register.specs.Inner.{link_causes, register_of, outcome_of, Remarks, locks, unlocks, withdraws, reinstates, Guarded, Tallied, Kept, Holding}
use Rattle.register.specs.Inner.{Changed, TakenBack}
use Rattle.register.specs.declared.Register.{Register}
use Rattle.register.specs.declared.Counters.{Counters}
use Rattle.register.specs.declared.Edited.{Edited}
use Rattle.register.specs.declared.Marking.{Marking}
use Rattle.register.specs.declared.Answer.{Answer}
use Rattle.register.specs.declared.Answer.TheVariants.{Done, Refused}
use Rattle.register.proofs.TotalLaws.{held_counted, represents_counted, counted_totals}
use Rattle.register.proofs.SheetLaws.{packed_causes, first_append, first_stop, shows_cause, packed_edit, shows_edited, taken_back}

-- ---- answers
-- the number of a refusal is its own
pub caused_as : {k : ℕ} → Caused k → (j : ℕ) → Refused k ≡ Refused j → Caused j
caused_as {k} c j e = let z : k ≡ j = cc in subst Caused z c

-- an accepted call is not refused
pub done_refused : {k : ℕ} → Done ≡ Refused k → ⊥
done_refused e = let z : ◌≡◌ {A = ℕ} 0 1 = cc in omega arith

pub refused_done : {k : ℕ} → Refused k ≡ Done → ⊥
refused_done e = done_refused (sym e)

-- ---- contents out of range, which represent no book
pub outside : (self : Register) (ok : Bool) → Guarded self.n self.count self.top self.held ok → ok ≡ false → InRange self → ⊥
outside self ok g e = g.none e

pub inside : (self : Register) (ok : Bool) → Guarded self.n self.count self.top self.held ok → ok ≡ true → InRange self
inside self ok g e = g.sure e

pub refuse_foreign : (self : Register) (c : Call) → (InRange self → ⊥) → Steps self c (record { register = self; answer = Refused 16 })
unfolding number
refuse_foreign self c none = record {
  caused = caused_as (not_open, refl);
  refused = λ _. refl;
  foreign = λ _. refl;
  formed = λ q. absurd (refused_done q);
  answers = λ b h. absurd (none h.ranged);
  follows = λ b h. absurd (none h.ranged);
}

-- ---- edits
-- the book's answer, by what the register keeps
same_answer : (self : Register) (b : Book) (e : Edit) → Represents self b
    → first_number (packed_causes self.n (packed_of self) e) ≡ edit_answer b.n b.sheet e
same_answer self b e h = rw h.size (shows_cause (subst (λ (n : ℕ). n ≤ max_records) h.size h.ranged.size) h.sheet e)

module _ (self : Register) (inside : InRange self) (e : Edit) where
  pub refuse : (k : ℕ) → Caused k → ((b : Book) → Represents self b → first_number (packed_causes self.n (packed_of self) e) ≡ k)
      → Steps self (edit e) (record { register = self; answer = Refused k })
  unfolding answer next turned
  refuse zero z p = absurd (omega (arith, caused_positive z))
  refuse (suc k) z p = record {
    caused = caused_as z;
    refused = λ _. refl;
    foreign = λ o. absurd (o inside);
    formed = λ q. absurd (refused_done q);
    answers = λ b h. ap answer_of (sym (told b h));
    follows = λ b h. rw (told b h) h;
  }
    where
      told : (b : Book) → Represents self b → edit_answer b.n b.sheet e ≡ suc k
      told b h = sym (same_answer self b e h) ∙ p b h

-- the same of what `refused` hands back
pub refused_as : {d : Counters} {ls ms hs ts : List ℕ} {c : Call} {k : ℕ} {r : Edited} → r ≡ record { counters = d; answer = Refused k }
    → Steps (register_of d ls ms hs ts) c (record { register = register_of d ls ms hs ts; answer = Refused k })
    → Steps (register_of d ls ms hs ts) c (outcome_of r ls ms hs ts)
refused_as {d} {ls} {ms} {hs} {ts} {c} e s = subst (λ (r : Edited). Steps (register_of d ls ms hs ts) c (outcome_of r ls ms hs ts)) (sym e) s

piled_take : (k : ℕ) (n : ℕ) (p : Packed) (ws : List ℕ) (ss : List Sheet) → Piled n p ws ss → Piled n p (take k ws) (take k ss)
unfolding Piled
piled_take zero n p [] [] h = tt
piled_take zero n p [] (s ∷ ss) h = tt
piled_take zero n p (w ∷ ws) [] h = tt
piled_take zero n p (w ∷ ws) (s ∷ ss) h = tt
piled_take (suc k) n p [] [] h = tt
piled_take (suc k) n p [] (s ∷ ss) h = h
piled_take (suc k) n p (w ∷ ws) [] h = h
piled_take (suc k) n p (w ∷ ws) (s ∷ ss) h = (h.0, piled_take k n (take_back w p) ws ss h.1)

-- after a change of the sheet there is room to hold the edit
pub kept_room : {self m : Register} → Kept self m → InRange self → (m.top < max_held) × (m.held ≤ max_held)
kept_room k h = (omega (arith, k.top, h.top), omega (arith, k.held, h.held))

-- marks stay marks
marked_set : (ms : List ℕ) (x m : ℕ) → m ≤ withdrawn_mark → Marked ms → Marked (set ms x m)
marked_set [] x m l h y = h y
marked_set (k ∷ ms) zero m l h zero = l
marked_set (k ∷ ms) zero m l h (suc y) = h (suc y)
marked_set (k ∷ ms) (suc x) m l h zero = h zero
marked_set (k ∷ ms) (suc x) m l h (suc y) = marked_set ms x m l (λ z. h (suc z)) y

edit_marked : (e : Edit) (p : Packed) → Marked p.marks → Marked (packed_edit e p).marks
unfolding packed_edit
edit_marked (add k) p h = h
edit_marked (remove k) p h = h
edit_marked (lock r) p h = marked_set p.marks r lock_mark (omega arith) h
edit_marked (unlock r) p h = marked_set p.marks r free_mark (omega arith) h
edit_marked (withdraw r) p h = marked_set p.marks r withdrawn_mark (omega arith) h
edit_marked (reinstate r) p h = marked_set p.marks r free_mark (omega arith) h

back_marked : (k x : ℕ) (p : Packed) → Marked p.marks → Marked (take_back_kind k x p).marks
unfolding take_back_kind
back_marked zero x p h = h
back_marked (suc zero) x p h = h
back_marked (suc (suc zero)) x p h = marked_set p.marks x free_mark (omega arith) h
back_marked (suc (suc (suc zero))) x p h = marked_set p.marks x lock_mark (omega arith) h
back_marked (suc (suc (suc (suc zero)))) x p h = marked_set p.marks x free_mark (omega arith) h
back_marked (suc (suc (suc (suc (suc zero))))) x p h = marked_set p.marks x withdrawn_mark (omega arith) h
back_marked (suc (suc (suc (suc (suc (suc k)))))) x p h = h

-- an accepted edit: the sheet is changed, then the edit is held
module _ (self : Register) (e : Edit) (m r : Register) (inside : InRange self) (long : length self.marks ≡ max_records)
    (free : (b : Book) → Represents self b → first_number (packed_causes self.n (packed_of self) e) ≡ 0)
    (c : Changed self (packed_edit e (packed_of self)) m) (o : Holding m (held_word e) r) where
  none : (b : Book) → Represents self b → edit_answer b.n b.sheet e ≡ 0
  none b h = sym (same_answer self b e h) ∙ free b h

  words : held_words r ≡ take max_held (held_word e ∷ held_words self)
  words = let k = c.kept in o.words ∙ rw (k.ring, k.top, k.held)

  ranged : InRange r
  ranged = record { size = omega (arith, o.n, c.kept.n, inside.size); count = omega (arith, o.count, c.kept.count); top = o.top; held = o.few }

  pub accept : Steps self (edit e) (record { register = r; answer = Done })
  unfolding answer next turned Piled
  accept = record {
    caused = λ k q. absurd (done_refused q);
    refused = λ x. absurd (x refl);
    foreign = λ o. absurd (o inside);
    formed = λ _. (ranged, λ m. subst Marked (sym (ap (λ (p : Packed). p.marks) o.sheet ∙ c.marks)) (edit_marked e (packed_of self) m));
    answers = λ b h. ap answer_of (sym (none b h));
    follows = λ b h.
        let small = subst (λ (n : ℕ). n ≤ max_records) h.size h.ranged.size in
        let s = o.sheet ∙ c.sheet h.sheet.links.ascending in
        let shown : Shows b.n (packed_of r) (edited e b.sheet) = rw s (shows_edited small long h.sheet e (none b h)) in
        rw (none b h) (record {
          size = o.n ∙ c.kept.n ∙ h.size;
          ranged = ranged;
          sheet = shown;
          totals = counted_totals r (held_counted o (c.counted h.sheet.links.ascending (represents_counted h))) shown;
          pile =
              rw (s, words) (piled_take max_held b.n (packed_edit e (packed_of self)) (held_word e ∷ held_words self)
              (b.sheet ∷ b.pile) (rw (taken_back small h.sheet e (none b h)) (h.sheet, h.pile)));
        });
  }

-- the same of what `hold` hands back
pub accepted_as : {r : Edited} {self : Register} {ls ms hs ts : List ℕ} {c : Call} → r.answer ≡ Done
    → Steps self c (record { register = register_of r.counters ls ms hs ts; answer = Done }) → Steps self c (outcome_of r ls ms hs ts)
accepted_as {r} {self} {ls} {ms} {hs} {ts} {c} e s =
    subst (λ (a : Answer). Steps self c (record { register = register_of r.counters ls ms hs ts; answer = a })) (sym e) s

-- the causes of an add and of a remove, once those of the ends and the label are not there, by what stands at the place of the link's word
module _ (self : Register) (k : Link) (x i : ℕ) (word : x ≡ link_word k) (free : first_number (link_causes self.n self.marks k) ≡ 0) (held : Bool)
    (found : held ≡ stands_at self.links self.count i x) (seam : Seam x self.links self.count i) (few : self.count ≤ length self.links)
    (ascends : Rises 0 (packed_of self).links) where
  has_link : has eqb (link_word k) (packed_of self).links ≡ held
  has_link =
      ap (λ (w : ℕ). has eqb w (packed_of self).links) (sym word) ∙ sym (found ∙ seam_has x self.links self.count i few ascends seam)

  pub add_cause : first_number (packed_causes self.n (packed_of self) (add k))
      ≡ first_number ((already, held) ∷ (full, leb max_links (length (packed_of self).links)) ∷ [])
  unfolding packed_causes first_number
  add_cause = first_append (link_causes self.n self.marks k) _ free ∙ rw has_link

  pub remove_cause : first_number (packed_causes self.n (packed_of self) (remove k)) ≡ first_number ((missing, not held) ∷ [])
  unfolding packed_causes first_number
  remove_cause = first_append (link_causes self.n self.marks k) _ free ∙ rw has_link

pub link_stop : (self : Register) (k : Link) (z : ℕ) (t : Bool) → z ≡ first_number (link_causes self.n self.marks k)
    → (z ≡ 0 → ⊥) → first_number (packed_causes self.n (packed_of self) (pick t (add k) (remove k))) ≡ z
unfolding packed_causes
link_stop self k z true e n = first_stop (link_causes self.n self.marks k) _ (λ q. n (e ∙ q)) ∙ sym e
link_stop self k z false e n = first_stop (link_causes self.n self.marks k) _ (λ q. n (e ∙ q)) ∙ sym e

pub link_proper : (n : ℕ) (marks : List ℕ) (k : Link) → first_number (link_causes n marks k) ≡ 0 → Proper n k
unfolding link_causes
link_proper n marks k e = (first_proper n k _ _ e).0

-- ---- a record's mark changed, by the table of changes
-- the number of the first cause against it, by the record's mark
unfoldable pub remark_number : ℕ → Packed → ℕ → Marking → ℕ
remark_number n p r m =
    pick (leb n r) (number no_record)
    (pick (eqb (get_or p.marks r free_mark) m.to) m.already
    (pick (eqb (get_or p.marks r free_mark) m.from)
    (pick (eqb m.to withdrawn_mark) (pick (touched r (map link_of p.links)) (number touched_record) 0) 0)
    m.barred))

pub remark_cause : {e : Edit} {r : ℕ} {m : Marking} → Remarks e r m → (n : ℕ) (p : Packed) (k : ℕ) → get_or p.marks r free_mark ≡ k → k ≤ withdrawn_mark
    → first_number (packed_causes n p e) ≡ remark_number n p r m
unfolding packed_causes first_number remark_number number
remark_cause t n p (suc (suc (suc k))) e h = absurd (omega arith)
remark_cause locks n p zero e h = rw e
remark_cause locks n p (suc zero) e h = rw e
remark_cause locks n p (suc (suc zero)) e h = rw e
remark_cause unlocks n p zero e h = rw e
remark_cause unlocks n p (suc zero) e h = rw e
remark_cause unlocks n p (suc (suc zero)) e h = rw e
remark_cause withdraws n p zero e h = rw e
remark_cause withdraws n p (suc zero) e h = rw e
remark_cause withdraws n p (suc (suc zero)) e h = rw e
remark_cause reinstates n p zero e h = rw e
remark_cause reinstates n p (suc zero) e h = rw e
remark_cause reinstates n p (suc (suc zero)) e h = rw e

pub remark_caused : {e : Edit} {r : ℕ} {m : Marking} → Remarks e r m → Caused m.already × Caused m.barred
remark_caused locks = ((already, refl), (withdrawn_record, refl))
remark_caused unlocks = ((missing, refl), (withdrawn_record, refl))
remark_caused withdraws = ((already, refl), (locked_end, refl))
remark_caused reinstates = ((missing, refl), (missing, refl))

-- what is kept and what is held then
pub remark_edit : {e : Edit} {r : ℕ} {m : Marking} → Remarks e r m → (p : Packed)
    → (packed_edit e p ≡ record { links = p.links; marks = set p.marks r m.to }) × (held_word e ≡ m.kind + r)
unfolding packed_edit held_word
remark_edit locks p = (refl, refl)
remark_edit unlocks p = (refl, refl)
remark_edit withdraws p = (refl, refl)
remark_edit reinstates p = (refl, refl)

-- ---- undo
-- nothing is held
module _ (self : Register) (inside : InRange self) (none : held_words self ≡ []) where
  empty_pile : (n : ℕ) (p : Packed) (ss : List Sheet) → Piled n p (held_words self) ss → ss ≡ []
  unfolding Piled
  empty_pile n p ss h = go ss (rw none at h)
    where
      go : (ss : List Sheet) → Piled n p [] ss → ss ≡ []
      go [] h = refl
      go (s ∷ ss) h = absurd h

  pub refuse_undo : Steps self undo (record { register = self; answer = Refused 8 })
  unfolding answer next undo_answer undone number
  refuse_undo = record {
    caused = caused_as (none_held, refl);
    refused = λ _. refl;
    foreign = λ o. absurd (o inside);
    formed = λ q. absurd (refused_done q);
    answers = λ b h. rw (empty_pile _ _ b.pile h.pile);
    follows = λ b h. rw (ap (undone b) (empty_pile _ _ b.pile h.pile)) h;
  }

-- what is of no kind takes nothing back
pub back_rest : (k x : ℕ) (p : Packed) → (k ≡ 0 → ⊥) → (k ≡ 1 → ⊥) → (k ≡ 2 → ⊥) → (k ≡ 3 → ⊥) → (k ≡ 4 → ⊥) → (k ≡ 5 → ⊥) → take_back_kind k x p ≡ p
unfolding take_back_kind
back_rest zero x p a b c d e f = absurd (a refl)
back_rest (suc zero) x p a b c d e f = absurd (b refl)
back_rest (suc (suc zero)) x p a b c d e f = absurd (c refl)
back_rest (suc (suc (suc zero))) x p a b c d e f = absurd (d refl)
back_rest (suc (suc (suc (suc zero)))) x p a b c d e f = absurd (e refl)
back_rest (suc (suc (suc (suc (suc zero))))) x p a b c d e f = absurd (f refl)
back_rest (suc (suc (suc (suc (suc (suc k)))))) x p a b c d e f = refl

-- an edit taken back that leaves links and counters, by the marks after it
pub back_marks : (d : Counters) (ls ms hs ts vs : List ℕ) (k x : ℕ) → d.count ≤ max_links
    → vs ≡ (take_back_kind k x (record { links = take d.count ls; marks = ms })).marks
    → (Rises 0 (take d.count ls) → record { links = take d.count ls; marks = vs } ≡ take_back_kind k x (record { links = take d.count ls; marks = ms }))
    → TakenBack (register_of d ls ms hs ts) k x (register_of d ls vs hs ts)
back_marks d ls ms hs ts vs k x h q e =
    record { kept = record { n = refl; ring = refl; top = refl; held = refl; count = h }; marks = q; sheet = λ r _. e r; counted = λ _ t. t }

-- one that is a change of the sheet
pub taken_changed : {self r : Register} {p : Packed} {k x : ℕ} → take_back_kind k x (packed_of self) ≡ p → Changed self p r → TakenBack self k x r
taken_changed {self} {r} e c = record {
  kept = c.kept;
  marks = c.marks ∙ ap (λ (q : Packed). q.marks) (sym e);
  sheet = λ h _. c.sheet h ∙ sym e;
  counted = c.counted;
}

-- what the register that an accepted undo hands back has to be: the latest word w is taken back
pub record Restored (self : Register) (w : ℕ) (r : Register) : Type 0 where
  pub n : r.n ≡ self.n
  pub ranged : InRange r
  pub words : held_words self ≡ w ∷ held_words r
  pub marks : r.marks ≡ (take_back w (packed_of self)).marks
  pub sheet : Rises 0 (packed_of self).links → length (take_back w (packed_of self)).links ≤ max_links → packed_of r ≡ take_back w (packed_of self)
  pub counted : Rises 0 (packed_of self).links → Tallied self → Tallied r

module _ (self : Register) (inside : InRange self) (w : ℕ) (r : Register) (u : Restored self w r) where
  -- the pile has a top, and the register goes back to it
  restored : (b : Book) → Represents self b → (undo_answer b.pile ≡ 0) × Represents r (undone b b.pile)
  unfolding Piled undo_answer undone
  restored b h = go b.pile (rw u.words at h.pile)
    where
      go : (ss : List Sheet) → Piled b.n (packed_of self) (w ∷ held_words r) ss → (undo_answer ss ≡ 0) × Represents r (undone b ss)
      go [] q = absurd q
      go (s ∷ ss) q =
          let few : length (take_back w (packed_of self)).links ≤ max_links = omega (arith, q.0.count, q.0.fit.room) in
          let e = u.sheet h.sheet.links.ascending few in
          let shown : Shows b.n (packed_of r) s = rw e q.0 in (
            refl,
            record {
              size = u.n ∙ h.size;
              ranged = u.ranged;
              sheet = shown;
              pile = rw e q.1;
              totals = counted_totals r (u.counted h.sheet.links.ascending (represents_counted h)) shown;
            },
          )

  pub accept_undo : Steps self undo (record { register = r; answer = Done })
  unfolding answer next
  accept_undo = record {
    caused = λ k q. absurd (done_refused q);
    refused = λ x. absurd (x refl);
    foreign = λ o. absurd (o inside);
    formed = λ _. (u.ranged, λ m. subst Marked (sym u.marks) (back_marked _ _ (packed_of self) m));
    answers = λ b h. ap answer_of (sym (restored b h).0);
    follows = λ b h. (restored b h).1;
  }

-- ---- the guard
pub guard_none : {n c t h : ℕ} → (Ranged n c t h → ⊥) → Guarded n c t h false
guard_none f = record { sure = λ e. absurd (false≢true e); none = λ _. f }

-- ---- a fresh register
pub opens : (n : ℕ) {r : Register} → fresh_answer n ≡ 0 → Represents r (fresh n) → Opens n (record { register = r; answer = Done })
opens n e h = record { answers = ap answer_of (sym e); made = λ _. h; empty = λ z. absurd (z e) }

pub not_opens : (n : ℕ) {r : Register} → fresh_answer n ≡ 1 → Represents r (fresh 0) → Opens n (record { register = r; answer = Refused 1 })
not_opens n e h = record { answers = ap answer_of (sym e); made = λ z. absurd (omega arith); empty = λ _. h }
