-- Laws of the plain book: what holds of the sheets of every history, what a refused edit and an undo leave, and the order of the causes.
--   causes_in_order, close_in_order
--                  the causes against an edit stand in the order of S6.6, and those against closing up in that of S14.4
--   number_positive, caused_positive
--                  no cause has the number of acceptance
--   first_caused   a number that is not 0, found as the first of some causes, is a cause's
--   first-none     accepted: the first cause is not there, nor any after it
--   refused_same   a refused call changes nothing
--   undo_back      an undo after an accepted edit gives the sheet before it
--   first_proper   what the causes 2, 18 and 3 let pass is a proper link, whose ends are in use
--   touched_end, end_touched
--                  a record is touched exactly if it is an end of a link
--   edited_fit     an accepted edit leaves a sheet that fits
--   all_take       what holds of all sheets of a pile holds of the first k
--   next_sound, fresh_sound, after_sound
--                  the book is sound after any call, at the start, and after every history
--   fit_bare, withdrawn_bare
--                  a withdrawn record has no links and no lock: of a sheet that fits, and after every history
-- Assumes nothing.
use Rattle.std.specs.Prelude.{◌≡◌, ◌⊎◌, List, [], ◌∷◌, Bool, true, false, not, ◌||◌, ℕ, zero, suc, ◌≤◌, ◌<◌, length, take, leb, eqb}
use Rattle.std.proofs.Math.Path.{refl}
use Rattle.std.proofs.Common.{sym, ap, ◌∙◌, subst, inl, inr, ⊎_elim, true≢false, arith, leb-false, eq-eqb, eqb-true, ne_eqb}
use Rattle.std.proofs.lemmas.Bool.{false≢true, not-false}
use Rattle.book.specs.Basics.{pick, In, here, there, has, without, All, all_none, all_more}
use Rattle.book.specs.Causes.{Cause, bad_size, no_record, bad_label, locked_end, already, missing, full, none_held, no_expression, too_many_bytes}
use Rattle.book.specs.Causes.{too_large, bad_tree, short_work, short_list, broken_frame, unknown_kind, not_open, touched_record, withdrawn_record}
use Rattle.book.specs.Causes.{bad_tie, unordered_anchors, none_in_use, number, Caused, first_number}
use Rattle.book.specs.CauseOrders.{edit_order, close_order, InOrder, none_left, same_cause}
use Rattle.book.specs.Causes.{max_records, labels, max_links, max_held}
use Rattle.book.specs.CauseOrders.{passed_over}
use Rattle.book.specs.Book.{Link, same_link, Sheet, Book, Edit, add, remove, lock, unlock, withdraw, reinstate, Call, edit, undo, close, present, is_locked}
use Rattle.book.specs.Book.{is_withdrawn, touched, used, causes, edit_answer, edited, turned, undo_answer, undone, close_causes, close_answer, closed, answer}
use Rattle.book.specs.Book.{next, fresh, after}
use Rattle.book.specs.Sheets.{Distinct, Proper, Fit, Sound}
use Rattle.book.proofs.RankLaws.{rank_le}
use Rattle.book.proofs.CloseLaws.{closed_fit}
use Rattle.book.proofs.SetLaws.{same_link_test, eqb_test, and_both, or_neither, or_else, or-true, has_in, in_has, has_without, absent_without}
use Rattle.book.proofs.SetLaws.{distinct_without}
use Rattle.book.proofs.SetLaws.{length_without}

-- ---- causes
-- every edit's causes are looked for in the order of S6.6
pub causes_in_order : (n : ℕ) (s : Sheet) (e : Edit) → InOrder (causes n s e) edit_order
unfolding causes edit_order
causes_in_order n s (add k) = same_cause (same_cause (same_cause (same_cause (same_cause (passed_over (same_cause none_left))))))
causes_in_order n s (remove k) = same_cause (same_cause (same_cause (same_cause (passed_over (same_cause none_left)))))
causes_in_order n s (lock r) = same_cause (same_cause (passed_over (passed_over (same_cause none_left))))
causes_in_order n s (unlock r) = same_cause (same_cause (passed_over (passed_over (passed_over (same_cause none_left)))))
causes_in_order n s (withdraw r) = same_cause (passed_over (passed_over (same_cause (same_cause (passed_over (passed_over (same_cause none_left)))))))
causes_in_order n s (reinstate r) = same_cause (passed_over (passed_over (passed_over (passed_over (same_cause none_left)))))

pub close_in_order : (n : ℕ) (s : Sheet) (room : ℕ) → InOrder (close_causes n s room) close_order
unfolding close_causes close_order
close_in_order n s room = same_cause (same_cause none_left)

-- no cause has the number of acceptance
pub number_positive : (c : Cause) → 1 ≤ number c
unfolding number
number_positive bad_size = omega arith
number_positive no_record = omega arith
number_positive bad_label = omega arith
number_positive locked_end = omega arith
number_positive already = omega arith
number_positive missing = omega arith
number_positive full = omega arith
number_positive none_held = omega arith
number_positive no_expression = omega arith
number_positive too_many_bytes = omega arith
number_positive too_large = omega arith
number_positive bad_tree = omega arith
number_positive short_work = omega arith
number_positive short_list = omega arith
number_positive broken_frame = omega arith
number_positive unknown_kind = omega arith
number_positive not_open = omega arith
number_positive touched_record = omega arith
number_positive withdrawn_record = omega arith
number_positive bad_tie = omega arith
number_positive unordered_anchors = omega arith
number_positive none_in_use = omega arith

pub caused_positive : {k : ℕ} → Caused k → 0 < k
caused_positive c = omega (arith, number_positive c.0, c.1)

-- a number that is found is a cause's
pick_caused : (c : Cause) (t : Bool) (cs : List (Cause × Bool)) {k : ℕ} → k ≡ pick t (number c) (first_number cs) → (k ≡ first_number cs → Caused k) → Caused k
pick_caused c true cs e f = (c, e)
pick_caused c false cs e f = f e

pub first_caused : (cs : List (Cause × Bool)) {k : ℕ} → k ≡ first_number cs → (k ≡ 0 → ⊥) → Caused k
unfolding first_number
first_caused [] e z = absurd (z e)
first_caused (c ∷ cs) e z = pick_caused c.0 c.1 cs e (λ q. first_caused cs q z)

-- accepted: the first cause is not there, nor any after it
pub first-none : (c : Cause) (t : Bool) (cs : List (Cause × Bool)) → first_number ((c, t) ∷ cs) ≡ 0 → (t ≡ false) × (first_number cs ≡ 0)
unfolding first_number
first-none c true cs e = absurd (omega (arith, number_positive c, e))
first-none c false cs e = (refl, e)

-- ---- refusal and undo
-- a refused call changes nothing
pub refused_same : (b : Book) (c : Call) → (answer b c ≡ 0 → ⊥) → next b c ≡ b
unfolding answer next
refused_same b (edit e) z = go (edit_answer b.n b.sheet e) z
  where
    go : (k : ℕ) → (k ≡ 0 → ⊥) → turned k b (edited e b.sheet) ≡ b
    go zero z = absurd (z refl)
    go (suc k) z = unfold turned in refl
refused_same b undo z = go b.pile z
  where
    go : (ss : List Sheet) → (undo_answer ss ≡ 0 → ⊥) → undone b ss ≡ b
    go [] z = unfold undone in refl
    go (s ∷ ss) z = absurd (z (unfold undo_answer in refl))
refused_same b (close room) z = go (close_answer b.n b.sheet room) z
  where
    go : (k : ℕ) → (k ≡ 0 → ⊥) → closed k b ≡ b
    go zero z = absurd (z refl)
    go (suc k) z = unfold closed in refl

-- an undo after an accepted edit gives the sheet before it
pub undo_back : (b : Book) (e : Edit) → answer b (edit e) ≡ 0 → (next (next b (edit e)) undo).sheet ≡ b.sheet
unfolding answer next turned undone
undo_back b e h = ap (λ (z : ℕ). (undone (turned z b (edited e b.sheet)) (turned z b (edited e b.sheet)).pile).sheet) h

-- ---- what holds of every sheet
-- the link of an edit that the causes 2, 18 and 3 let pass
pub first_proper : (n : ℕ) (k : Link) (t : Bool) (cs : List (Cause × Bool))
    → first_number ((no_record, leb n k.from || leb n k.to) ∷ (withdrawn_record, t) ∷ (bad_label, leb labels k.label) ∷ cs) ≡ 0
    → Proper n k × (t ≡ false) × (first_number cs ≡ 0)
first_proper n k t cs e =
    let p = first-none no_record _ _ e in
    let q = or_neither (leb n k.from) (leb n k.to) p.0 in
    let w = first-none withdrawn_record t _ p.1 in
    let h = first-none bad_label _ cs w.1 in
    (record { from = leb-false _ _ q.0; label = leb-false labels k.label h.0; to = leb-false _ _ q.1 }, w.0, h.1)

-- a record that a link touches is an end of a link, and the other way round
pub touched_end : (r : ℕ) (l : List Link) → touched r l ≡ true → (k : Link) × In k l × ((k.from ≡ r) ⊎ (k.to ≡ r))
unfolding touched
touched_end r [] t = absurd (false≢true t)
touched_end r (j ∷ l) t = go (eqb j.from r) refl (eqb j.to r) refl t (touched_end r l)
  where
    go : (a : Bool) → eqb j.from r ≡ a → (b : Bool) → eqb j.to r ≡ b → ((a || b) || touched r l) ≡ true
        → (touched r l ≡ true → (k : Link) × In k l × ((k.from ≡ r) ⊎ (k.to ≡ r)))
        → (k : Link) × In k (j ∷ l) × ((k.from ≡ r) ⊎ (k.to ≡ r))
    go true p b q t ih = (j, here, inl (eqb-true j.from r p))
    go false p true q t ih = (j, here, inr (eqb-true j.to r q))
    go false p false q t ih = let h = ih t in (h.0, there h.1, h.2)

pub end_touched : (r : ℕ) {k : Link} (l : List Link) → In k l → (k.from ≡ r) ⊎ (k.to ≡ r) → touched r l ≡ true
unfolding touched
end_touched r {k = k} [] x'' e = elim x'' [ ]
end_touched r {k} (j ∷ l) here (inl e) = rw (eq-eqb k.from r e)
end_touched r {k} (j ∷ l) here (inr e) = rw (eq-eqb k.to r e, or-true (eqb k.from r))
end_touched r {k} (j ∷ l) (there h) e = rw (end_touched r l h e) (or-true (eqb j.from r || eqb j.to r))

pub edited_fit : (n : ℕ) (s : Sheet) (e : Edit) → Fit n s → edit_answer n s e ≡ 0 → Fit n (edited e s)
unfolding edit_answer causes edited has without Distinct
edited_fit n s (add k) f e =
    let p = first_proper n k (is_withdrawn s k.from || is_withdrawn s k.to) _ e in
    let w = or_neither (is_withdrawn s k.from) (is_withdrawn s k.to) p.1 in
    let q = first-none locked_end _ _ p.2 in
    let r = first-none already _ _ q.1 in
    let h = first-none full _ _ r.1 in
    let In-use : Link → Type 0 = λ (j : Link). (is_withdrawn s j.from ≡ false) × (is_withdrawn s j.to ≡ false) in
    record {
      links = λ j i. or_else (same_link k j) (present s j) i (Proper n j) (λ c. subst (Proper n) (same_link_test.sound k j c) p.0) (f.links j);
      locks = f.locks;
      ends = λ j i. or_else (same_link k j) (present s j) i (In-use j) (λ c. subst In-use (same_link_test.sound k j c) w) (f.ends j);
      free = f.free;
      withdrawn = f.withdrawn;
      once = (r.0, f.once);
      single = f.single;
      apart = f.apart;
      room = omega (arith, leb-false max_links (length s.links) h.0);
    }
edited_fit n s (remove k) f e =
    let p = first_proper n k (is_withdrawn s k.from || is_withdrawn s k.to) _ e in
    let q = first-none locked_end _ _ p.2 in
    let r = first-none missing _ _ q.1 in
    let was : (j : Link) → present (edited (remove k) s) j ≡ true → present s j ≡ true =
    λ j i. (and_both (not (same_link k j)) (present s j) (sym (has_without same_link_test k j s.links) ∙ i)).1
    in
    record {
      links = λ j i. f.links j (was j i);
      locks = f.locks;
      ends = λ j i. f.ends j (was j i);
      free = f.free;
      withdrawn = f.withdrawn;
      once = distinct_without same_link_test k s.links f.once;
      single = f.single;
      apart = f.apart;
      room = omega (arith, f.room, length_without same_link_test k s.links f.once (not-false _ r.0));
    }
edited_fit n s (lock r) f e =
    let p = first-none no_record _ _ e in
    let w = first-none withdrawn_record _ _ p.1 in
    let q = first-none already _ _ w.1 in
    let below : (j : ℕ) → eqb r j ≡ true → j < n = λ j c. subst (λ (v : ℕ). v < n) (eqb_test.sound r j c) (leb-false _ _ p.0) in
    let in_use : (j : ℕ) → eqb r j ≡ true → is_withdrawn s j ≡ false = λ j c. subst (λ (v : ℕ). is_withdrawn s v ≡ false) (eqb_test.sound r j c) w.0 in
    record {
      links = f.links;
      locks = λ j i. or_else (eqb r j) (is_locked s j) i (j < n) (below j) (f.locks j);
      ends = f.ends;
      free = λ j i. or_else (eqb r j) (is_locked s j) i (is_withdrawn s j ≡ false) (in_use j) (f.free j);
      withdrawn = f.withdrawn;
      once = f.once;
      single = (q.0, f.single);
      apart = f.apart;
      room = f.room;
    }
edited_fit n s (unlock r) f e =
    let was : (j : ℕ) → is_locked (edited (unlock r) s) j ≡ true → is_locked s j ≡ true =
    λ j i. (and_both (not (eqb r j)) (is_locked s j) (sym (has_without eqb_test r j s.locks) ∙ i)).1
    in
    record {
      links = f.links;
      locks = λ j i. f.locks j (was j i);
      ends = f.ends;
      free = λ j i. f.free j (was j i);
      withdrawn = f.withdrawn;
      once = f.once;
      single = distinct_without eqb_test r s.locks f.single;
      apart = f.apart;
      room = f.room;
    }
edited_fit n s (withdraw r) f e =
    let p = first-none no_record _ _ e in
    let q = first-none locked_end _ _ p.1 in
    let w = first-none already _ _ q.1 in
    let t = first-none touched_record _ _ w.1 in
    let below : (j : ℕ) → eqb r j ≡ true → j < n = λ j c. subst (λ (v : ℕ). v < n) (eqb_test.sound r j c) (leb-false _ _ p.0) in
    let unlike : (j : ℕ) → is_locked s j ≡ true → eqb r j ≡ false =
    λ j i. ne_eqb r j (λ c. true≢false (sym i ∙ subst (λ (v : ℕ). is_locked s v ≡ false) c q.0))
    in
    record {
      links = f.links;
      locks = f.locks;
      ends = λ k i.
          let at = has_in same_link_test k s.links i in
          let h : (eqb r k.from ≡ false) × (eqb r k.to ≡ false) = (
            ne_eqb r k.from (λ c. true≢false (sym (end_touched r s.links at (inl (sym c))) ∙ t.0)),
            ne_eqb r k.to (λ c. true≢false (sym (end_touched r s.links at (inr (sym c))) ∙ t.0)),
          ) in (
            or-none (eqb r k.from) (is_withdrawn s k.from) h.0 (f.ends k i).0,
            or-none (eqb r k.to) (is_withdrawn s k.to) h.1 (f.ends k i).1,
          );
      free = λ j i. or-none (eqb r j) (is_withdrawn s j) (unlike j i) (f.free j i);
      withdrawn = λ j i. or_else (eqb r j) (is_withdrawn s j) i (j < n) (below j) (f.withdrawn j);
      once = f.once;
      single = f.single;
      apart = (w.0, f.apart);
      room = f.room;
    }
  where
    or-none : (b c : Bool) → b ≡ false → c ≡ false → (b || c) ≡ false
    or-none b c p q = rw p q
edited_fit n s (reinstate r) f e =
    let still : (j : ℕ) → is_withdrawn s j ≡ false → is_withdrawn (edited (reinstate r) s) j ≡ false = λ j i. absent_without eqb_test r j s.withdrawn i in
    record {
      links = f.links;
      locks = f.locks;
      ends = λ k i. (still k.from (f.ends k i).0, still k.to (f.ends k i).1);
      free = λ j i. still j (f.free j i);
      withdrawn = λ j i. f.withdrawn j (and_both (not (eqb r j)) (is_withdrawn s j) (sym (has_without eqb_test r j s.withdrawn) ∙ i)).1;
      once = f.once;
      single = f.single;
      apart = distinct_without eqb_test r s.withdrawn f.apart;
      room = f.room;
    }

-- ---- what holds of every book
pub all_take : {P : Sheet → Type 0} (k : ℕ) {ss : List Sheet} → All P ss → All P (take k ss)
all_take zero a = all_none
all_take (suc k) all_none = all_none
all_take (suc k) (all_more p a) = all_more p (all_take k a)

turned_sound : (b : Book) (s : Sheet) (z c : ℕ) → Sound b → c ≡ z → (c ≡ 0 → Fit b.n s) → Sound (turned z b s)
unfolding turned
turned_sound b s zero c o e f = record { small = o.small; sheet = f e; pile = all_take max_held (all_more o.sheet o.pile) }
turned_sound b s (suc z) c o e f = o

undone_sound : (b : Book) (ss : List Sheet) → Sound b → All (Fit b.n) ss → Sound (undone b ss)
unfolding undone
undone_sound b [] o a = o
undone_sound b (s ∷ ss) o (all_more p a) = record { small = o.small; sheet = p; pile = a }

closed_sound : (b : Book) (z : ℕ) → Sound b → Sound (closed z b)
unfolding closed
closed_sound b zero o =
    record { small = omega (arith, o.small, rank_le (used b.n b.sheet) b.n); sheet = closed_fit b.n b.sheet o.sheet; pile = all_none }
closed_sound b (suc z) o = o

pub next_sound : (b : Book) (c : Call) → Sound b → Sound (next b c)
unfolding next
next_sound b (edit e) o = turned_sound b (edited e b.sheet) _ _ o refl (edited_fit b.n b.sheet e o.sheet)
next_sound b undo o = undone_sound b b.pile o o.pile
next_sound b (close room) o = closed_sound b _ o

pub fresh_sound : (n : ℕ) → n ≤ max_records → Sound (fresh n)
unfolding fresh has Distinct
fresh_sound n h = record {
  small = h;
  sheet = record {
    links = λ k e. absurd (false≢true e);
    locks = λ r e. absurd (false≢true e);
    ends = λ k e. absurd (false≢true e);
    free = λ r e. absurd (false≢true e);
    withdrawn = λ r e. absurd (false≢true e);
    once = tt;
    single = tt;
    apart = tt;
    room = omega arith;
  };
  pile = all_none;
}

-- every history
pub after_sound : (b : Book) (cs : List Call) → Sound b → Sound (after b cs)
unfolding after
after_sound b [] o = o
after_sound b (c ∷ cs) o = after_sound (next b c) cs (next_sound b c o)

-- ---- withdrawn records
-- a withdrawn record of a sheet that fits has no links and no lock
pub fit_bare : (n : ℕ) (s : Sheet) → Fit n s → (r : ℕ) → is_withdrawn s r ≡ true → (touched r s.links ≡ false) × (is_locked s r ≡ false)
fit_bare n s f r w = (
  untrue (touched r s.links) (λ t.
      let h = touched_end r s.links t in
      let g = f.ends h.0 (in_has same_link_test h.0 s.links h.1) in
      ⊎_elim (λ p. true≢false (sym w ∙ ap (is_withdrawn s) (sym p) ∙ g.0)) (λ p. true≢false (sym w ∙ ap (is_withdrawn s) (sym p) ∙ g.1)) h.2),
  untrue (is_locked s r) (λ l. true≢false (sym w ∙ f.free r l)),
)
  where
    untrue : (t : Bool) → (t ≡ true → ⊥) → t ≡ false
    untrue true h = absurd (h refl)
    untrue false h = refl

-- after every history a withdrawn record has no links and is not locked
pub withdrawn_bare : (n : ℕ) → n ≤ max_records → (cs : List Call) (r : ℕ) → is_withdrawn (after (fresh n) cs).sheet r ≡ true
    → (touched r (after (fresh n) cs).sheet.links ≡ false) × (is_locked (after (fresh n) cs).sheet r ≡ false)
withdrawn_bare n h cs = fit_bare _ (after (fresh n) cs).sheet (after_sound (fresh n) cs (fresh_sound n h)).sheet
