-- Laws of closing up: the ends of links and the locked records are in use, the closed sheet fits, the totals stay, and an undo straight after finds none held.
-- Assumes nothing.
use Rattle.std.specs.Prelude.{◌≡◌, Bool, true, not, ℕ, zero, suc, ◌<◌, ltb, eqb}
use Rattle.std.proofs.Math.Path.{refl}
use Rattle.std.proofs.Common.{ap, subst, arith, ltb-true, lt-ltb}
use Rattle.std.proofs.lemmas.Bool.{false≢true}
use Rattle.book.specs.Basics.{has}
use Rattle.book.specs.Causes.{none_held, number}
use Rattle.book.specs.Book.{Link, Sheet, Book, undo, close, present, is_locked, is_withdrawn, used, rank, renamed_link, closed_sheet, close_answer, closed}
use Rattle.book.specs.Book.{undo_answer, total, answer, next}
use Rattle.book.specs.Sheets.{Distinct, Proper, Fit}
use Rattle.book.proofs.SetLaws.{eqb_test, same_link_test, link_is, and_both, has_map, map_has, distinct_map}
use Rattle.book.proofs.ListLaws.{length-map}
use Rattle.book.proofs.TotalLaws.{tally_map}
use Rattle.book.proofs.RankLaws.{rank_less, rank_apart}

-- ---- records in use
pub used-below : (n : ℕ) (s : Sheet) (x : ℕ) → used n s x ≡ true → x < n
used-below n s x e = ltb-true x n (and_both (ltb x n) (not (is_withdrawn s x)) e).0

pub link_used : (n : ℕ) (s : Sheet) → Fit n s → (k : Link) → present s k ≡ true → (used n s k.from ≡ true) × (used n s k.to ≡ true)
link_used n s f k p = (rw (lt-ltb k.from n (f.links k p).from, (f.ends k p).0), rw (lt-ltb k.to n (f.links k p).to, (f.ends k p).1))

pub lock_used : (n : ℕ) (s : Sheet) → Fit n s → (r : ℕ) → is_locked s r ≡ true → used n s r ≡ true
lock_used n s f r p = rw (lt-ltb r n (f.locks r p), f.free r p)

-- two records in use have two new numbers
pub used_apart : (n : ℕ) (s : Sheet) (x y : ℕ) → used n s x ≡ true → used n s y ≡ true → rank (used n s) x ≡ rank (used n s) y → x ≡ y
used_apart n s x y p q = rank_apart (used n s) n x y p q (used-below n s x p) (used-below n s y q)

-- ---- the closed sheet
-- a locked record's new number is locked
pub closed_locked : (f : ℕ → ℕ) (s : Sheet) (r : ℕ) → is_locked s r ≡ true → is_locked (closed_sheet f s) (f r) ≡ true
unfolding closed_sheet
closed_locked f s r l = has_map eqb_test f r s.locks l

pub closed_fit : (n : ℕ) (s : Sheet) → Fit n s → Fit (rank (used n s) n) (closed_sheet (rank (used n s)) s)
unfolding closed_sheet has Distinct
closed_fit n s f = record {
  links = λ j i.
      let r = map_has same_link_test (renamed_link (rank u)) j s.links i in
      let w = link_used n s f r.0 r.1 in
      let p = f.links r.0 r.1 in
      subst (Proper (rank u n)) r.2 (record {
        from = rank_less u r.0.from n w.0 p.from;
        label = p.label;
        to = rank_less u r.0.to n w.1 p.to;
      });
  locks = λ j i.
      let r = map_has eqb_test (rank u) j s.locks i in
      subst (λ (v : ℕ). v < rank u n) r.2 (rank_less u r.0 n (lock_used n s f r.0 r.1) (f.locks r.0 r.1));
  ends = λ k i. (refl, refl);
  free = λ r i. refl;
  withdrawn = λ r i. absurd (false≢true i);
  once = distinct_map same_link_test (renamed_link (rank u)) s.links f.once (λ j k p q e.
      let a = link_used n s f j p in
      let b = link_used n s f k q in
      link_is j k
      (used_apart n s j.from k.from a.0 b.0 (ap (λ (i : Link). i.from) e))
      (ap (λ (i : Link). i.label) e)
      (used_apart n s j.to k.to a.1 b.1 (ap (λ (i : Link). i.to) e)));
  single = distinct_map eqb_test (rank u) s.locks f.single (λ x y p q e. used_apart n s x y (lock_used n s f x p) (lock_used n s f y q) e);
  apart = tt;
  room = omega (arith, f.room, length-map (renamed_link (rank u)) s.links);
}
  where
    u : ℕ → Bool
    u = used n s

-- ---- what closing up leaves
-- an undo straight after an accepted one gives 8
pub close_then_undo : (b : Book) (room : ℕ) → answer b (close room) ≡ 0 → answer (next b (close room)) undo ≡ number none_held
unfolding answer next closed undo_answer
close_then_undo b room e = ap (λ (k : ℕ). undo_answer (closed k b).pile) e

pub closed_total : (f : ℕ → ℕ) (s : Sheet) (l : ℕ) → total (closed_sheet f s) l ≡ total s l
unfolding total closed_sheet
closed_total f s l = tally_map (λ k. eqb k.label l) (renamed_link f) s.links (λ k i. refl)

-- the total of every label stays, whatever the answer
pub close_total : (b : Book) (room l : ℕ) → total (next b (close room)).sheet l ≡ total b.sheet l
unfolding next
close_total b room l = go (close_answer b.n b.sheet room)
  where
    go : (k : ℕ) → total (closed k b).sheet l ≡ total b.sheet l
    go zero = unfold closed in closed_total (rank (used b.n b.sheet)) b.sheet l
    go (suc k) = unfold closed in refl
