-- Laws of closing up and the questions: what a question gives of the closed book is what it gave of the book before, with the records renamed.
--   closing_pairs   every pair question, with work enough for the old n: how many pairs there are, and the first of them, renamed
--   closing_chain   every chain question between records in use, with work enough for the old n: its reply and its outcome, renamed
--   closing_none    such a question has no chain after exactly if it had none before
-- Assumes nothing.
use Rattle.std.specs.Prelude.{◌≡◌, ◌↔◌, Bool, true, ◌||◌, ℕ, zero, suc, ◌≤◌, ◌<◌, length, take, leb}
use Rattle.std.proofs.Math.Path.{refl, ap, ap₂, subst}
use Rattle.std.proofs.Common.{sym, ◌∙◌, mul-le-mul, arith}
use mathlib.Core.List.{List, [], ◌∷◌, ◌++◌, map}
use Rattle.std.proofs.Math.Bool.{false}
use Rattle.std.proofs.Math.Dec.{ltb}
use borrow.Author.Tests.{lt-ltb, le-ltb, lt-leb}
use Rattle.book.specs.Basics.{has}
use Rattle.book.specs.Causes.{short_work, first_number}
use Rattle.book.specs.Book.{Link, Book, close, present, used, rank, renamed_link, closed_sheet, closed, answer, next}
use Rattle.book.proofs.ListLaws.{length-map}
use Rattle.book.proofs.SetLaws.{same_link_test, has_map, map_has}
use Rattle.book.specs.Sheets.{Sound}
use Rattle.book.proofs.CloseLaws.{used-below, link_used, closed_fit}
use Rattle.book.proofs.RankLaws.{rank_less, rank_le, nth, nth_rank, nth_is}
use Rattle.k2.specs.SizeLaws.{tree_unit_mono}
use Rattle.paths.specs.Expressions.{Expr}
use Rattle.paths.specs.Grammar.{Verdict, accepted, long, outside, large, verdict_cause}
use Rattle.paths.specs.Chains.{asked, Reply, none, chain, ChainIs}
use Rattle.paths.specs.Relations.{pairs}
use Rattle.paths.specs.Questions.{Outcome, Engine, by_trees, by_rows, paired, replied, unless, row_width, chain_work, work_for, pairs_of, pairs_causes}
use Rattle.paths.specs.Questions.{pairs_answer, ReplyTo, steps, chain_causes}
use Rattle.paths.specs.Questions.{chain_answer}
use Rattle.paths.specs.Inside.{Inside}
use Rattle.paths.proofs.PairLaws.{pairs_are, pairs_only, fit_inside}
use Rattle.paths.specs.Renaming.{renamed_pair, renamed_step, renamed_reply, renamed_outcome, new_number}
use Rattle.paths.proofs.RenamingLaws.{Renames, reply_renamed, none_back, pairs_renamed}

-- ---- lists and outcomes renamed
take-map : (f : ℕ → ℕ) (k : ℕ) (l : List ℕ) → take k (map f l) ≡ map f (take k l)
take-map f zero l = refl
take-map f (suc k) [] = refl
take-map f (suc k) (x ∷ l) = ap (λ (m : List ℕ). f x ∷ m) (take-map f k l)

renamed_unless : (f : ℕ → ℕ) (k : ℕ) (o : Outcome) → unless k (renamed_outcome f o) ≡ renamed_outcome f (unless k o)
unfolding renamed_outcome
renamed_unless f zero o = refl
renamed_unless f (suc k) o = refl

steps_length : (f : ℕ → ℕ) (t : Reply) → length (steps (renamed_reply f t)) ≡ length (steps t)
unfolding steps renamed_reply
steps_length f none = refl
steps_length f (chain ws) = length-map (renamed_step f) ws

-- ---- the graph of the closed sheet
-- fewer records need no more work
work_mono : (d : Engine) (m n : ℕ) → m ≤ n → work_for d m ≤ work_for d n
work_mono by_trees m n h = omega (arith, tree_unit_mono m n h)
work_mono by_rows m n h = let w : row_width m ≤ row_width n = omega arith in omega (arith, mul-le-mul h w)

module _ (b : Book) (o : Sound b) where
  abbrev u : ℕ → Bool
  u = used b.n b.sheet

  -- the book closed up
  abbrev shut : Book
  shut = record { n = rank u b.n; sheet = closed_sheet (rank u) b.sheet; pile = [] }

  new_used : (v : ℕ) → v < rank u b.n → (asked shut).in_use v ≡ true
  unfolding asked closed_sheet has
  new_used v h = rw (lt-ltb v (rank u b.n) h)

  new_below : (v : ℕ) → (asked shut).in_use v ≡ true → v < rank u b.n
  unfolding asked
  new_below v e = used-below (rank u b.n) (closed_sheet (rank u) b.sheet) v e

  there_again : (k : Link) → present b.sheet k ≡ true → renamed_link (nth u b.n) (renamed_link (rank u) k) ≡ k
  there_again k p =
      let w = link_used b.n b.sheet o.sheet k p in
      let f = nth_rank u b.n k.from w.0 (used-below b.n b.sheet k.from w.0) in
      let t = nth_rank u b.n k.to w.1 (used-below b.n b.sheet k.to w.1) in
      ap₂ (λ (x y : ℕ). record { from = x; label = k.label; to = y }) f t

  shut_renames : Renames (rank u) (nth u b.n) (asked b) (asked shut)
  unfolding asked closed_sheet
  shut_renames = record {
    to = record {
      uses = λ x e. new_used (rank u x) (rank_less u x b.n e (used-below b.n b.sheet x e));
      links = λ k p. has_map same_link_test (renamed_link (rank u)) k b.sheet.links p;
    };
    from = record {
      uses = λ v e. (nth_is u b.n v (new_below v e)).0;
      links = λ j p.
          let r = map_has same_link_test (renamed_link (rank u)) j b.sheet.links p in
          subst (λ (k : Link). present b.sheet k ≡ true) (sym (there_again r.0 r.1) ∙ ap (renamed_link (nth u b.n)) r.2) r.1;
    };
    there = λ x e. nth_rank u b.n x e (used-below b.n b.sheet x e);
    back = λ v e. (nth_is u b.n v (new_below v e)).2;
    order = λ x y p q l. rank_less u x y p l;
  }

  before_inside : Inside (asked b)
  before_inside = fit_inside b o.sheet

  shut_inside : Inside (asked shut)
  shut_inside = fit_inside shut (closed_fit b.n b.sheet o.sheet)

  before_small : (asked b).n ≤ 1024
  unfolding asked
  before_small = o.small

  shut_small : (asked shut).n ≤ 1024
  unfolding asked
  shut_small = omega (arith, o.small, rank_le u b.n)

  -- ---- pairs
  shut_pairs : (e : Expr) → pairs (asked shut) e ≡ map (renamed_pair (rank u)) (pairs (asked b) e)
  shut_pairs e =
      sym (pairs_only (asked shut) shut_inside shut_small e (map (renamed_pair (rank u)) (pairs (asked b) e))
      (pairs_renamed (rank u) (nth u b.n) (asked b) (asked shut) shut_renames before_inside shut_inside
      before_small shut_small e (pairs (asked b) e) (pairs_are (asked b) before_inside before_small e)))

  shut_pairs_of : (v : Verdict) → pairs_of shut v ≡ map (renamed_pair (rank u)) (pairs_of b v)
  unfolding pairs_of
  shut_pairs_of (accepted e) = shut_pairs e
  shut_pairs_of long = refl
  shut_pairs_of outside = refl
  shut_pairs_of large = refl

  -- work that is enough for the old n is enough for the new one
  shut_work : (d : Engine) (work : ℕ) → work_for d b.n ≤ work → ltb work (work_for d (rank u b.n)) ≡ ltb work (work_for d b.n)
  shut_work d work h =
      le-ltb work (work_for d (rank u b.n)) (omega (arith, work_mono d (rank u b.n) b.n (rank_le u b.n), h)) ∙ sym (le-ltb work (work_for d b.n) h)

  shut_pairs_answer : (d : Engine) (v : Verdict) (work room : ℕ) → work_for d b.n ≤ work
      → pairs_answer d shut v work room ≡ renamed_outcome (rank u) (pairs_answer d b v work room)
  unfolding pairs_answer pairs_causes renamed_outcome
  shut_pairs_answer d v work room h =
      ap₂ (λ (t : Bool) (l : List ℕ). unless (first_number (verdict_cause v ++ ((short_work, t) ∷ []))) (paired (length l) (take room l)))
      (shut_work d work h) (shut_pairs_of v)
      ∙ ap₂ (λ (k : ℕ) (l : List ℕ). unless (first_number (pairs_causes d b v work)) (paired k l))
      (length-map (renamed_pair (rank u)) (pairs_of b v)) (take-map (renamed_pair (rank u)) room (pairs_of b v))
      ∙ renamed_unless (rank u) (first_number (pairs_causes d b v work)) (paired (length (pairs_of b v)) (take room (pairs_of b v)))

  -- ---- chains
  module _ (x y : ℕ) (p : u x ≡ true) (q : u y ≡ true) where
    old_used : (z : ℕ) → u z ≡ true → (asked b).in_use z ≡ true
    unfolding asked
    old_used z e = e

    shut_reply : (v : Verdict) (t : Reply) → ReplyTo (asked b) v x y t → ReplyTo (asked shut) v (rank u x) (rank u y) (renamed_reply (rank u) t)
    shut_reply v t r e d =
        reply_renamed (rank u) (nth u b.n) (asked b) (asked shut) shut_renames before_inside
        shut_inside before_small shut_small e x y (old_used x p) (old_used y q) t (r e d)

    shut_none : (e : Expr) → ChainIs (asked shut) e (rank u x) (rank u y) none → ChainIs (asked b) e x y none
    shut_none e n =
        none_back (rank u) (nth u b.n) (asked b) (asked shut) shut_renames before_inside
        shut_inside before_small shut_small e x y (old_used x p) (old_used y q) n

    no_record_none : (n i j : ℕ) → i < n → j < n → (leb n i || leb n j) ≡ false
    no_record_none n i j k l = rw (lt-leb n i k, lt-leb n j l)

    new_lt : (z : ℕ) → u z ≡ true → rank u z < rank u b.n
    new_lt z e = rank_less u z b.n e (used-below b.n b.sheet z e)

    old_lt : (z : ℕ) → u z ≡ true → z < b.n
    old_lt z e = used-below b.n b.sheet z e

    shut_chain_answer : (v : Verdict) (t : Reply) (work room : ℕ) → chain_work b.n ≤ work
        → chain_answer shut (rank u x) (rank u y) v (renamed_reply (rank u) t) work room ≡ renamed_outcome (rank u) (chain_answer b x y v t work room)
    unfolding chain_answer renamed_outcome
    shut_chain_answer v t work room h =
        ap (λ (k : ℕ). unless k (replied (renamed_reply (rank u) t))) causes_same
        ∙ renamed_unless (rank u) (first_number (chain_causes b x y v t work room)) (replied t)
      where
        enough : (n : ℕ) → n ≤ b.n → ltb work (chain_work n) ≡ false
        enough n l = le-ltb work (chain_work n) (omega (arith, h))

        causes_same : first_number (chain_causes shut (rank u x) (rank u y) v (renamed_reply (rank u) t) work room) ≡
            first_number (chain_causes b x y v t work room)
        causes_same = unfold chain_causes in (
            rw (
              no_record_none (rank u b.n) (rank u x) (rank u y) (new_lt x p) (new_lt y q),
              no_record_none b.n x y (old_lt x p) (old_lt y q),
              enough (rank u b.n) (rank_le u b.n),
              enough b.n (omega arith),
              steps_length (rank u) t,
            ))

-- ---- the theorems
module _ (b : Book) (o : Sound b) (room : ℕ) (a : answer b (close room) ≡ 0) where
  closed_is : next b (close room) ≡ shut b o
  unfolding answer next closed
  closed_is = ap (λ (k : ℕ). closed k b) a

  pub closing_pairs : (d : Engine) (v : Verdict) (work list : ℕ) → work_for d b.n ≤ work
      → pairs_answer d (next b (close room)) v work list ≡ renamed_outcome (new_number b) (pairs_answer d b v work list)
  closing_pairs d v work list h = ap (λ (c : Book). pairs_answer d c v work list) closed_is ∙ shut_pairs_answer b o d v work list h

  module _ (x y : ℕ) (p : used b.n b.sheet x ≡ true) (q : used b.n b.sheet y ≡ true) where
    pub closing_chain : (v : Verdict) (t : Reply) (work list : ℕ) → chain_work b.n ≤ work → ReplyTo (asked b) v x y t
        → ReplyTo (asked (next b (close room))) v (new_number b x) (new_number b y) (renamed_reply (new_number b) t)
        × (chain_answer (next b (close room)) (new_number b x) (new_number b y) v (renamed_reply (new_number b) t) work list
        ≡ renamed_outcome (new_number b) (chain_answer b x y v t work list))
    closing_chain v t work list h r = (
      subst (λ (c : Book). ReplyTo (asked c) v (new_number b x) (new_number b y) (renamed_reply (new_number b) t)) (sym closed_is)
          (shut_reply b o x y p q v t r),
      ap (λ (c : Book). chain_answer c (new_number b x) (new_number b y) v (renamed_reply (new_number b) t) work list) closed_is
          ∙ shut_chain_answer b o x y p q v t work list h,
    )

    -- the same of the one expression that an accepted text is
    same_none : {e : Expr} → ChainIs (asked b) e x y none → ReplyTo (asked b) (accepted e) x y none
    same_none {e} n f d = let k : e ≡ f = cc in subst (λ (g : Expr). ChainIs (asked b) g x y none) k n

    pub closing_none : (e : Expr) → ChainIs (asked b) e x y none ↔ ChainIs (asked (next b (close room))) e (new_number b x) (new_number b y) none
    unfolding renamed_reply
    closing_none e = (
      λ n. subst (λ (c : Book). ChainIs (asked c) e (new_number b x) (new_number b y) none)
          (sym closed_is) (shut_reply b o x y p q (accepted e) none (same_none n) e refl),
      λ n. shut_none b o x y p q e (subst (λ (c : Book). ChainIs (asked c) e (new_number b x) (new_number b y) none) closed_is n),
    )
