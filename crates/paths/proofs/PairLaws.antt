-- The computed list of pairs is the answer of a pair question, and no other list is. Other laws here say what the graph of a book after a history is.
--   pairs_are       pairs g e ascends, and its members are exactly the words of the pairs that have a chain
--   pairs_only      no other list is so
--   first_part      of an ascending list, every word of the first part is smaller than every other
--   long_enough     with room for all pairs, the answer of a pair question has them all
--   withdrawn_out, in_use
--                   a withdrawn record is not in use, and one below n that is not withdrawn is
--   fit_inside, history_inside, history_small
--                   after every history the links lie between records in use, and n is at most 1,024
--   withdrawn_none, none_withdrawn
--                   a chain question from a withdrawn record gives none, also to itself; and one to it
--   text_in_order   the verdict's cause, and then the two of lent space
--   pairs_in_order, chain_in_order
--                   the causes against a question stand in the order of S6.7
--   verdict_caused  the number of a faulty text is that of a cause
-- Assumes nothing.
use Rattle.std.specs.Prelude.{◌≡◌, refl, List, [], ◌∷◌, ◌++◌, Bool, true, false, not, ◌&&◌, ℕ, zero, suc, ◌≤◌, ◌<◌, length, take, ltb}
use Rattle.std.proofs.Common.{sym, ap, ◌∙◌, arith, take_all, ltb-true, lt-ltb}
use Rattle.std.proofs.lemmas.Bool.{false≢true}
use Rattle.book.specs.Basics.{In, here, there, Rises, rises}
use Rattle.book.specs.Causes.{no_expression, too_many_bytes, too_large, short_work, short_list, number, Caused, first_number}
use Rattle.book.specs.CauseOrders.{question_order, InOrder, none_left}
use Rattle.book.specs.CauseOrders.{same_cause, passed_over}
use Rattle.book.specs.Book.{Book, is_withdrawn, Call, fresh, after}
use Rattle.book.proofs.ListLaws.{in_none, rises_least, rises_same}
use Rattle.book.proofs.SetLaws.{and_both}
use Rattle.book.specs.Sheets.{Fit}
use Rattle.book.proofs.BookLaws.{fresh_sound, after_sound}
use Rattle.k2.specs.PairSetLaws.{in_listed, listed_in, listed_rises}
use Rattle.paths.specs.Expressions.{Expr}
use Rattle.paths.specs.Grammar.{Verdict, accepted, long, outside, large, verdict_cause}
use Rattle.paths.specs.Chains.{Graph, asked, Reply, none, ChainIs, no_chain}
use Rattle.paths.specs.Relations.{cells, PairsAre, pairs}
use Rattle.paths.specs.Questions.{Engine, paired, unless, chain_work, pairs_of, pairs_causes, pairs_answer, steps, chain_causes}
use Rattle.paths.specs.Inside.{Inside}
use Rattle.paths.proofs.RelationLaws.{cells_has}

module _ (g : Graph) (I : Inside g) (s : g.n ≤ 1024) (e : Expr) where
  pub pairs_are : PairsAre g e (pairs g e)
  unfolding pairs
  pairs_are = record {
    ascending = listed_rises g.n (cells g e) s;
    sound = λ w h. let r = in_listed g.n (cells g e) h in (r.0, r.1, r.5, (cells_has g I e r.0 r.1).0 r.4);
    whole = λ x y h. listed_in g.n (cells g e) x y (I.below x h.1.begins) (I.below y h.1.ends) ((cells_has g I e x y).1 h);
  }

  pub pairs_only : (l : List ℕ) → PairsAre g e l → l ≡ pairs g e
  pairs_only l p =
      let q = pairs_are in
      rises_same l (pairs g e) p.ascending q.ascending
      (λ w h. let r = p.sound w h in rw r.2 (q.whole r.0 r.1 r.3))
      (λ w h. let r = q.sound w h in rw r.2 (p.whole r.0 r.1 r.3))

-- ---- the first part of the pairs
first_from : (m k w v : ℕ) (l : List ℕ) → Rises m l → In w (take k l) → In v l → (In v (take k l) → ⊥) → w < v
first_from m (suc k) w v [] r i j n = elim i [ ]
first_from m zero w v l r i j n = absurd (in_none i refl)
first_from m (suc k) w v (x ∷ l) (rises h r) i here n = absurd (n here)
first_from m (suc k) w v (x ∷ l) (rises h r) here (there j) n = rises_least r j
first_from m (suc k) w v (x ∷ l) (rises h r) (there i) (there j) n = first_from (suc x) k w v l r i j (λ q. n (there q))

pub first_part : (k w v : ℕ) (l : List ℕ) → Rises 0 l → In w (take k l) → In v l → (In v (take k l) → ⊥) → w < v
first_part k w v l = first_from 0 k w v l

pub long_enough : (d : Engine) (b : Book) (v : Verdict) (work room : ℕ) → length (pairs_of b v) ≤ room
    → pairs_answer d b v work room ≡ unless (first_number (pairs_causes d b v work)) (paired (length (pairs_of b v)) (pairs_of b v))
unfolding pairs_answer
long_enough d b v work room h =
    ap (λ (ws : List ℕ). unless (first_number (pairs_causes d b v work)) (paired (length (pairs_of b v)) ws)) (take_all room (pairs_of b v) h)

-- ---- the graph of a book
pub withdrawn_out : (b : Book) (x : ℕ) → is_withdrawn b.sheet x ≡ true → (asked b).in_use x ≡ false
unfolding asked
withdrawn_out b x w = ap (λ (t : Bool). ltb x b.n && not t) w ∙ and-false (ltb x b.n)
  where
    and-false : (t : Bool) → (t && false) ≡ false
    and-false true = refl
    and-false false = refl

pub in_use : (b : Book) (x : ℕ) → x < b.n → is_withdrawn b.sheet x ≡ false → (asked b).in_use x ≡ true
unfolding asked
in_use b x h w = rw (lt-ltb x b.n h, w)

pub fit_inside : (b : Book) → Fit b.n b.sheet → Inside (asked b)
unfolding asked
fit_inside b f = record {
  below = λ x u. ltb-true x b.n (and_both (ltb x b.n) (not (is_withdrawn b.sheet x)) u).0;
  from = λ k p. in_use b k.from (f.links k p).from (f.ends k p).0;
  to = λ k p. in_use b k.to (f.links k p).to (f.ends k p).1;
  label = λ k p. (f.links k p).label;
}

pub history_inside : (n : ℕ) → n ≤ 1024 → (cs : List Call) → Inside (asked (after (fresh n) cs))
history_inside n h cs = fit_inside (after (fresh n) cs) (after_sound (fresh n) cs (fresh_sound n h)).sheet

pub history_small : (n : ℕ) → n ≤ 1024 → (cs : List Call) → (asked (after (fresh n) cs)).n ≤ 1024
unfolding asked
history_small n h cs = (after_sound (fresh n) cs (fresh_sound n h)).small

pub withdrawn_none : (b : Book) (e : Expr) (x y : ℕ) → is_withdrawn b.sheet x ≡ true → ChainIs (asked b) e x y none
withdrawn_none b e x y w = no_chain (λ ss a. false≢true (sym (withdrawn_out b x w) ∙ a.begins))

pub none_withdrawn : (b : Book) (e : Expr) (x y : ℕ) → is_withdrawn b.sheet y ≡ true → ChainIs (asked b) e x y none
none_withdrawn b e x y w = no_chain (λ ss a. false≢true (sym (withdrawn_out b y w) ∙ a.ends))

-- ---- the order of causes
-- the verdict's cause, and then the two of lent space
pub text_in_order : (v : Verdict) (t u : Bool)
    → InOrder (verdict_cause v ++ ((short_work, t) ∷ (short_list, u) ∷ [])) (too_many_bytes ∷ no_expression ∷ too_large ∷ short_work ∷ short_list ∷ [])
unfolding verdict_cause
text_in_order (accepted e) t u = passed_over (passed_over (passed_over (same_cause (same_cause none_left))))
text_in_order long t u = same_cause (passed_over (passed_over (same_cause (same_cause none_left))))
text_in_order outside t u = passed_over (same_cause (passed_over (same_cause (same_cause none_left))))
text_in_order large t u = passed_over (passed_over (same_cause (same_cause (same_cause none_left))))

pub pairs_in_order : (d : Engine) (b : Book) (v : Verdict) (work : ℕ) → InOrder (pairs_causes d b v work) question_order
unfolding pairs_causes verdict_cause question_order
pairs_in_order d b (accepted e) work = passed_over (passed_over (passed_over (passed_over (same_cause none_left))))
pairs_in_order d b long work = passed_over (same_cause (passed_over (passed_over (same_cause none_left))))
pairs_in_order d b outside work = passed_over (passed_over (same_cause (passed_over (same_cause none_left))))
pairs_in_order d b large work = passed_over (passed_over (passed_over (same_cause (same_cause none_left))))

pub chain_in_order : (b : Book) (x y : ℕ) (v : Verdict) (t : Reply) (work room : ℕ) → InOrder (chain_causes b x y v t work room) question_order
unfolding chain_causes question_order
chain_in_order b x y v t work room = same_cause (text_in_order v (ltb work (chain_work b.n)) (ltb room (length (steps t))))

pub verdict_caused : (v : Verdict) (k : ℕ) → first_number (verdict_cause v) ≡ k → 0 < k → Caused k
unfolding first_number number verdict_cause
verdict_caused (accepted e) k q h = absurd (omega arith)
verdict_caused long k q h = (too_many_bytes, sym q)
verdict_caused outside k q h = (no_expression, sym q)
verdict_caused large k q h = (too_large, sym q)
