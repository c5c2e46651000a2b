-- Laws of questions that count, and of the pair questions of both engines.
--   asks_refused    a question whose outcome is a refusal with the number of a cause
--   asks_listed     one whose outcome is how many there are, and the first of them, as many as the list takes
--   faulty_caused   a verdict's number is a cause's
--   outcome_faulty, outcome_short, outcome_paired
--                   the outcome of a pair question by either engine: the verdict's number; 12; how many pairs there are, and the first of them
--   asks_faulty, asks_short, asks_pairs
--                   so it promises of any register
--   tells_same      equal outcomes are told alike
--   engines_outcome with both works enough both engines have the same outcome
--   engines_same    asked of a register that represents a book, with both works enough: both give the same answer and the same list
--   Asked, asked_enough
--                   what is so where a pair question is not refused
--   relation_refused, relation_few, relation_paired
--                   the outcome of the relation as rows: refused as the pair question is; 12 for the rows; how many pairs there are
--   relates_refused, relates_made
--                   so it promises of any register: refused, or the rows made
--   leaves_faulty, leaves_short, leaves_made
--                   the relation left where it was made: refused, or made
--   handed_tells    what is handed over is told by its outcome
--   whole_contained what is handed over whole is contained in its list
-- Assumes nothing.
use Rattle.std.proofs.Math.Path.{◌≡◌, refl, ap, subst}
use Rattle.std.proofs.Common.{sym, ◌∙◌, arith, take_at, drop_at}
use Rattle.std.specs.Prelude.{Bool, ◌||◌, List, [], ◌∷◌, ◌++◌, ℕ, zero, suc, ◌≤◌, ◌<◌, length, take}
use Rattle.std.proofs.Math.Bool.{true, false}
use Rattle.std.proofs.Math.Decide.{dec_lt}
use Rattle.std.proofs.Math.ListN.{drop}
use Rattle.std.proofs.Math.Dec.{ltb}
use borrow.Author.Tests.{lt-ltb, le-ltb}
use Rattle.book.specs.Basics.{pick, over}
use Rattle.book.specs.Causes.{short_work, short_list, number, Caused, first_number}
use Rattle.book.specs.Book.{Book}
use Rattle.answers.specs.Answers.{counted, answered, over_unless, Handed, Whole, Contained}
use Rattle.answers.specs.AnswerLaws.{contained_refused, contained_count}
use Rattle.answers.specs.ListingLaws.{shown_over, shown_past}
use Rattle.answers.specs.declared.Counted.{Counted}
use Rattle.answers.specs.declared.Counted.TheVariants.{Count, Refused}
use Rattle.k2.specs.Bits.{bit_at}
use Rattle.k2.specs.PairSets.{Cells}
use Rattle.paths.specs.Expressions.{Expr}
use Rattle.paths.specs.Grammar.{Verdict, accepted, long, outside, large, verdict_cause}
use Rattle.paths.specs.Chains.{asked}
use Rattle.paths.specs.Relations.{cells, pairs}
use Rattle.paths.proofs.PairLaws.{verdict_caused}
use Rattle.paths.specs.Questions.{Outcome, Engine, by_trees, refused, paired, pairs_work, work_for, pairs_of, pairs_causes, pairs_answer}
use Rattle.paths.specs.Questions.{unless, list_after, count_of, Tells}
use Rattle.paths.proofs.VerdictLaws.{accepted_same}
use Rattle.reader.specs.Reads.{read_answer}
use Rattle.reader.specs.declared.Answer.TheVariants.{Refused as Faulty}
use Rattle.register.specs.Representation.{Represents}
use Rattle.register.specs.declared.Register.{Register}
use Rattle.rows.specs.Rows.{flat}
use Rattle.query.specs.Asking.{Asks, AsksFor, max_pairs, row_words, relation_causes, relation_answer, RelatesFor}
use Rattle.query.specs.Leaving.{Leaves}

-- ---- any question that counts
module _ (most : ℕ) (r : Register) (o : Book → Outcome) (before : List ℕ) where
  pub asks_refused : (k : ℕ) → Caused k → ((b : Book) → Represents r b → o b ≡ refused k) → Asks most r o before before (Refused k)
  unfolding list_after count_of
  asks_refused k z f = record {
    contained = contained_refused most _ before before k z refl;
    book = λ b R. let e = f b R in record { answer = rw e refl; list = rw e refl };
  }

  pub asks_listed : (l after : List ℕ) (t : ℕ) → t ≡ length l → length l ≤ most → after ≡ take (length before) l ++ drop (length l) before
      → ((b : Book) → Represents r b → o b ≡ paired (length l) (take (length before) l)) → Asks most r o before after (Count t)
  unfolding list_after count_of counted
  asks_listed l after t e h q f = record {
    contained =
        contained_count most t before after t (rw e h)
        (ap (λ (i : ℕ). drop i after) e ∙ ap (drop (length l)) q ∙ shown_past l before ∙ ap (λ (i : ℕ). drop i before) (sym e));
    book = λ b R. let z = f b R in record { answer = rw (z, e) refl; list = rw z (q ∙ shown_over l before) };
  }

-- ---- the outcome of a pair question
pub faulty_caused : (v : Verdict) (k : ℕ) → read_answer v ≡ Faulty k → Caused k
unfolding read_answer verdict_cause first_number number
faulty_caused (accepted e) k q = absurd (let z : ◌≡◌ {A = ℕ} 0 1 = cc in omega arith)
faulty_caused long k q = let z : 10 ≡ k = cc in verdict_caused long k z (omega arith)
faulty_caused outside k q = let z : 9 ≡ k = cc in verdict_caused outside k z (omega arith)
faulty_caused large k q = let z : 10 ≡ k = cc in verdict_caused large k z (omega arith)

module _ (d : Engine) (b : Book) (work room : ℕ) where
  pub outcome_faulty : (v : Verdict) (k : ℕ) → read_answer v ≡ Faulty k → pairs_answer d b v work room ≡ refused k
  unfolding pairs_answer pairs_causes verdict_cause first_number number read_answer
  outcome_faulty (accepted e) k q = absurd (let z : ◌≡◌ {A = ℕ} 0 1 = cc in omega arith)
  outcome_faulty long k q = let z : 10 ≡ k = cc in ap refused z
  outcome_faulty outside k q = let z : 9 ≡ k = cc in ap refused z
  outcome_faulty large k q = let z : 10 ≡ k = cc in ap refused z

  pub outcome_short : (e : Expr) → work < work_for d b.n → pairs_answer d b (accepted e) work room ≡ refused 12
  unfolding pairs_answer pairs_causes verdict_cause first_number number
  outcome_short e h = rw (lt-ltb work (work_for d b.n) h)

  pub outcome_paired : (e : Expr) → work_for d b.n ≤ work
      → pairs_answer d b (accepted e) work room ≡ paired (length (pairs (asked b) e)) (take room (pairs (asked b) e))
  unfolding pairs_answer pairs_causes verdict_cause first_number number pairs_of
  outcome_paired e h = rw (le-ltb work (work_for d b.n) h)

-- ---- what it promises
module _ (d : Engine) (r : Register) (work : ℕ) (before : List ℕ) where
  pub asks_faulty : (v : Verdict) (k : ℕ) → read_answer v ≡ Faulty k → AsksFor d r v work before before (Refused k)
  asks_faulty v k e = asks_refused max_pairs r _ before k (faulty_caused v k e) (λ b R. outcome_faulty d b work (length before) v k e)

  module _ {v : Verdict} (e : Expr) (is : v ≡ accepted e) (n : ℕ) (size : (b : Book) → Represents r b → n ≡ b.n) where
    pub asks_short : work < work_for d n → AsksFor d r v work before before (Refused 12)
    unfolding number
    asks_short h =
        subst (λ (w : Verdict). AsksFor d r w work before before (Refused 12)) (sym is) (asks_refused max_pairs r _ before 12 (short_work, refl)
        (λ b R. outcome_short d b work (length before) e (subst (λ (i : ℕ). work < work_for d i) (size b R) h)))

    pub asks_pairs : work_for d n ≤ work → (l after : List ℕ) (t : ℕ) → t ≡ length l → length l ≤ max_pairs
        → after ≡ take (length before) l ++ drop (length l) before
        → ((b : Book) → Represents r b → l ≡ pairs (asked b) e) → AsksFor d r v work before after (Count t)
    asks_pairs h l after t q few written value =
        subst (λ (w : Verdict). AsksFor d r w work before after (Count t)) (sym is) (asks_listed max_pairs r _ before l after t q few written
        (λ b R. outcome_paired d b work (length before) e (subst (λ (i : ℕ). work_for d i ≤ work) (size b R) h)
        ∙ ap (λ (x : List ℕ). paired (length x) (take (length before) x)) (sym (value b R))))

-- ---- both engines
-- equal outcomes are told alike
pub tells_same : {o o' : Outcome} {before after after' : List ℕ} {a a' : Counted} → o ≡ o' → Tells o before after a → Tells o' before after' a'
    → (a ≡ a') × (after ≡ after')
tells_same {before = before} e t t' =
    (t.answer ∙ ap count_of e ∙ sym t'.answer, t.list ∙ ap (λ (x : Outcome). list_after x before) e ∙ sym t'.list)

module _ (d d' : Engine) (b : Book) (work work' : ℕ) (h : work_for d b.n ≤ work) (h' : work_for d' b.n ≤ work') where
  pub engines_outcome : (v : Verdict) (room : ℕ) → pairs_answer d b v work room ≡ pairs_answer d' b v work' room
  unfolding pairs_answer pairs_causes verdict_cause
  engines_outcome v room = rw (le-ltb work (work_for d b.n) h, le-ltb work' (work_for d' b.n) h')

  pub engines_same : (r : Register) (v : Verdict) (before after after' : List ℕ) (a a' : Counted) → Represents r b
      → AsksFor d r v work before after a → AsksFor d' r v work' before after' a' → (a ≡ a') × (after ≡ after')
  engines_same r v before after after' a a' R A A' = tells_same (engines_outcome v (length before)) (A.book b R) (A'.book b R)

-- ---- where a pair question has no cause against it, the text is an expression and the work enough
pub record Asked (b : Book) (v : Verdict) (work : ℕ) : Type 0 where
  pub syntax : Expr
  pub is : v ≡ accepted syntax
  pub enough : pairs_work b.n ≤ work

pub asked_enough : (b : Book) (v : Verdict) (work : ℕ) → first_number (pairs_causes by_trees b v work) ≡ 0 → Asked b v work
unfolding pairs_causes verdict_cause first_number number
asked_enough b (accepted e) work q = go (dec_lt work (pairs_work b.n))
  where
    go : Dec (work < pairs_work b.n) → Asked b (accepted e) work
    go (yes h) = absurd (let z : ◌≡◌ {A = ℕ} (pick (ltb work (pairs_work b.n)) 12 0) 12 = rw (lt-ltb work (pairs_work b.n) h) refl in omega (arith, q, z))
    go (no h) = record { syntax = e; is = refl; enough = omega arith }
asked_enough b long work q = absurd (let z : ◌≡◌ {A = ℕ} 10 0 = q in omega arith)
asked_enough b outside work q = absurd (let z : ◌≡◌ {A = ℕ} 9 0 = q in omega arith)
asked_enough b large work q = absurd (let z : ◌≡◌ {A = ℕ} 10 0 = q in omega arith)

-- ---- the relation as rows
module _ (b : Book) (work rows : ℕ) where
  -- refused as the pair question is
  pub relation_refused : (v : Verdict) (k : ℕ) → k ≡ first_number (pairs_causes by_trees b v work) → 0 < k → relation_answer b v work rows ≡ refused k
  unfolding relation_answer relation_causes pairs_causes verdict_cause first_number number
  relation_refused (accepted e) k q h = go (ltb work (pairs_work b.n)) q
    where
      go : (t : Bool) → k ≡ first_number ((short_work, t) ∷ [])
          → unless (first_number ((short_work, t || ltb rows row_words) ∷ [])) (paired (length (pairs_of b (accepted e))) (pairs_of b (accepted e))) ≡ refused k
      go true q = ap refused (sym q)
      go false q = absurd (omega arith)
  relation_refused long k q h = ap refused (sym q)
  relation_refused outside k q h = ap refused (sym q)
  relation_refused large k q h = ap refused (sym q)

  module _ (e : Expr) (h : pairs_work b.n ≤ work) where
    pub relation_few : rows < row_words → relation_answer b (accepted e) work rows ≡ refused 12
    unfolding relation_answer relation_causes verdict_cause first_number number
    relation_few l = rw (le-ltb work (pairs_work b.n) h, lt-ltb rows row_words l)

    relation_paired : row_words ≤ rows → relation_answer b (accepted e) work rows ≡ paired (length (pairs (asked b) e)) (pairs (asked b) e)
    unfolding relation_answer relation_causes verdict_cause first_number number pairs_of
    relation_paired l = rw (le-ltb work (pairs_work b.n) h, le-ltb rows row_words l)

module _ (r : Register) (v : Verdict) (work : ℕ) (before : List ℕ) where
  pub relates_refused : (k : ℕ) → Caused k → ((b : Book) → Represents r b → relation_answer b v work (length before) ≡ refused k)
      → RelatesFor r v work before before (Refused k)
  unfolding count_of
  relates_refused k z f = record {
    contained = contained_refused max_pairs row_words before before k z refl;
    book = λ b R. record { answer = ap count_of (sym (f b R)); rows = λ e s i q. absurd (let y : ◌≡◌ {A = ℕ} 0 1 = cc in omega arith) };
  }

  -- the rows of an expression, and how many pairs it has, in the first words of a list
  pub relates_made : (t : ℕ) (part : List ℕ) → (asks : (b : Book) → Represents r b → Asked b v work)
      → row_words ≤ length before → length part ≡ row_words → t ≤ max_pairs
      → ((b : Book) (R : Represents r b) → (bit_at part ≡ flat (cells (asked b) (asks b R).syntax)) × (t ≡ length (pairs (asked b) (asks b R).syntax)))
      → RelatesFor r v work before (part ++ drop row_words before) (Count t)
  unfolding count_of counted
  relates_made t part asks l wide few made = record {
    contained = contained_count max_pairs row_words before (part ++ drop row_words before) t few (drop_at part (drop row_words before) row_words wide);
    book = λ b R.
        let m = made b R in
        let e = (asks b R).syntax in
        let o : relation_answer b v work (length before) ≡ paired (length (pairs (asked b) e)) (pairs (asked b) e) =
        ap (λ (x : Verdict). relation_answer b x work (length before)) (asks b R).is ∙ relation_paired b work (length before) e (asks b R).enough l in
        record {
          answer = ap Count m.1 ∙ ap count_of (sym o);
          rows =
              λ f q i p. let y : e ≡ f = accepted_same (sym (asks b R).is ∙ q) in
              ap bit_at (take_at part (drop row_words before) row_words wide) ∙ m.0 ∙ ap (λ (x : Expr). flat (cells (asked b) x)) y;
        };
  }

-- ---- the relation left where it was made
module _ (b : Book) (work : ℕ) where
  number_faulty : (v : Verdict) (k : ℕ) → read_answer v ≡ Faulty k → Refused k ≡ answered (first_number (pairs_causes by_trees b v work)) b.n
  unfolding pairs_causes verdict_cause first_number number read_answer answered
  number_faulty (accepted e) k q = absurd (let z : ◌≡◌ {A = ℕ} 0 1 = cc in omega arith)
  number_faulty long k q = let z : 10 ≡ k = cc in ap Refused (sym z)
  number_faulty outside k q = let z : 9 ≡ k = cc in ap Refused (sym z)
  number_faulty large k q = let z : 10 ≡ k = cc in ap Refused (sym z)

  number_short : (e : Expr) → work < pairs_work b.n → Refused 12 ≡ answered (first_number (pairs_causes by_trees b (accepted e) work)) b.n
  unfolding pairs_causes verdict_cause first_number number answered
  number_short e h = rw (lt-ltb work (pairs_work b.n) h) refl

  number_none : (e : Expr) → pairs_work b.n ≤ work → Count b.n ≡ answered (first_number (pairs_causes by_trees b (accepted e) work)) b.n
  unfolding pairs_causes verdict_cause first_number number answered
  number_none e h = rw (le-ltb work (pairs_work b.n) h) refl

module _ (known : Book → Type 0) (v : Verdict) (work : ℕ) (left : ℕ → Cells) where
  leaves_refused : (k : ℕ) → Caused k → ((b : Book) → known b → Refused k ≡ answered (first_number (pairs_causes by_trees b v work)) b.n)
      → Leaves known v work left (Refused k)
  leaves_refused k z f = record {
    caused = λ j q. let y : k ≡ j = cc in subst Caused y z;
    book = λ b R. record { answer = f b R; value = λ e s n q. absurd (let y : ◌≡◌ {A = ℕ} 0 1 = cc in omega arith) };
  }

  pub leaves_faulty : (k : ℕ) → read_answer v ≡ Faulty k → Leaves known v work left (Refused k)
  leaves_faulty k e = leaves_refused k (faulty_caused v k e) (λ b R. number_faulty b work v k e)

  module _ (e : Expr) (is : v ≡ accepted e) (n : ℕ) (size : (b : Book) → known b → n ≡ b.n) where
    pub leaves_short : work < pairs_work n → Leaves known v work left (Refused 12)
    unfolding number
    leaves_short h =
        leaves_refused 12 (short_work, refl) (λ b R. number_short b work e (subst (λ (i : ℕ). work < pairs_work i) (size b R) h)
        ∙ ap (λ (w : Verdict). answered (first_number (pairs_causes by_trees b w work)) b.n) (sym is))

    pub leaves_made : pairs_work n ≤ work → ((b : Book) → known b → left n ≡ cells (asked b) e) → Leaves known v work left (Count n)
    leaves_made h made = record {
      caused = λ j q. absurd (let y : ◌≡◌ {A = ℕ} 0 1 = cc in omega arith);
      book = λ b R. record {
        answer = ap Count (size b R) ∙ number_none b work e (subst (λ (i : ℕ). pairs_work i ≤ work) (size b R) h)
            ∙ ap (λ (w : Verdict). answered (first_number (pairs_causes by_trees b w work)) b.n) (sym is);
        value = λ f q m s.
            let y : e ≡ f = accepted_same (sym is ∙ q) in
            let z : n ≡ m = cc in
            ap left (sym z) ∙ made b R ∙ ap (λ (x : Expr). cells (asked b) x) y;
      };
    }

pub handed_tells : (k : ℕ) {xs ws before after : List ℕ} {a : Counted} → Handed k xs ws before after a → Tells (unless k (paired (length xs) ws)) before after a
unfolding answered over_unless count_of list_after
handed_tells zero H = record { answer = H.answer; list = H.list }
handed_tells (suc k) H = record { answer = H.answer; list = H.list }

pub whole_contained : {xs before after : List ℕ} {a : Counted} → Whole xs before after a → Contained (length before) (counted a) before after a
unfolding answered over_unless counted first_number number
whole_contained {xs} {before} {after} {a} W = go (dec_lt (length before) (length xs))
  where
    go : Dec (length before < length xs) → Contained (length before) (counted a) before after a
    go (yes h) =
        let k : ◌≡◌ {A = ℕ} (pick (ltb (length before) (length xs)) 13 0) 13 = rw (lt-ltb (length before) (length xs) h) refl in
        let e : a ≡ Refused 13 = W.answer ∙ ap (λ (j : ℕ). answered j (length xs)) k in
        let l : after ≡ before = W.list ∙ ap (λ (j : ℕ). over_unless j xs before) k in
        subst (λ (c : Counted). Contained (length before) (counted c) before after c) (sym e)
        (contained_refused (length before) 0 before after 13 (short_list, refl) l)
    go (no h) =
        let k : ◌≡◌ {A = ℕ} (pick (ltb (length before) (length xs)) 13 0) 0 = rw (le-ltb (length before) (length xs) (omega arith)) refl in
        let e : a ≡ Count (length xs) = W.answer ∙ ap (λ (j : ℕ). answered j (length xs)) k in
        let l : after ≡ over xs before = W.list ∙ ap (λ (j : ℕ). over_unless j xs before) k in
        subst (λ (c : Counted). Contained (length before) (counted c) before after c) (sym e)
        (contained_count (length before) (length xs) before after (length xs) (omega arith)
        (ap (drop (length xs)) l ∙ drop_at xs (drop (length xs) before) (length xs) refl))
