-- From what the inner functions give to the answer, and to the promise.
--   numbers_are, loop_is  the answer: the numbers of the depths, or the first loop of the smallest record that returns
--   label_first, work_next, list_last, told
--                         the outcome, by the first cause: 3, 12, 13, or what was found
--   refuses, tells_numbers
--                         a refusal keeps the promise, and so do numbers written to the list
--   loop_told, tells_loop
--                         the outcome of a loop, by the room for it; and its promise
--   loop_answer, looped    the answer by that of the chain question that finds the loop, and that it is the loop
--   book_numbers, book_loop
--                         both answers, from the depths and rows that are made of a register
-- Assumes nothing.
use mathlib.Core.Path.{◌≡◌, refl, sym, ap, ◌∙◌, subst}
use mathlib.Core.List.{List, [], ◌∷◌, ◌++◌, append-nil}
use mathlib.Core.Bool.{Bool, true, false}
use Prim.Native.Nat.{ℕ, zero, suc, ◌+◌, ◌-◌, ◌*◌, ◌<◌, ◌≤◌}
use native.Mathlib.Omega.{arith}
use native.Mathlib.Decide.{dec_lt}
use lib.Dec.{ltb}
use lib.ListN.{length, get_or, take, drop}
use lib.Seq.{take_at, drop_at}
use borrow.Author.Tests.{le-ltb, lt-ltb, lt-leb, ltb-true, ltb-false}
use Rattle.book.specs.Basics.{pick}
use Rattle.book.specs.Causes.{not_open, number, Caused, first_number}
use Rattle.book.specs.Book.{Book, is_withdrawn}
use Rattle.book.specs.Sheets.{Fit}
use Rattle.paths.specs.Expressions.{Expr}
use Rattle.paths.specs.Grammar.{Verdict, accepted, verdict_cause}
use Rattle.paths.specs.Verdicts.{verdict}
use Rattle.paths.specs.Chains.{asked, Step, step_words, chain, ChainIs, first_chain}
use Rattle.paths.specs.Inside.{Inside}
use Rattle.paths.proofs.PairLaws.{fit_inside, withdrawn_out, in_use as record-in-use}
use Rattle.paths.proofs.FirstChainLaws.{has_first}
use Rattle.paths.specs.Questions.{chain_work, steps, chain_causes, chain_answer, over}
use Rattle.paths.specs.Questions as questions
use Rattle.k2.specs.Bits.{digit}
use Rattle.k2.specs.PairSets.{IsSet}
use Rattle.register.specs.declared.Register.{Register}
use Rattle.links.specs.Links.{Linked}
use Rattle.register.specs.Marks.{has_mark, withdrawn_mark}
use Rattle.register.specs.MarkLaws.{listed_withdrawn}
use Rattle.register.specs.Representation.{Represents}
use Rattle.register.specs.Questions.{Sized, MarkList}
use Rattle.rows.specs.Rows.{places}
use Rattle.rows.specs.RowSets.{labelled, crossed_words}
use Rattle.answers.specs.Answers.{counted, Contained}
use Rattle.answers.specs.AnswerLaws.{contained_refused, contained_count}
use Rattle.answers.specs.Written.{written as text-written, Wrote}
use Rattle.chains.specs.declared.ChainAnswer.{ChainAnswer}
use Rattle.chains.specs.declared.ChainAnswer.TheVariants.{Chain, NoChain, Refused as ChainRefused}
use Rattle.chains.specs.Replies.{outcome_of as replyOf, chain_counted, Replies}
use Rattle.generations.specs.Generations.{Longest, Returns, FirstLoop, Numbered, no_record, not_in_use, in_use, Outcome, refused, numbers, loop}
use Rattle.generations.specs.Generations.{GenerationsAre, no_loop, first_loop, above, argument_causes}
use Rattle.generations.specs.Generations.{OutcomeIs, not_asked, short, answered, written}
use Rattle.generations.specs.GenerationsLaws.{returns_longer}
use Rattle.generations.specs.LoopLaws.{loop_expr, loop_in_use, loop_answers, loop_is_first, first_is_loop, loop_labels, set_verdict}
use Rattle.generations.specs.Inner.{Contains, Right, Leads, chosen, Smallest, Closed, loop_text}
use Rattle.generations.specs.Generating.{outcome_of, generations_counted, Generates}
use Rattle.generations.specs.Inner.{unless, loop_outcome, Looped}
use Rattle.generations.specs.declared.GenerationsAnswer.{GenerationsAnswer}
use Rattle.generations.specs.declared.GenerationsAnswer.TheVariants.{Numbers, Loop, Refused}
use Rattle.generations.proofs.RunLaws.{top_longest, leads_returns, links_set, closed_returns, returns_closed}

-- ---- the answer
module _ (b : Book) (F : Fit b.n b.sheet) (small : b.n ≤ 1024) (ws : List ℕ) (L : Linked ws b.sheet) (m : ℕ) (ls : List ℕ) (C : Contains m ls) where
  inside : Inside (asked b)
  inside = fit_inside b F

  -- a record that returns is below n
  returns_below : (x : ℕ) → Returns (asked b) ls x → x < b.n
  unfolding asked
  returns_below x r = inside.below x (loop_in_use (asked b) inside m ls C r.1.chain r.1.some)

  module _ (ds : List ℕ) (R : Right (labelled m ws) ds) (done : (y : ℕ) → y < b.n → 1 < get_or ds y 0) where
    longest : (y : ℕ) → y < b.n → Longest (asked b) ls y (get_or ds y 0 - 2)
    longest y h = top_longest b F small ws L m ls C (R y (get_or ds y 0 - 2) (let z = done y h in omega arith))

    numbered : (ms : List ℕ) → ((y : ℕ) → has_mark withdrawn_mark ms y ≡ is_withdrawn b.sheet y) → (y : ℕ) → y ≤ b.n → Numbered (asked b) ls y (chosen ms ds y)
    unfolding chosen
    numbered ms M zero h = no_record
    numbered ms M (suc y) h = go (has_mark withdrawn_mark ms y) refl (numbered ms M y (omega arith))
      where
        go : (t : Bool) → has_mark withdrawn_mark ms y ≡ t → Numbered (asked b) ls y (chosen ms ds y)
            → Numbered (asked b) ls (suc y) (chosen ms ds y ++ pick t [] ((get_or ds y 0 - 2) ∷ []))
        go true e i =
            subst (λ (l : List ℕ). Numbered (asked b) ls (suc y) l) (sym (append-nil (chosen ms ds y))) (not_in_use (withdrawn_out b y (sym (M y) ∙ e)) i)
        go false e i = in_use (record-in-use b y (omega arith) (sym (M y) ∙ e)) (longest y (omega arith)) i

    pub numbers_are : (ms : List ℕ) → ((y : ℕ) → has_mark withdrawn_mark ms y ≡ is_withdrawn b.sheet y)
        → GenerationsAre (asked b) ls (numbers (chosen ms ds b.n))
    unfolding asked
    numbers_are ms M = no_loop (λ x r. returns_longer r (get_or ds x 0 - 2) (longest x (returns_below x r))) (numbered ms M b.n (omega arith))

  -- the smallest record of the closure is the smallest that returns, and has a first loop
  pub loop_is : {r : ℕ} → ((z : ℕ) × Leads (labelled m ws) z z) → Smallest (Closed b.n (crossed_words ws m 0)) b.n r
      → (ss : List Step) × FirstLoop (asked b) ls r ss × GenerationsAre (asked b) ls (loop (step_words ss))
  loop_is {r} z s =
      let v = leads_returns b F small ws L m ls C z.1 in
      let h = returns_below z.0 v in
      let q = returns_closed b F small ws L m ls C z.0 v in
      let k : r < b.n = below (dec_lt r b.n) z.0 h q in
      let w = closed_returns b F small ws L m ls C r (s.holds k) in
      let t = loop_labels (asked b) inside m ls C w.1 in
      let f = has_first (asked b) inside (loop_expr t.0 t.1) r r (w.0, loop_answers (asked b) inside m ls C t.0 t.1 t.2 w.1) in
      let p = first_is_loop (asked b) inside m ls C t.0 t.1 t.2 f.1 in
      (f.0, p, first_loop (λ y l o. s.below y l (returns_closed b F small ws L m ls C y o)) p)
    where
      below : Dec (r < b.n) → (x : ℕ) → x < b.n → Closed b.n (crossed_words ws m 0) x → r < b.n
      below (yes k) x h q = k
      below (no k) x h q = absurd (s.below x (omega (arith, s.most)) q)

-- ---- the causes
module _ (b : Book) (ls : List ℕ) (work room : ℕ) where
  pub label_first : above ls ≡ true → OutcomeIs b ls work room (refused 3)
  unfolding argument_causes first_number number
  label_first e = not_asked {k = 2} (rw e refl)

  module _ (low : above ls ≡ false) where
    pub work_next : work < chain_work b.n → OutcomeIs b ls work room (refused 12)
    unfolding argument_causes first_number number
    work_next h = not_asked {k = 11} (rw (low, lt-ltb work (64 * b.n) h) refl)

    module _ (enough : chain_work b.n ≤ work) {o : Outcome} (G : GenerationsAre (asked b) ls o) where
      no_cause : first_number (argument_causes b ls work) ≡ 0
      unfolding argument_causes first_number number
      no_cause = rw (low, le-ltb work (64 * b.n) enough)

      pub list_last : room < length (written o) → OutcomeIs b ls work room (refused 13)
      unfolding number
      list_last h = short no_cause G h

      pub told : length (written o) ≤ room → OutcomeIs b ls work room o
      told h = answered no_cause G h

-- ---- the promise
-- a refusal
pub refuses : {self : Register} {ls : List ℕ} {work : ℕ} {list : List ℕ} (k : ℕ) → Caused k
    → ((b : Book) → Represents self b → OutcomeIs b ls work (length list) (refused k)) → Generates self ls work list list (Refused k)
unfolding outcome_of generations_counted counted written
refuses {list = list} k c h = record { contained = contained_refused (length list) 0 list list k c refl; book = λ b R. (h b R, refl) }

-- the words are in the list
over_taken : (ws l : List ℕ) → take (length ws) (over ws l) ≡ ws
over_taken ws l = take_at ws (drop (length ws) l) (length ws) refl

over_past : (ws l : List ℕ) → drop (length ws) (over ws l) ≡ drop (length ws) l
over_past ws l = drop_at ws (drop (length ws) l) (length ws) refl

pub tells_numbers : {self : Register} {ls : List ℕ} {work : ℕ} {list list' : List ℕ} {k : ℕ} (l : List ℕ) → Wrote 0 l list list' k
    → ((b : Book) → Represents self b → OutcomeIs b ls work (length list) (numbers l)) → Generates self ls work list list' (Numbers k)
unfolding outcome_of generations_counted counted written text-written
tells_numbers {self} {ls} {work} {list} {list'} {k} l w h =
    let e : k ≡ length l = (let z = w.place in omega arith) in
    let c : list' ≡ over l list = w.contents ∙ ap (λ (i : ℕ). l ++ drop i list) (let z : 0 + length l ≡ length l = omega arith in z) in
    let t : take k list' ≡ l = ap (λ (i : ℕ). take i list') e ∙ ap (take (length l)) c ∙ over_taken l list in
    record {
      contained =
          contained_count (length list) k list list' k w.fits
          (ap (λ (i : ℕ). drop i list') e ∙ ap (drop (length l)) c ∙ over_past l list ∙ ap (λ (i : ℕ). drop i list) (sym e));
      book = λ b R. (subst (OutcomeIs b ls work (length list)) (ap numbers (sym t)) (h b R), c ∙ ap (λ (v : List ℕ). over v list) (sym t));
    }

-- the loop's outcome
pub loop_told : (b : Book) (ls : List ℕ) (work room : ℕ) → above ls ≡ false → chain_work b.n ≤ work
    → (ws : List ℕ) → GenerationsAre (asked b) ls (loop ws) → OutcomeIs b ls work room (loop_outcome room ws)
unfolding first_number number written
loop_told b ls work room low enough ws G = go (ltb room (length ws)) refl
  where
    go : (t : Bool) → ltb room (length ws) ≡ t → OutcomeIs b ls work room (unless (pick t 13 0) (loop ws))
    go true e = list_last b ls work room low enough G (ltb-true room (length ws) e)
    go false e = told b ls work room low enough G (ltb-false room (length ws) e)

pub tells_loop : {self : Register} {ls : List ℕ} {m x work : ℕ} {list list' : List ℕ} {r : GenerationsAnswer}
    → Looped self m x work list list' r → above ls ≡ false → Contains m ls
    → ((b : Book) → Represents self b → (chain_work b.n ≤ work)
    × ((ss : List Step) × FirstLoop (asked b) ls x ss × GenerationsAre (asked b) ls (loop (step_words ss))))
    → Generates self ls work list list' r
tells_loop {self} {ls} {m} {x} {work} {list} {list'} {r} P low C h = record {
  contained = P.contained;
  book = λ b R.
      let z = h b R in
      let f = P.first b R z.0 ls C z.1.0 z.1.1 in
      (subst (OutcomeIs b ls work (length list)) (sym f.0) (loop_told b ls work (length list) low z.0 (step_words z.1.0) z.1.2), f.1);
}

-- ---- the chain question that finds the loop
-- the answer, by that of the chain question
abbrev pub loop_answer : ChainAnswer → GenerationsAnswer
loop_answer (Chain k) = Loop k
loop_answer NoChain = Refused 16
loop_answer (ChainRefused k) = Refused k

module _ (b : Book) (x : ℕ) (hx : x < b.n) (work room : ℕ) (enough : chain_work b.n ≤ work) (v : Verdict) (e : Expr) (a : v ≡ accepted e) (ws : List ℕ) where
  chain_told : (t : Bool) → ltb room (length ws) ≡ t → chain_answer b x x v (chain ws) work room ≡ questions.unless (pick t 13 0) (questions.replied (chain ws))
  unfolding chain_answer chain_causes first_number number verdict_cause steps
  chain_told t q = rw (a, lt-leb b.n x hx, le-ltb work (64 * b.n) enough, q)

  -- the answer that tells it, and the list
  told_loop : (t : Bool) (list list' : List ℕ) (r : ChainAnswer) → replyOf r list' ≡ questions.unless (pick t 13 0) (questions.replied (chain ws))
      → list' ≡ questions.list_after (questions.unless (pick t 13 0) (questions.replied (chain ws))) list
      → (outcome_of (loop_answer r) list' ≡ unless (pick t 13 0) (loop ws)) × (list' ≡ over (written (outcome_of (loop_answer r) list')) list)
  unfolding replyOf outcome_of written questions.list_after steps
  told_loop true list list' (Chain k) p q = absurd (let z : ◌≡◌ {A = ℕ} 0 1 = cc in omega arith)
  told_loop true list list' NoChain p q = absurd (let z : ◌≡◌ {A = ℕ} 0 1 = cc in omega arith)
  told_loop true list list' (ChainRefused k) p q = let z : k ≡ 13 = cc in (ap refused z, q)
  told_loop false list list' (Chain k) p q = let z : take k list' ≡ ws = cc in (ap loop z, q ∙ ap (λ (u : List ℕ). over u list) (sym z))
  told_loop false list list' NoChain p q = absurd (let z : ◌≡◌ {A = ℕ} 0 1 = cc in omega arith)
  told_loop false list list' (ChainRefused k) p q = absurd (let z : ◌≡◌ {A = ℕ} 0 1 = cc in omega arith)

contained_loop : {list list' : List ℕ} (r : ChainAnswer) → Contained (length list) (counted (chain_counted r)) list list' (chain_counted r)
    → Contained (length list) (counted (generations_counted (loop_answer r))) list list' (generations_counted (loop_answer r))
unfolding counted chain_counted generations_counted number
contained_loop (Chain k) c = c
contained_loop {list} {list'} NoChain c = contained_refused (length list) 0 list list' 16 (not_open, refl) c.past
contained_loop (ChainRefused k) c = c

-- a verdict accepts one expression
accepts_one : {v : Verdict} {d e : Expr} → v ≡ accepted d → v ≡ accepted e → d ≡ e
accepts_one {v} {d} {e} p q = let z : accepted d ≡ accepted e = sym p ∙ q in cc

below_n : (b : Book) (x : ℕ) → x < (asked b).n → x < b.n
unfolding asked
below_n b x h = h

-- 13, or the loop
room_outcome : (room : ℕ) (ws : List ℕ) → unless (pick (ltb room (length ws)) 13 0) (loop ws) ≡ loop_outcome room ws
unfolding first_number number
room_outcome room ws = refl

pub looped : {self : Register} {m x work : ℕ} {text list list' : List ℕ} {r : ChainAnswer}
    → Replies self x x text work list list' r → text ≡ loop_text (places (digit m) 26)
    → Looped self m x work list list' (loop_answer r)
looped {self} {m} {x} {work} {text} {list} {list'} {r} P e = record {
  contained = contained_loop r P.contained;
  first = one;
}
  where
    one : (b : Book) → Represents self b → chain_work b.n ≤ work → (ls : List ℕ) → Contains m ls → (ss : List Step) → FirstLoop (asked b) ls x ss
        → (outcome_of (loop_answer r) list' ≡ loop_outcome (length list) (step_words ss)) × (list' ≡ over (written (outcome_of (loop_answer r) list')) list)
    one b R enough ls C ss F =
        let I : Inside (asked b) = fit_inside b R.sheet.fit in
        let u = loop_in_use (asked b) I m ls C F.loop.chain F.loop.some in
        let hx : x < b.n = below_n b x (I.below x u) in
        let t = loop_labels (asked b) I m ls C F.loop in
        let d : Expr = loop_expr t.0 t.1 in
        let f = loop_is_first (asked b) I m ls C t.0 t.1 t.2 F in
        let a : verdict text ≡ accepted d = ap verdict e ∙ set_verdict (asked b) I m ls C t.0 t.1 t.2 in
        let z = P.answers b R (chain (step_words ss))
        (λ h q. subst (λ (i : Expr). ChainIs (asked b) i x x (chain (step_words ss))) (accepts_one a q) (first_chain ss f)) in
        let k = chain_told b x hx work (length list) enough (verdict text) d a (step_words ss) (ltb (length list) (length (step_words ss))) refl in
        let w = told_loop b x hx work (length list) enough (verdict text) d a (step_words ss) (ltb (length list) (length (step_words ss)))
        list list' r (z.0 ∙ k) (z.1 ∙ ap (λ (o : questions.Outcome). questions.list_after o list) k) in
        (w.0 ∙ room_outcome (length list) (step_words ss), w.1)

-- ---- of a register
module _ {self : Register} {n : ℕ} (S : Sized self n) (b : Book) (R : Represents self b)
    (ws : List ℕ) (L : Linked ws b.sheet) (m : ℕ) (ls : List ℕ) (C : Contains m ls) where
  few : b.n ≤ 1024
  few = let e = S.size b R in omega (arith, S.small)

  pub book_numbers : (ds : List ℕ) → Right (labelled m ws) ds → ((y : ℕ) → y < n → 1 < get_or ds y 0)
      → (ms : List ℕ) → MarkList self ms → GenerationsAre (asked b) ls (numbers (chosen ms ds n))
  book_numbers ds A D ms M =
      let e = S.size b R in
      subst (λ (k : ℕ). GenerationsAre (asked b) ls (numbers (chosen ms ds k))) (sym e)
      (numbers_are b R.sheet.fit few ws L m ls C ds A (λ y h. D y (omega arith)) ms (listed_withdrawn M R))

  pub book_loop : {r : ℕ} → ((z : ℕ) × Leads (labelled m ws) z z) → (IsSet n (crossed_words ws m 0) → Smallest (Closed n (crossed_words ws m 0)) n r)
      → (ss : List Step) × FirstLoop (asked b) ls r ss × GenerationsAre (asked b) ls (loop (step_words ss))
  book_loop {r} z s =
      let e = S.size b R in
      let t : IsSet b.n (crossed_words ws m 0) → Smallest (Closed b.n (crossed_words ws m 0)) b.n r =
      subst (λ (k : ℕ). IsSet k (crossed_words ws m 0) → Smallest (Closed k (crossed_words ws m 0)) k r) e s in
      loop_is b R.sheet.fit few ws L m ls C z (t (links_set b R.sheet.fit few ws L m ls C))
