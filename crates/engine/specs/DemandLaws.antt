-- Demand 3: the theorem. It rests on what the calls promise and on nothing else of the engine.
--   pairs_claim     what a pair question promises, of either engine, gives what is claimed of it
--   chain_claim     what a chain question promises gives what is claimed of it
--   claims          answers, lists given and register of the book are all that is needed
--   demand_3        for every n from 1 to 1,024, every list of calls, and every question asked of the register at the end
--   replayed_calls  what `replay` tells the calls among its words is what the book answers
--   none_linked     a fresh register shows no link
-- Assumes nothing.
use Rattle.std.proofs.Math.Path.{◌≡◌, refl, ap}
use Rattle.std.proofs.Common.{sym, ◌∙◌, subst, length-take-le}
use Rattle.std.specs.Prelude.{List, [], ◌∷◌, ◌++◌, Bool, true, false, ◌||◌, ℕ, zero, suc, ◌+◌, ◌*◌, ◌≤◌, ◌<◌, take, drop, leb}
use Rattle.std.proofs.Math.Decide.{dec_lt}
use native.Mathlib.Omega.{arith}
use Rattle.std.proofs.Math.ListN.{length, length-append, length-drop}
use borrow.Author.Tests.{lt-leb, le-ltb}
use Rattle.book.specs.Basics.{pick, bit, here, has}
use Rattle.book.specs.Causes.{number, too_many_bytes, no_expression, too_large, first_number, max_records}
use Rattle.book.specs.Book.{Book, fresh, answers, givens, fresh_answer}
use Rattle.answers.specs.Answers.{counted}
use Rattle.answers.specs.declared.Counted.{Counted}
use Rattle.answers.specs.declared.Counted.TheVariants.{Count}
use Rattle.paths.specs.Expressions.{Expr}
use Rattle.paths.specs.Grammar.{Verdict, accepted, long, outside, large, Judged, verdict_cause}
use Rattle.paths.specs.Chains.{asked, Step, step_words, Answers, First, Reply, none, chain, ChainIs, no_chain, first_chain}
use Rattle.paths.specs.Relations.{pairs}
use Rattle.paths.proofs.PairLaws.{fit_inside, pairs_are, first_part}
use Rattle.paths.proofs.FirstChainLaws.{has_first, length_step_words}
use Rattle.paths.proofs.GraphLaws.{some_reply}
use Rattle.paths.specs.Verdicts.{verdict}
use Rattle.paths.proofs.VerdictLaws.{verdict_right, verdict_only, accepted_same}
use Rattle.paths.specs.Questions.{Outcome, Engine, refused, replied, unless, work_for, chain_work, ReplyTo, steps, chain_causes, chain_answer}
use Rattle.paths.specs.Questions.{pairs_causes, pairs_answer, over, list_after, count_of, Tells}
use Rattle.links.specs.Links.{Linked}
use Rattle.register.specs.Representation.{Represents}
use Rattle.register.specs.Calls.{Opens}
use Rattle.register.specs.History.{Gives, CallsMade, word_call, word_answers, is_call, calls_of, told_calls}
use Rattle.register.specs.HistoryLaws.{history, word_answers_length, told-calls}
use Rattle.register.specs.declared.Register.{Register}
use Rattle.register.specs.declared.Outcome.{Outcome as Told}
use Rattle.query.specs.Asking.{AsksFor}
use Rattle.query.proofs.AskingLaws.{outcome_short, outcome_paired}
use Rattle.chains.specs.Replies.{outcome_of, chain_counted, Replies}
use Rattle.chains.specs.declared.ChainAnswer.{ChainAnswer}
use Rattle.chains.specs.declared.ChainAnswer.TheVariants.{Chain, NoChain, Refused as NotAnswered}
use Rattle.engine.specs.Inquiries.{Gave}
use Rattle.engine.specs.Demand.{Question, Transcript, Shown, book_after, PairsSay, PairsClaim, ChainClaim, Demand}
use Rattle.engine.specs.declared.Ends.{Ends}

-- what a register shows lies within its records
small : {e : Register} {b : Book} → Represents e b → b.n ≤ 1024
small R = let q = R.size in let l = R.ranged.size in omega arith

-- ---- pair questions
refused_uncounted : {o : Outcome} {a : Counted} (k : ℕ) → a ≡ count_of o → o ≡ refused k → (m : ℕ) → a ≡ Count m → ⊥
unfolding count_of
refused_uncounted k t e m p = let z : Count m ≡ count_of (refused k) = sym p ∙ t ∙ ap count_of e in let y : ◌≡◌ {A = ℕ} 0 1 = cc in omega arith

module _ {r : Register} {b : Book} (R : Represents r b) (q : Question Engine Counted)
    (T : Tells (pairs_answer q.about b (verdict q.text) q.work (length q.list.before)) q.list.before q.list.after q.answer) where
  at : (u : Verdict) → verdict q.text ≡ u
      → pairs_answer q.about b (verdict q.text) q.work (length q.list.before) ≡ pairs_answer q.about b u q.work (length q.list.before)
  at u v = ap (λ (u : Verdict). pairs_answer q.about b u q.work (length q.list.before)) v

  pairs_say : (e : Expr) → verdict q.text ≡ accepted e → work_for q.about b.n ≤ q.work → PairsSay b e q
  unfolding list_after count_of asked
  pairs_say e v h =
      let l = pairs (asked b) e in
      let are = pairs_are (asked b) (fit_inside b R.sheet.fit) (small R) e in
      let o = at (accepted e) v ∙ outcome_paired q.about b q.work (length q.list.before) e h in (
        l,
        are,
        T.answer ∙ ap count_of o,
        T.list ∙ ap (λ (u : Outcome). list_after u q.list.before) o,
        λ w v. first_part (length q.list.before) w v l are.ascending,
      )

  pairs_handed : (k : ℕ) → q.answer ≡ Count k → (e : Expr) × Judged q.text (accepted e) × PairsSay b e q
  unfolding pairs_answer pairs_causes verdict_cause first_number number
  pairs_handed k p = go (verdict q.text) refl
    where
      not_refused : (c : ℕ) (u : Verdict) → verdict q.text ≡ u → pairs_answer q.about b u q.work (length q.list.before) ≡ refused c → ⊥
      not_refused c u v o = refused_uncounted c T.answer (at u v ∙ o) k p

      enough : (e : Expr) → verdict q.text ≡ accepted e → Dec (q.work < work_for q.about b.n) → work_for q.about b.n ≤ q.work
      enough e v (yes h) = absurd (not_refused 12 (accepted e) v (outcome_short q.about b q.work (length q.list.before) e h))
      enough e v (no h) = omega arith

      go : (u : Verdict) → verdict q.text ≡ u → (e : Expr) × Judged q.text (accepted e) × PairsSay b e q
      go (accepted e) v = (e, subst (Judged q.text) v (verdict_right q.text), pairs_say e v (enough e v (dec_lt q.work (work_for q.about b.n))))
      go long v = absurd (not_refused (number too_many_bytes) long v refl)
      go outside v = absurd (not_refused (number no_expression) outside v refl)
      go large v = absurd (not_refused (number too_large) large v refl)

pub pairs_claim : {r : Register} {b : Book} → Represents r b → (q : Question Engine Counted)
    → AsksFor q.about r (verdict q.text) q.work q.list.before q.list.after q.answer → PairsClaim b q
pairs_claim {b = b} R q Q = let T = Q.book b R in
    record { says = λ e J w. pairs_say R q T e (sym (verdict_only J)) w; handed = pairs_handed R q T }

-- ---- chain questions
module _ {e : Register} {b : Book} (R : Represents e b) (x y : ℕ) (text : List ℕ) (work : ℕ)
    (before after' : List ℕ) (a : ChainAnswer) (Q : Replies e x y text work before after' a)
    (f : Expr) (J : Judged text (accepted f)) (hx : x < b.n) (hy : y < b.n) (w : chain_work b.n ≤ work) where
  read_as : accepted f ≡ verdict text
  read_as = verdict_only J

  -- with no cause the outcome is the reply
  answered : (t : Reply) → length (steps t) ≤ length before → chain_answer b x y (verdict text) t work (length before) ≡ replied t
  unfolding chain_answer chain_causes verdict_cause first_number number
  answered t h = rw (← read_as, lt-leb b.n x hx, lt-leb b.n y hy, le-ltb work (64 * b.n) w, le-ltb (length before) (length (steps t)) h)

  reply_to : (t : Reply) → ChainIs (asked b) f x y t → ReplyTo (asked b) (verdict text) x y t
  reply_to t c g q = let z : f ≡ g = accepted_same (read_as ∙ q) in subst (λ (k : Expr). ChainIs (asked b) k x y t) z c

  outcome : (t : Reply) → ChainIs (asked b) f x y t → length (steps t) ≤ length before → (outcome_of a after' ≡ replied t) × (after' ≡ over (steps t) before)
  unfolding list_after
  outcome t c h = let q = Q.answers b R t (reply_to t c) in let o = answered t h in (q.0 ∙ o, q.1 ∙ ap (λ (u : Outcome). list_after u before) o)

  -- the answer that says a chain, and the one that says none
  says_chain : (ws : List ℕ) → outcome_of a after' ≡ replied (chain ws) → after' ≡ over ws before → length ws ≤ length before → a ≡ Chain (length ws)
  unfolding outcome_of counted chain_counted
  says_chain ws o l h = go a o Q.contained.fits
    where
      long : length after' ≡ length before
      long =
          ap length l ∙ length-append ws (drop (length ws) before)
          ∙ (let d = length-drop (length ws) before in let z : length ws + length (drop (length ws) before) ≡ length before = omega arith in z)

      go : (r : ChainAnswer) → outcome_of r after' ≡ replied (chain ws) → counted (chain_counted r) ≤ length before → r ≡ Chain (length ws)
      go (Chain k) o q =
          let t : take k after' ≡ ws = cc in
          let m : k ≡ length ws = sym (length-take-le k after' (omega (arith, long))) ∙ ap length t in
          ap Chain m
      go NoChain o q = absurd (let z : ◌≡◌ {A = ℕ} 0 1 = cc in omega arith)
      go (NotAnswered k) o q = absurd (let z : ◌≡◌ {A = ℕ} 0 1 = cc in omega arith)

  says_none : (r : ChainAnswer) → outcome_of r after' ≡ replied none → r ≡ NoChain
  unfolding outcome_of
  says_none (Chain k) o = absurd (let z : ◌≡◌ {A = ℕ} 0 1 = cc in omega arith)
  says_none NoChain o = refl
  says_none (NotAnswered k) o = absurd (let z : ◌≡◌ {A = ℕ} 0 1 = cc in omega arith)

  first_handed : (ss : List Step) → First (asked b) f x y ss → length ss ≤ length before → (a ≡ Chain (length ss)) × (after' ≡ over (step_words ss) before)
  unfolding steps
  first_handed ss F h =
      let n = length_step_words ss in
      let o = outcome (chain (step_words ss)) (first_chain ss F) (omega arith) in
      (says_chain (step_words ss) o.0 o.1 (omega arith) ∙ ap Chain n, o.1)

  none_handed : ((ss : List Step) → Answers (asked b) f x y ss → ⊥) → (a ≡ NoChain) × (after' ≡ before)
  unfolding steps
  none_handed n = let o = outcome none (no_chain n) (omega arith) in (says_none a o.0, o.1)

  -- where there is a chain there is a first one
  first_of : (ts : List Step) → Answers (asked b) f x y ts
      → (ss : List Step) × First (asked b) f x y ss × (length ss ≤ length before → (a ≡ Chain (length ss)) × (after' ≡ over (step_words ss) before))
  first_of ts A = let F = has_first (asked b) (fit_inside b R.sheet.fit) f x y (ts, A) in (F.0, F.1, λ h. first_handed F.0 F.1 h)

-- a reply that comes is the one there is, and no cause was found
come : (c : ℕ) (t u : Reply) → replied u ≡ unless c (replied t) → (c ≡ 0) × (u ≡ t)
come zero t u o = (refl, cc)
come (suc c) t u o = absurd (let z : ◌≡◌ {A = ℕ} 0 1 = cc in omega arith)

past_flag : (f : Bool) (k : ℕ) → pick f 2 k ≡ 0 → k ≡ 0
past_flag true k e = absurd (omega arith)
past_flag false k e = e

-- with no cause, the text is an expression
no_cause_read : (b : Book) (x y : ℕ) (v : Verdict) (t : Reply) (work room : ℕ) → first_number (chain_causes b x y v t work room) ≡ 0
    → (e : Expr) × (v ≡ accepted e)
unfolding chain_causes verdict_cause first_number number
no_cause_read b x y (accepted e) t work room c = (e, refl)
no_cause_read b x y long t work room c = absurd (let z = past_flag (leb b.n x || leb b.n y) 10 c in omega arith)
no_cause_read b x y outside t work room c = absurd (let z = past_flag (leb b.n x || leb b.n y) 9 c in omega arith)
no_cause_read b x y large t work room c = absurd (let z = past_flag (leb b.n x || leb b.n y) 10 c in omega arith)

-- the list's first words are the reply's steps, so they are as many as are told
steps_told : (k : ℕ) (ws before after' : List ℕ) → k ≤ length before → take k after' ≡ ws → after' ≡ over ws before → k ≡ length ws
steps_told k ws before after' h t l =
    let d = length-drop (length ws) before in
    let n = ap length l ∙ length-append ws (drop (length ws) before) in
    sym (length-take-le k after' (omega (arith, n, d))) ∙ ap length t

-- a chain of k steps is handed out: the first one
abbrev FirstHanded : Book → Expr → Question Ends ChainAnswer → ℕ → Type 0
FirstHanded b e q k =
    (ss : List Step) × First (asked b) e q.about.from q.about.to ss × (k ≡ length ss) × (q.list.after ≡ over (step_words ss) q.list.before)

chain_handed : {r : Register} {b : Book} → Represents r b → (q : Question Ends ChainAnswer)
    → Replies r q.about.from q.about.to q.text q.work q.list.before q.list.after q.answer → (k : ℕ) → q.answer ≡ Chain k
    → (e : Expr) × Judged q.text (accepted e) × FirstHanded b e q k
unfolding outcome_of counted chain_counted chain_answer list_after steps
chain_handed {r} {b} R q Q k p = go some.0 refl J.0 (subst (λ (v : Verdict). Judged q.text v) J.1 (verdict_right q.text)) (some.1 J.0 J.1)
  where
    some : (t : Reply) × ReplyTo (asked b) (verdict q.text) q.about.from q.about.to t
    some = some_reply (asked b) (fit_inside b R.sheet.fit) (verdict q.text) q.about.from q.about.to

    causes : ℕ
    causes = first_number (chain_causes b q.about.from q.about.to (verdict q.text) some.0 q.work (length q.list.before))

    both : (replied (chain (take k q.list.after)) ≡ unless causes (replied some.0))
        × (q.list.after ≡ list_after (unless causes (replied some.0)) q.list.before)
    both = let o = Q.answers b R some.0 some.1 in (sym (ap (λ (a : ChainAnswer). outcome_of a q.list.after) p) ∙ o.0, o.1)

    came : (causes ≡ 0) × (chain (take k q.list.after) ≡ some.0)
    came = come causes some.0 (chain (take k q.list.after)) both.0

    J : (e : Expr) × (verdict q.text ≡ accepted e)
    J = no_cause_read b q.about.from q.about.to (verdict q.text) some.0 q.work (length q.list.before) came.0

    fits : k ≤ length q.list.before
    fits = subst (λ (a : ChainAnswer). counted (chain_counted a) ≤ length q.list.before) p Q.contained.fits

    written : q.list.after ≡ list_after (replied some.0) q.list.before
    written = both.1 ∙ ap (λ (c : ℕ). list_after (unless c (replied some.0)) q.list.before) came.0

    go : (t : Reply) → t ≡ some.0 → (e : Expr) → Judged q.text (accepted e) → ChainIs (asked b) e q.about.from q.about.to some.0
        → (e : Expr) × Judged q.text (accepted e) × FirstHanded b e q k
    go none z e j c = absurd (let y : ◌≡◌ {A = ℕ} 0 1 = let s = came.1 in cc in omega arith)
    go (chain ws) z e j c = ahead e j ws (came.1 ∙ sym z) (subst (ChainIs (asked b) e q.about.from q.about.to) (sym z) c)
        (written ∙ ap (λ (t : Reply). list_after (replied t) q.list.before) (sym z))
      where
        ahead : (e : Expr) → Judged q.text (accepted e) → (ws : List ℕ)
            → chain (take k q.list.after) ≡ chain ws → ChainIs (asked b) e q.about.from q.about.to (chain ws)
            → q.list.after ≡ list_after (replied (chain ws)) q.list.before → (e : Expr) × Judged q.text (accepted e) × FirstHanded b e q k
        ahead e j ws s (first_chain ss F) l =
            let t : take k q.list.after ≡ step_words ss = cc in
            (e, j, (ss, F, steps_told k (step_words ss) q.list.before q.list.after fits t l ∙ length_step_words ss, l))

-- a question that is told there is no chain was accepted, and there is none of any length
none_said : {r : Register} {b : Book} → Represents r b → (q : Question Ends ChainAnswer)
    → Replies r q.about.from q.about.to q.text q.work q.list.before q.list.after q.answer → q.answer ≡ NoChain
    → (e : Expr) × Judged q.text (accepted e)
    × ((ss : List Step) → Answers (asked b) e q.about.from q.about.to ss → ⊥) × (q.list.after ≡ q.list.before)
unfolding outcome_of chain_answer list_after steps
none_said {r} {b} R q Q p = (
  J.0,
  subst (λ (v : Verdict). Judged q.text v) J.1 (verdict_right q.text),
  none_left J.0 (subst (ChainIs (asked b) J.0 q.about.from q.about.to) (sym came.1) (some.1 J.0 J.1)),
  left,
)
  where
    some : (t : Reply) × ReplyTo (asked b) (verdict q.text) q.about.from q.about.to t
    some = some_reply (asked b) (fit_inside b R.sheet.fit) (verdict q.text) q.about.from q.about.to

    causes : ℕ
    causes = first_number (chain_causes b q.about.from q.about.to (verdict q.text) some.0 q.work (length q.list.before))

    both : (replied none ≡ unless causes (replied some.0)) × (q.list.after ≡ list_after (unless causes (replied some.0)) q.list.before)
    both = let o = Q.answers b R some.0 some.1 in (sym (ap (λ (a : ChainAnswer). outcome_of a q.list.after) p) ∙ o.0, o.1)

    came : (causes ≡ 0) × (none ≡ some.0)
    came = come causes some.0 none both.0

    J : (e : Expr) × (verdict q.text ≡ accepted e)
    J = no_cause_read b q.about.from q.about.to (verdict q.text) some.0 q.work (length q.list.before) came.0

    left : q.list.after ≡ q.list.before
    left = both.1 ∙ ap (λ (u : Outcome). list_after u q.list.before) (sym both.0)

    none_left : (e : Expr) → ChainIs (asked b) e q.about.from q.about.to none
        → (ss : List Step) → Answers (asked b) e q.about.from q.about.to ss → ⊥
    none_left e (no_chain n) = n

pub chain_claim : {r : Register} {b : Book} → Represents r b → (q : Question Ends ChainAnswer)
    → Replies r q.about.from q.about.to q.text q.work q.list.before q.list.after q.answer → ChainClaim b q
chain_claim {r} {b} R q Q =
    record {
      says = λ e J x y w.
          record {
            first = first_of R q.about.from q.about.to q.text q.work q.list.before q.list.after q.answer Q e J x y w;
            none = none_handed R q.about.from q.about.to q.text q.work q.list.before q.list.after q.answer Q e J x y w;
          };
      handed = chain_handed R q Q;
      silent = none_said R q Q;
    }

-- ---- the whole claim
module _ {r : Register} (t : Transcript Counted ChainAnswer) (s : Shown) (G : Gave r t s) where
  pub claims : t.told ≡ answers (fresh t.n) t.calls → Gives (givens (fresh t.n) t.calls) t.lists → Represents r (book_after t) → Demand t s
  claims a g R =
      let l = G.links in
      record {
        answers = a;
        givens = g;
        size = G.size.size (book_after t) R;
        links = subst (λ (ws : List ℕ). Linked ws (book_after t).sheet) (sym l.2) (l.1.linked (book_after t) R);
        marks = G.marks.marks (book_after t) R;
        totals = G.totals.totals (book_after t) R;
        pairs = pairs_claim R t.pairs G.pairs;
        chain = chain_claim R t.chain G.chain;
      }

  pub demand_3 : {out : Told} → 1 ≤ t.n → t.n ≤ max_records → Opens t.n out → CallsMade out.register t.calls t.told t.lists r → Demand t s
  unfolding fresh_answer first_number number
  demand_3 l h O run =
      let z : fresh_answer t.n ≡ 0 = rw (le-ltb t.n 1 l, le-ltb max_records t.n h) in
      let o = history t.n (O.made z) run in
      claims o.0 o.1 o.2

-- ---- of a replay
-- of numbers told to words, and others after them, the calls are told the first
told_front : (words xs ys : List ℕ) → length xs ≡ length words → told_calls words (xs ++ ys) ≡ told_calls words xs
unfolding told_calls
told_front [] xs ys h = refl
told_front (w ∷ ws) [] ys h = absurd (omega arith)
told_front (w ∷ ws) (k ∷ xs) ys h = ap (λ (l : List ℕ). pick (is_call (word_call w)) (k ∷ l) l) (told_front ws xs ys (omega arith))

-- the calls among the words are told the book's answers
pub replayed_calls : (n : ℕ) (words old new : List ℕ) → new ≡ word_answers (fresh n) words ++ drop (length words) old
    → told_calls words new ≡ answers (fresh n) (calls_of words)
replayed_calls n words old new e =
    ap (told_calls words) e ∙ told_front words (word_answers (fresh n) words) (drop (length words) old) (word_answers_length (fresh n) words)
    ∙ told-calls (fresh n) words

-- a fresh register shows no link
pub none_linked : (n : ℕ) (ws : List ℕ) → Linked ws (fresh n).sheet → ws ≡ []
unfolding fresh has
none_linked n [] L = refl
none_linked n (w ∷ ws) L = absurd (both_ways (L.sound w here).2)
  where
    both_ways : false ≡ true → ⊥
    both_ways e = let z : ◌≡◌ {A = ℕ} 0 1 = ap bit e in omega arith
