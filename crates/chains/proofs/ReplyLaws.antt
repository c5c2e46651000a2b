-- From the register, the reader and the search to the book's answer.
--   withdrawn_from, withdrawn_to
--                  from or to a withdrawn record there is no chain
--   answer_record, answer_text, answer_work, answer_list, answer_reply
--                  the book's answer, by the first cause: 2, the text's number, 12, 13, or the reply
--   found_answer    the answer, by what the search found
--   refuses, refuses_record, refuses_text, refuses_work
--                  a refusal keeps the promise: any, and by each of the causes before the search
--   replies        so does the answer by what the search found
-- Assumes nothing.
use mathlib.Core.Path.{◌≡◌, refl, sym, ap, ◌∙◌, subst}
use mathlib.Core.Logic.{◌⊎◌, inl, inr}
use mathlib.Core.List.{List, ◌++◌}
use mathlib.Core.Bool.{true}
use Prim.Native.Nat.{ℕ, ◌*◌, ◌≤◌, ◌<◌}
use native.Mathlib.Omega.{arith}
use lib.ListN.{length, take, drop, take-append-drop}
use lib.Seq.{length-take-le}
use borrow.Author.Tests.{le-leb, lt-leb, le-ltb, lt-ltb}
use Rattle.book.specs.Causes.{no_record, short_work, short_list, number, Caused, first_number}
use Rattle.book.specs.Book.{Book, is_withdrawn}
use Rattle.book.proofs.SetLaws.{or-true}
use Rattle.answers.specs.Answers.{counted}
use Rattle.answers.specs.AnswerLaws.{contained_refused, contained_count}
use Rattle.paths.specs.Expressions.{Expr}
use Rattle.paths.specs.Grammar.{Verdict, accepted, long, outside, large, verdict_cause}
use Rattle.paths.specs.Verdicts.{verdict}
use Rattle.paths.specs.Chains.{Graph, asked, Step, Answers, Reply, none as no-reply, chain as chain-reply, ChainIs, no_chain, first_chain}
use Rattle.paths.proofs.PairLaws.{withdrawn_none, none_withdrawn, verdict_caused}
use Rattle.paths.proofs.FirstChainLaws.{reply_only, length_step_words}
use Rattle.paths.specs.Questions.{refused, replied, ReplyTo, chain_work, steps, chain_causes, chain_answer, list_after}
use Rattle.register.specs.declared.Register.{Register}
use Rattle.register.specs.Representation.{Represents}
use Rattle.search.specs.Steps.{Untouched, written, none as none_found, too_long, Answered, first, none, short}
use Rattle.search.specs.declared.Found.{Found}
use Rattle.search.specs.declared.Found.TheVariants.{Steps, Nowhere, Short}
use Rattle.chains.specs.declared.ChainAnswer.{ChainAnswer}
use Rattle.chains.specs.declared.ChainAnswer.TheVariants.{Chain, NoChain, Refused}
use Rattle.chains.specs.Replies.{outcome_of, chain_counted, Replies}

-- what is no chain's is nowhere found
nowhere : {g : Graph} {e : Expr} {x y : ℕ} {list : List ℕ} → ChainIs g e x y no-reply → Answered g e x y list list Nowhere
nowhere c = go c refl
  where
    go : {g : Graph} {e : Expr} {x y : ℕ} {list : List ℕ} {t : Reply} → ChainIs g e x y t → t ≡ no-reply → Answered g e x y list list Nowhere
    go (no_chain h) q = none h
    go (first_chain ss F) q = absurd (let z : ◌≡◌ {A = ℕ} 0 1 = cc in omega arith)

-- ---- withdrawn records
module _ (b : Book) (e : Expr) (x y : ℕ) (list : List ℕ) where
  pub withdrawn_from : is_withdrawn b.sheet x ≡ true → Answered (asked b) e x y list list Nowhere
  withdrawn_from w = nowhere (withdrawn_none b e x y w)

  pub withdrawn_to : is_withdrawn b.sheet y ≡ true → Answered (asked b) e x y list list Nowhere
  withdrawn_to w = nowhere (none_withdrawn b e x y w)

-- ---- the book's answer, by the first cause
module _ (b : Book) (x y : ℕ) (t : Reply) (work room : ℕ) where
  pub answer_record : (v : Verdict) → (b.n ≤ x) ⊎ (b.n ≤ y) → chain_answer b x y v t work room ≡ refused 2
  unfolding chain_answer chain_causes first_number number
  answer_record v (inl h) = rw (le-leb b.n x h)
  answer_record v (inr h) = rw (le-leb b.n y h, or-true)

  module _ (hx : x < b.n) (hy : y < b.n) where
    pub answer_text : (v : Verdict) (k : ℕ) → first_number (verdict_cause v) ≡ k → 0 < k → chain_answer b x y v t work room ≡ refused k
    unfolding chain_answer chain_causes first_number number verdict_cause
    answer_text (accepted e) k q h = absurd (omega arith)
    answer_text long k q h = rw (lt-leb b.n x hx, lt-leb b.n y hy) (ap refused q)
    answer_text outside k q h = rw (lt-leb b.n x hx, lt-leb b.n y hy) (ap refused q)
    answer_text large k q h = rw (lt-leb b.n x hx, lt-leb b.n y hy) (ap refused q)

    module _ (v : Verdict) (e : Expr) (a : v ≡ accepted e) where
      pub answer_work : work < chain_work b.n → chain_answer b x y v t work room ≡ refused 12
      unfolding chain_answer chain_causes first_number number verdict_cause
      answer_work h = rw (a, lt-leb b.n x hx, lt-leb b.n y hy, lt-ltb work (64 * b.n) h)

      module _ (enough : chain_work b.n ≤ work) where
        pub answer_list : room < length (steps t) → chain_answer b x y v t work room ≡ refused 13
        unfolding chain_answer chain_causes first_number number verdict_cause
        answer_list h = rw (a, lt-leb b.n x hx, lt-leb b.n y hy, le-ltb work (64 * b.n) enough, lt-ltb room (length (steps t)) h)

        pub answer_reply : length (steps t) ≤ room → chain_answer b x y v t work room ≡ replied t
        unfolding chain_answer chain_causes first_number number verdict_cause
        answer_reply h = rw (a, lt-leb b.n x hx, lt-leb b.n y hy, le-ltb work (64 * b.n) enough, le-ltb room (length (steps t)) h)

-- the answer, by what the search found
abbrev pub found_answer : Found → ChainAnswer
found_answer (Steps k) = Chain k
found_answer Nowhere = NoChain
found_answer Short = Refused 13

-- no reply is shorter than a shortest chain
reply_long : {g : Graph} {e : Expr} {x y : ℕ} {t : Reply} → ChainIs g e x y t → (ss : List Step)
    → Answers g e x y ss → ((ts : List Step) → Answers g e x y ts → length ss ≤ length ts) → length ss ≤ length (steps t)
unfolding steps
reply_long (no_chain h) ss s l = absurd (h ss s)
reply_long (first_chain ts F) ss s l = let z = l ts F.answers in let y = length_step_words ts in omega arith

-- ---- the promise
module _ {self : Register} {x y : ℕ} {text : List ℕ} {work : ℕ} {list : List ℕ} where
  -- what was found, by another equation
  pub replies_as : {list' : List ℕ} {r r' : Found} → r ≡ r' → Replies self x y text work list list' (found_answer r)
      → Replies self x y text work list list' (found_answer r')
  replies_as {list'} e a = subst (λ (q : Found). Replies self x y text work list list' (found_answer q)) e a

  -- a refusal
  pub refuses : (k : ℕ) → Caused k
      → ((b : Book) → Represents self b → (t : Reply) → ReplyTo (asked b) (verdict text) x y t
      → chain_answer b x y (verdict text) t work (length list) ≡ refused k) → Replies self x y text work list list (Refused k)
  unfolding outcome_of chain_counted counted list_after
  refuses k c h = record { contained = contained_refused (length list) 0 list list k c refl; answers = λ b R t q. (let e = h b R t q in (sym e, rw e refl)) }

  module _ {n : ℕ} (size : (b : Book) → Represents self b → n ≡ b.n) where
    pub refuses_record : (n ≤ x) ⊎ (n ≤ y) → Replies self x y text work list list (Refused 2)
    unfolding number
    refuses_record h =
        refuses 2 (no_record, refl) (λ b R t q. answer_record b x y t work (length list) (verdict text) (subst (λ (m : ℕ). (m ≤ x) ⊎ (m ≤ y)) (size b R) h))

    module _ (hx : x < n) (hy : y < n) where
      pub refuses_text : (k : ℕ) → first_number (verdict_cause (verdict text)) ≡ k → 0 < k → Replies self x y text work list list (Refused k)
      refuses_text k e h =
          refuses k (verdict_caused (verdict text) k e h) (λ b R t q. (let s = size b R in
          answer_text b x y t work (length list) (omega arith) (omega arith) (verdict text) k e h))

      module _ (e : Expr) (a : verdict text ≡ accepted e) where
        pub refuses_work : work < n * 64 → Replies self x y text work list list (Refused 12)
        unfolding number
        refuses_work h =
            refuses 12 (short_work, refl) (λ b R t q. (let s = size b R in
            answer_work b x y t work (length list) (omega arith) (omega arith) (verdict text) e a (omega arith)))

        module _ (enough : n * 64 ≤ work) where
          replies_short : ((b : Book) → Represents self b → Answered (asked b) e x y list list Short) → Replies self x y text work list list (Refused 13)
          unfolding number
          replies_short h =
              refuses 13 (short_list, refl) (λ b R t q. (let s = size b R in
              answer_list b x y t work (length list) (omega arith) (omega arith) (verdict text) e a (omega arith) (go (h b R) refl (q e a))))
            where
              go : {g : Graph} {t : Reply} {r : Found} → Answered g e x y list list r → r ≡ Short → ChainIs g e x y t → length list < length (steps t)
              go (first ss F z) i c = absurd (let z : ◌≡◌ {A = ℕ} 0 1 = cc in omega arith)
              go (none z) i c = absurd (let z : ◌≡◌ {A = ℕ} 0 1 = cc in omega arith)
              go (short ss s l m) i c = let z = reply_long c ss s l in omega arith

          replies-none : ((b : Book) → Represents self b → Answered (asked b) e x y list list Nowhere) → Replies self x y text work list list NoChain
          unfolding outcome_of chain_counted counted list_after steps
          replies-none h = record { contained = contained_count (length list) 0 list list 0 (omega arith) refl; answers = ans }
            where
              is_none : {g : Graph} {t : Reply} {r : Found} → Answered g e x y list list r → r ≡ Nowhere → ChainIs g e x y t → t ≡ no-reply
              is_none (first ss F z) i c = absurd (let z : ◌≡◌ {A = ℕ} 0 1 = cc in omega arith)
              is_none (short ss s l m) i c = absurd (let z : ◌≡◌ {A = ℕ} 0 1 = cc in omega arith)
              is_none (none z) i c = reply_only c (no_chain z)

              ans : (b : Book) → Represents self b → (t : Reply) → ReplyTo (asked b) (verdict text) x y t
                  → (replied no-reply ≡ chain_answer b x y (verdict text) t work (length list))
                  × (list ≡ list_after (chain_answer b x y (verdict text) t work (length list)) list)
              ans b R t q =
                  let s = size b R in
                  let i = is_none (h b R) refl (q e a) in
                  let r = answer_reply b x y t work (length list) (omega arith) (omega arith) (verdict text) e a (omega arith) (rw i (omega arith)) in
                  (ap replied (sym i) ∙ sym r, rw (r, i) refl)

          replies_chain : {list' : List ℕ} {k : ℕ} → k ≤ length list → length list' ≡ length list → drop k list' ≡ drop k list
              → ((b : Book) → Represents self b → Answered (asked b) e x y list list' (Steps k)) → Replies self x y text work list list' (Chain k)
          unfolding outcome_of chain_counted counted list_after steps
          replies_chain {list'} {k} hk same rest h =
              record { contained = contained_count (length list) k list list' k hk rest; answers = ans }
            where
              is_chain : {g : Graph} {t : Reply} {r : Found} → Answered g e x y list list' r → r ≡ Steps k → ChainIs g e x y t → t ≡ chain-reply (take k list')
              is_chain (none z) i c = absurd (let z : ◌≡◌ {A = ℕ} 0 1 = cc in omega arith)
              is_chain (short ss s l m) i c = absurd (let z : ◌≡◌ {A = ℕ} 0 1 = cc in omega arith)
              is_chain (first {k = j} ss F z) i c =
                  let u : j ≡ k = cc in
                  reply_only c (first_chain ss F) ∙ ap chain-reply (sym z ∙ ap (λ (m : ℕ). take m list') u)

              ans : (b : Book) → Represents self b → (t : Reply) → ReplyTo (asked b) (verdict text) x y t
                  → (replied (chain-reply (take k list')) ≡ chain_answer b x y (verdict text) t work (length list))
                  × (list' ≡ list_after (chain_answer b x y (verdict text) t work (length list)) list)
              ans b R t q =
                  let s = size b R in
                  let i = is_chain (h b R) refl (q e a) in
                  let l : length (take k list') ≡ k = length-take-le k list' (omega arith) in
                  let r = answer_reply b x y t work (length list) (omega arith) (omega arith) (verdict text) e a (omega arith) (rw i (omega arith)) in
                  (ap replied (sym i) ∙ sym r, rw (r, i, l) (sym (take-append-drop k list') ∙ ap (λ (m : List ℕ). take k list' ++ m) rest))

          pub replies : {list' : List ℕ} {r : Found} → Untouched list list' r → length list' ≡ length list
              → ((b : Book) → Represents self b → Answered (asked b) e x y list list' r) → Replies self x y text work list list' (found_answer r)
          replies (written hk rest) same h = replies_chain hk same rest h
          replies (none_found q) same h =
              subst (λ (l : List ℕ). Replies self x y text work list l NoChain) (sym q)
              (replies-none (λ b R. subst (λ (l : List ℕ). Answered (asked b) e x y list l Nowhere) q (h b R)))
          replies (too_long q) same h =
              subst (λ (l : List ℕ). Replies self x y text work list l (Refused 13)) (sym q)
              (replies_short (λ b R. subst (λ (l : List ℕ). Answered (asked b) e x y list l Short) q (h b R)))
