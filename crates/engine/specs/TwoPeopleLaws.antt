-- Two people at one sheet: the order of two adds or removes of different links is of no account.
--   alike_answers    registers that represent books which are alike give the same answers
--   two_people       the theorem, of every register that represents a book at least two links short of full
--   two_people_made  the same of every register that calls made from a fresh one
-- Assumes nothing.
use Rattle.std.specs.Prelude.{◌≡◌, refl, List, ℕ, ◌+◌, ◌≤◌, ◌<◌, length, take, drop}
use Rattle.std.proofs.Common.{sym, ap, ◌∙◌, subst, arith, length-append, length-drop, length-take-le, ext_get_or}
use Rattle.book.specs.Basics.{In}
use Rattle.book.specs.Causes.{labels, max_links}
use Rattle.book.specs.Book.{Link, Sheet, Book, Edit, Call, edit, present, total, total_number, answer, next, fresh, after}
use Rattle.book.proofs.ListLaws.{rises_same}
use Rattle.book.specs.Orders.{Single, link_in, Alike}
use Rattle.book.proofs.OrderLaws.{exchange_free, exchange_same}
use Rattle.answers.specs.Answers.{counted, answered}
use Rattle.paths.specs.Verdicts.{verdict}
use Rattle.paths.specs.Chains.{Graph, asked, chain}
use Rattle.paths.specs.Questions.{Outcome as Question-as-Outcome, refused, paired, replied, steps, ReplyTo, chain_answer, over, list_after}
use Rattle.paths.proofs.PairLaws.{fit_inside}
use Rattle.paths.proofs.GraphLaws.{same_graph, same_pairs, same_chain, some_reply}
use Rattle.links.specs.Links.{Linked}
use Rattle.register.specs.Marks.{free_mark, mark_of}
use Rattle.register.specs.Representation.{Represents}
use Rattle.register.specs.Calls.{answer_of, Steps}
use Rattle.register.specs.Made.{MadeBy}
use Rattle.register.specs.declared.Register.{Register}
use Rattle.register.specs.declared.Outcome.{Outcome}
use Rattle.register.specs.declared.Answer.TheVariants.{Done}
use Rattle.query.proofs.AskingLaws.{tells_same}
use Rattle.chains.specs.Replies.{outcome_of, chain_counted, Replies}
use Rattle.chains.specs.declared.ChainAnswer.{ChainAnswer}
use Rattle.chains.specs.declared.ChainAnswer.TheVariants.{Chain, NoChain, Refused}
use Rattle.engine.specs.BookLaws.{made_book}
use Rattle.engine.specs.PreviewLaws.{accepted_as}
use Rattle.engine.specs.TwoPeople.{Entered, SameAnswers, NoAccount}

-- ---- the words of the links, by the links that are present
linked_in : {ws vs : List ℕ} {s t : Sheet} → Linked ws s → Linked vs t → ((k : Link) → present s k ≡ present t k) → (w : ℕ) → In w ws → In w vs
linked_in {vs = vs} L M q w h = let r = L.sound w h in subst (λ (v : ℕ). In v vs) (sym r.1) (M.whole r.0 (sym (q r.0) ∙ r.2))

linked_same : {ws vs : List ℕ} {s t : Sheet} → Linked ws s → Linked vs t → ((k : Link) → present s k ≡ present t k) → ws ≡ vs
linked_same {ws} {vs} L M q = rises_same ws vs L.ascending M.ascending (linked_in L M q) (linked_in M L (λ k. sym (q k)))

-- ---- a chain answer, by the outcome that it says
over_long : (ws l : List ℕ) → length l ≤ length (over ws l)
over_long ws l = omega (arith, length-append ws (drop (length ws) l), length-drop (length ws) l)

list_long : (o : Question-as-Outcome) (l : List ℕ) → length l ≤ length (list_after o l)
unfolding list_after
list_long (refused k) l = omega arith
list_long (paired total ws) l = over_long ws l
list_long (replied t) l = over_long (steps t) l

outcome_tell : (a b : ChainAnswer) (l : List ℕ) → counted (chain_counted a) ≤ length l → counted (chain_counted b) ≤ length l
    → outcome_of a l ≡ outcome_of b l → a ≡ b
unfolding outcome_of counted chain_counted
outcome_tell (Chain k) (Chain j) l h g e =
    let t : take k l ≡ take j l = cc in
    let z : k ≡ j = sym (length-take-le k l h) ∙ ap length t ∙ length-take-le j l g in
    ap Chain z
outcome_tell (Chain k) NoChain l h g e = absurd (let z : ◌≡◌ {A = ℕ} 0 1 = cc in omega arith)
outcome_tell (Chain k) (Refused j) l h g e = absurd (let z : ◌≡◌ {A = ℕ} 0 1 = cc in omega arith)
outcome_tell NoChain (Chain j) l h g e = absurd (let z : ◌≡◌ {A = ℕ} 0 1 = cc in omega arith)
outcome_tell NoChain NoChain l h g e = refl
outcome_tell NoChain (Refused j) l h g e = absurd (let z : ◌≡◌ {A = ℕ} 0 1 = cc in omega arith)
outcome_tell (Refused k) (Chain j) l h g e = absurd (let z : ◌≡◌ {A = ℕ} 0 1 = cc in omega arith)
outcome_tell (Refused k) NoChain l h g e = absurd (let z : ◌≡◌ {A = ℕ} 0 1 = cc in omega arith)
outcome_tell (Refused k) (Refused j) l h g e = let z : k ≡ j = cc in ap Refused z

-- ---- registers that represent books which are alike
module _ {p q : Register} {b c : Book} (P : Represents p b) (Q : Represents q c) (A : Alike b c) where
  graphs : asked b ≡ asked c
  graphs = same_graph b c A.size A.links A.withdrawn

  chain_alike : (x y : ℕ) (text : List ℕ) (work : ℕ) (before after after' : List ℕ) (a a' : ChainAnswer) → Replies p x y text work before after a
      → Replies q x y text work before after' a' → (a ≡ a') × (after ≡ after')
  chain_alike x y text work before after after' a a' B C =
      let r = some_reply (asked b) (fit_inside b P.sheet.fit) (verdict text) x y in
      let t = r.0 in
      let m = B.answers b P t r.1 in
      let n = C.answers c Q t (subst (λ (g : Graph). ReplyTo g (verdict text) x y t) graphs r.1) in
      let o = same_chain b c A.size x y (verdict text) t work (length before) in
      let l : after ≡ after' = m.1 ∙ ap (λ (u : Question-as-Outcome). list_after u before) o ∙ sym n.1 in
      let j = list_long (chain_answer b x y (verdict text) t work (length before)) before in
      let h : length before ≤ length after = subst (λ (u : List ℕ). length before ≤ length u) (sym m.1) j in
      let f = B.contained.fits in
      let g = C.contained.fits in
      (outcome_tell a a' after (omega arith) (omega arith) (m.0 ∙ o ∙ sym n.0 ∙ ap (outcome_of a') (sym l)), l)

  marks_alike : (x : ℕ) → mark_of b.sheet x ≡ mark_of c.sheet x
  marks_alike x = rw (A.withdrawn x, A.locks x)

  pub alike_answers : SameAnswers p q
  alike_answers = record {
    size = λ m n s t. s.size b P ∙ A.size ∙ sym (t.size c Q);
    links = λ k l s t. linked_same (s.linked b P) (t.linked c Q) A.links;
    locked = λ x t u s r. s.locked b P ∙ A.locks x ∙ sym (r.locked c Q);
    withdrawn = λ x t u s r. s.withdrawn b P ∙ A.withdrawn x ∙ sym (r.withdrawn c Q);
    marks = λ k l s t. ext_get_or free_mark k l (s.long ∙ sym t.long) (λ x h. s.marks b P x ∙ marks_alike x ∙ sym (t.marks c Q x));
    total = λ l t u s r. s.told b P ∙ ap (answered (total_number l)) (A.totals l) ∙ sym (r.told c Q);
    totals = λ k l s t.
        let m = s.long in
        ext_get_or 0 k l (m ∙ sym t.long) (λ i h.
        let h' : i < labels = omega (arith, h, m) in
        s.totals b P i h' ∙ A.totals i ∙ sym (t.totals c Q i h'));
    pairs = λ d text work before after after' a a' s t.
        tells_same (same_pairs b c A.size graphs d (verdict text) work (length before)) (s.book b P) (t.book c Q);
    chain = λ x y text work before after after' a a' s t. chain_alike x y text work before after after' a a' s t;
  }

-- ---- the theorem
-- a call that the book accepts is accepted
done : {r : Register} {c : Call} {o : Outcome} → Steps r c o → (b : Book) → Represents r b → answer b c ≡ 0 → o.answer ≡ Done
done S b R e = S.answers b R ∙ ap answer_of e

module _ {r : Register} (b : Book) (R : Represents r b) (room : length b.sheet.links < max_links) {d e : Edit} (x : Single d) (y : Single e)
    (apart : link_in x ≡ link_in y → ⊥) {o o' p p' : Outcome} (E : Entered r d e o o' p p') (f : o.answer ≡ Done) (g : o'.answer ≡ Done) where
  first_taken : answer b (edit d) ≡ 0
  first_taken = accepted_as E.d_first f b R

  second_taken : answer (next b (edit d)) (edit e) ≡ 0
  second_taken = accepted_as E.e_after g (next b (edit d)) (E.d_first.follows b R)

  free : (answer b (edit e) ≡ 0) × (answer (next b (edit e)) (edit d) ≡ 0)
  free = exchange_free b room x y apart first_taken second_taken

  both_done : (p.answer ≡ Done) × (p'.answer ≡ Done)
  both_done = (done E.e_first b R free.0, done E.d_after (next b (edit e)) (E.e_first.follows b R) free.1)

  ends_same : SameAnswers o'.register p'.register
  ends_same =
      alike_answers
      (E.e_after.follows (next b (edit d)) (E.d_first.follows b R))
      (E.d_after.follows (next b (edit e)) (E.e_first.follows b R))
      (exchange_same b room x y apart first_taken second_taken)

-- of two links short of full, which the request asks for, one would do (book/OrderLaws)
pub two_people : (r : Register) (b : Book) → Represents r b → length b.sheet.links + 2 ≤ max_links → (d e : Edit) (x : Single d) (y : Single e)
    → (link_in x ≡ link_in y → ⊥) → (o o' p p' : Outcome) → Entered r d e o o' p p' → NoAccount o o' p p'
two_people r b R short d e x y apart o o' p p' E =
    let room : length b.sheet.links < max_links = omega (arith, short) in
    λ f g. let both = both_done b R room x y apart E f g in (both.0, both.1, ends_same b R room x y apart E f g)

-- of every register that calls made
pub two_people_made : {n : ℕ} {cs : List Call} {r : Register} → MadeBy n cs r → length (after (fresh n) cs).sheet.links + 2 ≤ max_links
    → (d e : Edit) (x : Single d) (y : Single e) → (link_in x ≡ link_in y → ⊥) → (o o' p p' : Outcome) → Entered r d e o o' p p' → NoAccount o o' p p'
two_people_made {n} {cs} {r} M short d e x y apart o o' p p' E =
    two_people r (after (fresh n) cs) (made_book M) short d e x y apart o o' p p' E
