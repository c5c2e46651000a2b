-- Demand 3 of the exported calls: the theorem. It rests on what the exported calls promise and on nothing else of the engine.
--   exported_demand_3  of every dealings that keep to the contracts of the exported calls
--   PairsTold, ChainTold  what is claimed of a question's number
--   pairs_apart        a number told to a pair question after a history tells one answer of which the claim holds
--   chain-apart        so of a chain question whose list has fewer than 2^32 words
-- Assumes nothing.
use Rattle.std.specs.Prelude.{◌≡◌, refl, List, ℕ, suc, ◌+◌, ◌≤◌, ◌<◌, length, take}
use Rattle.std.proofs.Common.{sym, ap, ◌∙◌, arith}
use Rattle.book.specs.Basics.{bit, over, In, here, there, Rises, ended, rises}
use Rattle.book.specs.Causes.{max_records}
use Rattle.book.specs.Book.{Book, Call, fresh, after}
use Rattle.answers.specs.Answers.{counted, answered, over_unless, FirstPart}
use Rattle.answers.specs.declared.Counted.{Counted}
use Rattle.answers.specs.declared.Counted.TheVariants.{Count, Refused}
use Rattle.k2.specs.PairSets.{pair_word}
use Rattle.paths.specs.Chains.{asked, Has}
use Rattle.paths.specs.Expressions.{Expr}
use Rattle.paths.proofs.PairLaws.{history_inside, history_small}
use Rattle.paths.specs.Questions.{Engine}
use Rattle.links.specs.Links.{Linked}
use Rattle.register.specs.History.{Lent}
use Rattle.chains.specs.Replies.{chain_counted}
use Rattle.chains.specs.declared.ChainAnswer.{ChainAnswer}
use Rattle.chains.specs.declared.ChainAnswer.TheVariants.{Chain, NoChain, Refused as Unchained}
use Rattle.engine.specs.Demand.{Question, Transcript, book_after, PairsClaim, ChainClaim}
use Rattle.engine.specs.declared.Ends.{Ends}
use Rattle.engine.specs.DemandLaws.{pairs_claim, chain_claim}
use Rattle.host.specs.Host.{past_counts, told_counted, told_chain, Told}
use Rattle.host.proofs.HostLaws.{words_made, calls_past, total_book}
use Rattle.host.specs.Demand.{Dealings, heard, Kept, ExportedDemand}

links_told : (b : Book) (l : Lent) (k : ℕ) (ws : List ℕ) (a : Counted) → Linked ws b.sheet → FirstPart ws l.before l.after a → k ≡ told_counted a
    → (ws : List ℕ) × Linked ws b.sheet × (k ≡ length ws) × (l.after ≡ over (take (length l.before) ws) l.before)
unfolding answered over_unless
links_told b l k ws a L h t = (ws, L, t ∙ ap told_counted h.answer, h.list)

pub exported_demand_3 : (t : Transcript ℕ ℕ) (i : Dealings) → Kept t i → ExportedDemand t i
exported_demand_3 t i K =
    let b = book_after t in
    let m = words_made K.made in
    let r = m.2.0 in
    let w = m.2.1 in
    let R = m.2.2 in
    let l = K.links.answers r w in
    let p = K.pairs.answers r w in
    let c = K.chain.answers r w in
    let x = K.locked.kept r w in
    let y = K.withdrawn.kept r w in
    record {
      answers = m.0;
      givens = m.1;
      around = calls_past K.made.calls ∙ K.made.opens.past;
      size = (K.size.kept r w).size b R;
      links = links_told b i.links i.count (take l.1.0.count l.1.0.words) l.0 (l.1.1.linked b R) l.1.2 l.2;
      locked = x.2 ∙ ap bit (x.1.locked b R);
      withdrawn = y.2 ∙ ap bit (y.1.withdrawn b R);
      total = total_book K.total b m.2;
      pairs = (p.0, pairs_claim R (heard t.pairs p.0) p.1, p.2);
      chain = (c.0, (c.1.contained.fits, chain_claim R (heard t.chain c.0) c.1), c.2);
    }

-- ---- which answer a number tells
abbrev pub PairsTold : Book → Question Engine ℕ → Type 0
PairsTold b q = Told (λ a. PairsClaim b (heard q a)) told_counted q.answer

abbrev pub ChainTold : Book → Question Ends ℕ → Type 0
ChainTold b q = Told (λ a. (counted (chain_counted a) ≤ length q.list.before) × ChainClaim b (heard q a)) told_chain q.answer

-- of numbers below t that ascend there are no more than t
rises_few : {m t : ℕ} {l : List ℕ} → Rises m l → m ≤ t → ((w : ℕ) → In w l → w < t) → m + length l ≤ t
rises_few ended h below = omega arith
rises_few {m} {t} (rises {w = w} {l = l} g r) h below =
    let i = rises_few {m = suc w} {t = t} r (omega (arith, below w here)) (λ v j. below v (there j)) in
    omega (arith, i)

module _ (n : ℕ) (few : n ≤ max_records) (cs : List Call) (q : Question Engine ℕ) where
  below : {w : ℕ} (e : Expr) (x y : ℕ) → w ≡ pair_word x y → Has (asked (after (fresh n) cs)) e x y → w < 1048576
  below e x y p h =
      let I = history_inside n few cs in
      omega (arith, p, I.below x h.1.begins, I.below y h.1.ends, history_small n few cs)

  pairs_few : (k : ℕ) → PairsClaim (after (fresh n) cs) (heard q (Count k)) → k ≤ 1048576
  pairs_few k C =
      let c = C.handed k refl in
      let l = c.2.0 in
      let e : k ≡ length l = (let z : Count k ≡ Count (length l) = c.2.2 in cc) in
      let b = rises_few {t = 1048576} c.2.1.ascending (omega arith) (λ w i. let s = c.2.1.sound w i in below c.0 s.0 s.1 s.2 s.3) in
      omega (arith, e, b)

  one_answer : (a a' : Counted) → PairsClaim (after (fresh n) cs) (heard q a) → PairsClaim (after (fresh n) cs) (heard q a')
      → told_counted a ≡ told_counted a' → a ≡ a'
  one_answer (Count j) (Count k) C D e = ap Count e
  one_answer (Count j) (Refused k) C D e = absurd (omega (arith, e, pairs_few j C))
  one_answer (Refused j) (Count k) C D e = absurd (omega (arith, e, pairs_few k D))
  one_answer (Refused j) (Refused k) C D e = let z : j ≡ k = omega (arith, e) in ap Refused z

  pub pairs_apart : (s t : PairsTold (after (fresh n) cs) q) → s.0 ≡ t.0
  pairs_apart s t = one_answer s.0 t.0 s.1 t.1 (sym s.2 ∙ t.2)

one_reply : (a a' : ChainAnswer) → counted (chain_counted a) < past_counts → counted (chain_counted a') < past_counts → told_chain a ≡ told_chain a' → a ≡ a'
unfolding counted chain_counted
one_reply (Chain j) (Chain k) g h e = ap Chain e
one_reply (Chain j) NoChain g h e = absurd (omega (arith, e))
one_reply (Chain j) (Unchained k) g h e = absurd (omega (arith, e))
one_reply NoChain (Chain k) g h e = absurd (omega (arith, e))
one_reply NoChain NoChain g h e = refl
one_reply NoChain (Unchained k) g h e = absurd (omega (arith, e))
one_reply (Unchained j) (Chain k) g h e = absurd (omega (arith, e))
one_reply (Unchained j) NoChain g h e = absurd (omega (arith, e))
one_reply (Unchained j) (Unchained k) g h e = let z : j ≡ k = omega (arith, e) in ap Unchained z

pub chain-apart : (b : Book) (q : Question Ends ℕ) → length q.list.before < past_counts → (s t : ChainTold b q) → s.0 ≡ t.0
chain-apart b q h s t =
    let f = s.1.0 in
    let g = t.1.0 in
    one_reply s.0 t.0 (omega (arith, f, h)) (omega (arith, g, h)) (sym s.2 ∙ t.2)
