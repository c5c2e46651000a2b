-- What the promises over words say of the plain book. Assumes nothing.
--   edits_book      the number is the book's answer, and the words then keep the next book
--   draft_made      a list of edits that is made: its calls are told 0, and the words then keep the book after them
--   calls_book      so for a whole history of calls, each given the words that the call before left, with the lists that its closings up give
--   words_made      so from a fresh register on
--   calls_past      and the words past a register's are as they were
--   asked_book      a question that counts, asked of words that keep a book: the number tells the book's answer, and the list is as that answer leaves it
--   chain_book      so a chain question
--   total_book      the total asked of words that keep a book
--   count_told, chain_told, none_told
--                   which answer a number tells
use Rattle.std.specs.Prelude.{◌≡◌, refl, List, [], ◌∷◌, ◌++◌, ℕ, ◌*◌, ◌<◌, length, drop, replicate}
use Rattle.std.proofs.Common.{sym, ap, ap₂, subst, ◌∙◌, arith}
use Rattle.std.proofs.Math.Decide.{dec_lt}
use Rattle.book.specs.Book.{Book, Call, edit, undo, close, answer, next, fresh, answers, after, givens}
use Rattle.answers.specs.Answers.{counted}
use Rattle.answers.specs.declared.Counted.{Counted}
use Rattle.answers.specs.declared.Counted.TheVariants.{Count, Refused}
use Rattle.paths.specs.Questions.{Outcome, Tells}
use Rattle.register.specs.Calls.{answer_number}
use Rattle.register.specs.History.{Lent, CallsMade, Gives, none_given, more_given, is_close}
use Rattle.register.specs.HistoryLaws.{number_answer, answered, kept, given_lent, after-append}
use Rattle.register.specs.LaidLaws.{givens_append}
use Rattle.register.specs.Questions.{total_answer}
use Rattle.register.specs.Words.{state_words, Edits}
use Rattle.query.specs.Asking.{Asks}
use Rattle.chains.specs.Replies.{BookReplies, Replies, chain_counted}
use Rattle.chains.specs.declared.ChainAnswer.{ChainAnswer}
use Rattle.chains.specs.declared.ChainAnswer.TheVariants.{Chain, NoChain, Refused as Unchained}
use Rattle.register.specs.Drafts.{draft_calls, made_words}
use Rattle.register.specs.declared.DraftAnswer.{DraftAnswer}
use Rattle.host.specs.Drafts.{Applies}
use Rattle.host.proofs.DraftLaws.{made_told}
use Rattle.host.specs.Histories.{Calls, none, then_call, then_close, then_draft, refused_draft, WordsMade}
use Rattle.host.specs.Host.{KeepsBook, past_counts, told_counted, told_chain, Told, Asked, TellsTotal}

pub edits_book : {c : Call} {ws vs : List ℕ} {k : ℕ} → Edits c ws vs k → (b : Book) → KeepsBook ws b → (k ≡ answer b c) × KeepsBook vs (next b c)
edits_book e b h =
    let o = e.steps h.0 h.1 in
    (o.2 ∙ ap answer_number (o.1.answers b h.2) ∙ number_answer (answer b _), (o.0.register, o.3, o.1.follows b h.2))

pub draft_made : {ds ws us : List ℕ} {k : ℕ} → Applies ds ws us k → k < 2 * past_counts → (b : Book) → KeepsBook ws b
    → (replicate (length ds) 0 ≡ answers b (draft_calls ds)) × Gives (givens b (draft_calls ds)) [] × KeepsBook us (after b (draft_calls ds))
unfolding made_words
draft_made {ds} {ws} {us} {k} a l b h = go (dec_lt (length ds) past_counts)
  where
    go : Dec (length ds < past_counts)
        → (replicate (length ds) 0 ≡ answers b (draft_calls ds)) × Gives (givens b (draft_calls ds)) [] × KeepsBook us (after b (draft_calls ds))
    go (no m) = absurd (omega (arith, a.long h.0 h.1 (omega arith)))
    go (yes m) =
        let o = a.drafts h.0 h.1 m in
        let calls : CallsMade h.0 (draft_calls ds) (replicate (length ds) 0) [] o.0.register =
        subst (λ (x : DraftAnswer). CallsMade h.0 (draft_calls (made_words x ds)) (replicate (length (made_words x ds)) 0) [] o.0.register)
        (made_told ds o.0.answer k (sym o.2) l) o.1.made in
        (answered calls b h.2, given_lent calls b h.2, (o.0.register, o.3, kept calls b h.2))

answers_append : (b : Book) (cs ds : List Call) → answers b (cs ++ ds) ≡ answers b cs ++ answers (after b cs) ds
unfolding answers after
answers_append b [] ds = refl
answers_append b (c ∷ cs) ds = ap (λ (l : List ℕ). answer b c ∷ l) (answers_append (next b c) cs ds)

none_lent : {gs : List (List ℕ)} {ls : List Lent} → Gives gs ls → ls ≡ [] → gs ≡ []
none_lent none_given e = refl
none_lent (more_given p q) e = absurd (let z : ◌≡◌ {A = ℕ} 0 1 = cc in omega arith)

pub calls_book : {cs : List Call} {ws vs ks : List ℕ} {ls : List Lent} → Calls cs ws vs ks ls → (b : Book) → KeepsBook ws b
    → (ks ≡ answers b cs) × Gives (givens b cs) ls × KeepsBook vs (after b cs)
unfolding answers after givens is_close
calls_book none b h = (refl, none_given, h)
calls_book (then_call {c = edit a} z e r) b h =
    let f = edits_book e b h in
    let g = calls_book r (next b _) f.1 in
    ((λ i. f.0 i ∷ g.0 i), g.1, g.2)
calls_book (then_call {c = undo} z e r) b h =
    let f = edits_book e b h in
    let g = calls_book r (next b _) f.1 in
    ((λ i. f.0 i ∷ g.0 i), g.1, g.2)
calls_book (then_call {c = close room} z e r) b h = absurd (let y : ◌≡◌ {A = ℕ} 0 1 = cc in omega arith)
calls_book (then_close l e r) b h =
    let f = edits_book e.edits b h in
    let g = calls_book r (next b _) f.1 in
    ((λ i. f.0 i ∷ g.0 i), more_given (e.given b h) g.1, g.2)
calls_book {vs = vs} {ls = ls} (then_draft {cs = cs} ds a l r) b h =
    let f = draft_made a l b h in
    let c = after b (draft_calls ds) in
    let g = calls_book r c f.2 in (
      ap₂ (λ (x y : List ℕ). x ++ y) f.0 g.0 ∙ sym (answers_append b (draft_calls ds) cs),
      subst (λ (x : List (List ℕ)). Gives x ls)
          (sym (givens_append b (draft_calls ds) cs ∙ ap (λ (x : List (List ℕ)). x ++ givens c cs) (none_lent f.1 refl))) g.1,
      subst (λ (x : Book). KeepsBook vs x) (sym (after-append b (draft_calls ds) cs)) g.2,
    )
calls_book (refused_draft ds a l r) b h = calls_book r b (subst (λ (x : List ℕ). KeepsBook x b) (sym (a.refused l)) h)

-- from a fresh register on: each number and list is the book's, and the words at the end keep the book after the calls
pub words_made : {n : ℕ} {cs : List Call} {ws vs ks : List ℕ} {ls : List Lent} → WordsMade n cs ws vs ks ls
    → (ks ≡ answers (fresh n) cs) × Gives (givens (fresh n) cs) ls × KeepsBook vs (after (fresh n) cs)
words_made {n} M = calls_book M.calls (fresh n) (M.opens.made refl)

-- and no call touches the words past a register's
pub calls_past : {cs : List Call} {ws vs ks : List ℕ} {ls : List Lent} → Calls cs ws vs ks ls → drop state_words vs ≡ drop state_words ws
calls_past none = refl
calls_past (then_call z e r) = calls_past r ∙ e.past
calls_past (then_close l e r) = calls_past r ∙ e.edits.past
calls_past (then_draft ds a l r) = calls_past r ∙ a.past
calls_past (refused_draft ds a l r) = calls_past r ∙ a.past

module _ {ws before after' : List ℕ} {k : ℕ} where
  pub asked_book : {most : ℕ} {o : Book → Outcome} → Asked ws (λ r. Asks most r o before after') told_counted before after' k
      → (b : Book) → KeepsBook ws b → Told (Tells (o b) before after') told_counted k
  asked_book q b h = let t = q.answers h.0 h.1 in (t.0, t.1.book b h.2, t.2)

  pub chain_book : (x y : ℕ) (text : List ℕ) (work : ℕ) → Asked ws (λ r. Replies r x y text work before after') told_chain before after' k
      → (b : Book) → KeepsBook ws b → Told (BookReplies b x y text work before after') told_chain k
  chain_book x y text work q b h = let t = q.answers h.0 h.1 in (t.0, t.1.answers b h.2, t.2)

pub total_book : {ws : List ℕ} {l k : ℕ} → TellsTotal ws l k → (b : Book) → KeepsBook ws b → k ≡ told_counted (total_answer b.sheet l)
total_book q b h = let t = q.kept h.0 h.1 in t.2 ∙ ap told_counted (t.1.told b h.2)

pub count_told : (a : Counted) (k : ℕ) → told_counted a ≡ k → k < 2 * past_counts → a ≡ Count k
count_told (Count j) k e l = ap Count e
count_told (Refused j) k e l = absurd (omega arith)

pub chain_told : (a : ChainAnswer) (k : ℕ) → told_chain a ≡ k → k < past_counts → a ≡ Chain k
chain_told (Chain j) k e l = ap Chain e
chain_told NoChain k e l = absurd (omega arith)
chain_told (Unchained j) k e l = absurd (omega arith)

pub none_told : (a : ChainAnswer) → told_chain a ≡ past_counts → counted (chain_counted a) < past_counts → a ≡ NoChain
unfolding counted chain_counted
none_told (Chain j) e l = absurd (omega arith)
none_told NoChain e l = refl
none_told (Unchained j) e l = absurd (omega arith)
