-- Closing up and the questions, of registers: what is asked of the register that an accepted closing up hands back is answered as it was before, with the
-- records renamed.
--   pairs_after     a pair question, by either engine
--   chain_after     a chain question between records in use
--   closing_made    both of every register that calls made from a fresh one
-- Assumes nothing.
use Rattle.std.specs.Prelude.{◌≡◌, refl, List, ℕ, zero, suc, length, take}
use Rattle.std.proofs.Math.Path.{sym, ap}
use Rattle.std.proofs.Common.{◌∙◌, arith}
use Rattle.book.specs.Causes.{first_number}
use Rattle.book.specs.Book.{Book, Call, close, answer, next, fresh, after}
use Rattle.paths.specs.Verdicts.{verdict}
use Rattle.paths.specs.Chains.{asked, Reply}
use Rattle.paths.specs.Questions.{Outcome as Question-as-Outcome, refused, paired, replied, unless, pairs_of, pairs_causes, pairs_answer, list_after, count_of}
use Rattle.paths.proofs.PairLaws.{fit_inside}
use Rattle.paths.proofs.GraphLaws.{some_reply}
use Rattle.paths.specs.Renaming.{renamed_reply, renamed_outcome, new_number}
use Rattle.paths.proofs.ClosingLaws.{closing_pairs, closing_chain}
use Rattle.register.specs.Representation.{Represents}
use Rattle.register.specs.Calls.{answer_number, Closes}
use Rattle.register.specs.HistoryLaws.{represents_sound, number_answer}
use Rattle.register.specs.Made.{MadeBy}
use Rattle.register.specs.declared.Register.{Register}
use Rattle.register.specs.declared.Outcome.{Outcome}
use Rattle.register.specs.declared.Answer.TheVariants.{Done}
use Rattle.engine.specs.BookLaws.{made_book}
use Rattle.engine.specs.Closing.{PairsRenamed, ChainRenamed}

-- as many are told of the pairs renamed
renamed_count : (f : ℕ → ℕ) (o : Question-as-Outcome) → ((t : Reply) → o ≡ replied t → ⊥) → count_of (renamed_outcome f o) ≡ count_of o
unfolding renamed_outcome count_of
renamed_count f (refused k) n = refl
renamed_count f (paired total ws) n = refl
renamed_count f (replied t) n = absurd (n t refl)

-- a pair question has no chain for its outcome
not_replied : (k : ℕ) (total : ℕ) (ws : List ℕ) (t : Reply) → unless k (paired total ws) ≡ replied t → ⊥
not_replied zero total ws t e = let z : ◌≡◌ {A = ℕ} 0 1 = cc in omega arith
not_replied (suc k) total ws t e = let z : ◌≡◌ {A = ℕ} 0 1 = cc in omega arith

module _ {r : Register} {before after : List ℕ} {out : Outcome} (c : Closes r before after out) (d : out.answer ≡ Done) (b : Book) (h : Represents r b) where
  accepted : answer b (close (length before)) ≡ 0
  accepted = sym (number_answer (answer b (close (length before)))) ∙ ap answer_number (sym (c.steps.answers b h) ∙ d)

  pub pairs_after : PairsRenamed b r out.register
  unfolding pairs_answer
  pairs_after engine text work l l₁ l₂ a₁ a₂ w p q =
      let o = p.book b h in
      let n = q.book (next b (close (length before))) (c.steps.follows b h) in
      let e = closing_pairs b (represents_sound h) (length before) accepted engine (verdict text) work (length l) w in (
        n.answer ∙ ap count_of e ∙ renamed_count (new_number b) (pairs_answer engine b (verdict text) work (length l))
            (not_replied (first_number (pairs_causes engine b (verdict text) work)) (length (pairs_of b (verdict text)))
            (take (length l) (pairs_of b (verdict text))))
            ∙ sym o.answer,
        n.list ∙ ap (λ (u : Question-as-Outcome). list_after u l) e,
      )

  pub chain_after : ChainRenamed b r out.register
  chain_after x y u v text work l l₁ l₂ a₁ a₂ w p q =
      let s = some_reply (asked b) (fit_inside b h.sheet.fit) (verdict text) x y in
      let t = s.0 in
      let e = closing_chain b (represents_sound h) (length before) accepted x y u v (verdict text) t work (length l) w s.1 in
      let n = q.answers (next b (close (length before))) (c.steps.follows b h) (renamed_reply (new_number b) t) e.0 in
      let o = e.1 ∙ ap (renamed_outcome (new_number b)) (sym (p.answers b h t s.1).0) in
      (n.0 ∙ o, n.1 ∙ ap (λ (z : Question-as-Outcome). list_after z l) o)

-- of every register that calls made
pub closing_made : {n : ℕ} {cs : List Call} {r : Register} → MadeBy n cs r → (before before' : List ℕ) (out : Outcome) → Closes r before before' out
    → out.answer ≡ Done → PairsRenamed (after (fresh n) cs) r out.register × ChainRenamed (after (fresh n) cs) r out.register
closing_made {n} {cs} M before before' out c d =
    let R = made_book M in
    (pairs_after c d (after (fresh n) cs) R, chain_after c d (after (fresh n) cs) R)
