-- Laws of the loop over lines: how it is made turn by turn, and what it writes in all.
-- Assumes nothing.
use Rattle.std.specs.Prelude.{◌≡◌, refl, List, [], ◌∷◌, ◌++◌, ℕ, suc, ◌-◌, ◌<◌}
use Rattle.std.proofs.Common.{sym, ap, subst, append-nil, arith}
use Rattle.answers.specs.Written.{Wrote}
use Rattle.session.specs.Runs.{End, ended, unsent, spent, most_turns}
use Rattle.session.specs.RunsLaws.{all_sent, sent_told}
use Rattle.lines.specs.Typed.{typed}
use Rattle.lines.specs.Encoding.{sent, Sends, no_turns, last_line, not_sent, one_more, SentAll}
use Rattle.lines.specs.TypedRuns.{sent_all}

-- in all it writes the frames of its lines
pub sends_all : {n : ℕ} {ls : List (List ℕ)} {o : List ℕ} {e : End} → Sends n ls o e → o ≡ sent_all ls
unfolding sent_all
sends_all no_turns = refl
sends_all (last_line {l = l}) = sym (append-nil (sent (typed l)))
sends_all (not_sent {l = l}) = sym (append-nil (sent (typed l)))
sends_all (one_more {l = l} on) = ap (λ (t : List ℕ). sent (typed l) ++ t) (sends_all on)

-- SendsOn m: a loop came so far that m turns are left, so that any loop on from there is a loop from the start
abbrev pub SendsOn : ℕ → Type 0
SendsOn m = (ls : List (List ℕ)) (o : List ℕ) (e : End) → Sends m ls o e → (ks : List (List ℕ)) × (p : List ℕ) × Sends most_turns ks p e

pub sends_start : SendsOn most_turns
sends_start ls o e x = (ls, o, x)

sends_by : (m : ℕ) (ls : List (List ℕ)) (o : List ℕ) (e : End) → SendsOn m → Sends m ls o e → SentAll (all_sent e)
sends_by m ls o e f x = let y = f ls o e x in record { lines = y.0; output = y.1; end = e; sends = y.2; tells = sent_told e }

pub sends_spent : (m : ℕ) → m ≡ 0 → SendsOn m → SentAll (all_sent spent)
sends_spent m z f = sends_by m [] [] spent f (subst (λ (j : ℕ). Sends j [] [] spent) (sym z) no_turns)

module _ (m w : ℕ) (l out out' : List ℕ) (h : 0 < m) (f : SendsOn m) (t : Wrote 0 (sent (typed l)) out out' w) where
  one : suc (m - 1) ≡ m
  one = omega (arith, h)

  pub sends_more : SendsOn (m - 1)
  sends_more ls o e x =
      f (l ∷ ls) (sent (typed l) ++ o) e (subst (λ (j : ℕ). Sends j (l ∷ ls) (sent (typed l) ++ o) e) one (one_more x))

  pub sends_stop : SentAll (all_sent ended)
  sends_stop = sends_by m (l ∷ []) (sent (typed l)) ended f (subst (λ (j : ℕ). Sends j (l ∷ []) (sent (typed l)) ended) one last_line)

  pub sends_fail : SentAll (all_sent unsent)
  sends_fail = sends_by m (l ∷ []) (sent (typed l)) unsent f (subst (λ (j : ℕ). Sends j (l ∷ []) (sent (typed l)) unsent) one not_sent)
