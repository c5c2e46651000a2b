-- each arm prints its own text, and the list holds the steps. Assumes nothing.
use mathlib.Core.Path.{sym}
use Prim.Native.Nat.{◌≤◌}
use lib.Seq.{length-take-le}
use Rattle.report.specs.Report.{outcome_text}
use Rattle.answers.specs.Answers.{counted}
use Rattle.chains.specs.Replies.{outcome_of, chain_counted}
use Prim.Native.Nat.{ℕ, ◌≤◌}
use mathlib.Core.Path.{◌≡◌}
use Rattle.chains.specs.declared.ChainAnswer.{ChainAnswer}
use Rattle.chains.specs.declared.ChainAnswer.TheVariants.{Chain}
use Rattle.session.proofs.turns.put_reply.Goals as goal

fits : {a : ChainAnswer} {k n : ℕ} → counted (chain_counted a) ≤ n → a ≡ Chain k → k ≤ n
unfolding chain_counted counted
fits h e = rw e at h

pub slice_bounds-put_chain-end : goal.slice_bounds-put_chain-end
slice_bounds-put_chain-end c = sym (length-take-le _ _ (fits c.requires.0 c.in-Chain.is))

pub returns-in-Chain : goal.returns-in-Chain
unfolding outcome_text outcome_of
returns-in-Chain c = rw c.in-Chain.is c.put_chain.ensures

pub returns-in-NoChain : goal.returns-in-NoChain
unfolding outcome_text outcome_of
returns-in-NoChain c = rw c.in-NoChain.is c.put_none.ensures

pub returns-in-Refused : goal.returns-in-Refused
unfolding outcome_text outcome_of
returns-in-Refused c = rw c.in-Refused.is c.put_refused.ensures
