-- The steps fit the list, as `chain` promises.
use Rattle.std.proofs.Common.{arith}
use Rattle.answers.specs.Answers.{counted}
use Rattle.chains.specs.Replies.{chain_counted}
use Rattle.test_chains.proofs.lent.Goals as goal

pub print_steps-requires : goal.print_steps-requires
unfolding chain_counted counted
print_steps-requires c =
    let fits = c.chain-answer.ensures.contained.fits in
    let steps = rw c.in-Chain.is at fits in
    let same = c.chain-answer.auto.list in
    omega arith
