-- The chain question on the text of the loops, whose first chain is the first loop (`looped`). Assumes nothing.
use Rattle.std.proofs.Common.{arith, ◌≡◌, ◌-◌, ◌∙◌, ap, ℕ, take}
use Rattle.generations.proofs.AnswerLaws.{looped}
use Rattle.generations.proofs.first_loop.Goals as goal

pub returns-in-Chain : goal.returns-in-Chain
returns-in-Chain c =
    let p = c.put_text-bytes in
    let part : p.result - 0 ≡ p.result = omega arith in
    let all = looped c.chain-answer.ensures (ap (λ (k : ℕ). take k p.new.text) part ∙ p.ensures.1) in
    rw c.in-Chain.is at all

pub returns-in-NoChain : goal.returns-in-NoChain
returns-in-NoChain c =
    let p = c.put_text-bytes in
    let part : p.result - 0 ≡ p.result = omega arith in
    let all = looped c.chain-answer.ensures (ap (λ (k : ℕ). take k p.new.text) part ∙ p.ensures.1) in
    rw c.in-NoChain.is at all

pub returns-in-Refused : goal.returns-in-Refused
returns-in-Refused c =
    let p = c.put_text-bytes in
    let part : p.result - 0 ≡ p.result = omega arith in
    let all = looped c.chain-answer.ensures (ap (λ (k : ℕ). take k p.new.text) part ∙ p.ensures.1) in
    rw c.in-Refused.is at all
