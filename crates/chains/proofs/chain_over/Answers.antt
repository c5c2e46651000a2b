-- Each refusal by the causes' order, and the search's answer by what a reply is (ReplyLaws).
use Rattle.std.proofs.Common.{◌≡◌, ◌-◌, inl, inr, arith}
use Rattle.reader.specs.ReadsLaws.{reads_accepted, reads_refused}
use Rattle.chains.proofs.ReplyLaws.{refuses_record, refuses_text, refuses_work, replies_as, replies}
use Rattle.chains.proofs.chain_over.Goals as goal

pub returns-then-n-x : goal.returns-then-n-x
returns-then-n-x c = λ self L. refuses_record L.size (inl c.if-n-x.true)

pub returns-then-n-y : goal.returns-then-n-y
returns-then-n-y c = λ self L. refuses_record L.size (inr c.if-n-y.true)

pub returns-then-work-n : goal.returns-then-work-n
returns-then-work-n c =
    let a = reads_accepted c.read-reading.ensures c.in-Accepted.is in
    λ self L. refuses_work L.size c.if-n-x.false c.if-n-y.false a.0 a.1.is c.if-work-n.true

pub slice_bounds-sought-end : goal.slice_bounds-sought-end
slice_bounds-sought-end c =
    let a = reads_accepted c.read-reading.ensures c.in-Accepted.is in
    omega (arith, a.1.fits)

pub sought-found-requires : goal.sought-found-requires
sought-found-requires c =
    let a = reads_accepted c.read-reading.ensures c.in-Accepted.is in
    let part : c.in-Accepted.k - 0 ≡ c.in-Accepted.k = omega arith in
    record {
      few = c.requires.0;
      few_links = c.requires.1;
      from_in = c.if-n-x.false;
      to_in = c.if-n-y.false;
      lent = omega arith;
      coded = (c.args.text.now, a.0, a.1.limits, rw part a.1.front);
    }

pub returns-in-Refused : goal.returns-in-Refused
returns-in-Refused c =
    let r = reads_refused c.read-reading.ensures c.in-Refused.is in
    λ self L. refuses_text L.size c.if-n-x.false c.if-n-y.false _ r.0 r.1.0

pub returns-in-Steps : goal.returns-in-Steps
returns-in-Steps c =
    let a = reads_accepted c.read-reading.ensures c.in-Accepted.is in
    let part : c.in-Accepted.k - 0 ≡ c.in-Accepted.k = omega arith in
    let s = c.sought-found in
    λ self L. replies_as c.in-Steps.is
    (replies L.size c.if-n-x.false c.if-n-y.false a.0 a.1.is c.if-work-n.false s.ensures.0 s.auto.list
    (λ b R. s.ensures.1 c.args.text.now a.0 a.1.limits (rw part a.1.front) self b R L))

pub returns-in-Nowhere : goal.returns-in-Nowhere
returns-in-Nowhere c =
    let a = reads_accepted c.read-reading.ensures c.in-Accepted.is in
    let part : c.in-Accepted.k - 0 ≡ c.in-Accepted.k = omega arith in
    let s = c.sought-found in
    λ self L. replies_as c.in-Nowhere.is
    (replies L.size c.if-n-x.false c.if-n-y.false a.0 a.1.is c.if-work-n.false s.ensures.0 s.auto.list
    (λ b R. s.ensures.1 c.args.text.now a.0 a.1.limits (rw part a.1.front) self b R L))

pub returns-in-Short : goal.returns-in-Short
returns-in-Short c =
    let a = reads_accepted c.read-reading.ensures c.in-Accepted.is in
    let part : c.in-Accepted.k - 0 ≡ c.in-Accepted.k = omega arith in
    let s = c.sought-found in
    λ self L. replies_as c.in-Short.is
    (replies L.size c.if-n-x.false c.if-n-y.false a.0 a.1.is c.if-work-n.false s.ensures.0 s.auto.list
    (λ b R. s.ensures.1 c.args.text.now a.0 a.1.limits (rw part a.1.front) self b R L))
