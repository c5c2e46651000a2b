-- Each refusal by the causes' order, and the ends that `sought` lists (AskLaws).
use Rattle.std.proofs.Common.{◌≡◌, ◌-◌, arith}
use Rattle.reader.specs.ReadsLaws.{reads_accepted, reads_refused}
use Rattle.ends.proofs.AskLaws.{refuses_record, refuses_text, asks_ends}
use Rattle.ends.proofs.joined_over.Goals as goal

pub returns-then-marks-x : goal.returns-then-marks-x
returns-then-marks-x c = let a = c.args in λ self L. refuses_record a.against _ a.text.now L.size c.if-marks-x.true

pub slice_bounds-sought-end : goal.slice_bounds-sought-end
slice_bounds-sought-end c =
    let a = reads_accepted c.read-reading.ensures c.in-Accepted.is in
    omega (arith, a.1.fits)

pub sought-requires : goal.sought-requires
sought-requires c =
    let a = reads_accepted c.read-reading.ensures c.in-Accepted.is in
    let part : c.in-Accepted.k - 0 ≡ c.in-Accepted.k = omega arith in
    record { few = c.requires.0; few_links = c.requires.1; inside = c.if-marks-x.false; coded = (c.args.text.now, a.0, a.1.limits, rw part a.1.front) }

pub returns-in-Refused : goal.returns-in-Refused
returns-in-Refused c =
    let r = reads_refused c.read-reading.ensures c.in-Refused.is in
    let a = c.args in
    λ self L. refuses_text a.against _ a.text.now L.size c.if-marks-x.false _ r.0 r.1.0

pub returns-in-Accepted : goal.returns-in-Accepted
returns-in-Accepted c =
    let s = c.args in
    let a = reads_accepted c.read-reading.ensures c.in-Accepted.is in
    let part : c.in-Accepted.k - 0 ≡ c.in-Accepted.k = omega arith in
    let f = c.sought.ensures in
    λ self L. asks_ends s.against _ s.text.now L.size c.if-marks-x.false a.0 a.1.is f.1 f.2 f.3
    (λ b R. f.4 s.text.now a.0 a.1.limits (rw part a.1.front) self b R L)
