-- Each return by the verdict's law for it.
use Rattle.paths.proofs.VerdictLaws.{verdict_long, verdict_none}
use Rattle.reader.proofs.StepLaws.{gave, missed}
use Rattle.reader.proofs.AnswerLaws.{refuses_long, refuses_outside, refuses_large, more_bytes, many_letters, too_deep, accepts}
use Rattle.reader.proofs.whole.Goals as goal

pub returns-then-s-gt-MAX_BYTES : goal.returns-then-s-gt-MAX_BYTES
returns-then-s-gt-MAX_BYTES c = refuses_long (verdict_long _ c.if-s-gt-MAX_BYTES.true) c.refused.ensures

pub returns-in_default : goal.returns-in_default
returns-in_default c =
    refuses_outside (verdict_none _ c.if-s-gt-MAX_BYTES.false (missed c.in_default.is c.alternatives-r.ensures)) c.refused-in_default.ensures

pub returns-then-q-s : goal.returns-then-q-s
returns-then-q-s c =
    refuses_outside (more_bytes c.if-s-gt-MAX_BYTES.false (gave c.in-Got.is c.alternatives-r.ensures) c.if-q-s.true) c.refused-then-q-s.ensures

pub returns-then-q-gt-MAX_LETTERS : goal.returns-then-q-gt-MAX_LETTERS
returns-then-q-gt-MAX_LETTERS c =
    refuses_large (many_letters c.if-s-gt-MAX_BYTES.false (gave c.in-Got.is c.alternatives-r.ensures) c.if-q-s.false c.if-q-gt-MAX_LETTERS.true)
    c.refused-then-q-gt-MAX_LETTERS.ensures

pub returns-then-q-gt-MAX_DEPTH : goal.returns-then-q-gt-MAX_DEPTH
returns-then-q-gt-MAX_DEPTH c =
    refuses_large
    (too_deep c.if-s-gt-MAX_BYTES.false (gave c.in-Got.is c.alternatives-r.ensures) c.if-q-s.false c.if-q-gt-MAX_LETTERS.false c.if-q-gt-MAX_DEPTH.true)
    c.refused-then-q-gt-MAX_DEPTH.ensures

pub returns : goal.returns
returns c =
    accepts c.if-s-gt-MAX_BYTES.false (gave c.in-Got.is c.alternatives-r.ensures) c.if-q-s.false c.if-q-gt-MAX_LETTERS.false c.if-q-gt-MAX_DEPTH.false
