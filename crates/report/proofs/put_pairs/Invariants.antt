-- The lines of the first i words are written, and there is room for the others.
use Rattle.report.specs.Report.{pair_line}
use Rattle.report.proofs.ReportLaws.{Lined}
use Rattle.report.proofs.put_pairs.Given as goal

abbrev pub invariant-loop-i : goal.invariant-loop-i
invariant-loop-i l = Lined pair_line 13 l.words l.initial.end l.initial.out l.i l.end l.out
