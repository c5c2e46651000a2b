-- The lines of the first i words are written, and there is room for the others.
use Rattle.report.specs.Report.{step_line}
use Rattle.report.proofs.ReportLaws.{Lined}
use Rattle.report.proofs.put_chain.Given as goal

abbrev pub invariant-loop-i : goal.invariant-loop-i
invariant-loop-i l = Lined step_line 9 l.words l.initial.end l.initial.out l.i l.end l.out
