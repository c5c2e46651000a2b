-- name by name, from the last to the first, the kind is that of the definition. Assumes nothing.
use Rattle.report.specs.Report.{bytes}
use Rattle.lines.specs.Typed.{kind_named}
use Rattle.lines.proofs.requests.kind_of.Goals as goal

pub returns : goal.returns
unfolding kind_named bytes
returns c =
    rw (
      c.named.ensures,
      c.named-kind-10.ensures,
      c.named-kind-9.ensures,
      c.named-kind-8.ensures,
      c.named-kind-7.ensures,
      c.named-kind-6.ensures,
      c.named-kind-5.ensures,
      c.named-kind-4.ensures,
      c.named-kind-3.ensures,
      c.named-kind-2.ensures,
      c.named-kind.ensures,
    )
