-- One part waits when the code has been run, and with the start its tables are those of the automaton (`masked`).
use Rattle.std.proofs.Common.{ℕ, rules}
use Rattle.std.proofs.lemmas.List.{length-replicate}
use Rattle.k2.specs.BitLaws.{zeros_at}
use Rattle.tables.proofs.RunLaws.{masked, masked_sense}
use Rattle.tables.proofs.tables_of.Goals as goal

pub built-s-requires : goal.built-s-requires
built-s-requires c =
    let long = length-replicate {A = ℕ} 64 0 in (
      record { follow_long = long; pred_long = long; enter_long = long },
      record { no_follow = zeros_at 64; no_pred = zeros_at 64; no_enter = zeros_at 64 },
      c.requires,
    )

pub returns : goal.returns
returns c =
    λ text e L q. let A = c.built-s.ensures text e L q in
    masked_sense c.args.against L.syntax (masked {m = A.0} A.1 (search rules) c.with_edges.ensures)
