-- `tree_identity_in` has the records below n marked, and each of them joined to itself (`identity_made`). Assumes nothing.
use mathlib.Core.Path.{◌≡◌}
use lib.ListN.{length}
use Rattle.bits.specs.BitSetLaws.{bits_none}
use Rattle.test_trees.proofs.MarkLaws.{identity_made}
use Rattle.test_trees.proofs.tree_identity_in.Goals as goal

pub returns : goal.returns
returns c =
    let g = c.args in
    let m = c.mark in
    let k : length m.new.used ≡ 16 = m.auto.used in
    identity_made g.n g.left m.new.used g.work.now _ _ k (m.ensures (bits_none 16)) c.on_trees.ensures
