-- `register::Register::without` meets its contract: contents out of range come back as they were; else by `without_represents` with what `keep_apart`
-- promises. Assumes nothing.
use mathlib.Core.Path.{◌≡◌, refl}
use native.Mathlib.Omega.{arith}
use borrow.Author.Rules.{rules}
use lib.ListN.{length}
use Rattle.register.proofs.StepLaws.{inside}
use Rattle.register.proofs.WithoutLaws.{without_represents}
use Rattle.register.proofs.Register.without.Goals as goal
use Rattle.register.proofs.Register.without.Goals.{Start}

links_long : (c : Start) → length c.args.self.links ≡ 4096
links_long c = search rules

pub returns : goal.returns
returns c =
    let i = inside c.args.self c.ranged.result c.ranged.ensures c.if-not-ranged.false in
    record {
      foreign = λ o. absurd (o i);
      marks = refl;
      book = λ b h.
          without_represents c.args.«record» (omega (arith, links_long ((goal.at.returns c).Start), i.count))
          (record { n = refl; kept = c.keep_apart-rest.ensures; marks = refl; top = refl; held = refl }) h;
    }
