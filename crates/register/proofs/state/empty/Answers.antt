-- `register::state::empty` meets its contract: no words show no links, and each record's mark is that of one in use. Assumes nothing.
use mathlib.Core.Path.{refl}
use mathlib.Core.Bool.{false≢true}
use native.Mathlib.Omega.{arith}
use Rattle.book.specs.Basics.{has, tally, ended}
use Rattle.book.specs.Book.{fresh, total}
use Rattle.book.proofs.BookLaws.{fresh_sound}
use Rattle.book.proofs.ListLaws.{in_none}
use Rattle.links.specs.Parts.{word_total}
use Rattle.register.specs.Packed.{Piled}
use Rattle.register.specs.Representation.{latest}
use Rattle.register.proofs.SheetLaws.{replicate_at}
use Rattle.register.proofs.state.empty.Goals as goal

pub returns : goal.returns
unfolding fresh has Piled latest total word_total tally
returns c = record {
  size = refl;
  ranged = record { size = c.requires; count = omega arith; top = omega arith; held = omega arith };
  sheet = record {
    links = record { ascending = ended; sound = λ w i. absurd (in_none i refl); whole = λ k e. absurd (false≢true e) };
    count = refl;
    totals = λ l. refl;
    marks = replicate_at 0 1024;
    fit = (fresh_sound _ c.requires).sheet;
  };
  pile = tt;
  totals = λ l h. replicate_at 0 26 l;
}
