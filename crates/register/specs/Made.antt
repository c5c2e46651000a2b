-- A register that calls made: what every promise of a register is for.
--   MadeBy n cs r   the calls cs, refused ones too, made the register r from a fresh one of n records, n from 1 to 1,024: the results of opening and of each
--                   call meet their promises
-- Assumes nothing: these are definitions.
use Rattle.std.specs.Prelude.{List, ℕ, ◌≤◌}
use Rattle.book.specs.Causes.{max_records}
use Rattle.book.specs.Book.{Call}
use Rattle.register.specs.Calls.{Opens}
use Rattle.register.specs.History.{Lent, CallsMade}
use Rattle.register.specs.declared.Register.{Register}
use Rattle.register.specs.declared.Outcome.{Outcome}

pub record MadeBy (n : ℕ) (cs : List Call) (r : Register) : Type 0 where
  pub some : 1 ≤ n
  pub few : n ≤ max_records
  pub opened : Outcome
  pub opens : Opens n opened
  pub told : List ℕ
  pub lists : List Lent
  pub calls : CallsMade opened.register cs told lists r
