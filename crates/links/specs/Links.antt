-- A sheet's links as ascending numbers, as the register keeps them and the questions read them.
--   link_word k      (label × 1,024 + from) × 1,024 + to: by label, then from, then to, so that the links of one label stand together
--   Linked ws s     ws are the words of the links of the sheet s, ascending, each once
-- Assumes nothing: these are definitions.
use Rattle.std.specs.Prelude.{◌≡◌, List, true, ℕ, ◌+◌, ◌*◌}
use Rattle.book.specs.Basics.{In, Rises}
use Rattle.book.specs.Book.{Link, Sheet, present}

abbrev pub link_word : Link → ℕ
link_word k = (k.label * 1024 + k.from) * 1024 + k.to

pub record Linked (ws : List ℕ) (s : Sheet) : Type 0 where
  pub ascending : Rises 0 ws
  pub sound : (w : ℕ) → In w ws → (k : Link) × (w ≡ link_word k) × (present s k ≡ true)
  pub whole : (k : Link) → present s k ≡ true → In (link_word k) ws
