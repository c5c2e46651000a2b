-- What a question gives, with its records renamed.
--   renamed_pair f w a pair's word with both records renamed: x is called f x
--   renamed_step f w a step's word with the record reached renamed
--   renamed_reply f t, renamed_outcome f o
--                   the reply to a chain question, and the outcome of either question, so
--   new_number b x   the new number of the record x when the book b is closed up
-- Assumes nothing: these are definitions.
use Rattle.std.specs.Prelude.{map, ℕ, ◌+◌, ◌*◌, ◌/◌, ◌%◌}
use Rattle.book.specs.Causes.{max_records}
use Rattle.book.specs.Book.{Book, used, rank}
use Rattle.k2.specs.PairSets.{pair_word}
use Rattle.paths.specs.Chains.{Reply, none, chain}
use Rattle.paths.specs.Questions.{Outcome, refused, paired, replied}

abbrev pub renamed_pair : (ℕ → ℕ) → ℕ → ℕ
renamed_pair f w = pair_word (f (w / max_records)) (f (w % max_records))

abbrev pub renamed_step : (ℕ → ℕ) → ℕ → ℕ
renamed_step f w = w / max_records * max_records + f (w % max_records)

unfoldable pub renamed_reply : (ℕ → ℕ) → Reply → Reply
renamed_reply f none = none
renamed_reply f (chain ws) = chain (map (renamed_step f) ws)

unfoldable pub renamed_outcome : (ℕ → ℕ) → Outcome → Outcome
renamed_outcome f (refused k) = refused k
renamed_outcome f (paired total ws) = paired total (map (renamed_pair f) ws)
renamed_outcome f (replied t) = replied (renamed_reply f t)

abbrev pub new_number : Book → ℕ → ℕ
new_number b x = rank (used b.n b.sheet) x
