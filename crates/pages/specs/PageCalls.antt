-- What printing and reading promise.
--   filled ws           the outcome that hands the words ws over whole
--   print_causes b text work room, print_outcome b text work room
--                       the causes against printing, in their order, and its outcome, with so many words of work and room for so many bytes: the pair
--                       question's own causes, then a space that cannot hold every page; the pages of the text and its pairs
--   Prints r text work before after a
--                       asked of the register r, with a space that held `before`: the answer tells how many bytes the pages are, and the space has them
--   ReadsPages text bytes before after a
--                       of lent bytes and a list that held `before`: refused for the text, with its verdict's number; refused with 14 for bytes that are the
--                       pages of the text and of no list; else the list, or refused with 13 if it is longer than the lent one, which holds `after`
-- Assumes nothing: these are definitions.
use Rattle.std.specs.Prelude.{◌≡◌, List, [], ◌∷◌, ◌++◌, Bool, ℕ, suc, ltb, length}
use Rattle.book.specs.Causes.{Cause, broken_frame, short_list, number, first_number}
use Rattle.book.specs.Book.{Book}
use Rattle.paths.specs.Grammar.{verdict_cause}
use Rattle.paths.specs.Verdicts.{verdict}
use Rattle.answers.specs.declared.Counted.{Counted}
use Rattle.paths.specs.Questions.{Outcome, refused, by_trees, paired, unless, pairs_of, pairs_causes, Tells}
use Rattle.register.specs.declared.Register.{Register}
use Rattle.query.specs.Asking.{Asks}
use Rattle.pages.specs.Pages.{pages, IsPages}

abbrev pub filled : List ℕ → Outcome
filled ws = paired (length ws) ws

-- ---- printing
unfoldable pub print_causes : Book → List ℕ → ℕ → ℕ → List (Cause × Bool)
print_causes b text work room =
    pairs_causes by_trees b (verdict text) work ++ ((short_list, ltb room (length (pages text (pairs_of b (verdict text))))) ∷ [])

unfoldable pub print_outcome : Book → List ℕ → ℕ → ℕ → Outcome
print_outcome b text work room = unless (first_number (print_causes b text work room)) (filled (pages text (pairs_of b (verdict text))))

abbrev pub Prints : Register → List ℕ → ℕ → List ℕ → List ℕ → Counted → Type 0
Prints r text work before after a = Asks (length before) r (λ b. print_outcome b text work (length before)) before after a

-- ---- reading
pub data ReadsPages (text bytes before after : List ℕ) (a : Counted) : Type 0 where
  faulty_text : {k : ℕ} → first_number (verdict_cause (verdict text)) ≡ suc k → Tells (refused (suc k)) before after a → ReadsPages text bytes before after a
  not_pages : first_number (verdict_cause (verdict text)) ≡ 0 → ((l : List ℕ) → IsPages text bytes l → ⊥)
      → Tells (refused (number broken_frame)) before after a → ReadsPages text bytes before after a
  given_pages : (l : List ℕ) → first_number (verdict_cause (verdict text)) ≡ 0 → IsPages text bytes l
      → Tells (unless (first_number ((short_list, ltb (length before) (length l)) ∷ [])) (filled l)) before after a → ReadsPages text bytes before after a
