-- The lines of the sample (S7.8) and a few others, each by computation.
--   lines_printed   a table: a text, and the bytes that it must be
-- Assumes nothing.
use Rattle.std.specs.Prelude.{◌≡◌, refl, List, [], ◌∷◌, map, Bool, true, false, ℕ}
use Prim.Native.String.{String}
use Rattle.book.specs.Causes.{bad_label, locked_end, not_open, number}
use Rattle.k2.specs.PairSets.{pair_word}
use Rattle.paths.specs.Chains.{step_word, none, chain}
use Rattle.paths.specs.Questions.{refused, paired, replied}
use Rattle.report.specs.Report.{bytes, figures, decimal, label_letter, sense_sign, pair_line, step_line, lines, counted, ok_text, none_text, refused_text}
use Rattle.report.specs.Report.{pairs_text, chain_text, answer_text, total_text, outcome_text}

abbrev step : ℕ → Bool → ℕ → ℕ
step l i r = step_word (record { spelt = record { label = l; inverted = i }; reached = r })

unfoldable pub table : List (List ℕ × String)
table =
    (answer_text 0, "ok\n") ∷
    (answer_text (number locked_end), "refused 4\n") ∷
    (total_text 0 4096, "total 4096\n") ∷
    (total_text (number bad_label) 0, "refused 3\n") ∷
    (outcome_text (refused (number not_open)), "refused 16\n") ∷
    (outcome_text (paired 4 (pair_word 0 0 ∷ pair_word 0 2 ∷ pair_word 2 0 ∷ pair_word 2 2 ∷ [])), "pairs 4\n0 0\n0 2\n2 0\n2 2\n") ∷
    (outcome_text (paired 0 []), "pairs 0\n") ∷
    (outcome_text (paired 2 (pair_word 9 10 ∷ pair_word 1023 0 ∷ [])), "pairs 2\n9 10\n1023 0\n") ∷
    (outcome_text (paired 3 (pair_word 0 1 ∷ [])), "pairs 3\n0 1\n") ∷
    (outcome_text (replied (chain (step 0 false 1 ∷ step 1 false 3 ∷ []))), "chain 2\na + 1\nb + 3\n") ∷
    (outcome_text (replied (chain (step 25 true 1000 ∷ []))), "chain 1\nz - 1000\n") ∷
    (outcome_text (replied (chain [])), "chain 0\n") ∷
    (outcome_text (replied none), "none\n") ∷ []

pub lines_printed : map (λ t. t.0) table ≡ map (λ t. bytes t.1) table
unfolding table bytes number figures decimal label_letter sense_sign pair_line step_line lines counted ok_text none_text refused_text pairs_text chain_text
    answer_text total_text outcome_text
lines_printed = refl
