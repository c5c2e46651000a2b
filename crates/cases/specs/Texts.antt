-- Texts and the number that their verdict gives, 0 for an expression: the faults of S3.4 and the limits of S8.2, negated sets among them, each by computation.
--   rated          the number of the verdict on a text
--   repeated k u   the bytes u, k times
--   texts          a table of texts with their numbers; texts_rated says that they are those
-- Assumes nothing.
use Rattle.std.specs.Prelude.{◌≡◌, refl, List, [], ◌∷◌, ◌++◌, map, ℕ, zero, suc}
use Rattle.book.specs.Causes.{number, first_number}
use Rattle.paths.specs.Expressions.{letters, depth}
use Rattle.paths.specs.Grammar.{verdict_cause}
use Rattle.paths.specs.Descent.{members_in, alternatives_in, read_alternatives}
use Rattle.paths.specs.Verdicts.{verdict}
use Rattle.cases.specs.Tables.{bytes}

unfoldable pub rated : List ℕ → ℕ
rated s = first_number (verdict_cause (verdict s))

unfoldable pub repeated : ℕ → List ℕ → List ℕ
repeated zero u = []
repeated (suc k) u = u ++ repeated k u

unfoldable pub texts : List (List ℕ × ℕ)
texts =
    (bytes "^a*", 0) ∷ (bytes "^(a/b)", 0) ∷ (bytes "(a|b)+/c?", 0) ∷
    (bytes "", 9) ∷ (bytes "()", 9) ∷ (bytes "a**", 9) ∷ (bytes "^^a", 9) ∷ (bytes " a", 9) ∷ (bytes "A", 9) ∷
    (bytes "a//b", 9) ∷ (bytes "|a", 9) ∷ (bytes "a|", 9) ∷ (bytes "(a", 9) ∷ (bytes "a)", 9) ∷
    -- 63 letters pass, 64 give 10, and 64 with a fault give 9
    (repeated 62 (bytes "a/") ++ bytes "a", 0) ∷
    (repeated 63 (bytes "a/") ++ bytes "a", 10) ∷
    (repeated 63 (bytes "a/") ++ bytes "a)", 9) ∷
    -- depth 8 passes, 9 gives 10, and nine groups that are not closed give 9
    (repeated 8 (bytes "(") ++ (bytes "a" ++ repeated 8 (bytes ")")), 0) ∷
    (repeated 9 (bytes "(") ++ (bytes "a" ++ repeated 9 (bytes ")")), 10) ∷
    (repeated 9 (bytes "(") ++ bytes "a", 9) ∷
    -- negated sets, plain, inverted and of many members, repeated ones too; ^ before them and a mark after
    (bytes "!a", 0) ∷ (bytes "!^a", 0) ∷ (bytes "!(a)", 0) ∷ (bytes "!(^a)", 0) ∷ (bytes "!(a|^b|c)", 0) ∷ (bytes "!(a|a)", 0) ∷
    (bytes "^!a", 0) ∷ (bytes "^!^a", 0) ∷ (bytes "!a*", 0) ∷ (bytes "^!(a|b)+", 0) ∷ (bytes "!(a|b)/c|!d?", 0) ∷ (bytes "(!(a|b))*", 0) ∷
    (bytes "!(a|b|c|d|e|f|g|h|i|j|k|l|m|n|o|p|q|r|s|t|u|v|w|x|y|z)", 0) ∷
    -- their faults
    (bytes "!", 9) ∷ (bytes "!()", 9) ∷ (bytes "!(a", 9) ∷ (bytes "!(a|", 9) ∷ (bytes "!(a|)", 9) ∷ (bytes "!(|a)", 9) ∷ (bytes "!((a))", 9) ∷
    (bytes "!(a*)", 9) ∷ (bytes "!a**", 9) ∷ (bytes "!(a/b)", 9) ∷ (bytes "!(!a)", 9)
    ∷ (bytes "!!a", 9) ∷ (bytes "!^^a", 9) ∷ (bytes "^^!a", 9) ∷ (bytes "!*", 9) ∷ (bytes "!A", 9) ∷
    (bytes "a!", 9) ∷ (bytes "!(a b)", 9) ∷ (bytes "!(^)", 9) ∷
    -- a set's parentheses are no group: eight groups around one pass, nine give 10
    (repeated 8 (bytes "(") ++ (bytes "!(a|b)" ++ repeated 8 (bytes ")")), 0) ∷
    (repeated 9 (bytes "(") ++ (bytes "!(a|b)" ++ repeated 9 (bytes ")")), 10) ∷
    -- a set is one letter: 63 pass, 64 give 10; 36 with 71 members pass
    (repeated 62 (bytes "!a/") ++ bytes "!a", 0) ∷
    (repeated 63 (bytes "!a/") ++ bytes "!a", 10) ∷
    (repeated 35 (bytes "!(a|b)/") ++ bytes "!a", 0) ∷
    -- 257 bytes of anything give 10
    (repeated 257 (bytes " "), 10) ∷
    (repeated 256 (bytes " "), 9) ∷ []

pub texts_rated : map (λ t. rated t.0) texts ≡ map (λ t. t.1) texts
unfolding texts rated repeated bytes first_number number verdict_cause verdict read_alternatives alternatives_in members_in letters depth
texts_rated = refl
