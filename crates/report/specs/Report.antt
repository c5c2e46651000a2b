-- The lines that the program prints, as bytes in ASCII.
--   bytes t         the bytes of a text
--   decimal n       the decimal figures of n, with no zero in front; 0 is 0
--   line t          the text t as a line
--   pair_line w      the line of a pair word: from and to
--   step_line w      the line of a step word: letter, + forward or - against, record reached
--   lines f ws      such a line for each word
--   ok_text, none_text, refused_text k, pairs_text total ws, chain_text ws
--                   what stands for: accepted; no chain; refused with the number k; so many pairs, of which ws are the pair words listed; a chain of the
--                   step words ws
--   answer_text k    the text of an edit's answer, 0 if it is accepted, else the number
--   total_text k t   the text of the answer to asking for a total: the total t if the number k is 0, else refused with k
--   outcome_text o   the text of a question's outcome
-- Assumes nothing: these are definitions.
use Rattle.std.specs.Prelude.{List, [], ◌∷◌, ◌++◌, ℕ, zero, suc, ◌+◌, ◌/◌, ◌%◌, length, ltb, eqb}
use Prim.Native.Char.{code}
use Prim.Native.String.{String, [] as end, ◌∷◌ as then}
use Rattle.book.specs.Basics.{pick}
use Rattle.book.specs.Causes.{labels}
use Rattle.paths.specs.Chains.{none, chain}
use Rattle.paths.specs.Questions.{Outcome, refused, paired, replied}

unfoldable pub bytes : String → List ℕ
bytes end = []
bytes (then c s) = code c ∷ bytes s

-- the bytes 0, a, space, newline, + - ?
abbrev pub figure_0 : ℕ
figure_0 = 48

abbrev pub letter_a : ℕ
letter_a = 97

abbrev pub space : ℕ
space = 32

abbrev pub newline : ℕ
newline = 10

abbrev pub plus_sign : ℕ
plus_sign = 43

abbrev pub minus_sign : ℕ
minus_sign = 45

abbrev pub question_mark : ℕ
question_mark = 63

-- the last f figures of n at most
unfoldable pub figures : ℕ → ℕ → List ℕ
figures zero n = []
figures (suc f) n = pick (ltb n 10) ((figure_0 + n) ∷ []) (figures f (n / 10) ++ ((figure_0 + n % 10) ∷ []))

-- a number has at most as many figures as one more than itself
unfoldable pub decimal : ℕ → List ℕ
decimal n = figures (suc n) n

abbrev pub line : List ℕ → List ℕ
line t = t ++ (newline ∷ [])

unfoldable pub pair_line : ℕ → List ℕ
pair_line w = line (decimal (w / 1024) ++ (space ∷ decimal (w % 1024)))

-- the letter of a label, a to z; a number above 25 is no label
unfoldable pub label_letter : ℕ → ℕ
label_letter k = pick (ltb k labels) (letter_a + k) question_mark

unfoldable pub sense_sign : ℕ → ℕ
sense_sign s = pick (eqb s 0) plus_sign minus_sign

unfoldable pub step_line : ℕ → List ℕ
step_line w = line (label_letter (w / 1024 / 2) ∷ space ∷ sense_sign (w / 1024 % 2) ∷ space ∷ decimal (w % 1024))

unfoldable pub lines : (ℕ → List ℕ) → List ℕ → List ℕ
lines f [] = []
lines f (w ∷ ws) = f w ++ lines f ws

-- a line of a name and a number
unfoldable pub counted : List ℕ → ℕ → List ℕ
counted name k = line (name ++ decimal k)

unfoldable pub ok_text : List ℕ
ok_text = line (bytes "ok")

unfoldable pub none_text : List ℕ
none_text = line (bytes "none")

unfoldable pub refused_text : ℕ → List ℕ
refused_text k = counted (bytes "refused ") k

unfoldable pub pairs_text : ℕ → List ℕ → List ℕ
pairs_text total ws = counted (bytes "pairs ") total ++ lines pair_line ws

unfoldable pub chain_text : List ℕ → List ℕ
chain_text ws = counted (bytes "chain ") (length ws) ++ lines step_line ws

unfoldable pub answer_text : ℕ → List ℕ
answer_text zero = ok_text
answer_text (suc k) = refused_text (suc k)

unfoldable pub total_text : ℕ → ℕ → List ℕ
total_text zero t = counted (bytes "total ") t
total_text (suc k) t = refused_text (suc k)

unfoldable pub outcome_text : Outcome → List ℕ
outcome_text (refused k) = refused_text k
outcome_text (paired total ws) = pairs_text total ws
outcome_text (replied none) = none_text
outcome_text (replied (chain ws)) = chain_text ws
