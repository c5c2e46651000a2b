-- The typed requests: what a line says, as a function of its bytes.
--   max_line, max_number, max_text
--                         the limits
--   blank c               the byte parts words: space, tab or carriage return
--   skip s, trim s        the bytes s without the blanks in front, and without those at their end
--   word s, rest s        the first word of s, up to a blank or the end; and what follows it, from the next word on
--   same_bytes s t, empty s
--                         whether s and t are the same bytes, and whether s is none
--   figure c, all_figures w
--                         whether c is a decimal figure, and every byte of w
--   number_after v w, number_of w
--                         the number of the figures w after those of v, and of w alone
--   is_number w            whether the word w is figures, one or more, of a number up to 65,535
--   is_label w, label_of w  whether the word w is one letter, a to z; its label, 0 to 25
--   text s                what is sent of a question's text: s without the blanks at its end, at most 1,018 bytes
--   Typed                 what a line says: nothing, or a frame of a kind with a body
--   misfit                the frame of arguments that do not fit, an undo with a body, to which the program answers 14
--   fitting b k s         the frame of kind k with the body s, if the arguments fit
--   kind_named w           the kind of the request that the word w names, or 0
--   argued h k r          the frame of kind k, whose body has the shape h, for the bytes r after its word: none; a number and no more; FROM LETTER TO and no
--                         more; LETTER and no more; EXPRESSION; FROM TO EXPRESSION; a first word that is none of the requests has a frame of kind 0, to
--                         which the program answers 15
--   begun s               what the bytes s say from the first word on: nothing, a comment, or a request
--   typed s               what the line s says
-- Assumes nothing: these are definitions.
use Rattle.std.specs.Prelude.{List, [], ◌∷◌, ◌++◌, reverse, Bool, true, false, ◌&&◌, ◌||◌, ℕ, ◌+◌, ◌-◌, ◌*◌, length, take, drop, get_or, leb, ltb, eqb}
use Rattle.book.specs.Basics.{pick}
use Rattle.book.specs.Causes.{labels}
use Rattle.register.specs.History.{add_kind, remove_kind, lock_kind, unlock_kind, undo_kind, withdraw_kind, reinstate_kind}
use Rattle.report.specs.Report.{bytes, figure_0, letter_a, space}
use Rattle.session.specs.Program.{open_kind, pairs_kind, chain_kind, total_kind, two_bytes, shape_of}
use Rattle.session.specs.declared.Shape.{Shape}
use Rattle.session.specs.declared.Shape.TheVariants.{Empty, Record, Link, Size, Label, Expression, Ends, Unknown}

-- the bytes tab, carriage return and #
abbrev pub tab : ℕ
tab = 9

abbrev pub carriage_return : ℕ
carriage_return = 13

abbrev pub hash : ℕ
hash = 35

-- the limits: the most bytes of a line; the greatest number; the most bytes of a question's text, which a chain frame just holds
abbrev pub max_line : ℕ
max_line = 2047

abbrev pub max_number : ℕ
max_number = 65535

abbrev pub max_text : ℕ
max_text = 1018

-- ---- words
unfoldable pub blank : ℕ → Bool
blank c = eqb c space || (eqb c tab || eqb c carriage_return)

unfoldable pub skip : List ℕ → List ℕ
skip [] = []
skip (c ∷ s) = pick (blank c) (skip s) (c ∷ s)

unfoldable pub trim : List ℕ → List ℕ
trim s = reverse (skip (reverse s))

unfoldable pub word : List ℕ → List ℕ
word [] = []
word (c ∷ s) = pick (blank c) [] (c ∷ word s)

unfoldable pub rest : List ℕ → List ℕ
rest s = skip (drop (length (word s)) s)

unfoldable pub same_bytes : List ℕ → List ℕ → Bool
same_bytes [] [] = true
same_bytes [] (d ∷ t) = false
same_bytes (c ∷ s) [] = false
same_bytes (c ∷ s) (d ∷ t) = eqb c d && same_bytes s t

unfoldable pub empty : List ℕ → Bool
empty s = eqb (length s) 0

-- ---- arguments
unfoldable pub figure : ℕ → Bool
figure c = leb figure_0 c && ltb c (figure_0 + 10)

unfoldable pub all_figures : List ℕ → Bool
all_figures [] = true
all_figures (c ∷ w) = figure c && all_figures w

unfoldable pub number_after : ℕ → List ℕ → ℕ
number_after v [] = v
number_after v (c ∷ w) = number_after (v * 10 + (c - figure_0)) w

unfoldable pub number_of : List ℕ → ℕ
number_of w = number_after 0 w

unfoldable pub is_number : List ℕ → Bool
is_number w = ltb 0 (length w) && (all_figures w && leb (number_of w) max_number)

unfoldable pub is_label : List ℕ → Bool
is_label w = eqb (length w) 1 && (leb letter_a (get_or w 0 0) && ltb (get_or w 0 0) (letter_a + labels))

unfoldable pub label_of : List ℕ → ℕ
label_of w = get_or w 0 0 - letter_a

unfoldable pub text : List ℕ → List ℕ
text s = take max_text (trim s)

-- ---- requests
pub data Typed : Type 0 where
  nothing : Typed
  framed : ℕ → List ℕ → Typed

abbrev pub misfit : Typed
misfit = framed undo_kind (0 ∷ [])

abbrev pub fitting : Bool → ℕ → List ℕ → Typed
fitting fits k s = pick fits (framed k s) misfit

unfoldable pub kind_named : List ℕ → ℕ
kind_named w =
    pick (same_bytes w (bytes "open")) open_kind
    (pick (same_bytes w (bytes "add")) add_kind
    (pick (same_bytes w (bytes "remove")) remove_kind
    (pick (same_bytes w (bytes "lock")) lock_kind
    (pick (same_bytes w (bytes "unlock")) unlock_kind
    (pick (same_bytes w (bytes "undo")) undo_kind
    (pick (same_bytes w (bytes "pairs")) pairs_kind
    (pick (same_bytes w (bytes "chain")) chain_kind
    (pick (same_bytes w (bytes "total")) total_kind
    (pick (same_bytes w (bytes "withdraw")) withdraw_kind
    (pick (same_bytes w (bytes "reinstate")) reinstate_kind
    0))))))))))

unfoldable pub argued : Shape → ℕ → List ℕ → Typed
argued Empty k r = fitting (empty r) k []
argued Record k r = fitting (is_number (word r) && empty (rest r)) k (two_bytes (number_of (word r)))
argued Size k r = fitting (is_number (word r) && empty (rest r)) k (two_bytes (number_of (word r)))
argued Link k r =
    let x = word r in
    let l = word (rest r) in
    let y = word (rest (rest r)) in
    fitting (is_number x && (is_label l && (is_number y && empty (rest (rest (rest r)))))) k (two_bytes (number_of x) ++ (label_of l ∷ two_bytes (number_of y)))
argued Label k r = fitting (is_label (word r) && empty (rest r)) k (label_of (word r) ∷ [])
argued Expression k r = framed k (text r)
argued Ends k r =
    let x = word r in
    let y = word (rest r) in
    fitting (is_number x && is_number y) k (two_bytes (number_of x) ++ (two_bytes (number_of y) ++ text (rest (rest r))))
argued Unknown k r = framed 0 []

unfoldable pub begun : List ℕ → Typed
begun [] = nothing
begun (c ∷ s) = pick (eqb c hash) nothing (let k = kind_named (word (c ∷ s)) in argued (shape_of k) k (rest (c ∷ s)))

unfoldable pub typed : List ℕ → Typed
typed s = pick (ltb max_line (length s)) misfit (begun (skip s))
