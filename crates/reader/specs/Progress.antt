-- What the inner readers ask and what they have done when they return. They are told by the descent on lists: a reader over the text s from the place at on
-- finds what the descent finds in the bytes from there on, and writes its code from the place n on.
--   Found s at n before after e q
--                      e is read from the place at to q's, and its code written: the code's array was `before` and is `after`
--   Done k s at n before after x r
--                      r is what x is, where k is what is left to do: `got` if nothing is
--   Stands s at x r    r is the symbol that x is: it is read from the place at on, and its letters are those that it stands for
--   label_at c          the label of a letter's byte, as a set; the empty set of any other byte
--   Marks b w x        the set x has the labels of those members w of a negated set that have the sense b; Marked w q says so of both
--   MemberAt s at w r  r is the member at the place at, if there is one, put to the members w
--   others_of x         the labels that a negated set stands for in a sense where its members have the labels x: none if it has no member of that sense
--   Asks s at n code   what an inner reader asks: the code is not ahead of the text, and is no shorter
--   Fits, RoomToJoin, RoomToWrap, RoomToWrite
--                      what the steps after a reading ask
--   Infix              the two operators that stand between expressions; of each the byte, the number, the expression that it makes of two, and what the
--                      descent reads: between two of its bytes, in all, and from the first on
--   comes_next s r b, spot_of r
--                      whether the byte b comes after what was read, and where that ends
--   bytes_left s r      a number that falls with each turn of a loop
--   Joins x first next code code' r
--                      r is `first` and `next` as one expression, joined by the operator of number x
--   Since o s at n first₀ code₀ first code
--                      `first` is what the operator's loop has read, told from what was read before it
--   mark_of s r         the number of the mark after what was read, or no-mark
--   wrap x passed r, wrap_code x r code
--                      what was read with the operator x on it, if x is not no-mark, and the code with its number
--   Closes s r q       q is the group whose inside is r
-- Assumes nothing: these are definitions.
use Rattle.std.specs.Prelude.{◌≡◌, List, [], ◌∷◌, ◌++◌, Bool, true, false, ℕ, ◌+◌, ◌-◌, ◌^◌, ◌<◌, ◌≤◌, eqb, ltb, length, drop, set}
use Rattle.std.proofs.lemmas.List.Edits.{sets}
use Rattle.book.specs.Basics.{pick, bit, has}
use Rattle.book.specs.Causes.{labels}
use Rattle.k2.specs.Bits.{digit}
use Rattle.paths.specs.Expressions.{Letter, Symbol, same_letter, has_sense, stands_for, Expr, symbol, alternative, sequence, letters, depth}
use Rattle.paths.specs.Grammar.{bar, slash, asterisk, plus_sign, question_mark, letter_a}
use Rattle.paths.specs.Descent.{Parse, got, fault, first_byte, is_letter, then, read_member, read_close, read_alternatives, read_more_alternatives, read_parts}
use Rattle.paths.specs.Descent.{read_more_parts, read_part}
use Rattle.reader.specs.Code.{op_star, op_plus, op_optional, op_alternative, op_sequence, label_sets, code}
use Rattle.reader.specs.Letters.{forward_of, against_of}
use Rattle.reader.specs.declared.symbols.Letters.{Letters}
use Rattle.reader.specs.declared.symbols.Symbol.{Symbol as Symbol-read}
use Rattle.reader.specs.declared.symbols.Symbol.TheVariants.{Read, Missing}
use Rattle.reader.specs.declared.Spot.{Spot}
use Rattle.reader.specs.declared.Parsed.{Parsed}
use Rattle.reader.specs.declared.Parsed.TheVariants.{Got, Fault}

pub record Found (s : List ℕ) (at n : ℕ) (before after : List ℕ) (e : Expr) (q : Spot) : Type 0 where
  pub inside : q.at ≤ length s
  pub short : length (code e) + at ≤ q.at
  pub flat : depth e + at ≤ q.at
  pub letters_are : q.letters ≡ letters e
  pub depth_is : q.depth ≡ depth e
  pub end_is : q.end ≡ n + length (code e)
  pub written : after ≡ sets before n (code e)

pub data Done (k : Expr → List ℕ → Parse) (s : List ℕ) (at n : ℕ) (before after : List ℕ) (x : Parse) : Parsed → Type 0 where
  none : x ≡ fault → Done k s at n before after x Fault
  some : {q : Spot} (e : Expr) → x ≡ k e (drop q.at s) → Found s at n before after e q → Done k s at n before after x (Got q)

pub record StandsFor (s : List ℕ) (at : ℕ) (x : Parse) (y : Symbol) (q : Letters) : Type 0 where
  pub is : x ≡ got (symbol y) (drop q.at s)
  pub past : at < q.at
  pub inside : q.at ≤ length s
  pub forward : q.forward ≡ forward_of (stands_for y)
  pub against : q.against ≡ against_of (stands_for y)

pub data Stands (s : List ℕ) (at : ℕ) (x : Parse) : Symbol-read → Type 0 where
  missing : x ≡ fault → Stands s at x Missing
  stands : {q : Letters} (y : Symbol) → StandsFor s at x y q → Stands s at x (Read q)

abbrev pub label_at : ℕ → ℕ
label_at c = pick (is_letter c) (2 ^ (c - letter_a)) 0

pub record Marks (b : Bool) (w : List Letter) (x : ℕ) : Type 0 where
  pub below : x < label_sets
  pub marked : (l : ℕ) → l < labels → digit x l ≡ bit (has same_letter (record { label = l; inverted = b }) w)
  pub some : has_sense b w ≡ ltb 0 x

abbrev pub Marked : List Letter → Letters → Type 0
Marked w q = Marks false w q.forward × Marks true w q.against

pub record MemberIs (s : List ℕ) (at : ℕ) (w : List Letter) (a : Letter) (q : Letters) : Type 0 where
  pub is : (k : Letter → List ℕ → Parse) → read_member k (drop at s) ≡ k a (drop q.at s)
  pub past : at < q.at
  pub inside : q.at ≤ length s
  pub marks : Marked (w ++ (a ∷ [])) q

pub data MemberAt (s : List ℕ) (at : ℕ) (w : List Letter) : Symbol-read → Type 0 where
  no_member : ((k : Letter → List ℕ → Parse) → read_member k (drop at s) ≡ fault) → MemberAt s at w Missing
  a_member : {q : Letters} (a : Letter) → MemberIs s at w a q → MemberAt s at w (Read q)

abbrev pub others_of : ℕ → ℕ
others_of x = pick (eqb x 0) 0 ((label_sets - 1) - x)

pub record Asks (s : List ℕ) (at n : ℕ) (code : List ℕ) : Type 0 where
  pub inside : at ≤ length s
  pub behind : n ≤ at
  pub space : length s ≤ length code

pub record Fit (s : List ℕ) (q : Spot) : Type 0 where
  pub inside : q.at ≤ length s
  pub flat : q.depth ≤ q.at

-- a number that no code has
abbrev pub no-mark : ℕ
no-mark = 6

abbrev pub Fits : List ℕ → Parsed → Type 0
Fits s Fault = Unit {0}
Fits s (Got q) = Fit s q

abbrev pub RoomToJoin : ℕ → Parsed → Parsed → Type 0
RoomToJoin space Fault next = Unit {0}
RoomToJoin space (Got p) Fault = Unit {0}
RoomToJoin space (Got p) (Got q) = (q.end < space) × (p.letters + q.letters ≤ space)

abbrev pub RoomToWrap : ℕ → ℕ → ℕ → Parsed → Type 0
RoomToWrap space x passed Fault = Unit {0}
RoomToWrap space x passed (Got q) = (x ≡ no-mark → ⊥) → (q.end < space) × (q.at + passed ≤ space)

abbrev pub RoomToWrite : ℕ → ℕ → Symbol-read → Type 0
RoomToWrite space n Missing = Unit {0}
RoomToWrite space n (Read q) = n < space

pub data Infix : Type 0 where
  of_alternatives of_parts : Infix

abbrev pub byte_of : Infix → ℕ
byte_of of_alternatives = bar
byte_of of_parts = slash

abbrev pub number_of : Infix → ℕ
number_of of_alternatives = op_alternative
number_of of_parts = op_sequence

abbrev pub join_of : Infix → Expr → Expr → Expr
join_of of_alternatives = alternative
join_of of_parts = sequence

abbrev pub read_of : Infix → List ℕ → Parse
read_of of_alternatives = read_parts
read_of of_parts = read_part

abbrev pub whole_of : Infix → List ℕ → Parse
whole_of of_alternatives = read_alternatives
whole_of of_parts = read_parts

abbrev pub more_of : Infix → Expr → List ℕ → Parse
more_of of_alternatives = read_more_alternatives
more_of of_parts = read_more_parts

abbrev pub comes_next : List ℕ → Parsed → ℕ → Bool
comes_next s Fault b = false
comes_next s (Got q) b = eqb (first_byte (drop q.at s)) b

abbrev pub spot_of : Parsed → Spot
spot_of Fault = record { at = 0; end = 0; letters = 0; depth = 0 }
spot_of (Got q) = q

abbrev pub bytes_left : List ℕ → Parsed → ℕ
bytes_left s Fault = 0
bytes_left s (Got q) = length s - q.at + 1

pub record Joins (x : ℕ) (first next : Parsed) (code code' : List ℕ) (r : Parsed) : Type 0 where
  pub joins : (o : Infix) (s : List ℕ) (at n : ℕ) (before between : List ℕ) (y : Parse) → x ≡ number_of o → comes_next s first (byte_of o) ≡ true →
      Done (more_of o) s at n before between y first →
      Done got s ((spot_of first).at + 1) (spot_of first).end between code (read_of o (drop ((spot_of first).at + 1) s)) next →
      Done (more_of o) s at n before code' y r
  pub left : (s : List ℕ) → bytes_left s r ≤ bytes_left s next

abbrev pub Since : Infix → List ℕ → ℕ → ℕ → Parsed → List ℕ → Parsed → List ℕ → Type 0
Since o s at n first₀ code₀ first code =
    (before : List ℕ) → Done got s at n before code₀ (read_of o (drop at s)) first₀ → Done (more_of o) s at n before code (whole_of o (drop at s)) first

abbrev pub mark_number : ℕ → ℕ
mark_number c = pick (eqb c asterisk) op_star (pick (eqb c plus_sign) op_plus (pick (eqb c question_mark) op_optional no-mark))

abbrev pub mark_of : List ℕ → Parsed → ℕ
mark_of s Fault = no-mark
mark_of s (Got q) = mark_number (first_byte (drop q.at s))

abbrev pub wrap : ℕ → ℕ → Parsed → Parsed
wrap x passed Fault = Fault
wrap x passed (Got q) = pick (eqb x no-mark) (Got q) (Got (record { at = q.at + passed; end = q.end + 1; letters = q.letters; depth = q.depth }))

abbrev pub wrap_code : ℕ → Parsed → List ℕ → List ℕ
wrap_code x Fault code = code
wrap_code x (Got q) code = pick (eqb x no-mark) code (set code q.end x)

abbrev pub Closes : List ℕ → Parsed → Parsed → Type 0
Closes s r q = (at n : ℕ) (before code : List ℕ) (x : Parse) → Done got s (at + 1) n before code x r → Done got s at n before code (then x read_close) q
