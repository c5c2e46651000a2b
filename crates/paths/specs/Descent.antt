-- The reader as a function on lists of bytes, by recursive descent: one function for each rule of the grammar.
--   Parse                what reading finds at the front of some bytes: an expression with the bytes after it, or none
--   first_byte l, rest l  the first byte, or 0 if there is none; and the bytes after it
--   then x k             reading goes on by k from what x has found
--   read_mark e l, read_close e l, invert_read e l
--                        what follows e: at most one mark; the ) of a group; nothing, and a ^ stood before it
--   read_member k l       the member of a negated set at the front of l; reading goes on by k
--   members_in f w l      the members from l on up to the ), at most f of them, where w are read already
--   read_negated l        a negated set, after its !
--   alternatives_in f l, parts_in f l, part_in f l, atom_in f l
--                        what a rule finds at the front of l, in at most f calls one inside another
--   more_alternatives_in, more_parts_in
--                        of these two, what follows where something is read already
--   read_alternatives l, read_parts l, read_part l, read_atom l
--                        what a rule finds, in as many calls as it needs
--   read_more_alternatives e l, read_more_parts e l
--                        what they find at l, where e is read already
-- Assumes nothing: these are definitions.
use Rattle.std.specs.Prelude.{List, [], ◌∷◌, ◌++◌, Bool, true, false, ◌&&◌, ℕ, zero, suc, ◌+◌, ◌-◌, ◌*◌, leb, ltb, eqb, length}
use Rattle.book.specs.Causes.{labels}
use Rattle.paths.specs.Expressions.{Letter, letter, none_of, Expr, symbol, group, inverse, star, plus, optional, alternative, sequence}
use Rattle.paths.specs.Grammar.{bar, slash, hat, bang, asterisk, plus_sign, question_mark, open_group, close_group, letter_a}

pub data Parse : Type 0 where
  got : Expr → List ℕ → Parse
  fault : Parse

abbrev pub first_byte : List ℕ → ℕ
first_byte [] = 0
first_byte (c ∷ l) = c

abbrev pub rest : List ℕ → List ℕ
rest [] = []
rest (c ∷ l) = l

abbrev pub is_letter : ℕ → Bool
is_letter c = leb letter_a c && ltb c (letter_a + labels)

abbrev pub then : Parse → (Expr → List ℕ → Parse) → Parse
then fault k = fault
then (got e r) k = k e r

abbrev pub read_mark : Expr → List ℕ → Parse
read_mark e l =
    elim (eqb (first_byte l) asterisk) [
      | true ↦ got (star e) (rest l)
      | false ↦ elim (eqb (first_byte l) plus_sign) [
        | true ↦ got (plus e) (rest l)
        | false ↦ elim (eqb (first_byte l) question_mark) [ true ↦ got (optional e) (rest l) | false ↦ got e l ]
      ]
    ]

abbrev pub read_close : Expr → List ℕ → Parse
read_close e l = elim (eqb (first_byte l) close_group) [ true ↦ got (group e) (rest l) | false ↦ fault ]

abbrev pub invert_read : Expr → List ℕ → Parse
invert_read e l = got (inverse e) l

-- a letter by its byte
abbrev pub letter_of : Bool → ℕ → Letter
letter_of inverted c = record { label = c - letter_a; inverted = inverted }

abbrev pub read_member : (Letter → List ℕ → Parse) → List ℕ → Parse
read_member k l =
    elim (eqb (first_byte l) hat) [
      | true ↦ elim (is_letter (first_byte (rest l))) [ true ↦ k (letter_of true (first_byte (rest l))) (rest (rest l)) | false ↦ fault ]
      | false ↦ elim (is_letter (first_byte l)) [ true ↦ k (letter_of false (first_byte l)) (rest l) | false ↦ fault ]
    ]

unfoldable pub members_in : ℕ → List Letter → List ℕ → Parse
members_in zero w l = fault
members_in (suc f) w l =
    read_member (λ a r.
    elim (eqb (first_byte r) bar) [
      | true ↦ members_in f (w ++ (a ∷ [])) (rest r)
      | false ↦ elim (eqb (first_byte r) close_group) [ true ↦ got (symbol (none_of (w ++ (a ∷ [])))) (rest r) | false ↦ fault ]
    ]) l

abbrev pub got_negated : Letter → List ℕ → Parse
got_negated a r = got (symbol (none_of (a ∷ []))) r

-- a set has no more members than bytes
abbrev pub read_negated : List ℕ → Parse
read_negated l = elim (eqb (first_byte l) open_group) [ true ↦ members_in (length l) [] (rest l) | false ↦ read_member got_negated l ]

unfoldable mutual
  pub alternatives_in : ℕ → List ℕ → Parse
  alternatives_in zero l = fault
  alternatives_in (suc f) l = then (parts_in f l) (λ e r. more_alternatives_in f e r)

  pub more_alternatives_in : ℕ → Expr → List ℕ → Parse
  more_alternatives_in zero e l = fault
  more_alternatives_in (suc f) e l =
      elim (eqb (first_byte l) bar) [ true ↦ then (parts_in f (rest l)) (λ g r. more_alternatives_in f (alternative e g) r) | false ↦ got e l ]

  pub parts_in : ℕ → List ℕ → Parse
  parts_in zero l = fault
  parts_in (suc f) l = then (part_in f l) (λ e r. more_parts_in f e r)

  pub more_parts_in : ℕ → Expr → List ℕ → Parse
  more_parts_in zero e l = fault
  more_parts_in (suc f) e l = elim (eqb (first_byte l) slash) [ true ↦ then (part_in f (rest l)) (λ g r. more_parts_in f (sequence e g) r) | false ↦ got e l ]

  pub part_in : ℕ → List ℕ → Parse
  part_in zero l = fault
  part_in (suc f) l = elim (eqb (first_byte l) hat) [ true ↦ then (then (atom_in f (rest l)) read_mark) invert_read | false ↦ then (atom_in f l) read_mark ]

  pub atom_in : ℕ → List ℕ → Parse
  atom_in zero l = fault
  atom_in (suc f) l =
      elim (eqb (first_byte l) open_group) [
        | true ↦ then (alternatives_in f (rest l)) read_close
        | false ↦ elim (is_letter (first_byte l)) [
          | true ↦ got (symbol (letter (first_byte l - letter_a))) (rest l)
          | false ↦ elim (eqb (first_byte l) bang) [ true ↦ read_negated (rest l) | false ↦ fault ]
        ]
      ]

-- four calls for each byte, and those from one rule to the next, are enough
unfoldable pub read_alternatives : List ℕ → Parse
read_alternatives l = alternatives_in (suc (suc (suc (suc (4 * length l))))) l

unfoldable pub read_more_alternatives : Expr → List ℕ → Parse
read_more_alternatives e l = more_alternatives_in (suc (4 * length l)) e l

unfoldable pub read_parts : List ℕ → Parse
read_parts l = parts_in (suc (suc (suc (4 * length l)))) l

unfoldable pub read_more_parts : Expr → List ℕ → Parse
read_more_parts e l = more_parts_in (suc (4 * length l)) e l

unfoldable pub read_part : List ℕ → Parse
read_part l = part_in (suc (suc (4 * length l))) l

unfoldable pub read_atom : List ℕ → Parse
read_atom l = atom_in (suc (4 * length l)) l
