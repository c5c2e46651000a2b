-- What is in the grammar is read: the bytes of an expression, with bytes after them that do not go on with it, give that expression and leave those.
--   complete        this for every rule
--   text_read       the text of an expression is read to its end
--   syntax_only     a text has at most one syntax
-- Assumes nothing.
use Rattle.std.specs.Prelude.{◌≡◌, refl, List, [], ◌∷◌, ◌++◌, true, false, ◌&&◌, ℕ, suc, ◌+◌, ◌-◌, ◌<◌, ◌≤◌, leb, ltb, eqb, length}
use Rattle.std.proofs.Common.{sym, ap, ◌∙◌, append_assoc, append-nil, arith, length-append, ne_eqb, le-leb, lt-ltb}
use Rattle.book.specs.Causes.{labels}
use Rattle.paths.specs.Expressions.{Letter, letter, none_of, Expr, symbol, alternative, sequence}
use Rattle.paths.specs.Grammar.{bar, slash, hat, bang, asterisk, plus_sign, question_mark, open_group, close_group, letter_a, Member, plain_member}
use Rattle.paths.specs.Grammar.{inverted_member, Members, one_member, more_members, Rule, alternatives, parts, part, marked, atom, Is, one_alternative}
use Rattle.paths.specs.Grammar.{more_alternatives, one_part, more_parts, plain, inverted, bare, with_star, with_plus, with_optional, is-letter}
use Rattle.paths.specs.Grammar.{is_negated, is_set, is_group}
use Rattle.paths.specs.Descent.{Parse, got, fault, first_byte, rest, is_letter, then, read_mark, read_close, invert_read, read_member, members_in, got_negated}
use Rattle.paths.specs.Descent.{read_negated, read_alternatives, read_more_alternatives, read_parts, read_more_parts, read_part, read_atom}
use Rattle.paths.proofs.DescentEquationLaws.{if_true, if_false, alternatives_is, more_alternatives_bar, more_alternatives_end, parts_is, more_parts_slash}
use Rattle.paths.proofs.DescentEquationLaws.{more_parts_end, part_hat, part_plain, atom_group, atom_letter, atom_negated, mark_none}

-- no mark comes first
record NoMark (l : List ℕ) : Type 0 where
  no_star : eqb (first_byte l) asterisk ≡ false
  no_plus : eqb (first_byte l) plus_sign ≡ false
  no_optional : eqb (first_byte l) question_mark ≡ false

-- what it is to read the bytes s of e, whatever follows
abbrev Reads : Rule → List ℕ → Expr → Type 0
Reads alternatives s e = (r : List ℕ) → NoMark r → eqb (first_byte r) slash ≡ false → read_alternatives (s ++ r) ≡ read_more_alternatives e r
Reads parts s e = (r : List ℕ) → NoMark r → read_parts (s ++ r) ≡ read_more_parts e r
Reads part s e = (r : List ℕ) → NoMark r → read_part (s ++ r) ≡ got e r
Reads marked s e = (r : List ℕ) → NoMark r → (then (read_atom (s ++ r)) read_mark ≡ got e r) × (eqb (first_byte (s ++ r)) hat ≡ false)
Reads atom s e = (r : List ℕ) → (read_atom (s ++ r) ≡ got e r) × (eqb (first_byte (s ++ r)) hat ≡ false)

abbrev on : (Expr → List ℕ → Parse) → Parse → Parse
on k x = then x k

-- at the end of the text and before | / and ) no mark comes
no_mark_end : NoMark []
no_mark_end = record { no_star = refl; no_plus = refl; no_optional = refl }

no_mark_bar : (l : List ℕ) → NoMark (bar ∷ l)
no_mark_bar l = record { no_star = refl; no_plus = refl; no_optional = refl }

no_mark_slash : (l : List ℕ) → NoMark (slash ∷ l)
no_mark_slash l = record { no_star = refl; no_plus = refl; no_optional = refl }

no_mark_close : (l : List ℕ) → NoMark (close_group ∷ l)
no_mark_close l = record { no_star = refl; no_plus = refl; no_optional = refl }

-- a letter's byte, and its label
letter_is : (k : ℕ) → k < labels → is_letter (letter_a + k) ≡ true
letter_is k h =
    let z : (leb letter_a (letter_a + k) && ltb (letter_a + k) (letter_a + labels)) ≡ true =
    rw (le-leb letter_a (letter_a + k) (omega arith), lt-ltb (letter_a + k) (letter_a + labels) (omega arith)) in
    z

label_back : (k : ℕ) → letter_a + k - letter_a ≡ k
label_back k = omega arith

-- a member of a negated set is read
member_reads : {s : List ℕ} {a : Letter} → Member s a → (k : Letter → List ℕ → Parse) (r : List ℕ) → read_member k (s ++ r) ≡ k a r
member_reads (plain_member {k = j} h) k r =
    if_false (eqb (letter_a + j) hat) _ _ (ne_eqb (letter_a + j) hat (λ q. omega arith)) ∙ if_true (is_letter (letter_a + j)) _ _ (letter_is j h)
    ∙ ap (λ (i : ℕ). k (record { label = i; inverted = false }) r) (label_back j)
member_reads (inverted_member {k = j} h) k r =
    if_true (is_letter (letter_a + j)) _ _ (letter_is j h) ∙ ap (λ (i : ℕ). k (record { label = i; inverted = true }) r) (label_back j)

-- what is done after the members w
abbrev after_members : ℕ → List Letter → List ℕ → Parse
after_members f w r =
    elim (eqb (first_byte r) bar) [
      | true ↦ members_in f w (rest r)
      | false ↦ elim (eqb (first_byte r) close_group) [ true ↦ got (symbol (none_of w)) (rest r) | false ↦ fault ]
    ]

members_read : {s : List ℕ} {w : List Letter} → Members s w → (g : ℕ) (r : List ℕ) → members_in (length w + g) [] (s ++ r) ≡ after_members g w r
unfolding members_in
members_read (one_member {s} {a} m) g r =
    ap (λ (f : ℕ). members_in f [] (s ++ r)) (let z : 1 + g ≡ suc g = omega arith in z) ∙ member_reads m (λ b q. after_members g (b ∷ []) q) r
members_read (more_members {s} {t} {w} {a} d m) g r =
    ap (λ (l : List ℕ). members_in (length (w ++ (a ∷ [])) + g) [] l) (append_assoc s (bar ∷ t) r) ∙
    ap (λ (f : ℕ). members_in f [] (s ++ (bar ∷ (t ++ r)))) (let z : length (w ++ (a ∷ [])) + g ≡ length w + suc g =
    omega (arith, length-append w (a ∷ [])) in z) ∙
    members_read d (suc g) (bar ∷ (t ++ r)) ∙ member_reads m (λ b q. after_members g (w ++ (b ∷ [])) q) r

-- there are at most as many members as bytes
member_some : {s : List ℕ} {a : Letter} → Member s a → 0 < length s
member_some (plain_member h) = omega arith
member_some (inverted_member h) = omega arith

members_few : {s : List ℕ} {w : List Letter} → Members s w → length w ≤ length s
members_few (one_member m) = omega (arith, member_some m)
members_few (more_members {s} {t} {w} {a} d m) = omega (arith, members_few d, length-append w (a ∷ []), length-append s (bar ∷ t))

negated_reads : {s : List ℕ} {a : Letter} → Member s a → (r : List ℕ) → read_negated (s ++ r) ≡ got (symbol (none_of (a ∷ []))) r
negated_reads (plain_member {k = j} h) r =
    if_false (eqb (letter_a + j) open_group) _ _ (ne_eqb (letter_a + j) open_group (λ q. omega arith)) ∙ member_reads (plain_member h) got_negated r
negated_reads (inverted_member {k = j} h) r = member_reads (inverted_member h) got_negated r

complete : {R : Rule} {s : List ℕ} {e : Expr} → Is R s e → Reads R s e
complete (one_alternative {s} {e} d) = λ r m b. alternatives_is (s ++ r) ∙ ap (on read_more_alternatives) (complete d r m ∙ more_parts_end e r b)
complete (more_alternatives {s} {t} {e} {f} d d') = λ r m b.
    ap read_alternatives (append_assoc s (bar ∷ t) r) ∙ complete d (bar ∷ (t ++ r)) (no_mark_bar (t ++ r)) refl ∙
    more_alternatives_bar e (bar ∷ (t ++ r)) refl ∙ ap (on (λ g q. read_more_alternatives (alternative e g) q)) (complete d' r m ∙ more_parts_end f r b)
complete (one_part {s} {e} d) = λ r m. parts_is (s ++ r) ∙ ap (on read_more_parts) (complete d r m)
complete (more_parts {s} {t} {e} {f} d d') = λ r m.
    ap read_parts (append_assoc s (slash ∷ t) r) ∙ complete d (slash ∷ (t ++ r)) (no_mark_slash (t ++ r)) ∙
    more_parts_slash e (slash ∷ (t ++ r)) refl ∙ ap (on (λ g q. read_more_parts (sequence e g) q)) (complete d' r m)
complete (plain {s} {e} d) = λ r m. part_plain (s ++ r) (complete d r m).1 ∙ (complete d r m).0
complete (inverted {s} {e} d) = λ r m. part_hat (hat ∷ (s ++ r)) refl ∙ ap (on invert_read) (complete d r m).0
complete (bare {s} {e} d) = λ r m. (ap (on read_mark) (complete d r).0 ∙ mark_none e r m.no_star m.no_plus m.no_optional, (complete d r).1)
complete (with_star {s} {e} d) = λ r m. rw append_assoc (ap (on read_mark) (complete d (asterisk ∷ r)).0, (complete d (asterisk ∷ r)).1)
complete (with_plus {s} {e} d) = λ r m. rw append_assoc (ap (on read_mark) (complete d (plus_sign ∷ r)).0, (complete d (plus_sign ∷ r)).1)
complete (with_optional {s} {e} d) = λ r m. rw append_assoc (ap (on read_mark) (complete d (question_mark ∷ r)).0, (complete d (question_mark ∷ r)).1)
complete (is-letter {k} h) = λ r. (
  atom_letter ((letter_a + k) ∷ r) (ne_eqb (letter_a + k) open_group (λ q. omega arith)) (letter_is k h)
      ∙ ap (λ (j : ℕ). got (symbol (letter j)) r) (label_back k),
  ne_eqb (letter_a + k) hat (λ q. omega arith),
)
complete (is_negated {s} {a} m) = λ r. (atom_negated (bang ∷ (s ++ r)) refl refl refl ∙ negated_reads m r, refl)
complete (is_set {s} {w} d) = λ r.
    let n : ℕ = length (open_group ∷ (s ++ (close_group ∷ r))) in (
      atom_negated (bang ∷ open_group ∷ ((s ++ (close_group ∷ [])) ++ r)) refl refl refl ∙
          ap (λ (l : List ℕ). members_in (length (open_group ∷ l)) [] l) (append_assoc s (close_group ∷ []) r) ∙
          ap (λ (f : ℕ). members_in f [] (s ++ (close_group ∷ r))) (let z : n ≡ length w + (n - length w) =
          omega (arith, members_few d, length-append s (close_group ∷ r)) in z) ∙
          members_read d (n - length w) (close_group ∷ r),
      refl,
    )
complete (is_group {s} {e} d) = λ r. (
  atom_group (open_group ∷ ((s ++ (close_group ∷ [])) ++ r)) refl ∙
      ap (on read_close) (ap read_alternatives (append_assoc s (close_group ∷ []) r)
      ∙ complete d (close_group ∷ r) (no_mark_close r) refl ∙ more_alternatives_end e (close_group ∷ r) refl),
  refl,
)

pub text_read : {s : List ℕ} {e : Expr} → Is alternatives s e → read_alternatives s ≡ got e []
text_read {s} {e} d = ap read_alternatives (sym (append-nil s)) ∙ complete d [] no_mark_end refl ∙ more_alternatives_end e [] refl

pub syntax_only : (s : List ℕ) (e f : Expr) → Is alternatives s e → Is alternatives s f → e ≡ f
syntax_only s e f d d' = let p = text_read d in let q = text_read d' in cc
