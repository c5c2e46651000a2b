-- What the descent reads is in the grammar: if it gets e and leaves r, the bytes before r are e's by the rule.
--   All P x        P of what x has found, if it has found anything
--   By R l e r     e is read by the rule R from the front of l, and r is left
--   first_taken    a byte other than 0 that comes first is taken off
--   sound_alternatives, sound_parts, sound_part, sound_atom
--                  what a rule's function finds is read by that rule
--   read_shorter   what is left is shorter than what was lent
-- Assumes nothing.
use Rattle.std.specs.Prelude.{◌≡◌, refl, List, [], ◌∷◌, ◌++◌, Bool, true, false, ℕ, zero, suc, ◌+◌, ◌-◌, ◌<◌, leb, ltb, eqb, length}
use Rattle.std.proofs.Common.{sym, ap, ◌∙◌, subst, append_assoc, arith, length-append, eqb-true, leb-true, ltb-true}
use Rattle.book.specs.Causes.{labels}
use Rattle.book.proofs.SetLaws.{and_both}
use Rattle.paths.specs.Expressions.{Letter, Expr, alternative, sequence}
use Rattle.paths.specs.Grammar.{bar, slash, hat, bang, asterisk, plus_sign, question_mark, open_group, close_group, letter_a, Member, plain_member}
use Rattle.paths.specs.Grammar.{inverted_member, Members, one_member, more_members, Rule, alternatives, parts, part, marked, atom, Is, one_alternative}
use Rattle.paths.specs.Grammar.{more_alternatives, one_part, more_parts, plain, inverted, bare, with_star, with_plus, with_optional, is-letter}
use Rattle.paths.specs.Grammar.{is_negated, is_set, is_group}
use Rattle.paths.specs.Descent.{Parse, got, fault, first_byte, rest, is_letter, then, read_mark, read_close, invert_read, letter_of, read_member, members_in}
use Rattle.paths.specs.Descent.{got_negated, read_negated, alternatives_in, more_alternatives_in, parts_in, more_parts_in, part_in, atom_in}

pub data All (P : Expr → List ℕ → Type 0) : Parse → Type 0 where
  nothing : All P fault
  gives : {e : Expr} {r : List ℕ} → P e r → All P (got e r)

abbrev pub By : Rule → List ℕ → Expr → List ℕ → Type 0
By R l e r = (s : List ℕ) × Is R s e × (l ≡ s ++ r)

all_then : {P Q : Expr → List ℕ → Type 0} (x : Parse) (k : Expr → List ℕ → Parse)
    → All Q x → ((e : Expr) (r : List ℕ) → Q e r → All P (k e r)) → All P (then x k)
all_then x k nothing f = nothing
all_then x k (gives {e} {r} h) f = f e r h

all_map : {P Q : Expr → List ℕ → Type 0} {x : Parse} → All Q x → ((e : Expr) (r : List ℕ) → Q e r → P e r) → All P x
all_map nothing f = nothing
all_map (gives {e} {r} h) f = gives (f e r h)

all_if : {P : Expr → List ℕ → Type 0} (b : Bool) (x y : Parse) → (b ≡ true → All P x) → (b ≡ false → All P y) → All P (elim b [ true ↦ x | false ↦ y ])
all_if true x y h g = h refl
all_if false x y h g = g refl

-- a byte other than 0 that comes first is taken off
pub first_taken : (l : List ℕ) (c : ℕ) → 0 < c → eqb (first_byte l) c ≡ true → l ≡ c ∷ rest l
first_taken [] c h e = absurd (let z : ◌≡◌ {A = ℕ} 0 c = eqb-true 0 c e in omega arith)
first_taken (x ∷ l) c h e = ap (λ (y : ℕ). y ∷ l) (eqb-true x c e)

letter_byte : (l : List ℕ) → is_letter (first_byte l) ≡ true → (l ≡ (letter_a + (first_byte l - letter_a)) ∷ rest l) × (first_byte l - letter_a < labels)
letter_byte [] h = absurd (let z : ◌≡◌ {A = ℕ} 0 1 = cc in omega arith)
letter_byte (c ∷ l) h =
    let p = and_both (leb letter_a c) (ltb c (letter_a + labels)) h in
    let low = leb-true letter_a c p.0 in
    let high = ltb-true c (letter_a + labels) p.1 in
    (ap (λ (y : ℕ). y ∷ l) (omega arith), omega arith)

-- the byte c after s, and then p
after : (l₀ s l p r : List ℕ) (c : ℕ) → l₀ ≡ s ++ l → l ≡ c ∷ rest l → rest l ≡ p ++ r → l₀ ≡ (s ++ (c ∷ p)) ++ r
after l₀ s l p r c h e q = h ∙ ap (λ (m : List ℕ). s ++ m) (e ∙ ap (λ (m : List ℕ). c ∷ m) q) ∙ sym (append_assoc s (c ∷ p) r)

sound_mark : (l₀ s : List ℕ) (e : Expr) (l : List ℕ) → Is atom s e → l₀ ≡ s ++ l → All (By marked l₀) (read_mark e l)
sound_mark l₀ s e l d h =
    all_if (eqb (first_byte l) asterisk) _ _
    (λ b. gives (s ++ (asterisk ∷ []), with_star d, after l₀ s l [] (rest l) asterisk h (first_taken l asterisk (omega arith) b) refl)) (λ _.
    all_if (eqb (first_byte l) plus_sign) _ _
    (λ b. gives (s ++ (plus_sign ∷ []), with_plus d, after l₀ s l [] (rest l) plus_sign h (first_taken l plus_sign (omega arith) b) refl)) (λ _.
    all_if (eqb (first_byte l) question_mark) _ _
    (λ b. gives (s ++ (question_mark ∷ []), with_optional d, after l₀ s l [] (rest l) question_mark h (first_taken l question_mark (omega arith) b) refl)) (λ _.
    gives (s, bare d, h))))

-- a member of a negated set, and what is done after it
all_member : {P : Expr → List ℕ → Type 0} (l : List ℕ) (k : Letter → List ℕ → Parse)
    → ((s : List ℕ) (a : Letter) (r : List ℕ) → Member s a → l ≡ s ++ r → All P (k a r)) → All P (read_member k l)
all_member l k h =
    all_if (eqb (first_byte l) hat) _ _
    (λ b. all_if (is_letter (first_byte (rest l))) _ _
    (λ b'. let p = letter_byte (rest l) b' in h (hat ∷ (letter_a + (first_byte (rest l) - letter_a)) ∷ []) (letter_of true (first_byte (rest l)))
    (rest (rest l)) (inverted_member p.1) (first_taken l hat (omega arith) b ∙ ap (λ (m : List ℕ). hat ∷ m) p.0))
    (λ _. nothing))
    (λ _. all_if (is_letter (first_byte l)) _ _
    (λ b. let p = letter_byte l b in h ((letter_a + (first_byte l - letter_a)) ∷ []) (letter_of false (first_byte l)) (rest l) (plain_member p.1) p.0)
    (λ _. nothing))

-- the members w were read of l₀, and l is left after them and a |
data Before (l₀ : List ℕ) : List Letter → List ℕ → Type 0 where
  first : Before l₀ [] l₀
  next : {w : List Letter} {s l : List ℕ} → Members s w → l₀ ≡ s ++ (bar ∷ l) → Before l₀ w l

one_more : {l₀ : List ℕ} {w : List Letter} {l t : List ℕ} {a : Letter} (r : List ℕ) → Before l₀ w l
    → Member t a → l ≡ t ++ r → (s : List ℕ) × Members s (w ++ (a ∷ [])) × (l₀ ≡ s ++ r)
one_more {t = t} r first m e = (t, one_member m, e)
one_more {t = t} r (next {s = s} d q) m e = (s ++ (bar ∷ t), more_members d m, q ∙ ap (λ (x : List ℕ). s ++ (bar ∷ x)) e ∙ sym (append_assoc s (bar ∷ t) r))

sound_members : (f : ℕ) (w : List Letter) (l l₀ : List ℕ) → Before l₀ w l → All (By atom (bang ∷ open_group ∷ l₀)) (members_in f w l)
unfolding members_in
sound_members zero w l l₀ b = nothing
sound_members (suc f) w l l₀ b = all_member l _ (λ t a r m e.
    let g = one_more r b m e in
    all_if (eqb (first_byte r) bar) _ _
    (λ c. sound_members f (w ++ (a ∷ [])) (rest r) l₀ (next g.1 (g.2 ∙ ap (λ (x : List ℕ). g.0 ++ x) (first_taken r bar (omega arith) c))))
    (λ _. all_if (eqb (first_byte r) close_group) _ _
    (λ c. gives (
      bang ∷ open_group ∷ (g.0 ++ (close_group ∷ [])),
      is_set g.1,
      ap (λ (x : List ℕ). bang ∷ open_group ∷ x) (after l₀ g.0 r [] (rest r) close_group g.2 (first_taken r close_group (omega arith) c) refl),
    ))
    (λ _. nothing)))

by_same : {R : Rule} {l m : List ℕ} {x : Parse} → l ≡ m → All (By R m) x → All (By R l) x
by_same {R} {x = x} e h = subst (λ (n : List ℕ). All (By R n) x) (sym e) h

sound_negated : (l : List ℕ) → All (By atom (bang ∷ l)) (read_negated l)
sound_negated l =
    all_if (eqb (first_byte l) open_group) _ _
    (λ b. by_same (ap (λ (m : List ℕ). bang ∷ m) (first_taken l open_group (omega arith) b)) (sound_members (length l) [] (rest l) (rest l) first))
    (λ _. all_member l got_negated (λ s a r m e. gives (bang ∷ s, is_negated m, ap (λ (x : List ℕ). bang ∷ x) e)))

mutual
  unfolding alternatives_in

  pub sound_alternatives : (f : ℕ) (l : List ℕ) → All (By alternatives l) (alternatives_in f l)
  sound_alternatives zero l = nothing
  sound_alternatives (suc f) l = all_then (parts_in f l) _ (sound_parts f l) (λ e r q. sound_more_alternatives f e r l q.0 (one_alternative q.1) q.2)

  sound_more_alternatives : (f : ℕ) (e : Expr) (l l₀ s : List ℕ) → Is alternatives s e → l₀ ≡ s ++ l → All (By alternatives l₀) (more_alternatives_in f e l)
  sound_more_alternatives zero e l l₀ s d h = nothing
  sound_more_alternatives (suc f) e l l₀ s d h =
      all_if (eqb (first_byte l) bar) _ _
      (λ b. all_then (parts_in f (rest l)) _ (sound_parts f (rest l)) (λ g r q.
      sound_more_alternatives f (alternative e g) r l₀ (s ++ (bar ∷ q.0)) (more_alternatives d q.1)
      (after l₀ s l q.0 r bar h (first_taken l bar (omega arith) b) q.2)))
      (λ _. gives (s, d, h))

  pub sound_parts : (f : ℕ) (l : List ℕ) → All (By parts l) (parts_in f l)
  sound_parts zero l = nothing
  sound_parts (suc f) l = all_then (part_in f l) _ (sound_part f l) (λ e r q. sound_more_parts f e r l q.0 (one_part q.1) q.2)

  sound_more_parts : (f : ℕ) (e : Expr) (l l₀ s : List ℕ) → Is parts s e → l₀ ≡ s ++ l → All (By parts l₀) (more_parts_in f e l)
  sound_more_parts zero e l l₀ s d h = nothing
  sound_more_parts (suc f) e l l₀ s d h =
      all_if (eqb (first_byte l) slash) _ _
      (λ b. all_then (part_in f (rest l)) _ (sound_part f (rest l)) (λ g r q.
      sound_more_parts f (sequence e g) r l₀ (s ++ (slash ∷ q.0)) (more_parts d q.1)
      (after l₀ s l q.0 r slash h (first_taken l slash (omega arith) b) q.2)))
      (λ _. gives (s, d, h))

  pub sound_part : (f : ℕ) (l : List ℕ) → All (By part l) (part_in f l)
  sound_part zero l = nothing
  sound_part (suc f) l =
      all_if (eqb (first_byte l) hat) _ _
      (λ b. all_then (then (atom_in f (rest l)) read_mark) invert_read
      (all_then (atom_in f (rest l)) read_mark (sound_atom f (rest l)) (λ e r q. sound_mark (rest l) q.0 e r q.1 q.2))
      (λ e r q. gives (hat ∷ q.0, inverted q.1, first_taken l hat (omega arith) b ∙ ap (λ (m : List ℕ). hat ∷ m) q.2)))
      (λ _. all_map (all_then (atom_in f l) read_mark (sound_atom f l) (λ e r q. sound_mark l q.0 e r q.1 q.2)) (λ e r q. (q.0, plain q.1, q.2)))

  pub sound_atom : (f : ℕ) (l : List ℕ) → All (By atom l) (atom_in f l)
  sound_atom zero l = nothing
  sound_atom (suc f) l =
      all_if (eqb (first_byte l) open_group) _ _
      (λ b. all_then (alternatives_in f (rest l)) read_close (sound_alternatives f (rest l)) (λ e r q.
      all_if (eqb (first_byte r) close_group) _ _
      (λ b'. gives (
        open_group ∷ (q.0 ++ (close_group ∷ [])),
        is_group q.1,
        first_taken l open_group (omega arith) b
            ∙ ap (λ (m : List ℕ). open_group ∷ m) (after (rest l) q.0 r [] (rest r) close_group q.2 (first_taken r close_group (omega arith) b') refl),
      ))
      (λ _. nothing)))
      (λ _. all_if (is_letter (first_byte l)) _ _ (λ b. gives ((letter_a + (first_byte l - letter_a)) ∷ [], is-letter (letter_byte l b).1, (letter_byte l b).0))
      (λ _.
      all_if (eqb (first_byte l) bang) _ _ (λ b. by_same (first_taken l bang (omega arith) b) (sound_negated (rest l))) (λ _. nothing)))

-- no rule takes the empty list
some : {R : Rule} {s : List ℕ} {e : Expr} → Is R s e → 0 < length s
some (one_alternative d) = some d
some (more_alternatives {s} {t} d d') = omega (arith, length-append s (bar ∷ t))
some (one_part d) = some d
some (more_parts {s} {t} d d') = omega (arith, length-append s (slash ∷ t))
some (plain d) = some d
some (inverted d) = omega arith
some (bare d) = some d
some (with_star {s} d) = omega (arith, length-append s (asterisk ∷ []))
some (with_plus {s} d) = omega (arith, length-append s (plus_sign ∷ []))
some (with_optional {s} d) = omega (arith, length-append s (question_mark ∷ []))
some (is-letter h) = omega arith
some (is_negated m) = omega arith
some (is_set m) = omega arith
some (is_group d) = omega arith

pub read_shorter : (R : Rule) (l : List ℕ) (e : Expr) (r : List ℕ) → By R l e r → length r < length l
read_shorter R l e r q = omega (arith, some q.1, length-append q.0 r, ap length q.2)
