-- The descent with as many calls as it needs: an equation for each way in which a rule's function goes on, with no word of the number of calls.
--   if_true, if_false   a choice, by its test
--   alternatives_is, more_alternatives_bar, more_alternatives_end
--                       alternatives, with | between them
--   parts_is, more_parts_slash, more_parts_end
--                       parts, with / between them
--   part_hat, part_plain, atom_group, atom_letter, atom_negated, atom_fault
--                       a part with or without ^; a group, a letter, a negated set, or none of them
--   mark_star, mark_plus, mark_optional, mark_none
--                       a mark, or none
--   alternatives_sound  what is found is in the grammar
-- Assumes nothing.
use Rattle.std.specs.Prelude.{◌≡◌, refl, List, Bool, true, false, ℕ, zero, suc, ◌+◌, ◌-◌, ◌*◌, ◌≤◌, eqb, length}
use Rattle.std.proofs.Common.{ap, ◌∙◌, arith}
use Rattle.paths.specs.Expressions.{Expr, symbol, letter, star, plus, optional, alternative, sequence}
use Rattle.paths.specs.Grammar.{bar, slash, hat, bang, asterisk, plus_sign, question_mark, open_group, letter_a, alternatives, parts, part}
use Rattle.paths.specs.Descent.{Parse, got, fault, first_byte, rest, is_letter, then, read_mark, read_close, invert_read, read_negated, alternatives_in}
use Rattle.paths.specs.Descent.{more_alternatives_in, parts_in, more_parts_in, part_in, atom_in, read_alternatives, read_more_alternatives, read_parts}
use Rattle.paths.specs.Descent.{read_more_parts, read_part, read_atom}
use Rattle.paths.proofs.DescentSoundnessLaws.{first_taken, All, nothing, gives, By, read_shorter, sound_alternatives, sound_parts, sound_part}

then_same : {Q : Expr → List ℕ → Type 0} {x : Parse} (k k' : Expr → List ℕ → Parse)
    → All Q x → ((e : Expr) (r : List ℕ) → Q e r → k e r ≡ k' e r) → then x k ≡ then x k'
then_same k k' nothing f = refl
then_same k k' (gives {e} {r} h) f = f e r h

if_same : (b : Bool) (x x' y y' : Parse) → (b ≡ true → x ≡ x') → (b ≡ false → y ≡ y')
    → ◌≡◌ {A = Parse} (elim b [ true ↦ x | false ↦ y ]) (elim b [ true ↦ x' | false ↦ y' ])
if_same true x x' y y' h g = h refl
if_same false x x' y y' h g = g refl

pub if_true : (b : Bool) (x y : Parse) → b ≡ true → ◌≡◌ {A = Parse} (elim b [ true ↦ x | false ↦ y ]) x
if_true b x y h = rw h

pub if_false : (b : Bool) (x y : Parse) → b ≡ false → ◌≡◌ {A = Parse} (elim b [ true ↦ x | false ↦ y ]) y
if_false b x y h = rw h

-- a byte taken off leaves one byte less
taken : (l : List ℕ) (c : ℕ) → eqb (first_byte l) (suc c) ≡ true → length l ≡ suc (length (rest l))
taken l c b = ap length (first_taken l (suc c) (omega arith) b)

-- enough calls are as good as more
mutual
  unfolding alternatives_in

  same_alternatives : (f g : ℕ) (l : List ℕ) → 4 * length l + 4 ≤ f → 4 * length l + 4 ≤ g → alternatives_in f l ≡ alternatives_in g l
  same_alternatives zero g l h h' = absurd (omega arith)
  same_alternatives (suc f) zero l h h' = absurd (omega arith)
  same_alternatives (suc f) (suc g) l h h' =
      ap (λ (x : Parse). then x (λ e r. more_alternatives_in f e r)) (same_parts f g l (omega arith) (omega arith)) ∙
      then_same _ _ (sound_parts g l) (λ e r q. let n = read_shorter parts l e r q in same_more_alternatives f g e r (omega arith) (omega arith))

  same_more_alternatives : (f g : ℕ) (e : Expr) (l : List ℕ) → 4 * length l + 1 ≤ f → 4 * length l + 1 ≤ g
      → more_alternatives_in f e l ≡ more_alternatives_in g e l
  same_more_alternatives zero g e l h h' = absurd (omega arith)
  same_more_alternatives (suc f) zero e l h h' = absurd (omega arith)
  same_more_alternatives (suc f) (suc g) e l h h' = if_same (eqb (first_byte l) bar) _ _ _ _
      (λ b. let n = taken l (bar - 1) b in
      ap (λ (x : Parse). then x (λ i r. more_alternatives_in f (alternative e i) r)) (same_parts f g (rest l) (omega arith) (omega arith)) ∙
      then_same _ _ (sound_parts g (rest l)) (λ i r q. let m = read_shorter parts (rest l) i r q in
      same_more_alternatives f g (alternative e i) r (omega arith) (omega arith)))
      (λ _. refl)

  same_parts : (f g : ℕ) (l : List ℕ) → 4 * length l + 3 ≤ f → 4 * length l + 3 ≤ g → parts_in f l ≡ parts_in g l
  same_parts zero g l h h' = absurd (omega arith)
  same_parts (suc f) zero l h h' = absurd (omega arith)
  same_parts (suc f) (suc g) l h h' =
      ap (λ (x : Parse). then x (λ e r. more_parts_in f e r)) (same_part f g l (omega arith) (omega arith)) ∙
      then_same _ _ (sound_part g l) (λ e r q. let n = read_shorter part l e r q in same_more_parts f g e r (omega arith) (omega arith))

  same_more_parts : (f g : ℕ) (e : Expr) (l : List ℕ) → 4 * length l + 1 ≤ f → 4 * length l + 1 ≤ g → more_parts_in f e l ≡ more_parts_in g e l
  same_more_parts zero g e l h h' = absurd (omega arith)
  same_more_parts (suc f) zero e l h h' = absurd (omega arith)
  same_more_parts (suc f) (suc g) e l h h' = if_same (eqb (first_byte l) slash) _ _ _ _
      (λ b. let n = taken l (slash - 1) b in
      ap (λ (x : Parse). then x (λ i r. more_parts_in f (sequence e i) r)) (same_part f g (rest l) (omega arith) (omega arith)) ∙
      then_same _ _ (sound_part g (rest l)) (λ i r q. let m = read_shorter part (rest l) i r q in
      same_more_parts f g (sequence e i) r (omega arith) (omega arith)))
      (λ _. refl)

  same_part : (f g : ℕ) (l : List ℕ) → 4 * length l + 2 ≤ f → 4 * length l + 2 ≤ g → part_in f l ≡ part_in g l
  same_part zero g l h h' = absurd (omega arith)
  same_part (suc f) zero l h h' = absurd (omega arith)
  same_part (suc f) (suc g) l h h' = if_same (eqb (first_byte l) hat) _ _ _ _
      (λ b. let n = taken l (hat - 1) b in ap (λ (x : Parse). then (then x read_mark) invert_read) (same_atom f g (rest l) (omega arith) (omega arith)))
      (λ _. ap (λ (x : Parse). then x read_mark) (same_atom f g l (omega arith) (omega arith)))

  same_atom : (f g : ℕ) (l : List ℕ) → 4 * length l + 1 ≤ f → 4 * length l + 1 ≤ g → atom_in f l ≡ atom_in g l
  same_atom zero g l h h' = absurd (omega arith)
  same_atom (suc f) zero l h h' = absurd (omega arith)
  same_atom (suc f) (suc g) l h h' = if_same (eqb (first_byte l) open_group) _ _ _ _
      (λ b. let n = taken l (open_group - 1) b in ap (λ (x : Parse). then x read_close) (same_alternatives f g (rest l) (omega arith) (omega arith)))
      (λ _. refl)

-- alternatives
pub alternatives_is : (l : List ℕ) → read_alternatives l ≡ then (read_parts l) read_more_alternatives
unfolding read_alternatives read_parts read_more_alternatives alternatives_in
alternatives_is l =
    then_same _ _ (sound_parts (suc (suc (suc (4 * length l)))) l)
    (λ e r q. let n = read_shorter parts l e r q in
    same_more_alternatives (suc (suc (suc (4 * length l)))) (suc (4 * length r)) e r (omega arith) (omega arith))

pub more_alternatives_bar : (e : Expr) (l : List ℕ) → eqb (first_byte l) bar ≡ true
    → read_more_alternatives e l ≡ then (read_parts (rest l)) (λ g r. read_more_alternatives (alternative e g) r)
unfolding read_parts read_more_alternatives alternatives_in
more_alternatives_bar e l b =
    let n = taken l (bar - 1) b in
    if_true (eqb (first_byte l) bar) _ _ b ∙
    ap (λ (x : Parse). then x (λ g r. more_alternatives_in (4 * length l) (alternative e g) r))
    (same_parts (4 * length l) (suc (suc (suc (4 * length (rest l))))) (rest l) (omega arith) (omega arith)) ∙
    then_same _ _ (sound_parts (suc (suc (suc (4 * length (rest l))))) (rest l))
    (λ g r q. let m = read_shorter parts (rest l) g r q in
    same_more_alternatives (4 * length l) (suc (4 * length r)) (alternative e g) r (omega arith) (omega arith))

pub more_alternatives_end : (e : Expr) (l : List ℕ) → eqb (first_byte l) bar ≡ false → read_more_alternatives e l ≡ got e l
unfolding read_more_alternatives alternatives_in
more_alternatives_end e l b = if_false (eqb (first_byte l) bar) _ _ b

-- parts
pub parts_is : (l : List ℕ) → read_parts l ≡ then (read_part l) read_more_parts
unfolding read_parts read_part read_more_parts alternatives_in
parts_is l =
    then_same _ _ (sound_part (suc (suc (4 * length l))) l)
    (λ e r q. let n = read_shorter part l e r q in same_more_parts (suc (suc (4 * length l))) (suc (4 * length r)) e r (omega arith) (omega arith))

pub more_parts_slash : (e : Expr) (l : List ℕ) → eqb (first_byte l) slash ≡ true
    → read_more_parts e l ≡ then (read_part (rest l)) (λ g r. read_more_parts (sequence e g) r)
unfolding read_part read_more_parts alternatives_in
more_parts_slash e l b =
    let n = taken l (slash - 1) b in
    if_true (eqb (first_byte l) slash) _ _ b ∙
    ap (λ (x : Parse). then x (λ g r. more_parts_in (4 * length l) (sequence e g) r))
    (same_part (4 * length l) (suc (suc (4 * length (rest l)))) (rest l) (omega arith) (omega arith)) ∙
    then_same _ _ (sound_part (suc (suc (4 * length (rest l)))) (rest l))
    (λ g r q. let m = read_shorter part (rest l) g r q in same_more_parts (4 * length l) (suc (4 * length r)) (sequence e g) r (omega arith) (omega arith))

pub more_parts_end : (e : Expr) (l : List ℕ) → eqb (first_byte l) slash ≡ false → read_more_parts e l ≡ got e l
unfolding read_more_parts alternatives_in
more_parts_end e l b = if_false (eqb (first_byte l) slash) _ _ b

-- a part
pub part_hat : (l : List ℕ) → eqb (first_byte l) hat ≡ true → read_part l ≡ then (then (read_atom (rest l)) read_mark) invert_read
unfolding read_part read_atom alternatives_in
part_hat l b =
    let n = taken l (hat - 1) b in
    if_true (eqb (first_byte l) hat) _ _ b
    ∙ ap (λ (x : Parse). then (then x read_mark) invert_read) (same_atom (suc (4 * length l)) (suc (4 * length (rest l))) (rest l) (omega arith) (omega arith))

pub part_plain : (l : List ℕ) → eqb (first_byte l) hat ≡ false → read_part l ≡ then (read_atom l) read_mark
unfolding read_part read_atom alternatives_in
part_plain l b = if_false (eqb (first_byte l) hat) _ _ b

-- a group, a letter or a negated set
pub atom_group : (l : List ℕ) → eqb (first_byte l) open_group ≡ true → read_atom l ≡ then (read_alternatives (rest l)) read_close
unfolding read_atom read_alternatives alternatives_in
atom_group l b =
    let n = taken l (open_group - 1) b in
    if_true (eqb (first_byte l) open_group) _ _ b
    ∙ ap (λ (x : Parse). then x read_close)
    (same_alternatives (4 * length l) (suc (suc (suc (suc (4 * length (rest l)))))) (rest l) (omega arith) (omega arith))

pub atom_letter : (l : List ℕ) → eqb (first_byte l) open_group ≡ false → is_letter (first_byte l) ≡ true
    → read_atom l ≡ got (symbol (letter (first_byte l - letter_a))) (rest l)
unfolding read_atom alternatives_in
atom_letter l b h = if_false (eqb (first_byte l) open_group) _ _ b ∙ if_true (is_letter (first_byte l)) _ _ h

pub atom_negated : (l : List ℕ) → eqb (first_byte l) open_group ≡ false
    → is_letter (first_byte l) ≡ false → eqb (first_byte l) bang ≡ true → read_atom l ≡ read_negated (rest l)
unfolding read_atom alternatives_in
atom_negated l b h c = if_false (eqb (first_byte l) open_group) _ _ b ∙ if_false (is_letter (first_byte l)) _ _ h ∙ if_true (eqb (first_byte l) bang) _ _ c

pub atom_fault : (l : List ℕ) → eqb (first_byte l) open_group ≡ false → is_letter (first_byte l) ≡ false → eqb (first_byte l) bang ≡ false → read_atom l ≡ fault
unfolding read_atom alternatives_in
atom_fault l b h c = if_false (eqb (first_byte l) open_group) _ _ b ∙ if_false (is_letter (first_byte l)) _ _ h ∙ if_false (eqb (first_byte l) bang) _ _ c

-- a mark, or none
pub mark_star : (e : Expr) (l : List ℕ) → eqb (first_byte l) asterisk ≡ true → read_mark e l ≡ got (star e) (rest l)
mark_star e l b = if_true (eqb (first_byte l) asterisk) _ _ b

pub mark_plus : (e : Expr) (l : List ℕ) → eqb (first_byte l) asterisk ≡ false → eqb (first_byte l) plus_sign ≡ true → read_mark e l ≡ got (plus e) (rest l)
mark_plus e l b c = if_false (eqb (first_byte l) asterisk) _ _ b ∙ if_true (eqb (first_byte l) plus_sign) _ _ c

pub mark_optional : (e : Expr) (l : List ℕ) → eqb (first_byte l) asterisk ≡ false → eqb (first_byte l) plus_sign ≡ false
    → eqb (first_byte l) question_mark ≡ true → read_mark e l ≡ got (optional e) (rest l)
mark_optional e l b c d =
    if_false (eqb (first_byte l) asterisk) _ _ b ∙ (if_false (eqb (first_byte l) plus_sign) _ _ c ∙ if_true (eqb (first_byte l) question_mark) _ _ d)

pub mark_none : (e : Expr) (l : List ℕ) → eqb (first_byte l) asterisk ≡ false
    → eqb (first_byte l) plus_sign ≡ false → eqb (first_byte l) question_mark ≡ false → read_mark e l ≡ got e l
mark_none e l b c d =
    if_false (eqb (first_byte l) asterisk) _ _ b ∙ (if_false (eqb (first_byte l) plus_sign) _ _ c ∙ if_false (eqb (first_byte l) question_mark) _ _ d)

pub alternatives_sound : (l : List ℕ) → All (By alternatives l) (read_alternatives l)
unfolding read_alternatives
alternatives_sound l = sound_alternatives _ l
