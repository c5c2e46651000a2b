-- Laws of the code of an expression of the grammar.
--   item_letters    a symbol's number is its letters
--   letters-number  and no number below the first symbol's is any
--   run_code        run on a stack of any kind of value, it puts the expression's value on top
--   runs_code       no number lacks an operand, and at most 2 × depth + 3 values are on the stack at once, besides those that were there
--   letters_code, code_short
--                   a code is as long as it has letters at least, and as the text at most
-- Assumes nothing.
use Rattle.std.specs.Prelude.{◌≡◌, Bool, true, false, ℕ, ◌+◌, ◌-◌, ◌*◌, ◌/◌, ◌%◌, ◌<◌, ◌≤◌, length, eqb, ltb}
use Rattle.std.proofs.Math.Path.{refl, ap}
use Rattle.std.proofs.Common.{ap₂, ◌∙◌, arith, length-append, ne_eqb, le-ltb, ltb-false}
use mathlib.Core.List.{List, [], ◌∷◌, ◌++◌}
use Rattle.book.specs.Basics.{pick}
use Rattle.paths.specs.Expressions.{Symbol, letter, none_of, stands_for, Expr, symbol, group, inverse, star, plus, optional, alternative, sequence, letters}
use Rattle.paths.specs.Expressions.{depth}
use Rattle.paths.specs.Grammar.{Rule, alternatives, parts, part, marked, atom, Is, one_alternative, more_alternatives, one_part, more_parts, plain, inverted}
use Rattle.paths.specs.Grammar.{bare, with_star, with_plus, with_optional, is-letter, is_negated, is_set, is_group, bar, slash, asterisk, plus_sign}
use Rattle.paths.specs.Grammar.{question_mark, close_group}
use Rattle.reader.specs.declared.items.Item.{Item}
use Rattle.reader.specs.declared.items.Item.TheVariants.{Letters}
use Rattle.reader.specs.Letters.{forward_of, against_of}
use Rattle.reader.specs.LetterLaws.{label_set_lt}
use Rattle.reader.specs.Code.{op_inverse, op_star, op_plus, op_optional, op_alternative, op_sequence, first_letters, label_sets, letters_number, item_of}
use Rattle.reader.specs.Code.{code, Algebra, value, does, run}
use Rattle.reader.specs.Running.{operands, Runs, ended, next}

-- places that a rule's expression needs besides two for each group around it
abbrev extra : Rule → ℕ
extra alternatives = 3
extra parts = 2
extra part = 1
extra marked = 1
extra atom = 1

-- ---- the number of a symbol
packed_letters : (x y : ℕ) → x < label_sets → y < label_sets → ((x + y * label_sets) % label_sets ≡ x) × ((x + y * label_sets) / label_sets % label_sets ≡ y)
packed_letters x y h g = (omega arith, omega arith)

pub item_letters : (forward against : ℕ) → forward < label_sets → against < label_sets → item_of (letters_number forward against) ≡ Letters forward against
unfolding item_of letters_number
item_letters forward against h g =
    let i : ℕ = first_letters + forward + against * label_sets in
    let e : i - first_letters ≡ forward + against * label_sets = omega arith in
    let p = packed_letters forward against h g in
    rw (
      ne_eqb i op_inverse (λ z. omega arith),
      ne_eqb i op_star (λ z. omega arith),
      ne_eqb i op_plus (λ z. omega arith),
      ne_eqb i op_optional (λ z. omega arith),
      ne_eqb i op_alternative (λ z. omega arith),
      le-ltb i first_letters (omega arith),
      e,
    )
    (ap₂ Letters p.0 p.1)

-- by the tests in turn
no_letters : (b : Bool) {x y : Item} {forward against : ℕ} → pick b x y ≡ Letters forward against
    → (x ≡ Letters forward against → ⊥) → (b ≡ false) × (y ≡ Letters forward against)
no_letters true h n = absurd (n h)
no_letters false h n = (refl, h)

pub letters-number : (i : ℕ) {forward against : ℕ} → item_of i ≡ Letters forward against → first_letters ≤ i
unfolding item_of
letters-number i h =
    let a = no_letters (eqb i op_inverse) h (λ e. let z : ◌≡◌ {A = ℕ} 0 1 = cc in omega arith) in
    let b = no_letters (eqb i op_star) a.1 (λ e. let z : ◌≡◌ {A = ℕ} 0 1 = cc in omega arith) in
    let c = no_letters (eqb i op_plus) b.1 (λ e. let z : ◌≡◌ {A = ℕ} 0 1 = cc in omega arith) in
    let d = no_letters (eqb i op_optional) c.1 (λ e. let z : ◌≡◌ {A = ℕ} 0 1 = cc in omega arith) in
    let f = no_letters (eqb i op_alternative) d.1 (λ e. let z : ◌≡◌ {A = ℕ} 0 1 = cc in omega arith) in
    let g = no_letters (ltb i first_letters) f.1 (λ e. let z : ◌≡◌ {A = ℕ} 0 1 = cc in omega arith) in
    ltb-false i first_letters g.0

abbrev symbol_number : Symbol → ℕ
symbol_number s = letters_number (forward_of (stands_for s)) (against_of (stands_for s))

item_symbol : (s : Symbol) → item_of (symbol_number s) ≡ Letters (forward_of (stands_for s)) (against_of (stands_for s))
item_symbol s = item_letters _ _ (label_set_lt _) (label_set_lt _)

module _ {D : Type 0} (A : Algebra D) where
  run-append : (c c' : List ℕ) (st : List D) → run A (c ++ c') st ≡ run A c' (run A c st)
  unfolding run
  run-append [] c' st = refl
  run-append (i ∷ c) c' st = run-append c c' (does A (item_of i) st)

  does_symbol : (s : Symbol) (st : List D) → does A (item_of (symbol_number s)) st ≡ value A (symbol s) ∷ st
  unfolding does value
  does_symbol s st = ap (λ (x : Item). does A x st) (item_symbol s)

  -- an operator after the code of its operands
  run_one : (c : List ℕ) (i : ℕ) (st : List D) (v : D) → run A c st ≡ v ∷ st → run A (c ++ (i ∷ [])) st ≡ does A (item_of i) (v ∷ st)
  unfolding run
  run_one c i st v h = run-append c (i ∷ []) st ∙ ap (does A (item_of i)) h

  run_two : (c c' : List ℕ) (i : ℕ) (st : List D) (v w : D) → run A c st ≡ v ∷ st
      → run A c' (v ∷ st) ≡ w ∷ v ∷ st → run A ((c ++ c') ++ (i ∷ [])) st ≡ does A (item_of i) (w ∷ v ∷ st)
  unfolding run
  run_two c c' i st v w h g = run-append (c ++ c') (i ∷ []) st ∙ ap (does A (item_of i)) (run-append c c' st ∙ ap (run A c') h ∙ g)

  pub run_code : {R : Rule} {s : List ℕ} {e : Expr} → Is R s e → (st : List D) → run A (code e) st ≡ value A e ∷ st
  unfolding run does value code item_of
  run_code (one_alternative d) st = run_code d st
  run_code (more_alternatives {e = e} {f = f} d d') st = run_two (code e) (code f) op_alternative st _ _ (run_code d st) (run_code d' (value A e ∷ st))
  run_code (one_part d) st = run_code d st
  run_code (more_parts {e = e} {f = f} d d') st = run_two (code e) (code f) op_sequence st _ _ (run_code d st) (run_code d' (value A e ∷ st))
  run_code (plain d) st = run_code d st
  run_code (inverted {e = e} d) st = run_one (code e) op_inverse st _ (run_code d st)
  run_code (bare d) st = run_code d st
  run_code (with_star {e = e} d) st = run_one (code e) op_star st _ (run_code d st)
  run_code (with_plus {e = e} d) st = run_one (code e) op_plus st _ (run_code d st)
  run_code (with_optional {e = e} d) st = run_one (code e) op_optional st _ (run_code d st)
  run_code (is-letter {k} h) st = does_symbol (letter k) st
  run_code (is_negated {a = a} m) st = does_symbol (none_of (a ∷ [])) st
  run_code (is_set {w = w} m) st = does_symbol (none_of w) st
  run_code (is_group d) st = run_code d st

  -- one code after another
  runs_append : {k : ℕ} {c : List ℕ} {st : List D} (c' : List ℕ) → Runs A k c st → Runs A k c' (run A c st) → Runs A k (c ++ c') st
  unfolding run
  runs_append c' (ended h) r = r
  runs_append c' (next o h q) r = next o h (runs_append c' q r)

  -- an operator after the code of its operands
  runs_one : {k : ℕ} (c : List ℕ) (i : ℕ) (st : List D) (v : D) → run A c st ≡ v ∷ st → Runs A k c st → Runs A k (i ∷ []) (v ∷ st) → Runs A k (c ++ (i ∷ [])) st
  runs_one c i st v h r q = runs_append (i ∷ []) r (rw h q)

  runs_two : {k : ℕ} (c c' : List ℕ) (i : ℕ) (st : List D) (v w : D) → run A c st ≡ v ∷ st → run A c' (v ∷ st) ≡ w ∷ v ∷ st
      → Runs A k c st → Runs A k c' (v ∷ st) → Runs A k (i ∷ []) (w ∷ v ∷ st) → Runs A k ((c ++ c') ++ (i ∷ [])) st
  runs_two c c' i st v w h g r r' q = runs_append (i ∷ []) (runs_append c' r (rw h r')) (rw (run-append c c' st, h, g) q)

  -- one number with its operands on the stack
  runs_number : (k i : ℕ) (st st' : List D) (v : D) → does A (item_of i) st ≡ v ∷ st'
      → operands (item_of i) ≤ length st → length st ≤ k → length st' < k → Runs A k (i ∷ []) st
  runs_number k i st st' v h b c d = next {c = []} {st = st} b c (rw h (ended {st = v ∷ st'} (omega arith)))

  runs_symbol : (k : ℕ) (st : List D) (s : Symbol) → length st < k → Runs A k (code (symbol s)) st
  unfolding code
  runs_symbol k st s h =
      let none : operands (item_of (symbol_number s)) ≡ 0 = ap operands (item_symbol s) in
      runs_number k (symbol_number s) st st (value A (symbol s)) (does_symbol s st) (omega arith) (omega arith) h

  pub runs_code : {R : Rule} {s : List ℕ} {e : Expr} → Is R s e → (k : ℕ) (st : List D) → length st + (2 * depth e + extra R) ≤ k → Runs A k (code e) st
  unfolding does value code depth item_of
  runs_code (one_alternative d) k st h = runs_code d k st (omega arith)
  runs_code (more_alternatives {e = e} {f = f} d d') k st h =
      let v : D = value A e in
      let w : D = value A f in
      runs_two (code e) (code f) op_alternative st v w (run_code d st) (run_code d' (v ∷ st))
      (runs_code d k st (omega arith))
      (runs_code d' k (v ∷ st) (omega arith))
      (runs_number k op_alternative (w ∷ v ∷ st) st (A.either v w) refl (omega arith) (omega arith) (omega arith))
  runs_code (one_part d) k st h = runs_code d k st (omega arith)
  runs_code (more_parts {e = e} {f = f} d d') k st h =
      let v : D = value A e in
      let w : D = value A f in
      runs_two (code e) (code f) op_sequence st v w (run_code d st) (run_code d' (v ∷ st))
      (runs_code d k st (omega arith))
      (runs_code d' k (v ∷ st) (omega arith))
      (runs_number k op_sequence (w ∷ v ∷ st) st (A.followed v w) refl (omega arith) (omega arith) (omega arith))
  runs_code (plain d) k st h = runs_code d k st h
  runs_code (inverted {e = e} d) k st h =
      let v : D = value A e in
      runs_one (code e) op_inverse st v (run_code d st) (runs_code d k st h)
      (runs_number k op_inverse (v ∷ st) st (A.inverted v) refl (omega arith) (omega arith) (omega arith))
  runs_code (bare d) k st h = runs_code d k st h
  runs_code (with_star {e = e} d) k st h =
      let v : D = value A e in
      runs_one (code e) op_star st v (run_code d st) (runs_code d k st h)
      (runs_number k op_star (v ∷ st) st (A.starred v) refl (omega arith) (omega arith) (omega arith))
  runs_code (with_plus {e = e} d) k st h =
      let v : D = value A e in
      runs_one (code e) op_plus st v (run_code d st) (runs_code d k st h)
      (runs_number k op_plus (v ∷ st) st (A.repeated v) refl (omega arith) (omega arith) (omega arith))
  runs_code (with_optional {e = e} d) k st h =
      let v : D = value A e in
      runs_one (code e) op_optional st v (run_code d st) (runs_code d k st h)
      (runs_number k op_optional (v ∷ st) st (A.maybe v) refl (omega arith) (omega arith) (omega arith))
  runs_code (is-letter {k = j} b) k st h = runs_symbol k st (letter j) (omega arith)
  runs_code (is_negated {a = a} m) k st h = runs_symbol k st (none_of (a ∷ [])) (omega arith)
  runs_code (is_set {w = w} m) k st h = runs_symbol k st (none_of w) (omega arith)
  runs_code (is_group d) k st h = runs_code d k st (omega arith)

pub letters_code : (e : Expr) → letters e ≤ length (code e)
unfolding letters code
letters_code (symbol s) = omega arith
letters_code (group e) = letters_code e
letters_code (inverse e) = omega (arith, letters_code e, length-append (code e) (op_inverse ∷ []))
letters_code (star e) = omega (arith, letters_code e, length-append (code e) (op_star ∷ []))
letters_code (plus e) = omega (arith, letters_code e, length-append (code e) (op_plus ∷ []))
letters_code (optional e) = omega (arith, letters_code e, length-append (code e) (op_optional ∷ []))
letters_code (alternative e f) =
    omega (arith, letters_code e, letters_code f, length-append (code e ++ code f) (op_alternative ∷ []), length-append (code e) (code f))
letters_code (sequence e f) =
    omega (arith, letters_code e, letters_code f, length-append (code e ++ code f) (op_sequence ∷ []), length-append (code e) (code f))

pub code_short : {R : Rule} {s : List ℕ} {e : Expr} → Is R s e → length (code e) ≤ length s
unfolding code
code_short (one_alternative d) = code_short d
code_short (more_alternatives {s} {t} {e} {f} d d') =
    omega (
      arith,
      code_short d,
      code_short d',
      length-append s (bar ∷ t),
      length-append (code e ++ code f) (op_alternative ∷ []),
      length-append (code e) (code f),
    )
code_short (one_part d) = code_short d
code_short (more_parts {s} {t} {e} {f} d d') =
    omega (
      arith,
      code_short d,
      code_short d',
      length-append s (slash ∷ t),
      length-append (code e ++ code f) (op_sequence ∷ []),
      length-append (code e) (code f),
    )
code_short (plain d) = code_short d
code_short (inverted {s} {e} d) = omega (arith, code_short d, length-append (code e) (op_inverse ∷ []))
code_short (bare d) = code_short d
code_short (with_star {s} {e} d) = omega (arith, code_short d, length-append s (asterisk ∷ []), length-append (code e) (op_star ∷ []))
code_short (with_plus {s} {e} d) = omega (arith, code_short d, length-append s (plus_sign ∷ []), length-append (code e) (op_plus ∷ []))
code_short (with_optional {s} {e} d) = omega (arith, code_short d, length-append s (question_mark ∷ []), length-append (code e) (op_optional ∷ []))
code_short (is-letter h) = omega arith
code_short (is_negated m) = omega arith
code_short (is_set m) = omega arith
code_short (is_group {s} d) = omega (arith, code_short d, length-append s (close_group ∷ []))
