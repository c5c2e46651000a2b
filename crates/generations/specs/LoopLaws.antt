-- Loops as words: the first loop of a record is the first chain from it to itself that spells a word of (a|c)+, here of the labels 0 and 2.
--   loop_expr l ls  that expression, of the labels l and ls
--   loop_verdict   its text is accepted
--   plain_words, loop_words
--                  the words of that expression are those of one or more of these letters, plain
--   loop_in_use, loop_labels
--                  a loop has a first step, so its record is in use and the set of labels is not empty
--   loop_answers, answers_loop
--                  a loop is a chain that spells a word of it, and such a chain is a loop
--   loop_is_first, first_is_loop
--                  so the first loop is the first chain, both ways
--   set_verdict    the text of a set's labels is accepted
-- Assumes nothing.
use Rattle.std.specs.Prelude.{◌≡◌, Bool, true, false, not, length}
use Rattle.std.proofs.Math.Path.{refl, sym, ap, subst}
use Rattle.std.proofs.Common.{◌∙◌, ⊎_elim, arith, eqb-true, eq-eqb}
use mathlib.Core.List.{List, [], ◌∷◌, ◌++◌, append_assoc, append-nil}
use Prim.Native.Nat.{ℕ, zero, suc, ◌+◌, ◌*◌, ◌<◌, ◌≤◌}
use Rattle.std.proofs.Math.Dec.{eqb}
use Rattle.std.proofs.Math.ListN.{length-append}
use Rattle.book.specs.Basics.{has, In, here, there, All, all_none, all_more}
use Rattle.book.specs.Causes.{labels}
use Rattle.book.proofs.SetLaws.{and_both}
use Rattle.book.proofs.ListLaws.{in_left, in_right, in_either, in_none, in_front}
use Rattle.k2.specs.Bits.{digit}
use Rattle.k2.specs.PairSets.{if_set}
use Rattle.k2.specs.PairSetLaws.{on_bit, bit_on}
use Rattle.paths.specs.Expressions.{Letter, Symbol, letter, none_of, stands_for, Expr, symbol, group, inverse, star, plus, optional, alternative, sequence}
use Rattle.paths.specs.Expressions.{letters, depth}
use Rattle.paths.specs.Grammar.{bar, open_group, close_group, plus_sign, letter_a, alternatives, Is, one_alternative, more_alternatives, one_part, plain, bare}
use Rattle.paths.specs.Grammar.{with_plus, is-letter, is_group, accepted, good}
use Rattle.paths.specs.Verdicts.{verdict}
use Rattle.paths.proofs.VerdictLaws.{verdict_only}
use Rattle.paths.specs.Words.{Words, itself, inside, reversed, left, right, joined, once, again, star_none, star_some, optional_none, optional_once}
use Rattle.paths.specs.Chains.{Graph, Step, Chain, stay, cross, spell, Answers, First}
use Rattle.paths.specs.Inside.{Inside}
use Rattle.paths.proofs.ChainLaws.{crossing_in, crossing_label}
use Rattle.automaton.proofs.LevelLaws.{Which, less, same, more, which}
use Rattle.rows.specs.Rows.{places}
use Rattle.rows.specs.RowLaws.{length-places}
use Rattle.generations.specs.Generations.{Over, Loop, FirstLoop}
use Rattle.generations.specs.Inner.{Contains, letters_after, loop_text}

-- the expression: alternatives one after another, as a group, once or more
unfoldable pub either : Expr → List ℕ → Expr
either e [] = e
either e (l ∷ ls) = either (alternative e (symbol (letter l))) ls

abbrev pub loop_expr : ℕ → List ℕ → Expr
loop_expr l ls = plus (group (either (symbol (letter l)) ls))

-- ---- its text
length_letters : (c : ℕ) (ls : List ℕ) → length (letters_after c ls) ≡ 2 * length ls
unfolding letters_after
length_letters c [] = refl
length_letters c (l ∷ ls) = let z = length_letters bar ls in omega arith

is_letters : (s : List ℕ) (e : Expr) (ls : List ℕ) → Is alternatives s e
    → ((l : ℕ) → In l ls → l < labels) → Is alternatives (s ++ letters_after bar ls) (either e ls)
unfolding letters_after either
is_letters s e [] d h = subst (λ (t : List ℕ). Is alternatives t e) (sym (append-nil s)) d
is_letters s e (l ∷ ls) d h =
    subst (λ (t : List ℕ). Is alternatives t (either (alternative e (symbol (letter l))) ls))
    (append_assoc s (bar ∷ (letter_a + l) ∷ []) (letters_after bar ls))
    (is_letters (s ++ (bar ∷ (letter_a + l) ∷ [])) (alternative e (symbol (letter l))) ls
    (more_alternatives d (one_part (plain (bare (is-letter (h l here)))))) (λ k i. h k (there i)))

letters_either : (e : Expr) (ls : List ℕ) → letters (either e ls) ≡ letters e + length ls
unfolding either letters
letters_either e [] = omega arith
letters_either e (l ∷ ls) = let z = letters_either (alternative e (symbol (letter l))) ls in omega arith

depth_either : (e : Expr) (ls : List ℕ) → depth (either e ls) ≡ depth e
unfolding either depth
depth_either e [] = refl
depth_either e (l ∷ ls) = let z = depth_either (alternative e (symbol (letter l))) ls in omega arith

module _ (l : ℕ) (ls : List ℕ) (few : length ls ≤ 62) (small : (k : ℕ) → In k (l ∷ ls) → k < labels) where
  loop-text : Is alternatives (loop_text (l ∷ ls)) (loop_expr l ls)
  unfolding loop_text letters_after
  loop-text =
      let s : List ℕ = (letter_a + l) ∷ letters_after bar ls in
      let d = is_letters ((letter_a + l) ∷ []) (symbol (letter l)) ls
      (one_alternative (one_part (plain (bare (is-letter (small l here)))))) (λ k i. small k (there i)) in
      subst (λ (t : List ℕ). Is alternatives (open_group ∷ t) (loop_expr l ls)) (append_assoc s (close_group ∷ []) (plus_sign ∷ []))
      (one_alternative (one_part (plain (with_plus (is_group d)))))

  pub loop_verdict : verdict (loop_text (l ∷ ls)) ≡ accepted (loop_expr l ls)
  unfolding letters depth loop_text
  loop_verdict =
      let a = length-append (letters_after open_group (l ∷ ls)) (close_group ∷ plus_sign ∷ []) in
      let b = length_letters open_group (l ∷ ls) in
      let c = letters_either (symbol (letter l)) ls in
      let d = depth_either (symbol (letter l)) ls in
      sym (verdict_only (good (omega arith) loop-text (omega arith) (omega arith)))

-- ---- its words
-- a letter that is plain and of the labels ls
pub record PlainOf (ls : List ℕ) (a : Letter) : Type 0 where
  pub plain : a.inverted ≡ false
  pub listed : In a.label ls

-- an expression of plain letters of ls, by |, groups and + alone
unfoldable OnlyOf : List ℕ → Expr → Type 0
OnlyOf ls (symbol (letter k)) = In k ls
OnlyOf ls (symbol (none_of w)) = ⊥
OnlyOf ls (group e) = OnlyOf ls e
OnlyOf ls (inverse e) = ⊥
OnlyOf ls (star e) = ⊥
OnlyOf ls (plus e) = OnlyOf ls e
OnlyOf ls (optional e) = ⊥
OnlyOf ls (alternative e f) = OnlyOf ls e × OnlyOf ls f
OnlyOf ls (sequence e f) = ⊥

all_append : {A : Type 0} {P : A → Type 0} (v w : List A) → All P v → All P w → All P (v ++ w)
all_append [] w a b = b
all_append (x ∷ v) w (all_more p a) b = all_more p (all_append v w a b)

letter_plain : {ls : List ℕ} (s : Symbol) (a : Letter) → stands_for s a ≡ true → OnlyOf ls (symbol s) → PlainOf ls a
unfolding stands_for OnlyOf
letter_plain {ls} (letter k) a e o =
    let z = and_both (eqb a.label k) (not a.inverted) e in
    record { plain = not_on a.inverted z.1; listed = subst (λ (i : ℕ). In i ls) (sym (eqb-true a.label k z.0)) o }
  where
    not_on : (t : Bool) → not t ≡ true → t ≡ false
    not_on true q = sym q
    not_on false q = refl
letter_plain (none_of w) a e o = absurd o

words_plain : {ls : List ℕ} {e : Expr} {w : List Letter} → Words e w → OnlyOf ls e → (0 < length w) × All (PlainOf ls) w
unfolding OnlyOf
words_plain (itself {s = s} {a = a} e) o = (omega arith, all_more (letter_plain s a e o) all_none)
words_plain (inside d) o = words_plain d o
words_plain (reversed d) o = absurd o
words_plain (left d) o = words_plain d o.0
words_plain (right d) o = words_plain d o.1
words_plain (joined c d) o = absurd o
words_plain (once d) o = words_plain d o
words_plain (again {v = v} {w = w} c d) o =
    let p = words_plain c o in
    let q = words_plain d o in
    let z = length-append v w in
    (omega (arith, p.0), all_append v w p.1 q.1)
words_plain star_none o = absurd o
words_plain (star_some d) o = absurd o
words_plain optional_none o = absurd o
words_plain (optional_once d) o = absurd o

only_either : {ls : List ℕ} (e : Expr) (ks : List ℕ) → OnlyOf ls e → ((k : ℕ) → In k ks → In k ls) → OnlyOf ls (either e ks)
unfolding either OnlyOf
only_either e [] o h = o
only_either e (k ∷ ks) o h = only_either (alternative e (symbol (letter k))) ks (o, h k here) (λ j i. h j (there i))

-- and every such word is one
words_either : (e : Expr) (ls : List ℕ) {w : List Letter} → Words e w → Words (either e ls) w
unfolding either
words_either e [] d = d
words_either e (l ∷ ls) d = words_either (alternative e (symbol (letter l))) ls (left d)

letter_word : (a : Letter) → a.inverted ≡ false → Words (symbol (letter a.label)) (a ∷ [])
unfolding stands_for
letter_word a p = let e : stands_for (letter a.label) a ≡ true = rw (eq-eqb a.label a.label refl, p) in itself e

in_either_word : (e : Expr) (ls : List ℕ) (a : Letter) → a.inverted ≡ false → (k : ℕ) → k ≡ a.label → In k ls → Words (either e ls) (a ∷ [])
unfolding either
in_either_word e [] a p k q x3 = elim x3 [ ]
in_either_word e (l ∷ ls) a p k q here =
    words_either (alternative e (symbol (letter l))) ls (right (subst (λ (i : ℕ). Words (symbol (letter i)) (a ∷ [])) (sym q) (letter_word a p)))
in_either_word e (l ∷ ls) a p k q (there i) = in_either_word (alternative e (symbol (letter l))) ls a p k q i

module _ (l : ℕ) (ls : List ℕ) where
  plain_letter : (a : Letter) → PlainOf (l ∷ ls) a → Words (group (either (symbol (letter l)) ls)) (a ∷ [])
  plain_letter a p = inside (go a.label refl p.listed)
    where
      go : (k : ℕ) → k ≡ a.label → In k (l ∷ ls) → Words (either (symbol (letter l)) ls) (a ∷ [])
      go k q i = ⊎_elim
          (λ (e : k ≡ l). words_either (symbol (letter l)) ls (subst (λ (j : ℕ). Words (symbol (letter j)) (a ∷ [])) (sym q ∙ e) (letter_word a p.plain)))
          (λ j. in_either_word (symbol (letter l)) ls a p.plain k q j) (in_front i refl)

  pub plain_words : (w : List Letter) → 0 < length w → All (PlainOf (l ∷ ls)) w → Words (loop_expr l ls) w
  plain_words [] h a = absurd (omega arith)
  plain_words (a ∷ []) h (all_more p q) = once (plain_letter a p)
  plain_words (a ∷ b ∷ w) h (all_more p q) = again (plain_letter a p) (plain_words (b ∷ w) (omega arith) q)

  pub loop_words : {w : List Letter} → Words (loop_expr l ls) w → (0 < length w) × All (PlainOf (l ∷ ls)) w
  unfolding OnlyOf
  loop_words d = words_plain d (only_either (symbol (letter l)) ls here (λ k i. there i))

-- ---- the labels of a set
in_places : (f : ℕ → ℕ) (n k : ℕ) → In k (places f n) → (k < n) × (0 < f k)
unfolding places
in_places f zero k i = absurd (in_none i refl)
in_places f (suc n) k i =
    ⊎_elim (λ j. let z = in_places f n k j in (omega (arith, z.0), z.1)) (λ j. last (f n) refl j) (in_either (places f n) (if_set (f n) n) i)
  where
    last : (v : ℕ) → f n ≡ v → In k (if_set v n) → (k < suc n) × (0 < f k)
    last zero e j = absurd (in_none j refl)
    last (suc v) e j = ⊎_elim (λ (q : k ≡ n). (omega arith, (let z : f k ≡ suc v = ap f q ∙ e in omega arith))) (λ q. absurd (in_none q refl)) (in_front j refl)

place_in : (f : ℕ → ℕ) (n k : ℕ) → k < n → 0 < f k → In k (places f n)
unfolding places
place_in f zero k h p = absurd (omega arith)
place_in f (suc n) k h p = go (which k n) (place_in f n k)
  where
    last : (v : ℕ) → 0 < v → In n (if_set v n)
    last zero q = absurd (omega arith)
    last (suc v) q = here

    go : Which k n → (k < n → 0 < f k → In k (places f n)) → In k (places f n ++ if_set (f n) n)
    go (less l) i = in_left (if_set (f n) n) (i l p)
    go (same e) i = in_right (places f n) (subst (λ (j : ℕ). In j (if_set (f n) n)) (sym e) (last (f n) (subst (λ (j : ℕ). 0 < f j) e p)))
    go (more l) i = absurd (omega arith)

-- ---- loops and chains
module _ (g : Graph) (I : Inside g) (m : ℕ) (ls : List ℕ) (C : Contains m ls) where
  over_plain : {x y : ℕ} {ss : List Step} → Chain g x ss y → All (Over ls) ss → All (PlainOf (places (digit m) 26)) (spell ss)
  unfolding spell
  over_plain stay all_none = all_none
  over_plain {x} (cross {s = s} p c) (all_more o a) =
      all_more (record {
        plain = o.forward;
        listed = place_in (digit m) 26 s.spelt.label (crossing_label g I s.spelt x s.reached p)
            (let z = C s.spelt.label ∙ on_bit (has eqb s.spelt.label ls) o.listed in omega arith);
      }) (over_plain c a)

  plain_over : (ss : List Step) → All (PlainOf (places (digit m) 26)) (spell ss) → All (Over ls) ss
  unfolding spell
  plain_over [] all_none = all_none
  plain_over (s ∷ ss) (all_more p a) =
      all_more (record {
        forward = p.plain;
        listed =
            bit_on (has eqb s.spelt.label ls) (let z =
            (in_places (digit m) 26 s.spelt.label p.listed).1 in let e = C s.spelt.label in omega arith);
      }) (plain_over ss a)

  length_spell : (ss : List Step) → length (spell ss) ≡ length ss
  unfolding spell
  length_spell [] = refl
  length_spell (s ∷ ss) = ap suc (length_spell ss)

  -- a loop has a first step, so that its record is in use
  pub loop_in_use : {x y : ℕ} {ss : List Step} → Chain g x ss y → 0 < length ss → g.in_use x ≡ true
  loop_in_use stay h = absurd (omega arith)
  loop_in_use {x} (cross {s = s} p c) h = (crossing_in g I s.spelt x s.reached p).0

  module _ (l : ℕ) (ks : List ℕ) (e : places (digit m) 26 ≡ l ∷ ks) where
    pub loop_answers : {x : ℕ} {ss : List Step} → Loop g ls x ss → Answers g (loop_expr l ks) x x ss
    loop_answers {x} {ss} L =
        let u = loop_in_use L.chain L.some in
        let z = length_spell ss in
        record {
          begins = u;
          ends = u;
          chain = L.chain;
          spells =
              plain_words l ks (spell ss) (omega (arith, L.some)) (subst (λ (t : List ℕ). All (PlainOf t) (spell ss)) e (over_plain L.chain L.steps));
        }

    pub answers_loop : {x : ℕ} {ss : List Step} → Answers g (loop_expr l ks) x x ss → Loop g ls x ss
    answers_loop {x} {ss} A =
        let w = loop_words l ks A.spells in
        let z = length_spell ss in
        record {
          some = omega (arith, w.0);
          steps = plain_over ss (subst (λ (t : List ℕ). All (PlainOf t) (spell ss)) (sym e) w.1);
          chain = A.chain;
        }

    pub loop_is_first : {x : ℕ} {ss : List Step} → FirstLoop g ls x ss → First g (loop_expr l ks) x x ss
    loop_is_first F = record { answers = loop_answers F.loop; least = λ ts A. F.least ts (answers_loop A) }

    pub first_is_loop : {x : ℕ} {ss : List Step} → First g (loop_expr l ks) x x ss → FirstLoop g ls x ss
    first_is_loop F = record { loop = answers_loop F.answers; least = λ ts L. F.least ts (loop_answers L) }

  -- a loop has a label, so that the set is not empty
  pub loop_labels : {x : ℕ} {ss : List Step} → Loop g ls x ss → (l : ℕ) × (ks : List ℕ) × (places (digit m) 26 ≡ l ∷ ks)
  unfolding spell
  loop_labels {x} {ss} L = go ss L.some (over_plain L.chain L.steps)
    where
      some : (a : Letter) (t : List ℕ) → PlainOf t a → (l : ℕ) × (ks : List ℕ) × (t ≡ l ∷ ks)
      some a [] p = absurd (in_none p.listed refl)
      some a (l ∷ ks) p = (l, ks, refl)

      go : (ss : List Step) → 0 < length ss → All (PlainOf (places (digit m) 26)) (spell ss) → (l : ℕ) × (ks : List ℕ) × (places (digit m) 26 ≡ l ∷ ks)
      go [] h a = absurd (omega arith)
      go (s ∷ ss) h (all_more p a) = some s.spelt (places (digit m) 26) p

  pub set_verdict : (l : ℕ) (ks : List ℕ) → places (digit m) 26 ≡ l ∷ ks → verdict (loop_text (places (digit m) 26)) ≡ accepted (loop_expr l ks)
  set_verdict l ks e =
      let z = length-places (digit m) 26 in
      let y = ap length e in
      ap (λ (t : List ℕ). verdict (loop_text t)) e
      ∙ loop_verdict l ks (omega arith) (λ k i. (in_places (digit m) 26 k (subst (λ (t : List ℕ). In k t) (sym e) i)).0)
