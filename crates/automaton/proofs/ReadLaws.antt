-- The fragment of an expression reads exactly its words.
--   Cut q w r            a trace of two fragments one after the other from a position of the first: it stays there, or it parts where it goes over
--   cut, reads_either, reads_followed
--                        a word of the two together is one of either, or one of the first and then one of the second
--   Lap q w              a first word, and then nothing or more words
--   lap, reads_repeated  a word of a repeated fragment is one or more of its words
--   reads_single, reads_reversed, reads_optional
--                        the words of one position, of a fragment reversed, and of one that may be left out
--   reads_words          what the fragment of an expression reads is a word of it
--   to_repeated, add_repeated, to_optional, to_nothing, to_reversed, to_left, to_right, to_followed
--                        from the words of the parts to those of the larger fragment
--   words_reads          it reads every word of the expression
-- Assumes nothing.
use Rattle.std.specs.Prelude.{◌≡◌, ◌⊎◌, ℕ, suc, ◌+◌, ◌<◌, ◌≤◌, max, min}
use Rattle.std.proofs.Math.Path.{refl, subst}
use Rattle.std.proofs.Common.{sym, ap, arith}
use Rattle.std.proofs.Math.Logic.{inl, inr}
use mathlib.Core.List.{List, [], ◌∷◌, ◌++◌, append-nil}
use Rattle.book.specs.Basics.{bit}
use Rattle.paths.specs.Expressions.{Letter, Symbol, stands_for, Expr, symbol, group, inverse, star, plus, optional as optional-part, alternative, sequence}
use Rattle.paths.specs.Expressions.{letters}
use Rattle.paths.specs.Words.{backwards, Words, itself, inside, reversed as word-reversed, left, right, joined, once, again, star_none, star_some}
use Rattle.paths.specs.Words.{optional_none, optional_once}
use Rattle.paths.proofs.ChainLaws.{backwards_backwards}
use Rattle.automaton.specs.Automata.{On, is, Fragment, single, reversed, repeated, optional, either, followed, fragment}
use Rattle.automaton.proofs.SetLaws.{on_max, on_left, on_right, on_both, on_min, is_on, on_bit, bit_on}
use Rattle.automaton.specs.Traces.{Trace, at, on, Reads, nothing, along, Between, Within}
use Rattle.automaton.proofs.TraceLaws.{trace_map, trace_join, trace_reversed, trace_forth, within}

-- ---- from a larger automaton's words to those of its parts
ends : {A : Fragment} {lo hi q r : ℕ} {w : List Letter} → Within lo hi A → Trace A q w r → Between lo hi r
ends W (at {q} {a} h) = W.enters q a h
ends W (on h f t) = ends W t

module _ {A B : Fragment} {lo mid hi : ℕ} (U : Within lo mid A) (W : Within mid hi B) where
  -- one of two sets, by where the position lies
  low : (q a b : ℕ) → q ≤ mid → (On b → Between mid hi q) → On (max a b) → On a
  low q a b l g o = go (on_max a b o)
    where
      go : On a ⊎ On b → On a
      go (inl p) = p
      go (inr p) = absurd (let k = g p in omega arith)

  high : (q a b : ℕ) → mid < q → (On a → Between lo mid q) → On (max a b) → On b
  high q a b l g o = go (on_max a b o)
    where
      go : On a ⊎ On b → On b
      go (inl p) = absurd (let k = g p in omega arith)
      go (inr p) = p

  either_low : {q r : ℕ} {w : List Letter} → q ≤ mid → Trace (either A B) q w r → Trace A q w r
  unfolding either
  either_low l (at {q} {a} h) = at (low q _ _ l (W.enters q a) h)
  either_low l (on {q} {q'} {a = a} h f t) =
      let g = low q _ _ l (W.from q q') f in
      on (low q _ _ l (W.enters q a) h) g (either_low (U.to q q' g).1 t)

  either_high : {q r : ℕ} {w : List Letter} → mid < q → Trace (either A B) q w r → Trace B q w r
  unfolding either
  either_high l (at {q} {a} h) = at (high q _ _ l (U.enters q a) h)
  either_high l (on {q} {q'} {a = a} h f t) =
      let g = high q _ _ l (U.from q q') f in
      on (high q _ _ l (U.enters q a) h) g (either_high (W.to q q' g).0 t)

  followed_high : {q r : ℕ} {w : List Letter} → mid < q → Trace (followed A B) q w r → Trace B q w r
  unfolding followed
  followed_high l (at {q} {a} h) = at (high q _ _ l (U.enters q a) h)
  followed_high l (on {q} {q'} {a = a} h f t) =
      let g = high q (A.follow q q') (B.follow q q') l (U.from q q') (go q q' l (on_max _ _ f)) in
      on (high q _ _ l (U.enters q a) h) g (followed_high (W.to q q' g).0 t)
    where
      go : (q q' : ℕ) → mid < q → On (max (A.follow q q') (B.follow q q')) ⊎ On (min (A.last q) (B.first q')) → On (max (A.follow q q') (B.follow q q'))
      go q q' l (inl o) = o
      go q q' l (inr o) = absurd (let k = U.last q (on_min (A.last q) (B.first q') o).0 in omega arith)

  -- a trip from a position of the first: it stays there, or it parts where it goes over
  data Cut (q : ℕ) (w : List Letter) (r : ℕ) : Type 0 where
    stays : Trace A q w r → Cut q w r
    goes : {p p' : ℕ} {v u : List Letter} → Trace A q v p → On (A.last p) → On (B.first p') → Trace B p' u r → w ≡ v ++ u → Cut q w r

  longer : {q q' r : ℕ} {a : Letter} {w : List Letter} → On (A.enters q a) → On (A.follow q q') → Cut q' w r → Cut q (a ∷ w) r
  longer h f (stays t) = stays (on h f t)
  longer {a = a} h f (goes t l g s e) = goes (on h f t) l g s (ap (λ (m : List Letter). a ∷ m) e)

  cut : {q r : ℕ} {w : List Letter} → q ≤ mid → Trace (followed A B) q w r → Cut q w r
  unfolding followed
  cut l (at {q} {a} h) = stays (at (low q _ _ l (W.enters q a) h))
  cut {r = r} l (on {q} {q'} {a = a} {w = w} h f t) = go (on_max _ _ f) (λ k. cut k t) t
    where
      e : On (A.enters q a)
      e = low q _ _ l (W.enters q a) h

      go : On (max (A.follow q q') (B.follow q q')) ⊎ On (min (A.last q) (B.first q'))
          → (q' ≤ mid → Cut q' w r) → Trace (followed A B) q' w r → Cut q (a ∷ w) r
      go (inl o) ih t' = let g = low q _ _ l (W.from q q') o in longer e g (ih (U.to q q' g).1)
      go (inr o) ih t' = let g = on_min (A.last q) (B.first q') o in goes (at e) g.0 g.1 (followed_high (W.first q' g.1).0 t') refl

  reads_either : {w : List Letter} → Reads (either A B) w → Reads A w ⊎ Reads B w
  unfolding either
  reads_either (nothing o) = go (on_max _ _ o)
    where
      go : On A.nullable ⊎ On B.nullable → Reads A [] ⊎ Reads B []
      go (inl p) = inl (nothing p)
      go (inr p) = inr (nothing p)
  reads_either {w} (along {q} {r} f t l) = go (on_max _ _ f)
    where
      go : On (A.first q) ⊎ On (B.first q) → Reads A w ⊎ Reads B w
      go (inl p) = let s = either_low (U.first q p).1 t in inl (along p s (low r _ _ (ends U s).1 (W.last r) l))
      go (inr p) = let s = either_high (W.first q p).0 t in inr (along p s (high r _ _ (ends W s).0 (U.last r) l))

  reads_followed : {w : List Letter} → Reads (followed A B) w → (v u : List Letter) × Reads A v × Reads B u × (w ≡ v ++ u)
  unfolding followed
  reads_followed (nothing o) = let g = on_min A.nullable B.nullable o in ([], [], nothing g.0, nothing g.1, refl)
  reads_followed {w} (along {q} {r} f t l) = go (on_max _ _ f)
    where
      -- the last position lies in the second, or the second may be nothing
      last_high : mid < r → On (B.last r)
      last_high k = pick (on_max (B.last r) (min B.nullable (A.last r)) l)
        where
          pick : On (B.last r) ⊎ On (min B.nullable (A.last r)) → On (B.last r)
          pick (inl o) = o
          pick (inr o) = absurd (let z = U.last r (on_min B.nullable (A.last r) o).1 in omega arith)

      last_low : r ≤ mid → On B.nullable × On (A.last r)
      last_low k = pick (on_max (B.last r) (min B.nullable (A.last r)) l)
        where
          pick : On (B.last r) ⊎ On (min B.nullable (A.last r)) → On B.nullable × On (A.last r)
          pick (inl o) = absurd (let z = W.last r o in omega arith)
          pick (inr o) = on_min B.nullable (A.last r) o

      parted : On (A.first q) → Cut q w r → (v u : List Letter) × Reads A v × Reads B u × (w ≡ v ++ u)
      parted p (stays s) = let k = last_low (ends U s).1 in (w, [], along p s k.1, nothing k.0, sym (append-nil w))
      parted p (goes {v = v} {u = u} s a b s' e) = (v, u, along p s a, along b s' (last_high (ends W s').0), e)

      go : On (A.first q) ⊎ On (min A.nullable (B.first q)) → (v u : List Letter) × Reads A v × Reads B u × (w ≡ v ++ u)
      go (inl p) = parted p (cut (U.first q p).1 t)
      go (inr p) =
          let k = on_min A.nullable (B.first q) p in
          let s = followed_high (W.first q k.1).0 t in
          ([], w, nothing k.0, along k.1 s (last_high (ends W s).0), refl)

-- ---- one or more
module _ (e : Expr) (A : Fragment) (s : (w : List Letter) → Reads A w → Words e w) where
  -- a first word, and then nothing or more words
  data Lap (q : ℕ) (w : List Letter) : Type 0 where
    final : {p : ℕ} → Trace A q w p → On (A.last p) → Lap q w
    more : {p : ℕ} {v u : List Letter} → Trace A q v p → On (A.last p) → Words (plus e) u → w ≡ v ++ u → Lap q w

  lap_words : {q : ℕ} {w : List Letter} → On (A.first q) → Lap q w → Words (plus e) w
  lap_words f (final t l) = once (s _ (along f t l))
  lap_words f (more {v = v} {u = u} t l d e') = subst (λ (m : List Letter). Words (plus e) m) (sym e') (again (s v (along f t l)) d)

  lap_on : {q q' : ℕ} {a : Letter} {w : List Letter} → On (A.enters q a) → On (A.follow q q') → Lap q' w → Lap q (a ∷ w)
  lap_on h f (final t l) = final (on h f t) l
  lap_on {a = a} h f (more t l d e') = more (on h f t) l d (ap (λ (m : List Letter). a ∷ m) e')

  lap : {q r : ℕ} {w : List Letter} → On (A.last r) → Trace (repeated A) q w r → Lap q w
  unfolding repeated
  lap l (at h) = final (at h) l
  lap l (on {q} {q'} {a = a} {w = w} h f t) = go (on_max _ _ f) (lap l t)
    where
      go : On (A.follow q q') ⊎ On (min (A.last q) (A.first q')) → Lap q' w → Lap q (a ∷ w)
      go (inl o) i = lap_on h o i
      go (inr o) i = let g = on_min (A.last q) (A.first q') o in more (at h) g.0 (lap_words g.1 i) refl

  reads_repeated : {w : List Letter} → Reads (repeated A) w → Words (plus e) w
  unfolding repeated
  reads_repeated (nothing o) = once (s [] (nothing o))
  reads_repeated (along f t l) = lap_words f (lap l t)

reads_single : (p : ℕ) (s : Symbol) {w : List Letter} → Reads (single p (stands_for s)) w → Words (symbol s) w
unfolding single
reads_single p s (nothing o) = absurd (omega arith)
reads_single p s (along f (on h g t) l) = absurd (omega arith)
reads_single p s (along f (at {q} {a} h) l) = itself (on_bit (stands_for s a) (on_min (is p q) (bit (stands_for s a)) h).1)

reads_reversed : {A : Fragment} {w : List Letter} → Reads (reversed A) w → Reads A (backwards w)
unfolding reversed backwards
reads_reversed (nothing o) = nothing o
reads_reversed (along f t l) = along l (trace_forth t) f

reads_optional : {A : Fragment} {w : List Letter} → Reads (optional A) w → (w ≡ []) ⊎ Reads A w
unfolding optional
reads_optional (nothing o) = inl refl
reads_optional (along f t l) = inr (along f (trace_map (λ q a h. h) (λ p q h. h) t) l)

-- what the automaton reads is a word of the expression
pub reads_words : (e : Expr) (o : ℕ) (w : List Letter) → Reads (fragment e o) w → Words e w
unfolding fragment
reads_words (symbol s) o w r = reads_single (suc o) s r
reads_words (group e) o w r = inside (reads_words e o w r)
reads_words (inverse e) o w r =
    subst (λ (m : List Letter). Words (inverse e) m) (backwards_backwards w) (word-reversed (reads_words e o (backwards w) (reads_reversed r)))
reads_words (star e) o w r = go (reads_optional r) (reads_words e o)
  where
    go : (w ≡ []) ⊎ Reads (repeated (fragment e o)) w → ((v : List Letter) → Reads (fragment e o) v → Words e v) → Words (star e) w
    go (inl h) s = subst (λ (m : List Letter). Words (star e) m) (sym h) star_none
    go (inr h) s = star_some (reads_repeated e (fragment e o) s h)
reads_words (plus e) o w r = reads_repeated e (fragment e o) (reads_words e o) r
reads_words (optional-part e) o w r = go (reads_optional r) (reads_words e o w)
  where
    go : (w ≡ []) ⊎ Reads (fragment e o) w → (Reads (fragment e o) w → Words e w) → Words (optional-part e) w
    go (inl h) s = subst (λ (m : List Letter). Words (optional-part e) m) (sym h) optional_none
    go (inr h) s = optional_once (s h)
reads_words (alternative e f) o w r = go (reads_either (within e o) (within f (o + letters e)) r) (reads_words e o w) (reads_words f (o + letters e) w)
  where
    go : Reads (fragment e o) w ⊎ Reads (fragment f (o + letters e)) w → (Reads (fragment e o) w → Words e w)
        → (Reads (fragment f (o + letters e)) w → Words f w) → Words (alternative e f) w
    go (inl h) s t = left (s h)
    go (inr h) s t = right (t h)
reads_words (sequence e f) o w r =
    let p = reads_followed (within e o) (within f (o + letters e)) r in
    subst (λ (m : List Letter). Words (sequence e f) m) (sym p.4) (joined (reads_words e o p.0 p.2) (reads_words f (o + letters e) p.1 p.3))

-- ---- from the parts' words to those of a larger automaton
to_repeated : {A : Fragment} {w : List Letter} → Reads A w → Reads (repeated A) w
unfolding repeated
to_repeated (nothing o) = nothing o
to_repeated (along f t l) = along f (trace_map (λ q a h. h) (λ p q h. on_left _ _ h) t) l

-- one word, and then more
add_repeated : {A : Fragment} {v w : List Letter} → Reads A v → Reads (repeated A) w → Reads (repeated A) (v ++ w)
unfolding repeated
add_repeated (nothing o) r = r
add_repeated {A} {v} (along f t l) (nothing o) = subst (λ (m : List Letter). Reads (repeated A) m) (sym (append-nil v)) (to_repeated (along f t l))
add_repeated {A} (along f t l) (along {q = q} g s k) =
    along f (trace_join (trace_map (λ q a h. h) (λ p q h. on_left _ _ h) t) (on_right _ _ (on_both _ _ l g)) s) k

to_optional : {A : Fragment} {w : List Letter} → Reads A w → Reads (optional A) w
unfolding optional
to_optional (nothing o) = nothing (omega arith)
to_optional (along f t l) = along f (trace_map (λ q a h. h) (λ p q h. h) t) l

to_nothing : (A : Fragment) → Reads (optional A) []
unfolding optional
to_nothing A = nothing (omega arith)

to_reversed : {A : Fragment} {w : List Letter} → Reads A w → Reads (reversed A) (backwards w)
unfolding reversed backwards
to_reversed (nothing o) = nothing o
to_reversed (along f t l) = along l (trace_reversed t) f

to_left : {A : Fragment} (B : Fragment) {w : List Letter} → Reads A w → Reads (either A B) w
unfolding either
to_left B (nothing o) = nothing (on_left _ _ o)
to_left B (along f t l) = along (on_left _ _ f) (trace_map (λ q a h. on_left _ _ h) (λ p q h. on_left _ _ h) t) (on_left _ _ l)

to_right : (A : Fragment) {B : Fragment} {w : List Letter} → Reads B w → Reads (either A B) w
unfolding either
to_right A (nothing o) = nothing (on_right _ _ o)
to_right A (along f t l) = along (on_right _ _ f) (trace_map (λ q a h. on_right _ _ h) (λ p q h. on_right _ _ h) t) (on_right _ _ l)

module _ (A B : Fragment) where
  in_first : {q r : ℕ} {w : List Letter} → Trace A q w r → Trace (followed A B) q w r
  unfolding followed
  in_first t = trace_map (λ q a h. on_left _ _ h) (λ p q h. on_left _ _ (on_left _ _ h)) t

  in_second : {q r : ℕ} {w : List Letter} → Trace B q w r → Trace (followed A B) q w r
  unfolding followed
  in_second t = trace_map (λ q a h. on_right _ _ h) (λ p q h. on_left _ _ (on_right _ _ h)) t

  to_followed : {v w : List Letter} → Reads A v → Reads B w → Reads (followed A B) (v ++ w)
  unfolding followed
  to_followed (nothing o) (nothing p) = nothing (on_both _ _ o p)
  to_followed (nothing o) (along f t l) = along (on_right _ _ (on_both _ _ o f)) (in_second t) (on_left _ _ l)
  to_followed {v} (along f t l) (nothing o) =
      subst (λ (m : List Letter). Reads (followed A B) m) (sym (append-nil v)) (along (on_left _ _ f) (in_first t) (on_right _ _ (on_both _ _ o l)))
  to_followed (along f t l) (along g s k) = along (on_left _ _ f) (trace_join (in_first t) (on_right _ _ (on_both _ _ l g)) (in_second s)) (on_left _ _ k)

-- the automaton reads every word of the expression
pub words_reads : {e : Expr} {w : List Letter} → Words e w → (o : ℕ) → Reads (fragment e o) w
unfolding fragment
words_reads (itself h) o = unfold single in (along (is_on (suc o)) (at (on_both _ _ (is_on (suc o)) (bit_on h))) (is_on (suc o)))
words_reads (inside d) o = words_reads d o
words_reads (word-reversed d) o = to_reversed (words_reads d o)
words_reads (left {e = e} {f = f} d) o = to_left (fragment f (o + letters e)) (words_reads d o)
words_reads (right {e = e} d) o = to_right (fragment e o) (words_reads d (o + letters e))
words_reads (joined {e = e} {f = f} d d') o = to_followed (fragment e o) (fragment f (o + letters e)) (words_reads d o) (words_reads d' (o + letters e))
words_reads (once d) o = to_repeated (words_reads d o)
words_reads (again d d') o = add_repeated (words_reads d o) (words_reads d' o)
words_reads (star_none {e}) o = to_nothing (repeated (fragment e o))
words_reads (star_some d) o = to_optional (words_reads d o)
words_reads (optional_none {e}) o = to_nothing (fragment e o)
words_reads (optional_once d) o = to_optional (words_reads d o)
