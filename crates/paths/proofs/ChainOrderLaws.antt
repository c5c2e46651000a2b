-- Laws of the order of chains: it is total and transitive, and two lists of step words that are each not after the other are the same.
--   before_back, before_self, not_after_then
--                  the order at the first step, of a list with itself, and from one list over a second to a third
--   before_both, not_after_both
--                  two lists that are each not after the other are the same
--   first_only     there is at most one first chain
--   label_first, sense_next, record_last
--                  of two steps that reach records below 1,024: the smaller label comes first, then forward before against, then the smaller record
--   leads v w, leads_yes, leads_no
--                  the order as a test, and that of two lists one is not after the other
-- Assumes nothing.
use Rattle.std.specs.Prelude.{◌≡◌, refl, List, [], ◌∷◌, Bool, true, false, ℕ, ◌≤◌, ◌<◌, length, ltb, eqb}
use Rattle.std.proofs.Common.{sym, ap, ◌∙◌, subst, true≢false, arith, ltb-true, ltb-false, eqb-true}
use Rattle.std.proofs.lemmas.Bool.{false≢true, eqb-false}
use Rattle.book.specs.Basics.{pick}
use Rattle.k2.specs.PairSetLaws.{bit_small}
use Rattle.paths.specs.Expressions.{Expr}
use Rattle.paths.specs.Chains.{Graph, Step, step_word, step_words, Before, same, smaller, alike, NotAfter, shorter, as_long, First}

pub before_back : {v w : List ℕ} {a b : ℕ} → Before v w → (a < b → ⊥) → (l m : List ℕ) → v ≡ a ∷ l → w ≡ b ∷ m → (a ≡ b) × Before l m
before_back same n l m p q = absurd (let z : ◌≡◌ {A = ℕ} 0 1 = cc in omega arith)
before_back {a = a} {b = b} (smaller {a = c} {b = d} h) n l m p q = let e : c ≡ a = cc in let f : d ≡ b = cc in absurd (n (omega arith))
before_back (alike {v = v} {w = w} h) n l m p q =
    let e : v ≡ l = cc in let f : w ≡ m = cc in
    (cc, subst (λ (x : List ℕ). Before x m) e (subst (λ (x : List ℕ). Before v x) f h))

pub before_both : {v w : List ℕ} → Before v w → Before w v → v ≡ w
before_both same q = refl
before_both (smaller {a} {b} {v} {w} h) q = let r = before_back q (omega arith) w v refl refl in absurd (omega (arith, r.0))
before_both (alike {a} {v} {w} h) q = let r = before_back q (omega arith) w v refl refl in ap (λ (l : List ℕ). a ∷ l) (before_both h r.1)

pub not_after_both : {v w : List ℕ} → NotAfter v w → NotAfter w v → v ≡ w
not_after_both (shorter h) (shorter g) = absurd (omega arith)
not_after_both (shorter h) (as_long e g) = absurd (omega arith)
not_after_both (as_long e h) (shorter g) = absurd (omega arith)
not_after_both (as_long e h) (as_long f g) = before_both h g

-- there is one first chain
pub first_only : (g : Graph) (e : Expr) (x y : ℕ) (ss ts : List Step) → First g e x y ss → First g e x y ts → step_words ss ≡ step_words ts
first_only g e x y ss ts f h = not_after_both (f.least ts h.answers) (h.least ss f.answers)

pub before_self : (v : List ℕ) → Before v v
before_self [] = same
before_self (a ∷ v) = alike (before_self v)

before_then : {v w u : List ℕ} → Before v w → Before w u → Before v u
before_then same q = q
before_then (smaller {a} {b} {v} {w} h) q = go q refl
  where
    go : {s u : List ℕ} → Before s u → s ≡ b ∷ w → Before (a ∷ v) u
    go same p = absurd (let z : ◌≡◌ {A = ℕ} 0 1 = cc in omega arith)
    go (smaller {a = c} {b = d} k) p = let e : c ≡ b = cc in smaller {a = a} {b = d} (omega arith)
    go (alike {a = c} k) p = let e : c ≡ b = cc in smaller {a = a} {b = c} (omega arith)
before_then (alike {a} {v} {w} h) q = go q refl (λ u. before_then {u = u} h)
  where
    go : {s u : List ℕ} → Before s u → s ≡ a ∷ w → ((u : List ℕ) → Before w u → Before v u) → Before (a ∷ v) u
    go same p ih = absurd (let z : ◌≡◌ {A = ℕ} 0 1 = cc in omega arith)
    go (smaller {a = c} {b = d} k) p ih = let e : c ≡ a = cc in smaller {a = a} {b = d} (omega arith)
    go (alike {a = c} {v = s} {w = u} k) p ih =
        let e : c ≡ a = cc in let f : s ≡ w = cc in
        subst (λ (t : ℕ). Before (a ∷ v) (t ∷ u)) (sym e) (alike (ih u (subst (λ (t : List ℕ). Before t u) f k)))

before_length : {v w : List ℕ} → NotAfter v w → length v ≤ length w
before_length (shorter h) = omega arith
before_length (as_long e h) = omega arith

pub not_after_then : {v w u : List ℕ} → NotAfter v w → NotAfter w u → NotAfter v u
not_after_then {v} {w} {u} (shorter h) q = shorter (omega (arith, before_length q))
not_after_then {v} {w} {u} (as_long e h) (shorter q) = shorter (omega arith)
not_after_then (as_long e h) (as_long f q) = as_long (e ∙ f) (before_then h q)

-- ---- step words
pub label_first : (s t : Step) → s.reached < 1024 → t.reached < 1024 → s.spelt.label < t.spelt.label → step_word s < step_word t
label_first s t p q h = omega (arith, bit_small s.spelt.inverted, bit_small t.spelt.inverted)

pub sense_next : (s t : Step) → s.reached < 1024 → t.reached < 1024 → s.spelt.label ≡ t.spelt.label
    → s.spelt.inverted ≡ false → t.spelt.inverted ≡ true → step_word s < step_word t
sense_next s t p q e f g = rw (f, g) (omega arith)

pub record_last : (s t : Step) → s.spelt ≡ t.spelt → s.reached < t.reached → step_word s < step_word t
record_last s t e h = rw e (omega arith)

-- ---- the test
unfoldable pub before : List ℕ → List ℕ → Bool
before [] w = true
before (a ∷ v) [] = false
before (a ∷ v) (b ∷ w) = pick (ltb a b) true (pick (eqb a b) (before v w) false)

abbrev pub leads : List ℕ → List ℕ → Bool
leads v w = pick (ltb (length v) (length w)) true (pick (eqb (length v) (length w)) (before v w) false)

before_yes : (v w : List ℕ) → length v ≡ length w → before v w ≡ true → Before v w
unfolding before
before_yes [] [] e h = same
before_yes [] (b ∷ w) e h = absurd (omega arith)
before_yes (a ∷ v) [] e h = absurd (omega arith)
before_yes (a ∷ v) (b ∷ w) e h = go (ltb a b) refl (eqb a b) refl h (before_yes v w (omega arith))
  where
    go : (s : Bool) → ltb a b ≡ s → (t : Bool) → eqb a b ≡ t → pick s true (pick t (before v w) false) ≡ true
        → (before v w ≡ true → Before v w) → Before (a ∷ v) (b ∷ w)
    go true p t q h ih = smaller (ltb-true a b p)
    go false p true q h ih = subst (λ (c : ℕ). Before (a ∷ v) (c ∷ w)) (eqb-true a b q) (alike (ih h))
    go false p false q h ih = absurd (false≢true h)

before_no : (v w : List ℕ) → length v ≡ length w → before v w ≡ false → Before w v
unfolding before
before_no [] w e h = absurd (true≢false h)
before_no (a ∷ v) [] e h = absurd (omega arith)
before_no (a ∷ v) (b ∷ w) e h = go (ltb a b) refl (eqb a b) refl h (before_no v w (omega arith))
  where
    go : (s : Bool) → ltb a b ≡ s → (t : Bool) → eqb a b ≡ t → pick s true (pick t (before v w) false) ≡ false
        → (before v w ≡ false → Before w v) → Before (b ∷ w) (a ∷ v)
    go true p t q h ih = absurd (true≢false h)
    go false p true q h ih = subst (λ (c : ℕ). Before (c ∷ w) (a ∷ v)) (eqb-true a b q) (alike (ih h))
    go false p false q h ih = smaller {a = b} {b = a} (omega (arith, ltb-false a b p, eqb-false a b q))

pub leads_yes : (v w : List ℕ) → leads v w ≡ true → NotAfter v w
leads_yes v w h = go (ltb (length v) (length w)) refl (eqb (length v) (length w)) refl h
  where
    go : (s : Bool) → ltb (length v) (length w) ≡ s → (t : Bool) → eqb (length v) (length w) ≡ t → pick s true (pick t (before v w) false) ≡ true → NotAfter v w
    go true p t q h = shorter (ltb-true _ _ p)
    go false p true q h = let e = eqb-true (length v) (length w) q in as_long e (before_yes v w e h)
    go false p false q h = absurd (false≢true h)

pub leads_no : (v w : List ℕ) → leads v w ≡ false → NotAfter w v
leads_no v w h = go (ltb (length v) (length w)) refl (eqb (length v) (length w)) refl h
  where
    go : (s : Bool) → ltb (length v) (length w) ≡ s → (t : Bool) → eqb (length v) (length w) ≡ t
        → pick s true (pick t (before v w) false) ≡ false → NotAfter w v
    go true p t q h = absurd (true≢false h)
    go false p true q h = let e = eqb-true (length v) (length w) q in as_long (sym e) (before_no v w e h)
    go false p false q h = shorter (omega (arith, ltb-false (length v) (length w) p, eqb-false (length v) (length w) q))
