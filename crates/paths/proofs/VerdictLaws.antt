-- The computed verdict on a text is the one right verdict.
--   verdict_right  it is right
--   verdict_long, verdict_none, verdict_more, verdict_letters, verdict_deep, verdict_accepted
--                  which verdict it is, by what the descent finds
--   verdict_only   no other verdict is right
--   accepted_same  an accepted text has one expression
--   accepted_is    an accepted text is within the limits
-- Assumes nothing.
use Rattle.std.specs.Prelude.{◌≡◌, refl, List, [], ◌∷◌, Bool, true, false, ℕ, ◌<◌, ◌≤◌, leb, length}
use Rattle.std.proofs.Common.{sym, ap, ◌∙◌, inl, inr, ⊎_elim, append-nil, arith, leb-true, leb-false, le-leb}
use Rattle.std.proofs.lemmas.Bool.{lt-leb}
use Rattle.book.specs.Basics.{pick}
use Rattle.book.specs.Causes.{max_bytes, max_letters, max_depth}
use Rattle.paths.specs.Expressions.{Expr, letters, depth}
use Rattle.paths.specs.Grammar.{alternatives, Is, Verdict, accepted, long, outside, large, Judged, over_bytes, no_syntax, over_limits, good}
use Rattle.paths.specs.Descent.{Parse, got, fault, read_alternatives}
use Rattle.paths.proofs.DescentSoundnessLaws.{All, nothing, gives, By}
use Rattle.paths.proofs.DescentEquationLaws.{alternatives_sound}
use Rattle.paths.proofs.DescentCompletenessLaws.{text_read}
use Rattle.paths.specs.Verdicts.{sized, ended, found, verdict, InLimits}

sized_right : (s : List ℕ) (e : Expr) → length s ≤ max_bytes → Is alternatives s e → (b c : Bool)
    → leb (letters e) max_letters ≡ b → leb (depth e) max_depth ≡ c → Judged s (pick b (pick c (accepted e) large) large)
sized_right s e h d false c p q = over_limits h d (inl (leb-false (letters e) max_letters p))
sized_right s e h d true false p q = over_limits h d (inr (leb-false (depth e) max_depth q))
sized_right s e h d true true p q = good h d (leb-true (letters e) max_letters p) (leb-true (depth e) max_depth q)

no_other : {x : Parse} (s : List ℕ) → read_alternatives s ≡ x → ((e : Expr) → x ≡ got e [] → ⊥) → (e : Expr) → Is alternatives s e → ⊥
no_other s p n e d = n e (sym p ∙ text_read d)

ended_right : (s : List ℕ) (e : Expr) (r : List ℕ) → length s ≤ max_bytes → read_alternatives s ≡ got e r → By alternatives s e r → Judged s (ended e r)
ended_right s e [] h p q = sized_right s e h (rw (q.2, append-nil) q.1) _ _ refl refl
ended_right s e (c ∷ r) h p q = no_syntax h (no_other s p (λ f z. let o : ◌≡◌ {A = ℕ} 0 1 = cc in omega arith))

found_right : (s : List ℕ) (x : Parse) → length s ≤ max_bytes → read_alternatives s ≡ x → All (By alternatives s) x → Judged s (found x)
found_right s x h p nothing = no_syntax h (no_other s p (λ f z. let o : ◌≡◌ {A = ℕ} 0 1 = cc in omega arith))
found_right s x h p (gives {e} {r} q) = ended_right s e r h p q

pub verdict_right : (s : List ℕ) → Judged s (verdict s)
unfolding verdict
verdict_right s = go (leb (length s) max_bytes) refl
  where
    go : (b : Bool) → leb (length s) max_bytes ≡ b → Judged s (pick b (found (read_alternatives s)) long)
    go false q = over_bytes (leb-false (length s) max_bytes q)
    go true q = found_right s (read_alternatives s) (leb-true (length s) max_bytes q) refl (alternatives_sound s)

-- which verdict it is
pub verdict_long : (s : List ℕ) → max_bytes < length s → verdict s ≡ long
unfolding verdict
verdict_long s h = ap (λ (b : Bool). pick b (found (read_alternatives s)) long) (lt-leb (length s) max_bytes h)

verdict_short : (s : List ℕ) → length s ≤ max_bytes → verdict s ≡ found (read_alternatives s)
unfolding verdict
verdict_short s h = ap (λ (b : Bool). pick b (found (read_alternatives s)) long) (le-leb (length s) max_bytes h)

pub verdict_none : (s : List ℕ) → length s ≤ max_bytes → read_alternatives s ≡ fault → verdict s ≡ outside
verdict_none s h e = verdict_short s h ∙ ap found e

pub verdict_more : (s : List ℕ) (e : Expr) (c : ℕ) (r : List ℕ) → length s ≤ max_bytes → read_alternatives s ≡ got e (c ∷ r) → verdict s ≡ outside
verdict_more s e c r h q = verdict_short s h ∙ ap found q

pub verdict_letters : (s : List ℕ) (e : Expr) → length s ≤ max_bytes → read_alternatives s ≡ got e [] → max_letters < letters e → verdict s ≡ large
verdict_letters s e h q k =
    let z : sized e ≡ large = rw (lt-leb (letters e) max_letters k) in
    verdict_short s h ∙ ap found q ∙ z

pub verdict_deep : (s : List ℕ) (e : Expr) → length s ≤ max_bytes → read_alternatives s ≡ got e []
    → letters e ≤ max_letters → max_depth < depth e → verdict s ≡ large
verdict_deep s e h q k d =
    let z : sized e ≡ large = rw (le-leb (letters e) max_letters k, lt-leb (depth e) max_depth d) in
    verdict_short s h ∙ ap found q ∙ z

pub verdict_accepted : (s : List ℕ) (e : Expr) → length s ≤ max_bytes → read_alternatives s ≡ got e []
    → letters e ≤ max_letters → depth e ≤ max_depth → verdict s ≡ accepted e
verdict_accepted s e h q k d =
    let z : sized e ≡ accepted e = rw (le-leb (letters e) max_letters k, le-leb (depth e) max_depth d) in
    verdict_short s h ∙ ap found q ∙ z

-- and no other verdict is right
none_reads : (s : List ℕ) (x : Parse) → length s ≤ max_bytes → ((e : Expr) → Is alternatives s e → ⊥)
    → read_alternatives s ≡ x → All (By alternatives s) x → outside ≡ verdict s
none_reads s x h n p nothing = sym (verdict_none s h p)
none_reads s x h n p (gives {e} {r} q) = go r p q
  where
    go : (r : List ℕ) → read_alternatives s ≡ got e r → By alternatives s e r → outside ≡ verdict s
    go [] p q = absurd (n e (rw (q.2, append-nil) q.1))
    go (c ∷ r) p q = sym (verdict_more s e c r h p)

too_deep : (s : List ℕ) (e : Expr) → length s ≤ max_bytes → Is alternatives s e → max_depth < depth e → verdict s ≡ large
too_deep s e h d k = go (leb (letters e) max_letters) refl
  where
    go : (b : Bool) → leb (letters e) max_letters ≡ b → verdict s ≡ large
    go true q = verdict_deep s e h (text_read d) (leb-true (letters e) max_letters q) k
    go false q = verdict_letters s e h (text_read d) (leb-false (letters e) max_letters q)

pub verdict_only : {s : List ℕ} {v : Verdict} → Judged s v → v ≡ verdict s
verdict_only {s} (over_bytes h) = sym (verdict_long s h)
verdict_only {s} (no_syntax h n) = none_reads s (read_alternatives s) h n refl (alternatives_sound s)
verdict_only {s} (over_limits {e} h d o) = sym (⊎_elim (λ k. verdict_letters s e h (text_read d) k) (λ k. too_deep s e h d k) o)
verdict_only {s} (good {e} h d l k) = sym (verdict_accepted s e h (text_read d) l k)

pub accepted_same : {e f : Expr} → accepted e ≡ accepted f → e ≡ f
accepted_same e = cc

judged_accepted : {s : List ℕ} {v : Verdict} (e : Expr) → v ≡ accepted e → Judged s v → InLimits s e
judged_accepted e q (over_bytes h) = absurd (let z : ◌≡◌ {A = ℕ} 0 1 = cc in omega arith)
judged_accepted e q (no_syntax h n) = absurd (let z : ◌≡◌ {A = ℕ} 0 1 = cc in omega arith)
judged_accepted e q (over_limits h d o) = absurd (let z : ◌≡◌ {A = ℕ} 0 1 = cc in omega arith)
judged_accepted {s} e q (good {e = f} h d l k) = let y : f ≡ e = cc in rw (← y) (record { bytes = h; syntax = d; few_letters = l; shallow = k })

pub accepted_is : (s : List ℕ) (e : Expr) → verdict s ≡ accepted e → InLimits s e
accepted_is s e q = judged_accepted e q (verdict_right s)
