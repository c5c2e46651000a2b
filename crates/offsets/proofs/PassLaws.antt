-- Passes over ties, and what they keep.
--   passes_keep         what each arc keeps, passes keep
--   passes_length, passes_down
--                       the length stays, and distances fall only
--   passes_hold         after passes that ended with one that changed nothing, all arcs hold
--   Near c z            -c ≤ z ≤ c
--   near_add, mag_parts, near_known
--                       sums of near numbers; a number that is near is known
--   known_not_far  the number of a record that is not reached, which is not known
--   Ranged              a distance is `far`, or near
--   Small cs            every arc rises by at most 20,000
--   passes_ranged       how large distances grow, pass by pass
--   Reached             what is known has been reached
--   passes_reached      known records are reached
--   settled_is          passes over ties are passes over their arcs
-- Assumes nothing.
use Rattle.std.specs.Prelude.{◌≡◌, refl, ◌⊎◌, List, [], ◌∷◌, Bool, true, false, ℕ, zero, suc, ◌+◌, ◌*◌, ◌^◌, ◌<◌, ◌≤◌, ℤ, pos, negsuc, ◌+ℤ◌, length, ◌≤ℤ◌}
use Rattle.std.proofs.Common.{sym, ap, ◌∙◌, subst, inl, inr, true≢false, suc-mul, arith, length-set, lt-ltb}
use Rattle.std.specs.Int.Signed.{mag, ≤ℤ_refl}
use Rattle.book.specs.Basics.{In, here, there}
use Rattle.offsets.specs.Thirds.{far}
use Rattle.offsets.specs.declared.Tie.{Tie}
use Rattle.offsets.proofs.LinearLaws.{up, down, of_add, ≤ℤ-trans}
use Rattle.offsets.specs.Relax.{State, pick, known, dist, settled}
use Rattle.offsets.proofs.ArcLaws.{Arc, arcs3, arc, run, run_is, Holds, lower_ind, set_ind, arc_length, run_down, quiet_holds}
use Rattle.offsets.proofs.SettleLaws.{one_pass, passes}

-- ---- what passes keep
run_keeps : (Q : List ℤ → Type 0) (cs : List Arc) → ((a : Arc) → In a cs → (s : State) → Q s.0 → Q (arc a s).0) → (s : State) → Q s.0 → Q (run cs s).0
run_keeps Q [] f s q = q
run_keeps Q (a ∷ cs) f s q = run_keeps Q cs (λ b i. f b (there i)) (arc a s) (f a here s q)

pick_keeps : (Q : State → Type 0) (b : Bool) (x y : State) → Q x → Q y → Q (pick b x y)
pick_keeps Q true x y h k = h
pick_keeps Q false x y h k = k

pub passes_keep : (Q : List ℤ → Type 0) (cs : List Arc) → ((a : Arc) → In a cs → (s : State) → Q s.0 → Q (arc a s).0)
    → (k : ℕ) (s : State) → Q s.0 → Q (passes k cs s).0
passes_keep Q cs f zero s q = q
passes_keep Q cs f (suc k) s q =
    let r = run_keeps Q cs f (s.0, false) q in
    pick_keeps (λ x. Q x.0) (one_pass cs s).1 (passes k cs (one_pass cs s)) (one_pass cs s) (passes_keep Q cs f k (one_pass cs s) r) r

pub passes_length : (k : ℕ) (cs : List Arc) (s : State) → length (passes k cs s).0 ≡ length s.0
passes_length k cs s = passes_keep (λ l. length l ≡ length s.0) cs (λ a _ r e. arc_length a r ∙ e) k s refl

passes_case : (k : ℕ) (cs : List Arc) (s : State) (b : Bool) → (one_pass cs s).1 ≡ b
    → ((passes k cs (one_pass cs s)).1 ≡ false → b ≡ true → (a : Arc) → In a cs → Holds a (passes k cs (one_pass cs s)).0)
    → (pick b (passes k cs (one_pass cs s)) (one_pass cs s)).1 ≡ false → (a : Arc) → In a cs → Holds a (pick b (passes k cs (one_pass cs s)) (one_pass cs s)).0
passes_case k cs s true e f h = f h refl
passes_case k cs s false e f h = λ a i. let q = quiet_holds cs (s.0, false) e in subst (λ (x : State). Holds a x.0) (sym q.0) (q.1 a i)

pub passes_hold : (k : ℕ) (cs : List Arc) (s : State) → (passes (suc k) cs s).1 ≡ false → (a : Arc) → In a cs → Holds a (passes (suc k) cs s).0
passes_hold zero cs s h = passes_case zero cs s (one_pass cs s).1 refl (λ e t. absurd (true≢false (sym t ∙ e))) h
passes_hold (suc k) cs s h = passes_case (suc k) cs s (one_pass cs s).1 refl (λ e t. passes_hold k cs (one_pass cs s) e) h

pub passes_down : (k : ℕ) (cs : List Arc) (s : State) (i : ℕ) → dist (passes k cs s).0 i ≤ℤ dist s.0 i
passes_down k cs s i = passes_keep (λ l. dist l i ≤ℤ dist s.0 i) cs (λ a _ r h. ≤ℤ-trans (run_down (a ∷ []) r i) h) k s (≤ℤ_refl (dist s.0 i))

-- ---- how large distances grow
abbrev pub Near : ℕ → ℤ → Type 0
Near c z = (up z ≤ c) × (down z ≤ c)

one_zero : (z : ℤ) → (up z ≡ 0) ⊎ (down z ≡ 0)
unfolding up down
one_zero (pos n) = inr refl
one_zero (negsuc n) = inl refl

pub near_add : (c e : ℕ) (x y : ℤ) → Near c x → Near e y → Near (c + e) (x +ℤ y)
near_add c e x y h k = let one = one_zero (x +ℤ y) in both one (of_add x y)
  where
    both : (up (x +ℤ y) ≡ 0) ⊎ (down (x +ℤ y) ≡ 0) → up (x +ℤ y) + down x + down y ≡ down (x +ℤ y) + up x + up y → Near (c + e) (x +ℤ y)
    both (inl z) s = (omega (arith, z, s, h.0, h.1, k.0, k.1), omega (arith, z, s, h.0, h.1, k.0, k.1))
    both (inr z) s = (omega (arith, z, s, h.0, h.1, k.0, k.1), omega (arith, z, s, h.0, h.1, k.0, k.1))

pub mag_parts : (z : ℤ) → mag z ≤ up z + down z
unfolding up down
mag_parts (pos n) = omega arith
mag_parts (negsuc n) = omega arith

pub near_known : (c : ℕ) (z : ℤ) → c < 2 ^ 61 → Near c z → known z ≡ true
near_known c z h k = let m = mag_parts z in lt-ltb (mag z) (2 ^ 62) (omega (arith, m, h, k.0, k.1))

pub known_not_far : (z : ℤ) → known z ≡ true → z ≡ far → ⊥
known_not_far z h e = let q : known far ≡ true = subst (λ (y : ℤ). known y ≡ true) e h in true≢false (sym q)

abbrev pub Ranged : ℕ → List ℤ → Type 0
Ranged c l = (i : ℕ) → i < length l → (dist l i ≡ far) ⊎ Near c (dist l i)

arc_ranged : (a : Arc) → Near 20000 a.rise → (c : ℕ) (s : State) → Ranged c s.0 → Ranged (c + 20000) (arc a s).0
arc_ranged a w c s r = lower_ind a s (λ x. Ranged (c + 20000) x.0) (λ _ i g. more (dist s.0 i) (r i g)) (λ f t k _ i g.
    set_ind s.0 a.to (dist s.0 a.from +ℤ a.rise) t i (λ z. (z ≡ far) ⊎ Near (c + 20000) z)
    (λ _. inr (near_add c 20000 (dist s.0 a.from) a.rise (near (r a.from f) k) w))
    (λ _. more (dist s.0 i) (r i (subst (λ (n : ℕ). i < n) (length-set s.0 a.to (dist s.0 a.from +ℤ a.rise)) g))))
  where
    more : (z : ℤ) → (z ≡ far) ⊎ Near c z → (z ≡ far) ⊎ Near (c + 20000) z
    more z (inl e) = inl e
    more z (inr h) = inr (omega (arith, h.0), omega (arith, h.1))

    near : {z : ℤ} → (z ≡ far) ⊎ Near c z → known z ≡ true → Near c z
    near {z} (inl e) k = absurd (known_not_far z k e)
    near {z} (inr h) k = h

abbrev pub Small : List Arc → Type 0
Small cs = (a : Arc) → In a cs → Near 20000 a.rise

run_ranged : (cs : List Arc) → Small cs → (c : ℕ) (s : State) → Ranged c s.0 → Ranged (c + length cs * 20000) (run cs s).0
run_ranged [] w c s r = subst (λ (d : ℕ). Ranged d s.0) (let e : c ≡ c + 0 * 20000 = omega arith in e) r
run_ranged (a ∷ cs) w c s r =
    let q = run_ranged cs (λ b i. w b (there i)) (c + 20000) (arc a s) (arc_ranged a (w a here) c s r) in
    subst (λ (d : ℕ). Ranged d (run cs (arc a s)).0) (let e : c + 20000 + length cs * 20000 ≡ c + suc (length cs) * 20000 = omega arith in e) q

ranged_more : (c d : ℕ) → c ≤ d → (l : List ℤ) → Ranged c l → Ranged d l
ranged_more c d h l r i g = go (r i g)
  where
    go : (dist l i ≡ far) ⊎ Near c (dist l i) → (dist l i ≡ far) ⊎ Near d (dist l i)
    go (inl e) = inl e
    go (inr k) = inr (omega (arith, h, k.0), omega (arith, h, k.1))

-- b is what one pass may add
pub passes_ranged : (k : ℕ) (cs : List Arc) → Small cs → (b : ℕ) → length cs * 20000 ≤ b
    → (c : ℕ) (s : State) → Ranged c s.0 → Ranged (c + k * b) (passes k cs s).0
passes_ranged zero cs w b h c s r = ranged_more c (c + 0 * b) (omega arith) s.0 r
passes_ranged (suc k) cs w b h c s r =
    let one = ranged_more (c + length cs * 20000) (c + b) (omega (arith, h)) (one_pass cs s).0 (run_ranged cs w c (s.0, false) r) in
    let e : suc k * b ≡ k * b + b = suc-mul k b in
    pick_keeps (λ x. Ranged (c + suc k * b) x.0) (one_pass cs s).1 (passes k cs (one_pass cs s)) (one_pass cs s)
    (ranged_more (c + b + k * b) (c + suc k * b) (omega (arith, e)) (passes k cs (one_pass cs s)).0 (passes_ranged k cs w b h (c + b) (one_pass cs s) one))
    (ranged_more (c + b) (c + suc k * b) (omega (arith, e)) (one_pass cs s).0 one)

-- ---- which records become known
abbrev pub Reached : (ℕ → Type 0) → List ℤ → Type 0
Reached R l = (i : ℕ) → i < length l → known (dist l i) ≡ true → R i

pub passes_reached : (R : ℕ → Type 0) (cs : List Arc) → ((a : Arc) → In a cs → R a.from → R a.to)
    → (k : ℕ) (s : State) → Reached R s.0 → Reached R (passes k cs s).0
passes_reached R cs f = passes_keep (Reached R) cs (λ a i s r. lower_ind a s (λ x. Reached R x.0) (λ _. r) (λ g t k _ j h.
    set_ind s.0 a.to (dist s.0 a.from +ℤ a.rise) t j (λ z. known z ≡ true → R j) (λ e _. subst R (sym e) (f a i (r a.from g k)))
    (λ _. r j (subst (λ (n : ℕ). j < n) (length-set s.0 a.to (dist s.0 a.from +ℤ a.rise)) h))))

-- ---- passes over ties
pub settled_is : (n k : ℕ) (ts : List Tie) (s : State) → settled n k ts s ≡ passes k (arcs3 n ts) s
unfolding settled
settled_is n zero ts s = refl
settled_is n (suc k) ts s =
    ap (λ (r : State). pick r.1 (settled n k ts r) r) (run_is n ts (s.0, false))
    ∙ ap (λ (r : State). pick (one_pass (arcs3 n ts) s).1 r (one_pass (arcs3 n ts) s)) (settled_is n k ts (one_pass (arcs3 n ts) s))
