-- Ties as arcs. An arc says that record `to` lies at most `rise` above record `from`; a tie is two of them, one each way. A pass over ties is a pass over their
-- arcs.
--   Arc, up_arc, down_arc
--                     an arc; the two of a tie
--   arcs ts           the arcs of ties, two for each
--   at o a            an arc between records that stand from place o on
--   arcs3 n ts        the arcs of ties in a list of three thirds of n each
--   Keeps p cs        a placing keeps all arcs of a list
--   arc, run cs s     what an arc does to distances; a pass over arcs
--   in_up, in_down, of_ties
--                     the arcs of ties are the two of each; a property of all, from one for each tie
--   keeps_places, sums_meet
--                     a placing that meets the ties keeps their arcs; a tie's two limits as sums, turned back to differences
--   Holds a l         the distances l satisfy an arc, where it begins at a known one
--   lower_ind         what an arc does: nothing, where it holds, or it lowers the distance of its end
--   set_ind           what stands in a list after one place was set
--   arc_length, lt-le, arc_down
--                     an arc keeps the length, and lowers only
--   run_length, run_down, quiet_holds, holds_quiet
--                     a pass keeps the length, lowers only, and changes nothing exactly where all arcs hold
--   run_is            a pass over ties is a pass over their arcs in three thirds
--   of_thirds, arc_in_first, arc_in_second, arc_in_third, length_arcs3
--                     a property of all of these, from one of ties and turned ties; the arcs of each third; how many
-- Assumes nothing.
use Rattle.std.specs.Prelude.{◌≡◌, refl, List, [], ◌∷◌, true, false, ℕ, ◌+◌, ◌*◌, ◌<◌, ◌≤◌, ltb, eqb, ℤ, pos, neg_ℤ, ◌+ℤ◌, ◌-ℤ◌, length, set, ◌≤ℤ◌, ◌<ℤ◌}
use Rattle.std.proofs.Common.{sym, ap, ◌∙◌, subst, true≢false, arith, length-set, get_or-set_same, get_or-set_other, ltb-true, ltb-false, eqb-true}
use Rattle.std.specs.Int.Signed.{lt_z, ≤ℤ_refl, clash_ℤ}
use Rattle.std.proofs.lemmas.Bool.{eqb-false}
use Rattle.book.specs.Basics.{In, here, there}
use Rattle.book.proofs.ListLaws.{in_none}
use Rattle.offsets.specs.declared.Tie.{Tie}
use Rattle.offsets.proofs.LinearLaws.{of_le, of_lt, of_ltb, of_not_ltb, to_le, to_lt, of_add, of_sub, of_neg_up, of_neg_down, least_as_sum, most_as_sum}
use Rattle.offsets.proofs.LinearLaws.{≤ℤ-trans}
use Rattle.offsets.specs.Relax.{State, known, dist, lower, third, relaxed, relax_tie, relax_all}
use Rattle.offsets.specs.TurnedTies.{turn, turned}
use Rattle.offsets.specs.Offsets.{Placing, Places}
use Rattle.offsets.proofs.PlacingLaws.{pick_ind, by_test}

pub record Arc : Type 0 where
  pub from : ℕ
  pub to : ℕ
  pub rise : ℤ

abbrev pub up_arc : Tie → Arc
up_arc t = record { from = t.first; to = t.second; rise = t.most }

abbrev pub down_arc : Tie → Arc
down_arc t = record { from = t.second; to = t.first; rise = neg_ℤ t.least }

abbrev pub arcs : List Tie → List Arc
arcs [] = []
arcs (t ∷ ts) = up_arc t ∷ (down_arc t ∷ arcs ts)

-- an arc between records that stand from place o on
abbrev pub at : ℕ → Arc → Arc
at o a = record { from = o + a.from; to = o + a.to; rise = a.rise }

-- the arcs of ties in a list of three thirds of n each
abbrev pub arcs3 : ℕ → List Tie → List Arc
arcs3 n [] = []
arcs3 n (t ∷ ts) =
    at 0 (up_arc t)
    ∷ (at 0 (down_arc t) ∷ (at n (up_arc t) ∷ (at n (down_arc t) ∷ (at (n * 2) (up_arc (turn t)) ∷ (at (n * 2) (down_arc (turn t)) ∷ arcs3 n ts)))))

abbrev pub Keeps : Placing → List Arc → Type 0
Keeps p cs = (a : Arc) → In a cs → p a.to ≤ℤ (p a.from +ℤ a.rise)

abbrev pub arc : Arc → State → State
arc a s = lower a.from a.to a.rise s

abbrev pub run : List Arc → State → State
run [] s = s
run (a ∷ cs) s = run cs (arc a s)

-- ---- the arcs of ties
-- a property of all members, from the first one's and the others'
each : {A : Type 0} (P : A → Type 0) {x : A} {l : List A} → P x → ((a : A) → In a l → P a) → (a : A) → In a (x ∷ l) → P a
each P h f a here = h
each P h f a (there i) = f a i

pub in_up : (ts : List Tie) (t : Tie) → In t ts → In (up_arc t) (arcs ts)
in_up [] t x' = elim x' [ ]
in_up (u ∷ ts) t here = here
in_up (u ∷ ts) t (there h) = there (there (in_up ts t h))

pub in_down : (ts : List Tie) (t : Tie) → In t ts → In (down_arc t) (arcs ts)
in_down [] t x' = elim x' [ ]
in_down (u ∷ ts) t here = there here
in_down (u ∷ ts) t (there h) = there (there (in_down ts t h))

-- a property of the arcs of ties, from one for each tie
pub of_ties : (P : Arc → Type 0) (ts : List Tie) → ((t : Tie) → In t ts → P (up_arc t) × P (down_arc t)) → (a : Arc) → In a (arcs ts) → P a
of_ties P [] f = λ a h. absurd (in_none h refl)
of_ties P (t ∷ ts) f = each P (f t here).0 (each P (f t here).1 (of_ties P ts (λ u i. f u (there i))))

pub keeps_places : (p : Placing) (ts : List Tie) → Places p ts → Keeps p (arcs ts)
keeps_places p ts h = of_ties (λ a. p a.to ≤ℤ (p a.from +ℤ a.rise)) ts
    (λ t i. (most_as_sum (p t.first) (p t.second) t.most (h t i).1, least_as_sum (p t.first) (p t.second) t.least (h t i).0))

-- a tie's two limits as sums, turned back to differences
pub sums_meet : (x y least most : ℤ) → y ≤ℤ (x +ℤ most) → x ≤ℤ (y +ℤ neg_ℤ least) → (least ≤ℤ (y -ℤ x)) × ((y -ℤ x) ≤ℤ most)
sums_meet x y least most h k = (
  to_le (omega (arith, of_le k, of_sub y x, of_add y (neg_ℤ least), of_neg_up least, of_neg_down least)),
  to_le (omega (arith, of_le h, of_sub y x, of_add x most)),
)

-- ---- one arc
abbrev pub Holds : Arc → List ℤ → Type 0
Holds a l = a.from < length l → a.to < length l → known (dist l a.from) ≡ true → dist l a.to ≤ℤ (dist l a.from +ℤ a.rise)

pub lower_ind : (a : Arc) (s : State) (Q : State → Type 0) → (Holds a s.0 → Q s)
    → (a.from < length s.0 → a.to < length s.0 → known (dist s.0 a.from) ≡ true → (dist s.0 a.from +ℤ a.rise) <ℤ dist s.0 a.to
    → Q (set s.0 a.to (dist s.0 a.from +ℤ a.rise), true)) → Q (arc a s)
unfolding lower
lower_ind a s Q f g =
    let l = s.0 in
    pick_ind (ltb a.from (length s.0)) _ s Q
    (λ ef. pick_ind (ltb a.to (length s.0)) _ s Q (λ et. pick_ind (known (dist s.0 a.from)) _ s Q (λ ek.
    pick_ind (lt_z (dist s.0 a.from +ℤ a.rise) (dist s.0 a.to)) _ s Q
    (λ e. g (ltb-true a.from (length s.0) ef) (ltb-true a.to (length s.0) et)
    ek (to_lt (of_ltb (dist s.0 a.from +ℤ a.rise) (dist s.0 a.to) e)))
    (λ e. f (λ _ _ _. to_le (of_not_ltb (dist s.0 a.from +ℤ a.rise) (dist s.0 a.to) e))))
    (λ e. f (λ _ _ k. absurd (true≢false (sym k ∙ e)))))
    (λ e. f (λ _ h _. absurd (no_lt a.to (length s.0) h e))))
    (λ e. f (λ h _ _. absurd (no_lt a.from (length s.0) h e)))
  where
    no_lt : (i n : ℕ) → i < n → ltb i n ≡ false → ⊥
    no_lt i n h e = let z : n ≤ i = ltb-false i n e in omega arith

pub set_ind : (l : List ℤ) (k : ℕ) (v : ℤ) → k < length l → (i : ℕ) (P : ℤ → Type 0) → (i ≡ k → P v) → ((i ≡ k → ⊥) → P (dist l i)) → P (dist (set l k v) i)
set_ind l k v h i P f g = by_test (eqb i k)
    (λ e. let at : i ≡ k = eqb-true i k e in subst P (sym (subst (λ (j : ℕ). dist (set l k v) j ≡ v) (sym at) (get_or-set_same l k v (pos 0) h))) (f at))
    (λ e. subst P (sym (get_or-set_other l k i v (pos 0) (eqb-false i k e))) (g (eqb-false i k e)))

pub arc_length : (a : Arc) (s : State) → length (arc a s).0 ≡ length s.0
arc_length a s = lower_ind a s (λ r. length r.0 ≡ length s.0) (λ _. refl) (λ _ _ _ _. length-set s.0 a.to _)

pub lt-le : {x y : ℤ} → x <ℤ y → x ≤ℤ y
lt-le h = to_le (omega (arith, of_lt h))

pub arc_down : (a : Arc) (s : State) (i : ℕ) → dist (arc a s).0 i ≤ℤ dist s.0 i
arc_down a s i = lower_ind a s (λ r. dist r.0 i ≤ℤ dist s.0 i) (λ _. ≤ℤ_refl (dist s.0 i))
    (λ f t k h. set_ind s.0 a.to (dist s.0 a.from +ℤ a.rise) t i (λ z. z ≤ℤ dist s.0 i)
    (λ e. subst (λ (j : ℕ). (dist s.0 a.from +ℤ a.rise) ≤ℤ dist s.0 j) (sym e) (lt-le h)) (λ _. ≤ℤ_refl (dist s.0 i)))

-- ---- a pass
pub run_length : (cs : List Arc) (s : State) → length (run cs s).0 ≡ length s.0
run_length [] s = refl
run_length (a ∷ cs) s = run_length cs (arc a s) ∙ arc_length a s

pub run_down : (cs : List Arc) (s : State) (i : ℕ) → dist (run cs s).0 i ≤ℤ dist s.0 i
run_down [] s i = ≤ℤ_refl (dist s.0 i)
run_down (a ∷ cs) s i = ≤ℤ-trans (run_down cs (arc a s) i) (arc_down a s i)

flag_stays : (cs : List Arc) (s : State) → s.1 ≡ true → (run cs s).1 ≡ true
flag_stays [] s h = h
flag_stays (a ∷ cs) s h = flag_stays cs (arc a s) (lower_ind a s (λ r. r.1 ≡ true) (λ _. h) (λ _ _ _ _. refl))

arc_quiet : (a : Arc) (s : State) → (arc a s).1 ≡ false → (arc a s ≡ s) × Holds a s.0
arc_quiet a s = lower_ind a s (λ r. r.1 ≡ false → (r ≡ s) × Holds a s.0) (λ h _. (refl, h)) (λ _ _ _ _ e. absurd (true≢false e))

-- a pass that lowered nothing left all as it was, and all arcs hold
pub quiet_holds : (cs : List Arc) (s : State) → (run cs s).1 ≡ false → (run cs s ≡ s) × ((a : Arc) → In a cs → Holds a s.0)
quiet_holds [] s e = (refl, λ a h. absurd (in_none h refl))
quiet_holds (a ∷ cs) s e = by_test (arc a s).1
    (λ t. absurd (true≢false (sym (flag_stays cs (arc a s) t) ∙ e)))
    (λ f. let q = arc_quiet a s f in let r = quiet_holds cs (arc a s) e in (r.0 ∙ q.0, both q r))
  where
    both : (arc a s ≡ s) × Holds a s.0 → (run cs (arc a s) ≡ arc a s) × ((b : Arc) → In b cs → Holds b (arc a s).0)
        → (b : Arc) → In b (a ∷ cs) → Holds b s.0
    both q r b here = q.1
    both q r b (there i) = subst (λ (x : State). Holds b x.0) q.0 (r.1 b i)

arc_stays : (a : Arc) (s : State) → Holds a s.0 → arc a s ≡ s
arc_stays a s h = lower_ind a s (λ r. r ≡ s) (λ _. refl) (λ f t k l. absurd (clash_ℤ l (h f t k)))

-- where all arcs hold, a pass changes nothing
pub holds_quiet : (cs : List Arc) (s : State) → ((a : Arc) → In a cs → Holds a s.0) → run cs s ≡ s
holds_quiet [] s h = refl
holds_quiet (a ∷ cs) s h =
    let e = arc_stays a s (h a here) in
    holds_quiet cs (arc a s) (λ b i. subst (λ (x : State). Holds b x.0) (sym e) (h b (there i))) ∙ e

-- ---- a pass over ties is a pass over their arcs in three thirds
tie_is : (n : ℕ) (t : Tie) (s : State) → relax_tie n t s ≡ run (arcs3 n (t ∷ [])) s
unfolding relaxed third
tie_is n t s = refl

pub run_is : (n : ℕ) (ts : List Tie) (s : State) → relax_all n ts s ≡ run (arcs3 n ts) s
run_is n [] s = refl
run_is n (t ∷ ts) s = run_is n ts (relax_tie n t s) ∙ ap (run (arcs3 n ts)) (tie_is n t s)

-- a property of all of them, from one of the arcs of ties and of turned ties
pub of_thirds : (n : ℕ) (P : Arc → Type 0) (ts : List Tie) → ((b : Arc) → In b (arcs ts) → P (at 0 b))
    → ((b : Arc) → In b (arcs ts) → P (at n b)) → ((b : Arc) → In b (arcs (turned ts)) → P (at (n * 2) b))
    → (a : Arc) → In a (arcs3 n ts) → P a
of_thirds n P [] f g h = λ a i. absurd (in_none i refl)
of_thirds n P (t ∷ ts) f g h =
    each P (f (up_arc t) here) (each P (f (down_arc t) (there here)) (each P (g (up_arc t) here) (each P (g (down_arc t) (there here))
    (each P (h (up_arc (turn t)) here) (each P (h (down_arc (turn t)) (there here))
    (of_thirds n P ts (λ b j. f b (there (there j))) (λ b j. g b (there (there j))) (λ b j. h b (there (there j)))))))))

pub arc_in_first : (n : ℕ) (ts : List Tie) (b : Arc) → In b (arcs ts) → In (at 0 b) (arcs3 n ts)
arc_in_first n [] = λ b h. absurd (in_none h refl)
arc_in_first n (t ∷ ts) = each (λ b. In (at 0 b) (arcs3 n (t ∷ ts))) here (each (λ b. In (at 0 b) (arcs3 n (t ∷ ts))) (there here)
    (λ b h. there (there (there (there (there (there (arc_in_first n ts b h))))))))

pub arc_in_second : (n : ℕ) (ts : List Tie) (b : Arc) → In b (arcs ts) → In (at n b) (arcs3 n ts)
arc_in_second n [] = λ b h. absurd (in_none h refl)
arc_in_second n (t ∷ ts) =
    each (λ b. In (at n b) (arcs3 n (t ∷ ts))) (there (there here)) (each (λ b. In (at n b) (arcs3 n (t ∷ ts))) (there (there (there here)))
    (λ b h. there (there (there (there (there (there (arc_in_second n ts b h))))))))

pub arc_in_third : (n : ℕ) (ts : List Tie) (b : Arc) → In b (arcs (turned ts)) → In (at (n * 2) b) (arcs3 n ts)
arc_in_third n [] = λ b h. absurd (in_none h refl)
arc_in_third n (t ∷ ts) = each (λ b. In (at (n * 2) b) (arcs3 n (t ∷ ts))) (there (there (there (there here))))
    (each (λ b. In (at (n * 2) b) (arcs3 n (t ∷ ts))) (there (there (there (there (there here)))))
    (λ b h. there (there (there (there (there (there (arc_in_third n ts b h))))))))

pub length_arcs3 : (n : ℕ) (ts : List Tie) → length (arcs3 n ts) ≡ length ts * 6
length_arcs3 n [] = refl
length_arcs3 n (t ∷ ts) = let e = length_arcs3 n ts in omega (arith, e)
