-- Laws of generations.
--   forward_link          a link crossed forward
--   longest_only          a record has one longest length
--   run_on                a run goes on over any steps of these links
--   returns_longer        a record that can return to itself has a run longer than any
--   numbered_only         there is one list of numbers
--   loop_only             a record has one first loop, as step words
--   generations_only      there is one answer
--   numbers-none, loop_some
--                         if the answer is numbers, no record can return to itself; if it is a loop, the one where it begins is the smallest that can
--   outcome_only          there is one outcome
--   generations_in_order  the causes stand in the order 3, 12, 13
-- Assumes nothing.
use Rattle.std.specs.Prelude.{◌≡◌, refl, List, [], ◌∷◌, ◌++◌, Bool, true, ℕ, suc, ◌+◌, ◌<◌, length, ltb}
use Rattle.std.proofs.Common.{sym, ap, ap₂, ◌∙◌, subst, arith}
use Rattle.std.proofs.lemmas.Bool.{false≢true}
use Rattle.book.specs.Basics.{pick, All, all_none, all_more}
use Rattle.book.specs.Causes.{short_list}
use Rattle.book.specs.CauseOrders.{InOrder, none_left, same_cause}
use Rattle.book.specs.Book.{Book}
use Rattle.paths.specs.Chains.{Graph, Step, crossing, Chain, stay, cross, step_words}
use Rattle.paths.proofs.ChainOrderLaws.{not_after_both}
use Rattle.automaton.proofs.LevelLaws.{Which, less, same, more, which}
use Rattle.generations.specs.Generations.{Run, on, Longest, Over, Returns, FirstLoop, Numbered, no_record, not_in_use, in_use, Outcome, refused, numbers}
use Rattle.generations.specs.Generations.{loop, GenerationsAre, no_loop, first_loop, written, argument_causes}
use Rattle.generations.specs.Inner.{generations_order}
use Rattle.generations.specs.Generations.{OutcomeIs, not_asked, short, answered}

-- ---- runs
-- a link crossed forward
pub forward_link : (g : Graph) {ls : List ℕ} (s : Step) (x : ℕ) → Over ls s → g.present (crossing s.spelt x s.reached) ≡ true
    → g.present (record { from = x; label = s.spelt.label; to = s.reached }) ≡ true
forward_link g s x o p =
    subst
    (λ (b : Bool). g.present (pick b (record { from = s.reached; label = s.spelt.label; to = x }) (record {
      from = x;
      label = s.spelt.label;
      to = s.reached;
    })) ≡ true) o.forward p

module _ {g : Graph} {ls : List ℕ} where
  pub longest_only : {y m k : ℕ} → Longest g ls y m → Longest g ls y k → m ≡ k
  longest_only {y} {m} {k} a b = omega (arith, b.most m a.run, a.most k b.run)

  pub run_on : {x y : ℕ} {ss : List Step} (k : ℕ) → Chain g x ss y → All (Over ls) ss → Run g ls k x → (m : ℕ) × (m ≡ k + length ss) × Run g ls m y
  run_on k stay all_none r = (k, omega arith, r)
  run_on {x} k (cross {s = s} p c) (all_more o a) r =
      let z = run_on (suc k) c a (on o.listed (forward_link g s x o p) r) in
      (z.0, omega (arith, z.1), z.2)

  pub returns_longer : {x : ℕ} → Returns g ls x → (m : ℕ) → Longest g ls x m → ⊥
  returns_longer r m l =
      let z = run_on m r.1.chain r.1.steps l.run in
      omega (arith, z.1, r.1.some, l.most z.0 z.2)

  -- ---- numbers
  pub numbered_only : {y z : ℕ} {l m : List ℕ} → Numbered g ls y l → Numbered g ls z m → y ≡ z → l ≡ m
  numbered_only no_record no_record e = refl
  numbered_only no_record (not_in_use u b) e = absurd (omega arith)
  numbered_only no_record (in_use u t b) e = absurd (omega arith)
  numbered_only (not_in_use u a) no_record e = absurd (omega arith)
  numbered_only (in_use u t a) no_record e = absurd (omega arith)
  numbered_only (not_in_use {y = y} u a) (not_in_use {y = z} v b) e = numbered_only a b (omega arith)
  numbered_only (not_in_use {y = y} u a) (in_use {y = z} v t b) e = let f : y ≡ z = omega arith in absurd (false≢true (sym u ∙ ap g.in_use f ∙ v))
  numbered_only (in_use {y = y} u t a) (not_in_use {y = z} v b) e = let f : y ≡ z = omega arith in absurd (false≢true (sym v ∙ sym (ap g.in_use f) ∙ u))
  numbered_only (in_use {y = y} {m = k} u t a) (in_use {y = z} {m = j} v s b) e =
      let f : y ≡ z = omega arith in
      ap₂ (λ (l : List ℕ) (i : ℕ). l ++ (i ∷ [])) (numbered_only a b f) (longest_only t (subst (λ (i : ℕ). Longest g ls i j) (sym f) s))

  -- ---- loops
  pub loop_only : {x : ℕ} {ss ts : List Step} → FirstLoop g ls x ss → FirstLoop g ls x ts → step_words ss ≡ step_words ts
  loop_only {x} {ss} {ts} a b = not_after_both (a.least ts b.loop) (b.least ss a.loop)

  -- ---- the answer
  pub generations_only : {o p : Outcome} → GenerationsAre g ls o → GenerationsAre g ls p → o ≡ p
  generations_only (no_loop n a) (no_loop m b) = ap numbers (numbered_only a b refl)
  generations_only (no_loop n a) (first_loop {x = x} {ss = ss} s f) = absurd (n x (ss, f.loop))
  generations_only (first_loop {x = x} {ss = ss} s f) (no_loop n a) = absurd (n x (ss, f.loop))
  generations_only (first_loop {x = x} {ss = ss} s f) (first_loop {x = y} {ss = ts} r h) = go (which x y)
    where
      go : Which x y → loop (step_words ss) ≡ loop (step_words ts)
      go (less l) = absurd (r x l (ss, f.loop))
      go (same e) = ap loop (loop_only f (subst (λ (i : ℕ). FirstLoop g ls i ts) (sym e) h))
      go (more l) = absurd (s y l (ts, h.loop))

  pub numbers-none : {o : Outcome} {l : List ℕ} → GenerationsAre g ls o → o ≡ numbers l → (x : ℕ) → Returns g ls x → ⊥
  numbers-none (no_loop n a) e = n
  numbers-none (first_loop s f) e = absurd (let z : ◌≡◌ {A = ℕ} 0 1 = cc in omega arith)

  pub loop_some : {o : Outcome} {ws : List ℕ} → GenerationsAre g ls o → o ≡ loop ws
      → (x : ℕ) × (ss : List Step) × FirstLoop g ls x ss × (ws ≡ step_words ss) × ((y : ℕ) → y < x → Returns g ls y → ⊥)
  loop_some (no_loop n a) e = absurd (let z : ◌≡◌ {A = ℕ} 0 1 = cc in omega arith)
  loop_some {ws = ws} (first_loop {x = x} {ss = ss} s f) e = let q : ws ≡ step_words ss = cc in (x, ss, f, q, s)

-- ---- the outcome
pub outcome_only : {b : Book} {ls : List ℕ} {work room : ℕ} {o p : Outcome} → OutcomeIs b ls work room o → OutcomeIs b ls work room p → o ≡ p
outcome_only (not_asked {k = k} e) (not_asked {k = j} f) = let z : suc k ≡ suc j = sym e ∙ f in ap refused z
outcome_only (not_asked e) (short f a h) = absurd (omega arith)
outcome_only (not_asked e) (answered f a h) = absurd (omega arith)
outcome_only (short e a h) (not_asked f) = absurd (omega arith)
outcome_only (short e a h) (short f c k) = refl
outcome_only (short e a h) (answered f c k) = absurd (omega (arith, h, k, ap (λ (o : Outcome). length (written o)) (generations_only a c)))
outcome_only (answered e a h) (not_asked f) = absurd (omega arith)
outcome_only (answered e a h) (short f c k) = absurd (omega (arith, h, k, ap (λ (o : Outcome). length (written o)) (generations_only a c)))
outcome_only (answered e a h) (answered f c k) = generations_only a c

pub generations_in_order : (b : Book) (ls : List ℕ) (work room : ℕ) (o : Outcome)
    → InOrder (argument_causes b ls work ++ ((short_list, ltb room (length (written o))) ∷ [])) generations_order
unfolding argument_causes generations_order
generations_in_order b ls work room o = same_cause (same_cause (same_cause none_left))
