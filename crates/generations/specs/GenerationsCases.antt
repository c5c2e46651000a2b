-- Cases of generations, from what the definitions compute.
--   ranked_none, ranked_longest
--                   a rank that rises over every link of the labels: then no record can return to itself, and no run is longer than its end's rank
--   longest_counts  the longest run counts, not the shortest; labels in any order, with a repeat; a withdrawn record has no number
--   smallest_returns
--                   of the records that can return to themselves the smallest begins the loop: 0, after it, and 3, before it, cannot
-- Assumes nothing.
use Rattle.std.specs.Prelude.{◌≡◌, refl, List, [], ◌∷◌, true, false, ℕ, zero, suc, ◌+◌, ◌<◌, ◌≤◌, eqb, length}
use Rattle.std.proofs.Common.{◌∙◌, arith, ne_eqb}
use Rattle.book.specs.Basics.{has, without, In, here, there, All, all_none, all_more}
use Rattle.book.specs.Causes.{number, first_number}
use Rattle.book.proofs.SetLaws.{same_link_test, has_in}
use Rattle.book.specs.Book.{Link, Book, Call, add, edit, causes, edit_answer, edited, turned, next, fresh, after}
use Rattle.k2.specs.Bits.{digit}
use Rattle.k2.specs.DigitLaws.{digit_none, digit-suc}
use Rattle.k2.specs.PairSets.{union, most, via, closure}
use Rattle.paths.specs.Expressions.{stands_for}
use Rattle.paths.specs.Chains.{Graph, asked, Step, Chain, stay, cross, spell, step_words}
use Rattle.paths.specs.Relations.{crossed_by, cells}
use Rattle.paths.proofs.RelationLaws.{cells_has}
use Rattle.paths.specs.Inside.{Inside}
use Rattle.paths.proofs.PairLaws.{history_inside}
use Rattle.paths.proofs.ChainOrderLaws.{before}
use Rattle.paths.proofs.AcceptanceLaws.{parted, many, accepts}
use Rattle.paths.proofs.FirstChainLaws.{reach, steps_below, before_each, after_each, walks, walks_to, end, best, just, first_to, chain_to, chain_first}
use Rattle.rows.specs.Rows.{places}
use Rattle.generations.specs.Generations.{Run, stop, on, Longest, Over, Returns, no_record, not_in_use, in_use, numbers, loop, GenerationsAre, no_loop}
use Rattle.generations.specs.Generations.{first_loop}
use Rattle.generations.specs.GenerationsLaws.{forward_link}
use Rattle.generations.specs.Inner.{Contains}
use Rattle.generations.specs.LoopLaws.{either, loop_expr, loop_answers, first_is_loop}

-- ---- a rank that rises
module _ (g : Graph) (ls : List ℕ) (f : ℕ → ℕ)
    (H : (x l y : ℕ) → has eqb l ls ≡ true → g.present (record { from = x; label = l; to = y }) ≡ true → f x < f y) where
  ranked_run : {k y : ℕ} → Run g ls k y → k ≤ f y
  ranked_run stop = omega arith
  ranked_run (on {x = x} {l = l} {y = y} h p r) = let z = ranked_run r in let w = H x l y h p in omega arith

  ranked_chain : {x y : ℕ} {ss : List Step} → Chain g x ss y → All (Over ls) ss → f x + length ss ≤ f y
  ranked_chain stay all_none = omega arith
  ranked_chain {x} (cross {s = s} p c) (all_more o a) =
      let z = ranked_chain c a in
      let w = H x s.spelt.label s.reached o.listed (forward_link g s x o p) in
      omega arith

  pub ranked_none : (x : ℕ) → Returns g ls x → ⊥
  ranked_none x r = let z = ranked_chain r.1.chain r.1.steps in omega (arith, r.1.some)

  pub ranked_longest : (y : ℕ) → Run g ls (f y) y → Longest g ls y (f y)
  ranked_longest y r = record { run = r; most = λ k q. ranked_run q }

-- ---- runs
abbrev pub link : ℕ → ℕ → ℕ → Link
link x l y = record { from = x; label = l; to = y }

abbrev Forward : Link → Type 0
Forward k = k.from < k.to

-- 0 a 1, 1 a 2, 0 b 2; record 3 is withdrawn
unfoldable pub forest : Book
forest = record { n = 4; sheet = record { links = link 0 0 1 ∷ link 1 0 2 ∷ link 0 1 2 ∷ []; locks = []; withdrawn = 3 ∷ [] }; pile = [] }

all_in : {A : Type 0} {P : A → Type 0} {x : A} {l : List A} → All P l → In x l → P x
all_in {A = A} {P = P} all_none x4 = elim x4 [ ]
all_in (all_more p a) here = p
all_in (all_more p a) (there i) = all_in a i

forest_rises : (x l y : ℕ) → has eqb l (1 ∷ 0 ∷ 1 ∷ []) ≡ true → (asked forest).present (link x l y) ≡ true → x < y
unfolding forest asked
forest_rises x l y h p =
    let first : Forward (link 0 0 1) = (let z : 0 < 1 = omega arith in z) in
    let second : Forward (link 1 0 2) = (let z : 1 < 2 = omega arith in z) in
    let third : Forward (link 0 1 2) = (let z : 0 < 2 = omega arith in z) in
    let a : All Forward (link 0 0 1 ∷ link 1 0 2 ∷ link 0 1 2 ∷ []) = all_more first (all_more second (all_more third all_none)) in
    all_in {P = Forward} a (has_in same_link_test (link x l y) (link 0 0 1 ∷ link 1 0 2 ∷ link 0 1 2 ∷ []) p)

pub longest_counts : GenerationsAre (asked forest) (1 ∷ 0 ∷ 1 ∷ []) (numbers (0 ∷ 1 ∷ 2 ∷ []))
unfolding forest asked has
longest_counts =
    let top : (y : ℕ) → Run (asked forest) (1 ∷ 0 ∷ 1 ∷ []) y y → Longest (asked forest) (1 ∷ 0 ∷ 1 ∷ []) y y =
    ranked_longest (asked forest) (1 ∷ 0 ∷ 1 ∷ []) (λ x. x) forest_rises in
    let one : Run (asked forest) (1 ∷ 0 ∷ 1 ∷ []) 1 1 = on {k = 0} {x = 0} {l = 0} {y = 1} refl refl stop in
    let two : Run (asked forest) (1 ∷ 0 ∷ 1 ∷ []) 2 2 = on {k = 1} {x = 1} {l = 0} {y = 2} refl refl one in
    no_loop (ranked_none (asked forest) (1 ∷ 0 ∷ 1 ∷ []) (λ x. x) forest_rises)
    (not_in_use refl (in_use refl (top 2 two) (in_use refl (top 1 one) (in_use refl (top 0 stop) no_record))))

-- ---- loops, over the label a alone
abbrev pub put : ℕ → ℕ → ℕ → Call
put x l y = edit (add (link x l y))

-- 1 a 2, 2 a 1, 1 a 0, 3 a 1, 2 b 1
unfoldable pub circle : List Call
circle = put 1 0 2 ∷ put 2 0 1 ∷ put 1 0 0 ∷ put 3 0 1 ∷ put 2 1 1 ∷ []

abbrev pub round : Graph
round = asked (after (fresh 4) circle)

abbrev pub forward : ℕ → ℕ → Step
forward l r = record { spelt = record { label = l; inverted = false }; reached = r }

-- the number 1 is the set of the label 0
one_label : Contains 1 (0 ∷ [])
unfolding has digit
one_label zero = refl
one_label (suc l) = digit-suc 1 l ∙ digit_none l ∙ rw (ne_eqb 0 (suc l) (λ e. omega arith))

only_a : places (digit 1) 26 ≡ 0 ∷ []
unfolding places digit
only_a = refl

inside : Inside round
inside = history_inside 4 (omega arith) circle

not_0 : cells round (loop_expr 0 []) 0 0 ≡ 0
unfolding circle either stands_for after next turned edit_answer first_number number causes edited fresh has without asked most crossed_by union via closure
    cells
not_0 = refl

found : chain_to 2 round (loop_expr 0 []) 1 1 ≡ just (forward 0 2 ∷ forward 0 1 ∷ [])
unfolding circle either stands_for after next turned edit_answer first_number number causes edited fresh has without asked most crossed_by union via closure
    cells
    parted many accepts before reach steps_below before_each after_each walks walks_to end best first_to chain_to spell step_words
found = refl

pub smallest_returns : GenerationsAre round (0 ∷ []) (loop (step_words (forward 0 2 ∷ forward 0 1 ∷ [])))
smallest_returns =
    first_loop {x = 1} (λ y h r. none y h r)
    (first_is_loop round inside 1 (0 ∷ []) one_label 0 [] only_a (chain_first round inside 2 (loop_expr 0 []) 1 1 (forward 0 2 ∷ forward 0 1 ∷ []) found))
  where
    none : (y : ℕ) → y < 1 → Returns round (0 ∷ []) y → ⊥
    none zero h r =
        let z = (cells_has round inside (loop_expr 0 []) 0 0).1 (r.0, loop_answers round inside 1 (0 ∷ []) one_label 0 [] only_a r.1) in
        omega (arith, not_0)
    none (suc y) h r = omega arith
