-- Laws of running the code of an expression.
--   value_cells    an expression's value in the algebra of relations is its set
--   coded_value    its code, run in that algebra, leaves its set
--   read_coded     a text that is accepted is that of an expression, and its code is read
--   runs_height    what a code that runs asks of its next number
--   height_after   an item takes its operands off the stack and puts one value on it
--   height_begins, height_ready, height_next, height_ends
--                  with nothing waiting; the next number finds its operands, and there is room for its value; they give way to it; with no code left
--                  one value waits
-- Assumes nothing.
use Rattle.std.specs.Prelude.{◌≡◌, refl, take}
use Rattle.std.proofs.Math.Path.{sym, ap}
use Rattle.std.proofs.Common.{ap₂, ◌∙◌, subst, arith}
use mathlib.Core.List.{List, [], ◌∷◌}
use Prim.Native.Nat.{ℕ, suc, ◌-◌, ◌≤◌}
use Rattle.std.proofs.Math.ListN.{length}
use Rattle.book.specs.Causes.{max_bytes}
use Rattle.k2.specs.PairSets.{Cells, union, transpose, product, closure}
use Rattle.paths.specs.Expressions.{stands_for, Expr, symbol, group, inverse, star, plus, optional, alternative, sequence}
use Rattle.paths.specs.Grammar.{accepted}
use Rattle.paths.specs.Verdicts.{verdict}
use Rattle.paths.specs.Chains.{Graph}
use Rattle.paths.specs.Relations.{zero_steps, cells}
use Rattle.paths.proofs.RelationLaws.{crossed_same}
use Rattle.reader.specs.declared.items.Item.{Item}
use Rattle.reader.specs.declared.items.Item.TheVariants.{Letters, Inverse, Star, Plus, Optional, Alternative, Sequence}
use Rattle.reader.specs.declared.Reading.{Reading}
use Rattle.reader.specs.declared.Answer.TheVariants.{Accepted}
use Rattle.reader.specs.LetterLaws.{letters-in}
use Rattle.reader.specs.Code.{item_of, Algebra, value, does, run}
use Rattle.reader.specs.Running.{operands, Runs, ended, next}
use Rattle.reader.specs.CodeLaws.{run_code, runs_code}
use Rattle.reader.specs.Reads.{Reads}
use Rattle.reader.specs.ReadsLaws.{reads_accepted}
use Rattle.query.specs.Evaluation.{relations, heights, most_waiting, Ready, Coded, Height}

pub value_cells : (g : Graph) (e : Expr) → value (relations g) e ≡ cells g e
unfolding value relations cells
value_cells g (symbol s) = crossed_same g _ _ (letters-in (stands_for s))
value_cells g (group e) = value_cells g e
value_cells g (inverse e) = ap transpose (value_cells g e)
value_cells g (star e) = ap (λ (a : Cells). union (closure g.n a) (zero_steps g)) (value_cells g e)
value_cells g (plus e) = ap (closure g.n) (value_cells g e)
value_cells g (optional e) = ap (λ (a : Cells). union a (zero_steps g)) (value_cells g e)
value_cells g (alternative e f) = ap₂ union (value_cells g e) (value_cells g f)
value_cells g (sequence e f) = ap₂ (product g.n) (value_cells g e) (value_cells g f)

pub coded_value : (g : Graph) {s c : List ℕ} {e : Expr} → Coded s e c → run (relations g) c [] ≡ cells g e ∷ []
coded_value g {e = e} k =
    ap (λ (x : List ℕ). run (relations g) x []) k.is
    ∙ run_code (relations g) k.syntax [] ∙ ap (λ (a : Cells). a ∷ []) (value_cells g e)

pub read_coded : {text : List ℕ} {r : Reading} {n : ℕ} → Reads text r → r.answer ≡ Accepted n
    → (e : Expr) × (verdict text ≡ accepted e) × Coded text e (take n r.code) × (n ≤ max_bytes)
read_coded h q =
    let a = reads_accepted h q in
    (a.0, a.1.is, record { syntax = a.1.limits.syntax; shallow = a.1.limits.shallow; is = a.1.front }, a.1.fits)

-- ---- how high the stack is, whatever the values are
value_heights : (e : Expr) → value heights e ≡ 0
unfolding value heights
value_heights (symbol s) = refl
value_heights (group e) = value_heights e
value_heights (inverse e) = refl
value_heights (star e) = refl
value_heights (plus e) = refl
value_heights (optional e) = refl
value_heights (alternative e f) = refl
value_heights (sequence e f) = refl

pub runs_height : {D : Type 0} (A : Algebra D) {k : ℕ} {c : List ℕ} {st : List D} → Runs A k c st → length st ≤ k
runs_height A (ended h) = h
runs_height A (next b h r) = h

pub height_after : (y : Item) (st : List ℕ) → operands y ≤ length st → length (does heights y st) ≡ suc (length st - operands y)
unfolding does heights
height_after (Letters forward against) st h = omega arith
height_after Inverse [] h = absurd (omega arith)
height_after Inverse (a ∷ st) h = omega arith
height_after Star [] h = absurd (omega arith)
height_after Star (a ∷ st) h = omega arith
height_after Plus [] h = absurd (omega arith)
height_after Plus (a ∷ st) h = omega arith
height_after Optional [] h = absurd (omega arith)
height_after Optional (a ∷ st) h = omega arith
height_after Alternative [] h = absurd (omega arith)
height_after Alternative (a ∷ []) h = absurd (omega arith)
height_after Alternative (b ∷ a ∷ st) h = omega arith
height_after Sequence [] h = absurd (omega arith)
height_after Sequence (a ∷ []) h = absurd (omega arith)
height_after Sequence (b ∷ a ∷ st) h = omega arith

pub height_begins : {s c : List ℕ} {e : Expr} → Coded s e c → Height c 0
height_begins {c = c} {e} k = subst (λ (x : List ℕ). Height x 0) (sym k.is) (record {
  stack = [];
  rest = run_code heights k.syntax [] ∙ ap (λ (v : ℕ). v ∷ []) (value_heights e);
  runs = runs_code heights k.syntax most_waiting [] (omega (arith, k.shallow));
  count = refl;
})

module _ {i k : ℕ} {c : List ℕ} (H : Height (i ∷ c) k) where
  pub height_ready : Ready (item_of i) k
  height_ready = go H.runs H.count
    where
      go : {st : List ℕ} → Runs heights most_waiting (i ∷ c) st → k ≡ length st → Ready (item_of i) k
      go {st} (next b h q) e = rw e (record { found = b; few = h; room = omega (arith, runs_height heights q, height_after (item_of i) st b) })

  pub height_next : {k' : ℕ} → k' ≡ suc (k - operands (item_of i)) → Height c k'
  unfolding run
  height_next {k'} e = go H.runs H.rest H.count
    where
      go : {st : List ℕ} → Runs heights most_waiting (i ∷ c) st → run heights (i ∷ c) st ≡ 0 ∷ [] → k ≡ length st → Height c k'
      go {st} (next b h q) f l = record {
        stack = does heights (item_of i) st;
        rest = f;
        runs = q;
        count = e ∙ ap (λ (x : ℕ). suc (x - operands (item_of i))) l ∙ sym (height_after (item_of i) st b);
      }

pub height_ends : {k : ℕ} → Height [] k → k ≡ 1
unfolding run
height_ends H = H.count ∙ ap length H.rest
