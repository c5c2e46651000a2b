-- `write_pairs` goes over the words, and over the bits of a word. Both invariants: the places passed of bits that are set are written, and t is
-- their number; in a word the places of the bits left come after them. It rests on `placed_taken` and `wrote_one`. Assumes nothing.
use mathlib.Core.Path.{◌≡◌, refl, sym, ap, ◌∙◌}
use mathlib.Core.List.{List, [], ◌∷◌, ◌++◌, append-nil, append_assoc}
use Prim.Native.Nat.{ℕ, ◌<◌, ◌+◌, ◌*◌}
use native.Mathlib.Omega.{arith}
use lib.ListN.{length, get_or, length-append}
use lib.Seq.{get_or-take, length-take-le}
use Rattle.k2.specs.Bits.{digit, bit_at}
use Rattle.rows.specs.Rows.{places}
use Rattle.rows.proofs.ListingLaws.{places_first, placed, placed_word, placed_none, placed_taken, wrote_one, wrote_full}
use Rattle.rows.proofs.write_pairs.Goals as goal

pub loop-q-init : goal.loop-q-init
unfolding places
loop-q-init c = record { t_most = omega arith; t_is = refl; wrote = refl }

pub loop-p-init : goal.loop-p-init
loop-p-init c =
    let l = c.loop-q in
    let e : get_or c.args.rows.now l.q 0 ≡ c.into_iter-p-iterator.result.left =
    sym (get_or-take (c.args.n * 16) c.args.rows.now l.q 0 (omega (arith, length-take-le (c.args.n * 16) c.args.rows.now (omega arith)))) ∙ cc in
    record {
      passed = places (bit_at c.args.rows.now) (l.q * 64);
      goes_on = rw (← e) (placed_word c.args.rows.now l.q);
      t_most = l.invariant.t_most;
      t_is = l.invariant.t_is;
      wrote = l.invariant.wrote;
    }

pub returns-then-out-t : goal.returns-then-out-t
returns-then-out-t c =
    let i = c.loop-p.invariant in
    let f = bit_at c.args.rows.now in
    let q = c.loop-q.q in
    let r = places_first f ((q + 1) * 64) (c.args.n * 1024) (omega (arith, length-take-le (c.args.n * 16) c.args.rows.now (omega arith))) in
    wrote_full i.passed (places f (c.args.n * 1024)) c.args.out.now c.loop-p.out
    (placed (q * 64) (digit c.loop-p.p-iterator.left) 64 ++ r.0) (omega arith)
    (r.1 ∙ ap (λ (l : List ℕ). l ++ r.0) i.goes_on ∙ append_assoc i.passed _ r.0) i.wrote

pub loop-p-preserved : goal.loop-p-preserved
loop-p-preserved c =
    let i = c.loop-p.invariant in
    let v : ℕ = c.loop-q.q * 64 + c.in-Some.p in
    let h : length i.passed < length c.args.out.now = omega arith in
    record {
      passed = i.passed ++ (v ∷ []);
      goes_on = i.goes_on ∙ ap (λ (l : List ℕ). i.passed ++ l) (placed_taken (c.loop-q.q * 64) c.in-Some.ensures.steps)
          ∙ sym (append_assoc i.passed (v ∷ []) _);
      t_most = omega arith;
      t_is = rw length-append (omega arith);
      wrote = rw i.t_is (wrote_one i.passed c.args.out.now c.loop-p.out v h i.wrote);
    }

pub loop-q-preserved : goal.loop-q-preserved
loop-q-preserved c =
    let i = c.loop-p.invariant in
    let e : places (bit_at c.args.rows.now) ((c.loop-q.q + 1) * 64) ≡ i.passed =
    i.goes_on ∙ ap (λ (l : List ℕ). i.passed ++ l) (placed_none (c.loop-q.q * 64) _ c.in-None.ensures.steps.0) ∙ append-nil i.passed in
    record { t_most = i.t_most; t_is = i.t_is ∙ ap length (sym e); wrote = rw e i.wrote }
