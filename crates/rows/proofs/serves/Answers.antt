-- `serves` searches the squares in common, and in a square the records of row i from the first of row j on (`meets_before`), by the trailing zeros of
-- what is left of its word. Both invariants: no record passed serves; inside a square, what is left is its word from place k on. The measures are the
-- squares and the places left. It rests on `record_next`, the next record of row i, and `meets_record`: it serves exactly if row j has it. Assumes
-- nothing.
use mathlib.Core.Path.{◌≡◌, refl, sym, ◌∙◌}
use Prim.Native.Nat.{◌+◌, ◌-◌, ◌*◌}
use native.Mathlib.Omega.{arith}
use lib.Count.{count_trailing_zeros, trailing_le}
use lib.ListN.{get_or}
use Rattle.k2.specs.Bits.{digit}
use Rattle.rows.specs.Steps.{served}
use Rattle.rows.proofs.SearchLaws.{most_more, most_hit, most_far, meets_bits, meets_word, meets_before, meets_record, record_next}
use Rattle.rows.proofs.SearchLaws.{record_none, first_square, square_inside, common_first, common_last}
use Rattle.rows.proofs.serves.Goals as goal
use Rattle.rows.proofs.serves.Goals.{then-row-column-ne0+else-loop-rest-test, else-row-column-ne0}

pub search-init : goal.search-init
search-init c =
    let a = c.args in
    let f = first_square a.common (omega arith) (omega arith) in
    record { inside = omega (arith, f); none_found = refl; none_common = λ g. common_first a.a.now a.b.now a.i a.j a.common g f }

pub loop-rest-init : goal.loop-rest-init
loop-rest-init c =
    let S = c.search in
    let a = c.args in
    let column = get_or a.b.now (a.j * 16 + S.s) 0 in
    record {
      inside = trailing_le 64 column;
      rest-is = refl;
      none_found = S.invariant.none_found;
      none_common = λ g. most_far (S.s * 64) (count_trailing_zeros 64 column) _ (S.invariant.none_common g) (meets_before a.a.now a.b.now a.i a.j S.s);
    }

pub overflow_shr-column : goal.overflow_shr-column
overflow_shr-column c =
    let l = c.loop-rest in
    let S = c.search in
    let a = c.args in
    let N = record_next a.a.now a.b.now a.i a.j S.s l.k l.rest l.invariant.rest-is (c.type_inv.a (a.i * 16 + S.s)).fits
    (omega (arith, c.loop-rest-test.true)) in
    N.0

pub loop-rest-preserved : goal.loop-rest-preserved
unfolding digit
loop-rest-preserved c =
    let l = c.loop-rest in
    let S = c.search in
    let a = c.args in
    let t = count_trailing_zeros 64 l.rest in
    let N = record_next a.a.now a.b.now a.i a.j S.s l.k l.rest l.invariant.rest-is (c.type_inv.a (a.i * 16 + S.s)).fits
    (omega (arith, c.loop-rest-test.true)) in
    let e : S.s * 64 + (l.k + t + 1) ≡ S.s * 64 + (l.k + t) + 1 = omega arith in
    let d : S.s * 64 + l.k + t ≡ S.s * 64 + (l.k + t) = omega arith in
    record {
      inside = omega (arith, N.0);
      rest-is = N.3;
      none_found = l.invariant.none_found;
      none_common = λ g. rw e (most_more (S.s * 64 + (l.k + t)) _ (rw d at (most_far (S.s * 64 + l.k) t _ (l.invariant.none_common g) N.2))
          (meets_record a.a.now a.b.now a.i a.j S.s (l.k + t) N.0 N.1 ∙ omega arith));
    }

pub search-preserved : goal.search-preserved
search-preserved c =
    let S = c.search in
    let a = c.args in
    let e : (S.s + 1) * 64 ≡ S.s * 64 + 64 = omega arith in
    record {
      inside = omega (arith, square_inside a.common S.s (omega arith) S.invariant.inside c.search-test.true);
      none_found = elim c.if-row-column-ne0.branch [
        | then-row-column-ne0+else-loop-rest-test w ↦ w.found-is ∙ w.loop-rest.invariant.none_found
        | else-row-column-ne0 w ↦ w.found-is ∙ S.invariant.none_found
      ];
      none_common = λ g. rw e (
          elim c.if-row-column-ne0.branch [
            | then-row-column-ne0+else-loop-rest-test w ↦
                let l = w.loop-rest in
                let d : S.s * 64 + l.k + (64 - l.k) ≡ S.s * 64 + 64 = omega (arith, l.invariant.inside) in
                rw d at (most_far (S.s * 64 + l.k) (64 - l.k) _ (l.invariant.none_common g)
                (λ m h k. record_none a.a.now a.b.now a.i a.j S.s l.k l.rest l.invariant.rest-is w.loop-rest-test.false m h (omega (arith, d))))
            | else-row-column-ne0 w ↦
                most_far (S.s * 64) 64 _ (S.invariant.none_common g) (meets_word a.a.now a.b.now a.i a.j S.s w.if-row-column-ne0.false)
          ]);
    }

pub returns-after-search : goal.returns-after-search
unfolding served
returns-after-search c =
    let S = c.search in
    let a = c.args in
    λ g. S.invariant.none_found
    ∙ sym (common_last a.a.now a.b.now a.i a.j a.common g S.s S.invariant.inside c.search-test.false (S.invariant.none_common g))

pub returns-then-column-k-eq1 : goal.returns-then-column-k-eq1
unfolding digit served
returns-then-column-k-eq1 c =
    let S = c.search in
    let l = c.loop-rest in
    let a = c.args in
    let N = record_next a.a.now a.b.now a.i a.j S.s l.k l.rest l.invariant.rest-is (c.type_inv.a (a.i * 16 + S.s)).fits
    (omega (arith, c.loop-rest-test.true)) in
    let k = l.k + count_trailing_zeros 64 l.rest in
    λ g. sym (most_hit 1024 _ (S.s * 64 + k) (meets_bits a.a.now a.b.now a.i a.j)
    (omega (arith, square_inside a.common S.s (omega arith) S.invariant.inside c.search-test.true, N.0))
    (meets_record a.a.now a.b.now a.i a.j S.s k N.0 N.1 ∙ c.if-column-k-eq1.true))
