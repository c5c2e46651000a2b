-- Laws of the exported operations: the records below n marked, and what an operation on a tree and these makes. Assumes nothing.
use mathlib.Core.Path.{◌≡◌, refl, sym, ap, ap₂, subst, ◌∙◌, fun_ext}
use mathlib.Core.List.{List, []}
use Prim.Native.Nat.{ℕ, ◌+◌, ◌≤◌, ◌<◌}
use native.Mathlib.Decide.{dec_lt, ℕ_discrete}
use native.Mathlib.Omega.{arith}
use lib.ListN.{length, take}
use borrow.Author.Tests.{lt-ltb, le-ltb}
use Rattle.book.proofs.ListLaws.{in_none}
use Rattle.k2.specs.Bits.{bit_at}
use Rattle.k2.specs.PairSets.{Cells, IsSet, union, diagonal}
use Rattle.k2.specs.Trees.{tree_words}
use Rattle.bits.specs.BitSets.{none, put}
use Rattle.bits.specs.BitSetLaws.{put_at, put_off}
use Rattle.rows.specs.RowSets.{no_pairs}
use Rattle.rows.specs.RowLaws.{none_set, none_tree, union_none}
use Rattle.packing.specs.declared.loading.Sense.TheVariants.{Plain}
use Rattle.tree.specs.declared.operations.Operation.TheVariants.{Optional}
use Rattle.tree.specs.Inner.{Roomy, Lent, term_set, TreeAt, Operated}
use Rattle.tree.specs.InnerLaws.{valued_alone, valued_nothing}
use Rattle.test_trees.specs.Terms.{on_one, below, identity}

-- ---- the records below n
below_in : (n x : ℕ) → x < n → below n x ≡ 1
unfolding below
below_in n x l = rw (lt-ltb x n l)

pub below_past : (n x : ℕ) → n ≤ x → below n x ≡ 0
unfolding below
below_past n x l = rw (le-ltb x n l)

pub below_none : none ≡ below 0
unfolding none
below_none = fun_ext (λ x. sym (below_past 0 x (omega arith)))

pub below_more : (i : ℕ) → put i 1 (below i) ≡ below (i + 1)
below_more i = fun_ext (λ x. go x (ℕ_discrete x i) (dec_lt x i))
  where
    go : (x : ℕ) → Dec (x ≡ i) → Dec (x < i) → put i 1 (below i) x ≡ below (i + 1) x
    go x (yes e) d = rw e (put_at i 1 (below i) ∙ sym (below_in (i + 1) i (omega arith)))
    go x (no e) (yes l) = put_off i 1 (below i) x e ∙ below_in i x l ∙ sym (below_in (i + 1) x (omega arith))
    go x (no e) (no l) = put_off i 1 (below i) x e ∙ below_past i x (omega arith) ∙ sym (below_past (i + 1) x (omega (arith, e)))

-- ---- a tree, and each of them joined to itself
module _ (n i : ℕ) (us before after : List ℕ) (r : ℕ) (len : length us ≡ 16) (marked : bit_at us ≡ below n) where
  marked_set : (a : Cells) → term_set (on_one Optional i Plain) n [] (bit_at us) no_pairs a ≡ union a (identity n)
  marked_set a =
      let e : diagonal (bit_at us) ≡ identity n = ap diagonal marked ∙ unfold below in refl in
      ap₂ union (ap₂ union (valued_nothing []) (valued_alone [] i Plain a) ∙ union_none a) e

  pub identity_made : Operated (on_one Optional i Plain) n [] us 16384 before after r → Roomy n (on_one Optional i Plain) (length before)
      → (a : Cells) → IsSet n a → take i before ≡ tree_words n a → TreeAt n (union a (identity n)) after r
  identity_made o p a A e =
      let l : Lent (on_one Optional i Plain) n [] (bit_at us) before no_pairs a =
      record {
        first = none_set n;
        second = A;
        front = none_tree n;
        behind = e;
        links = λ w i. absurd (in_none i refl);
        used = λ x h. ap (λ (f : ℕ → ℕ). f x) marked ∙ below_past n x h;
      } in
      subst (λ (s : Cells). TreeAt n s after r) (marked_set a) (o.tree (record { trees = p; records = len; bits = refl }) no_pairs a l)
