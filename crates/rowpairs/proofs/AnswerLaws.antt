-- The value of a code handed over, in plain variables.
--   value_few      a relation has no more pairs than there are
--   listed_value   the pairs of the first relation listed are those of the value
--   alone_listed   the pairs of a letter alone are those of its value
--   own_words      with the work of trees, rows have too little only for 32 records or fewer
--   front_le       a relation has a word for each record at the least
--   enough_work    the work of either engine is enough for a value
--   value_masks, value_copied
--                  a value left with masks that are the same, or in words that those of at most 32 records were copied to
-- Assumes nothing.
use mathlib.Core.Path.{◌≡◌, refl, ap, ap₂, ◌∙◌}
use mathlib.Core.List.{List, ◌++◌, map}
use Prim.Native.Nat.{ℕ, zero, suc, ◌+◌, ◌*◌, ◌≤◌, ◌<◌}
use native.Mathlib.Decide.{dec_lt}
use native.Mathlib.Omega.{arith}
use native.Mathlib.Nat.{mul-le-mul}
use lib.ListN.{length, take, drop, get_or, length-map, length-take, length-drop, get_or-append}
use lib.Seq.{length-take-le, get_or-take}
use Rattle.book.specs.Causes.{max_records, max_links}
use Rattle.book.specs.Book.{Book}
use Rattle.k2.specs.PairSets.{listed}
use Rattle.k2.specs.PairSetLaws.{within_length, listed_within}
use Rattle.paths.specs.Expressions.{Expr}
use Rattle.paths.specs.Chains.{asked}
use Rattle.paths.specs.Relations.{cells, pairs}
use Rattle.paths.specs.Questions.{Engine, by_trees, by_rows, pairs_work, row_width, rows_work, work_for}
use Rattle.links.specs.Lookups.{LabelPart}
use Rattle.links.specs.Parts.{link_pair}
use Rattle.grid.specs.Grid.{first}
use Rattle.query.specs.Asking.{max_pairs}
use Rattle.query.specs.Evaluation.{Coded}
use Rattle.query.proofs.WorkLaws.{rows_fit}
use Rattle.answers.specs.Written.{written, Wrote}
use Rattle.k2.specs.SizeLaws.{tree_unit_some}
use Rattle.rowpairs.specs.Labels.{Alone, LetterListed}
use Rattle.rowpairs.specs.Evaluation.{Known, Enough, ValueFirst, ValueListed}
use Rattle.rowpairs.proofs.LoneLetterLaws.{letter_listed}
use Rattle.rowpairs.proofs.StepLaws.{first-kept}

-- ---- how many pairs a value has
pub value_few : (n w : ℕ) (ws ms : List ℕ) → n ≤ max_records → length (listed n (first n w ws ms)) ≤ max_pairs
value_few n w ws ms small = omega (arith, within_length (listed_within n (first n w ws ms) small))

module _ (n w : ℕ) (links marks code ws ms : List ℕ) (width : w ≡ row_width n) (small : n ≤ max_records) (made : ValueFirst n links marks code ws ms) where
  value : (b : Book) → Known b n links marks → (s : List ℕ) (e : Expr) → Coded s e code → first n w ws ms ≡ cells (asked b) e
  value b L s e C = ap (λ (v : ℕ). first n v ws ms) width ∙ made.value b L s e C

  pub listed_value : (before after : List ℕ) (t : ℕ) → t ≡ length (listed n (first n w ws ms))
      → after ≡ take (length before) (listed n (first n w ws ms)) ++ drop (length (listed n (first n w ws ms))) before
      → ValueListed n links marks code before after t
  unfolding pairs asked
  listed_value before after t total written = record {
    all = listed n (first n w ws ms);
    total = total;
    few = value_few n w ws ms small;
    written = written;
    value = λ b L s e C. ap₂ listed L.size (value b L s e C);
  }

-- ---- a letter alone
part_few : {l : ℕ} {links part : List ℕ} → LabelPart links l part → length part ≤ length links
part_few {links = links} P = let q = P.inside in omega (arith, ap length q.2, length-take q.1 (drop q.0 links), length-drop q.0 links)

pub alone_listed : (n l : ℕ) (links marks code before after : List ℕ) (t : ℕ) → Alone l code
    → length links ≤ max_links → LetterListed links l before after t → ValueListed n links marks code before after t
alone_listed n l links marks code before after t A few T = record {
  all = map link_pair T.part;
  total = T.total;
  few = omega (arith, length-map T.part link_pair, part_few T.of_label, few);
  written = T.written;
  value = λ b L s e C. letter_listed b n links _ L l T.part T.of_label s e code C A;
}

-- ---- the work of trees
own_words : (n work : ℕ) → pairs_work n ≤ work → work < rows_work n → n ≤ 32
own_words n work h l = go (dec_lt 32 n)
  where
    go : Dec (32 < n) → n ≤ 32
    go (yes k) = absurd (omega (arith, rows_fit n k))
    go (no k) = omega arith

few_front : (n : ℕ) → n ≤ 32 → n * row_width n ≤ n
few_front n h = let p : n * row_width n ≤ n * 1 = mul-le-mul {n₁ = n} {n₂ = n} {m₂ = 1} (omega arith) (omega arith) in omega (arith, p)

pub front_le : (n : ℕ) → n ≤ n * row_width n
front_le zero = omega arith
front_le (suc n) = let p : suc n * 1 ≤ suc n * row_width (suc n) = mul-le-mul (omega arith) (omega arith) in omega (arith, p)

pub enough_work : (d : Engine) (n work : ℕ) → work_for d n ≤ work → Enough n work
enough_work by_rows n work h = record { own = λ l. absurd (omega arith); front = omega arith }
enough_work by_trees n work h = record { own = own_words n work h; front = go (dec_lt 32 n) }
  where
    go : Dec (32 < n) → n * row_width n ≤ work
    go (yes k) = omega (arith, rows_fit n k)
    go (no k) = omega (arith, few_front n (omega arith), tree_unit_some n)

-- ---- a value left
module _ {n : ℕ} {links marks code ws ms : List ℕ} (made : ValueFirst n links marks code ws ms) where
  pub value_masks : (ms' : List ℕ) → ((i : ℕ) → i < n → get_or ms' i 0 ≡ get_or ms i 0) → ValueFirst n links marks code ws ms'
  value_masks ms' same = record { value = λ b L s e C. first-kept n ws ws ms ms' (λ i h. refl) same ∙ made.value b L s e C }

  pub value_copied : {before after : List ℕ} {q : ℕ} → n ≤ 32 → n ≤ length ws → Wrote 0 (take n ws) before after q → ValueFirst n links marks code after ms
  unfolding written
  value_copied {before} {after} h long W = record {
    value = λ b L s e C. first-kept n ws after ms ms
        (λ i l. let k : i < n = omega (arith, few_front n h) in
        ap (λ (x : List ℕ). get_or x i 0) W.contents
        ∙ get_or-append (take n ws) (drop (0 + length (take n ws)) before) 0 i (omega (arith, length-take-le n ws long)) ∙ get_or-take n ws i 0 k)
        (λ i l. refl) ∙ made.value b L s e C;
  }
