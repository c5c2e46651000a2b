-- Every case of the tables holds: one theorem for each table, from what the definitions compute.
--   Computed       what is computed of a case whose text has a given verdict
--   holds, by      a case is met if what is computed of it is so
--   k1_to_k12      the worked cases K1 to K12
--   withdrawn_3    the same links with the record 3 withdrawn, and reinstated
--   others         what looks right and is wrong, and chains as short as one another
--   sets           negated sets
-- Assumes nothing.
use Rattle.std.specs.Prelude.{◌≡◌, refl, List, ◌∷◌, map, ℕ, ◌≤◌, length}
use Rattle.std.proofs.Common.{subst, arith}
use Prim.Native.String.{String}
use Rattle.book.specs.Basics.{has, without, All, all_none, all_more}
use Rattle.book.specs.Causes.{number, first_number}
use Rattle.book.specs.Book.{Call, touched, causes, edit_answer, edited, turned, next, fresh, after}
use Rattle.k2.specs.PairSets.{row_pairs, rows_pairs, listed, union, transpose, most, serves, product, via, closure, diagonal}
use Rattle.k2.specs.Trees.{rise, height, quadrant, filled, quarters, keep, levels, tree_bits}
use Rattle.paths.specs.Expressions.{has_sense, stands_for, Expr, letters, depth}
use Rattle.paths.specs.Grammar.{Verdict, accepted, long, outside, large, Judged}
use Rattle.paths.specs.Words.{backwards}
use Rattle.paths.specs.Chains.{Graph, asked, spell, step_words, no_chain}
use Rattle.paths.specs.Relations.{crossed_by, zero_steps, cells, PairsAre, pairs}
use Rattle.paths.specs.Descent.{members_in, alternatives_in, read_alternatives}
use Rattle.paths.specs.Verdicts.{verdict}
use Rattle.paths.proofs.VerdictLaws.{verdict_right}
use Rattle.paths.specs.Inside.{Inside}
use Rattle.paths.proofs.RelationLaws.{cells_set, cells_has, cells_is}
use Rattle.paths.proofs.PairLaws.{pairs_are, history_inside, history_small}
use Rattle.paths.proofs.ChainOrderLaws.{before}
use Rattle.paths.proofs.AcceptanceLaws.{parted, many, accepts}
use Rattle.paths.proofs.FirstChainLaws.{reach, steps_below, before_each, after_each, walks, walks_to, end, best, just, first_to, chain_to, chain_first}
use Rattle.cases.specs.Tables.{bytes, Case, pairs_of, chain_of, none_of, tree_of, word_of, Met, made, links, table}
use Rattle.cases.proofs.RequestTables.{struck, struck_table, returned}
use Rattle.cases.proofs.RequestTables.{returned_table, ring, ring_table, swapped_table, ties, ties_table, sets_table, set_ties_table}

-- ---- a case from what is computed
read : (t : String) (e : Expr) → verdict (bytes t) ≡ accepted e → Judged (bytes t) (accepted e)
read t e h = subst (λ v. Judged (bytes t) v) h (verdict_right (bytes t))

abbrev text : Case → String
text (pairs_of t l) = t
text (chain_of x y t ss) = t
text (none_of x y t) = t
text (tree_of t bits) = t

-- what is computed of a case whose text has the verdict v
abbrev Computed : Graph → Verdict → Case → Type 0
Computed g (accepted e) (pairs_of t l) = pairs g e ≡ map word_of l
Computed g (accepted e) (chain_of x y t ss) = chain_to (length ss) g e x y ≡ just ss
Computed g (accepted e) (none_of x y t) = cells g e x y ≡ 0
Computed g (accepted e) (tree_of t bits) = bits ≡ tree_bits (height g.n) (cells g e)
Computed g long k = ⊥
Computed g outside k = ⊥
Computed g large k = ⊥

module _ (g : Graph) (I : Inside g) (s : g.n ≤ 1024) where
  holds : (k : Case) (v : Verdict) → verdict (bytes (text k)) ≡ v → Computed g v k → Met g k
  holds (pairs_of t l) (accepted e) h q = (e, read t e h, subst (λ (m : List ℕ). PairsAre g e m) q (pairs_are g I s e))
  holds (chain_of x y t ss) (accepted e) h q = (e, read t e h, chain_first g I (length ss) e x y ss q)
  holds (none_of x y t) (accepted e) h q = (e, read t e h, no_chain (λ ss r. let z = (cells_has g I e x y).1 (ss, r) in omega arith))
  holds (tree_of t bits) (accepted e) h q = (e, read t e h, record { set = cells g e; is_set = cells_set g I e; means = cells_is g I e; tree = q })
  holds k long h q = absurd q
  holds k outside h q = absurd q
  holds k large h q = absurd q

by : (n : ℕ) (cs : List Call) → n ≤ 1024 → (k : Case) {ks : List Case}
    → Computed (made n cs) (verdict (bytes (text k))) k → All (Met (made n cs)) ks → All (Met (made n cs)) (k ∷ ks)
by n cs h k q r = all_more (holds (made n cs) (history_inside n h cs) (history_small n h cs) k _ refl q) r

-- K1 to K12
pub k1_to_k12 : All (Met (made 4 links)) table
unfolding table links bytes verdict read_alternatives alternatives_in letters depth stands_for after next turned edit_answer first_number number causes edited
    fresh has without asked most crossed_by zero_steps diagonal transpose union serves product via closure cells row_pairs rows_pairs listed pairs parted many
    accepts before reach steps_below before_each after_each walks walks_to end best first_to chain_to spell step_words quadrant filled quarters keep levels
    tree_bits rise height backwards
k1_to_k12 =
    let h : 4 ≤ 1024 = omega arith in
    by 4 links h _ refl
    (by 4 links h _ refl
    (by 4 links h _ refl
    (by 4 links h _ refl
    (by 4 links h _ refl
    (by 4 links h _ refl
    (by 4 links h _ refl
    (by 4 links h _ refl
    (by 4 links h _ refl
    (by 4 links h _ refl
    (by 4 links h _ refl
    (by 4 links h _ refl
    all_none)))))))))))

-- with 3 withdrawn, and reinstated
pub withdrawn_3 : All (Met (made 4 struck)) struck_table × All (Met (made 4 returned)) returned_table
unfolding struck_table struck returned_table returned links bytes verdict read_alternatives alternatives_in letters depth stands_for after next turned
    edit_answer first_number number causes edited fresh has without touched asked most crossed_by zero_steps diagonal transpose union serves product via
    closure cells row_pairs rows_pairs listed pairs parted many accepts before reach steps_below before_each after_each walks walks_to end best first_to
    chain_to spell step_words
withdrawn_3 =
    let h : 4 ≤ 1024 = omega arith in (
      by 4 struck h _ refl
          (by 4 struck h _ refl
          (by 4 struck h _ refl
          (by 4 struck h _ refl
          (by 4 struck h _ refl
          (by 4 struck h _ refl
          (by 4 struck h _ refl
          all_none)))))),
      by 4 returned h _ refl (by 4 returned h _ refl all_none),
    )

-- what looks right and is wrong, and chains as short as one another
pub others : All (Met (made 3 ring)) ring_table × All (Met (made 4 links)) swapped_table × All (Met (made 4 ties)) ties_table
unfolding ring_table ring swapped_table links ties_table ties bytes verdict read_alternatives alternatives_in letters depth stands_for after next turned
    edit_answer first_number number causes edited fresh has without asked most crossed_by zero_steps diagonal transpose union serves product via closure cells
    row_pairs rows_pairs listed pairs parted many accepts before reach steps_below before_each after_each walks walks_to end best first_to chain_to spell
    step_words quadrant filled quarters keep levels tree_bits rise height backwards
others =
    let h : 3 ≤ 1024 = omega arith in
    let i : 4 ≤ 1024 = omega arith in (
      by 3 ring h _ refl (by 3 ring h _ refl (by 3 ring h _ refl all_none)),
      by 4 links i _ refl all_none,
      by 4 ties i _ refl
          (by 4 ties i _ refl
          (by 4 ties i _ refl
          (by 4 ties i _ refl
          (by 4 ties i _ refl
          (by 4 ties i _ refl
          (by 4 ties i _ refl
          (by 4 ties i _ refl
          all_none))))))),
    )

-- negated sets
pub sets : All (Met (made 4 links)) sets_table × All (Met (made 4 ties)) set_ties_table
unfolding sets_table set_ties_table links ties bytes verdict read_alternatives alternatives_in members_in letters depth has_sense stands_for after next turned
    edit_answer first_number number causes edited fresh has without asked most crossed_by zero_steps diagonal transpose union serves product via closure cells
    row_pairs rows_pairs listed pairs parted many accepts before reach steps_below before_each after_each walks walks_to
    end best first_to chain_to spell step_words quadrant filled quarters keep levels tree_bits rise height backwards
sets =
    let h : 4 ≤ 1024 = omega arith in (
      by 4 links h _ refl
          (by 4 links h _ refl
          (by 4 links h _ refl
          (by 4 links h _ refl
          (by 4 links h _ refl
          (by 4 links h _ refl
          (by 4 links h _ refl
          (by 4 links h _ refl
          (by 4 links h _ refl
          (by 4 links h _ refl
          (by 4 links h _ refl
          (by 4 links h _ refl
          (by 4 links h _ refl
          (by 4 links h _ refl
          (by 4 links h _ refl
          (by 4 links h _ refl
          (by 4 links h _ refl
          (by 4 links h _ refl
          (by 4 links h _ refl
          all_none)))))))))))))))))),
      by 4 ties h _ refl
          (by 4 ties h _ refl
          (by 4 ties h _ refl
          (by 4 ties h _ refl
          (by 4 ties h _ refl
          (by 4 ties h _ refl
          (by 4 ties h _ refl
          all_none)))))),
    )
