-- Demand 2: `MakeList` and `ListMake` of RoundTrips, from what the calls promise. With space enough a call is not refused (`enough`, `enough_list`), and the
-- tree of a set tells the set.
--   make_list   pairs made into a tree and listed are the set
--   list_make   a well-formed tree listed and made is the tree
-- Assumes nothing.
use Rattle.std.specs.Prelude.{◌≡◌, refl, true, List, [], ◌++◌, ℕ, ◌*◌, ◌/◌, ◌%◌, ◌≤◌, length, take, drop}
use Rattle.std.proofs.Common.{sym, ap, subst, ◌∙◌, arith, take_all, take_at, le-ltb}
use Rattle.book.specs.Basics.{In}
use Rattle.book.specs.Causes.{first_number, max_records}
use Rattle.book.proofs.ListLaws.{in_none}
use Rattle.k2.specs.PairSets.{Cells, IsSet, listed, set_of, pair_word, PairsBelow}
use Rattle.k2.specs.PairSetLaws.{set_of_set, set_of_listed, set-in, in_set, in_listed, listed_in, listed_rises, listed_below}
use Rattle.k2.specs.Trees.{tree_words, tree_unit, WellFormed}
use Rattle.k2.specs.TreeSets.{set_in}
use Rattle.k2.specs.TreeSetLaws.{formed_set}
use Rattle.answers.specs.Answers.{answered, over_unless}
use Rattle.answers.specs.declared.Counted.{Counted}
use Rattle.answers.specs.declared.Counted.TheVariants.{Count}
use Rattle.tree.specs.Calls.{all_formed, lent_causes, Answered, Listed}
use Rattle.tree.specs.CallLaws.{tree_causes, below_all, one_formed, lent_none, tree_accepted}
use Rattle.tree.specs.RoundTrips.{answer_words, MakeList, ListMake}

-- ---- a call with space enough is not refused
no_pair : {n : ℕ} → PairsBelow n []
no_pair w i = absurd (in_none i refl)

enough : {n : ℕ} {ps : List ℕ} {ts : List (List ℕ)} {k : ℕ} {xs before after : List ℕ} {v : Counted}
    → 1 ≤ n → n ≤ max_records → PairsBelow n ps → all_formed n ts ≡ true
    → 32 * tree_unit n ≤ k → length xs ≤ length before → Answered n ps ts k xs before after v → (v ≡ Count (length xs)) × (answer_words v after ≡ xs)
unfolding answered over_unless answer_words
enough {n} {ps} {ts} {k} {xs} {before} {after} some few below trees wide fits A =
    let z : first_number (tree_causes n ps ts k xs (length before)) ≡ 0 =
    tree_accepted n ps ts k xs (length before) (lent_none n ps ts k some few (below_all n ps below) trees wide)
    ∙ rw (le-ltb (length before) (length xs) fits) refl in
    let r = A.handed.answer ∙ ap (λ (c : ℕ). answered c (length xs)) z in
    let l : after ≡ xs ++ drop (length xs) before = A.handed.list ∙ ap (λ (c : ℕ). over_unless c xs before) z in
    (r, rw (r, l) (take_at xs (drop (length xs) before) (length xs) refl))

enough_list : {n : ℕ} {ts : List (List ℕ)} {k : ℕ} {xs before after : List ℕ} {v : Counted} → 1 ≤ n → n ≤ max_records → all_formed n ts ≡ true
    → 32 * tree_unit n ≤ k → length xs ≤ length before → Listed n ts k xs before after v → (v ≡ Count (length xs)) × (answer_words v after ≡ xs)
unfolding answered over_unless answer_words
enough_list {n} {ts} {k} {xs} {before} {after} some few trees wide fits A =
    let z : first_number (lent_causes n [] ts k) ≡ 0 = lent_none n [] ts k some few (below_all n [] no_pair) trees wide in
    let r = A.handed.answer ∙ ap (λ (c : ℕ). answered c (length xs)) z in
    let l : after ≡ xs ++ drop (length xs) before = A.handed.list ∙ ap (λ (c : ℕ). over_unless c (take (length before) xs) before) z
    ∙ ap (λ (w : List ℕ). w ++ drop (length w) before) (take_all (length before) xs fits) in
    (r, rw (r, l) (take_at xs (drop (length xs) before) (length xs) refl))

no_tree : (n : ℕ) → all_formed n [] ≡ true
unfolding all_formed
no_tree n = refl

-- ---- made, and listed
pub make_list : MakeList
make_list n work work' ps out out' list list' v u b E A B =
    let is : IsSet n (set_of ps) = set_of_set n ps E.few b in
    let x = enough E.some E.few b (no_tree n) E.first E.words A in
    let F : WellFormed n (answer_words v out') = record { set = set_of ps; is_set = is; tree = x.1 } in
    let s : listed n (set_in n (answer_words v out')) ≡ listed n (set_of ps) = ap (listed n) (formed_set F) in
    let z =
    enough_list E.some E.few (one_formed n (answer_words v out') F) E.second (subst (λ (l : List ℕ). length l ≤ length list) (sym s) E.pairs) B in
    let y : (u ≡ Count (length (listed n (set_of ps)))) × (answer_words u list' ≡ listed n (set_of ps)) =
    (z.0 ∙ ap (λ (l : List ℕ). Count (length l)) s, z.1 ∙ s) in
    record {
      answers = record { told = y.0; made = x.0; pairs = y.1; tree = x.1 };
      rises = rw y.1 (listed_rises n (set_of ps) E.few);
      same = λ w. rw y.1 (
        λ i. let r = in_listed n (set_of ps) i in subst (λ (v : ℕ). In v ps) (sym r.5) (set-in ps r.0 r.1 r.4),
        λ i.
            let l = b w i in
            let q : pair_word (w / 1024) (w % 1024) ≡ w = omega arith in
            subst (λ (v : ℕ). In v (listed n (set_of ps))) q
            (listed_in n (set_of ps) (w / 1024) (w % 1024) l.0 l.1 (omega (
              arith,
              in_set ps (w / 1024) (w % 1024) (omega arith) (subst (λ (v : ℕ). In v ps) (sym q) i),
            ))),
      );
    }

-- ---- listed, and made
pub list_make : ListMake
list_make n work work' t out out' list list' u v F E A B =
    let a : Cells = F.set in
    let q : listed n (set_in n t) ≡ listed n a = ap (listed n) (formed_set F) in
    let x = enough_list E.some E.few (one_formed n t F) E.first (subst (λ (l : List ℕ). length l ≤ length list) (sym q) E.pairs) A in
    let p : answer_words u list' ≡ listed n a = x.1 ∙ q in
    let s : tree_words n (set_of (answer_words u list')) ≡ t =
    ap (λ (l : List ℕ). tree_words n (set_of l)) p ∙ ap (tree_words n) (set_of_listed n a E.few F.is_set) ∙ sym F.tree in
    let b : PairsBelow n (answer_words u list') = subst (PairsBelow n) (sym p) (listed_below n a E.few) in
    let y = enough E.some E.few b (no_tree n) E.second (subst (λ (l : List ℕ). length l ≤ length out) (sym (s ∙ F.tree)) E.words) B in
    record { told = x.0 ∙ ap (λ (l : List ℕ). Count (length l)) q; made = y.0 ∙ ap (λ (l : List ℕ). Count (length l)) s; pairs = p; tree = y.1 ∙ s }
