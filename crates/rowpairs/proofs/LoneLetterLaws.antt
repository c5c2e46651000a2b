-- A letter alone, in plain variables: its pairs are those of the part of its label, in their order; and how they are written to a list.
--   letter_listed  the pairs of the label's part are those of the question, ascending
--   length_pairs, written_more, written_all
--                  its pairs written to a list: so many, one more, all
--   one_shifted    a set of one label as a number
-- Assumes nothing.
use mathlib.Core.Path.{◌≡◌, refl, sym, ap, ap₂, ◌∙◌, subst, fun_ext}
use mathlib.Core.Logic.{◌⊎◌, ⊎_elim}
use mathlib.Core.Bool.{Bool, true, false}
use mathlib.Core.List.{List, [], ◌∷◌, ◌++◌, map}
use Prim.Native.Nat.{ℕ, zero, suc, ◌+◌, ◌*◌, ◌/◌, ◌%◌, ◌^◌, ◌<◌, ◌≤◌}
use native.Mathlib.Decide.{dec_lt}
use native.Mathlib.Nat.{mod-eq_of_lt}
use native.Mathlib.Omega.{arith}
use lib.Pow.{pow-lt}
use lib.Dec.{eqb}
use lib.ListN.{length, take, drop, get_or, set, drop_of_length-le}
use lib.Seq.{take_all, drop-cons}
use borrow.Author.Tests.{eqb-true, eq-eqb}
use Rattle.book.specs.Basics.{pick, bit, In}
use Rattle.book.proofs.ListLaws.{rises_same}
use Rattle.book.specs.Book.{Book, present}
use Rattle.k2.specs.Bits.{digit}
use Rattle.k2.specs.DigitLaws.{digit_pow, digit_none}
use Rattle.k2.specs.PairSets.{pair_word, listed, set_of, PairsBelow}
use Rattle.k2.specs.PairSetLaws.{set-in, in_set, in_listed, listed_in, listed_rises, head_same}
use Rattle.paths.specs.Expressions.{Letter, Expr}
use Rattle.paths.specs.Chains.{Graph, asked}
use Rattle.paths.specs.Relations.{crossed_by, cells, pairs}
use Rattle.paths.proofs.RelationLaws.{crossed_is, is_crossed}
use Rattle.paths.proofs.PairLaws.{fit_inside}
use Rattle.reader.specs.declared.items.Item.{Item}
use Rattle.reader.specs.Letters.{letters_in}
use Rattle.reader.specs.Code.{does, run}
use Rattle.links.specs.Parts.{link_pair}
use Rattle.links.specs.Lookups.{LabelPart}
use Rattle.query.specs.Evaluation.{relations, Coded, Lettered}
use Rattle.query.proofs.EvaluationLaws.{coded_value}
use Rattle.rowpairs.specs.Labels.{Alone}
use Rattle.rowpairs.proofs.LetterLaws.{below, part_pairs, part_set}

-- ---- its value
alone_cells : (g : Graph) (l : ℕ) (s : List ℕ) (e : Expr) (c : List ℕ) → Coded s e c → Alone l c → cells g e ≡ crossed_by g (letters_in (2 ^ l) 0)
unfolding run does relations
alone_cells g l s e c C A =
    let one : c ≡ get_or c 0 0 ∷ [] =
    drop-cons c 0 0 (omega (arith, A.single)) ∙ ap (λ (x : List ℕ). get_or c 0 0 ∷ x) (drop_of_length-le c {i = 1} (omega (arith, A.single))) in
    let d : run (relations g) c [] ≡ crossed_by g (letters_in (2 ^ l) 0) ∷ [] =
    ap (λ (x : List ℕ). run (relations g) x []) one ∙ ap (λ (y : Item). does (relations g) y []) A.letter in
    head_same (sym (coded_value g C) ∙ d)

-- a letter of the two sets is the plain one of the label
only_letter : (l : ℕ) (a : Letter) → letters_in (2 ^ l) 0 a ≡ true → (a.inverted ≡ false) × (a.label ≡ l)
unfolding letters_in
only_letter l a h = go a.inverted refl h
  where
    at : (t : Bool) → eqb a.label l ≡ t → eqb (pick t 1 0) 1 ≡ true → a.label ≡ l
    at true e q = eqb-true _ _ e
    at false e q = absurd (let z : ◌≡◌ {A = ℕ} 0 1 = eqb-true 0 1 q in omega arith)

    go : (s : Bool) → a.inverted ≡ s → eqb (digit (pick s 0 (2 ^ l)) a.label) 1 ≡ true → (s ≡ false) × (a.label ≡ l)
    go true e q = absurd (let z : ◌≡◌ {A = ℕ} 0 1 = sym (digit_none a.label) ∙ eqb-true _ _ q in omega arith)
    go false e q = (refl, at (eqb a.label l) refl (ap (λ (d : ℕ). eqb d 1) (sym (digit_pow l a.label)) ∙ q))

plain_letter : (l : ℕ) → letters_in (2 ^ l) 0 (record { label = l; inverted = false }) ≡ true
unfolding letters_in
plain_letter l = eq-eqb (digit (2 ^ l) l) 1 (digit_pow l l ∙ ap (λ (t : Bool). pick t 1 0) (eq-eqb l l refl))

module _ (b : Book) (n : ℕ) (links : List ℕ) (used : ℕ → ℕ) (L : Lettered b n links used) (l : ℕ) (part : List ℕ) (P : LabelPart links l part) where
  abbrev ps : List ℕ
  ps = map link_pair part

  letter_set : crossed_by (asked b) (letters_in (2 ^ l) 0) ≡ set_of ps
  unfolding asked
  letter_set =
      fun_ext
      (λ x. fun_ext (λ y. go x y (dec_lt 0 (crossed_by (asked b) (letters_in (2 ^ l) 0) x y)) (present b.sheet (record { from = x; label = l; to = y })) refl))
    where
      go : (x y : ℕ) → Dec (0 < crossed_by (asked b) (letters_in (2 ^ l) 0) x y) → (t : Bool) → present b.sheet (record { from = x; label = l; to = y }) ≡ t
          → crossed_by (asked b) (letters_in (2 ^ l) 0) x y ≡ set_of ps x y
      go x y d true e =
          is_crossed (asked b) (letters_in (2 ^ l) 0) (fit_inside b L.fit) (record { label = l; inverted = false }) x y (plain_letter l) e
          ∙ sym (part_set b n links used L l part P x y ∙ ap bit e)
      go x y (no d) false e = let z = part_set b n links used L l part P x y ∙ ap bit e in omega arith
      go x y (yes d) false e =
          let r = crossed_is (asked b) (letters_in (2 ^ l) 0) x y d in
          let o = only_letter l r.0 r.1 in
          let p : present b.sheet (record { from = x; label = l; to = y }) ≡ true =
          subst (λ (i : ℕ). present b.sheet (record { from = x; label = i; to = y }) ≡ true) o.1
          (subst (λ (s : Bool). present b.sheet
          (pick s (record { from = y; label = r.0.label; to = x }) (record { from = x; label = r.0.label; to = y })) ≡ true) o.0 r.2) in
          absurd (let z : ◌≡◌ {A = ℕ} 1 0 = ap bit (sym p ∙ e) in omega arith)

  -- its pairs, ascending
  pub letter_listed : (s : List ℕ) (e : Expr) (c : List ℕ) → Coded s e c → Alone l c → ps ≡ pairs (asked b) e
  unfolding pairs asked
  letter_listed s e c C A =
      rises_same ps (listed b.n (set_of ps)) (part_pairs b n links used L l part P).ascending (listed_rises b.n (set_of ps) L.small) forth back
      ∙ ap (listed b.n) (sym (alone_cells (asked b) l s e c C A ∙ letter_set))
    where
      under : PairsBelow b.n ps
      under = subst (λ (i : ℕ). PairsBelow i ps) L.size (below b n links used L l part P)

      forth : (w : ℕ) → In w ps → In w (listed b.n (set_of ps))
      forth w i =
          let h = under w i in
          let q : pair_word (w / 1024) (w % 1024) ≡ w = omega arith in
          subst (λ (v : ℕ). In v (listed b.n (set_of ps))) q
          (listed_in b.n (set_of ps) (w / 1024) (w % 1024) h.0 h.1
          (omega (arith, in_set ps (w / 1024) (w % 1024) (omega arith) (subst (λ (v : ℕ). In v ps) (sym q) i))))

      back : (w : ℕ) → In w (listed b.n (set_of ps)) → In w ps
      back w i = let r = in_listed b.n (set_of ps) i in subst (λ (v : ℕ). In v ps) (sym r.5) (set-in ps r.0 r.1 r.4)

-- ---- its pairs written
written : (i : ℕ) (xs l : List ℕ) → i < length xs → i < length l → set (take i xs ++ drop i l) i (get_or xs i 0) ≡ take (suc i) xs ++ drop (suc i) l
written i [] l h k = absurd (omega arith)
written i (x ∷ xs) [] h k = absurd (omega arith)
written zero (x ∷ xs) (y ∷ l) h k = refl
written (suc i) (x ∷ xs) (y ∷ l) h k = ap (λ (t : List ℕ). x ∷ t) (written i xs l (omega arith) (omega arith))

pub length_pairs : (ws : List ℕ) → length (map link_pair ws) ≡ length ws
length_pairs [] = refl
length_pairs (w ∷ ws) = ap suc (length_pairs ws)

pair_at : (i : ℕ) (ws : List ℕ) → i < length ws → get_or ws i 0 % 1048576 ≡ get_or (map link_pair ws) i 0
unfolding link_pair
pair_at i [] h = absurd (omega arith)
pair_at zero (w ∷ ws) h = refl
pair_at (suc i) (w ∷ ws) h = pair_at i ws (omega arith)

pub written_more : (i : ℕ) (ws list l : List ℕ) → i < length ws → i < length l → list ≡ take i (map link_pair ws) ++ drop i l
    → set list i (get_or ws i 0 % 1048576) ≡ take (i + 1) (map link_pair ws) ++ drop (i + 1) l
written_more i ws list l h k e =
    ap₂ (λ (x : List ℕ) (v : ℕ). set x i v) e (pair_at i ws h) ∙ written i (map link_pair ws) l (omega (arith, length_pairs ws)) k
    ∙ ap (λ (j : ℕ). take j (map link_pair ws) ++ drop j l) (let z : suc i ≡ i + 1 = omega arith in z)

pub written_all : (i c : ℕ) (ws list l : List ℕ) → i ≡ c → (c ≤ length ws) × (c ≤ length l) × ((c ≡ length ws) ⊎ (c ≡ length l))
    → list ≡ take i (map link_pair ws) ++ drop i l
    → list ≡ take (length l) (map link_pair ws) ++ drop (length (map link_pair ws)) l
written_all i c ws list l z h e = e ∙ ⊎_elim
    (λ k. let p : length (map link_pair ws) ≡ i = length_pairs ws ∙ omega arith in
    ap₂ (λ (x : List ℕ) (j : ℕ). x ++ drop j l) (take_all i (map link_pair ws) (omega arith) ∙ sym (take_all (length l) (map link_pair ws) (omega arith)))
    (sym p))
    (λ k. let q : i ≡ length l = omega arith in
    ap₂ (λ (j : ℕ) (x : List ℕ). take j (map link_pair ws) ++ x) q
    (drop_of_length-le l {i = i} (omega arith) ∙ sym (drop_of_length-le l {i = length (map link_pair ws)} (omega (arith, length_pairs ws))))) h.2

-- a set of one label
pub one_shifted : (f t : ℕ) → t < 26 → f ≡ (1 * 2 ^ t) % 2 ^ 32 → f ≡ 2 ^ t
one_shifted f t h e = e ∙ ap (λ (x : ℕ). x % 2 ^ 32) (let z : 1 * 2 ^ t ≡ 2 ^ t = omega arith in z) ∙ mod-eq_of_lt (pow-lt {j = 32} (omega arith))
