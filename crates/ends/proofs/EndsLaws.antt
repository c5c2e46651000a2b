-- The computed lists of ends and starts are the answers of the questions, and nothing else is; both senses; the other two questions; the order of causes.
--   in_places, places_in, places_rises, places_same
--                   the places of a function: its members, ascending, and the same of another that is 0 where it is
--   ends_are, starts_are
--                   ends g e x ascends, and its members are exactly the records that a chain leads to from x; starts g e y likewise those from which one
--                   leads to y
--   ends_only, starts_only
--                   no other list is so
--   starts_inverse  the starts are the ends by the inverse expression, ^(..)
--   joined_as       so both senses are the ends by an expression
--   ends_row, starts_column
--                   they are a row and a column of the pair question's answer
--   ends_chain, chain_ends
--                   the chain question says a chain exactly to the ends
--   starts_chain, chain_starts
--                   and exactly from the starts
--   ends_in_order   the causes stand in the order of S6.7
-- Assumes nothing.
use Rattle.std.specs.Prelude.{◌≡◌, refl, ◌⊎◌, ◌↔◌, List, [], ◌∷◌, ◌++◌, Bool, true, false, ℕ, zero, suc, ◌≤◌, ◌<◌}
use Rattle.std.proofs.Common.{sym, subst, inl, inr, append-nil, arith}
use Rattle.std.proofs.Math.Decide.{dec_lt}
use Rattle.book.specs.Basics.{In, here, there, Rises, ended, rises}
use Rattle.book.specs.CauseOrders.{question_order, InOrder, same_cause, passed_over, none_left}
use Rattle.book.specs.Book.{Book}
use Rattle.book.proofs.ListLaws.{in_left, in_right, in_either, in_none, in_one, rises_same}
use Rattle.k2.specs.PairSets.{if_set, transpose, pair_word}
use Rattle.paths.specs.Expressions.{Expr, group, inverse}
use Rattle.paths.specs.Grammar.{Verdict, accepted, long, outside, large, verdict_cause}
use Rattle.paths.specs.Chains.{Graph, Has, Reply, chain, ChainIs, no_chain, first_chain, step_words}
use Rattle.paths.specs.Inside.{Inside}
use Rattle.paths.specs.Relations.{cells, pairs}
use Rattle.paths.proofs.RelationLaws.{cells_has}
use Rattle.paths.proofs.PairLaws.{pairs_are}
use Rattle.tables.specs.Builds.{in_sense}
use Rattle.rows.specs.Rows.{places}
use Rattle.ends.specs.Ends.{Exactly, EndsAre, StartsAre, ends, starts, joined_by, ends_causes}

-- ---- places
in_set : (v m y : ℕ) → In y (if_set v m) → (y ≡ m) × (1 ≤ v)
in_set zero m y h = absurd (in_none h refl)
in_set (suc v) m y h = (in_one h refl, omega arith)

set-in : (v m : ℕ) → 1 ≤ v → In m (if_set v m)
set-in zero m h = absurd (omega arith)
set-in (suc v) m h = here

pub in_places : {y : ℕ} (f : ℕ → ℕ) (m : ℕ) → In y (places f m) → (y < m) × (1 ≤ f y)
unfolding places
in_places f zero h = absurd (in_none h refl)
in_places {y} f (suc m) h = go (in_either (places f m) (if_set (f m) m) h) (in_places f m)
  where
    go : In y (places f m) ⊎ In y (if_set (f m) m) → (In y (places f m) → (y < m) × (1 ≤ f y)) → (y < suc m) × (1 ≤ f y)
    go (inl i) ih = let z = ih i in (omega (arith, z.0), z.1)
    go (inr i) ih = let z = in_set (f m) m y i in let e = z.0 in (omega arith, rw e z.1)

pub places_in : (f : ℕ → ℕ) (m y : ℕ) → y < m → 1 ≤ f y → In y (places f m)
unfolding places
places_in f zero y l h = absurd (omega arith)
places_in f (suc m) y l h = go (dec_lt y m) (places_in f m y)
  where
    go : Dec (y < m) → (y < m → 1 ≤ f y → In y (places f m)) → In y (places f m ++ if_set (f m) m)
    go (yes k) ih = in_left (if_set (f m) m) (ih k h)
    go (no k) ih = let e : y ≡ m = omega arith in in_right (places f m) (rw e (set-in (f m) m (rw e at h)))

rises_end : {k m : ℕ} (l : List ℕ) → Rises k l → ((w : ℕ) → In w l → w < m) → k ≤ m → Rises k (l ++ (m ∷ []))
rises_end [] r b h = rises h ended
rises_end (w ∷ l) (rises h r) b g = rises h (rises_end l r (λ v i. b v (there i)) (b w here))

pub places_rises : (f : ℕ → ℕ) (m : ℕ) → Rises 0 (places f m)
unfolding places
places_rises f zero = ended
places_rises f (suc m) = go (f m) (places_rises f m)
  where
    go : (v : ℕ) → Rises 0 (places f m) → Rises 0 (places f m ++ if_set v m)
    go zero r = rw (append-nil (places f m)) r
    go (suc v) r = rises_end (places f m) r (λ w i. (in_places f m i).0) (omega arith)

pub places_same : (f g : ℕ → ℕ) (m : ℕ) → ((y : ℕ) → y < m → 1 ≤ f y → 1 ≤ g y) → ((y : ℕ) → y < m → 1 ≤ g y → 1 ≤ f y) → places f m ≡ places g m
places_same f g m a b =
    rises_same (places f m) (places g m) (places_rises f m) (places_rises g m)
    (λ w i. let z = in_places f m i in places_in g m w z.0 (a w z.0 z.1))
    (λ w i. let z = in_places g m i in places_in f m w z.0 (b w z.0 z.1))

-- ---- the ends and the starts
module _ (g : Graph) (I : Inside g) (e : Expr) where
  pub ends_are : (x : ℕ) → EndsAre g e x (ends g e x)
  unfolding ends
  ends_are x = record {
    ascending = places_rises (λ y. cells g e x y) g.n;
    sound = λ y i. (cells_has g I e x y).0 (in_places (λ y. cells g e x y) g.n i).1;
    whole = λ y h. places_in (λ y. cells g e x y) g.n y (I.below y h.1.ends) ((cells_has g I e x y).1 h);
  }

  pub starts_are : (y : ℕ) → StartsAre g e y (starts g e y)
  unfolding starts
  starts_are y = record {
    ascending = places_rises (λ x. cells g e x y) g.n;
    sound = λ x i. (cells_has g I e x y).0 (in_places (λ x. cells g e x y) g.n i).1;
    whole = λ x h. places_in (λ x. cells g e x y) g.n x (I.below x h.1.begins) ((cells_has g I e x y).1 h);
  }

exactly_same : {P : ℕ → Type 0} {l m : List ℕ} → Exactly P l → Exactly P m → l ≡ m
exactly_same {P} {l} {m} p q = rises_same l m p.ascending q.ascending (λ y i. q.whole y (p.sound y i)) (λ y i. p.whole y (q.sound y i))

module _ (g : Graph) (I : Inside g) (e : Expr) where
  pub ends_only : (x : ℕ) (l : List ℕ) → EndsAre g e x l → l ≡ ends g e x
  ends_only x l p = exactly_same p (ends_are g I e x)

  pub starts_only : (y : ℕ) (l : List ℕ) → StartsAre g e y l → l ≡ starts g e y
  starts_only y l p = exactly_same p (starts_are g I e y)

-- ---- the other sense
pub starts_inverse : (g : Graph) (e : Expr) (y : ℕ) → ends g (inverse (group e)) y ≡ starts g e y
unfolding ends starts cells transpose
starts_inverse g e y = refl

pub joined_as : (against : Bool) (g : Graph) (e : Expr) (x : ℕ) → ends g (in_sense against e) x ≡ joined_by against g e x
unfolding ends starts joined_by cells transpose
joined_as false g e x = refl
joined_as true g e x = refl

-- ---- the pair question
module _ (g : Graph) (I : Inside g) (s : g.n ≤ 1024) (e : Expr) (x y : ℕ) where
  pair_has : In (pair_word x y) (pairs g e) → x < 1024 → y < 1024 → Has g e x y
  pair_has i hx hy =
      let z = (pairs_are g I s e).sound (pair_word x y) i in
      let u = I.below z.0 z.3.1.begins in
      let v = I.below z.1 z.3.1.ends in
      let p = z.2 in
      let a : x ≡ z.0 = omega arith in
      let b : y ≡ z.1 = omega arith in
      subst (λ (k : ℕ). Has g e k y) (sym a) (subst (λ (k : ℕ). Has g e z.0 k) (sym b) z.3)

  pub ends_row : x < 1024 → y < 1024 → In y (ends g e x) ↔ In (pair_word x y) (pairs g e)
  ends_row hx hy = (λ i. (pairs_are g I s e).whole x y ((ends_are g I e x).sound y i), λ i. (ends_are g I e x).whole y (pair_has i hx hy))

  pub starts_column : x < 1024 → y < 1024 → In x (starts g e y) ↔ In (pair_word x y) (pairs g e)
  starts_column hx hy = (λ i. (pairs_are g I s e).whole x y ((starts_are g I e y).sound x i), λ i. (starts_are g I e y).whole x (pair_has i hx hy))

-- ---- the chain question
has_chain : {g : Graph} {e : Expr} {x y : ℕ} {t : Reply} → ChainIs g e x y t → Has g e x y → (ws : List ℕ) × (t ≡ chain ws)
has_chain (no_chain n) h = absurd (n h.0 h.1)
has_chain (first_chain ss f) h = (step_words ss, refl)

chain_has : {g : Graph} {e : Expr} {x y : ℕ} {t : Reply} → ChainIs g e x y t → (ws : List ℕ) → t ≡ chain ws → Has g e x y
chain_has (no_chain n) ws q = absurd (let z : ◌≡◌ {A = ℕ} 0 1 = cc in omega arith)
chain_has (first_chain ss f) ws q = (ss, f.answers)

module _ (g : Graph) (I : Inside g) (e : Expr) (x y : ℕ) {t : Reply} (C : ChainIs g e x y t) where
  pub ends_chain : In y (ends g e x) → (ws : List ℕ) × (t ≡ chain ws)
  ends_chain i = has_chain C ((ends_are g I e x).sound y i)

  pub chain_ends : (ws : List ℕ) → t ≡ chain ws → In y (ends g e x)
  chain_ends ws q = (ends_are g I e x).whole y (chain_has C ws q)

  pub starts_chain : In x (starts g e y) → (ws : List ℕ) × (t ≡ chain ws)
  starts_chain i = has_chain C ((starts_are g I e y).sound x i)

  pub chain_starts : (ws : List ℕ) → t ≡ chain ws → In x (starts g e y)
  chain_starts ws q = (starts_are g I e y).whole x (chain_has C ws q)

-- ---- the order of causes
pub ends_in_order : (b : Book) (x : ℕ) (v : Verdict) → InOrder (ends_causes b x v) question_order
unfolding ends_causes verdict_cause question_order
ends_in_order b x (accepted e) = same_cause none_left
ends_in_order b x long = same_cause (same_cause none_left)
ends_in_order b x outside = same_cause (passed_over (same_cause none_left))
ends_in_order b x large = same_cause (passed_over (passed_over (same_cause none_left)))
