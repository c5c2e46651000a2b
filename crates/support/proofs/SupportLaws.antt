-- Laws of sole support: the computed answer is what the definition says, and nothing else is; the order of its causes.
--   some_in, in_some      some member of a list passes a test exactly if one does
--   in_chosen, chosen_in, chosen_rises, chosen_same
--                         the numbers below n that pass a test, ascending; tests that agree below n choose alike
--   orderly_rises, rises_orderly
--                         the computed test of order is `Rises`
--   without_inside        the graph without the core's links is as proper as the graph
--   reaches_held, held_reaches
--                         the computed test of a chain to some anchor is `Held`
--   fallen_are            fallen g e core anchors ascends, and its members are exactly the records that fall
--   fallen_only           no other list is so
--   core_never            the core is not among them
--   history_fallen        the computed answer is right for the book after every history
--   fallen_none           no anchors, no records
--   support_in_order      the causes stand in the order of S16.4
-- Assumes nothing.
use Rattle.std.specs.Prelude.{◌≡◌, refl, List, [], ◌∷◌, ◌++◌, Bool, true, false, not, ◌||◌, ◌&&◌, ℕ, zero, suc, ◌≤◌, ◌<◌, length, leb, ltb}
use Rattle.std.proofs.Common.{sym, ap, ap₂, ◌∙◌, subst, ⊎_elim, append-nil, arith}
use Rattle.std.proofs.lemmas.Bool.{false≢true}
use Rattle.std.proofs.Math.Bool.{true≢false}
use Rattle.std.proofs.Math.Dec.{eqb}
use borrow.Author.Tests.{eq-eqb, eqb-true, eqb-false, ne_eqb, le-leb, leb-true, not-true}
use Rattle.book.specs.Basics.{pick, In, here, there, Rises, ended, rises}
use Rattle.book.specs.Causes.{max_records}
use Rattle.book.specs.CauseOrders.{support_order, InOrder, same_cause}
use Rattle.book.specs.Book.{Link, Book, Call, fresh, after}
use Rattle.book.proofs.ListLaws.{in_left, in_right, in_either, in_none, in_one, rises_same}
use Rattle.book.proofs.SetLaws.{and_both, or-true}
use Rattle.paths.specs.Expressions.{Expr}
use Rattle.paths.specs.Grammar.{Verdict}
use Rattle.paths.specs.Chains.{Graph, asked}
use Rattle.paths.specs.Relations.{cells}
use Rattle.paths.specs.Inside.{Inside}
use Rattle.paths.proofs.RelationLaws.{cells_is}
use Rattle.paths.proofs.PairLaws.{history_inside, text_in_order}
use Rattle.register.specs.Parting.{touches}
use Rattle.support.specs.Support.{without, Held, Falls, FallenAre, some, chosen, reaches, falls, fallen, orderly, fallen_of}
use Rattle.support.specs.Support.{support_causes}
use Rattle.support.specs.SupportWork.{support_work}

-- ---- tests of members
pub some_in : (t : ℕ → Bool) (l : List ℕ) → some t l ≡ true → (x : ℕ) × In x l × (t x ≡ true)
unfolding some
some_in t [] e = absurd (false≢true e)
some_in t (x ∷ l) e = go (t x) refl e (some_in t l)
  where
    go : (u : Bool) → t x ≡ u → (u || some t l) ≡ true → (some t l ≡ true → (y : ℕ) × In y l × (t y ≡ true)) → (y : ℕ) × In y (x ∷ l) × (t y ≡ true)
    go true q e ih = (x, here, q)
    go false q e ih = let r = ih e in (r.0, there r.1, r.2)

pub in_some : (t : ℕ → Bool) {x : ℕ} (l : List ℕ) → In x l → t x ≡ true → some t l ≡ true
unfolding some
in_some t [] x3 e = elim x3 [ ]
in_some t (x ∷ l) here e = rw e
in_some t (y ∷ l) (there h) e = rw (in_some t l h e) (or-true (t y))

-- ---- the numbers that pass a test
pub in_chosen : (t : ℕ → Bool) (n : ℕ) {x : ℕ} → In x (chosen t n) → (x < n) × (t x ≡ true)
unfolding chosen
in_chosen t zero h = absurd (in_none h refl)
in_chosen t (suc n) {x} h = ⊎_elim
    (λ i. let r = in_chosen t n i in (omega (arith, r.0), r.1))
    (λ i. last (t n) refl i)
    (in_either (chosen t n) (pick (t n) (n ∷ []) []) h)
  where
    last : (u : Bool) → t n ≡ u → In x (pick u (n ∷ []) []) → (x < suc n) × (t x ≡ true)
    last true q i = let z : x ≡ n = in_one i refl in (omega arith, ap t z ∙ q)
    last false q i = absurd (in_none i refl)

pub chosen_in : (t : ℕ → Bool) (n : ℕ) (x : ℕ) → x < n → t x ≡ true → In x (chosen t n)
unfolding chosen
chosen_in t zero x h e = absurd (omega arith)
chosen_in t (suc n) x h e = go (eqb x n) refl (chosen_in t n x)
  where
    go : (u : Bool) → eqb x n ≡ u → (x < n → t x ≡ true → In x (chosen t n)) → In x (chosen t n ++ pick (t n) (n ∷ []) [])
    go true q ih =
        let z : x ≡ n = eqb-true x n q in
        in_right (chosen t n) (subst (λ (u : Bool). In x (pick u (n ∷ []) [])) (sym (ap t (sym z) ∙ e)) (subst (λ (y : ℕ). In x (y ∷ [])) z here))
    go false q ih = in_left (pick (t n) (n ∷ []) []) (ih (omega (arith, eqb-false x n q)) e)

-- a list below m, and m after it
rises_last : {k : ℕ} (m : ℕ) (l : List ℕ) → Rises k l → k ≤ m → ((x : ℕ) → In x l → x < m) → Rises k (l ++ (m ∷ []))
rises_last m [] r h b = rises h ended
rises_last m (w ∷ l) (rises g r) h b = rises g (rises_last m l r (b w here) (λ x i. b x (there i)))

pub chosen_rises : (t : ℕ → Bool) (n : ℕ) → Rises 0 (chosen t n)
unfolding chosen
chosen_rises t zero = ended
chosen_rises t (suc n) = go (t n) (chosen_rises t n)
  where
    go : (u : Bool) → Rises 0 (chosen t n) → Rises 0 (chosen t n ++ pick u (n ∷ []) [])
    go true r = rises_last n (chosen t n) r (omega arith) (λ x i. (in_chosen t n i).0)
    go false r = subst (λ (l : List ℕ). Rises 0 l) (sym (append-nil (chosen t n))) r

pub chosen_same : (t u : ℕ → Bool) (n : ℕ) → ((x : ℕ) → x < n → t x ≡ u x) → chosen t n ≡ chosen u n
unfolding chosen
chosen_same t u zero e = refl
chosen_same t u (suc n) e =
    ap₂ (λ (l : List ℕ) (b : Bool). l ++ pick b (n ∷ []) []) (chosen_same t u n (λ x h. e x (omega arith))) (e n (omega arith))

-- ---- anchors in order
pub orderly_rises : (m : ℕ) (l : List ℕ) → orderly m l ≡ true → Rises m l
unfolding orderly
orderly_rises m [] e = ended
orderly_rises m (x ∷ l) e = let h = and_both (leb m x) (orderly (suc x) l) e in rises (leb-true m x h.0) (orderly_rises (suc x) l h.1)

pub rises_orderly : {m : ℕ} {l : List ℕ} → Rises m l → orderly m l ≡ true
unfolding orderly
rises_orderly ended = refl
rises_orderly (rises {m} {w} h r) = rw (le-leb m w h, rises_orderly r)

-- ---- the graph without the core's links
was_present : (core : ℕ) (g : Graph) (k : Link) → (without core g).present k ≡ true → g.present k ≡ true
unfolding without
was_present core g k p = (and_both (g.present k) (not (touches core k)) p).0

pub without_inside : (core : ℕ) (g : Graph) → Inside g → Inside (without core g)
unfolding without
without_inside core g I = record {
  below = I.below;
  from = λ k p. I.from k (was_present core g k p);
  to = λ k p. I.to k (was_present core g k p);
  label = λ k p. I.label k (was_present core g k p);
}

-- ---- a chain to some anchor
module _ (g : Graph) (I : Inside g) (e : Expr) (anchors : List ℕ) (x : ℕ) where
  pub reaches_held : reaches (cells g e) anchors x ≡ true → Held g e anchors x
  unfolding reaches
  reaches_held h = let r = some_in (λ a. eqb (cells g e x a) 1) anchors h in (r.0, r.1, (cells_is g I e x r.0).0 (eqb-true _ _ r.2))

  pub held_reaches : Held g e anchors x → reaches (cells g e) anchors x ≡ true
  unfolding reaches
  held_reaches h = in_some (λ a. eqb (cells g e x a) 1) anchors h.1 (eq-eqb _ _ ((cells_is g I e x h.0).1 h.2))

-- ---- the records that fall
untrue : (t : Bool) → (t ≡ true → ⊥) → t ≡ false
untrue true h = absurd (h refl)
untrue false h = refl

module _ (g : Graph) (I : Inside g) (e : Expr) (core : ℕ) (anchors : List ℕ) where
  rest : Inside (without core g)
  rest = without_inside core g I

  computed_falls : (x : ℕ) → falls g e core anchors x ≡ true → Falls g e core anchors x
  unfolding falls
  computed_falls x h =
      let p = and_both (not (eqb x core)) _ h in
      let q = and_both (reaches (cells g e) anchors x) (not (reaches (cells (without core g) e) anchors x)) p.1 in
      record {
        other = λ z. true≢false (sym (eq-eqb x core z) ∙ not-true _ p.0);
        held = reaches_held g I e anchors x q.0;
        lost = λ h. true≢false (sym (held_reaches (without core g) rest e anchors x h) ∙ not-true _ q.1);
      }

  falls_computed : (x : ℕ) → Falls g e core anchors x → falls g e core anchors x ≡ true
  unfolding falls
  falls_computed x F =
      rw (
        ne_eqb x core F.other,
        held_reaches g I e anchors x F.held,
        untrue (reaches (cells (without core g) e) anchors x) (λ h. F.lost (reaches_held (without core g) rest e anchors x h)),
      )

  -- the theorem
  pub fallen_are : FallenAre g e core anchors (fallen g e core anchors)
  unfolding fallen
  fallen_are = record {
    ascending = chosen_rises (falls g e core anchors) g.n;
    same = λ x. (
      λ h. computed_falls x (in_chosen (falls g e core anchors) g.n h).1,
      λ F. chosen_in (falls g e core anchors) g.n x (I.below x F.held.2.1.begins) (falls_computed x F),
    );
  }

  pub fallen_only : (l : List ℕ) → FallenAre g e core anchors l → l ≡ fallen g e core anchors
  fallen_only l p =
      let q = fallen_are in
      rises_same l (fallen g e core anchors) p.ascending q.ascending (λ x h. (q.same x).1 ((p.same x).0 h)) (λ x h. (p.same x).1 ((q.same x).0 h))

  pub core_never : In core (fallen g e core anchors) → ⊥
  core_never h = ((fallen_are.same core).0 h).other refl

pub history_fallen : (n : ℕ) → n ≤ max_records → (cs : List Call) (e : Expr) (core : ℕ) (anchors : List ℕ)
    → FallenAre (asked (after (fresh n) cs)) e core anchors (fallen (asked (after (fresh n) cs)) e core anchors)
history_fallen n h cs e core anchors = fallen_are (asked (after (fresh n) cs)) (history_inside n h cs) e core anchors

pub fallen_none : (g : Graph) (e : Expr) (core : ℕ) → fallen g e core [] ≡ []
unfolding fallen falls reaches some chosen
fallen_none g e core = chosen_same _ (λ _. false) g.n (λ x h. nothing (not (eqb x core))) ∙ none g.n
  where
    nothing : (t : Bool) → (t && false) ≡ false
    nothing true = refl
    nothing false = refl

    none : (n : ℕ) → chosen (λ _. false) n ≡ []
    none zero = refl
    none (suc n) = ap (λ (l : List ℕ). l ++ []) (none n)

-- ---- the order of causes
pub support_in_order : (b : Book) (core : ℕ) (v : Verdict) (anchors : List ℕ) (work room : ℕ)
    → InOrder (support_causes b core v anchors work room) support_order
unfolding support_causes support_order
support_in_order b core v anchors work room =
    same_cause (same_cause (text_in_order v (ltb work (support_work b.n)) (ltb room (length (fallen_of b v core anchors)))))
