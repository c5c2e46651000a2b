-- From the words of the links that are kept to the book's graph.
--   top_longest    the longest run of the words is the longest of the graph
--   Stepped x y    steps over these links from x to y, one or more
--   leads_returns  a record that leads to itself by the words returns to itself in the graph
--   links_set      the pairs of the words are a set of pairs below n
--   closed_returns, returns_closed
--                  the closure of these pairs joins a record to itself exactly if it returns
-- Assumes nothing.
use mathlib.Core.Path.{◌≡◌, refl, sym, ap, ◌∙◌, subst}
use mathlib.Core.Logic.{◌⊎◌, inl, inr, ⊎_elim}
use mathlib.Core.List.{List, [], ◌∷◌}
use mathlib.Core.Bool.{Bool, true, false}
use Prim.Native.Nat.{ℕ, ◌/◌, ◌%◌, ◌<◌, ◌≤◌}
use native.Mathlib.Omega.{arith}
use lib.Dec.{eqb}
use lib.ListN.{length, get_or}
use borrow.Author.Tests.{eq-eqb, eqb-true}
use Rattle.book.specs.Basics.{pick, bit, has, In, here, there, All, all_none, all_more}
use Rattle.book.specs.Book.{Link, Book, present}
use Rattle.book.specs.Sheets.{Fit}
use Rattle.book.proofs.ListLaws.{in_none, in_front, at_in, in_at}
use Rattle.k2.specs.Bits.{digit}
use Rattle.k2.specs.DigitLaws.{digit_none}
use Rattle.k2.specs.PairSets.{Cells, IsSet, OneOrMore, once as once-pair, more as more-pairs}
use Rattle.k2.specs.PairSetLaws.{on_bit, bit_on, closure_leads, leads_closure}
use Rattle.paths.specs.Expressions.{Letter}
use Rattle.paths.specs.Chains.{asked, Step, Chain, stay, cross}
use Rattle.paths.specs.Inside.{Inside}
use Rattle.paths.proofs.PairLaws.{fit_inside}
use Rattle.paths.specs.Relations.{crossed_by}
use Rattle.paths.proofs.RelationLaws.{crossed_is, is_crossed, crossed_set}
use Rattle.reader.specs.Letters.{letters_in}
use Rattle.links.specs.Links.{link_word, Linked}
use Rattle.links.specs.Parts.{link_of}
use Rattle.links.specs.LinkLaws.{link_of_word}
use Rattle.rows.specs.RowSets.{labelled, crossed_words}
use Rattle.query.proofs.LetterLaws.{letters_crossed}
use Rattle.arcs.specs.Arcs.{arc_from, arc_to}
use Rattle.generations.specs.Generations.{Run, stop as stop-run, on as on-run, Longest, Over, Returns}
use Rattle.generations.specs.GenerationsLaws.{forward_link}
use Rattle.generations.specs.Inner.{Contains, Arc, Ran, stop, on, Top, Leads, once, more, Closed}

-- ---- the words that are kept
labelled_in : (m : ℕ) (ws : List ℕ) (w : ℕ) → In w (labelled m ws) → In w ws × (digit m (w / 1048576) ≡ 1)
unfolding labelled
labelled_in m [] w i = absurd (in_none i refl)
labelled_in m (v ∷ ws) w i = go (eqb (digit m (v / 1048576)) 1) refl i (labelled_in m ws w)
  where
    go : (t : Bool) → eqb (digit m (v / 1048576)) 1 ≡ t → In w (pick t (v ∷ labelled m ws) (labelled m ws))
        → (In w (labelled m ws) → In w ws × (digit m (w / 1048576) ≡ 1)) → In w (v ∷ ws) × (digit m (w / 1048576) ≡ 1)
    go true e j f = ⊎_elim
        (λ (q : w ≡ v). (subst (λ (u : ℕ). In u (v ∷ ws)) (sym q) here, ap (λ (u : ℕ). digit m (u / 1048576)) q ∙ eqb-true (digit m (v / 1048576)) 1 e))
        (λ k. let z = f k in (there z.0, z.1)) (in_front j refl)
    go false e j f = let z = f j in (there z.0, z.1)

in_labelled : (m : ℕ) (ws : List ℕ) (w : ℕ) → In w ws → digit m (w / 1048576) ≡ 1 → In w (labelled m ws)
unfolding labelled
in_labelled m [] w x'' d = elim x'' [ ]
in_labelled m (v ∷ ws) w here d = rw (eq-eqb (digit m (w / 1048576)) 1 d) here
in_labelled m (v ∷ ws) w (there i) d = go (eqb (digit m (v / 1048576)) 1) (in_labelled m ws w i d)
  where
    go : (t : Bool) → In w (labelled m ws) → In w (pick t (v ∷ labelled m ws) (labelled m ws))
    go true j = there j
    go false j = j

-- ---- a book's links
module _ (b : Book) (F : Fit b.n b.sheet) (small : b.n ≤ 1024) (ws : List ℕ) (L : Linked ws b.sheet) (m : ℕ) (ls : List ℕ) (C : Contains m ls) where
  -- an arc is a link of the labels
  abbrev Joins : ℕ → ℕ → Type 0
  Joins x y = (l : ℕ) × (has eqb l ls ≡ true) × ((asked b).present (record { from = x; label = l; to = y }) ≡ true)

  arc_link : {x y : ℕ} → Arc (labelled m ws) x y → Joins x y
  unfolding asked arc_from arc_to
  arc_link {x} {y} a =
      let w : ℕ = get_or (labelled m ws) a.0 0 in
      let i = labelled_in m ws w (at_in (labelled m ws) a.0 0 a.1) in
      let s = L.sound w i.0 in
      let k : Link = s.0 in
      let f = F.links k s.2 in
      let e : link_of w ≡ k = ap link_of s.1 ∙ link_of_word k (omega (arith, f.from)) (omega (arith, f.to)) in
      let l : w / 1048576 ≡ k.label = ap (λ (q : Link). q.label) e in
      let fx : k.from ≡ x = sym (ap (λ (q : Link). q.from) e) ∙ a.2 in
      let ty : k.to ≡ y = sym (ap (λ (q : Link). q.to) e) ∙ a.3 in
      let d : digit m k.label ≡ 1 = ap (digit m) (sym l) ∙ i.1 in (
        k.label,
        bit_on (has eqb k.label ls) (let z = C k.label in omega arith),
        subst (λ (v : ℕ). present b.sheet (record { from = x; label = k.label; to = v }) ≡ true) ty
            (subst (λ (v : ℕ). present b.sheet (record { from = v; label = k.label; to = k.to }) ≡ true) fx s.2),
      )

  link_arc : {x y : ℕ} → Joins x y → Arc (labelled m ws) x y
  unfolding asked arc_from arc_to
  link_arc {x} {y} j =
      let k : Link = record { from = x; label = j.0; to = y } in
      let f = F.links k j.2 in
      let e : link_of (link_word k) ≡ k = link_of_word k (omega (arith, f.from)) (omega (arith, f.to)) in
      let d : digit m (link_word k / 1048576) ≡ 1 = ap (digit m) (ap (λ (q : Link). q.label) e) ∙ C j.0 ∙ on_bit (has eqb j.0 ls) j.1 in
      let p = in_at 0 (in_labelled m ws (link_word k) (L.whole k j.2) d) in
      (p.0, p.1, ap (λ (w : ℕ). w / 1024 % 1024) p.2 ∙ ap (λ (q : Link). q.from) e, ap (λ (w : ℕ). w % 1024) p.2 ∙ ap (λ (q : Link). q.to) e)

  -- ---- runs
  ran_run : {k y : ℕ} → Ran (labelled m ws) k y → Run (asked b) ls k y
  ran_run stop = stop-run
  ran_run (on a r) = let j = arc_link a in on-run j.1 j.2 (ran_run r)

  run_ran : {k y : ℕ} → Run (asked b) ls k y → Ran (labelled m ws) k y
  run_ran stop-run = stop
  run_ran (on-run {l = l} h p r) = on (link_arc (l, h, p)) (run_ran r)

  pub top_longest : {y k : ℕ} → Top (labelled m ws) y k → Longest (asked b) ls y k
  top_longest t = record { run = ran_run t.run; most = λ k r. t.most k (run_ran r) }

  -- ---- loops
  -- steps over these links from x to y, one or more
  record Stepped (x y : ℕ) : Type 0 where
    steps : List Step
    some : 0 < length steps
    over : All (Over ls) steps
    chain : Chain (asked b) x steps y

  one_step : {x y : ℕ} → Joins x y → Stepped x y
  one_step {x} {y} j = record {
    steps = record { spelt = record { label = j.0; inverted = false }; reached = y } ∷ [];
    some = omega arith;
    over = all_more (record { forward = refl; listed = j.1 }) all_none;
    chain = cross j.2 stay;
  }

  step_on : {x z y : ℕ} → Joins x z → Stepped z y → Stepped x y
  step_on {x} {z} {y} j s = record {
    steps = record { spelt = record { label = j.0; inverted = false }; reached = z } ∷ s.steps;
    some = omega arith;
    over = all_more (record { forward = refl; listed = j.1 }) s.over;
    chain = cross j.2 s.chain;
  }

  stepped_returns : {x : ℕ} → Stepped x x → Returns (asked b) ls x
  stepped_returns s = (s.steps, record { some = s.some; steps = s.over; chain = s.chain })

  leads_stepped : {x y : ℕ} → Leads (labelled m ws) x y → Stepped x y
  leads_stepped (once a) = one_step (arc_link a)
  leads_stepped (more a l) = step_on (arc_link a) (leads_stepped l)

  pub leads_returns : {x : ℕ} → Leads (labelled m ws) x x → Returns (asked b) ls x
  leads_returns l = stepped_returns (leads_stepped l)

  -- ---- the closure
  I : Inside (asked b)
  I = fit_inside b F

  crossed_links : crossed_words ws m 0 ≡ crossed_by (asked b) (letters_in m 0)
  crossed_links =
      letters_crossed b b.n ws (λ x. bit ((asked b).in_use x)) (record { size = refl; small = small; fit = F; linked = L; in_use = refl }) m 0

  pub links_set : IsSet b.n (crossed_words ws m 0)
  unfolding asked
  links_set = subst (λ (a : Cells). IsSet b.n a) (sym crossed_links) (crossed_set (asked b) (letters_in m 0) I)

  letter_plain : (a : Letter) → letters_in m 0 a ≡ true → (a.inverted ≡ false) × (digit m a.label ≡ 1)
  unfolding letters_in
  letter_plain a e = go a.inverted refl
    where
      go : (t : Bool) → a.inverted ≡ t → (a.inverted ≡ false) × (digit m a.label ≡ 1)
      go true q = absurd (let z : digit 0 a.label ≡ 1 = eqb-true (digit 0 a.label) 1 (rw q at e) in let y = digit_none a.label in omega arith)
      go false q = (q, eqb-true (digit m a.label) 1 (rw q at e))

  pair_joins : (x y : ℕ) → crossed_words ws m 0 x y ≡ 1 → Joins x y
  pair_joins x y e =
      let f : crossed_by (asked b) (letters_in m 0) x y ≡ 1 = sym (ap (λ (a : Cells). a x y) crossed_links) ∙ e in
      let r = crossed_is (asked b) (letters_in m 0) x y (omega arith) in
      let p = letter_plain r.0 r.1 in
      let h : has eqb r.0.label ls ≡ true = bit_on (has eqb r.0.label ls) (let z = C r.0.label in omega (arith, p.1)) in (
        r.0.label,
        h,
        subst (λ (t : Bool). (asked b).present (pick t (record { from = y; label = r.0.label; to = x }) (record { from = x; label = r.0.label; to = y }))
            ≡ true) p.0 r.2,
      )

  joins_pair : (x y : ℕ) → Joins x y → crossed_words ws m 0 x y ≡ 1
  unfolding letters_in
  joins_pair x y j =
      ap (λ (a : Cells). a x y) crossed_links
      ∙ is_crossed (asked b) (letters_in m 0) I (record { label = j.0; inverted = false })
      x y (eq-eqb (digit m j.0) 1 (C j.0 ∙ on_bit (has eqb j.0 ls) j.1)) j.2

  pairs_stepped : {x y : ℕ} → OneOrMore (crossed_words ws m 0) x y → Stepped x y
  pairs_stepped {x} {y} (once-pair e) = one_step (pair_joins x y e)
  pairs_stepped {x} (more-pairs {z = z} e p) = step_on (pair_joins x z e) (pairs_stepped p)

  -- steps that end at x, or lead on
  stepped_pairs : {x y : ℕ} {ss : List Step} → Chain (asked b) x ss y → All (Over ls) ss → ((x ≡ y) × (length ss ≡ 0)) ⊎ OneOrMore (crossed_words ws m 0) x y
  stepped_pairs stay all_none = inl (refl, refl)
  stepped_pairs {x} {y} (cross {s = s} p c) (all_more o a) =
      let e = joins_pair x s.reached (s.spelt.label, o.listed, forward_link (asked b) s x o p) in
      inr (⊎_elim (λ w. once-pair (subst (λ (z : ℕ). crossed_words ws m 0 x z ≡ 1) w.0 e)) (λ r. more-pairs e r) (stepped_pairs c a))

  pub closed_returns : (x : ℕ) → Closed b.n (crossed_words ws m 0) x → Returns (asked b) ls x
  closed_returns x c = stepped_returns (pairs_stepped (closure_leads b.n (crossed_words ws m 0) links_set b.n x x c))

  pub returns_closed : (x : ℕ) → Returns (asked b) ls x → Closed b.n (crossed_words ws m 0) x
  returns_closed x r =
      leads_closure b.n (crossed_words ws m 0) links_set
      (⊎_elim (λ w. absurd (omega (arith, r.1.some, w.1))) (λ p. p) (stepped_pairs r.1.chain r.1.steps))
