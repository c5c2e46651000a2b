-- Laws of chains and words, and the theorem that a pair is in the relation of an expression exactly if it has a chain.
--   inverse_inverse, backwards_append
--                  a letter inverted twice; joined words backwards
--   spell-append, chain_append, chain_split, chain_back, backwards_backwards, split_spelling
--                  chains joined, parted and gone backwards, and what they then spell
--   crossing_back, crossing_in, crossing_label, in_use_on
--                  a link crossed the other way is the same link, between records in use, with a letter; a chain leads from use to use
--   rel_in_use, rel_chain, chain_rel
--                  the relation's pairs are of records in use; it has exactly the pairs with a chain that spells a word
--   rel_has        Rel g e x y exactly if Has g e x y
-- Assumes nothing.
use Rattle.std.proofs.Math.Path.{◌≡◌, refl, ap, subst}
use Rattle.std.proofs.Common.{sym, ap₂, ◌∙◌, arith}
use Rattle.std.specs.Prelude.{◌↔◌, Bool, true, false, not, ℕ, ◌<◌}
use mathlib.Core.List.{List, [], ◌∷◌, ◌++◌, append_assoc, append-nil}
use Rattle.paths.specs.Expressions.{Letter, Symbol, stands_for, Expr, symbol, star, optional}
use Rattle.paths.specs.Words.{inverse_letter, backwards, Words, itself, inside, reversed, left, right, joined, once, again, star_none, star_some}
use Rattle.paths.specs.Words.{optional_none, optional_once}
use Rattle.paths.specs.Chains.{Graph, Step, crossing, Chain, stay, cross, spell, Has}
use Rattle.paths.specs.Relations.{Rel, link, inside as inside', swapped, left as left', right as right', joined as joined', once as once'}
use Rattle.paths.specs.Relations.{again as again', star_none as star-none', star_some as star-some', optional_none as optional-none'}
use Rattle.paths.specs.Relations.{optional_once as optional-once'}
use Rattle.paths.specs.Inside.{Inside}

-- ---- letters and words
not-not : (b : Bool) → not (not b) ≡ b
not-not true = refl
not-not false = refl

pub inverse_inverse : (a : Letter) → inverse_letter (inverse_letter a) ≡ a
inverse_inverse a = ap (λ (b : Bool). record { label = a.label; inverted = b }) (not-not a.inverted)

pub backwards_append : (v w : List Letter) → backwards (v ++ w) ≡ backwards w ++ backwards v
unfolding backwards
backwards_append [] w = sym (append-nil (backwards w))
backwards_append (a ∷ v) w =
    ap (λ (u : List Letter). u ++ (inverse_letter a ∷ [])) (backwards_append v w) ∙ append_assoc (backwards w) (backwards v) (inverse_letter a ∷ [])

pub backwards_backwards : (w : List Letter) → backwards (backwards w) ≡ w
unfolding backwards
backwards_backwards [] = refl
backwards_backwards (a ∷ w) =
    backwards_append (backwards w) (inverse_letter a ∷ []) ∙ ap₂ (λ (b : Letter) (v : List Letter). b ∷ v) (inverse_inverse a) (backwards_backwards w)

-- ---- what steps spell
pub spell-append : (ss ts : List Step) → spell (ss ++ ts) ≡ spell ss ++ spell ts
unfolding spell
spell-append [] ts = refl
spell-append (s ∷ ss) ts = ap (λ (w : List Letter). s.spelt ∷ w) (spell-append ss ts)

-- the two parts of steps that spell v ++ w
pub split_spelling : (v w : List Letter) (ss : List Step) → spell ss ≡ v ++ w → (s t : List Step) × (ss ≡ s ++ t) × (spell s ≡ v) × (spell t ≡ w)
unfolding spell
split_spelling [] w ss e = ([], ss, refl, refl, e)
split_spelling (a ∷ v) w [] e = absurd (let z : ◌≡◌ {A = ℕ} 0 1 = cc in omega arith)
split_spelling (a ∷ v) w (s ∷ ss) e =
    let h : spell ss ≡ v ++ w = cc in
    let k : s.spelt ≡ a = cc in
    let r = split_spelling v w ss h in
    (s ∷ r.0, r.1, ap (λ (l : List Step). s ∷ l) r.2, ap₂ (λ (b : Letter) (u : List Letter). b ∷ u) k r.3, r.4)

-- ---- chains
-- the step back over what s crossed, to x
abbrev pub step_back : ℕ → Step → Step
step_back x s = record { spelt = inverse_letter s.spelt; reached = x }

-- a link crossed the other way is the same link
pub crossing_back : (a : Letter) (x y : ℕ) → crossing (inverse_letter a) y x ≡ crossing a x y
crossing_back a x y = go a.inverted
  where
    go : (b : Bool) → crossing (record { label = a.label; inverted = not b }) y x ≡ crossing (record { label = a.label; inverted = b }) x y
    go true = refl
    go false = refl

module _ (g : Graph) where
  pub chain_append : {x z y : ℕ} {ss ts : List Step} → Chain g x ss z → Chain g z ts y → Chain g x (ss ++ ts) y
  chain_append stay d = d
  chain_append (cross p c) d = cross p (chain_append c d)

  pub chain_split : {x y : ℕ} (ss ts : List Step) → Chain g x (ss ++ ts) y → (z : ℕ) × Chain g x ss z × Chain g z ts y
  chain_split {x} [] ts c = (x, stay, c)
  chain_split (s ∷ ss) ts (cross p c) = let r = chain_split ss ts c in (r.0, cross p r.1, r.2)

  -- a chain back from y to x, that spells the word backwards
  pub chain_back : {x y : ℕ} {ss : List Step} → Chain g x ss y → (ts : List Step) × Chain g y ts x × (spell ts ≡ backwards (spell ss))
  unfolding spell backwards
  chain_back stay = ([], stay, refl)
  chain_back {x} (cross {s = s} p c) =
      let r = chain_back c in (
        r.0 ++ (step_back x s ∷ []),
        chain_append r.1 (cross (rw (crossing_back s.spelt x s.reached) p) stay),
        spell-append r.0 (step_back x s ∷ []) ∙ ap (λ (w : List Letter). w ++ (inverse_letter s.spelt ∷ [])) r.2,
      )

module _ (g : Graph) (I : Inside g) where
  pub crossing_in : (a : Letter) (x y : ℕ) → g.present (crossing a x y) ≡ true → (g.in_use x ≡ true) × (g.in_use y ≡ true)
  crossing_in a x y = go a.inverted
    where
      go : (b : Bool) → g.present (crossing (record { label = a.label; inverted = b }) x y) ≡ true → (g.in_use x ≡ true) × (g.in_use y ≡ true)
      go true p = (I.to _ p, I.from _ p)
      go false p = (I.from _ p, I.to _ p)

  pub crossing_label : (a : Letter) (x y : ℕ) → g.present (crossing a x y) ≡ true → a.label < 26
  crossing_label a x y = go a.inverted
    where
      go : (b : Bool) → g.present (crossing (record { label = a.label; inverted = b }) x y) ≡ true → a.label < 26
      go true p = I.label _ p
      go false p = I.label _ p

  pub in_use_on : {x y : ℕ} {ss : List Step} → Chain g x ss y → g.in_use x ≡ true → g.in_use y ≡ true
  in_use_on stay u = u
  in_use_on {x} (cross {s = s} p c) u = in_use_on c (crossing_in s.spelt x s.reached p).1

  -- the relation's pairs are of records in use
  pub rel_in_use : {e : Expr} {x y : ℕ} → Rel g e x y → (g.in_use x ≡ true) × (g.in_use y ≡ true)
  rel_in_use (link a {x} {y} h p) = crossing_in a x y p
  rel_in_use (inside' r) = rel_in_use r
  rel_in_use (swapped r) = let h = rel_in_use r in (h.1, h.0)
  rel_in_use (left' r) = rel_in_use r
  rel_in_use (right' r) = rel_in_use r
  rel_in_use (joined' r q) = ((rel_in_use r).0, (rel_in_use q).1)
  rel_in_use (once' r) = rel_in_use r
  rel_in_use (again' r q) = ((rel_in_use r).0, (rel_in_use q).1)
  rel_in_use (star-none' u) = (u, u)
  rel_in_use (star-some' r) = rel_in_use r
  rel_in_use (optional-none' u) = (u, u)
  rel_in_use (optional-once' r) = rel_in_use r

  -- ---- from the relation to a chain
  abbrev Spelt : Expr → ℕ → ℕ → Type 0
  Spelt e x y = (ss : List Step) × Chain g x ss y × Words e (spell ss)

  one_step : {s : Symbol} (a : Letter) {x y : ℕ} → stands_for s a ≡ true → g.present (crossing a x y) ≡ true → Spelt (symbol s) x y
  unfolding spell
  one_step a {x} {y} h p = (record { spelt = a; reached = y } ∷ [], cross p stay, itself h)

  no_step : {e : Expr} (x : ℕ) → Words e [] → Spelt e x x
  unfolding spell
  no_step x w = ([], stay, w)

  pub rel_chain : {e : Expr} {x y : ℕ} → Rel g e x y → Spelt e x y
  rel_chain (link a h p) = one_step a h p
  rel_chain (inside' r) = let c = rel_chain r in (c.0, c.1, inside c.2)
  rel_chain (swapped r) = let c = rel_chain r in let d = chain_back g c.1 in (d.0, d.1, rw d.2 (reversed c.2))
  rel_chain (left' r) = let c = rel_chain r in (c.0, c.1, left c.2)
  rel_chain (right' r) = let c = rel_chain r in (c.0, c.1, right c.2)
  rel_chain (joined' r q) =
      let c = rel_chain r in
      let d = rel_chain q in
      (c.0 ++ d.0, chain_append g c.1 d.1, rw (spell-append c.0 d.0) (joined c.2 d.2))
  rel_chain (once' r) = let c = rel_chain r in (c.0, c.1, once c.2)
  rel_chain (again' r q) =
      let c = rel_chain r in
      let d = rel_chain q in
      (c.0 ++ d.0, chain_append g c.1 d.1, rw (spell-append c.0 d.0) (again c.2 d.2))
  rel_chain (star-none' {x = x} u) = no_step x star_none
  rel_chain (star-some' r) = let c = rel_chain r in (c.0, c.1, star_some c.2)
  rel_chain (optional-none' {x = x} u) = no_step x optional_none
  rel_chain (optional-once' r) = let c = rel_chain r in (c.0, c.1, optional_once c.2)

  -- ---- from a chain to the relation
  empty : {x y : ℕ} (ss : List Step) → spell ss ≡ [] → Chain g x ss y → x ≡ y
  unfolding spell
  empty [] e stay = refl
  empty (s ∷ ss) e c = absurd (let z : ◌≡◌ {A = ℕ} 0 1 = cc in omega arith)

  single : (a : Letter) (x y : ℕ) (ss : List Step) → spell ss ≡ a ∷ [] → Chain g x ss y → g.present (crossing a x y) ≡ true
  unfolding spell
  single a x y [] e c = absurd (let z : ◌≡◌ {A = ℕ} 0 1 = cc in omega arith)
  single a x y (s ∷ ss) e (cross p c) =
      let h : spell ss ≡ [] = cc in
      let j : s.spelt ≡ a = cc in
      subst (λ (b : Letter). g.present (crossing b x y) ≡ true) j (subst (λ (z : ℕ). g.present (crossing s.spelt x z) ≡ true) (empty ss h c) p)

  pub chain_rel : {e : Expr} {w : List Letter} → Words e w → {x y : ℕ} (ss : List Step) → spell ss ≡ w → g.in_use x ≡ true → Chain g x ss y → Rel g e x y
  chain_rel (itself {a = a} h) {x} {y} ss e u c = link a h (single a x y ss e c)
  chain_rel (inside w) ss e u c = inside' (chain_rel w ss e u c)
  chain_rel (reversed {w = v} w) ss e u c =
      let d = chain_back g c in
      swapped (chain_rel w d.0 (d.2 ∙ ap backwards e ∙ backwards_backwards v) (in_use_on c u) d.1)
  chain_rel (left w) ss e u c = left' (chain_rel w ss e u c)
  chain_rel (right w) ss e u c = right' (chain_rel w ss e u c)
  chain_rel (joined {v = v} {w = w} p q) ss e u c =
      let r = split_spelling v w ss e in
      let d = chain_split g r.0 r.1 (rw r.2 at c) in
      joined' (chain_rel p r.0 r.3 u d.1) (chain_rel q r.1 r.4 (in_use_on d.1 u) d.2)
  chain_rel (once w) ss e u c = once' (chain_rel w ss e u c)
  chain_rel (again {v = v} {w = w} p q) ss e u c =
      let r = split_spelling v w ss e in
      let d = chain_split g r.0 r.1 (rw r.2 at c) in
      again' (chain_rel p r.0 r.3 u d.1) (chain_rel q r.1 r.4 (in_use_on d.1 u) d.2)
  chain_rel (star_none {e = f}) {x} {y} ss e u c = subst (λ (z : ℕ). Rel g (star f) x z) (empty ss e c) (star-none' u)
  chain_rel (star_some w) ss e u c = star-some' (chain_rel w ss e u c)
  chain_rel (optional_none {e = f}) {x} {y} ss e u c = subst (λ (z : ℕ). Rel g (optional f) x z) (empty ss e c) (optional-none' u)
  chain_rel (optional_once w) ss e u c = optional-once' (chain_rel w ss e u c)

  -- the theorem
  pub rel_has : (e : Expr) (x y : ℕ) → Rel g e x y ↔ Has g e x y
  rel_has e x y = (
    (λ r. let c = rel_chain r in let u = rel_in_use r in (c.0, record { begins = u.0; ends = u.1; chain = c.1; spells = c.2 })),
    (λ h. chain_rel h.1.spells h.0 refl h.1.begins h.1.chain),
  )
