-- Laws of what the questions are given.
--   label-part     the part of words between two places: of ascending words, those of a label
-- Assumes nothing.
use mathlib.Core.Path.{◌≡◌, refl, ap, sym, subst, ◌∙◌}
use mathlib.Core.Logic.{⊎_elim}
use mathlib.Core.List.{List, [], ◌∷◌, map}
use mathlib.Core.Bool.{Bool, true, false}
use Prim.Native.Nat.{ℕ, suc, ◌+◌, ◌*◌, ◌-◌, ◌/◌, ◌%◌, ◌≤◌, ◌<◌}
use native.Mathlib.Omega.{arith}
use lib.Dec.{ltb, eqb}
use lib.ListN.{length, take, drop}
use borrow.Author.Tests.{ltb-true, ltb-false, eqb-true, eq-eqb, ne_eqb}
use Rattle.book.specs.Basics.{pick, In, here, there, Rises, ended, rises}
use Rattle.book.specs.Causes.{max_records}
use Rattle.book.specs.Book.{Sheet, present}
use Rattle.book.proofs.ListLaws.{in_front, in_none, map_in, in_map, rises_from}
use Rattle.book.specs.Sheets.{Fit}
use Rattle.links.specs.Links.{link_word, Linked}
use Rattle.links.specs.Parts.{link_pair}
use Rattle.links.specs.Ascending.{Seam}
use Rattle.links.specs.Lookups.{PairsOf, of_label, LabelPart}
use Rattle.links.specs.AscendingLaws.{below, seam_list}

-- ---- the part between two numbers
rises_drop : {m : ℕ} (a : ℕ) {l : List ℕ} → Rises m l → Rises a (drop (below a l) l)
unfolding below
rises_drop a ended = ended
rises_drop a (rises {w = y} {l = ys} h r) = go (ltb y a) refl (rises_drop a r)
  where
    go : (t : Bool) → ltb y a ≡ t → Rises a (drop (below a ys) ys) → Rises a (drop (pick t (suc (below a ys)) 0) (y ∷ ys))
    go true e ih = ih
    go false e ih = rises (ltb-false y a e) r

-- ---- the words of a label
of_label_none : {m : ℕ} (l : ℕ) {ws : List ℕ} → Rises m ws → l * 1048576 + 1048576 ≤ m → of_label l ws ≡ []
unfolding of_label
of_label_none l ended h = refl
of_label_none l (rises {w = y} g r) h =
    let z : (y / 1048576 ≡ l → ⊥) = λ e. omega (arith, g, h) in
    rw (ne_eqb (y / 1048576) l z) (of_label_none l r (omega (arith, g)))

-- the words before its first have another label
of_label_drop : {m : ℕ} (l : ℕ) {ws : List ℕ} → Rises m ws → of_label l (drop (below (l * 1048576) ws) ws) ≡ of_label l ws
unfolding below of_label
of_label_drop l ended = refl
of_label_drop l (rises {w = y} {l = ys} g r) = go (ltb y (l * 1048576)) refl (of_label_drop l r)
  where
    go : (t : Bool) → ltb y (l * 1048576) ≡ t → of_label l (drop (below (l * 1048576) ys) ys) ≡ of_label l ys
        → of_label l (drop (pick t (suc (below (l * 1048576) ys)) 0) (y ∷ ys)) ≡ pick (eqb (y / 1048576) l) (y ∷ of_label l ys) (of_label l ys)
    go true e ih = let z : (y / 1048576 ≡ l → ⊥) = λ q. omega (arith, ltb-true y (l * 1048576) e) in rw (ne_eqb (y / 1048576) l z) ih
    go false e ih = refl

-- from its first on, those up to the next label's first have it, and no other
of_label_take : {m : ℕ} (l : ℕ) {ws : List ℕ} → Rises m ws → l * 1048576 ≤ m → take (below (l * 1048576 + 1048576) ws) ws ≡ of_label l ws
unfolding below of_label
of_label_take l ended h = refl
of_label_take l (rises {w = y} {l = ys} g r) h = go (ltb y (l * 1048576 + 1048576)) refl (of_label_take l r (omega (arith, g, h)))
  where
    go : (t : Bool) → ltb y (l * 1048576 + 1048576) ≡ t → take (below (l * 1048576 + 1048576) ys) ys ≡ of_label l ys
        → take (pick t (suc (below (l * 1048576 + 1048576) ys)) 0) (y ∷ ys) ≡ pick (eqb (y / 1048576) l) (y ∷ of_label l ys) (of_label l ys)
    go true e ih =
        let z : y / 1048576 ≡ l = omega (arith, g, h, ltb-true y (l * 1048576 + 1048576) e) in
        rw (eq-eqb (y / 1048576) l z) (ap (λ (t : List ℕ). y ∷ t) ih)
    go false e ih =
        let f : l * 1048576 + 1048576 ≤ y = ltb-false y (l * 1048576 + 1048576) e in
        let z : (y / 1048576 ≡ l → ⊥) = λ q. omega (arith, f) in
        rw (ne_eqb (y / 1048576) l z) (sym (of_label_none l r (omega (arith, f))))

of_label_rises : {m : ℕ} (l : ℕ) {ws : List ℕ} → Rises m ws → Rises m (of_label l ws)
unfolding of_label
of_label_rises l ended = ended
of_label_rises {m} l (rises {w = y} {l = ys} g r) = go (eqb (y / 1048576) l) (of_label_rises l r)
  where
    go : (t : Bool) → Rises (suc y) (of_label l ys) → Rises m (pick t (y ∷ of_label l ys) (of_label l ys))
    go true ih = rises g ih
    go false ih = rises_from (omega arith) ih

of_label_in : {w : ℕ} (l : ℕ) (ws : List ℕ) → In w (of_label l ws) → In w ws × (w / 1048576 ≡ l)
unfolding of_label
of_label_in l [] h = absurd (in_none h refl)
of_label_in {w} l (y ∷ ys) h = go (eqb (y / 1048576) l) refl h (of_label_in l ys)
  where
    go : (t : Bool) → eqb (y / 1048576) l ≡ t → In w (pick t (y ∷ of_label l ys) (of_label l ys))
        → (In w (of_label l ys) → In w ys × (w / 1048576 ≡ l)) → In w (y ∷ ys) × (w / 1048576 ≡ l)
    go true e h ih =
        ⊎_elim
        (λ q. (subst (λ (v : ℕ). In v (y ∷ ys)) (sym q) here, ap (λ (v : ℕ). v / 1048576) q ∙ eqb-true (y / 1048576) l e))
        (λ i. let r = ih i in (there r.0, r.1))
        (in_front h refl)
    go false e h ih = let r = ih h in (there r.0, r.1)

in_of_label : {w : ℕ} (l : ℕ) {ws : List ℕ} → In w ws → w / 1048576 ≡ l → In w (of_label l ws)
unfolding of_label
in_of_label {w} l (here {l = ys}) e = rw (eq-eqb (w / 1048576) l e) here
in_of_label {w} l (there {v = y} {l = ys} h) e = go (eqb (y / 1048576) l) (in_of_label l h e)
  where
    go : (t : Bool) → In w (of_label l ys) → In w (pick t (y ∷ of_label l ys) (of_label l ys))
    go true i = there i
    go false i = i

rises-pairs : {m : ℕ} (label : ℕ) {l : List ℕ} → Rises m l → label * 1048576 ≤ m
    → ((w : ℕ) → In w l → w < label * 1048576 + 1048576) → Rises (m - label * 1048576) (map link_pair l)
unfolding link_pair
rises-pairs label ended h f = ended
rises-pairs {m} label (rises {w = w} {l = l} g r) h f =
    let p = f w here in
    let q : w % 1048576 ≡ w - label * 1048576 = omega arith in
    let t : suc w - label * 1048576 ≡ suc (w % 1048576) = omega arith in
    rises {m = m - label * 1048576} {w = w % 1048576} (omega arith)
    (subst (λ (v : ℕ). Rises v (map link_pair l)) t (rises-pairs label r (omega arith) (λ v i. f v (there i))))

-- the part between the places of a label's first word and of the next label's
part_words : (ws : List ℕ) (label i k : ℕ) → Seam (label * 1048576) ws (length ws) i
    → Seam (label * 1048576 + 1048576) (drop i ws) (length (drop i ws)) k → Rises 0 ws → take k (drop i ws) ≡ of_label label ws
part_words ws label i k first second up =
    let e = seam_list (label * 1048576) ws i up first in
    let r : Rises (label * 1048576) (drop i ws) = rw e (rises_drop (label * 1048576) up) in
    ap (λ (m : ℕ). take m (drop i ws)) (seam_list _ (drop i ws) k r second) ∙ of_label_take label r (omega arith)
    ∙ ap (λ (m : ℕ). of_label label (drop m ws)) e ∙ of_label_drop label up

-- the pairs of the words of a label are those of its links
module _ (ws : List ℕ) (label : ℕ) {n : ℕ} (small : n ≤ max_records) {s : Sheet} (fit : Fit n s) (linked : Linked ws s) where
  label_pairs : PairsOf s label (map link_pair (of_label label ws))
  unfolding link_pair
  label_pairs = record {
    ascending =
        let e : label * 1048576 - label * 1048576 ≡ 0 = omega arith in
        let r : Rises (label * 1048576) (of_label label ws) =
        subst (Rises (label * 1048576)) (of_label_drop label linked.ascending)
        (of_label_rises label (rises_drop (label * 1048576) linked.ascending)) in
        rw e at (rises-pairs label r (omega arith) (λ w h. let q = (of_label_in label ws h).1 in omega arith));
    sound = λ _ h.
        let r = in_map link_pair (of_label label ws) h in
        let q = of_label_in label ws r.1 in
        let o = linked.sound r.0 q.0 in
        let p = fit.links o.0 o.2 in
        let l : o.0.label ≡ label = omega (arith, o.1, q.1, p.from, p.to) in
        let v : r.0 % 1048576 ≡ o.0.from * 1024 + o.0.to = omega (arith, o.1, p.from, p.to) in
        (o.0.from, o.0.to, r.2 ∙ v, subst (λ (m : ℕ). present s (record { from = o.0.from; label = m; to = o.0.to }) ≡ true) l o.2);
    whole = λ x y e.
        let p = fit.links _ e in
        let w : ℕ = link_word (record { from = x; label = label; to = y }) in
        let v : w % 1048576 ≡ x * 1024 + y = omega (arith, p.from, p.to) in
        subst (λ (u : ℕ). In u (map link_pair (of_label label ws))) v (map_in link_pair (in_of_label label (linked.whole _ e) (omega (arith, p.from, p.to))));
  }

pub label-part : (ws rest : List ℕ) (label i k : ℕ) → rest ≡ drop i ws
    → Seam (label * 1048576) ws (length ws) i → Seam (label * 1048576 + 1048576) rest (length rest) k →
    LabelPart ws label (take k rest)
label-part ws rest label i k e first second =
    let f : Rises 0 ws → take k (drop i ws) ≡ of_label label ws = part_words ws label i k first (rw e at second) in
    rw e (record {
      inside = (i, k, refl);
      words = f;
      pairs = λ n s small fit linked.
          subst (λ (ps : List ℕ). PairsOf s label (map link_pair ps)) (sym (f linked.ascending)) (label_pairs ws label small fit linked);
    })
