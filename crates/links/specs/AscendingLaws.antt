-- Laws of ascending lists: the place of a number, one put in and one taken out.
--   below x l      how many of the first numbers of l are below x
--   rises_absent   a number below the first is absent
--   seam_list, seam_has, stands_below
--                  among ascending numbers there is one place for x, and x is there exactly if it stands at it
--   seam_insert, length-insert, insert_in, insert_keeps, in_insert, rises_insert
--                  x put at the place found for it: one member more, and the list ascends
--   rises_without, seam_without, length_out
--                  x cut where it stands: one member fewer, and the list ascends
--   without_insert, insert_without
--                  one put in and taken out, and the other way round
-- Assumes nothing.
use Rattle.std.specs.Prelude.{◌≡◌, refl, ◌⊎◌, List, [], ◌∷◌, Bool, true, false, ◌||◌, ◌&&◌, ℕ, zero, suc, ◌+◌, ◌-◌, ◌≤◌, ◌<◌, ltb, eqb, length, take, get_or}
use Rattle.std.proofs.Common.{ap, sym, subst, ◌∙◌, inl, inr, ⊎_elim, true≢false, arith, length-take-le, get_or-take, lt-ltb, le-ltb, ltb-true, ltb-false}
use Rattle.std.proofs.Common.{eq-eqb, eqb-true}
use Rattle.std.proofs.lemmas.Bool.{false≢true, eqb-false}
use Rattle.std.proofs.Math.Dec.{leb-suc-suc}
use Rattle.book.specs.Basics.{pick, In, here, there, has, without, Rises, ended, rises}
use Rattle.book.proofs.ListLaws.{rises_least, rises_from, in_front}
use Rattle.book.proofs.SetLaws.{eqb_test, and_both, has_in, without_absent}
use Rattle.links.specs.Ascending.{insert, put_at, cut_at, Seam, stands_at}

-- how many of the first numbers are below x
unfoldable pub below : ℕ → List ℕ → ℕ
below x [] = 0
below x (y ∷ ys) = pick (ltb y x) (suc (below x ys)) 0

rises_at : {m : ℕ} {l : List ℕ} → Rises m l → (i : ℕ) → i < length l → m ≤ get_or l i 0
rises_at ended i p = absurd (omega arith)
rises_at (rises h r) zero p = h
rises_at (rises h r) (suc i) p = omega (arith, rises_at r i (omega arith), h)

pub rises_absent : {m : ℕ} {l : List ℕ} (x : ℕ) → Rises m l → x < m → has eqb x l ≡ false
rises_absent {m} {l} x r h = go (has eqb x l) refl
  where
    go : (t : Bool) → has eqb x l ≡ t → t ≡ false
    go true e = absurd (omega (arith, rises_least r (has_in eqb_test x l e)))
    go false e = refl

-- ---- the place of a number
-- among ascending numbers there is one place for x
pub seam_list : {m : ℕ} (x : ℕ) (l : List ℕ) (i : ℕ) → Rises m l → Seam x l (length l) i → i ≡ below x l
unfolding below
seam_list x [] i r s = omega (arith, s.within)
seam_list x (y ∷ ys) zero (rises h r) s = rw (le-ltb y x (s.high (omega arith)))
seam_list x (y ∷ ys) (suc i) (rises h r) s = go (ltb y x) refl (seam_list x ys i r)
  where
    go : (t : Bool) → ltb y x ≡ t → (Seam x ys (length ys) i → i ≡ below x ys) → suc i ≡ pick t (suc (below x ys)) 0
    go true e ih = ap suc (ih (record { within = omega (arith, s.within); low = λ j q. s.low (suc j) (ap suc q); high = λ q. s.high (omega arith) }))
    go false e ih = absurd (omega (arith, ltb-false y x e, rises_at (rises {m = y} {w = y} (omega arith) r) i s.within, s.low i refl))

seam_below : (x : ℕ) (ws : List ℕ) (c i : ℕ) → c ≤ length ws → Rises 0 (take c ws) → Seam x ws c i → i ≡ below x (take c ws)
seam_below x ws c i h r s =
    let e : length (take c ws) ≡ c = length-take-le c ws h in
    seam_list x (take c ws) i r (record {
      within = omega (arith, s.within);
      low = λ j q. let k : j < c = omega (arith, s.within) in rw (get_or-take c ws j 0 k) (s.low j q);
      high = λ q. let k : i < c = omega arith in rw (get_or-take c ws i 0 k) (s.high k);
    })

-- x is there exactly if it stands at its place
stands_list : {m : ℕ} (x : ℕ) (l : List ℕ) → Rises m l → stands_at l (length l) (below x l) x ≡ has eqb x l
unfolding stands_at below has
stands_list x [] r = refl
stands_list x (y ∷ ys) (rises h r) = go (ltb y x) refl (eqb y x) refl (stands_list x ys r)
  where
    go : (t : Bool) → ltb y x ≡ t → (u : Bool) → eqb y x ≡ u → (ltb (below x ys) (length ys) && eqb (get_or ys (below x ys) 0) x) ≡ has eqb x ys
        → (ltb (pick t (suc (below x ys)) 0) (suc (length ys)) && eqb (get_or (y ∷ ys) (pick t (suc (below x ys)) 0) 0) x) ≡ (u || has eqb x ys)
    go true e true f ih = absurd (omega (arith, ltb-true y x e, eqb-true y x f))
    go true e false f ih = rw (leb-suc-suc (suc (below x ys)) (length ys)) ih
    go false e true f ih = rw (lt-ltb 0 (suc (length ys)) (omega arith)) f
    go false e false f ih = rw (lt-ltb 0 (suc (length ys)) (omega arith), rises_absent x r (omega (arith, ltb-false y x e, eqb-false y x f))) f

stands_has : (x : ℕ) (ws : List ℕ) (c : ℕ) → c ≤ length ws → Rises 0 (take c ws) → stands_at ws c (below x (take c ws)) x ≡ has eqb x (take c ws)
unfolding stands_at
stands_has x ws c h r = sym (go (ltb i c) refl) ∙ stands_list x (take c ws) r
  where
    i : ℕ
    i = below x (take c ws)

    go : (t : Bool) → ltb i c ≡ t → (ltb i (length (take c ws)) && eqb (get_or (take c ws) i 0) x) ≡ (ltb i c && eqb (get_or ws i 0) x)
    go true e = let k : i < c = ltb-true i c e in rw (length-take-le c ws h, get_or-take c ws i 0 k)
    go false e = rw (length-take-le c ws h, e)

-- x is among the first words exactly if it stands at the place found for it
pub seam_has : (x : ℕ) (ws : List ℕ) (c i : ℕ) → c ≤ length ws → Rises 0 (take c ws) → Seam x ws c i → stands_at ws c i x ≡ has eqb x (take c ws)
seam_has x ws c i h r s = ap (λ (j : ℕ). stands_at ws c j x) (seam_below x ws c i h r s) ∙ stands_has x ws c h r

pub stands_below : (ws : List ℕ) (c i x : ℕ) → stands_at ws c i x ≡ true → i < c
unfolding stands_at
stands_below ws c i x e = ltb-true i c (and_both (ltb i c) (eqb (get_or ws i 0) x) e).0

-- ---- one put in
insert_put : (x : ℕ) (l : List ℕ) → put_at (below x l) x l ≡ insert x l
unfolding put_at below insert
insert_put x [] = refl
insert_put x (y ∷ ys) =
    elim (ltb y x) as (λ (t : Bool). put_at (pick t (suc (below x ys)) 0) x (y ∷ ys) ≡ pick t (y ∷ insert x ys) (x ∷ y ∷ ys))
    [ true ↦ ap (λ (l : List ℕ). y ∷ l) (insert_put x ys) | false ↦ refl ]

-- x put at the place found for it is x put in
pub seam_insert : (x : ℕ) (ws vs : List ℕ) (c i : ℕ) → c ≤ length ws → Seam x ws c i → take (c + 1) vs ≡ put_at i x (take c ws) → Rises 0 (take c ws)
    → take (c + 1) vs ≡ insert x (take c ws)
seam_insert x ws vs c i h s e r = e ∙ ap (λ (j : ℕ). put_at j x (take c ws)) (seam_below x ws c i h r s) ∙ insert_put x (take c ws)

pub length-insert : (x : ℕ) (l : List ℕ) → length (insert x l) ≡ suc (length l)
unfolding insert
length-insert x [] = refl
length-insert x (y ∷ ys) =
    elim (ltb y x) as (λ (t : Bool). length (pick t (y ∷ insert x ys) (x ∷ y ∷ ys)) ≡ suc (suc (length ys)))
    [ true ↦ ap suc (length-insert x ys) | false ↦ refl ]

pub insert_in : (x : ℕ) (l : List ℕ) → In x (insert x l)
unfolding insert
insert_in x [] = here
insert_in x (y ∷ ys) = elim (ltb y x) as (λ (t : Bool). In x (pick t (y ∷ insert x ys) (x ∷ y ∷ ys))) [ true ↦ there (insert_in x ys) | false ↦ here ]

pub insert_keeps : (x : ℕ) {v : ℕ} {l : List ℕ} → In v l → In v (insert x l)
unfolding insert
insert_keeps x {v} (here {l = l}) = elim (ltb v x) as (λ (t : Bool). In v (pick t (v ∷ insert x l) (x ∷ v ∷ l))) [ true ↦ here | false ↦ there here ]
insert_keeps x {v} (there {v = y} {l = l} h) =
    elim (ltb y x) as (λ (t : Bool). In v (pick t (y ∷ insert x l) (x ∷ y ∷ l))) [ true ↦ there (insert_keeps x h) | false ↦ there (there h) ]

pub in_insert : {v : ℕ} (x : ℕ) (l : List ℕ) → In v (insert x l) → (v ≡ x) ⊎ In v l
unfolding insert
in_insert x [] h = in_front h refl
in_insert {v} x (y ∷ ys) h = go (ltb y x) h (in_insert x ys)
  where
    go : (t : Bool) → In v (pick t (y ∷ insert x ys) (x ∷ y ∷ ys)) → (In v (insert x ys) → (v ≡ x) ⊎ In v ys) → (v ≡ x) ⊎ In v (y ∷ ys)
    go true h ih = ⊎_elim (λ p. inr (subst (λ (t : ℕ). In v (t ∷ ys)) p here)) (λ i. ⊎_elim (λ p. inl p) (λ q. inr (there q)) (ih i)) (in_front h refl)
    go false h ih = in_front h refl

pub rises_insert : {m : ℕ} (x : ℕ) {l : List ℕ} → Rises m l → m ≤ x → has eqb x l ≡ false → Rises m (insert x l)
unfolding insert has
rises_insert x ended h e = rises h ended
rises_insert {m} x (rises {w = y} {l = ys} g r) h e = go (ltb y x) refl (eqb y x) refl e (λ (q : suc y ≤ x). rises_insert x r q)
  where
    go : (t : Bool) → ltb y x ≡ t → (u : Bool) → eqb y x ≡ u → (u || has eqb x ys) ≡ false
        → (suc y ≤ x → has eqb x ys ≡ false → Rises (suc y) (insert x ys)) → Rises m (pick t (y ∷ insert x ys) (x ∷ y ∷ ys))
    go t q true f e ih = absurd (true≢false e)
    go true q false f e ih = rises g (ih (ltb-true y x q) e)
    go false q false f e ih = let k : suc x ≤ y = omega (arith, ltb-false y x q, eqb-false y x f) in rises h (rises k r)

-- ---- one taken out
pub rises_without : {m : ℕ} (x : ℕ) {l : List ℕ} → Rises m l → Rises m (without eqb x l)
unfolding without
rises_without x ended = ended
rises_without {m} x (rises {w = y} {l = ys} g r) =
    elim (eqb y x) as (λ (t : Bool). Rises m (pick t (without eqb x ys) (y ∷ without eqb x ys)))
    [ true ↦ rises_from (omega arith) (rises_without x r) | false ↦ rises g (rises_without x r) ]

cut_without : {m : ℕ} (x : ℕ) (l : List ℕ) → Rises m l → has eqb x l ≡ true → cut_at (below x l) l ≡ without eqb x l
unfolding cut_at below has without
cut_without x [] r e = absurd (false≢true e)
cut_without x (y ∷ ys) (rises h r) e = go (ltb y x) refl (eqb y x) refl e (cut_without x ys r)
  where
    go : (t : Bool) → ltb y x ≡ t → (u : Bool) → eqb y x ≡ u → (u || has eqb x ys) ≡ true → (has eqb x ys ≡ true → cut_at (below x ys) ys ≡ without eqb x ys)
        → cut_at (pick t (suc (below x ys)) 0) (y ∷ ys) ≡ pick u (without eqb x ys) (y ∷ without eqb x ys)
    go true q true f e ih = absurd (omega (arith, ltb-true y x q, eqb-true y x f))
    go true q false f e ih = ap (λ (l : List ℕ). y ∷ l) (ih e)
    go false q true f e ih = sym (without_absent eqb_test x ys (rises_absent x r (omega (arith, eqb-true y x f))))
    go false q false f e ih = absurd (omega (arith, ltb-false y x q, rises_least r (has_in eqb_test x ys e)))

-- x cut at the place where it stands is x taken out
pub seam_without : (x : ℕ) (ws vs : List ℕ) (c i : ℕ) → c ≤ length ws → Seam x ws c i → take (c - 1) vs ≡ cut_at i (take c ws) → Rises 0 (take c ws)
    → has eqb x (take c ws) ≡ true → take (c - 1) vs ≡ without eqb x (take c ws)
seam_without x ws vs c i h s e r q = e ∙ ap (λ (j : ℕ). cut_at j (take c ws)) (seam_below x ws c i h r s) ∙ cut_without x (take c ws) r q

pub length_out : {m : ℕ} (x : ℕ) (l : List ℕ) → Rises m l → has eqb x l ≡ true → suc (length (without eqb x l)) ≡ length l
unfolding has without
length_out x [] r e = absurd (false≢true e)
length_out x (y ∷ ys) (rises h r) e = go (eqb y x) refl e (length_out x ys r)
  where
    go : (t : Bool) → eqb y x ≡ t → (t || has eqb x ys) ≡ true → (has eqb x ys ≡ true → suc (length (without eqb x ys)) ≡ length ys)
        → suc (length (pick t (without eqb x ys) (y ∷ without eqb x ys))) ≡ suc (length ys)
    go true q e ih = ap (λ (l : List ℕ). suc (length l)) (without_absent eqb_test x ys (rises_absent x r (omega (arith, eqb-true y x q))))
    go false q e ih = ap suc (ih e)

-- ---- both
pub without_insert : (x : ℕ) (l : List ℕ) → without eqb x (insert x l) ≡ without eqb x l
unfolding without insert
without_insert x [] = rw (eq-eqb x x refl)
without_insert x (y ∷ ys) = go (ltb y x) (without_insert x ys)
  where
    go : (t : Bool) → without eqb x (insert x ys) ≡ without eqb x ys
        → without eqb x (pick t (y ∷ insert x ys) (x ∷ y ∷ ys)) ≡ pick (eqb y x) (without eqb x ys) (y ∷ without eqb x ys)
    go true ih = rw ih
    go false ih = rw (eq-eqb x x refl)

insert_front : {m : ℕ} (x : ℕ) {l : List ℕ} → Rises m l → x ≤ m → insert x l ≡ x ∷ l
unfolding insert
insert_front x ended h = refl
insert_front x (rises {w = y} g r) h = rw (le-ltb y x (omega arith))

pub insert_without : {m : ℕ} (x : ℕ) (l : List ℕ) → Rises m l → has eqb x l ≡ true → insert x (without eqb x l) ≡ l
unfolding insert without has
insert_without x [] r e = absurd (false≢true e)
insert_without x (y ∷ ys) (rises h r) e = go (eqb y x) refl e (insert_without x ys r)
  where
    go : (t : Bool) → eqb y x ≡ t → (t || has eqb x ys) ≡ true → (has eqb x ys ≡ true → insert x (without eqb x ys) ≡ ys)
        → insert x (pick t (without eqb x ys) (y ∷ without eqb x ys)) ≡ y ∷ ys
    go true q e ih =
        let z : y ≡ x = eqb-true y x q in
        rw (without_absent eqb_test x ys (rises_absent x r (omega arith))) (insert_front x r (omega arith) ∙ ap (λ (v : ℕ). v ∷ ys) (sym z))
    go false q e ih = rw (lt-ltb y x (omega (arith, rises_least r (has_in eqb_test x ys e)))) (ap (λ (l : List ℕ). y ∷ l) (ih e))
