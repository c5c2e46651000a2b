-- Laws of depths: how many records are new or done, a record that is looked at, from its first link to its last, and all of them.
--   done_most        no more records are done than there are
--   Looking cs y ds ds' depth p
--                    y is entered, and the links into it before the place p of the index are still to be looked at; `depth` is one more than the deepest seen
--   visited_known    a depth that is known
--   looking_begins, visited_loop, looking_more, visited_done
--                    y is entered; a link from a record that is being looked at is a loop; a link more; no link left
--   Settled cs ds y  the records below y are done, and none is entered
--   settled_none, settled_more, settled_loop
--                    before the first record, one more, or a loop
--   looking_back, back_looking
--                    a record that is entered was new, so its entry may be taken back and made again
-- Assumes nothing.
use mathlib.Core.Path.{◌≡◌, refl, sym, ap, ◌∙◌, subst}
use mathlib.Core.Logic.{◌⊎◌, inl, inr, ⊎_elim}
use mathlib.Core.List.{List}
use Prim.Native.Nat.{ℕ, zero, suc, ◌+◌, ◌-◌, ◌<◌, ◌≤◌, max}
use native.Mathlib.Omega.{arith}
use native.Mathlib.Decide.{ℕ_discrete, dec_lt}
use lib.Dec.{leb, eqb}
use borrow.Author.Tests.{le-leb, lt-leb, ne_eqb}
use lib.ListN.{length, get_or, set, replicate, length-set}
use lib.Seq.{get_or-set_same, get_or-set_other}
use Rattle.book.specs.Basics.{bit}
use Rattle.k2.specs.Bits.{ones_below}
use Rattle.k2.specs.BitLaws.{ones-le, ones_same}
use Rattle.k2.specs.PairSetLaws.{bit_small}
use Rattle.automaton.proofs.LevelLaws.{Which, less, same, more, which}
use Rattle.register.specs.MarkLaws.{mark_back}
use Rattle.arcs.specs.Arcs.{arc_from, arc_to}
use Rattle.arcs.specs.Index.{first_arc, next_arc, Cursor, Indexed}
use Rattle.arcs.specs.IndexLaws.{before_first, cursor_next, only_arc}
use Rattle.generations.specs.Inner.{Arc, Ran, stop, on, Top, Leads, once, more as leads_more, Kept, Right, done_bit, new_bit, new_count, done_count, Bounded}
use Rattle.generations.specs.Inner.{Visited}

-- ---- counts
ones_mono : (f g : ℕ → ℕ) (n : ℕ) → ((k : ℕ) → f k ≤ g k) → ones_below f n ≤ ones_below g n
unfolding ones_below
ones_mono f g zero h = omega arith
ones_mono f g (suc n) h = let z = ones_mono f g n h in let y = h n in omega arith

-- one more
ones_other : (f g : ℕ → ℕ) (y n : ℕ) → ((k : ℕ) → (k ≡ y → ⊥) → f k ≡ g k) → f y ≡ 0 → g y ≡ 1 → y < n → ones_below g n ≡ suc (ones_below f n)
unfolding ones_below
ones_other f g y zero s a b h = absurd (omega arith)
ones_other f g y (suc n) s a b h = go (which y n) (ones_other f g y n s a b)
  where
    go : Which y n → (y < n → ones_below g n ≡ suc (ones_below f n)) → ones_below g n + g n ≡ suc (ones_below f n + f n)
    go (less l) i = let z = i l in let e = s n (λ q. omega arith) in omega arith
    go (same e) i =
        let z = ones_same f g n (λ k l. s k (λ q. omega arith)) in
        let u : f n ≡ 0 = ap f (sym e) ∙ a in
        let v : g n ≡ 1 = ap g (sym e) ∙ b in
        omega arith
    go (more l) i = absurd (omega arith)

new_at : (a b : ℕ) → (0 < a → b ≡ a) → bit (eqb b 0) ≤ bit (eqb a 0)
new_at zero b h = let z = bit_small (eqb b 0) in omega arith
new_at (suc a) b h = rw (h (omega arith)) (omega arith)

done_at : (a b : ℕ) → (0 < a → b ≡ a) → bit (leb 2 a) ≤ bit (leb 2 b)
done_at zero b h = omega arith
done_at (suc a) b h = rw (h (omega arith)) (omega arith)

done_two : (a : ℕ) → 2 ≤ a → bit (leb 2 a) ≡ 1
done_two a h = rw (le-leb 2 a h)

done_less : (a : ℕ) → a < 2 → bit (leb 2 a) ≡ 0
done_less a h = rw (lt-leb 2 a h)

new_some : (a : ℕ) → 0 < a → bit (eqb a 0) ≡ 0
new_some a h = rw (ne_eqb a 0 (λ e. omega arith))

module _ (ds ds' : List ℕ) (K : Kept ds ds') where
  new_kept : new_count ds' ≤ new_count ds
  unfolding new_count new_bit
  new_kept = ones_mono (new_bit ds') (new_bit ds) 1024 (λ k. new_at (get_or ds k 0) (get_or ds' k 0) (K k))

  done_kept : done_count ds ≤ done_count ds'
  unfolding done_count done_bit
  done_kept = ones_mono (done_bit ds) (done_bit ds') 1024 (λ k. done_at (get_or ds k 0) (get_or ds' k 0) (K k))

pub done_most : (ds : List ℕ) → done_count ds ≤ 1024
unfolding done_count done_bit
done_most ds = ones-le (done_bit ds) (λ k. bit_small (leb 2 (get_or ds k 0))) 1024

module _ (ds : List ℕ) (y v : ℕ) (hy : y < 1024) (l : y < length ds) where
  new_fewer : get_or ds y 0 ≡ 0 → 0 < v → new_count (set ds y v) < new_count ds
  unfolding new_count new_bit
  new_fewer e h =
      let z = ones_other (new_bit (set ds y v)) (new_bit ds) y 1024 (λ k n. ap (λ (a : ℕ). bit (eqb a 0)) (get_or-set_other ds y k v 0 n))
      (rw (get_or-set_same ds y v 0 l) (new_some v h)) (rw e refl) hy in
      omega arith

  done_more : get_or ds y 0 < 2 → 2 ≤ v → done_count (set ds y v) ≡ suc (done_count ds)
  unfolding done_count done_bit
  done_more e h =
      ones_other (done_bit ds) (done_bit (set ds y v)) y 1024 (λ k n. ap (λ (a : ℕ). bit (leb 2 a)) (sym (get_or-set_other ds y k v 0 n)))
      (done_less (get_or ds y 0) e) (rw (get_or-set_same ds y v 0 l) (done_two v h)) hy

-- ---- a record that is looked at
-- y is entered, and the links into it from the place p of the index on are still to be looked at; depth is the deepest that was seen before it, and one more
pub record Looking (cs : List ℕ) (y : ℕ) (ds ds' : List ℕ) (depth p : ℕ) : Type 0 where
  pub long : length ds' ≡ length ds
  pub mine : get_or ds' y 0 ≡ 1
  pub kept : Kept ds ds'
  pub left : (x : ℕ) → get_or ds' x 0 ≡ 1 → (x ≡ y) ⊎ (get_or ds x 0 ≡ 1)
  pub bounded : Bounded ds'
  pub right : Right cs ds → Right cs ds'
  pub cursor : Cursor (arc_to cs) (length cs) y p
  pub shallow : 2 ≤ depth
  pub deep : depth ≤ suc (suc (done_count ds'))
  pub run : Right cs ds → Ran cs (depth - 2) y
  pub all : (j : ℕ) → j < length cs → arc_to cs j ≡ y → p ≤ j → (1 < get_or ds' (arc_from cs j) 0) × (get_or ds' (arc_from cs j) 0 < depth)
  pub fewer : new_count ds' < new_count ds

-- a depth that is known
pub visited_known : {cs : List ℕ} {y r : ℕ} {ds : List ℕ} → r ≡ get_or ds y 0 → (r ≡ 0 → ⊥) → Bounded ds → Visited cs y ds ds r
visited_known {cs} {y} {r} {ds} e n b = record {
  depth = e;
  seen = omega (arith, n);
  kept = λ x h. refl;
  bounded = b;
  none_left = λ l x q. q;
  right = λ h. h;
  leads = λ q p. (y, p y (sym e ∙ q));
}

module _ (cs ix : List ℕ) (I : Indexed (arc_to cs) (length cs) ix) (y : ℕ)
    (ds : List ℕ) (hy : y < 1024) (len : length ds ≡ 1024) (new : get_or ds y 0 ≡ 0) where
  -- y is entered
  pub looking_begins : Bounded ds → Looking cs y ds (set ds y 1) 2 (first_arc ix y)
  looking_begins b = record {
    long = length-set ds y 1;
    mine = same_at;
    kept = kept;
    left = λ x e. left x e (ℕ_discrete x y);
    bounded = λ x. bound x (ℕ_discrete x y);
    right = λ R x m e. right R x m e (ℕ_discrete x y);
    cursor = I.first_at y hy;
    shallow = omega arith;
    deep = omega arith;
    run = λ R. stop;
    all = λ j h e g. absurd (let z = before_first I j h e g in omega arith);
    fewer = new_fewer ds y 1 hy (omega arith) new (omega arith);
  }
    where
      same_at : get_or (set ds y 1) y 0 ≡ 1
      same_at = get_or-set_same ds y 1 0 (omega arith)

      other : (x : ℕ) → (x ≡ y → ⊥) → get_or (set ds y 1) x 0 ≡ get_or ds x 0
      other x n = get_or-set_other ds y x 1 0 n

      kept : Kept ds (set ds y 1)
      kept x h = other x (λ e. (let z : get_or ds x 0 ≡ 0 = ap (λ (i : ℕ). get_or ds i 0) e ∙ new in omega arith))

      left : (x : ℕ) → get_or (set ds y 1) x 0 ≡ 1 → Dec (x ≡ y) → (x ≡ y) ⊎ (get_or ds x 0 ≡ 1)
      left x e (yes q) = inl q
      left x e (no n) = inr (sym (other x n) ∙ e)

      bound : (x : ℕ) → Dec (x ≡ y) → get_or (set ds y 1) x 0 ≤ suc (done_count (set ds y 1))
      bound x (yes q) = let z : get_or (set ds y 1) x 0 ≡ 1 = ap (λ (i : ℕ). get_or (set ds y 1) i 0) q ∙ same_at in omega arith
      bound x (no n) = let z = other x n in let k = done_kept ds (set ds y 1) kept in let w = b x in omega arith

      right : Right cs ds → (x m : ℕ) → get_or (set ds y 1) x 0 ≡ suc (suc m) → Dec (x ≡ y) → Top cs x m
      right R x m e (yes q) = let z : get_or (set ds y 1) x 0 ≡ 1 = ap (λ (i : ℕ). get_or (set ds y 1) i 0) q ∙ same_at in absurd (omega arith)
      right R x m e (no n) = R x m (sym (other x n) ∙ e)

  module _ {ds' ds'' : List ℕ} {depth p r : ℕ} (L : Looking cs y ds ds' depth p) (hp : 0 < p) (W : Visited cs (arc_from cs (p - 1)) ds' ds'' r) where
    arc : Arc cs (arc_from cs (p - 1)) y
    arc = (p - 1, (let z = L.cursor.0 in omega arith), refl, L.cursor.1 hp)

    kept_on : Kept ds ds''
    kept_on x h = let e = L.kept x h in W.kept x (omega arith) ∙ e

    mine_on : get_or ds'' y 0 ≡ 1
    mine_on = let e = L.mine in W.kept y (omega arith) ∙ e

    -- a record leads to itself
    pub visited_loop : r ≡ 1 → Visited cs y ds ds'' 1
    visited_loop e = record {
      depth = sym mine_on;
      seen = omega arith;
      kept = kept_on;
      bounded = W.bounded;
      none_left = λ l. absurd (omega arith);
      right = λ R. W.right (L.right R);
      leads =
          λ q P. W.leads e
          (λ x f. ⊎_elim (λ (i : x ≡ y). subst (λ (z : ℕ). Leads cs (arc_from cs (p - 1)) z) (sym i) (once arc)) (λ i. leads_more arc (P x i)) (L.left x f));
    }

    -- one link more
    pub looking_more : (r ≡ 1 → ⊥) → length ds'' ≡ length ds' → Looking cs y ds ds'' (max depth (r + 1)) (next_arc ix (p - 1))
    looking_more n l = record {
      long = l ∙ L.long;
      mine = mine_on;
      kept = kept_on;
      left = λ x e. L.left x (W.none_left big x e);
      bounded = W.bounded;
      right = λ R. W.right (L.right R);
      cursor = cursor_next I L.cursor hp;
      shallow = (let z = L.shallow in omega arith);
      deep = (let z = L.deep in let k = done_kept ds' ds'' W.kept in let b = W.bounded (arc_from cs (p - 1)) in let d = W.depth in omega arith);
      run = λ R. run R (dec_lt depth (r + 1));
      all = λ j h e g. all j h e (only_arc I L.cursor hp j h e g);
      fewer = (let z = L.fewer in let k = new_kept ds' ds'' W.kept in omega arith);
    }
      where
        big : 1 < r
        big = let z = W.seen in omega (arith, n)

        run : Right cs ds → Dec (depth < r + 1) → Ran cs (max depth (r + 1) - 2) y
        run R (no h) = let e : depth - 2 ≡ max depth (r + 1) - 2 = omega arith in subst (λ (k : ℕ). Ran cs k y) e (L.run R)
        run R (yes h) =
            let q : get_or ds'' (arc_from cs (p - 1)) 0 ≡ suc (suc (r - 2)) = sym W.depth ∙ (let z : r ≡ suc (suc (r - 2)) = omega (arith, big) in z) in
            let t = W.right (L.right R) (arc_from cs (p - 1)) (r - 2) q in
            let e : suc (r - 2) ≡ max depth (r + 1) - 2 = omega (arith, big, L.shallow) in
            subst (λ (k : ℕ). Ran cs k y) e (on arc t.run)

        all : (j : ℕ) → j < length cs → arc_to cs j ≡ y → (j ≡ p - 1) ⊎ (p ≤ j)
            → (1 < get_or ds'' (arc_from cs j) 0) × (get_or ds'' (arc_from cs j) 0 < max depth (r + 1))
        all j h e (inl q) =
            let z : get_or ds'' (arc_from cs j) 0 ≡ r = ap (λ (i : ℕ). get_or ds'' (arc_from cs i) 0) q ∙ sym W.depth in
            (omega (arith, big), omega arith)
        all j h e (inr g) =
            let w = L.all j h e g in
            let z = W.kept (arc_from cs j) (omega (arith, w.0)) in
            (omega (arith, w.0), omega (arith, w.1))

  -- every run to y comes over a link into it
  module _ {ds' : List ℕ} {depth : ℕ} (L : Looking cs y ds ds' depth 0) where
    most : Right cs ds' → (k z : ℕ) → Ran cs k z → z ≡ y → k ≤ depth - 2
    most R k z stop e = omega arith
    most R k z (on {k = m} {x = x} a r) e =
        let w = L.all a.0 a.1 (a.3 ∙ e) (omega arith) in
        let f : get_or ds' (arc_from cs a.0) 0 ≡ get_or ds' x 0 = ap (λ (i : ℕ). get_or ds' i 0) a.2 in
        let q : get_or ds' x 0 ≡ suc (suc (get_or ds' x 0 - 2)) = omega (arith, w.0) in
        let t = (R x (get_or ds' x 0 - 2) q).most m r in
        omega (arith, w.0, w.1)

    pub visited_done : Visited cs y ds (set ds' y depth) depth
    visited_done = record {
      depth = sym same_at;
      seen = (let z = L.shallow in omega arith);
      kept = kept;
      bounded = λ x. bound x (ℕ_discrete x y);
      none_left = λ h x e. left x e (ℕ_discrete x y);
      right = λ R x m e. right R x m e (ℕ_discrete x y);
      leads = λ e. absurd (let z = L.shallow in omega arith);
    }
      where
        inside : y < length ds'
        inside = let z = L.long in omega arith

        same_at : get_or (set ds' y depth) y 0 ≡ depth
        same_at = get_or-set_same ds' y depth 0 inside

        other : (x : ℕ) → (x ≡ y → ⊥) → get_or (set ds' y depth) x 0 ≡ get_or ds' x 0
        other x n = get_or-set_other ds' y x depth 0 n

        at_y : (x : ℕ) → x ≡ y → get_or (set ds' y depth) x 0 ≡ depth
        at_y x q = ap (λ (i : ℕ). get_or (set ds' y depth) i 0) q ∙ same_at

        kept : Kept ds (set ds' y depth)
        kept x h = other x (λ e. (let z : get_or ds x 0 ≡ 0 = ap (λ (i : ℕ). get_or ds i 0) e ∙ new in omega arith)) ∙ L.kept x h

        bound : (x : ℕ) → Dec (x ≡ y) → get_or (set ds' y depth) x 0 ≤ suc (done_count (set ds' y depth))
        bound x (yes q) =
            let z = at_y x q in
            let c = done_more ds' y depth hy inside (omega (arith, L.mine)) L.shallow in
            omega (arith, L.deep)
        bound x (no n) =
            let z = other x n in
            let c = done_more ds' y depth hy inside (omega (arith, L.mine)) L.shallow in
            omega (arith, L.bounded x)

        left : (x : ℕ) → get_or (set ds' y depth) x 0 ≡ 1 → Dec (x ≡ y) → get_or ds x 0 ≡ 1
        left x e (yes q) = absurd (let z = at_y x q in omega (arith, L.shallow))
        left x e (no n) = ⊎_elim (λ (q : x ≡ y). absurd (n q)) (λ (q : get_or ds x 0 ≡ 1). q) (L.left x (sym (other x n) ∙ e))

        right : Right cs ds → (x m : ℕ) → get_or (set ds' y depth) x 0 ≡ suc (suc m) → Dec (x ≡ y) → Top cs x m
        right R x m e (yes q) =
            let z = at_y x q in
            let d : depth - 2 ≡ m = omega arith in
            subst (λ (i : ℕ). Top cs i m) (sym q) (record {
              run = subst (λ (k : ℕ). Ran cs k y) d (L.run R);
              most = λ k r. (let w = most (L.right R) k y r refl in omega arith);
            })
        right R x m e (no n) = L.right R x m (sym (other x n) ∙ e)

-- ---- all records
zeros : (n x : ℕ) → ◌≡◌ {A = ℕ} (get_or (replicate n 0) x 0) 0
zeros zero x = refl
zeros (suc n) zero = refl
zeros (suc n) (suc x) = zeros n x

-- those below y are done, and none is entered
pub record Settled (cs ds : List ℕ) (y : ℕ) : Type 0 where
  pub bounded : Bounded ds
  pub right : Right cs ds
  pub none : (x : ℕ) → get_or ds x 0 ≡ 1 → ⊥
  pub done : (x : ℕ) → x < y → 1 < get_or ds x 0

pub settled_none : {cs ds : List ℕ} (n : ℕ) → ds ≡ replicate n 0 → Settled cs ds 0
settled_none {cs} {ds} n e = record {
  bounded = λ x. (let z = at x in omega arith);
  right = λ x m q. absurd (let z = at x in omega arith);
  none = λ x q. (let z = at x in omega arith);
  done = λ x h. absurd (omega arith);
}
  where
    at : (x : ℕ) → get_or ds x 0 ≡ 0
    at x = ap (λ (l : List ℕ). get_or l x 0) e ∙ zeros n x

module _ {cs ds ds' : List ℕ} {y r : ℕ} (S : Settled cs ds y) (W : Visited cs y ds ds' r) where
  pub settled_more : (r ≡ 1 → ⊥) → Settled cs ds' (y + 1)
  settled_more n = record {
    bounded = W.bounded;
    right = W.right S.right;
    none = λ x q. S.none x (W.none_left big x q);
    done = λ x h. done x (which x y) h;
  }
    where
      big : 1 < r
      big = let z = W.seen in omega (arith, n)

      done : (x : ℕ) → Which x y → x < y + 1 → 1 < get_or ds' x 0
      done x (less l) h = let z = S.done x l in let k = W.kept x (omega arith) in omega arith
      done x (same e) h = let z : get_or ds' x 0 ≡ r = ap (λ (i : ℕ). get_or ds' i 0) e ∙ sym W.depth in omega (arith, big)
      done x (more l) h = absurd (omega arith)

  pub settled_loop : r ≡ 1 → (z : ℕ) × Leads cs z z
  settled_loop e = W.leads e (λ x q. absurd (S.none x q))

-- a record that is entered was new: what was known before, from what is known after
pub looking_back : {cs : List ℕ} {y : ℕ} {ds ds' : List ℕ} {depth p : ℕ} → get_or ds y 0 ≡ 0
    → Looking cs y (set (set ds y 1) y 0) ds' depth p → Looking cs y ds ds' depth p
looking_back {cs} {y} {ds} {ds'} {depth} {p} e l = subst (λ (d : List ℕ). Looking cs y d ds' depth p) (mark_back ds y 1 0 e) l

pub back_looking : {cs : List ℕ} {y : ℕ} {ds ds' : List ℕ} {depth p : ℕ} → get_or ds y 0 ≡ 0
    → Looking cs y ds ds' depth p → Looking cs y (set (set ds y 1) y 0) ds' depth p
back_looking {cs} {y} {ds} {ds'} {depth} {p} e l = subst (λ (d : List ℕ). Looking cs y d ds' depth p) (sym (mark_back ds y 1 0 e)) l
