-- Laws of letters: the pairs of their links, and the records in use.
--   links_below      the links of a book are of records below n
--   letters_crossed  the pairs of the links of letters are those that a step joins whose letter is one of them
--   zero_used        each record in use joined to itself is zero steps
--   used-below       the records in use are below n
--   used_asked       of a register's marks they are those of its book
--   read_lettered    what is read of a register is its book's
--   read_known       so of its marks and links alone
-- Assumes nothing.
use Rattle.std.specs.Prelude.{◌≡◌, refl, List, [], ◌∷◌, map, Bool, true, false, not, ◌&&◌, eqb, ltb, length, take}
use Rattle.std.proofs.Math.Path.{sym, ap, subst, fun_ext}
use Rattle.std.proofs.Common.{◌∙◌, ⊎_elim, arith, eqb-true, eq-eqb, le-ltb}
use Prim.Native.Nat.{ℕ, ◌+◌, ◌*◌, ◌/◌, ◌%◌, ◌<◌, ◌≤◌, max}
use Rattle.std.proofs.Math.Decide.{dec_lt}
use Rattle.book.specs.Basics.{pick, bit, In, here, there}
use Rattle.book.proofs.ListLaws.{in_none, in_front, in_map}
use Rattle.book.specs.Book.{Book, present}
use Rattle.book.specs.Causes.{max_records}
use Rattle.k2.specs.Bits.{digit}
use Rattle.k2.specs.PairSets.{pair_word, set_of, union, transpose, diagonal, PairsBelow}
use Rattle.k2.specs.PairSetLaws.{set-in, in_set, set_bit, set_past}
use Rattle.paths.specs.Expressions.{Letter}
use Rattle.paths.specs.Chains.{Graph, asked}
use Rattle.paths.specs.Relations.{crossed_by, zero_steps}
use Rattle.paths.specs.Inside.{Inside}
use Rattle.paths.proofs.RelationLaws.{crossed_is, is_crossed}
use Rattle.paths.proofs.PairLaws.{fit_inside}
use Rattle.reader.specs.Letters.{letters_in}
use Rattle.register.specs.MarkLaws.{listed_withdrawn}
use Rattle.register.specs.Questions.{Sized, Listing, MarkList}
use Rattle.register.specs.Representation.{Represents}
use Rattle.register.specs.Marks.{withdrawn_mark, has_mark}
use Rattle.register.specs.Reads.{ReadOf}
use Rattle.register.specs.declared.Register.{Register}
use Rattle.register.specs.declared.Links.{Links}
use Rattle.rows.specs.RowSets.{labelled, crossed_words}
use Rattle.links.specs.Parts.{link_pair}
use Rattle.query.specs.Evaluation.{used_below, Lettered}

-- ---- the words of a set of labels
-- a word that is kept is one of the words, and its label is in the set
kept : (m : ℕ) (ws : List ℕ) (p : ℕ) → In p (map link_pair (labelled m ws)) → (w : ℕ) × In w ws × (p ≡ link_pair w) × (digit m (w / 1048576) ≡ 1)
unfolding labelled
kept m [] p h = absurd (in_none h refl)
kept m (w ∷ ws) p h = go (eqb (digit m (w / 1048576)) 1) refl h (kept m ws p)
  where
    go : (t : Bool) → eqb (digit m (w / 1048576)) 1 ≡ t → In p (map link_pair (pick t (w ∷ labelled m ws) (labelled m ws)))
        → (In p (map link_pair (labelled m ws)) → (v : ℕ) × In v ws × (p ≡ link_pair v) × (digit m (v / 1048576) ≡ 1))
        → (v : ℕ) × In v (w ∷ ws) × (p ≡ link_pair v) × (digit m (v / 1048576) ≡ 1)
    go true e i f = ⊎_elim
        (λ q. (w, here, q, eqb-true (digit m (w / 1048576)) 1 e))
        (λ j. let r = f j in (r.0, there r.1, r.2, r.3)) (in_front i refl)
    go false e i f = let r = f i in (r.0, there r.1, r.2, r.3)

keep : (m : ℕ) (ws : List ℕ) (w : ℕ) → In w ws → digit m (w / 1048576) ≡ 1 → In (link_pair w) (map link_pair (labelled m ws))
unfolding labelled
keep m [] w x'' d = elim x'' [ ]
keep m (v ∷ ws) w here d = rw (eq-eqb (digit m (w / 1048576)) 1 d) here
keep m (v ∷ ws) w (there i) d = go (eqb (digit m (v / 1048576)) 1) (keep m ws w i d)
  where
    go : (t : Bool) → In (link_pair w) (map link_pair (labelled m ws)) → In (link_pair w) (map link_pair (pick t (v ∷ labelled m ws) (labelled m ws)))
    go true j = there j
    go false j = j

-- ---- a book's links
module _ (b : Book) (n : ℕ) (ws : List ℕ) (u : ℕ → ℕ) (L : Lettered b n ws u) where
  abbrev g : Graph
  g = asked b

  pub links_below : PairsBelow n (map link_pair ws)
  unfolding link_pair
  links_below p h =
      let r = in_map link_pair ws h in
      let k = L.linked.sound r.0 r.1 in
      let f = L.fit.links k.0 k.2 in
      let z = L.size in
      let s = L.small in
      let e : p ≡ k.0.from * 1024 + k.0.to = r.2 ∙ ap (λ (x : ℕ). x % 1048576) k.1 ∙ omega (arith, f.from, f.to, f.label) in
      rw e (omega (arith, f.from, f.to), omega (arith, f.from, f.to))

  -- the pairs of the links whose label is in the set m
  module _ (m : ℕ) where
    abbrev ps : List ℕ
    ps = map link_pair (labelled m ws)

    sound : (x y : ℕ) → 1 ≤ set_of ps x y → (l : ℕ) × (digit m l ≡ 1) × (present b.sheet (record { from = x; label = l; to = y }) ≡ true)
    unfolding link_pair
    sound x y h =
        let c : y < 1024 = near (dec_lt y 1024) in
        let r = kept m ws (pair_word x y) (set-in ps x y h) in
        let k = L.linked.sound r.0 r.1 in
        let f = L.fit.links k.0 k.2 in
        let s = L.small in
        let d : r.0 / 1048576 ≡ k.0.label = ap (λ (w : ℕ). w / 1048576) k.1 ∙ omega (arith, f.from, f.to) in
        let e : pair_word x y ≡ k.0.from * 1024 + k.0.to = r.2 ∙ ap (λ (w : ℕ). w % 1048576) k.1 ∙ omega (arith, f.from, f.to, f.label) in
        let u : k.0.from ≡ x = omega (arith, f.from, f.to) in
        let v : k.0.to ≡ y = omega (arith, f.from, f.to) in (
          k.0.label,
          sym (ap (digit m) d) ∙ r.3,
          subst (λ (i : ℕ). present b.sheet (record { from = x; label = k.0.label; to = i }) ≡ true) v
              (subst (λ (i : ℕ). present b.sheet (record { from = i; label = k.0.label; to = k.0.to }) ≡ true) u k.2),
        )
      where
        near : Dec (y < 1024) → y < 1024
        near (yes c) = c
        near (no c) = absurd (omega (arith, set_past ps x y (omega arith)))

    whole : (l x y : ℕ) → digit m l ≡ 1 → present b.sheet (record { from = x; label = l; to = y }) ≡ true → set_of ps x y ≡ 1
    unfolding link_pair
    whole l x y q e =
        let f = L.fit.links _ e in
        let s = L.small in
        let w : ℕ = (l * 1024 + x) * 1024 + y in
        let d : w / 1048576 ≡ l = omega (arith, f.from, f.to) in
        let p : w % 1048576 ≡ pair_word x y = omega (arith, f.from, f.to) in
        in_set ps x y (omega (arith, f.to)) (subst (λ (v : ℕ). In v ps) p (keep m ws w (L.linked.whole _ e) (ap (digit m) d ∙ q)))

  -- the pairs of the links of letters, each crossed in its sense, are those that a step joins whose letter is one of them
  pub letters_crossed : (forward against : ℕ) → crossed_words ws forward against ≡ crossed_by g (letters_in forward against)
  unfolding asked crossed_words letters_in union transpose
  letters_crossed forward against = fun_ext (λ x. fun_ext (λ y. by x y (dec_lt 0 (crossed_by g (letters_in forward against) x y))))
    where
      I : Inside g
      I = fit_inside b L.fit

      forth : (x y : ℕ) → 1 ≤ set_of (ps forward) x y → crossed_by g (letters_in forward against) x y ≡ 1
      forth x y h =
          let r = sound forward x y h in
          is_crossed g (letters_in forward against) I (record { label = r.0; inverted = false }) x y (eq-eqb _ 1 r.1) r.2

      back : (x y : ℕ) → 1 ≤ set_of (ps against) y x → crossed_by g (letters_in forward against) x y ≡ 1
      back x y h =
          let r = sound against y x h in
          is_crossed g (letters_in forward against) I (record { label = r.0; inverted = true }) x y (eq-eqb _ 1 r.1) r.2

      one : (x y : ℕ) (a : Letter) (s : Bool) → a.inverted ≡ s → eqb (digit (pick s against forward) a.label) 1 ≡ true
          → present b.sheet (pick s (record { from = y; label = a.label; to = x }) (record { from = x; label = a.label; to = y })) ≡ true
          → max (set_of (ps forward) x y) (set_of (ps against) y x) ≡ 1
      one x y a true e q p = omega (arith, whole against a.label y x (eqb-true _ 1 q) p, set_bit (ps forward) x y)
      one x y a false e q p = omega (arith, whole forward a.label x y (eqb-true _ 1 q) p, set_bit (ps against) y x)

      by : (x y : ℕ) → Dec (0 < crossed_by g (letters_in forward against) x y)
          → max (set_of (ps forward) x y) (set_of (ps against) y x) ≡ crossed_by g (letters_in forward against) x y
      by x y (yes h) =
          let r = crossed_is g (letters_in forward against) x y h in
          one x y r.0 r.0.inverted refl r.1 r.2 ∙ sym (is_crossed g (letters_in forward against) I r.0 x y r.1 r.2)
      by x y (no h) = go (dec_lt 0 (set_of (ps forward) x y)) (dec_lt 0 (set_of (ps against) y x))
        where
          go : Dec (0 < set_of (ps forward) x y) → Dec (0 < set_of (ps against) y x)
              → max (set_of (ps forward) x y) (set_of (ps against) y x) ≡ crossed_by g (letters_in forward against) x y
          go (yes k) j = absurd (omega (arith, forth x y k))
          go (no k) (yes j) = absurd (omega (arith, back x y j))
          go (no k) (no j) = omega arith

  pub zero_used : diagonal u ≡ zero_steps g
  unfolding zero_steps
  zero_used = ap diagonal L.in_use

  pub used-below : (x : ℕ) → n ≤ x → u x ≡ 0
  unfolding asked
  used-below x h = ap (λ (f : ℕ → ℕ). f x) L.in_use ∙ rw (le-ltb x b.n (omega (arith, L.size)))

-- ---- what is read of a register
module _ {r : Register} {n : ℕ} {ms : List ℕ} (M : MarkList r ms) (b : Book) (R : Represents r b) where
  pub used_asked : n ≡ b.n → used_below n ms ≡ (λ x. bit ((asked b).in_use x))
  unfolding used_below asked
  used_asked e = fun_ext (λ x. rw (e, listed_withdrawn M R x))

  pub read_lettered : {l : Links} → Sized r n → Listing r l → Lettered b n (take l.count l.words) (used_below n ms)
  read_lettered S T = let z : n ≡ b.n = S.size b R in record {
    size = z;
    small = subst (λ (i : ℕ). i ≤ max_records) z S.small;
    fit = R.sheet.fit;
    linked = T.linked b R;
    in_use = used_asked z;
  }

pub read_known : {r : Register} {marks links : List ℕ} → ReadOf r marks links → (b : Book) → Represents r b
    → Lettered b (length marks) links (used_below (length marks) marks)
unfolding used_below asked
read_known {marks = marks} O b R = let z = O.size b R in record {
  size = z;
  small = omega (arith, R.size, R.ranged.size);
  fit = R.sheet.fit;
  linked = O.linked b R;
  in_use = fun_ext (λ x. used x (dec_lt x (length marks)));
}
  where
    used : (x : ℕ) → Dec (x < length marks) → bit (ltb x (length marks) && not (has_mark withdrawn_mark marks x)) ≡ bit ((asked b).in_use x)
    used x (yes h) = rw (O.marked b R x h, O.size b R) refl
    used x (no h) = rw (le-ltb x (length marks) (omega arith), le-ltb x b.n (omega (arith, O.size b R))) refl
