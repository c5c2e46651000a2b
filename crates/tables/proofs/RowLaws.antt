-- Laws of the helpers on tables of masks, row by row. What is done so far is what is in a set and not left of it.
--   done            what is done: 1 at the bits that are not left
--   done_none, done_all
--                   at first nothing, at last all of it
--   done_here, done_not, done_off
--                   at the lowest bit that is left: it is done after the turn and not before it, and nothing else changes
--   joined-none, joined-more, joined_same, joined_both
--                   rows joined with a mask: at first none, one more, by another name, and one set of rows after another
--   Joining, joining_none, joining_more, joining_all
--                   what a loop over the rows knows: before the first, after one more, at the end
--   done_letters, Entering, entering_none, entering_lt, entering_more, entering_all
--                   the same of the letters of some labels in one sense
--   mixed_none, mixed_more, mixed_same
--                   two tables mixed: at first the one, then a row more of the other, by another name
--   Exchanging, exchanging_none, exchanging_more, exchanging_all
--                   what a loop that exchanges rows knows: before the first, after one more, at the end
--   mirrored_none, mirrored_more, mirrored_pair
--                   the entries turned round under a mask: before the first, one more, both senses of a label
-- Assumes nothing.
use mathlib.Core.Path.{◌≡◌, refl, sym, ap, ap₂, ◌∙◌, subst}
use mathlib.Core.List.{List}
use Prim.Native.Nat.{ℕ, ◌+◌, ◌-◌, ◌*◌, ◌/◌, ◌%◌, ◌^◌, ◌≤◌, ◌<◌, min, max}
use native.Mathlib.Omega.{arith}
use native.Mathlib.Decide.{dec_lt, ℕ_discrete}
use lib.Bits.{bit_and, bit_or}
use lib.ListN.{length, get_or, set, length-set}
use lib.Pow.{ones_sub-lt}
use lib.Seq.{get_or-set_same, get_or-set_other}
use borrow.Author.Tests.{eq-eqb, ne_eqb}
use Rattle.k2.specs.Bits.{digit}
use Rattle.k2.specs.DigitLaws.{digit_lt, digit_none, digit_or, digit_and, digit_not, digit_big}
use Rattle.automaton.specs.Automata.{On, is}
use Rattle.automaton.proofs.LevelLaws.{Which, less, same, more, which}
use Rattle.automaton.proofs.LowestLaws.{Lowest, left_of, Among}
use Rattle.tables.specs.Rows.{Joined, sensed, Mixed, inverse_number, Turned}

-- ---- what is done
abbrev pub done : ℕ → ℕ → ℕ → ℕ
done from left p = digit from p - digit left p

pub done_none : (from p : ℕ) → done from from p ≡ 0
done_none from p = omega arith

pub done_all : (from p : ℕ) → done from 0 p ≡ digit from p
done_all from p = rw (digit_none p) (omega arith)

module _ (from : ℕ) {left q rest : ℕ} (A : Among left from) (L : Lowest left q rest) where
  pub done_here : done from rest q ≡ 1
  done_here = let o = A q L.on in let e = L.off in let b = digit_lt from q in omega arith

  pub done_not : done from left q ≡ 0
  done_not = let o = L.on in let b = digit_lt from q in omega arith

  pub done_off : (p : ℕ) → (p ≡ q → ⊥) → done from rest p ≡ done from left p
  done_off p n = let e = L.other p n in omega arith

-- ---- joined
pub joined-none : (rows : List ℕ) (from : ℕ → ℕ) (to : ℕ) → ((p : ℕ) → from p ≡ 0) → Joined rows from to rows
joined-none rows from to n = record { at = λ p q. (let e = n p in omega arith) }

pub joined-more : {rows : List ℕ} {f : ℕ → ℕ} {to : ℕ} {r : List ℕ} → Joined rows f to r → (g : ℕ → ℕ) (k : ℕ) → k < length r → f k ≡ 0 → g k ≡ 1
    → ((p : ℕ) → (p ≡ k → ⊥) → g p ≡ f p) → Joined rows g to (set r k (bit_or (get_or r k 0) to))
joined-more {rows} {f} {to} {r} J g k l e o n = record { at = λ p q. go p q (ℕ_discrete p k) }
  where
    go : (p q : ℕ) → Dec (p ≡ k) → digit (get_or (set r k (bit_or (get_or r k 0) to)) p 0) q ≡ max (digit (get_or rows p 0) q) (min (g p) (digit to q))
    go p q (yes h) =
        rw h (ap (λ (x : ℕ). digit x q) (get_or-set_same r k (bit_or (get_or r k 0) to) 0 l) ∙ digit_or (get_or r k 0) to q
        ∙ (let z = J.at k q in let b = digit_lt to q in omega arith))
    go p q (no h) = ap (λ (x : ℕ). digit x q) (get_or-set_other r k p (bit_or (get_or r k 0) to) 0 h) ∙ J.at p q ∙ (let z = n p h in omega arith)

pub joined_same : {rows : List ℕ} {f : ℕ → ℕ} {to : ℕ} {r : List ℕ} → Joined rows f to r → (g : ℕ → ℕ) → ((p : ℕ) → g p ≡ f p) → Joined rows g to r
joined_same J g e = record { at = λ p q. J.at p q ∙ (let z = e p in omega arith) }

pub joined_both : {rows : List ℕ} {f g : ℕ → ℕ} {to : ℕ} {r s : List ℕ} → Joined rows f to r → Joined r g to s → Joined rows (λ p. max (f p) (g p)) to s
joined_both {rows} {f} {g} {to} J K =
    record { at = λ p q. K.at p q ∙ ap (λ (x : ℕ). max x (min (g p) (digit to q))) (J.at p q) ∙ over (digit (get_or rows p 0) q) (f p) (g p) (digit to q) }
  where
    both : (a b t : ℕ) → max (min a t) (min b t) ≡ min (max a b) t
    both a b t = omega arith

    over : (d a b t : ℕ) → max (max d (min a t)) (min b t) ≡ max d (min (max a b) t)
    over d a b t = let z : max (max d (min a t)) (min b t) ≡ max d (max (min a t) (min b t)) = omega arith in z ∙ ap (max d) (both a b t)

-- what a loop over the bits of `from` knows, where some of them are left
pub record Joining (rows : List ℕ) (from to left : ℕ) (r : List ℕ) : Type 0 where
  pub low : left < 2 ^ 64
  pub among : Among left from
  pub long : length r ≡ 64
  pub joined : Joined rows (done from left) to r

pub joining_none : (rows : List ℕ) (from to : ℕ) → from < 2 ^ 64 → length rows ≡ 64 → Joining rows from to from rows
joining_none rows from to h l =
    record { low = h; among = λ j o. o; long = l; joined = joined-none rows (done from from) to (done_none from) }

pub joining_more : {rows : List ℕ} {from to left : ℕ} {r : List ℕ} → Joining rows from to left r → {q rest : ℕ} → Lowest left q rest
    → Joining rows from to rest (set r q (bit_or (get_or r q 0) to))
joining_more {rows} {from} {to} {left} {r} I {q} {rest} L = record {
  low = (let a = L.falls in let b = I.low in omega arith);
  among = λ j o. I.among j (left_of L j o);
  long = length-set r q (bit_or (get_or r q 0) to) ∙ I.long;
  joined = joined-more I.joined (done from rest) q (let a = L.small in let b = I.long in omega arith) (done_not from I.among L)
      (done_here from I.among L) (done_off from I.among L);
}

pub joining_all : {rows : List ℕ} {from to : ℕ} {r : List ℕ} → Joining rows from to 0 r → Joined rows (digit from) to r
joining_all {from = from} I = joined_same I.joined (digit from) (λ p. sym (done_all from p))

-- the same over the labels of a set, in one sense
abbrev pub done_letters : ℕ → ℕ → ℕ → ℕ → ℕ
done_letters labels left s c = min (is s (c % 2)) (done labels left (c / 2))

pub record Entering (rows : List ℕ) (labels s to left : ℕ) (r : List ℕ) : Type 0 where
  pub few : labels < 2 ^ 32
  pub low : left < 2 ^ 64
  pub among : Among left labels
  pub long : length r ≡ 64
  pub joined : Joined rows (done_letters labels left s) to r

pub entering_none : (rows : List ℕ) (labels s to : ℕ) → labels < 2 ^ 32 → length rows ≡ 64 → Entering rows labels s to labels rows
entering_none rows labels s to h l = record {
  few = h;
  low = omega arith;
  among = λ j o. o;
  long = l;
  joined = joined-none rows (done_letters labels labels s) to (λ c. (let z = done_none labels (c / 2) in omega arith));
}

module _ {rows : List ℕ} {labels s to left : ℕ} {r : List ℕ} (I : Entering rows labels s to left r) {q rest : ℕ} (L : Lowest left q rest) where
  pub entering_lt : q < 32
  entering_lt = go (dec_lt q 32)
    where
      go : Dec (q < 32) → q < 32
      go (yes h) = h
      go (no h) = absurd (let z = digit_big 32 q labels I.few (omega arith) in let o = I.among q L.on in omega arith)

  pub entering_more : s < 2 → Entering rows labels s to rest (set r (q * 2 + s) (bit_or (get_or r (q * 2 + s) 0) to))
  entering_more h = record {
    few = I.few;
    low = (let a = L.falls in let b = I.low in omega arith);
    among = λ j o. I.among j (left_of L j o);
    long = length-set r (q * 2 + s) (bit_or (get_or r (q * 2 + s) 0) to) ∙ I.long;
    joined = joined-more I.joined (done_letters labels rest s) (q * 2 + s) (let a = entering_lt in let b = I.long in omega arith)
        (rw half (let z = done_not labels I.among L in omega arith))
        (rw (half, sense, eq-eqb s s refl) (let z = done_here labels I.among L in omega arith)) off;
  }
    where
      half : (q * 2 + s) / 2 ≡ q
      half = omega arith

      sense : (q * 2 + s) % 2 ≡ s
      sense = omega arith

      off : (c : ℕ) → (c ≡ q * 2 + s → ⊥) → done_letters labels rest s c ≡ done_letters labels left s c
      off c n = go (ℕ_discrete (c / 2) q) (ℕ_discrete (c % 2) s)
        where
          go : Dec (c / 2 ≡ q) → Dec (c % 2 ≡ s) → done_letters labels rest s c ≡ done_letters labels left s c
          go (no e) d = ap (min (is s (c % 2))) (done_off labels I.among L (c / 2) e)
          go (yes e) (yes d) = absurd (n (omega arith))
          go (yes e) (no d) = rw (ne_eqb (c % 2) s d) (omega arith)

pub entering_all : {rows : List ℕ} {labels s to : ℕ} {r : List ℕ} → Entering rows labels s to 0 r → Joined rows (sensed labels s) to r
entering_all {labels = labels} {s} I = joined_same I.joined (sensed labels s) (λ c. ap (min (is s (c % 2))) (sym (done_all labels (c / 2))))

-- ---- mixed
pub mixed_none : (a b : List ℕ) (own : ℕ → ℕ) → ((p : ℕ) → own p ≡ 0) → Mixed a b own a
mixed_none a b own n = record { inside = λ p o. absurd (let e = n p in omega arith); outside = λ p e. refl }

pub mixed_more : {a b : List ℕ} {f : ℕ → ℕ} {r : List ℕ} → Mixed a b f r → (g : ℕ → ℕ) (k v : ℕ) → k < length r → v ≡ get_or b k 0 → g k ≡ 1
    → ((p : ℕ) → (p ≡ k → ⊥) → g p ≡ f p) → Mixed a b g (set r k v)
mixed_more {a} {b} {f} {r} M g k v l e o n = record { inside = λ p h. ins p h (ℕ_discrete p k); outside = λ p h. out p h (ℕ_discrete p k) }
  where
    ins : (p : ℕ) → On (g p) → Dec (p ≡ k) → get_or (set r k v) p 0 ≡ get_or b p 0
    ins p h (yes z) = rw z (get_or-set_same r k v 0 l ∙ e)
    ins p h (no z) = get_or-set_other r k p v 0 z ∙ M.inside p (let w = n p z in omega arith)

    out : (p : ℕ) → g p ≡ 0 → Dec (p ≡ k) → get_or (set r k v) p 0 ≡ get_or a p 0
    out p h (yes z) = absurd (let w : g k ≡ 0 = rw z at h in omega arith)
    out p h (no z) = get_or-set_other r k p v 0 z ∙ M.outside p (let w = n p z in omega arith)

pub mixed_same : {a b : List ℕ} {f : ℕ → ℕ} {r : List ℕ} → Mixed a b f r → (g : ℕ → ℕ) → ((p : ℕ) → g p ≡ f p) → Mixed a b g r
mixed_same M g e =
    record { inside = λ p o. M.inside p (let z = e p in omega arith); outside = λ p o. M.outside p (let z = e p in omega arith) }

-- what a loop over the bits of `own` knows, where some of them are left
pub record Exchanging (a b : List ℕ) (own left : ℕ) (r s : List ℕ) : Type 0 where
  pub low : left < 2 ^ 64
  pub among : Among left own
  pub long : length r ≡ 64
  pub long₂ : length s ≡ 64
  pub mixed : Mixed a b (done own left) r
  pub mixed₂ : Mixed b a (done own left) s

pub exchanging_none : (a b : List ℕ) (own : ℕ) → own < 2 ^ 64 → length a ≡ 64 → length b ≡ 64 → Exchanging a b own own a b
exchanging_none a b own h l m = record {
  low = h;
  among = λ j o. o;
  long = l;
  long₂ = m;
  mixed = mixed_none a b (done own own) (done_none own);
  mixed₂ = mixed_none b a (done own own) (done_none own);
}

pub exchanging_more : {a b : List ℕ} {own left : ℕ} {r s : List ℕ} → Exchanging a b own left r s → {q rest : ℕ} → Lowest left q rest
    → Exchanging a b own rest (set r q (get_or s q 0)) (set s q (get_or r q 0))
exchanging_more {a} {b} {own} {left} {r} {s} I {q} {rest} L =
    let none : done own left q ≡ 0 = done_not own I.among L in record {
      low = (let a = L.falls in let b = I.low in omega arith);
      among = λ j o. I.among j (left_of L j o);
      long = length-set r q (get_or s q 0) ∙ I.long;
      long₂ = length-set s q (get_or r q 0) ∙ I.long₂;
      mixed = mixed_more I.mixed (done own rest) q (get_or s q 0) (let a = L.small in let b = I.long in omega arith) (I.mixed₂.outside q none)
          (done_here own I.among L) (done_off own I.among L);
      mixed₂ = mixed_more I.mixed₂ (done own rest) q (get_or r q 0) (let a = L.small in let b = I.long₂ in omega arith) (I.mixed.outside q none)
          (done_here own I.among L) (done_off own I.among L);
    }

pub exchanging_all : {a b : List ℕ} {own : ℕ} {r s : List ℕ} → Exchanging a b own 0 r s → Mixed a b (digit own) r × Mixed b a (digit own) s
exchanging_all {own = own} I =
    (mixed_same I.mixed (digit own) (λ p. sym (done_all own p)), mixed_same I.mixed₂ (digit own) (λ p. sym (done_all own p)))

-- ---- turned
pub mirrored_none : (e : List ℕ) (own : ℕ) → Turned e own 0 e
mirrored_none e own =
    record { inside = λ c q h. absurd (omega arith); outside = λ c q h. absurd (omega arith); high = λ c q h. absurd (omega arith); above = λ c h. refl }

module _ {e : List ℕ} {own k : ℕ} {r : List ℕ} (I : Turned e own k r) (fo : own < 2 ^ 64) (l : k < length r) where
  abbrev v : ℕ
  v = bit_or (bit_and (get_or e k 0) ((2 ^ 64 - 1) - own)) (bit_and (get_or e (inverse_number k) 0) own)

  off : (c : ℕ) → (c ≡ k → ⊥) → get_or (set r k v) c 0 ≡ get_or r c 0
  off c n = get_or-set_other r k c v 0 n

  here : (q : ℕ) → q < 64 → digit (get_or (set r k v) k 0) q
      ≡ max (min (digit (get_or e k 0) q) (1 - digit own q)) (min (digit (get_or e (inverse_number k) 0) q) (digit own q))
  here q h = rw (get_or-set_same r k v 0 l, digit_or, digit_and, digit_not 64 q own fo h, digit_and)

  ins : (c q : ℕ) → c < k + 1 → q < 64 → On (digit own q) → Which c k → digit (get_or (set r k v) c 0) q ≡ digit (get_or e (inverse_number c) 0) q
  ins c q h g o (less f) = ap (λ (x : ℕ). digit x q) (off c (λ z. omega arith)) ∙ I.inside c q f g o
  ins c q h g o (same f) =
      rw f (here q g ∙ (let a = digit_lt own q in let b = digit_lt (get_or e (inverse_number k) 0) q in let d = digit_lt (get_or e k 0) q in omega arith))
  ins c q h g o (more f) = absurd (omega arith)

  out : (c q : ℕ) → c < k + 1 → q < 64 → digit own q ≡ 0 → Which c k → digit (get_or (set r k v) c 0) q ≡ digit (get_or e c 0) q
  out c q h g o (less f) = ap (λ (x : ℕ). digit x q) (off c (λ z. omega arith)) ∙ I.outside c q f g o
  out c q h g o (same f) = rw f (here q g ∙ (let b = digit_lt (get_or e (inverse_number k) 0) q in let d = digit_lt (get_or e k 0) q in omega arith))
  out c q h g o (more f) = absurd (omega arith)

  hi : (c q : ℕ) → c < k + 1 → 64 ≤ q → Which c k → digit (get_or (set r k v) c 0) q ≡ 0
  hi c q h g (less f) = ap (λ (x : ℕ). digit x q) (off c (λ z. omega arith)) ∙ I.high c q f g
  hi c q h g (same f) =
      rw (f, get_or-set_same r k v 0 l, digit_or, digit_and, digit_and, digit_big 64 q own fo g, digit_big 64 q ((2 ^ 64 - 1) - own) (ones_sub-lt 64 own) g)
      (omega arith)
  hi c q h g (more f) = absurd (omega arith)

  pub mirrored_more : Turned e own (k + 1) (set r k v)
  mirrored_more =
      record {
        high = λ c q h g. hi c q h g (which c k);
        inside = λ c q h g o. ins c q h g o (which c k);
        outside = λ c q h g o. out c q h g o (which c k);
        above = λ c h. off c (λ z. omega arith) ∙ I.above c (omega arith);
      }

-- both senses of the label whose plain letter has the number c
pub mirrored_pair : {e : List ℕ} {own c : ℕ} {r : List ℕ} (I : Turned e own c r) (fo : own < 2 ^ 64) → c % 2 ≡ 0 → c + 1 < length r
    → Turned e own (c + 2) (set (set r c (bit_or (bit_and (get_or r c 0) ((2 ^ 64 - 1) - own)) (bit_and (get_or r (c + 1) 0) own))) (c + 1)
    (bit_or (bit_and (get_or r (c + 1) 0) ((2 ^ 64 - 1) - own)) (bit_and (get_or r c 0) own)))
mirrored_pair {e} {own} {c} {r} I fo even l =
    let a : get_or r c 0 ≡ get_or e c 0 = I.above c (omega arith) in
    let b : get_or r (c + 1) 0 ≡ get_or e (c + 1) 0 = I.above (c + 1) (omega arith) in
    let i : c + 1 ≡ inverse_number c = omega arith in
    let odd : (c + 1) % 2 ≡ 1 = omega arith in
    let j : c ≡ inverse_number (c + 1) = omega arith in
    let one = put I (omega arith) (ap₂ both a (b ∙ ap (λ (k : ℕ). get_or e k 0) i)) in
    let two = put one (rw length-set l) (ap₂ both b (a ∙ ap (λ (k : ℕ). get_or e k 0) j)) in
    subst (λ (k : ℕ). Turned e own k (set (set r c (both (get_or r c 0) (get_or r (c + 1) 0))) (c + 1) (both (get_or r (c + 1) 0) (get_or r c 0))))
    (let z : c + 1 + 1 ≡ c + 2 = omega arith in z) two
  where
    both : ℕ → ℕ → ℕ
    both x y = bit_or (bit_and x ((2 ^ 64 - 1) - own)) (bit_and y own)

    put : {k : ℕ} {s : List ℕ} → Turned e own k s → k < length s → {w : ℕ} → w ≡ both (get_or e k 0) (get_or e (inverse_number k) 0)
        → Turned e own (k + 1) (set s k w)
    put I h {w} q = rw q (mirrored_more I fo h)
