-- Laws of the numbers in work: marks written, states kept, the smallest step chosen.
--   number_here, number_other
--                    a number written: there, and at every other place
--   stamp_none, stamp_more
--                    marks written at the states of a set: none, the lowest that is left
--   bit_off, bit-at  the set of one state
--   kept_out         the states of a set with a given number: of no record
--   Sifted w a m d left r, sifted_none, sifted_same, sifted_out, sifted_kept
--                    r is the set m without those that are not left and have another number than d at the record a: none looked at, one that has it, one
--                    that has it not and is taken out, all of them
--   chosen_none, arc_small, chosen_first, chosen_more
--                    the smallest step: no arc looked at, arcs are small, arcs of other records, one arc more
-- Assumes nothing.
use mathlib.Core.Path.{◌≡◌, refl, sym, ap, ◌∙◌, subst}
use mathlib.Core.Logic.{◌⊎◌, inl, inr}
use mathlib.Core.List.{List}
use Prim.Native.Nat.{ℕ, ◌*◌, ◌+◌, ◌-◌, ◌^◌, ◌≤◌, ◌<◌}
use native.Mathlib.Omega.{arith}
use lib.Bits.{bit_and}
use lib.ListN.{length, get_or, set}
use lib.Pow.{pow-lt}
use lib.Seq.{get_or-set_same, get_or-set_other}
use borrow.Author.Tests.{eq-eqb}
use Rattle.k2.specs.Bits.{digit}
use Rattle.k2.specs.DigitLaws.{digit_none, digit_and, digit_not, digit_pow, digit_big}
use Rattle.automaton.specs.Automata.{On}
use Rattle.automaton.proofs.SetLaws.{on_min, on_is}
use Rattle.automaton.proofs.LevelLaws.{Which, less, same, more, which}
use Rattle.arcs.specs.Arcs.{arc_from, arc_to, arc_letter, arc_step_word}
use Rattle.search.specs.Levels.{number_at, Stamped}
use Rattle.search.specs.Steps.{Kept, Serve, Chosen, Better, no_states, not-less, less as smaller}
use Rattle.automaton.proofs.LowestLaws.{none_on, Digit, is_on, is_off, digit_of, some_digit, below_pow, Lowest, gone, Among}

-- ---- a number written
module _ (w : List ℕ) (r q v : ℕ) where
  pub number_here : r * 64 + q < length w → number_at (set w (r * 64 + q) v) r q ≡ v
  unfolding number_at
  number_here h = get_or-set_same w (r * 64 + q) v 0 h

  pub number_other : (a p : ℕ) → (a * 64 + p ≡ r * 64 + q → ⊥) → number_at (set w (r * 64 + q) v) a p ≡ number_at w a p
  unfolding number_at
  number_other a p n = get_or-set_other w (r * 64 + q) (a * 64 + p) v 0 n

-- ---- marks at the states of a set
pub stamp_none : (w : List ℕ) (r m mark : ℕ) → Stamped w r m mark m w
stamp_none w r m mark = record { hit = λ q h o e. absurd (omega arith); miss = λ q h e. refl; rest = λ a q h n. refl }

pub stamp_more : {w : List ℕ} {r m mark left : ℕ} {v : List ℕ} {k left' : ℕ} → Stamped w r m mark left v
    → Among left m → Lowest left k left' → r * 64 + k < length v → Stamped w r m mark left' (set v (r * 64 + k) mark)
stamp_more {w} {r} {m} {mark} {left} {v} {k} {left'} I A L l =
    record {
      hit = λ q h o e. ht q h o (which q k) (gone L q e);
      miss = ms;
      rest = λ a q h n. number_other v r k mark a q (λ e. (let z = L.small in n (omega arith))) ∙ I.rest a q h n;
    }
  where
    ht : (q : ℕ) → q < 64 → On (digit m q) → Which q k → (digit left q ≡ 0) ⊎ (q ≡ k) → number_at (set v (r * 64 + k) mark) r q ≡ mark
    ht q h o (same f) e = rw f (number_here v r k mark l)
    ht q h o (less f) (inl e) = number_other v r k mark r q (λ z. omega arith) ∙ I.hit q h o e
    ht q h o (less f) (inr e) = absurd (omega arith)
    ht q h o (more f) (inl e) = number_other v r k mark r q (λ z. omega arith) ∙ I.hit q h o e
    ht q h o (more f) (inr e) = absurd (omega arith)

    ms : (q : ℕ) → q < 64 → digit m q ≡ 0 → number_at (set v (r * 64 + k) mark) r q ≡ number_at w r q
    ms q h e = number_other v r k mark r q (λ z. let f : q ≡ k = omega arith in let o : On (digit m q) = rw f (A k L.on) in omega arith) ∙ I.miss q h e

-- ---- states kept
pub bit_off : (q j : ℕ) → On (digit (2 ^ q) j) → j ≡ q
bit_off q j o = on_is q j (rw digit_pow at o)

pub bit-at : (q : ℕ) → On (digit (2 ^ q) q)
bit-at q = rw (digit_pow, eq-eqb q q refl) (omega arith)

pub kept_out : (w : List ℕ) (n a m d : ℕ) → n ≤ a → Kept w n a m d 0
kept_out w n a m d h = record { from = λ q o. absurd (none_on q o); all = λ q l. absurd (omega arith) }

pub record Sifted (w : List ℕ) (a m d left r : ℕ) : Type 0 where
  pub among : (q : ℕ) → On (digit r q) → On (digit m q)
  pub from : (q : ℕ) → On (digit r q) → digit left q ≡ 0 → (q < 64) × (number_at w a q ≡ d)
  pub all : (q : ℕ) → q < 64 → On (digit m q) → number_at w a q ≡ d → On (digit r q)

pub sifted_none : (w : List ℕ) (a m d : ℕ) → Sifted w a m d m m
sifted_none w a m d = record { among = λ q o. o; from = λ q o e. absurd (omega arith); all = λ q h o f. o }

module _ {w : List ℕ} {a m d left r k left' : ℕ} (I : Sifted w a m d left r) (L : Lowest left k left') where
  pub sifted_same : number_at w a k ≡ d → Sifted w a m d left' r
  sifted_same g = record { among = I.among; from = λ q o e. go q o (gone L q e); all = I.all }
    where
      go : (q : ℕ) → On (digit r q) → (digit left q ≡ 0) ⊎ (q ≡ k) → (q < 64) × (number_at w a q ≡ d)
      go q o (inl e) = I.from q o e
      go q o (inr e) = (let l = L.small in omega arith, rw e g)

  pub sifted_out : (number_at w a k ≡ d → ⊥) → Sifted w a m d left' (bit_and r ((2 ^ 64 - 1) - 2 ^ k))
  sifted_out g =
      record {
        among = λ q o. I.among q (both q o).0;
        from = λ q o e. fm q (both q o) (gone L q e);
        all = λ q h o f. al q h o f (digit_of (digit (2 ^ k) q));
      }
    where
      both : (q : ℕ) → On (digit (bit_and r ((2 ^ 64 - 1) - 2 ^ k)) q) → On (digit r q) × On (digit ((2 ^ 64 - 1) - 2 ^ k) q)
      both q o = on_min _ _ (rw digit_and at o)

      without : (q : ℕ) → q < 64 → digit ((2 ^ 64 - 1) - 2 ^ k) q ≡ 1 - digit (2 ^ k) q
      without q h = digit_not 64 q (2 ^ k) (pow-lt {j = 64} L.small) h

      fm : (q : ℕ) → On (digit r q) × On (digit ((2 ^ 64 - 1) - 2 ^ k) q) → (digit left q ≡ 0) ⊎ (q ≡ k) → (q < 64) × (number_at w a q ≡ d)
      fm q o (inl e) = I.from q o.0 e
      fm q o (inr e) =
          let y : On (digit ((2 ^ 64 - 1) - 2 ^ k) k) = rw e at o.1 in
          let z = without k L.small in
          let x = bit-at k in
          absurd (omega arith)

      al : (q : ℕ) → q < 64 → On (digit m q) → number_at w a q ≡ d → Digit (digit (2 ^ k) q) → On (digit (bit_and r ((2 ^ 64 - 1) - 2 ^ k)) q)
      al q h o f (is_on x) = absurd (g (rw (bit_off k q x) at f))
      al q h o f (is_off e) = let y = I.all q h o f in let z = without q h in rw digit_and (omega arith)

pub sifted_kept : {w : List ℕ} {n a m d r : ℕ} → a < n → m < 2 ^ 64 → Sifted w a m d 0 r → Kept w n a m d r
sifted_kept {m = m} l h I =
    record {
      from = λ q o. (let z = I.from q o (digit_none q) in (z.0, l, I.among q o, z.1));
      all = λ q g o f. I.all q (small q o (which q 64)) o f;
    }
  where
    small : (q : ℕ) → On (digit m q) → Which q 64 → q < 64
    small q o (less f) = f
    small q o (same f) = absurd (let z = digit_big 64 q m h (omega arith) in omega arith)
    small q o (more f) = absurd (let z = digit_big 64 q m h (omega arith) in omega arith)

-- ---- the smallest step
pub chosen_none : (cs es w seen : List ℕ) (n r follows d k : ℕ) → Chosen cs es w seen n r follows d k k 65536 0
chosen_none cs es w seen n r follows d k =
    record { from = λ q o. absurd (none_on q o); all = λ j q h g. absurd (omega arith); some = λ h. absurd (omega arith); top = omega arith }

pub arc_small : (cs : List ℕ) (j : ℕ) → (arc_letter cs j < 64) × (arc_to cs j < 1024)
unfolding arc_letter arc_to
arc_small cs j = (omega arith, omega arith)

module _ {cs es w seen : List ℕ} {n r follows d k p word states : ℕ} (I : Chosen cs es w seen n r follows d k p word states) where
  -- arcs before p, if none of them is of the record
  pub chosen_first : {u : ℕ} → u ≤ p → ((j : ℕ) → j < k → arc_from cs j ≡ r → u ≤ j → p ≤ j) → Chosen cs es w seen n r follows d k u word states
  chosen_first lo h =
      record {
        from = λ q o. (let g = I.from q o in (g.0, g.1, g.2, g.3, omega (arith, g.4)));
        all = λ j q l g s. I.all j q l (h j l s.from g) s;
        some = I.some;
        top = I.top;
      }

module _ {cs es w seen : List ℕ} {n r follows d k p word states : ℕ} (I : Chosen cs es w seen n r follows d k p word states)
    {m u : ℕ} (hm : m < k) (hp : m < p) (hu : u ≤ m) (only : (j : ℕ) → j < k → arc_from cs j ≡ r → u ≤ j → (j ≡ m) ⊎ (p ≤ j)) where
  abbrev Leads : ℕ → ℕ → ℕ → ℕ → Type 0
  Leads word states j q = (word < arc_step_word cs j) ⊎ ((word ≡ arc_step_word cs j) × On (digit states q))

  -- where arc m serves no state, or none that is not there already
  chosen_same : ((q : ℕ) → Serve cs es w seen n r follows d m q → Leads word states m q) → Chosen cs es w seen n r follows d k u word states
  chosen_same at =
      record {
        from = λ q o. (let g = I.from q o in (g.0, g.1, g.2, g.3, omega (arith, g.4)));
        all = λ j q h g s. go j q h s (only j h s.from g);
        some = I.some;
        top = I.top;
      }
    where
      go : (j q : ℕ) → j < k → Serve cs es w seen n r follows d j q → (j ≡ m) ⊎ (p ≤ j) → Leads word states j q
      go j q h s (inr f) = I.all j q h f s
      go j q h s (inl f) = subst (λ (i : ℕ). Leads word states i q) (sym f) (at q (subst (λ (i : ℕ). Serve cs es w seen n r follows d i q) f s))

  module _ (K : ℕ) (at : arc_from cs m ≡ r)
      (Q : Kept w n (arc_to cs m) (bit_and (bit_and follows (get_or es (arc_letter cs m) 0)) (get_or seen (arc_to cs m) 0)) d K) where
    -- the states kept are those that serve
    serves : (q : ℕ) → On (digit K q) → Serve cs es w seen n r follows d m q
    serves q o =
        let z = Q.from q o in
        let b = on_min _ _ (rw digit_and at z.2) in
        let c = on_min _ _ (rw digit_and at b.0) in
        record { from = at; small = z.0; to = z.1; among = c.0; enters = c.1; seen_at = b.1; number = z.3 }

    served : (q : ℕ) → Serve cs es w seen n r follows d m q → On (digit K q)
    served q s =
        Q.all q s.to (rw (digit_and, digit_and) (let a = s.among in let b = s.enters in let c = s.seen_at in omega arith)) s.number

    pub chosen_more : {word' states' : ℕ} → Better word states (arc_step_word cs m) K word' states' → Chosen cs es w seen n r follows d k u word' states'
    chosen_more (no_states e) = chosen_same (λ q s. absurd (none_on q (rw e at (served q s))))
    chosen_more (not-less e) = chosen_same (λ q s. last q s (which word (arc_step_word cs m)))
      where
        -- the same word comes from the same letter and record
        twin : (q : ℕ) → word ≡ arc_step_word cs m → Serve cs es w seen n r follows d m q → On (digit states q)
        twin q f s =
            let c = arc_small cs m in
            let o = I.some (omega arith) in
            let g = I.from o.0 o.1 in
            let a = arc_small cs g.0 in
            let el : arc_letter cs g.0 ≡ arc_letter cs m = omega (arith, g.2) in
            let et : arc_to cs g.0 ≡ arc_to cs m = omega (arith, g.2) in
            let s' : Serve cs es w seen n r follows d g.0 q = record {
              from = g.3.from;
              small = s.small;
              to = rw et s.to;
              among = s.among;
              enters = rw el s.enters;
              seen_at = rw et s.seen_at;
              number = rw et s.number;
            } in
            pick g.0 g.2 (I.all g.0 q g.1 g.4 s')
          where
            pick : (j : ℕ) → arc_step_word cs j ≡ word → Leads word states j q → On (digit states q)
            pick j u (inl v) = absurd (omega arith)
            pick j u (inr v) = v.1

        last : (q : ℕ) → Serve cs es w seen n r follows d m q → Which word (arc_step_word cs m) → Leads word states m q
        last q s (less f) = inl f
        last q s (same f) = inr (f, twin q f s)
        last q s (more f) = absurd (omega arith)
    chosen_more (smaller z₀ e) =
        record {
          from = λ q o. (m, hm, refl, serves q o, hu);
          all = λ j q h g s. go j q h s (only j h s.from g);
          some = λ h. (let z = some_digit K K (below_pow K) z₀ in (z.0, z.2));
          top = (let t = I.top in omega arith);
        }
      where
        old : (j q : ℕ) → Leads word states j q → Leads (arc_step_word cs m) K j q
        old j q (inl f) = inl (omega arith)
        old j q (inr f) = inl (let g = f.0 in omega arith)

        go : (j q : ℕ) → j < k → Serve cs es w seen n r follows d j q → (j ≡ m) ⊎ (p ≤ j) → Leads (arc_step_word cs m) K j q
        go j q h s (inr f) = old j q (I.all j q h f s)
        go j q h s (inl f) = inr (ap (arc_step_word cs) (sym f), served q (subst (λ (i : ℕ). Serve cs es w seen n r follows d i q) f s))
