-- Laws of a level committed: record by record of its list; what it is when all are done; and an empty level, committed by nothing.
--   commit_zero    an empty level, committed by nothing
--   Committing w seen nx mark list i w' seen' nx' records masks
--                  the first i records of the list are committed
--   committing_none, committing_more
--                  so before the first, and one record more
--   level_committed, level_cleared, level_held
--                  all of them: the level is committed, its words are cleared, and it is held as a list
-- Assumes nothing.
use mathlib.Core.Path.{◌≡◌, refl, sym, ap, ◌∙◌}
use mathlib.Core.List.{List}
use Prim.Native.Nat.{ℕ, ◌+◌, ◌≤◌, ◌<◌, max}
use native.Mathlib.Omega.{arith}
use native.Mathlib.Decide.{ℕ_discrete}
use lib.Bits.{bit_or}
use lib.ListN.{length, get_or, set}
use lib.Seq.{get_or-set_same, get_or-set_other}
use Rattle.k2.specs.Bits.{digit}
use Rattle.k2.specs.DigitLaws.{digit_none, digit_or}
use Rattle.automaton.specs.Automata.{On}
use Rattle.automaton.proofs.LevelLaws.{Which, less, same, more, which}
use Rattle.search.specs.Levels.{number_at, Stamped, Committed}
use Rattle.search.specs.Frontiers.{Listed, Frontier, Zero}
use Rattle.automaton.proofs.LowestLaws.{none_on, some_on, Digit, is_on, is_off, digit_of}
use Rattle.search.proofs.FrontierLaws.{listed_some}

-- an empty level, committed by nothing
pub commit_zero : (w s nx : List ℕ) (mark n : ℕ) → Zero nx → Committed w s nx mark n w s
commit_zero w s nx mark n z =
    record {
      hit = λ r q h g o. absurd (none_on q (rw (z r) at o));
      miss = λ r q h e. refl;
      seen_more = λ r q h. rw (z r, digit_none) (omega arith);
      seen_same = λ r q h. refl;
    }

pub record Committing (w seen nx : List ℕ) (mark : ℕ) (list : List ℕ) (i : ℕ) (w' seen' nx' records masks : List ℕ) : Type 0 where
  pub hit : (h q : ℕ) → h < i → q < 64 → On (digit (get_or nx (get_or list h 0) 0) q) → number_at w' (get_or list h 0) q ≡ mark
  pub miss : (r q : ℕ) → q < 64 → digit (get_or nx r 0) q ≡ 0 → number_at w' r q ≡ number_at w r q
  pub seen_in : (h q : ℕ) → h < i
      → digit (get_or seen' (get_or list h 0) 0) q ≡ max (digit (get_or seen (get_or list h 0) 0) q) (digit (get_or nx (get_or list h 0) 0) q)
  pub seen_off : (r q : ℕ) → ((h : ℕ) → h < i → get_or list h 0 ≡ r → ⊥) → digit (get_or seen' r 0) q ≡ digit (get_or seen r 0) q
  pub left : (r : ℕ) → ((h : ℕ) → h < i → get_or list h 0 ≡ r → ⊥) → get_or nx' r 0 ≡ get_or nx r 0
  pub gone : (h : ℕ) → h < i → get_or nx' (get_or list h 0) 0 ≡ 0
  pub records-at : (h : ℕ) → h < i → get_or records h 0 ≡ get_or list h 0
  pub masks_at : (h : ℕ) → h < i → get_or masks h 0 ≡ get_or nx (get_or list h 0) 0

pub committing_none : (w seen nx : List ℕ) (mark : ℕ) (list records masks : List ℕ) → Committing w seen nx mark list 0 w seen nx records masks
committing_none w seen nx mark list records masks = record {
  hit = λ h q l. absurd (omega arith);
  miss = λ r q l e. refl;
  seen_in = λ h q l. absurd (omega arith);
  seen_off = λ r q f. refl;
  left = λ r f. refl;
  gone = λ h l. absurd (omega arith);
  records-at = λ h l. absurd (omega arith);
  masks_at = λ h l. absurd (omega arith);
}

module _ {w seen nx : List ℕ} {mark : ℕ} {list : List ℕ} {i : ℕ} {w' seen' nx' records masks : List ℕ}
    (I : Committing w seen nx mark list i w' seen' nx' records masks) {c n : ℕ} (L : Listed list c n nx) where
  -- the record at i is not among the first
  first_here : i < c → (h : ℕ) → h < i → get_or list h 0 ≡ get_or list i 0 → ⊥
  first_here l h g e = L.apart h i g l e

  module _ (hi : i < c) {w₂ : List ℕ} (S : Stamped w' (get_or list i 0) (get_or nx' (get_or list i 0) 0) mark 0 w₂)
      (hs : get_or list i 0 < length seen') (hx : get_or list i 0 < length nx') (hr : i < length records) (hm : i < length masks) where
    abbrev r₀ : ℕ
    r₀ = get_or list i 0

    word : get_or nx' r₀ 0 ≡ get_or nx r₀ 0
    word = I.left r₀ (first_here hi)

    pub committing_more : Committing w seen nx mark list (i + 1) w₂
        (set seen' r₀ (bit_or (get_or seen' r₀ 0) (get_or nx' r₀ 0))) (set nx' r₀ 0) (set records i r₀) (set masks i (get_or nx' r₀ 0))
    committing_more = record {
      hit = λ h q l g o. ht h q g o (which h i) l;
      miss = λ r q g e. ms r q g e (ℕ_discrete r r₀);
      seen_in = λ h q l. si h q l (which h i);
      seen_off = λ r q f. seen_other r q (λ e. f i (omega arith) (sym e)) ∙ I.seen_off r q (λ h l e. f h (omega arith) e);
      left = λ r f. nx_other r (λ e. f i (omega arith) (sym e)) ∙ I.left r (λ h l e. f h (omega arith) e);
      gone = λ h l. gn h l (which h i);
      records-at = λ h l. ra h l (which h i);
      masks_at = λ h l. ma h l (which h i);
    }
      where
        seen_other : (r q : ℕ) → (r ≡ r₀ → ⊥) → digit (get_or (set seen' r₀ (bit_or (get_or seen' r₀ 0) (get_or nx' r₀ 0))) r 0) q ≡ digit (get_or seen' r 0) q
        seen_other r q f = ap (λ (x : ℕ). digit x q) (get_or-set_other seen' r₀ r (bit_or (get_or seen' r₀ 0) (get_or nx' r₀ 0)) 0 f)

        nx_other : (r : ℕ) → (r ≡ r₀ → ⊥) → get_or (set nx' r₀ 0) r 0 ≡ get_or nx' r 0
        nx_other r f = get_or-set_other nx' r₀ r 0 0 f

        ht : (h q : ℕ) → q < 64 → On (digit (get_or nx (get_or list h 0) 0) q) → Which h i → h < i + 1 → number_at w₂ (get_or list h 0) q ≡ mark
        ht h q g o (less f) l = S.rest (get_or list h 0) q g (first_here hi h f) ∙ I.hit h q f g o
        ht h q g o (same f) l = rw f (S.hit q g (rw word (rw f at o)) (digit_none q))
        ht h q g o (more f) l = absurd (omega arith)

        ms : (r q : ℕ) → q < 64 → digit (get_or nx r 0) q ≡ 0 → Dec (r ≡ r₀) → number_at w₂ r q ≡ number_at w r q
        ms r q g e (yes f) = let d : digit (get_or nx r₀ 0) q ≡ 0 = rw f at e in rw f (S.miss q g (rw word d) ∙ I.miss r₀ q g d)
        ms r q g e (no f) = S.rest r q g f ∙ I.miss r q g e

        si : (h q : ℕ) → h < i + 1 → Which h i → digit (get_or (set seen' r₀ (bit_or (get_or seen' r₀ 0) (get_or nx' r₀ 0))) (get_or list h 0) 0) q
            ≡ max (digit (get_or seen (get_or list h 0) 0) q) (digit (get_or nx (get_or list h 0) 0) q)
        si h q l (less f) = seen_other (get_or list h 0) q (first_here hi h f) ∙ I.seen_in h q f
        si h q l (same f) =
            rw f (ap (λ (x : ℕ). digit x q) (get_or-set_same seen' r₀ (bit_or (get_or seen' r₀ 0) (get_or nx' r₀ 0)) 0 hs)
            ∙ digit_or (get_or seen' r₀ 0) (get_or nx' r₀ 0) q
            ∙ ap (λ (x : ℕ). max x (digit (get_or nx' r₀ 0) q)) (I.seen_off r₀ q (first_here hi))
            ∙ ap (λ (x : ℕ). max (digit (get_or seen r₀ 0) q) (digit x q)) word)
        si h q l (more f) = absurd (omega arith)

        gn : (h : ℕ) → h < i + 1 → Which h i → get_or (set nx' r₀ 0) (get_or list h 0) 0 ≡ 0
        gn h l (less f) = nx_other (get_or list h 0) (first_here hi h f) ∙ I.gone h f
        gn h l (same f) = rw f (get_or-set_same nx' r₀ 0 0 hx)
        gn h l (more f) = absurd (omega arith)

        ra : (h : ℕ) → h < i + 1 → Which h i → get_or (set records i r₀) h 0 ≡ get_or list h 0
        ra h l (less f) = get_or-set_other records i h r₀ 0 (λ e. omega arith) ∙ I.records-at h f
        ra h l (same f) = rw f (get_or-set_same records i r₀ 0 hr)
        ra h l (more f) = absurd (omega arith)

        ma : (h : ℕ) → h < i + 1 → Which h i → get_or (set masks i (get_or nx' r₀ 0)) h 0 ≡ get_or nx (get_or list h 0) 0
        ma h l (less f) = get_or-set_other masks i h (get_or nx' r₀ 0) 0 (λ e. omega arith) ∙ I.masks_at h f
        ma h l (same f) = rw f (get_or-set_same masks i (get_or nx' r₀ 0) 0 hm ∙ word)
        ma h l (more f) = absurd (omega arith)

module _ {w seen nx : List ℕ} {mark : ℕ} {list : List ℕ} {c : ℕ} {w' seen' nx' records masks : List ℕ}
    (I : Committing w seen nx mark list c w' seen' nx' records masks) {n : ℕ} (L : Listed list c n nx) where
  -- a record with no state is not on the list
  not_listed : (r : ℕ) → get_or nx r 0 ≡ 0 → (h : ℕ) → h < c → get_or list h 0 ≡ r → ⊥
  not_listed r e h l f = let z : 0 < get_or nx r 0 = rw f at (listed_some L h l) in omega arith

  pub level_committed : Committed w seen nx mark n w' seen'
  level_committed =
      record {
        hit = λ r q h g o. ht r q g o (L.all r (some_on (get_or nx r 0) q o));
        miss = I.miss;
        seen_more = λ r q h. sm r q (digit_of (get_or nx r 0));
        seen_same = λ r q g. I.seen_off r q (λ h l e. (let z = L.small h l in omega arith));
      }
    where
      ht : (r q : ℕ) → q < 64 → On (digit (get_or nx r 0) q) → (h : ℕ) × (h < c) × (get_or list h 0 ≡ r) → number_at w' r q ≡ mark
      ht r q g o z = rw z.2 at (I.hit z.0 q z.1 g (rw z.2 o))

      sm : (r q : ℕ) → Digit (get_or nx r 0) → digit (get_or seen' r 0) q ≡ max (digit (get_or seen r 0) q) (digit (get_or nx r 0) q)
      sm r q (is_off e) =
          let z : digit (get_or nx r 0) q ≡ 0 = rw e (digit_none q) in
          I.seen_off r q (not_listed r e) ∙ (let y : digit (get_or seen r 0) q ≡ max (digit (get_or seen r 0) q) (digit (get_or nx r 0) q) = omega arith in y)
      sm r q (is_on o) = let z = L.all r o in rw z.2 at (I.seen_in z.0 q z.1)

  pub level_cleared : Zero nx'
  level_cleared r = go (digit_of (get_or nx r 0))
    where
      go : Digit (get_or nx r 0) → get_or nx' r 0 ≡ 0
      go (is_off e) = I.left r (not_listed r e) ∙ e
      go (is_on o) = let z = L.all r o in rw z.2 at (I.gone z.0 z.1)

  pub level_held : n ≤ 1024 → Frontier records masks c nx
  level_held hn = record {
    small = λ i h. rw (I.records-at i h) (let z = L.small i h in omega arith);
    at = λ i h. rw (I.records-at i h) (I.masks_at i h);
    all = λ r o. (let z = L.all r o in (z.0, z.1, I.records-at z.0 z.1 ∙ z.2));
  }
