-- Laws of the search for the pairs of a line: what is ahead of a place, past a gap, at a bit, and of all. Assumes nothing.
use mathlib.Core.Path.{◌≡◌, sym, ap, ◌∙◌}
use mathlib.Core.List.{List, [], ◌∷◌, ◌++◌, append_assoc, append-nil}
use Prim.Native.Nat.{ℕ, zero, suc, ◌+◌, ◌-◌, ◌≤◌, ◌<◌}
use native.Mathlib.Nat.{add-zero, suc-add, zero-add}
use native.Mathlib.Numerals.{add-one}
use native.Mathlib.Decide.{dec_lt}
use native.Mathlib.Omega.{arith}
use lib.ListN.{length, take, get_or, set}
use lib.Seq.{take-suc-set, get_or-set_same, get_or-set_other}
use Rattle.k2.specs.PairSets.{if_set}
use Rattle.bits.specs.BitSets.{Gap}
use Rattle.rows.specs.Rows.{places}
use Rattle.pages.specs.Lines.{pair_words, ahead}

ahead_far : (f : ℕ → ℕ) (p k d : ℕ) → Gap f p (p + k) → ahead f p (k + d) ≡ ahead f (p + k) d
unfolding ahead
ahead_far f p zero d g = ap (ahead f p) (zero-add d) ∙ ap (λ (q : ℕ). ahead f q d) (sym (add-zero p))
ahead_far f p (suc k) d g =
    let z : f p ≡ 0 = g p (omega arith) (omega arith) in
    let e : suc p + k ≡ p + suc k = omega arith in
    ap (ahead f p) (suc-add k d) ∙ ap (λ (v : ℕ). if_set v p ++ ahead f (suc p) (k + d)) z
    ∙ ahead_far f (suc p) k d (λ j a b. g j (omega arith) (omega arith)) ∙ ap (λ (q : ℕ). ahead f q d) e

pub ahead_gap : (f : ℕ → ℕ) (p r : ℕ) → p ≤ r → r ≤ pair_words → Gap f p r → ahead f p (pair_words - p) ≡ ahead f r (pair_words - r)
ahead_gap f p r h l g =
    let s : pair_words - p ≡ (r - p) + (pair_words - r) = omega arith in
    let e : p + (r - p) ≡ r = omega arith in
    ap (ahead f p) s ∙ ahead_far f p (r - p) (pair_words - r) (λ j a b. g j a (omega arith)) ∙ ap (λ (q : ℕ). ahead f q (pair_words - r)) e

pub ahead_hit : (f : ℕ → ℕ) (r : ℕ) → r < pair_words → f r ≡ 1 → ahead f r (pair_words - r) ≡ r ∷ ahead f (r + 1) (pair_words - (r + 1))
unfolding ahead
ahead_hit f r h e =
    let s : pair_words - r ≡ suc (pair_words - (r + 1)) = omega arith in
    ap (ahead f r) s ∙ ap (λ (v : ℕ). if_set v r ++ ahead f (suc r) (pair_words - (r + 1))) e
    ∙ ap (λ (q : ℕ). r ∷ ahead f q (pair_words - (r + 1))) (sym (add-one r))

pub ahead_end : (f : ℕ → ℕ) → ahead f pair_words (pair_words - pair_words) ≡ []
unfolding ahead
ahead_end f = let z : pair_words - pair_words ≡ 0 = omega arith in ap (ahead f pair_words) z

places_ahead : (f : ℕ → ℕ) (p d : ℕ) → places f (p + d) ≡ places f p ++ ahead f p d
unfolding places ahead
places_ahead f p zero = ap (places f) (add-zero p) ∙ sym (append-nil (places f p))
places_ahead f p (suc d) =
    let e : p + suc d ≡ suc p + d = omega arith in
    ap (places f) e ∙ places_ahead f (suc p) d ∙ append_assoc (places f p) (if_set (f p) p) (ahead f (suc p) d)

-- ahead of 0 are all
pub places_all : (f : ℕ → ℕ) (n : ℕ) → n ≡ pair_words → places f n ≡ ahead f 0 pair_words
unfolding places
places_all f n e = ap (places f) (e ∙ sym (zero-add pair_words)) ∙ places_ahead f 0 pair_words

-- one more is found
pub gathered_more : (f : ℕ → ℕ) (words l : List ℕ) (count place next : ℕ)
    → count < length words → place ≤ next → next < pair_words → Gap f place next → f next ≡ 1
    → l ≡ take count words ++ ahead f place (pair_words - place) → l ≡ take (count + 1) (set words count next) ++ ahead f (next + 1) (pair_words - (next + 1))
gathered_more f words l count place next c h n g e q =
    let rest = ahead f (next + 1) (pair_words - (next + 1)) in
    q ∙ ap (λ (t : List ℕ). take count words ++ t) (ahead_gap f place next h (omega arith) g ∙ ahead_hit f next n e)
    ∙ sym (append_assoc (take count words) (next ∷ []) rest)
    ∙ ap (λ (t : List ℕ). t ++ rest) (sym (take-suc-set words count next c) ∙ ap (λ (i : ℕ). take i (set words count next)) (sym (add-one count)))

pub small_more : (words : List ℕ) (count next : ℕ) → count < length words → next < pair_words → ((i : ℕ) → i < count → get_or words i 0 < pair_words)
    → (i : ℕ) → i < count + 1 → get_or (set words count next) i 0 < pair_words
small_more words count next c n s i h = go (dec_lt i count)
  where
    go : Dec (i < count) → get_or (set words count next) i 0 < pair_words
    go (yes l) = rw (get_or-set_other words count i next 0 (λ e. omega arith)) (s i l)
    go (no l) = let e : i ≡ count = omega arith in rw (e, get_or-set_same words count next 0 c) n
