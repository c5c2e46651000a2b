-- Whether a word is a word of an expression is computed here.
--   accepts e w     not 0 where w is a word of e, else 0
--   accepts_words, words_accepts
--                   that it says so exactly of the words of e
-- Assumes nothing.
use Rattle.std.specs.Prelude.{◌≡◌, refl, ◌⊎◌, List, [], ◌∷◌, ◌++◌, ℕ, zero, suc, min, max, ◌≤◌, length, take, drop}
use Rattle.std.proofs.Common.{ap, subst, inl, inr, ⊎_elim, arith, length-append}
use Rattle.book.specs.Basics.{bit}
use Rattle.k2.specs.PairSets.{most}
use Rattle.k2.specs.PairSetLaws.{one_of, bit_on, on_bit, most_some, some_most}
use Rattle.paths.specs.Expressions.{Letter, Symbol, stands_for, Expr, symbol, group, inverse, star, plus, optional, alternative, sequence}
use Rattle.paths.specs.Words.{backwards, Words, itself, inside, reversed, left, right, joined, once, again, star_none, star_some, optional_none}
use Rattle.paths.specs.Words.{optional_once}
use Rattle.paths.proofs.ChainLaws.{backwards_backwards}

abbrev pub is_letter : Symbol → List Letter → ℕ
is_letter s [] = 0
is_letter s (a ∷ []) = bit (stands_for s a)
is_letter s (a ∷ b ∷ w) = 0

abbrev pub is_none : List Letter → ℕ
is_none [] = 1
is_none (a ∷ w) = 0

-- a word of f followed by one of h
unfoldable pub parted : (List Letter → ℕ) → (List Letter → ℕ) → List Letter → ℕ
parted f h w = most (suc (length w)) (λ i. min (f (take i w)) (h (drop i w)))

-- at most k + 1 words of f, joined
unfoldable pub many : ℕ → (List Letter → ℕ) → List Letter → ℕ
many zero f w = f w
many (suc k) f w = max (f w) (parted f (many k f) w)

unfoldable pub accepts : Expr → List Letter → ℕ
accepts (symbol s) w = is_letter s w
accepts (group e) w = accepts e w
accepts (inverse e) w = accepts e (backwards w)
accepts (star e) w = max (is_none w) (many (length w) (accepts e) w)
accepts (plus e) w = many (length w) (accepts e) w
accepts (optional e) w = max (is_none w) (accepts e w)
accepts (alternative e f) w = max (accepts e w) (accepts f w)
accepts (sequence e f) w = parted (accepts e) (accepts f) w

-- ---- it says so only of words
take_drop : (i : ℕ) (w : List Letter) → take i w ++ drop i w ≡ w
take_drop zero w = refl
take_drop (suc i) [] = refl
take_drop (suc i) (a ∷ w) = ap (λ (l : List Letter). a ∷ l) (take_drop i w)

parted_some : (f h : List Letter → ℕ) (w : List Letter) → 1 ≤ parted f h w → (u v : List Letter) × (u ++ v ≡ w) × (1 ≤ f u) × (1 ≤ h v)
unfolding parted
parted_some f h w p =
    let r = most_some (suc (length w)) (λ i. min (f (take i w)) (h (drop i w))) p in
    (take r.0 w, drop r.0 w, take_drop r.0 w, omega (arith, r.2), omega (arith, r.2))

letter_is : (s : Symbol) (w : List Letter) → 1 ≤ is_letter s w → Words (symbol s) w
letter_is s [] h = absurd (omega arith)
letter_is s (a ∷ []) h = itself (bit_on (stands_for s a) h)
letter_is s (a ∷ b ∷ w) h = absurd (omega arith)

none_is : (w : List Letter) → 1 ≤ is_none w → [] ≡ w
none_is [] h = refl
none_is (a ∷ w) h = absurd (omega arith)

many_words : (e : Expr) → ((w : List Letter) → 1 ≤ accepts e w → Words e w) → (k : ℕ) (w : List Letter) → 1 ≤ many k (accepts e) w → Words (plus e) w
unfolding many
many_words e f zero w h = once (f w h)
many_words e f (suc k) w h = ⊎_elim
    (λ p. once (f w p))
    (λ p. let r = parted_some (accepts e) (many k (accepts e)) w p in
    subst (λ (v : List Letter). Words (plus e) v) r.2 (again (f r.0 r.3) (many_words e f k r.1 r.4)))
    (one_of (accepts e w) (parted (accepts e) (many k (accepts e)) w) h)

pub accepts_words : (e : Expr) (w : List Letter) → 1 ≤ accepts e w → Words e w
unfolding accepts
accepts_words (symbol s) w h = letter_is s w h
accepts_words (group e) w h = inside (accepts_words e w h)
accepts_words (inverse e) w h = subst (λ (v : List Letter). Words (inverse e) v) (backwards_backwards w) (reversed (accepts_words e (backwards w) h))
accepts_words (star e) w h = ⊎_elim
    (λ p. subst (λ (v : List Letter). Words (star e) v) (none_is w p) star_none)
    (λ p. star_some (many_words e (accepts_words e) (length w) w p))
    (one_of (is_none w) (many (length w) (accepts e) w) h)
accepts_words (plus e) w h = many_words e (accepts_words e) (length w) w h
accepts_words (optional e) w h = ⊎_elim
    (λ p. subst (λ (v : List Letter). Words (optional e) v) (none_is w p) optional_none)
    (λ p. optional_once (accepts_words e w p))
    (one_of (is_none w) (accepts e w) h)
accepts_words (alternative e f) w h = ⊎_elim (λ p. left (accepts_words e w p)) (λ p. right (accepts_words f w p)) (one_of (accepts e w) (accepts f w) h)
accepts_words (sequence e f) w h =
    let r = parted_some (accepts e) (accepts f) w h in
    subst (λ (v : List Letter). Words (sequence e f) v) r.2 (joined (accepts_words e r.0 r.3) (accepts_words f r.1 r.4))

-- ---- and of all
take-front : (u v : List Letter) → take (length u) (u ++ v) ≡ u
take-front [] v = refl
take-front (a ∷ u) v = ap (λ (l : List Letter). a ∷ l) (take-front u v)

drop-front : (u v : List Letter) → drop (length u) (u ++ v) ≡ v
drop-front [] v = refl
drop-front (a ∷ u) v = drop-front u v

some_parted : (f h : List Letter → ℕ) (u v : List Letter) → 1 ≤ f u → 1 ≤ h v → 1 ≤ parted f h (u ++ v)
unfolding parted
some_parted f h u v p q =
    some_most (suc (length (u ++ v))) (length u) (λ i. min (f (take i (u ++ v))) (h (drop i (u ++ v))))
    (omega (arith, length-append u v)) (rw (take-front u v, drop-front u v) (omega arith))

many_more : (k : ℕ) (f : List Letter → ℕ) (w : List Letter) → 1 ≤ f w → 1 ≤ many k f w
unfolding many
many_more zero f w h = h
many_more (suc k) f w h = omega arith

many_mono : (k j : ℕ) (f : List Letter → ℕ) (w : List Letter) → k ≤ j → 1 ≤ many k f w → 1 ≤ many j f w
unfolding many
many_mono zero j f w l h = many_more j f w h
many_mono (suc k) zero f w l h = absurd (omega arith)
many_mono (suc k) (suc j) f w l h = go (one_of (f w) (parted f (many k f) w) h) (λ v. many_mono k j f v (omega arith))
  where
    go : ((1 ≤ f w) ⊎ (1 ≤ parted f (many k f) w)) → ((v : List Letter) → 1 ≤ many k f v → 1 ≤ many j f v) → 1 ≤ max (f w) (parted f (many j f) w)
    go (inl p) ih = omega arith
    go (inr p) ih =
        let r = parted_some f (many k f) w p in
        let q : 1 ≤ parted f (many j f) w =
        subst (λ (v : List Letter). 1 ≤ parted f (many j f) v) r.2 (some_parted f (many j f) r.0 r.1 r.3 (ih r.1 r.4)) in
        omega arith

again_many : (f : List Letter → ℕ) (u v : List Letter) → 1 ≤ f u → 1 ≤ many (length v) f v → 1 ≤ many (length (u ++ v)) f (u ++ v)
unfolding many
again_many f [] v p q = q
again_many f (a ∷ u) v p q =
    let r : 1 ≤ parted f (many (length (u ++ v)) f) (a ∷ (u ++ v)) =
    some_parted f (many (length (u ++ v)) f) (a ∷ u) v p (many_mono (length v) (length (u ++ v)) f v (omega (arith, length-append u v)) q) in
    omega arith

pub words_accepts : {e : Expr} {w : List Letter} → Words e w → 1 ≤ accepts e w
unfolding accepts
words_accepts (itself {s} {a} h) = omega (arith, on_bit (stands_for s a) h)
words_accepts (inside w) = words_accepts w
words_accepts (reversed {w = v} w) = rw (backwards_backwards v) (words_accepts w)
words_accepts (left w) = omega (arith, words_accepts w)
words_accepts (right w) = omega (arith, words_accepts w)
words_accepts (joined {e = e} {f = f} {v = u} {w = v} p q) = some_parted (accepts e) (accepts f) u v (words_accepts p) (words_accepts q)
words_accepts (once {e = e} {w = u} w) = many_more (length u) (accepts e) u (words_accepts w)
words_accepts (again {e = e} {v = u} {w = v} p q) = again_many (accepts e) u v (words_accepts p) (words_accepts q)
words_accepts star_none = omega arith
words_accepts (star_some w) = omega (arith, words_accepts w)
words_accepts optional_none = omega arith
words_accepts (optional_once w) = omega (arith, words_accepts w)
