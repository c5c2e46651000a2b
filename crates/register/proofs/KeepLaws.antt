-- Laws of a register kept as words: the words of marks, what is read, what `load` reads, what `store` writes and what `edit_in` does.
--   tested_not, tested  a test that fails, and one that passes
--   of_others           what is read of words that were found to be no register's
--   fitted_drop         the words past as many as fit
--   front_shown         the first of the words of a part
--   part_fits, part_read
--                       a part written over an array of its length
--   marked_all          words that are each one of the three marks
--   formed_by, load_refused, load_made
--                       `load`: whether the words have the form; refused, or the register whose words they are
--   stored, store_refused
--                       `store`: the words of the register, or the space as it was
--   edited_in           `edit_in`: the words of the register that was edited
-- Assumes nothing.
use mathlib.Core.Path.{◌≡◌, refl, sym, ap, ◌∙◌}
use mathlib.Core.List.{List, [], ◌++◌, append-nil, append_assoc}
use mathlib.Core.Bool.{Bool, true, false, false≢true, true≢false}
use Prim.Native.Nat.{ℕ, ◌+◌, ◌-◌, ◌≤◌, ◌<◌}
use native.Mathlib.Decide.{dec_lt}
use native.Mathlib.Omega.{arith}
use lib.ListN.{length, take, drop, get_or, length-append, length-take, drop_of_length-le, get_or-eq_default}
use lib.Seq.{take_all, take_at, take-take, take-append-add, drop_at, drop-drop, length-take-le}
use Rattle.book.specs.Causes.{number, max_records, max_links}
use Rattle.book.specs.Book.{fresh}
use Rattle.answers.specs.Written.{written, Wrote}
use Rattle.answers.specs.WrittenLaws.{length_written}
use Rattle.register.specs.Counters.{Ranged, InRange}
use Rattle.register.specs.Representation.{Represents}
use Rattle.register.specs.Marks.{free_mark, withdrawn_mark, Marked}
use Rattle.register.specs.Inner.{AsLong, KeepsOne, Tested}
use Rattle.register.specs.Words.{state_words, links_at, ring_at, marks_at, totals_at, numbers_of, state_of, Keeps, OfWords}
use Rattle.register.specs.Inner.{Loads, Stores}
use Rattle.register.specs.WordLaws.{of_foreign, part_long, formed_keeps, keeps_formed}
use Rattle.register.specs.declared.Register.{Register}
use Rattle.register.specs.declared.Answer.TheVariants.{Done, Refused}

-- ---- tests
pub tested_not : {P : Type 0} → (P → ⊥) → Tested P false
tested_not f = record { sure = λ e. absurd (false≢true e); none = λ _ p. f p }

pub tested : {P : Type 0} → P → Tested P true
tested p = record { sure = λ _. p; none = λ e. absurd (true≢false e) }

-- ---- reading
pub of_others : {A : Type 0} {ws : List ℕ} {P : Register → A → Type 0} {none : A} {ok : Bool} → Tested (KeepsOne ws) ok → ok ≡ false → OfWords ws P none none
of_others t e = of_foreign (λ r k. t.none e (r, k)) refl

pub fitted_drop : (ws : List ℕ) (i at : ℕ) → i ≤ length ws → take i ws ≡ take at ws → drop i ws ≡ drop at ws
fitted_drop ws i at h e = go (dec_lt (length ws) at)
  where
    long : length (take at ws) ≡ i
    long = sym (ap length e) ∙ length-take-le i ws h

    go : Dec (length ws < at) → drop i ws ≡ drop at ws
    go (yes l) =
        drop_of_length-le ws {i = i} (omega (arith, long, ap length (take_all at ws (omega (arith, l)))))
        ∙ sym (drop_of_length-le ws {i = at} (omega (arith, l)))
    go (no l) = let same : i ≡ at = omega (arith, long, length-take-le at ws (omega (arith, l))) in ap (λ (j : ℕ). drop j ws) same

pub front_shown : (ws : List ℕ) (at most : ℕ) {out l : List ℕ} {c n : ℕ} → out ≡ take c (drop at ws) → c ≡ n → n ≤ most → take most (drop at ws) ≡ l
    → out ≡ take n l
front_shown ws at most {n = n} e q h s =
    e ∙ ap (λ (k : ℕ). take k (drop at ws)) q ∙ sym (take-take n most (drop at ws) h) ∙ ap (take n) s

-- ---- a part read out
pub part_fits : (ws : List ℕ) (at k : ℕ) → 0 + length (take k (drop at ws)) ≤ k
part_fits ws at k = omega (arith, length-take k (drop at ws))

pub part_read : (ws : List ℕ) (at k : ℕ) {before after : List ℕ} {q : ℕ} → at + k ≤ length ws → length before ≡ k → Wrote 0 (take k (drop at ws)) before after q
    → after ≡ take k (drop at ws)
unfolding written
part_read ws at k {before} h e c =
    let xs = take k (drop at ws) in
    let past : drop (0 + length xs) before ≡ [] = drop_of_length-le before {i = 0 + length xs} (omega (arith, e, part_long ws at k h)) in
    c.contents ∙ ap (λ (t : List ℕ). xs ++ t) past ∙ append-nil xs

-- ---- marks
pub marked_all : (ms : List ℕ) → ((j : ℕ) → j < length ms → get_or ms j free_mark ≤ withdrawn_mark) → Marked ms
marked_all ms f i = go (dec_lt i (length ms))
  where
    go : Dec (i < length ms) → get_or ms i free_mark ≤ withdrawn_mark
    go (yes h) = f i h
    go (no h) = let e : get_or ms i 0 ≡ 0 = get_or-eq_default ms 0 (omega arith) in omega arith

-- ---- load
pub formed_by : (ws : List ℕ) (ok : Bool) → state_words ≤ length ws → Ranged (get_or ws 0 0) (get_or ws 1 0) (get_or ws 2 0) (get_or ws 3 0)
    → Tested (Marked (take max_records (drop marks_at ws))) ok → Tested (KeepsOne ws) ok
formed_by ws ok l r t = record {
  sure = λ e. formed_keeps ws (record { long = l; ranged = r; marked = t.sure e });
  none = λ e k. t.none e (keeps_formed ws k).marked;
}

pub load_refused : (ws : List ℕ) (ok : Bool) {r : Register} → Tested (KeepsOne ws) ok → ok ≡ false → Represents r (fresh 0)
    → Loads ws (record { register = r; answer = Refused 16 })
unfolding number
load_refused ws ok t e h = record {
  loaded = λ z. let u : ◌≡◌ {A = ℕ} 0 1 = cc in absurd (omega arith);
  refused = λ _. (refl, (λ r k. t.none e (r, k)), h);
}

pub load_made : {ws : List ℕ} {r : Register} → Keeps ws r → Loads ws (record { register = r; answer = Done })
load_made k = record { loaded = λ _. k; refused = λ n. absurd (n refl) }

-- ---- store
-- a list whose front is known, after more is written behind that front
behind : (front xs before after : List ℕ) (at end : ℕ) → take at before ≡ front → length front ≡ at → at + length xs ≡ end
    → after ≡ written at xs before → take end after ≡ front ++ xs
unfolding written
behind front xs before after at end f l e c =
    ap (take end) (c ∙ ap (λ (t : List ℕ). t ++ (xs ++ drop (at + length xs) before)) f ∙ sym (append_assoc front xs (drop (at + length xs) before)))
    ∙ take_at (front ++ xs) (drop (at + length xs) before) end (length-append front xs ∙ omega arith)

-- the words past what is written
past : (xs before after : List ℕ) (at k : ℕ) → at + length xs ≤ k → k ≤ length before → after ≡ written at xs before → drop k after ≡ drop k before
unfolding written
past xs before after at k h l c =
    let m = at + length xs in
    let e : m + (k - m) ≡ k = omega arith in
    let p : length (take at before ++ xs) ≡ m = length-append (take at before) xs ∙ omega (arith, length-take-le at before (omega arith)) in
    ap (λ (i : ℕ). drop i after) (sym e)
    ∙ sym (drop-drop (k - m) m after)
    ∙ ap (drop (k - m)) (ap (drop m) (c ∙ sym (append_assoc (take at before) xs (drop m before))) ∙ drop_at (take at before ++ xs) (drop m before) m p)
    ∙ drop-drop (k - m) m before
    ∙ ap (λ (i : ℕ). drop i before) e

module _ (r : Register) (g : InRange r) (v : Marked r.marks) (l : AsLong r.links r.marks r.ring r.totals) where
  -- the ring, the marks and the totals, behind the counters and the links
  rest : (w₂ w₃ w₄ w₅ : List ℕ) {i j k : ℕ} → state_words ≤ length w₂ → take ring_at w₂ ≡ numbers_of r ++ r.links
      → Wrote ring_at r.ring w₂ w₃ i → Wrote marks_at r.marks w₃ w₄ j → Wrote totals_at r.totals w₄ w₅ k
      → Keeps w₅ r × (drop state_words w₅ ≡ drop state_words w₂)
  rest w₂ w₃ w₄ w₅ l₂ e₂ a b c =
      let l₃ : length w₃ ≡ length w₂ = ap length a.contents ∙ length_written ring_at r.ring w₂ (omega (arith, l₂, l.2)) in
      let l₄ : length w₄ ≡ length w₃ = ap length b.contents ∙ length_written marks_at r.marks w₃ (omega (arith, l₂, l₃, l.1)) in
      let f₂ : length (numbers_of r ++ r.links) ≡ ring_at = length-append (numbers_of r) r.links ∙ omega (arith, l.0) in
      let f₃ : length (numbers_of r ++ r.links ++ r.ring) ≡ marks_at = length-append (numbers_of r ++ r.links) r.ring ∙ omega (arith, f₂, l.2) in
      let f₄ : length (numbers_of r ++ r.links ++ r.ring ++ r.marks) ≡ totals_at =
      length-append (numbers_of r ++ r.links ++ r.ring) r.marks ∙ omega (arith, f₃, l.1) in
      let e₃ : take marks_at w₃ ≡ numbers_of r ++ r.links ++ r.ring =
      behind (numbers_of r ++ r.links) r.ring w₂ w₃ ring_at marks_at e₂ f₂ (omega (arith, l.2)) a.contents in
      let e₄ : take totals_at w₄ ≡ numbers_of r ++ r.links ++ r.ring ++ r.marks =
      behind (numbers_of r ++ r.links ++ r.ring) r.marks w₃ w₄ marks_at totals_at e₃ f₃ (omega (arith, l.1)) b.contents in
      let e₅ : take state_words w₅ ≡ state_of r =
      behind (numbers_of r ++ r.links ++ r.ring ++ r.marks) r.totals w₄ w₅ totals_at state_words e₄ f₄ (omega (arith, l.3)) c.contents in (
        record { ranged = g; links = l.0; ring = l.2; marks = l.1; marked = v; totals = l.3; words = e₅ },
        past r.totals w₄ w₅ totals_at state_words (omega (arith, l.3)) (omega (arith, l₂, l₃, l₄)) c.contents
            ∙ past r.marks w₃ w₄ marks_at state_words (omega (arith, l.1)) (omega (arith, l₂, l₃)) b.contents
            ∙ past r.ring w₂ w₃ ring_at state_words (omega (arith, l.2)) l₂ a.contents,
      )

  pub stored : (w₀ w₁ w₂ w₃ w₄ w₅ : List ℕ) {h i j k m : ℕ} → state_words ≤ length w₀ → Wrote 0 (numbers_of r) w₀ w₁ h → Wrote links_at r.links w₁ w₂ i
      → Wrote ring_at r.ring w₂ w₃ j → Wrote marks_at r.marks w₃ w₄ k → Wrote totals_at r.totals w₄ w₅ m → Stores r w₀ w₅ true
  stored w₀ w₁ w₂ w₃ w₄ w₅ l₀ a b c d e =
      let l₁ : length w₁ ≡ length w₀ = ap length a.contents ∙ length_written 0 (numbers_of r) w₀ (omega (arith, l₀)) in
      let l₂ : length w₂ ≡ length w₁ = ap length b.contents ∙ length_written links_at r.links w₁ (omega (arith, l₀, l₁, l.0)) in
      let e₁ : take links_at w₁ ≡ numbers_of r = behind [] (numbers_of r) w₀ w₁ 0 links_at refl refl refl a.contents in
      let e₂ : take ring_at w₂ ≡ numbers_of r ++ r.links = behind (numbers_of r) r.links w₁ w₂ links_at ring_at e₁ refl (omega (arith, l.0)) b.contents in
      let s = rest w₂ w₃ w₄ w₅ (omega (arith, l₀, l₁, l₂)) e₂ c d e in
      record {
        done = λ _. (
          s.0,
          s.1 ∙ past r.links w₁ w₂ links_at state_words (omega (arith, l.0)) (omega (arith, l₀, l₁)) b.contents
              ∙ past (numbers_of r) w₀ w₁ 0 state_words (omega arith) l₀ a.contents,
        );
        refused = λ e. absurd (true≢false e);
      }

  -- ---- edit in place
  -- the links were written where they stand, and then the rest
  pub edited_in : (w₀ w₁ w₂ w₃ w₄ w₅ : List ℕ) {h j k m : ℕ} → state_words ≤ length w₀
      → w₁ ≡ take links_at w₀ ++ (r.links ++ drop max_links (drop links_at w₀)) → Wrote 0 (numbers_of r) w₁ w₂ h
      → Wrote ring_at r.ring w₂ w₃ j → Wrote marks_at r.marks w₃ w₄ k → Wrote totals_at r.totals w₄ w₅ m
      → Keeps w₅ r × (drop state_words w₅ ≡ drop state_words w₀)
  unfolding written
  edited_in w₀ w₁ w₂ w₃ w₄ w₅ l₀ a b c d e =
      let n : links_at + max_links ≡ links_at + length r.links = omega (arith, l.0) in
      let a' : w₁ ≡ written links_at r.links w₀ =
      a ∙ ap (λ (t : List ℕ). take links_at w₀ ++ (r.links ++ t)) (drop-drop max_links links_at w₀ ∙ ap (λ (i : ℕ). drop i w₀) n) in
      let l₁ : length w₁ ≡ length w₀ = ap length a' ∙ length_written links_at r.links w₀ (omega (arith, l₀, l.0)) in
      let l₂ : length w₂ ≡ length w₁ = ap length b.contents ∙ length_written 0 (numbers_of r) w₁ (omega (arith, l₀, l₁)) in
      let tail : drop links_at w₁ ≡ r.links ++ drop max_links (drop links_at w₀) =
      ap (drop links_at) a ∙
      drop_at (take links_at w₀) (r.links ++ drop max_links (drop links_at w₀)) links_at (length-take-le links_at w₀ (omega (arith, l₀))) in
      let e₂ : take ring_at w₂ ≡ numbers_of r ++ r.links =
      ap (take ring_at) b.contents ∙ take-append-add (numbers_of r) (drop links_at w₁) max_links
      ∙ ap (λ (t : List ℕ). numbers_of r ++ t) (ap (take max_links) tail ∙ take_at r.links (drop max_links (drop links_at w₀)) max_links l.0) in
      let s = rest w₂ w₃ w₄ w₅ (omega (arith, l₀, l₁, l₂)) e₂ c d e in (
        s.0,
        s.1 ∙ past (numbers_of r) w₁ w₂ 0 state_words (omega arith) (omega (arith, l₀, l₁)) b.contents
            ∙ past r.links w₀ w₁ links_at state_words (omega (arith, l.0)) l₀ a',
      )

pub store_refused : (r : Register) (ws : List ℕ) → (state_words ≤ length ws → InRange r → Marked r.marks → ⊥) → Stores r ws ws false
store_refused r ws f = record { done = λ e. absurd (false≢true e); refused = λ _. (refl, f) }
