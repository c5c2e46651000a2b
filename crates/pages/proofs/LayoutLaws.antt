-- Laws of laying the pages out: a line from the pairs that are ahead, and how many bytes all take.
--   laid_head, laid_pairs  a head is laid, or the line of the pairs that were gathered
--   all_ahead, all_within, all_few, all_length
--                          all pair words are ahead of 0; they ascend, below the last; so many at the most; the bytes of their pages
--   held_listed            the pair words of a set are its pairs
--   count_held             so many a relation has
-- Assumes nothing.
use mathlib.Core.Path.{◌≡◌, refl, sym, ap, subst, ◌∙◌, fun_ext}
use mathlib.Core.List.{List, ◌++◌, append-nil}
use Prim.Native.Nat.{ℕ, zero, suc, ◌+◌, ◌-◌, ◌*◌, ◌/◌, ◌%◌, ◌≤◌, ◌<◌}
use native.Mathlib.Decide.{dec_lt}
use native.Mathlib.Omega.{arith}
use lib.ListN.{length, take, drop, drop_of_length-le}
use lib.Seq.{take_at, drop_at, take_all, drop-drop, length-take-le}
use Rattle.k2.specs.Bits.{bit_at, packed}
use Rattle.k2.specs.BitLaws.{bit_out, packed_bits, packed_length}
use Rattle.k2.specs.PairSets.{Cells, IsSet, if_set, listed}
use Rattle.k2.specs.PairSetLaws.{Within, ends, goes, within_append, within_length}
use Rattle.rows.specs.Rows.{flat, places}
use Rattle.rows.specs.RowLaws.{places_gap, pairs-in}
use Rattle.paths.specs.Questions.{row_width}
use Rattle.grid.specs.GridLaws.{first_set}
use Rattle.rowpairs.specs.Evaluation.{relation_in}
use Rattle.answers.specs.Written.{Wrote}
use Rattle.answers.specs.WrittenLaws.{wrote_as}
use Rattle.pages.specs.Pages.{pair_line, head_line, pages}
use Rattle.pages.specs.Lines.{pair_words, most_lines, held, pairs_held, lines_of, pairs_before, line_of, ahead, Gathered, Laid}
use Rattle.pages.specs.LineLaws.{line_head, line_pairs, length_head_line, length_pair_line, length_pages}
use Rattle.pages.specs.ReadLaws.{before_head, before_pairs, within_small}
use Rattle.pages.proofs.WritingLaws.{small_take}
use Rattle.pages.proofs.GatherLaws.{places_all}

-- ---- a line
-- the next six are those gathered, and what is ahead of the place after them is past them
gathered_six : (f : ℕ → ℕ) (p : ℕ) {words : List ℕ} {q count : ℕ} → length words ≡ 6 → Gathered f p words q count
    → (take 6 (ahead f p (pair_words - p)) ≡ take count words) × (drop 6 (ahead f p (pair_words - p)) ≡ ahead f q (pair_words - q))
gathered_six f p {words} {q} {count} n G = go (dec_lt count 6)
  where
    rest : List ℕ
    rest = ahead f q (pair_words - q)

    long : length (take count words) ≡ count
    long = length-take-le count words (omega (arith, G.few))

    go : Dec (count < 6) → (take 6 (ahead f p (pair_words - p)) ≡ take count words) × (drop 6 (ahead f p (pair_words - p)) ≡ rest)
    go (yes h) =
        let s : ahead f p (pair_words - p) ≡ take count words =
        G.found ∙ ap (λ (t : List ℕ). take count words ++ t) (G.all h) ∙ append-nil (take count words) in (
          ap (take 6) s ∙ take_all 6 (take count words) (omega (arith, long)),
          ap (drop 6) s ∙ drop_of_length-le (take count words) {i = 6} (omega (arith, long)) ∙ sym (G.all h),
        )
    go (no h) =
        let z : length (take count words) ≡ 6 = omega (arith, long, G.few) in
        (ap (take 6) G.found ∙ take_at (take count words) rest 6 z, ap (drop 6) G.found ∙ drop_at (take count words) rest 6 z)

module _ (f : ℕ → ℕ) (text : List ℕ) (i p : ℕ) {before after : List ℕ} where
  pub laid_head : {r : ℕ} → i % 60 ≡ 0 → i ≤ most_lines → p ≤ pair_words → Wrote (73 * i) (head_line text (i / 60)) before after r
      → Laid f text i p before after p
  unfolding line_of
  laid_head {r} e h l w =
      let z : r ≡ 73 * i + 73 = w.place ∙ ap (λ (n : ℕ). 73 * i + n) (length_head_line text (i / 60) (omega arith)) in
      record {
        in_range = l;
        lays = λ ws a. (
          subst (λ (q : ℕ). Wrote (73 * i) (line_of text ws i) before after q) z (wrote_as (sym (line_head text (take 6 (drop (pairs_before i) ws)) i e)) w),
          ap (λ (n : ℕ). drop n ws) (before_head i e) ∙ a,
        );
      }

  pub laid_pairs : {words : List ℕ} {q count r : ℕ} → 0 < i % 60 → length words ≡ 6 → Gathered f p words q count
      → Wrote (73 * i) (pair_line (take count words)) before after r → Laid f text i p before after q
  unfolding line_of
  laid_pairs {words} {q} {count} {r} e n G w =
      let few : count ≤ length words = omega (arith, G.few) in
      let z : r ≡ 73 * i + 73 =
      w.place ∙ ap (λ (n : ℕ). 73 * i + n)
      (length_pair_line (take count words) (small_take words count few G.small) (omega (arith, G.few, length-take-le count words few))) in
      let s = gathered_six f p n G in
      record {
        in_range = G.in_range;
        lays = λ ws a. (
          subst (λ (q : ℕ). Wrote (73 * i) (line_of text ws i) before after q) z
              (wrote_as (sym (line_pairs text (take 6 (drop (pairs_before i) ws)) i e ∙ ap pair_line (ap (take 6) a ∙ s.0))) w),
          ap (λ (n : ℕ). drop n ws) (before_pairs i e) ∙ sym (drop-drop 6 (pairs_before i) ws) ∙ ap (drop 6) a ∙ s.1,
        );
      }

-- ---- all pairs
ahead_within : (f : ℕ → ℕ) (p d : ℕ) → Within p (ahead f p d) (p + d)
unfolding ahead
ahead_within f p zero = ends {m = p} {t = p + 0} (omega arith)
ahead_within f p (suc d) =
    let e : suc p + d ≡ p + suc d = omega arith in
    go (f p) (subst (λ (t : ℕ). Within (suc p) (ahead f (suc p) d) t) e (ahead_within f (suc p) d))
  where
    go : (v : ℕ) → Within (suc p) (ahead f (suc p) d) (p + suc d) → Within p (if_set v p ++ ahead f (suc p) d) (p + suc d)
    go zero W = within_append (ends {m = p} {t = suc p} (omega arith)) W
    go (suc v) W = goes {m = p} {w = p} (omega arith) W

module _ (f : ℕ → ℕ) where
  pub all_ahead : pairs_held f ≡ ahead f 0 pair_words
  all_ahead = places_all f 1048576 refl

  pub all_within : Within 0 (pairs_held f) pair_words
  all_within = subst (λ (l : List ℕ). Within 0 l pair_words) (sym all_ahead) (ahead_within f 0 pair_words)

  pub all_few : length (pairs_held f) ≤ pair_words
  all_few = omega (arith, within_length all_within)

  pub all_length : (text : List ℕ) → length (pages text (pairs_held f)) ≡ 73 * lines_of (length (pairs_held f))
  all_length text = length_pages text (pairs_held f) (within_small (pairs_held f) all_within) all_few

-- the pair words of a set are its pairs
pub held_listed : (n : ℕ) (a : Cells) → n ≤ 1024 → IsSet n a → pairs_held (flat a) ≡ listed n a
unfolding flat
held_listed n a small A =
    places_gap (flat a) (n * 1024) 1048576 (omega arith) (λ k l h. A.row (k / 1024) (k % 1024) (omega arith))
    ∙ ap (λ (f : ℕ → ℕ). places f (n * 1024)) (sym rows) ∙ pairs-in n a small A (packed 16384 (flat a)) rows
  where
    bits : (k : ℕ) → flat a k < 2
    bits k = A.bit (k / 1024) (k % 1024)

    at : (k : ℕ) → Dec (k < 1048576) → bit_at (packed 16384 (flat a)) k ≡ flat a k
    at k (yes h) = packed_bits 16384 (flat a) k bits h
    at k (no h) =
        bit_out (packed 16384 (flat a)) k (rw (packed_length 16384 (flat a)) (omega arith)) ∙ sym (A.row (k / 1024) (k % 1024) (omega arith))

    rows : bit_at (packed 16384 (flat a)) ≡ flat a
    rows = fun_ext (λ k. at k (dec_lt k 1048576))

pub count_held : (ws ms : List ℕ) (n : ℕ) → n ≤ 1024 → length (listed n (relation_in ws ms n)) ≡ length (pairs_held (held ws ms n))
count_held ws ms n small = ap length (sym (held_listed n (relation_in ws ms n) small (first_set n (row_width n) ws ms)))
