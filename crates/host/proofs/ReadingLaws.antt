-- What is read as one list says what the plain book says. Assumes nothing.
--   values_below f n
--                   f 0, f 1, and so on up to f (n − 1)
--   totals_of b, marks_of b
--                   the totals of the labels, and the marks of the records, of the book b
--   values_length, values_at, values_only
--                   the values of a function below a number: how many they are, each by its place, and that a list of so many with these values is theirs
--   totals_book, marks_book
--                   the totals, and the marks, read of words that keep a book: its own, and how many they are
--   totals_exported, marks_exported
--                   so of words that exported calls made, with the plain book after the calls
use Rattle.std.specs.Prelude.{◌≡◌, List, [], ◌∷◌, ◌++◌, take}
use Rattle.std.proofs.Math.Path.{refl, ap}
use Rattle.std.proofs.Common.{sym, subst, ◌∙◌, arith, ext_get_or, get_or-take, length-take-le}
use Prim.Native.Nat.{ℕ, zero, suc, ◌+◌, ◌<◌}
use Rattle.std.proofs.Math.Decide.{dec_lt}
use Rattle.std.proofs.Math.ListN.{length, get_or, length-append, get_or-append}
use Rattle.std.proofs.Math.Seq.{get_or-append-add}
use Rattle.book.specs.Causes.{labels}
use Rattle.book.specs.Book.{Book, Call, fresh, after, total}
use Rattle.answers.specs.Answers.{FirstPart}
use Rattle.answers.specs.declared.Counted.{Counted}
use Rattle.register.specs.History.{Lent}
use Rattle.register.specs.Marks.{mark_of}
use Rattle.host.specs.Host.{KeepsBook, told_counted, Told, Asked}
use Rattle.host.specs.Histories.{WordsMade}
use Rattle.host.proofs.HostLaws.{words_made}
use Rattle.host.specs.Reading.{ReadsTotals, ReadsMarks}

unfoldable pub values_below : (ℕ → ℕ) → ℕ → List ℕ
values_below f zero = []
values_below f (suc n) = values_below f n ++ (f n ∷ [])

abbrev pub totals_of : Book → List ℕ
totals_of b = values_below (total b.sheet) labels

abbrev pub marks_of : Book → List ℕ
marks_of b = values_below (mark_of b.sheet) b.n

module _ (f : ℕ → ℕ) where
  pub values_length : (n : ℕ) → length (values_below f n) ≡ n
  unfolding values_below
  values_length zero = refl
  values_length (suc n) = omega (arith, length-append (values_below f n) (f n ∷ []), values_length n)

  pub values_at : (n i : ℕ) → i < n → get_or (values_below f n) i 0 ≡ f i
  unfolding values_below
  values_at zero i h = absurd (omega arith)
  values_at (suc n) i h = go (dec_lt i n) (values_at n i)
    where
      go : Dec (i < n) → (i < n → get_or (values_below f n) i 0 ≡ f i) → get_or (values_below f n ++ (f n ∷ [])) i 0 ≡ f i
      go (yes l) ih = get_or-append (values_below f n) (f n ∷ []) 0 i (omega (arith, values_length n, l)) ∙ ih l
      go (no l) ih =
          let e : i ≡ length (values_below f n) + 0 = omega (arith, values_length n, l, h) in
          let m : n ≡ i = omega (arith, l, h) in
          ap (λ (j : ℕ). get_or (values_below f n ++ (f n ∷ [])) j 0) e ∙ get_or-append-add (values_below f n) (f n ∷ []) 0 0 ∙ ap f m

  pub values_only : (n : ℕ) (l : List ℕ) → length l ≡ n → ((i : ℕ) → i < n → get_or l i 0 ≡ f i) → l ≡ values_below f n
  values_only n l e v =
      ext_get_or 0 l (values_below f n) (e ∙ sym (values_length n)) (λ i h.
      let s : i < n = omega (arith, h, e) in v i s ∙ sym (values_at n i s))

part_as : {l m before after' : List ℕ} {a : Counted} → l ≡ m → FirstPart l before after' a → FirstPart m before after' a
part_as {before = before} {after'} {a} e t = subst (λ (x : List ℕ). FirstPart x before after' a) e t

module _ {ws before after' : List ℕ} {k : ℕ} (b : Book) (h : KeepsBook ws b) where
  pub totals_book : Asked ws (ReadsTotals before after') told_counted before after' k → Told (FirstPart (totals_of b) before after') told_counted k
  totals_book q =
      let t = q.answers h.0 h.1 in
      let ts = t.1.0 in
      let p = t.1.1 in
      (t.0, part_as (values_only (total b.sheet) labels ts p.long (p.totals b h.2)) t.1.2, t.2)

  pub marks_book : Asked ws (ReadsMarks before after') told_counted before after' k → Told (FirstPart (marks_of b) before after') told_counted k
  marks_book q =
      let t = q.answers h.0 h.1 in
      let n = t.1.0 in
      let ms = t.1.1 in
      let z = t.1.2 in
      let p = t.1.3 in
      let s : n ≡ b.n = z.size b h.2 in
      let g : length (take n ms) ≡ n = length-take-le n ms (omega (arith, z.small, p.long)) in
      let e : take n ms ≡ values_below (mark_of b.sheet) n =
      values_only (mark_of b.sheet) n (take n ms) g (λ i l. get_or-take n ms i 0 l ∙ p.marks b h.2 i) in
      (t.0, part_as (e ∙ ap (values_below (mark_of b.sheet)) s) t.1.4, t.2)

module _ {n : ℕ} {cs : List Call} {ws vs ks : List ℕ} {ls : List Lent} (M : WordsMade n cs ws vs ks ls) {before after' : List ℕ} {k : ℕ} where
  pub totals_exported : Asked vs (ReadsTotals before after') told_counted before after' k
      → Told (FirstPart (totals_of (after (fresh n) cs)) before after') told_counted k
  totals_exported q = totals_book (after (fresh n) cs) (words_made M).2 q

  pub marks_exported : Asked vs (ReadsMarks before after') told_counted before after' k
      → Told (FirstPart (marks_of (after (fresh n) cs)) before after') told_counted k
  marks_exported q = marks_book (after (fresh n) cs) (words_made M).2 q
