-- Printing and reading are each other's inverse.
--   pages_tell      no two ascending lists of different pairs have the same pages
--   holds_only      bytes hold one thing as the pages of a text
--   print_read      reading what was printed gives the pairs back
--   read_print      what was read, printed, gives the bytes
-- Assumes nothing.
use Rattle.std.specs.Prelude.{◌≡◌, refl, List, ℕ, ◌*◌, ◌≤◌, ◌<◌, length, take, drop}
use Rattle.std.proofs.Common.{sym, ap, subst, ◌∙◌, arith, take_at}
use Rattle.std.proofs.Math.Decide.{dec_lt}
use Rattle.book.specs.Basics.{Rises}
use Rattle.book.specs.Causes.{max_records, number, first_number}
use Rattle.book.specs.Book.{Book}
use Rattle.k2.specs.PairSets.{PairsBelow}
use Rattle.k2.specs.PairSetLaws.{listed_rises, listed_below}
use Rattle.k2.specs.Trees.{tree_unit}
use Rattle.paths.specs.Expressions.{Expr}
use Rattle.paths.specs.Grammar.{Verdict, accepted, long, outside, large, verdict_cause}
use Rattle.paths.specs.Chains.{asked}
use Rattle.paths.specs.Relations.{cells, pairs}
use Rattle.paths.specs.Verdicts.{verdict}
use Rattle.answers.specs.declared.Counted.{Counted}
use Rattle.answers.specs.declared.Counted.TheVariants.{Count, Refused}
use Rattle.paths.specs.Questions.{Outcome, refused, pairs_of, pairs_causes, over, list_after, count_of}
use Rattle.register.specs.Representation.{Represents}
use Rattle.register.specs.declared.Register.{Register}
use Rattle.pages.specs.Pages.{pages, IsPages}
use Rattle.pages.specs.PageCalls.{filled, print_outcome, Prints, ReadsPages}
use Rattle.pages.specs.PageCallLaws.{Content, listing, nothing, Holds, are_pages, no_pages, read_causes, read_outcome, reads_as}
use Rattle.pages.specs.PageCallLaws.{print_refused, print_little, print_short, print_filled, read_broken, read_short, read_filled}
use Rattle.pages.specs.Lines.{lines_of, words_before}
use Rattle.pages.specs.ReadLaws.{pages_stand}

-- ---- one list
pages_only : {text bytes l m : List ℕ} → IsPages text bytes l → IsPages text bytes m → l ≡ m
pages_only {text} {bytes} {l} {m} P Q =
    let A = pages_stand P in
    let B = pages_stand Q in
    let n : lines_of (length l) ≡ lines_of (length m) = omega (arith, A.size, B.size) in
    sym A.words ∙ ap (words_before bytes) n ∙ B.words

pub pages_tell : (text l m : List ℕ) → Rises 0 l → PairsBelow max_records l → Rises 0 m → PairsBelow max_records m → pages text l ≡ pages text m → l ≡ m
pages_tell text l m r b s c e =
    pages_only {text = text} {bytes = pages text l} (record { ascending = r; below = b; are = refl }) (record { ascending = s; below = c; are = e })

pub holds_only : {text bytes : List ℕ} {c d : Content} → Holds text bytes c → Holds text bytes d → c ≡ d
holds_only (are_pages P) (are_pages Q) = ap listing (pages_only P Q)
holds_only (are_pages {l = l} P) (no_pages n) = absurd (n l P)
holds_only (no_pages n) (are_pages {l = l} P) = absurd (n l P)
holds_only (no_pages n) (no_pages m) = refl

-- ---- what was printed
not_refused : (o : Outcome) {j k : ℕ} → Count k ≡ count_of o → o ≡ refused j → ⊥
unfolding count_of
not_refused o {j} {k} T q = let y : Count k ≡ Refused j = T ∙ ap count_of q in let z : ◌≡◌ {A = ℕ} 0 1 = cc in omega arith

count_told : (o : Outcome) {k : ℕ} {ws : List ℕ} → Count k ≡ count_of o → o ≡ filled ws → k ≡ length ws
unfolding count_of
count_told o {k} {ws} T q = let y : Count k ≡ Count (length ws) = T ∙ ap count_of q in cc

record Printed (b : Book) (text : List ℕ) (work room k : ℕ) : Type 0 where
  pub syntax : Expr
  pub is : verdict text ≡ accepted syntax
  pub outcome : print_outcome b text work room ≡ filled (pages text (pairs (asked b) syntax))
  pub size : k ≡ length (pages text (pairs (asked b) syntax))

printed : (b : Book) (text : List ℕ) (work room k : ℕ) (v : Verdict) → verdict text ≡ v
    → Count k ≡ count_of (print_outcome b text work room) → Printed b text work room k
unfolding pairs_causes verdict_cause first_number number
printed b text work room k long v T = absurd (not_refused _ T (print_refused b text work room 10 long v refl (omega arith)))
printed b text work room k outside v T = absurd (not_refused _ T (print_refused b text work room 9 outside v refl (omega arith)))
printed b text work room k large v T = absurd (not_refused _ T (print_refused b text work room 10 large v refl (omega arith)))
printed b text work room k (accepted e) v T = go (dec_lt work (32 * tree_unit b.n)) (dec_lt room (length (pages text (pairs (asked b) e))))
  where
    go : Dec (work < 32 * tree_unit b.n) → Dec (room < length (pages text (pairs (asked b) e))) → Printed b text work room k
    go (yes h) d = absurd (not_refused _ T (print_little b text work room e v h))
    go (no h) (yes d) = absurd (not_refused _ T (print_short b text work room e v (omega arith) d))
    go (no h) (no d) =
        let q = print_filled b text work room e v (omega arith) (omega arith) in
        record { syntax = e; is = v; outcome = q; size = count_told (print_outcome b text work room) {ws = pages text (pairs (asked b) e)} T q }

-- the pairs of a book that is represented are an ascending list of different pairs below 1,024
pairs_pages : {r : Register} (b : Book) (text : List ℕ) (e : Expr) → Represents r b → IsPages text (pages text (pairs (asked b) e)) (pairs (asked b) e)
unfolding pairs asked
pairs_pages b text e R =
    let n : b.n ≤ 1024 = omega (arith, R.size, R.ranged.size) in
    let q = listed_below b.n (cells (asked b) e) n in
    record { ascending = listed_rises b.n (cells (asked b) e) n; below = λ w i. let z = q w i in (omega (arith, z.0), omega (arith, z.1)); are = refl }

pub print_read : {r : Register} {b : Book} {text before after : List ℕ} (work : ℕ) {k : ℕ} → Represents r b → Prints r text work before after (Count k)
    → {list list' : List ℕ} {a : Counted} → ReadsPages text (take k after) list list' a → length (pairs_of b (verdict text)) ≤ length list
    → (a ≡ Count (length (pairs_of b (verdict text)))) × (list' ≡ over (pairs_of b (verdict text)) list)
unfolding count_of list_after pairs_of
print_read {r} {b} {text} {before} {after} work {k} R P {list} {list'} {a} read room =
    let Q = reads_as read in
    let B = P.book b R in
    let p = printed b text work (length before) k (verdict text) refl B.answer in
    let e = p.syntax in
    let l = pairs (asked b) e in
    let s : after ≡ over (pages text l) before = B.list ∙ ap (λ (o : Outcome). list_after o before) p.outcome in
    let t : take k after ≡ pages text l = ap (take k) s ∙ take_at (pages text l) (drop (length (pages text l)) before) k (sym p.size) in
    let H : Holds text (take k after) (listing l) = subst (λ (bs : List ℕ). Holds text bs (listing l)) (sym t) (are_pages (pairs_pages b text e R)) in
    let c : Q.content ≡ listing l = holds_only (Q.holds e p.is) H in
    let w : pairs_of b (verdict text) ≡ l = ap (pairs_of b) p.is in
    let o : read_outcome (verdict text) Q.content (length list) ≡ filled l =
    ap (λ (v : Verdict). read_outcome v Q.content (length list)) p.is ∙ ap (λ (x : Content). read_outcome (accepted e) x (length list)) c
    ∙ read_filled e l (length list) (subst (λ (m : List ℕ). length m ≤ length list) w room) in (
      Q.tells.answer ∙ ap count_of o ∙ ap (λ (m : List ℕ). Count (length m)) (sym w),
      Q.tells.list ∙ ap (λ (x : Outcome). list_after x list) o ∙ ap (λ (m : List ℕ). over m list) (sym w),
    )

-- ---- what was read
record Found (v : Verdict) (c : Content) (room k : ℕ) : Type 0 where
  pub syntax : Expr
  pub words : List ℕ
  pub is : v ≡ accepted syntax
  pub content : c ≡ listing words
  pub outcome : read_outcome v c room ≡ filled words
  pub size : k ≡ length words

found : (v : Verdict) (c : Content) (room k : ℕ) → Count k ≡ count_of (read_outcome v c room) → Found v c room k
unfolding read_outcome read_causes verdict_cause first_number number
found long c room k T = absurd (not_refused _ T refl)
found outside c room k T = absurd (not_refused _ T refl)
found large c room k T = absurd (not_refused _ T refl)
found (accepted e) nothing room k T = absurd (not_refused _ T (read_broken e room))
found (accepted e) (listing l) room k T = go (dec_lt room (length l))
  where
    go : Dec (room < length l) → Found (accepted e) (listing l) room k
    go (yes h) = absurd (not_refused _ T (read_short e l room h))
    go (no h) =
        let q = read_filled e l room (omega arith) in
        record { syntax = e; words = l; is = refl; content = refl; outcome = q; size = count_told (read_outcome (accepted e) (listing l) room) {ws = l} T q }

held : {text bytes : List ℕ} {c : Content} {l : List ℕ} → Holds text bytes c → c ≡ listing l → IsPages text bytes l
held {text} {bytes} {l = l} (are_pages {l = m} P) e = let z : m ≡ l = cc in subst (IsPages text bytes) z P
held (no_pages n) e = absurd (let z : ◌≡◌ {A = ℕ} 0 1 = cc in omega arith)

pub read_print : {text bytes list list' : List ℕ} {k : ℕ} → ReadsPages text bytes list list' (Count k) → pages text (take k list') ≡ bytes
unfolding list_after
read_print {text} {bytes} {list} {list'} {k} read =
    let Q = reads_as read in
    let f = found (verdict text) Q.content (length list) k Q.tells.answer in
    let l = f.words in
    let s : list' ≡ over l list = Q.tells.list ∙ ap (λ (o : Outcome). list_after o list) f.outcome in
    let t : take k list' ≡ l = ap (take k) s ∙ take_at l (drop (length l) list) k (sym f.size) in
    ap (pages text) t ∙ sym (held (Q.holds f.syntax f.is) f.content).are
