-- The answer in plain variables: what a relation says of a record, each refusal, and the records that fall by the two marks.
--   marks_refused, marks_made
--                  the marks of a register's records: refused as the relation is, or told by it
--   number_core, number_beyond, number_unordered
--                  the number of the question: 2 for the core, 2 for an anchor, 20
--   refuses_core, refuses_beyond, refuses_unordered
--                  so it is refused
--   handed_short, handed_whole
--                  words handed over: 13, or all of them
--   first-refused, second_refused
--                  refused by the text or the work, of the first relation or the second
--   handed_over    with both, the records marked in the first alone are the answer
--   part_length, supports
--                  the part of the work that is lent on, and the promise
-- Assumes nothing.
use mathlib.Core.Path.{◌≡◌, refl, sym, ap, ap₂, ◌∙◌, subst, fun_ext}
use mathlib.Core.List.{List, [], ◌∷◌, ◌++◌}
use mathlib.Core.Bool.{Bool, true, false, not, ◌||◌, ◌&&◌}
use Prim.Native.Nat.{ℕ, zero, suc, ◌+◌, ◌-◌, ◌*◌, ◌≤◌, ◌<◌, min}
use native.Mathlib.Nat.{zero-add}
use native.Mathlib.Decide.{dec_lt}
use native.Mathlib.Omega.{arith}
use lib.ListN.{length, take, drop, get_or, length-drop}
use lib.Seq.{length-take-le}
use lib.Dec.{leb, ltb, eqb}
use borrow.Author.Tests.{lt-ltb, le-ltb, le-leb, lt-leb}
use Rattle.book.specs.Basics.{pick}
use Rattle.book.specs.Causes.{Cause, no_record, unordered_anchors, short_work, short_list, number, Caused, first_number, max_records}
use Rattle.book.specs.Book.{Link, Book, present, is_withdrawn}
use Rattle.book.proofs.BookLaws.{caused_positive}
use Rattle.k2.specs.PairSets.{Cells}
use Rattle.k2.specs.Trees.{tree_unit}
use Rattle.k2.specs.SizeLaws.{tree_unit_some}
use Rattle.paths.specs.Expressions.{Expr}
use Rattle.paths.specs.Grammar.{Verdict, accepted, long, outside, large, verdict_cause}
use Rattle.paths.specs.Chains.{Graph, asked}
use Rattle.paths.specs.Relations.{cells}
use Rattle.answers.specs.Answers.{counted, Whole}
use Rattle.answers.specs.Written.{written, Wrote}
use Rattle.answers.specs.AnswerLaws.{contained_refused, whole_refused, whole_given}
use Rattle.answers.specs.declared.Counted.{Counted}
use Rattle.answers.specs.declared.Counted.TheVariants.{Count, Refused}
use Rattle.paths.specs.Questions.{by_trees, refused, paired, unless, pairs_work, chain_work, pairs_causes, over, list_after, count_of, Tells}
use Rattle.register.specs.Representation.{Represents}
use Rattle.register.specs.Parting.{touches, without_links, without_record}
use Rattle.register.specs.PartingLaws.{present_without}
use Rattle.register.specs.declared.Register.{Register}
use Rattle.query.specs.Asking.{Asks}
use Rattle.query.proofs.AskingLaws.{handed_tells, whole_contained}
use Rattle.support.specs.declared.Marks.{Marks}
use Rattle.support.specs.Support.{without, some, chosen, reaches, falls, fallen, orderly, fallen_of, support_causes}
use Rattle.support.specs.Support.{support_outcome}
use Rattle.support.specs.SupportWork.{support_work}
use Rattle.support.proofs.SupportLaws.{chosen_same}
use Rattle.rowpairs.specs.Evaluation.{relation_in, RelatingIf}
use Rattle.rowpairs.specs.RelatingLaws.{relating_refused, relating_made}
use Rattle.rowpairs.specs.declared.Related.{Related}
use Rattle.support.specs.Inner.{lost, Marked, Compares}

-- ---- the marks of a register's records
module _ {known : Book → Type 0} {v : Verdict} {anchors : List ℕ} {work n : ℕ} {ws : List ℕ} {q : Related} (A : RelatingIf known v work ws q) where
  pub marks_refused : {k : ℕ} → q.answer ≡ Refused k → (rs : List Bool) → length rs ≡ max_records
      → Marked known v anchors work n (record { records = rs; number = k })
  marks_refused {k} e rs l =
      let c = A.leaves.caused k e in
      record {
        long = l;
        caused = λ _. c;
        number = λ b R. relating_refused A b R e;
        records = λ b R f s z. absurd (omega (arith, caused_positive c, z));
      }

  pub marks_made : {k : ℕ} → q.answer ≡ Count k → (rs : List Bool) → length rs ≡ max_records
      → ((x : ℕ) → x < n → get_or rs x false ≡ reaches (relation_in ws q.masks k) anchors x)
      → Marked known v anchors work n (record { records = rs; number = 0 })
  marks_made {k} e rs l joined = record {
    long = l;
    caused = λ z. absurd (z refl);
    number = λ b R. relating_made A b R e;
    records = λ b R f s z x h. joined x h ∙ ap (λ (g : Cells). reaches g anchors x) ((A.leaves.book b R).value f s k e);
  }

-- the graph of a book without the core's links
without_graph : (core : ℕ) (b : Book) → asked (without_record core b) ≡ without core (asked b)
unfolding asked without without_record without_links
without_graph core b = λ i. record { n = b.n; in_use = in_use i; present = left i }
  where
    in_use : ◌≡◌ {A = ℕ → Bool} (λ x. ltb x b.n && not (is_withdrawn (without_links core b.sheet) x))
        (λ x. ltb x b.n && not (is_withdrawn b.sheet x))
    in_use = refl

    left : ◌≡◌ {A = Link → Bool} (λ k. present (without_links core b.sheet) k) (λ k. present b.sheet k && not (touches core k))
    left = fun_ext (λ k. present_without core b.sheet k)

-- ---- the promise of a text with the verdict v, and the numbers of the question
abbrev pub SupportsFor : Register → ℕ → Verdict → List ℕ → ℕ → List ℕ → List ℕ → Counted → Type 0
SupportsFor r core v anchors work before = Asks (length before) r (λ b. support_outcome b core v anchors work (length before)) before

abbrev pub support_number : Book → ℕ → Verdict → List ℕ → ℕ → ℕ → ℕ
support_number b core v anchors work room = first_number (support_causes b core v anchors work room)

module _ (b : Book) (core : ℕ) (v : Verdict) (anchors : List ℕ) (work room : ℕ) where
  pub number_core : b.n ≤ core → support_number b core v anchors work room ≡ 2
  unfolding support_causes first_number number
  number_core h = rw (le-leb b.n core h)

  pub number_beyond : some (leb b.n) anchors ≡ true → support_number b core v anchors work room ≡ 2
  unfolding support_causes first_number number
  number_beyond h = rw h (go (leb b.n core) _)
    where
      go : (t : Bool) (k : ℕ) → pick (t || true) 2 k ≡ 2
      go true k = refl
      go false k = refl

  module _ (c : core < b.n) (a : some (leb b.n) anchors ≡ false) where
    pub number_unordered : orderly 0 anchors ≡ false → support_number b core v anchors work room ≡ 20
    unfolding support_causes first_number number
    number_unordered h = rw (lt-leb b.n core c, a, h)

    -- with a core and anchors that are not refused
    number_rest : orderly 0 anchors ≡ true
        → support_number b core v anchors work room
        ≡ first_number (verdict_cause v ++ ((short_work, ltb work (support_work b.n)) ∷ (short_list, ltb room (length (fallen_of b v core anchors))) ∷ []))
    unfolding support_causes first_number
    number_rest h = rw (lt-leb b.n core c, a, h)

-- of a text and work that are refused, the number does not hang on what follows
first_alike : (v : Verdict) (t : Bool) (cs : List (Cause × Bool)) → (first_number (verdict_cause v ++ ((short_work, t) ∷ [])) ≡ 0 → ⊥)
    → first_number (verdict_cause v ++ ((short_work, t) ∷ cs)) ≡ first_number (verdict_cause v ++ ((short_work, t) ∷ []))
unfolding verdict_cause first_number
first_alike (accepted e) true cs z = refl
first_alike (accepted e) false cs z = absurd (z refl)
first_alike long t cs z = refl
first_alike outside t cs z = refl
first_alike large t cs z = refl

first_passed : (v : Verdict) (t : Bool) (cs : List (Cause × Bool)) → first_number (verdict_cause v ++ ((short_work, t) ∷ [])) ≡ 0
    → ((e : Expr) × (v ≡ accepted e)) × (first_number (verdict_cause v ++ ((short_work, t) ∷ cs)) ≡ first_number cs)
unfolding verdict_cause first_number number
first_passed (accepted e) true cs z = absurd (omega arith)
first_passed (accepted e) false cs z = ((e, refl), refl)
first_passed long t cs z = absurd (omega arith)
first_passed outside t cs z = absurd (omega arith)
first_passed large t cs z = absurd (omega arith)

module _ (b : Book) (core : ℕ) (v : Verdict) (anchors : List ℕ) (work whole room : ℕ) (w : ltb whole (support_work b.n) ≡ ltb work (pairs_work b.n))
    (c : core < b.n) (a : some (leb b.n) anchors ≡ false) (o : orderly 0 anchors ≡ true) where
  abbrev follows : List (Cause × Bool)
  follows = (short_list, ltb room (length (fallen_of b v core anchors))) ∷ []

  as_pairs : support_number b core v anchors whole room ≡ first_number (verdict_cause v ++ ((short_work, ltb work (pairs_work b.n)) ∷ follows))
  as_pairs = number_rest b core v anchors whole room c a o ∙ ap (λ (t : Bool). first_number (verdict_cause v ++ ((short_work, t) ∷ follows))) w

  number_pairs : {k : ℕ} → k ≡ first_number (pairs_causes by_trees b v work) → (k ≡ 0 → ⊥) → support_number b core v anchors whole room ≡ k
  unfolding pairs_causes
  number_pairs e z = as_pairs ∙ first_alike v (ltb work (pairs_work b.n)) follows (λ y. z (e ∙ y)) ∙ sym e

  number_list : 0 ≡ first_number (pairs_causes by_trees b v work)
      → ((e : Expr) × (v ≡ accepted e)) × (support_number b core v anchors whole room ≡ first_number follows)
  unfolding pairs_causes
  number_list e = let p = first_passed v (ltb work (pairs_work b.n)) follows (sym e) in (p.0, as_pairs ∙ p.1)

-- ---- refusals
book_refused : (b : Book) (core : ℕ) (v : Verdict) (anchors : List ℕ) (work : ℕ) {k : ℕ} {before : List ℕ} → 0 < k
    → support_number b core v anchors work (length before) ≡ k → Tells (support_outcome b core v anchors work (length before)) before before (Refused k)
unfolding support_outcome count_of list_after
book_refused b core v anchors work {k = zero} h e = absurd (omega arith)
book_refused b core v anchors work {k = suc k} {before} h e =
    subst (λ (i : ℕ). Tells (unless i (paired (length (fallen_of b v core anchors)) (fallen_of b v core anchors))) before before (Refused (suc k))) (sym e) told
  where
    told : Tells (refused (suc k)) before before (Refused (suc k))
    told = record { answer = refl; list = refl }

module _ {r : Register} (core : ℕ) {n : ℕ} (v : Verdict) (anchors : List ℕ) (work : ℕ) {before : List ℕ} (size : (b : Book) → Represents r b → n ≡ b.n) where
  refuses : {k : ℕ} → Caused k → ((b : Book) → Represents r b → support_number b core v anchors work (length before) ≡ k)
      → SupportsFor r core v anchors work before before (Refused k)
  unfolding counted
  refuses {k} c f =
      record {
        contained = contained_refused (length before) 0 before before k c refl;
        book = λ b R. book_refused b core v anchors work (caused_positive c) (f b R);
      }

  pub refuses_core : n ≤ core → SupportsFor r core v anchors work before before (Refused 2)
  unfolding number
  refuses_core h = refuses (no_record, refl) (λ b R. number_core b core v anchors work (length before) (subst (λ (i : ℕ). i ≤ core) (size b R) h))

  pub refuses_beyond : some (leb n) anchors ≡ true → SupportsFor r core v anchors work before before (Refused 2)
  unfolding number
  refuses_beyond h =
      refuses (no_record, refl) (λ b R. number_beyond b core v anchors work (length before) (subst (λ (i : ℕ). some (leb i) anchors ≡ true) (size b R) h))

  pub refuses_unordered : core < n → some (leb n) anchors ≡ false → orderly 0 anchors ≡ false → SupportsFor r core v anchors work before before (Refused 20)
  unfolding number
  refuses_unordered h a o = refuses (unordered_anchors, refl) (λ b R.
      number_unordered b core v anchors work (length before) (subst (λ (i : ℕ). core < i) (size b R) h)
      (subst (λ (i : ℕ). some (leb i) anchors ≡ false) (size b R) a) o)

-- ---- words handed over
module _ (words : List ℕ) (count : ℕ) (fits : count ≤ length words) {l : List ℕ} (e : take count words ≡ l) where
  long_as : count ≡ length l
  long_as = sym (length-take-le count words fits) ∙ ap length e

  pub handed_short : {before : List ℕ} → length before < count → Whole l before before (Refused 13)
  handed_short {before} h = whole_refused l before before (subst (λ (i : ℕ). length before < i) long_as h) refl

  pub handed_whole : {before after : List ℕ} {q : ℕ} → count ≤ length before → Wrote 0 (take count words) before after q → Whole l before after (Count count)
  unfolding written
  handed_whole {before} {after} h W =
      whole_given l before after count long_as (subst (λ (i : ℕ). i ≤ length before) long_as h)
      (W.contents ∙ ap (λ (k : List ℕ). written 0 k before) e ∙ front)
    where
      front : written 0 l before ≡ over l before
      front = ap (λ (i : ℕ). l ++ drop i before) (zero-add (length l))

-- ---- the two marks compared
module _ (known : Book → Type 0) (core n : ℕ) (v : Verdict) (anchors : List ℕ) (work : ℕ) (before : List ℕ)
    (small : n ≤ max_records) (below : core < n) (within : some (leb n) anchors ≡ false)
    (o : orderly 0 anchors ≡ true) where
  here_core : (b : Book) → n ≡ b.n → core < b.n
  here_core b z = subst (λ (i : ℕ). core < i) z below

  here_anchors : (b : Book) → n ≡ b.n → some (leb b.n) anchors ≡ false
  here_anchors b z = subst (λ (i : ℕ). some (leb i) anchors ≡ false) z within

  declines : {k : ℕ} → Caused k
      → ((b : Book) → known b → n ≡ b.n → (whole : ℕ) → ltb whole (support_work b.n) ≡ ltb work (pairs_work b.n)
      → support_number b core v anchors whole (length before) ≡ k)
      → Compares known core n v anchors work before before (Refused k)
  unfolding counted
  declines {k} c f = record {
    contained = contained_refused (length before) 0 before before k c refl;
    book = λ b R z whole w. book_refused b core v anchors whole (caused_positive c) (f b R z whole w);
  }

  -- by the text or the work
  pub first-refused : {m : Marks} → Marked known v anchors work n m → (m.number ≡ 0 → ⊥)
      → Compares known core n v anchors work before before (Refused m.number)
  first-refused {m} M z =
      declines (M.caused z)
      (λ b R e whole w. number_pairs b core v anchors work whole (length before) w (here_core b e) (here_anchors b e) o (M.number b R) z)

  module _ {rest : Book → Type 0} {m : Marks} (M : Marked known v anchors work n m) (z : m.number ≡ 0) {p : Marks}
      (W : (b : Book) → known b → rest (without_record core b)) {later : ℕ} (kept : later ≡ work) (Q : Marked rest v anchors later n p) where
    -- what is left of a register has the same numbers
    second_none : (b : Book) → known b → n ≡ b.n → p.number ≡ 0
    unfolding pairs_causes without_record
    second_none b R s =
        Q.number (without_record core b) (W b R)
        ∙ ap (λ (j : ℕ). first_number (verdict_cause v ++ ((short_work, ltb j (pairs_work b.n)) ∷ []))) kept ∙ sym (M.number b R) ∙ z

    -- so that it is refused of no book's register
    pub second_refused : (p.number ≡ 0 → ⊥) → Compares known core n v anchors work before before (Refused p.number)
    second_refused y = declines (Q.caused y) (λ b R e whole w. absurd (y (second_none b R e)))

    -- the records lost are those that fall
    lost_fallen : (b : Book) → known b → n ≡ b.n → (e : Expr) → v ≡ accepted e
        → chosen (lost m.records p.records core) n ≡ fallen_of b v core anchors
    unfolding lost falls fallen_of fallen asked
    lost_fallen b R s e q =
        chosen_same (lost m.records p.records core) (falls (asked b) e core anchors) n (λ x h. same x h)
        ∙ ap (chosen (falls (asked b) e core anchors)) s ∙ whole ∙ ap (λ (u : Verdict). fallen_of b u core anchors) (sym q)
      where
        whole : chosen (falls (asked b) e core anchors) b.n ≡ fallen_of b (accepted e) core anchors
        whole = refl

        same : (x : ℕ) → x < n → lost m.records p.records core x ≡ falls (asked b) e core anchors x
        same x h =
            let second : get_or p.records x false ≡ reaches (cells (without core (asked b)) e) anchors x =
            Q.records (without_record core b) (W b R) e q (second_none b R s) x h
            ∙ ap (λ (g : Graph). reaches (cells g e) anchors x) (without_graph core b) in
            ap₂ (λ (u t : Bool). not (eqb x core) && (u && not t)) (M.records b R e q z x h) second

    -- with no number so far: the text is an expression, and the records lost are those that fall
    record Found (b : Book) (whole : ℕ) : Type 0 where
      pub fallen : chosen (lost m.records p.records core) n ≡ fallen_of b v core anchors
      pub number : support_number b core v anchors whole (length before)
          ≡ first_number ((short_list, ltb (length before) (length (fallen_of b v core anchors))) ∷ [])

    found : (b : Book) → known b → n ≡ b.n → (whole : ℕ) → ltb whole (support_work b.n) ≡ ltb work (pairs_work b.n) → Found b whole
    found b R s whole w =
        let q = number_list b core v anchors work whole (length before) w (here_core b s) (here_anchors b s) o (sym z ∙ M.number b R) in
        record { fallen = lost_fallen b R s q.0.0 q.0.1; number = q.1 }

    pub handed_over : {after : List ℕ} {a : Counted} → Whole (chosen (lost m.records p.records core) n) before after a
        → Compares known core n v anchors work before after a
    unfolding support_outcome
    handed_over {after} {a} H = record {
      contained = whole_contained H;
      book = λ b R s whole w.
          let K = found b R s whole w in
          subst (λ (i : ℕ). Tells (unless i (paired (length (fallen_of b v core anchors)) (fallen_of b v core anchors))) before after a) (sym K.number)
          (handed_tells _ (subst (λ (l : List ℕ). Whole l before after a) K.fallen H));
    }

-- ---- the whole work, and the part of it that is lent on
part_short : (work u c : ℕ) → 1 ≤ u → ltb work (32 * u + c) ≡ ltb (work - min work c) (32 * u)
part_short work u c h = go (dec_lt work (32 * u + c))
  where
    go : Dec (work < 32 * u + c) → ltb work (32 * u + c) ≡ ltb (work - min work c) (32 * u)
    go (yes l) = lt-ltb work (32 * u + c) l ∙ sym (lt-ltb (work - min work c) (32 * u) (omega arith))
    go (no l) = le-ltb work (32 * u + c) (omega arith) ∙ sym (le-ltb (work - min work c) (32 * u) (omega arith))

pub part_length : (ws : List ℕ) (s m : ℕ) → s ≡ min (length ws) m → length (take (length ws - s) (drop s ws)) ≡ length ws - min (length ws) m
part_length ws s m e = length-take-le (length ws - s) (drop s ws) (omega (arith, length-drop s ws)) ∙ ap (λ (i : ℕ). length ws - i) e

pub supports : {r : Register} {known : Book → Type 0} {core n : ℕ} {v : Verdict} {anchors : List ℕ} (work : ℕ) {part : ℕ} {before after : List ℕ} {a : Counted}
    → ((b : Book) → Represents r b → n ≡ b.n) → ((b : Book) → Represents r b → known b) → part ≡ work - min work (chain_work n)
    → Compares known core n v anchors part before after a → SupportsFor r core v anchors work before after a
supports {n = n} work {part} size known e C = record {
  contained = C.contained;
  book = λ b R.
      let z = size b R in
      C.book b (known b R) z work
      (part_short work (tree_unit b.n) (chain_work b.n) (tree_unit_some b.n)
      ∙ ap (λ (i : ℕ). ltb i (pairs_work b.n)) (ap (λ (i : ℕ). work - min work (chain_work i)) (sym z) ∙ sym e));
}
