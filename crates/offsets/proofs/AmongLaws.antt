-- What `offsets` makes of judging, passes and handing over is what it promises.
--   none_holds, some_holds
--                  by the flag of the passes: no placing meets all ties, or one does
--   limits_told    with a placing, the words told are the limits
--   calls_among    of the records that the ties are judged by, from what `judge`, `begin`, `settle` and `hand_over` ensure
--   calls_told     and of words that a caller keeps, from what all calls of `offsets` ensure
-- Assumes nothing.
use mathlib.Core.Path.{◌≡◌, refl, sym, ap, subst, ◌∙◌, fun_ext}
use mathlib.Core.List.{List, [], ◌∷◌, ◌++◌}
use mathlib.Core.Bool.{Bool, true, false}
use Prim.Native.Nat.{ℕ, suc, ◌+◌, ◌*◌, ◌≤◌, ◌<◌, ◌^◌}
use native.Mathlib.Nat.{not-suc-le-zero}
use native.Mathlib.Omega.{arith}
use lib.Dec.{ltb, eqb}
use lib.IntN.{ℤ, pos}
use lib.ListN.{length, take, get_or-append}
use lib.Signed.{mag}
use Rattle.book.specs.Causes.{short_work, short_list, number, first_number, max_records}
use Rattle.book.specs.Book.{is_withdrawn}
use Rattle.book.proofs.BookLaws.{first_caused}
use Rattle.answers.specs.Answers.{counted}
use Rattle.answers.specs.AnswerLaws.{contained_refused, contained_count}
use Rattle.register.specs.Inner.{SizeIn}
use Rattle.register.specs.Marks.{withdrawn_mark, has_mark}
use Rattle.register.specs.MarkLaws.{shows_withdrawn}
use Rattle.register.specs.Words.{Keeps}
use Rattle.register.specs.WordLaws.{keeps_mark}
use Rattle.register.specs.declared.Register.{Register}
use Rattle.offsets.specs.declared.Tie.{Tie}
use Rattle.offsets.specs.Relax.{State, dist, settled}
use Rattle.offsets.specs.Offsets.{Placing, Places, cannot, limits, OffsetsAre}
use Rattle.offsets.proofs.ThirdLaws.{Ready}
use Rattle.offsets.specs.Thirds.{Starts}
use Rattle.offsets.proofs.ArcLaws.{arcs3}
use Rattle.offsets.proofs.PassLaws.{settled_is, passes_length}
use Rattle.offsets.specs.Finds.{ran, least-word, most-word, Told, Fits}
use Rattle.offsets.proofs.FindsLaws.{cannot_exactly, cannot_are, told_are}
use Rattle.offsets.proofs.BoundLaws.{words_fit}
use Rattle.offsets.proofs.FrontLaws.{beside, ran_front}
use Rattle.offsets.specs.Answers.{OffsetsAnswer, Refused, told_offsets, OffsetsTold, offsets_causes, OffsetsFor, offsets_counted}
use Rattle.offsets.specs.Answers as answers
use Rattle.offsets.specs.Inner.{Records, Plan, Begins, rounds_of, is_withdrawn_in, judge_all, or_else, Filled, Plans, HandsOver, Among}
use Rattle.offsets.specs.Inner as inner
use Rattle.offsets.proofs.JudgeLaws.{causes_are, no_cause_ready}

-- ---- the front of the work
-- the words of a record read the front alone
module _ (n : ℕ) (x y : List ℤ) (long : length x ≡ n * 3) where
  front_dist : (i : ℕ) → i < n * 3 → dist (x ++ y) i ≡ dist x i
  front_dist i h = get_or-append x y (pos 0) i (subst (λ (m : ℕ). i < m) (sym long) h)

  front_least : (k : ℕ) → k < n → least-word n (x ++ y) k ≡ least-word n x k
  unfolding least-word
  front_least k h = rw (front_dist (n + k) (omega (arith, h)), front_dist (n * 2 + k) (omega (arith, h)))

  front_most : (k : ℕ) → k < n → most-word n (x ++ y) k ≡ most-word n x k
  unfolding most-word
  front_most k h = rw (front_dist (n + k) (omega (arith, h)))

  front_fits : Fits n x → Fits n (x ++ y)
  front_fits f k h = (subst (λ (z : ℤ). mag z < 2 ^ 31) (sym (front_least k h)) (f k h).0, subst (λ (z : ℤ). mag z < 2 ^ 31) (sym (front_most k h)) (f k h).1)

  front_told : (ws : List ℤ) → Told n (x ++ y) n ws → Told n x n ws
  front_told ws t k h = ((t k h).0 ∙ front_least k h, (t k h).1 ∙ front_most k h)

ran_length : (n : ℕ) (ts : List Tie) (l : List ℤ) → length (ran n ts l).0 ≡ length l
unfolding ran
ran_length n ts l = ap (λ (s : State). length s.0) (settled_is n (suc n) ts (l, false)) ∙ passes_length (suc n) (arcs3 n ts) (l, false)

-- ---- the passes over the work as it was filled
module _ (n base : ℕ) (ts : List Tie) (ready : Ready n ts) (base_in : base < n) (l : List ℤ) (filled : Filled n base l) where
  abbrev x : List ℤ
  x = filled.0

  abbrev y : List ℤ
  y = filled.1.0

  starts : Starts n base x
  starts = filled.1.1.1

  ran_is : ran n ts l ≡ beside y (ran n ts x)
  ran_is = ap (ran n ts) filled.1.1.0 ∙ ran_front n ts ready x y starts.0

  flag_is : (ran n ts l).1 ≡ (ran n ts x).1
  flag_is = ap (λ (s : State). s.1) ran_is

  list_is : (ran n ts l).0 ≡ (ran n ts x).0 ++ y
  list_is = ap (λ (s : State). s.0) ran_is

  long : length (ran n ts x).0 ≡ n * 3
  long = ran_length n ts x ∙ starts.0

  pub none_holds : (ran n ts l).1 ≡ true → OffsetsAre n base ts cannot
  none_holds e = cannot_are n base ts ready base_in x starts (sym flag_is ∙ e)

  pub some_holds : (ran n ts l).1 ≡ false → (p : Placing) × Places p ts
  some_holds e = (cannot_exactly n base ts ready base_in x starts).1 (sym flag_is ∙ e)

  pub limits_told : (ran n ts l).1 ≡ false → (ws : List ℤ) → n * 2 ≤ length ws
      → (Fits n (ran n ts l).0 → Told n (ran n ts l).0 n ws) → OffsetsAre n base ts (limits (take (n * 2) ws))
  limits_told e ws h t =
      let p = some_holds e in
      let fits = words_fit n base ts ready base_in x starts p.0 p.1 in
      told_are n base ts ready base_in x starts (sym flag_is ∙ e) ws h
      (front_told n (ran n ts x).0 y long ws (subst (λ (r : List ℤ). Fits n r → Told n r n ws) list_is t (front_fits n (ran n ts x).0 y long fits)))

-- ---- the whole
no_number : {k : ℕ} → suc k ≡ 0 → {X : Type 0} → X
no_number e = absurd (let none : 1 ≤ 0 = omega (arith, e) in not-suc-le-zero none)

module _ (g : Records) (base : ℕ) (ts : List Tie) (work₀ work₁ work₂ before after : List ℤ)
    (found : ℕ) (p : Plan) (on : Bool) (judged : found ≡ judge_all g.n g.marks ts 0)
    (plans : Plans g base found (length ts) work₀ work₁ p) (ends : ◌≡◌ {A = State} (work₂, on) (settled g.n p.rounds ts (work₁, false)))
    (same : length work₂ ≡ length work₀) where
  abbrev n : ℕ
  n = g.n

  abbrev w : ℕ → Bool
  w = is_withdrawn_in g.marks

  -- the number against the work, and that against base, ties and work
  abbrev short : ℕ
  short = first_number ((short_work, ltb (length work₀) (answers.offsets_work n)) ∷ [])

  abbrev judgement : ℕ → ℕ
  judgement z = or_else (inner.sooner (inner.base_number n g.marks base (length ts)) z) short

  refused_is : (k : ℕ) → g.refused ≡ suc k → p.cause ≡ suc k
  refused_is k e = plans.cause ∙ ap (λ (z : ℕ). or_else z (judgement found)) e

  cause_is : g.refused ≡ 0 → p.cause ≡ first_number (offsets_causes n w base ts (length work₀))
  cause_is e =
      plans.cause ∙ ap (λ (z : ℕ). or_else z (judgement found)) e ∙ ap judgement judged
      ∙ causes_are g base ts (length work₀)

  module _ (zero-refused : g.refused ≡ 0) (few : n ≤ max_records) (zero-cause : p.cause ≡ 0) where
    none : first_number (offsets_causes n w base ts (length work₀)) ≡ 0
    none = sym (cause_is zero-refused) ∙ zero-cause

    able : Ready n ts × ((base < n) × (n * 64 ≤ length work₀))
    able = no_cause_ready n w base ts (length work₀) few none

    ran_is' : ◌≡◌ {A = State} (work₂, on) (ran n ts work₁)
    unfolding ran
    ran_is' = ends ∙ ap (λ (k : ℕ). settled n k ts (work₁, false)) (plans.filled zero-cause).1

    on_is : on ≡ (ran n ts work₁).1
    on_is = ap (λ (s : State). s.1) ran_is'

    work_is : work₂ ≡ (ran n ts work₁).0
    work_is = ap (λ (s : State). s.0) ran_is'

    filled : Filled n base work₁
    filled = (plans.filled zero-cause).0

    cannot_case : on ≡ true → OffsetsAre n base ts cannot
    cannot_case e = none_holds n base ts able.0 able.1.0 work₁ filled (sym on_is ∙ e)

    placed : on ≡ false → (q : Placing) × Places q ts
    placed e = some_holds n base ts able.0 able.1.0 work₁ filled (sym on_is ∙ e)

    told_case : on ≡ false → n * 2 ≤ length after → (Fits n work₂ → Told n work₂ n after) → OffsetsAre n base ts (limits (take (n * 2) after))
    told_case e h t =
        limits_told n base ts able.0 able.1.0 work₁ filled (sym on_is ∙ e) after h (subst (λ (r : List ℤ). Fits n r → Told n r n after) work_is t)

    scant_not : length work₂ < n * 3 → ⊥
    scant_not h = let big = able.1.1 in let none' : 1 ≤ 0 = omega (arith, h, big, same) in not-suc-le-zero none'

  pub calls_among : (a : OffsetsAnswer) → length after ≡ length before
      → HandsOver p.cause n on work₂ before after a → Among g base ts (length work₀) before after a
  unfolding offsets_counted counted
  calls_among a kept (inner.refused {k} e q) = record {
    refused = λ j r. (ap Refused (sym e ∙ refused_is j r), q);
    contained = λ z. contained_refused (length before) 0 before after (suc k)
        (first_caused (offsets_causes n w base ts (length work₀)) (sym e ∙ cause_is z) (λ b. no_number b)) q;
    found = λ z few. answers.refused (sym (cause_is z) ∙ e) q;
  }
  calls_among a kept (inner.cannot_hold e o q) = record {
    refused = λ j r. no_number (sym (refused_is j r) ∙ e);
    contained = λ z. contained_count (length before) 0 before after 0 (omega arith) q;
    found = λ z few. answers.cannot_hold (none z few e) (cannot_case z few e o) q;
  }
  calls_among a kept (inner.scant e h q) = record {
    refused = λ j r. no_number (sym (refused_is j r) ∙ e);
    contained = λ z. contained_refused (length before) 0 before after (number short_work) (short_work, refl) q;
    found = λ z few. absurd (scant_not z few e h);
  }
  calls_among a kept (inner.short e o h q) = record {
    refused = λ j r. no_number (sym (refused_is j r) ∙ e);
    contained = λ z. contained_refused (length before) 0 before after (number short_list) (short_list, refl) q;
    found = λ z few. let s = placed z few e o in answers.short (none z few e) s.0 s.1 h q;
  }
  calls_among a kept (inner.told e o h t q) = record {
    refused = λ j r. no_number (sym (refused_is j r) ∙ e);
    contained = λ z. contained_count (length before) (n * 2) before after (n * 2) h q;
    found = λ z few. answers.told (none z few e) h (told_case z few e o (subst (λ (m : ℕ). n * 2 ≤ m) (sym kept) h) t) q;
  }

-- ---- of words that a caller keeps
-- a record is withdrawn among a register's words if it is in the register
withdrawn_in : (ws : List ℕ) (r : Register) → Keeps ws r → (j : ℕ) → is_withdrawn_in ws j ≡ has_mark withdrawn_mark r.marks j
unfolding is_withdrawn_in
withdrawn_in ws r k j = ap (λ (m : ℕ). eqb m withdrawn_mark) (keeps_mark k j)

pub calls_told : (ws : List ℕ) (n base : ℕ) (ts : List Tie) (work₀ work₁ work₂ before after : List ℤ)
    (found cause rounds : ℕ) (on : Bool) (a : OffsetsAnswer) (answer : ℕ) → SizeIn ws n → found ≡ judge_all n ws ts 0
    → Begins ws n base found (length ts) work₀ work₁ cause → rounds ≡ rounds_of cause n
    → ◌≡◌ {A = State} (work₂, on) (settled n rounds ts (work₁, false)) → length work₂ ≡ length work₀
    → length after ≡ length before → HandsOver cause n on work₂ before after a
    → answer ≡ told_offsets a → OffsetsTold ws base ts (length work₀) before after answer
unfolding number
calls_told ws n base ts work₀ work₁ work₂ before after found cause rounds on a answer sized judged (k₀, (open', plans)) e ends same kept hands tells =
    let g : Records = record { refused = k₀; n = n; marks = ws } in
    let m = calls_among g base ts work₀ work₁ work₂ before after found (record { cause = cause; rounds = rounds_of cause n })
    on judged plans (ends ∙ ap (λ (j : ℕ). settled n j ts (work₁, false)) e) same a kept hands in
    record {
      answers = λ r w.
          let z = open'.kept r w in (
            a,
            (
              record {
                contained = m.contained z;
                book = λ b rep.
                    subst (λ (j : ℕ). OffsetsFor j (is_withdrawn b.sheet) base ts (length work₀) before after a) ((sized.1.kept r w).size b rep)
                    (subst (λ (v : ℕ → Bool). OffsetsFor n v base ts (length work₀) before after a)
                    (fun_ext (λ j. withdrawn_in ws r w j ∙ shows_withdrawn rep.sheet j)) (m.found z sized.0));
              },
              tells,
            ),
          );
      foreign = λ f. let q = m.refused 15 (open'.foreign f) in (tells ∙ ap told_offsets q.0, q.1);
    }
