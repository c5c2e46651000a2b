-- `check_line`: a head, or a pair line; it stands or falls by what was found of it (`proofs/CheckLaws`). Assumes nothing.
use mathlib.Core.List.{List}
use mathlib.Core.Path.{◌≡◌, subst}
use mathlib.Core.Bool.{Bool, true, false}
use Prim.Native.Nat.{ℕ, ◌≤◌}
use native.Mathlib.Omega.{arith}
use lib.ListN.{length, take}
use lib.Seq.{length-take-le}
use Rattle.pages.specs.Lines.{Line}
use Rattle.pages.proofs.CheckLaws.{rising_small, head_stands, head_falls, short_falls, rising_falls, line_falls, line_stands}
use Rattle.pages.proofs.reading.check_line.Goals as goal

not_both : {b : Bool} → b ≡ true → b ≡ false → ⊥
not_both t f = let z : ◌≡◌ {A = ℕ} 0 1 = cc in omega arith

-- so many words of a list of six
six : (ws : List ℕ) (n : ℕ) → length ws ≡ 6 → n ≤ 6 → (n ≤ length ws) × (length (take n ws) ≡ n)
six ws n k h = let m : n ≤ length ws = omega arith in (m, length-take-le n ws m)

pub returns-then-is_head : goal.returns-then-is_head
returns-then-is_head c =
    head_stands c.args.text.now c.args.pages.now c.args.i c.args.lines c.args.low
    c.if-i-eq0.true c.requires.inside (c.is_head.ensures.0 c.if-is_head.true)

pub returns-then-i-eq0 : goal.returns-then-i-eq0
returns-then-i-eq0 c =
    let f : c.is_head.result ≡ false = c.if-is_head.false in
    head_falls c.args.text.now c.args.pages.now c.args.i c.args.lines c.args.low c.if-i-eq0.true (λ e. not_both (c.is_head.ensures.1 e) f)

pub returns-then-count-least_pairs : goal.returns-then-count-least_pairs
returns-then-count-least_pairs c =
    let q = c.cells_at-count in
    let w = six q.new.words q.result q.auto.words q.ensures.0 in
    let l = c.least_pairs.ensures in
    short_falls c.args.text.now c.args.pages.now c.args.i c.args.lines c.args.low (omega (arith, c.if-i-eq0.false)) _ q.ensures.1
    (omega (arith, w.1, l.1, c.if-count-least_pairs.true)) (l.2 (omega (arith, c.if-count-least_pairs.true)))

pub returns-then-next-gt-PAST_PAIRS : goal.returns-then-next-gt-PAST_PAIRS
returns-then-next-gt-PAST_PAIRS c =
    rising_falls c.args.text.now c.args.pages.now c.args.i c.args.lines c.args.low (omega (arith, c.if-i-eq0.false)) _ c.cells_at-count.ensures.1
    c.rising-next.ensures c.if-next-gt-PAST_PAIRS.true

pub is_pair_line-requires : goal.is_pair_line-requires
is_pair_line-requires c =
    let q = c.cells_at-count in
    let w = six q.new.words q.result q.auto.words q.ensures.0 in
    record {
      few = q.ensures.0;
      there = w.0;
      small = rising_small q.new.words q.result w.0 c.rising-next.ensures c.if-next-gt-PAST_PAIRS.false;
      fits = omega (arith, c.requires.line, c.requires.fits);
    }

pub returns-then-is_pair_line : goal.returns-then-is_pair_line
returns-then-is_pair_line c =
    let q = c.cells_at-count in
    let w = six q.new.words q.result q.auto.words q.ensures.0 in
    let l = c.least_pairs.ensures in
    subst (λ (k : ℕ). Line c.args.text.now c.args.pages.now c.args.i c.args.lines c.args.low k c.rising-next.result) w.1
    (line_stands c.args.text.now c.args.pages.now c.args.i c.args.lines c.args.low (omega (arith, c.if-i-eq0.false)) _ q.ensures.1
    c.rising-next.ensures c.if-next-gt-PAST_PAIRS.false (c.is_pair_line.ensures.0 c.if-is_pair_line.true)
    (λ h. omega (arith, w.1, q.ensures.0, l.0 h, c.if-count-least_pairs.false)))

pub returns : goal.returns
returns c =
    let f : c.is_pair_line.result ≡ false = c.if-is_pair_line.false in
    line_falls c.args.text.now c.args.pages.now c.args.i c.args.lines c.args.low (omega (arith, c.if-i-eq0.false)) _ c.cells_at-count.ensures.1
    (λ e. not_both (c.is_pair_line.ensures.1 e) f)
