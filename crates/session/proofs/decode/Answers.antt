-- a body that fits is taken by the shape of its kind (`decode_taken`), one that does not is broken (`decode_unfit`).
-- Assumes nothing.
use mathlib.Core.Path.{◌≡◌, sym, subst, ◌∙◌}
use mathlib.Core.Bool.{true}
use native.Mathlib.Omega.{arith}
use lib.ListN.{length}
use borrow.Author.Tests.{eqb-true}
use Rattle.session.specs.Program.{fits, taken, decode}
use Rattle.session.specs.Says.{says}
use Rattle.session.specs.TurnLaws.{decode_taken, decode_unfit}
use Rattle.session.specs.declared.Shape.{Shape}
use Rattle.session.specs.Program.{shape_of}
use mathlib.Core.Bool.{Bool}
use mathlib.Core.List.{List}
use Prim.Native.Nat.{ℕ}
use Rattle.session.proofs.decode.Goals as goal

-- the body fits the shape h that its kind has, and is taken by it
fit : {g h : Shape} {b : Bool} (n : ℕ) → b ≡ fits g n → b ≡ true → g ≡ h → fits h n ≡ true
fit n e t i = subst (λ (k : Shape). fits k n ≡ true) i (sym e ∙ t)

by_shape : {g h : Shape} {b : Bool} (k : ℕ) (s : List ℕ) → b ≡ fits g (length s) → b ≡ true → g ≡ shape_of k → g ≡ h → taken h k s ≡ decode k s
by_shape k s e t o i = decode_taken k s (sym i ∙ o) (fit (length s) e t i)

pub returns-then-not-fit : goal.returns-then-not-fit
unfolding says
returns-then-not-fit c =
    let s = c.args in
    decode_unfit s.kind s.body.now c.shape_of-shape.ensures (sym c.fits-fit.ensures ∙ c.if-not-fit.true)

pub bounds-body-2 : goal.bounds-body-2
unfolding fits
bounds-body-2 c =
    let e : length c.args.body.now ≡ 5 = eqb-true _ 5 (fit _ c.fits-fit.ensures c.if-not-fit.false c.in-Link.is) in
    omega (arith, e)

pub bounds-body-0 : goal.bounds-body-0
unfolding fits
bounds-body-0 c =
    let e : length c.args.body.now ≡ 1 = eqb-true _ 1 (fit _ c.fits-fit.ensures c.if-not-fit.false c.in-Label.is) in
    omega (arith, e)

pub returns-in-Empty : goal.returns-in-Empty
unfolding taken
returns-in-Empty c = c.called.ensures _ ∙ by_shape c.args.kind c.args.body.now c.fits-fit.ensures c.if-not-fit.false c.shape_of-shape.ensures c.in-Empty.is

pub returns-in-Record : goal.returns-in-Record
unfolding taken
returns-in-Record c =
    rw (c.called-in-Record.ensures, c.number16.ensures)
    (by_shape c.args.kind c.args.body.now c.fits-fit.ensures c.if-not-fit.false c.shape_of-shape.ensures c.in-Record.is)

pub returns-in-Link : goal.returns-in-Link
unfolding taken
returns-in-Link c = rw (c.called-in-Link.ensures, c.number16-in-Link.ensures, c.number16-in-Link-2.ensures)
    (by_shape c.args.kind c.args.body.now c.fits-fit.ensures c.if-not-fit.false c.shape_of-shape.ensures c.in-Link.is)

pub returns-in-Size : goal.returns-in-Size
unfolding says taken
returns-in-Size c = rw c.number16-in-Size.ensures
    (by_shape c.args.kind c.args.body.now c.fits-fit.ensures c.if-not-fit.false c.shape_of-shape.ensures c.in-Size.is)

pub returns-in-Label : goal.returns-in-Label
unfolding says taken
returns-in-Label c = by_shape c.args.kind c.args.body.now c.fits-fit.ensures c.if-not-fit.false c.shape_of-shape.ensures c.in-Label.is

pub returns-in-Expression : goal.returns-in-Expression
unfolding says taken
returns-in-Expression c = by_shape c.args.kind c.args.body.now c.fits-fit.ensures c.if-not-fit.false c.shape_of-shape.ensures c.in-Expression.is

pub returns-in-Ends : goal.returns-in-Ends
unfolding says taken
returns-in-Ends c = rw (c.number16-in-Ends.ensures, c.number16-in-Ends-2.ensures)
    (by_shape c.args.kind c.args.body.now c.fits-fit.ensures c.if-not-fit.false c.shape_of-shape.ensures c.in-Ends.is)

pub returns-in-Unknown : goal.returns-in-Unknown
unfolding says taken
returns-in-Unknown c = by_shape c.args.kind c.args.body.now c.fits-fit.ensures c.if-not-fit.false c.shape_of-shape.ensures c.in-Unknown.is
