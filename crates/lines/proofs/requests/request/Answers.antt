-- the frame is that of the shape which the kind has (`by_shape`), whose function writes it. Assumes nothing.
use mathlib.Core.Path.{◌≡◌, sym, ap, ◌∙◌}
use Rattle.answers.specs.WrittenLaws.{wrote_as}
use Rattle.session.specs.Program.{shape_of}
use Rattle.session.specs.declared.Shape.{Shape}
use Rattle.lines.specs.Typed.{argued}
use Rattle.lines.specs.Encoding.{sent}
use mathlib.Core.List.{List}
use Prim.Native.Nat.{ℕ}
use Rattle.lines.proofs.requests.request.Goals as goal

-- the bytes of the shape h are those of the kind, if it has that shape
by_shape : {g h : Shape} (k : ℕ) (s : List ℕ) → g ≡ shape_of k → g ≡ h → sent (argued h k s) ≡ sent (argued (shape_of k) k s)
by_shape k s o i = ap (λ (g : Shape). sent (argued g k s)) (sym i ∙ o)

pub returns-in-Size : goal.returns-in-Size
unfolding argued
returns-in-Size c = wrote_as (by_shape c.args.kind c.args.s.now c.shape_of-shape.ensures c.in-Size.is) c.numbered-in-Size.ensures

pub returns-in-Unknown : goal.returns-in-Unknown
unfolding argued sent
returns-in-Unknown c = wrote_as (by_shape c.args.kind c.args.s.now c.shape_of-shape.ensures c.in-Unknown.is) c.put_frame.ensures
