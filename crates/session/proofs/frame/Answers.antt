-- with too little room nothing is done (`none_framed`), else each arm keeps its own promise (`turned_framed`).
-- Assumes nothing.
use mathlib.Core.Path.{◌≡◌, refl, sym, ap, ◌∙◌}
use mathlib.Core.List.{List}
use Prim.Native.Nat.{ℕ, ◌≤◌}
use native.Mathlib.Omega.{arith}
use lib.ListN.{length}
use Rattle.book.specs.Causes.{number, broken_frame, unknown_kind}
use Rattle.session.specs.Program.{decode}
use Rattle.session.specs.Says.{says}
use Rattle.session.specs.Turns.{Turns, Framing}
use Rattle.session.specs.declared.Decoded.{Decoded}
use Rattle.session.specs.declared.Framed.{Framed}
use Rattle.session.specs.TurnLaws.{faulty_turns, decode_long, part_turns, turned_framed}
use Rattle.session.specs.Turns.{room}
use Rattle.session.specs.declared.State.{State}
use Rattle.session.specs.declared.Decoded.TheVariants.{Chain}
use Rattle.session.proofs.frame.Goals as goal

-- what the frame promises, if it is decoded as d and what d says is done
framing : (st : State) (kind : ℕ) (body : List ℕ) (work : ℕ) (l out : List ℕ) {l' out' : List ℕ} {r : Framed} {b d : Decoded}
    → says b body ≡ decode kind body → room (length l) ≤ length out → b ≡ d
    → Turns st (says d body) work l l' out out' r → Framing st (decode kind body) work l l' out out' r
framing st kind body work l out {d = d} told enough e t =
    turned_framed st work l _ out _ _ _ (decode kind body) (ap (λ x. says x body) (sym e) ∙ told) enough t

-- the body of a chain question has at least four bytes
long : (kind : ℕ) (body : List ℕ) {b : Decoded} {x y : ℕ} → says b body ≡ decode kind body → b ≡ Chain x y → 4 ≤ length body
unfolding says
long kind body told e = decode_long kind body _ _ _ (sym told ∙ ap (λ d. says d body) e)

pub slice_bounds-ask_chain-count : goal.slice_bounds-ask_chain-count
slice_bounds-ask_chain-count c = omega (arith, long c.args.kind c.args.body.now c.decode-decoded.ensures c.in-Chain.is)

pub slice_bounds-ask_chain-start : goal.slice_bounds-ask_chain-start
slice_bounds-ask_chain-start c = omega (arith, long c.args.kind c.args.body.now c.decode-decoded.ensures c.in-Chain.is)

pub returns-in-Open : goal.returns-in-Open
unfolding says
returns-in-Open c =
    let s = c.args in
    framing s.state s.kind s.body.now (length s.work.now) s.list.now s.out.now c.decode-decoded.ensures (omega arith) c.in-Open.is
    (c.open.ensures _ _)

pub returns-in-Edit : goal.returns-in-Edit
unfolding says
returns-in-Edit c =
    let s = c.args in
    framing s.state s.kind s.body.now (length s.work.now) s.list.now s.out.now c.decode-decoded.ensures (omega arith) c.in-Edit.is
    (c.edit.ensures _ _)

pub returns-in-Pairs : goal.returns-in-Pairs
unfolding says
returns-in-Pairs c =
    let s = c.args in
    framing s.state s.kind s.body.now (length s.work.now) s.list.now s.out.now c.decode-decoded.ensures (omega arith) c.in-Pairs.is
    c.ask_pairs.ensures

pub returns-in-Chain : goal.returns-in-Chain
unfolding says
returns-in-Chain c =
    let s = c.args in
    framing s.state s.kind s.body.now (length s.work.now) s.list.now s.out.now c.decode-decoded.ensures (omega arith) c.in-Chain.is
    (part_turns s.state _ _ _ _ _ _ _ _ s.body.now c.ask_chain.ensures)

pub returns-in-Total : goal.returns-in-Total
unfolding says
returns-in-Total c =
    let s = c.args in
    framing s.state s.kind s.body.now (length s.work.now) s.list.now s.out.now c.decode-decoded.ensures (omega arith) c.in-Total.is
    (c.ask_total.ensures _ _)

pub returns-in-Broken : goal.returns-in-Broken
unfolding says number
returns-in-Broken c =
    let s = c.args in
    framing s.state s.kind s.body.now (length s.work.now) s.list.now s.out.now c.decode-decoded.ensures (omega arith) c.in-Broken.is
    (faulty_turns s.state _ _ _ _ _ c.refuse.result broken_frame c.refuse.ensures.0 refl c.refuse.ensures.1)

pub returns-in-Unknown : goal.returns-in-Unknown
unfolding says number
returns-in-Unknown c =
    let s = c.args in
    framing s.state s.kind s.body.now (length s.work.now) s.list.now s.out.now c.decode-decoded.ensures (omega arith) c.in-Unknown.is
    (faulty_turns s.state _ _ _ _ _ c.refuse-in-Unknown.result unknown_kind c.refuse-in-Unknown.ensures.0 refl c.refuse-in-Unknown.ensures.1)
