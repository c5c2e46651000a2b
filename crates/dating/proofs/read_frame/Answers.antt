-- Two bytes, and at most as many as follow, which the buffer has room for (`following_most`); what is read after the two changes nothing of what they
-- say (`following_front`). Assumes nothing.
use mathlib.Core.Path.{◌≡◌}
use mathlib.Core.List.{List, ◌++◌}
use Prim.Native.Nat.{ℕ, ◌+◌, ◌-◌, ◌≤◌}
use native.Mathlib.Omega.{arith}
use lib.ListN.{length, take, drop, length-append, length-drop, length-take}
use lib.Seq.{length-take-le}
use Rattle.session.specs.Program.{max_frame, following}
use Rattle.session.specs.StepLaws.{following_most, following_front}
use Rattle.dating.proofs.read_frame.Goals as goal

-- the length is at most two bytes, and the buffer as long as it was
two : (bytes b : List ℕ) {r : ℕ} → r ≤ length b → length b ≡ length (take 2 bytes) → r ≤ 2
two bytes b h k = omega (arith, h, k, length-take 2 bytes)

long : (bytes b : List ℕ) → max_frame + 2 ≤ length bytes → length b ≡ length (take 2 bytes) → max_frame + 2 ≤ length (b ++ drop 2 bytes)
long bytes b m k = omega (arith, k, length-take-le 2 bytes (omega arith), length-append b (drop 2 bytes), length-drop 2 bytes)

small : (s : List ℕ) {n : ℕ} → n ≡ following s → n ≤ max_frame
small s e = omega (arith, e, following_most s)

-- and what comes after it at most as many as follow
after : (n : ℕ) (s b : List ℕ) {r : ℕ} → r ≤ length b → length b ≡ length (take (n + 2 - 2) s) → r ≤ n
after n s b h k = omega (arith, h, k, length-take (n + 2 - 2) s)

pub overflow_add-n : goal.overflow_add-n
overflow_add-n c = omega (arith, small _ c.following-n.ensures)

pub slice_bounds-read_full-end-3 : goal.slice_bounds-read_full-end-3
slice_bounds-read_full-end-3 c =
    omega (arith, small _ c.following-n.ensures, long c.args.bytes.now c.read_full-got.new.buffer (omega arith) c.read_full-got.auto.buffer)

pub returns : goal.returns
returns c =
    let bytes = c.read_full-got.new.buffer ++ drop 2 c.args.bytes.now in
    let n = c.following-n.result in
    let e = c.following-n.ensures in
    let r = c.read_full-got.result + c.read_full.result in
    let t : c.read_full-got.result ≤ 2 = two c.args.bytes.now _ c.read_full-got.ensures c.read_full-got.auto.buffer in
    let f : c.read_full.result ≤ n = after n (drop 2 bytes) _ c.read_full.ensures c.read_full.auto.buffer in
    let m : max_frame + 2 ≤ length bytes = long c.args.bytes.now c.read_full-got.new.buffer (omega arith) c.read_full-got.auto.buffer in
    let same = following_front bytes c.read_full.new.buffer (n + 2 - 2) r (omega (arith, m)) (omega arith) in
    (omega (arith, t, f, small _ e), omega (arith, t, f, e, same))
