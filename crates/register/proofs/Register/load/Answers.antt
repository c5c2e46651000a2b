-- `register::Register::load` copies the four arrays out of words that have the form of a register's. Assumes nothing.
use Prim.Native.Nat.{ℕ}
use native.Mathlib.Omega.{arith}
use lib.ListN.{length-replicate}
use Rattle.register.proofs.KeepLaws.{part_read, load_refused, load_made}
use Rattle.register.specs.WordLaws.{loaded, keeps_formed}
use Rattle.register.proofs.Register.load.Goals as goal

pub returns-then-not-is_register : goal.returns-then-not-is_register
returns-then-not-is_register c = load_refused c.args.words.now _ c.is_register.ensures c.if-not-is_register.true c.empty.ensures

pub slice_bounds-copy_u32-end : goal.slice_bounds-copy_u32-end
slice_bounds-copy_u32-end c = let m = keeps_formed c.args.words.now (c.is_register.ensures.sure c.if-not-is_register.false) in omega (arith, m.long)

pub slice_bounds-copy_u32-end-3 : goal.slice_bounds-copy_u32-end-3
slice_bounds-copy_u32-end-3 c = let m = keeps_formed c.args.words.now (c.is_register.ensures.sure c.if-not-is_register.false) in omega (arith, m.long)

pub slice_bounds-copy_u32-end-5 : goal.slice_bounds-copy_u32-end-5
slice_bounds-copy_u32-end-5 c = let m = keeps_formed c.args.words.now (c.is_register.ensures.sure c.if-not-is_register.false) in omega (arith, m.long)

pub slice_bounds-copy_u32-end-7 : goal.slice_bounds-copy_u32-end-7
slice_bounds-copy_u32-end-7 c = let m = keeps_formed c.args.words.now (c.is_register.ensures.sure c.if-not-is_register.false) in omega (arith, m.long)

pub bounds-words-1 : goal.bounds-words-1
bounds-words-1 c = let m = keeps_formed c.args.words.now (c.is_register.ensures.sure c.if-not-is_register.false) in omega (arith, m.long)

pub bounds-words-2 : goal.bounds-words-2
bounds-words-2 c = let m = keeps_formed c.args.words.now (c.is_register.ensures.sure c.if-not-is_register.false) in omega (arith, m.long)

pub bounds-words-3 : goal.bounds-words-3
bounds-words-3 c = let m = keeps_formed c.args.words.now (c.is_register.ensures.sure c.if-not-is_register.false) in omega (arith, m.long)

pub overflow_cast-result : goal.overflow_cast-result
overflow_cast-result c = let m = keeps_formed c.args.words.now (c.is_register.ensures.sure c.if-not-is_register.false) in omega (arith, m.ranged.size)

pub returns : goal.returns
returns c =
    let ws = c.args.words.now in
    let m = keeps_formed ws (c.is_register.ensures.sure c.if-not-is_register.false) in
    load_made (
    loaded ws c.copy_u32.new.to c.copy_u32-2.new.to c.copy_u32-3.new.to c.copy_u32-4.new.to m
    (part_read ws 4 4096 (omega (arith, m.long)) (length-replicate {A = ℕ} 4096 0) c.copy_u32.ensures)
    (part_read ws 4100 256 (omega (arith, m.long)) (length-replicate {A = ℕ} 256 0) c.copy_u32-2.ensures)
    (part_read ws 4356 1024 (omega (arith, m.long)) (length-replicate {A = ℕ} 1024 0) c.copy_u32-3.ensures)
    (part_read ws 5380 26 (omega (arith, m.long)) (length-replicate {A = ℕ} 26 0) c.copy_u32-4.ensures))
