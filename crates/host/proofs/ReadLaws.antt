-- What a question reads of a caller's words in place.
--   read_few   there are no more marks and links than a register has
--   read_kept  they are those of the register whose words they are
-- Assumes nothing.
use mathlib.Core.Path.{◌≡◌, sym, ap, subst, ◌∙◌}
use mathlib.Core.List.{List}
use Prim.Native.Nat.{ℕ, ◌≤◌}
use native.Mathlib.Omega.{arith}
use lib.ListN.{length, take}
use lib.Seq.{length-take-le}
use Rattle.book.specs.Causes.{max_records, max_links}
use Rattle.register.specs.Inner.{Shown}
use Rattle.register.specs.Reads.{ReadOf, read_of}
use Rattle.register.specs.Words.{Keeps}
use Rattle.register.specs.WordLaws.{keeps_sized, keeps_listing, keeps_mark_list}
use Rattle.register.specs.declared.Register.{Register}

module _ {ws marks links : List ℕ} {r : Register} (k : Keeps ws r) (M : Shown ws (λ r. take r.n r.marks) marks)
    (L : Shown ws (λ r. take r.count r.links) links) where
  pub read_few : (length marks ≤ max_records) × (length links ≤ max_links)
  read_few =
      let m : length marks ≡ r.n = ap length (M r k) ∙ length-take-le r.n r.marks (omega (arith, k.ranged.size, k.marks)) in
      let l : length links ≡ r.count = ap length (L r k) ∙ length-take-le r.count r.links (omega (arith, k.ranged.count, k.links)) in
      (omega (arith, m, k.ranged.size), omega (arith, l, k.ranged.count))

  pub read_kept : ReadOf r marks links
  read_kept =
      subst (λ (x : List ℕ). ReadOf r x links) (sym (M r k)) (subst (λ (x : List ℕ). ReadOf r (take r.n r.marks) x) (sym (L r k))
      (read_of (keeps_sized k) (keeps_mark_list k) (keeps_listing k)))
