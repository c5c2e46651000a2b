-- Bytes written into a lent slice.
--   written p t l    the list l with the text t written over it from place p on
--   Wrote p t l m q  a call that was given the contents l and the place p wrote t there: it left m, and handed back q, the place after t, within l
-- Assumes nothing: these are definitions.
use Rattle.std.specs.Prelude.{◌≡◌, List, ◌++◌, ℕ, ◌+◌, ◌≤◌, length, take, drop}

unfoldable pub written : ℕ → List ℕ → List ℕ → List ℕ
written p t l = take p l ++ (t ++ drop (p + length t) l)

pub record Wrote (p : ℕ) (t l m : List ℕ) (q : ℕ) : Type 0 where
  pub contents : m ≡ written p t l
  pub place : q ≡ p + length t
  pub fits : q ≤ length l
