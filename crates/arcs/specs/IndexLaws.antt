-- Laws of the index of the arcs as it is walked: from a record's first arc to the next, until there is none.
--   before_first    no arc of the record comes before its first
--   next_falls, cursor_next
--                   the next arc has a lower number, and is of the same record
--   only_arc        between an arc and the next there is no other of the record
-- Assumes nothing.
use Rattle.std.specs.Prelude.{◌≡◌, ◌⊎◌, List, ℕ, ◌-◌, ◌≤◌, ◌<◌}
use Rattle.std.proofs.Common.{sym, ◌∙◌, inl, inr, arith}
use Rattle.automaton.proofs.LevelLaws.{Which, less, same, more, which}
use Rattle.arcs.specs.Index.{first_arc, next_arc, Cursor, Indexed}

module _ {key : ℕ → ℕ} {k : ℕ} {ix : List ℕ} (I : Indexed key k ix) {r : ℕ} where
  pub before_first : (j : ℕ) → j < k → key j ≡ r → first_arc ix r ≤ j → k ≤ j
  before_first j h e g = absurd (let z : j < first_arc ix r = rw e at (I.first_all j h) in omega arith)

  module _ {p : ℕ} (C : Cursor key k r p) (hp : 0 < p) where
    arc_lt : p - 1 < k
    arc_lt = let z = C.0 in omega arith

    pub next_falls : next_arc ix (p - 1) ≤ p - 1
    next_falls = (I.next_at (p - 1) arc_lt).0

    pub cursor_next : Cursor key k r (next_arc ix (p - 1))
    cursor_next = (omega (arith, arc_lt, next_falls), λ g. (I.next_at (p - 1) arc_lt).1 g ∙ C.1 hp)

    -- from the next on: the arc itself, or one that was passed
    pub only_arc : (j : ℕ) → j < k → key j ≡ r → next_arc ix (p - 1) ≤ j → (j ≡ p - 1) ⊎ (p ≤ j)
    only_arc j h e g = go (which j (p - 1))
      where
        go : Which j (p - 1) → (j ≡ p - 1) ⊎ (p ≤ j)
        go (less f) = absurd (let z = I.next_all j (p - 1) f arc_lt (e ∙ sym (C.1 hp)) in omega arith)
        go (same f) = inl f
        go (more f) = inr (omega arith)
