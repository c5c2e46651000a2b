-- The bytes of what lines say, and a typed session.
--   sent t              the bytes that become of a line that says t
--   frame_room           the most bytes of a whole frame
--   Sends n ls o e      the program's loop, of at most n turns: it reads the lines ls, writes the frame of each, in all o, and ends by e
--   SentAll all         the program: such a loop, which tells whether all that it wrote could be written
-- Assumes nothing: these are definitions.
use Rattle.std.specs.Prelude.{◌≡◌, List, [], ◌∷◌, ◌++◌, Bool, false, ℕ, suc, ◌+◌}
use Rattle.session.specs.Program.{frame_of, max_frame}
use Rattle.session.specs.Runs.{End, ended, unsent, spent, most_turns}
use Rattle.lines.specs.Typed.{Typed, nothing, framed, typed}

unfoldable pub sent : Typed → List ℕ
sent nothing = []
sent (framed k s) = frame_of k s

abbrev pub frame_room : ℕ
frame_room = max_frame + 2

-- ---- the program's loop
pub data Sends : ℕ → List (List ℕ) → List ℕ → End → Type 0 where
  no_turns : Sends 0 [] [] spent
  last_line : {n : ℕ} {l : List ℕ} → Sends (suc n) (l ∷ []) (sent (typed l)) ended
  not_sent : {n : ℕ} {l : List ℕ} → Sends (suc n) (l ∷ []) (sent (typed l)) unsent
  one_more : {n : ℕ} {l o : List ℕ} {ls : List (List ℕ)} {e : End} → Sends n ls o e → Sends (suc n) (l ∷ ls) (sent (typed l) ++ o) e

pub record SentAll (all : Bool) : Type 0 where
  pub lines : List (List ℕ)
  pub output : List ℕ
  pub end : End
  pub sends : Sends most_turns lines output end
  pub tells : (all ≡ false → end ≡ unsent) × (end ≡ unsent → all ≡ false)
