-- A typed session, line by line.
--   max_body             the most bytes of a frame's body
--   sent_all ls          the bytes that become of the lines ls
--   TypedRun w s k ls o s' k'
--                       a typed session: from the session s and the list k on, the lines ls are answered by the bytes o, line by line, and leave the session s'
--                       and the list k'
-- Assumes nothing: these are definitions.
use Rattle.std.specs.Prelude.{◌≡◌, List, [], ◌∷◌, ◌++◌, ℕ, ◌-◌}
use Rattle.paths.specs.Grammar.{Verdict}
use Rattle.paths.specs.Chains.{Reply}
use Rattle.session.specs.Program.{min_frame, max_frame, decode, Session, next_session, Right, printing}
use Rattle.lines.specs.Typed.{nothing, framed, typed}
use Rattle.lines.specs.Encoding.{sent}

abbrev pub max_body : ℕ
max_body = max_frame - min_frame

unfoldable pub sent_all : List (List ℕ) → List ℕ
sent_all [] = []
sent_all (l ∷ ls) = sent (typed l) ++ sent_all ls

pub data TypedRun (work : ℕ) : Session → List ℕ → List (List ℕ) → List ℕ → Session → List ℕ → Type 0 where
  no_lines : {s : Session} {k : List ℕ} → TypedRun work s k [] [] s k
  silent_line : {s s' : Session} {k k' : List ℕ} {ls : List (List ℕ)} {o : List ℕ} (l : List ℕ) → typed l ≡ nothing
      → TypedRun work s k ls o s' k' → TypedRun work s k (l ∷ ls) o s' k'
  -- answered as its frame is
  request_line : {s s' : Session} {k k' : List ℕ} {ls : List (List ℕ)} {o : List ℕ} (l : List ℕ) (c : ℕ) (b : List ℕ) (v : Verdict) (u : Reply)
      → typed l ≡ framed c b → Right s (decode c b) v u → TypedRun work (next_session s (decode c b)) (printing work k s (decode c b) v u).1 ls o s' k'
      → TypedRun work s k (l ∷ ls) ((printing work k s (decode c b) v u).0 ++ o) s' k'
