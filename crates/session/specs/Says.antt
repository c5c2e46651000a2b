-- What a decoded frame says, as the code holds it.
--   says d s        the frame that d says, if the body is s: the text of a question stays in the body
-- Assumes nothing: these are definitions.
use Rattle.std.specs.Prelude.{List, ℕ, drop}
use Rattle.book.specs.Causes.{broken_frame, unknown_kind}
use Rattle.register.specs.Calls.{call_of}
use Rattle.session.specs.Program.{Frame, asks, faulty, opens, call, pairs, chain, totalling}
use Rattle.session.specs.declared.Decoded.{Decoded}
use Rattle.session.specs.declared.Decoded.TheVariants.{Open, Edit, Pairs, Chain, Total, Broken, Unknown}

unfoldable pub says : Decoded → List ℕ → Frame
says (Open n) s = opens n
says (Edit c) s = asks (call (call_of c))
says Pairs s = asks (pairs s)
says (Chain x y) s = asks (chain x y (drop 4 s))
says (Total l) s = asks (totalling l)
says Broken s = faulty broken_frame
says Unknown s = faulty unknown_kind
