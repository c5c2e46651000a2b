-- Laws of the frames of lines.
--   typed_sends     a line says nothing, or a frame whose body is within its limit
--   saying t        what the program takes the frame of t for, if there is one
--   meant h k r     what the bytes r after the word of a request of kind k ask for, if its body has the shape h
--   decode_line     for every request: the program takes its frame for what is asked, by kind and arguments
--   frame_parts     a frame from its parts
--   run_lines       for all lines of a session: on the frames that are sent the program prints what the lines ask for, line by line
-- Assumes nothing.
use Rattle.std.specs.Prelude.{◌≡◌, refl, List, [], ◌∷◌, ◌++◌, Bool, true, false, ◌&&◌, ℕ, suc, ◌+◌, ◌-◌, ◌*◌, ◌/◌, ◌%◌, ◌≤◌, ◌<◌, length, drop, ltb, eqb}
use Rattle.std.proofs.Common.{ap, ap₂, subst, ◌∙◌, append_assoc, arith, length-append, take_at, drop_at, le-leb}
use Rattle.book.specs.Basics.{pick}
use Rattle.book.specs.Causes.{broken_frame, unknown_kind}
use Rattle.paths.specs.Grammar.{Verdict}
use Rattle.paths.specs.Chains.{Reply}
use Rattle.register.specs.History.{kind_call}
use Rattle.session.specs.Program.{number16, two_bytes, frame_of, Frame, asks, faulty, opens, pairs, chain, totalling, shape_of, fits, called, taken, decode}
use Rattle.session.specs.Program.{Session, next_session, Right, printing, Run, ended}
use Rattle.session.specs.StepLaws.{frame_in, framed_as}
use Rattle.session.specs.declared.Shape.{Shape}
use Rattle.session.specs.declared.Shape.TheVariants.{Empty, Record, Link, Size, Label, Expression, Ends, Unknown}
use Rattle.lines.specs.Typed.{Typed, nothing, framed, fitting, word, rest, skip, empty, is_number, number_of, is_label, label_of, text, max_line}
use Rattle.lines.specs.Typed.{hash, kind_named, argued, begun, typed}
use Rattle.lines.specs.TypedLaws.{requested, length_text}
use Rattle.lines.specs.Encoding.{sent}
use Rattle.lines.specs.TypedRuns.{max_body, sent_all, TypedRun, no_lines, silent_line, request_line}

-- a number from its two bytes
both : (n : ℕ) → n % 256 + 256 * (n / 256) ≡ n
both n = omega arith

-- ---- what lines say
pub data Sends : Typed → Type 0 where
  none : Sends nothing
  one : {k : ℕ} {s : List ℕ} → length s ≤ max_body → Sends (framed k s)

fitting_sends : (b : Bool) (k : ℕ) (s : List ℕ) → length s ≤ max_body → Sends (fitting b k s)
fitting_sends true k s h = one h
fitting_sends false k s h = one {s = 0 ∷ []} (omega arith)

argued_sends : (h : Shape) (k : ℕ) (r : List ℕ) → Sends (argued h k r)
unfolding argued two_bytes
argued_sends Empty k r = fitting_sends (empty r) k [] (omega arith)
argued_sends Record k r = fitting_sends (is_number (word r) && empty (rest r)) k (two_bytes (number_of (word r))) (omega arith)
argued_sends Size k r = fitting_sends (is_number (word r) && empty (rest r)) k (two_bytes (number_of (word r))) (omega arith)
argued_sends Link k r =
    let x = word r in
    let l = word (rest r) in
    let y = word (rest (rest r)) in
    fitting_sends (is_number x && (is_label l && (is_number y && empty (rest (rest (rest r)))))) k
    (two_bytes (number_of x) ++ (label_of l ∷ two_bytes (number_of y))) (omega arith)
argued_sends Label k r = fitting_sends (is_label (word r) && empty (rest r)) k (label_of (word r) ∷ []) (omega arith)
argued_sends Expression k r = one {s = text r} (omega (arith, length_text r))
argued_sends Ends k r =
    let x = word r in
    let y = word (rest r) in
    fitting_sends (is_number x && is_number y) k (two_bytes (number_of x) ++ (two_bytes (number_of y) ++ text (rest (rest r))))
    (omega (arith, length_text (rest (rest r))))
argued_sends Unknown k r = one {s = []} (omega arith)

choose : (b : Bool) (t u : Typed) → Sends t → Sends u → Sends (pick b t u)
choose true t u x y = x
choose false t u x y = y

begun_sends : (s : List ℕ) → Sends (begun s)
unfolding begun
begun_sends [] = none
begun_sends (c ∷ s) = choose (eqb c hash) _ _ none (argued_sends _ _ _)

pub typed_sends : (s : List ℕ) → Sends (typed s)
unfolding typed
typed_sends s = choose (ltb max_line (length s)) _ _ (one {s = 0 ∷ []} (omega arith)) (begun_sends (skip s))

-- ---- what the program takes their frames for
unfoldable pub saying : Typed → List Frame
saying nothing = []
saying (framed k s) = decode k s ∷ []

abbrev fitted : Bool → Frame → Frame
fitted fits f = pick fits f (faulty broken_frame)

unfoldable pub meant : Shape → ℕ → List ℕ → Frame
meant Empty k r = fitted (empty r) (called (kind_call k 0 0 0))
meant Record k r = fitted (is_number (word r) && empty (rest r)) (called (kind_call k (number_of (word r)) 0 0))
meant Size k r = fitted (is_number (word r) && empty (rest r)) (opens (number_of (word r)))
meant Link k r =
    let x = word r in
    let l = word (rest r) in
    let y = word (rest (rest r)) in
    fitted (is_number x && (is_label l && (is_number y && empty (rest (rest (rest r)))))) (called (kind_call k (number_of x) (label_of l) (number_of y)))
meant Label k r = fitted (is_label (word r) && empty (rest r)) (asks (totalling (label_of (word r))))
meant Expression k r = asks (pairs (text r))
meant Ends k r =
    let x = word r in
    let y = word (rest r) in
    fitted (is_number x && is_number y) (asks (chain (number_of x) (number_of y) (text (rest (rest r)))))
meant Unknown k r = faulty unknown_kind

fitting_taken : (b : Bool) (k : ℕ) (s : List ℕ) (f : Frame) → decode k s ≡ f → saying (fitting b k s) ≡ fitted b f ∷ []
unfolding saying decode shape_of fits
fitting_taken true k s f e = ap (λ (g : Frame). g ∷ []) e
fitting_taken false k s f e = refl

unknown_taken : saying (framed 0 []) ≡ faulty unknown_kind ∷ []
unfolding saying decode shape_of fits taken
unknown_taken = refl

-- a body by the shape of its kind, if it fits
shape_taken : (h : Shape) (k : ℕ) (s : List ℕ) → shape_of k ≡ h → fits h (length s) ≡ true → decode k s ≡ taken h k s
unfolding decode
shape_taken h k s e f = rw (e, f)

argued_taken : (h : Shape) (k : ℕ) (r : List ℕ) → shape_of k ≡ h → saying (argued h k r) ≡ meant h k r ∷ []
unfolding argued meant taken fits two_bytes number16
argued_taken Empty k r e = fitting_taken (empty r) k [] _ (shape_taken Empty k [] e refl)
argued_taken Record k r e =
    let x = number_of (word r) in
    fitting_taken (is_number (word r) && empty (rest r)) k (two_bytes x) (called (kind_call k x 0 0))
    (shape_taken Record k (two_bytes x) e refl ∙ ap (λ (n : ℕ). called (kind_call k n 0 0)) (both x))
argued_taken Size k r e =
    let x = number_of (word r) in
    fitting_taken (is_number (word r) && empty (rest r)) k (two_bytes x) (opens x)
    (shape_taken Size k (two_bytes x) e refl ∙ ap (λ (n : ℕ). opens n) (both x))
argued_taken Link k r e =
    let third = rest (rest r) in
    let x = number_of (word r) in
    let l = label_of (word (rest r)) in
    let y = number_of (word third) in
    fitting_taken (is_number (word r) && (is_label (word (rest r)) && (is_number (word third) && empty (rest third)))) k
    (two_bytes x ++ (l ∷ two_bytes y)) (called (kind_call k x l y))
    (shape_taken Link k (two_bytes x ++ (l ∷ two_bytes y)) e refl ∙ ap₂ (λ (n m : ℕ). called (kind_call k n l m)) (both x) (both y))
argued_taken Label k r e =
    let l = label_of (word r) in
    fitting_taken (is_label (word r) && empty (rest r)) k (l ∷ []) (asks (totalling l)) (shape_taken Label k (l ∷ []) e refl)
argued_taken Expression k r e = fitting_taken true k (text r) (asks (pairs (text r))) (shape_taken Expression k (text r) e refl)
argued_taken Ends k r e =
    let x = number_of (word r) in
    let y = number_of (word (rest r)) in
    let u = text (rest (rest r)) in
    let long = le-leb 4 (suc (suc (suc (suc (length u))))) (omega arith) in
    fitting_taken (is_number (word r) && is_number (word (rest r))) k (two_bytes x ++ (two_bytes y ++ u)) (asks (chain x y u))
    (shape_taken Ends k (two_bytes x ++ (two_bytes y ++ u)) e long ∙ ap₂ (λ (n m : ℕ). asks (chain n m u)) (both x) (both y))
argued_taken Unknown k r e = unknown_taken

pub decode_line : (w r : List ℕ) → saying (requested w r) ≡ meant (shape_of (kind_named w)) (kind_named w) r ∷ []
decode_line w r = argued_taken (shape_of (kind_named w)) (kind_named w) r refl

-- ---- frames
-- a frame from its four bytes in front and the two parts of its body
pub frame_parts : (k : ℕ) (h t : List ℕ) → k < 256
    → (((length h + length t + 2) % 256 ∷ (length h + length t + 2) / 256 ∷ k ∷ 0 ∷ []) ++ h) ++ t ≡ frame_of k (h ++ t)
unfolding frame_of two_bytes
frame_parts k h t b =
    let low : k % 256 ≡ k = omega arith in
    let high : k / 256 ≡ 0 = omega arith in
    rw (length-append h t, low, high, append_assoc)

-- ---- a frame in a run
-- the frame that stands in a frame's bytes, and what follows it
frame-in : (n k : ℕ) (s i : List ℕ) → n ≡ length s + 2 → frame_in n (k % 256 ∷ k / 256 ∷ (s ++ i)) ≡ decode k s
unfolding number16
frame-in n k s i h =
    let size : n - 2 ≡ length s = omega arith in
    rw (size, both k, take_at s i (length s) refl)

frame_out : (n a b : ℕ) (s i : List ℕ) → n ≡ length s + 2 → drop n (a ∷ b ∷ (s ++ i)) ≡ i
frame_out n a b s i h =
    let size : n ≡ suc (suc (length s)) = omega arith in
    rw size (drop_at s i (length s) refl)

-- the bytes i after a frame of kind c with the body b
run_frame : (work : ℕ) (s s' : Session) (k k' : List ℕ) (c : ℕ) (b i o : List ℕ) (v : Verdict) (u : Reply) → length b ≤ max_body
    → Right s (decode c b) v u → Run work (next_session s (decode c b)) (printing work k s (decode c b) v u).1 i o s' k'
    → Run work s k (frame_of c b ++ i) ((printing work k s (decode c b) v u).0 ++ o) s' k'
unfolding frame_of two_bytes
run_frame work s s' k k' c b i o v u short right run =
    let n = length b + 2 in
    let size : n % 256 + 256 * (n / 256) ≡ n = both n in
    framed_as work {l = k} {l' = k'} (n % 256) (n / 256) (c % 256 ∷ c / 256 ∷ (b ++ i)) i o (decode c b) v u
    (frame-in (n % 256 + 256 * (n / 256)) c b i size)
    (frame_out (n % 256 + 256 * (n / 256)) (c % 256) (c / 256) b i size)
    (omega arith) (omega arith) (omega (arith, length-append b i)) right run

sends_short : (t : Typed) (c : ℕ) (b : List ℕ) → Sends t → t ≡ framed c b → length b ≤ max_body
sends_short nothing c b none e = absurd (let z : ◌≡◌ {A = ℕ} 0 1 = cc in omega arith)
sends_short (framed k s) c b (one h) e = let q : s ≡ b = cc in subst (λ (m : List ℕ). length m ≤ max_body) q h

pub run_lines : {work : ℕ} {s s' : Session} {k k' : List ℕ} {ls : List (List ℕ)} {o : List ℕ} → TypedRun work s k ls o s' k'
    → Run work s k (sent_all ls) o s' k'
unfolding sent_all sent
run_lines no_lines = ended
run_lines (silent_line l e run) = rw e (run_lines run)
run_lines {work} {s} {s'} {k} {k'} (request_line {ls = ls} {o = o} l c b v u e right run) =
    rw e (run_frame work s s' k k' c b (sent_all ls) o v u (sends_short (typed l) c b (typed_sends l) e) right (run_lines run))
