-- The laws of the loop over alternatives and of that over parts, as one: what was read first, an operator's byte, and what was read next.
--   joins, joins_no_first, joins_no_next
--                       the two as one expression; or one of them is missing
--   has_room            what joining asks is met
--   Looped              the loops' invariant
--   looped, looped_all  it holds of what is read before the loop; where no operator's byte comes next, what is read so far is all
--   Turn                a turn of the loop
--   ahead, asks_next    where the next reader starts
--   room                there is room for the operator's number
--   falls               the bytes left fall
--   again               the invariant holds after it
-- Assumes nothing.
use mathlib.Core.Path.{◌≡◌, refl, sym, ap, ◌∙◌, subst}
use mathlib.Core.List.{List, [], ◌∷◌, ◌++◌}
use mathlib.Core.Bool.{Bool, true, false}
use Prim.Native.Nat.{ℕ, ◌+◌, ◌≤◌, ◌<◌, max}
use native.Mathlib.Omega.{arith}
use lib.Dec.{eqb}
use lib.ListN.{length, drop, set, length-append}
use lib.Seq.{sets}
use borrow.Author.Tests.{eqb-true}
use Rattle.paths.specs.Expressions.{Expr, letters, depth}
use Rattle.paths.specs.Descent.{Parse, got, first_byte, rest, then}
use Rattle.paths.proofs.DescentEquationLaws.{alternatives_is, more_alternatives_bar, more_alternatives_end, parts_is, more_parts_slash, more_parts_end}
use Rattle.reader.specs.Code.{code}
use Rattle.reader.specs.CodeLaws.{letters_code}
use Rattle.reader.specs.declared.Spot.{Spot}
use Rattle.reader.specs.declared.Parsed.{Parsed}
use Rattle.reader.specs.declared.Parsed.TheVariants.{Got, Fault}
use Rattle.reader.specs.Progress.{Found, Done, none, some, Infix, of_alternatives, of_parts, byte_of, number_of, join_of, read_of, whole_of, more_of}
use Rattle.reader.specs.Progress.{comes_next}
use Rattle.reader.specs.Progress.{spot_of, bytes_left, Asks, RoomToJoin, Joins, Since}
use Rattle.reader.proofs.StepLaws.{rest_drop, there, sets_append, code_some, on, missed}

-- each operator
whole_is : (o : Infix) (l : List ℕ) → whole_of o l ≡ then (read_of o l) (more_of o)
whole_is of_alternatives l = alternatives_is l
whole_is of_parts l = parts_is l

more_on : (o : Infix) (e : Expr) (l : List ℕ) → eqb (first_byte l) (byte_of o) ≡ true
    → more_of o e l ≡ then (read_of o (rest l)) (λ g r. more_of o (join_of o e g) r)
more_on of_alternatives e l h = more_alternatives_bar e l h
more_on of_parts e l h = more_parts_slash e l h

more_end : (o : Infix) (e : Expr) (l : List ℕ) → eqb (first_byte l) (byte_of o) ≡ false → more_of o e l ≡ got e l
more_end of_alternatives e l h = more_alternatives_end e l h
more_end of_parts e l h = more_parts_end e l h

byte_some : (o : Infix) → 0 < byte_of o
byte_some of_alternatives = omega arith
byte_some of_parts = omega arith

record Made (x : ℕ) (e f g : Expr) : Type 0 where
  letters_add : letters g ≡ letters e + letters f
  depth_max : depth g ≡ max (depth e) (depth f)
  code_both : code g ≡ (code e ++ code f) ++ (x ∷ [])

made : (o : Infix) (e f : Expr) → Made (number_of o) e f (join_of o e f)
unfolding letters depth code
made of_alternatives e f = record { letters_add = refl; depth_max = refl; code_both = refl }
made of_parts e f = record { letters_add = refl; depth_max = refl; code_both = refl }

module _ (o : Infix) {s : List ℕ} {at n : ℕ} {b a : List ℕ} where
  starts : {r : Parsed} → Done got s at n b a (read_of o (drop at s)) r → Done (more_of o) s at n b a (whole_of o (drop at s)) r
  starts (none h) = none (whole_is o (drop at s) ∙ ap (on (more_of o)) h)
  starts (some e h f) = some e (whole_is o (drop at s) ∙ ap (on (more_of o)) h) f

  ends : {x : Parse} {r : Parsed} → Done (more_of o) s at n b a x r → comes_next s r (byte_of o) ≡ false → Done got s at n b a x r
  ends (none h) v = none h
  ends (some {q} e h f) v = some e (h ∙ more_end o e (drop q.at s) v) f

-- where an operator's byte comes next
pub record Onward (s : List ℕ) (at : ℕ) (q : Spot) : Type 0 where
  pub past : at < q.at
  pub inside : q.at < length s
  pub behind : q.end ≤ q.at

onward : (o : Infix) {s : List ℕ} {at n : ℕ} {b a : List ℕ} {x : Parse} {r : Parsed}
    → Done (more_of o) s at n b a x r → comes_next s r (byte_of o) ≡ true → n ≤ at → Onward s at (spot_of r)
onward o (none h) v k = absurd (let z : ◌≡◌ {A = ℕ} 0 1 = cc in omega arith)
onward o {s} (some {q} e h f) v k =
    let i = there s q.at (byte_of o) (eqb-true _ _ v) (byte_some o) in
    record { past = omega (arith, f.short, code_some e); inside = i; behind = omega (arith, f.end_is, f.short) }

-- the two as one
both_found : (x : ℕ) {s : List ℕ} {at n : ℕ} {b m c : List ℕ} {e f g : Expr} {p q : Spot}
    → Made x e f g → Found s at n b m e p → Found s (p.at + 1) p.end m c f q
    → Found s at n b (set c q.end x) g (record { at = q.at; end = q.end + 1; letters = p.letters + q.letters; depth = max p.depth q.depth })
both_found x {s} {at} {n} {b} {m} {c} {e} {f} {g} {p} {q} made h k =
    let long : length (code g) ≡ length (code e) + length (code f) + 1 =
    ap length made.code_both ∙ length-append (code e ++ code f) (x ∷ []) ∙ ap (λ (j : ℕ). j + 1) (length-append (code e) (code f)) in
    let front : c ≡ sets b n (code e ++ code f) = k.written ∙ ap (λ (l : List ℕ). sets l p.end (code f)) h.written
    ∙ ap (λ (j : ℕ). sets (sets b n (code e)) j (code f)) h.end_is ∙ sets_append (code e) (code f) b n in
    let end : q.end ≡ n + length (code e ++ code f) = let z = length-append (code e) (code f) in omega (arith, h.end_is, k.end_is) in
    record {
      inside = k.inside;
      short = omega (arith, h.short, k.short);
      flat = let z = made.depth_max in omega (arith, h.flat, k.flat);
      letters_are = let z = made.letters_add in omega (arith, h.letters_are, k.letters_are);
      depth_is = let z = made.depth_max in omega (arith, h.depth_is, k.depth_is);
      end_is = omega (arith, h.end_is, k.end_is);
      written =
          ap (λ (l : List ℕ). set l q.end x) front ∙ ap (λ (j : ℕ). set (sets b n (code e ++ code f)) j x) end
          ∙ sets_append (code e ++ code f) (x ∷ []) b n ∙ ap (sets b n) (sym made.code_both);
    }

-- what comes after an operator's byte
after_byte : (o : Infix) (s : List ℕ) {y : Parse} (e : Expr) (p : ℕ) → eqb (first_byte (drop p s)) (byte_of o) ≡ true
    → y ≡ more_of o e (drop p s) → y ≡ then (read_of o (drop (p + 1) s)) (λ g r. more_of o (join_of o e g) r)
after_byte o s e p v h = h ∙ more_on o e (drop p s) v ∙ ap (λ (t : List ℕ). then (read_of o t) (λ g r. more_of o (join_of o e g) r)) (rest_drop s p)

both : (x : ℕ) (p q : Spot) (c : List ℕ) → Joins x (Got p) (Got q) c (set c q.end x)
    (Got (record { at = q.at; end = q.end + 1; letters = p.letters + q.letters; depth = max p.depth q.depth }))
both x p q c = record { joins = λ o s at n b m y h v d k. go o s at n b m y h v d k; left = λ s. omega arith }
  where
    go : (o : Infix) (s : List ℕ) (at n : ℕ) (b m : List ℕ) (y : Parse) → x ≡ number_of o → eqb (first_byte (drop p.at s)) (byte_of o) ≡ true →
        Done (more_of o) s at n b m y (Got p) → Done got s (p.at + 1) p.end m c (read_of o (drop (p.at + 1) s)) (Got q) →
        Done (more_of o) s at n b (set c q.end x) y (Got (record {
          at = q.at;
          end = q.end + 1;
          letters = p.letters + q.letters;
          depth = max p.depth q.depth;
        }))
    go o s at n b m y h v (some e i f) (some e' i' f') =
        some (join_of o e e')
        (after_byte o s e p.at v i ∙ ap (on (λ g r. more_of o (join_of o e g) r)) i')
        (both_found x (subst (λ (j : ℕ). Made j e e' (join_of o e e')) (sym h) (made o e e')) f f')

pub joins : (x : ℕ) {first next : Parsed} {p q : Spot} (c : List ℕ) → first ≡ Got p → next ≡ Got q
    → Joins x first next c (set c q.end x) (Got (record {
      at = q.at;
      end = q.end + 1;
      letters = p.letters + q.letters;
      depth = max p.depth q.depth;
    }))
joins x {first} {next} {p} {q} c h k = rw (h, k) (both x p q c)

pub joins_no_first : (x : ℕ) {first : Parsed} (next : Parsed) (c c' : List ℕ) → first ≡ Fault → Joins x first next c c' Fault
joins_no_first x next c c' h = record { joins = λ o s at n b m y i v d k. none (missed h d); left = λ s. omega arith }

no_next : (x : ℕ) (p : Spot) (c c' : List ℕ) → Joins x (Got p) Fault c c' Fault
no_next x p c c' = record { joins = λ o s at n b m y h v d k. go o s at n b m y v d k; left = λ s. omega arith }
  where
    go : (o : Infix) (s : List ℕ) (at n : ℕ) (b m : List ℕ) (y : Parse) → eqb (first_byte (drop p.at s)) (byte_of o) ≡ true →
        Done (more_of o) s at n b m y (Got p) → Done got s (p.at + 1) p.end m c (read_of o (drop (p.at + 1) s)) Fault → Done (more_of o) s at n b c' y Fault
    go o s at n b m y v (some e i f) (none i') = none (after_byte o s e p.at v i ∙ ap (on (λ g r. more_of o (join_of o e g) r)) i')

pub joins_no_next : (x : ℕ) {first next : Parsed} {p : Spot} (c c' : List ℕ) → first ≡ Got p → next ≡ Fault → Joins x first next c c' Fault
joins_no_next x {p = p} c c' h k = rw (h, k) (no_next x p c c')

pub has_room : {space : ℕ} {first next : Parsed} {p q : Spot} → first ≡ Got p → next ≡ Got q
    → RoomToJoin space first next → (q.end < space) × (p.letters + q.letters ≤ space)
has_room {space} {next = next} {p = p} h k g = subst (RoomToJoin space (Got p)) k (subst (λ (r : Parsed). RoomToJoin space r next) h g)

room_to_join : (o : Infix) {s : List ℕ} {at n space : ℕ} {b m c : List ℕ} {x y : Parse} {first next : Parsed} → Done (more_of o) s at n b m x first
    → Done got s ((spot_of first).at + 1) (spot_of first).end m c y next → n ≤ at → length s ≤ space → RoomToJoin space first next
room_to_join o (none h) k u g = tt
room_to_join o (some e h f) (none i) u g = tt
room_to_join o (some e h f) (some e' i f') u g = (
  omega (arith, f.end_is, f.short, f'.end_is, f'.short, f'.inside),
  omega (arith, f.letters_are, letters_code e, f.short, f'.letters_are, letters_code e', f'.short, f'.inside),
)

fewer_left : (o : Infix) {s : List ℕ} {at n : ℕ} {b m c : List ℕ} {x y : Parse} {first next : Parsed} → Done (more_of o) s at n b m x first
    → comes_next s first (byte_of o) ≡ true → Done got s ((spot_of first).at + 1) (spot_of first).end m c y next → bytes_left s next < bytes_left s first
fewer_left o (none h) v k = absurd (let z : ◌≡◌ {A = ℕ} 0 1 = cc in omega arith)
fewer_left o (some e h f) v (none i) = omega arith
fewer_left o (some e h f) v (some e' i f') = omega (arith, f'.short, f'.inside)

-- the loop: `first` is what it has read, told from `first₀`, which was read before it, and the code is as long as it was
pub record Looped (o : Infix) (s : List ℕ) (at n : ℕ) (first₀ : Parsed) (code₀ : List ℕ) (first : Parsed) (code : List ℕ) : Type 0 where
  pub since : Since o s at n first₀ code₀ first code
  pub told : (before : List ℕ) × Done got s at n before code₀ (read_of o (drop at s)) first₀
  pub asks : Asks s at n code₀
  pub as_long : length code ≡ length code₀

module _ (o : Infix) {s : List ℕ} {at n : ℕ} {before code₀ : List ℕ} {first₀ : Parsed} (d : Done got s at n before code₀ (read_of o (drop at s)) first₀) where
  pub looped : Asks s at n code₀ → Looped o s at n first₀ code₀ first₀ code₀
  looped h = record { since = λ _ k. starts o k; told = (before, d); asks = h; as_long = refl }

  pub looped_all : {first : Parsed} {code : List ℕ} {b : Bool} → Looped o s at n first₀ code₀ first code → b ≡ comes_next s first (byte_of o) → b ≡ false
      → Done got s at n before code (whole_of o (drop at s)) first
  looped_all l e h = ends o (l.since before d) (sym e ∙ h)

-- a turn of the loop: an operator's byte comes next, and q is where `first` ends
pub record Turn (o : Infix) (s : List ℕ) (at n : ℕ) (first₀ : Parsed) (code₀ : List ℕ) (first : Parsed) (code : List ℕ) (q : Spot) : Type 0 where
  pub inv : Looped o s at n first₀ code₀ first code
  pub comes : comes_next s first (byte_of o) ≡ true
  pub spot : q ≡ spot_of first

module _ {o : Infix} {s : List ℕ} {at n : ℕ} {first₀ : Parsed} {code₀ : List ℕ} {first : Parsed} {code : List ℕ} {q : Spot}
    (turn : Turn o s at n first₀ code₀ first code q) where
  so_far : Done (more_of o) s at n turn.inv.told.0 code (whole_of o (drop at s)) first
  so_far = turn.inv.since _ turn.inv.told.1

  pub ahead : Onward s at q
  ahead = rw turn.spot (onward o so_far turn.comes turn.inv.asks.behind)

  pub asks_next : Asks s (q.at + 1) q.end code
  asks_next = let h = ahead in record { inside = omega arith; behind = omega arith; space = omega (arith, turn.inv.asks.space, turn.inv.as_long) }

  -- what is read next
  module _ {code' : List ℕ} {next : Parsed} (d : Done got s (q.at + 1) q.end code code' (read_of o (drop (q.at + 1) s)) next)
      (as_long : length code' ≡ length code) where
    from_first : Done got s ((spot_of first).at + 1) (spot_of first).end code code' (read_of o (drop ((spot_of first).at + 1) s)) next
    from_first = subst (λ (p : Spot). Done got s (p.at + 1) p.end code code' (read_of o (drop (p.at + 1) s)) next) turn.spot d

    pub room : RoomToJoin (length code') first next
    room = room_to_join o so_far from_first turn.inv.asks.behind (omega (arith, turn.inv.asks.space, turn.inv.as_long, as_long))

    module _ {x : ℕ} {code'' : List ℕ} {r : Parsed} (j : Joins x first next code' code'' r) where
      pub falls : bytes_left s r < bytes_left s first
      falls = omega (arith, fewer_left o so_far turn.comes from_first, j.left s)

      pub again : x ≡ number_of o → length code'' ≡ length code' → Looped o s at n first₀ code₀ r code''
      again h e = record {
        since = λ before k. j.joins o s at n before code _ h turn.comes (turn.inv.since before k) from_first;
        told = turn.inv.told;
        asks = turn.inv.asks;
        as_long = e ∙ as_long ∙ turn.inv.as_long;
      }
