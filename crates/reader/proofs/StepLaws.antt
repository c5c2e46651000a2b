-- The laws of one step of reading: what an inner reader has done, with one thing more.
--   there, rest_drop     the byte at a place, and the bytes after it
--   code_some, sets_append, read_as
--                        a code has a number; one run of stores after another; the same of an equal parse
--   gave, missed         what was read, by what the reader answered
--   fit, has_room, has_place, room_for_mark, room_for_hat, room_for_symbol, asks_kept, asks_next_byte, fits_after
--                        what the steps ask, and that it is met
--   marks, inverts       a mark after it, or none; a ^ before
--   closes, not_closed, none_closed
--                        the ) of a group
--   writes, writes_none  a symbol with its number
--   group_is, hat_is, plain_is
--                        what the descent reads at ( and at ^
-- Assumes nothing.
use mathlib.Core.Path.{◌≡◌, refl, sym, ap, ap₂, ◌∙◌, subst}
use mathlib.Core.List.{List, [], ◌∷◌, ◌++◌}
use mathlib.Core.Bool.{Bool, true, false}
use Prim.Native.Nat.{ℕ, zero, suc, ◌+◌, ◌≤◌, ◌<◌}
use native.Mathlib.Numerals.{add-one}
use native.Mathlib.Omega.{arith}
use lib.Dec.{ltb, eqb}
use lib.ListN.{length, drop, set, drop_of_length-le, length-append}
use lib.Seq.{sets}
use borrow.Author.Tests.{eq-eqb, ne_eqb, ltb-true, ltb-false, eqb-true}
use Rattle.book.specs.Basics.{pick}
use Rattle.paths.specs.Expressions.{Symbol, Expr, symbol, group, inverse, star, plus, optional, alternative, sequence, letters, depth}
use Rattle.paths.specs.Grammar.{hat, asterisk, plus_sign, question_mark, open_group, close_group}
use Rattle.paths.specs.Descent.{Parse, got, fault, first_byte, rest, then, read_mark, read_close, invert_read, read_alternatives, read_part, read_atom}
use Rattle.paths.proofs.DescentEquationLaws.{if_true, if_false, atom_group, part_hat, part_plain, mark_star, mark_plus, mark_optional, mark_none}
use Rattle.reader.specs.Code.{op_inverse, op_star, op_plus, op_optional, letters_number, code}
use Rattle.reader.specs.CodeLaws.{letters_code}
use Rattle.reader.specs.declared.symbols.Letters.{Letters}
use Rattle.reader.specs.declared.symbols.Symbol.{Symbol as Symbol-read}
use Rattle.reader.specs.declared.symbols.Symbol.TheVariants.{Read, Missing}
use Rattle.reader.specs.declared.Spot.{Spot}
use Rattle.reader.specs.declared.Parsed.{Parsed}
use Rattle.reader.specs.declared.Parsed.TheVariants.{Got, Fault}
use Rattle.reader.specs.Progress.{Found, Done, none, some, StandsFor, Stands, missing, stands, Asks, Fit, no-mark, Fits, RoomToWrap, RoomToWrite, Closes}
use Rattle.reader.specs.Progress.{mark_number, mark_of, wrap, wrap_code}

-- one byte on
rest_suc : (p : ℕ) (s : List ℕ) → rest (drop p s) ≡ drop (suc p) s
rest_suc zero [] = refl
rest_suc zero (x ∷ s) = refl
rest_suc (suc p) [] = refl
rest_suc (suc p) (x ∷ s) = rest_suc p s

pub rest_drop : (s : List ℕ) (p : ℕ) → rest (drop p s) ≡ drop (p + 1) s
rest_drop s p = rest_suc p s ∙ ap (λ (k : ℕ). drop k s) (sym (add-one p))

-- a byte other than 0 stands inside the text
pub there : (s : List ℕ) (p c : ℕ) → first_byte (drop p s) ≡ c → 0 < c → p < length s
there s p c h k = go (ltb p (length s)) refl
  where
    go : (b : Bool) → ltb p (length s) ≡ b → p < length s
    go true q = ltb-true p (length s) q
    go false q = absurd (let z : first_byte (drop p s) ≡ 0 = ap first_byte (drop_of_length-le s (ltb-false p (length s) q)) in omega arith)

-- every expression has a letter, so its code is not empty
letters_some : (e : Expr) → 0 < letters e
unfolding letters
letters_some (symbol k) = omega arith
letters_some (group e) = letters_some e
letters_some (inverse e) = letters_some e
letters_some (star e) = letters_some e
letters_some (plus e) = letters_some e
letters_some (optional e) = letters_some e
letters_some (alternative e f) = omega (arith, letters_some e)
letters_some (sequence e f) = omega (arith, letters_some e)

pub code_some : (e : Expr) → 0 < length (code e)
code_some e = omega (arith, letters_some e, letters_code e)

-- one run of stores after another
pub sets_append : (cs ds b : List ℕ) (n : ℕ) → sets (sets b n cs) (n + length cs) ds ≡ sets b n (cs ++ ds)
sets_append [] ds b n = ap (λ (k : ℕ). sets b k ds) (let z : n + 0 ≡ n = omega arith in z)
sets_append (c ∷ cs) ds b n =
    ap (λ (k : ℕ). sets (sets (set b n c) (suc n) cs) k ds) (let z : n + suc (length cs) ≡ suc n + length cs = omega arith in z)
    ∙ sets_append cs ds (set b n c) (suc n)

abbrev pub on : (Expr → List ℕ → Parse) → Parse → Parse
on k x = then x k

-- what was read
pub record Gave (k : Expr → List ℕ → Parse) (s : List ℕ) (at n : ℕ) (before after : List ℕ) (x : Parse) (q : Spot) : Type 0 where
  pub e : Expr
  pub is : x ≡ k e (drop q.at s)
  pub found : Found s at n before after e q

abbrev Back : (Expr → List ℕ → Parse) → List ℕ → ℕ → ℕ → List ℕ → List ℕ → Parse → Parsed → Type 0
Back k s at n b a x Fault = x ≡ fault
Back k s at n b a x (Got q) = Gave k s at n b a x q

module _ {k : Expr → List ℕ → Parse} {s : List ℕ} {at n : ℕ} {b a : List ℕ} {x : Parse} where
  back : {r : Parsed} → Done k s at n b a x r → Back k s at n b a x r
  back (none h) = h
  back (some e h f) = record { e = e; is = h; found = f }

  pub gave : {r : Parsed} {q : Spot} → r ≡ Got q → Done k s at n b a x r → Gave k s at n b a x q
  gave h d = subst (Back k s at n b a x) h (back d)

  pub missed : {r : Parsed} → r ≡ Fault → Done k s at n b a x r → x ≡ fault
  missed h d = subst (Back k s at n b a x) h (back d)

pub fit : {s : List ℕ} {r : Parsed} {q : Spot} → r ≡ Got q → Fits s r → Fit s q
fit {s} h g = subst (Fits s) h g

pub has_room : {space x : ℕ} (passed : ℕ) {r : Parsed} {q : Spot} → r ≡ Got q
    → RoomToWrap space x passed r → (x ≡ no-mark → ⊥) → (q.end < space) × (q.at + passed ≤ space)
has_room {space} {x} passed h g = subst (RoomToWrap space x passed) h g

-- e' is e with an operator of number x on it
record Wraps (x : ℕ) (e e' : Expr) : Type 0 where
  letters_same : letters e' ≡ letters e
  depth_same : depth e' ≡ depth e
  code_more : code e' ≡ code e ++ (x ∷ [])

-- one number more: the reading now begins at at' and ends at p'
one_more : {s : List ℕ} {at n : ℕ} {b a : List ℕ} {e : Expr} {q : Spot} (x at' p' : ℕ) (e' : Expr)
    → Found s at n b a e q → Wraps x e e' → p' ≤ length s → at' + 1 + q.at ≤ p' + at
    → Found s at' n b (set a q.end x) e' (record { at = p'; end = q.end + 1; letters = q.letters; depth = q.depth })
one_more {n = n} {b = b} {a = a} {e = e} {q = q} x at' p' e' f w h g =
    let long : length (code e') ≡ length (code e) + 1 = ap length w.code_more ∙ length-append (code e) (x ∷ []) in
    let deep = w.depth_same in
    record {
      inside = h;
      short = omega (arith, f.short);
      flat = omega (arith, f.flat);
      letters_are = f.letters_are ∙ sym w.letters_same;
      depth_is = f.depth_is ∙ sym w.depth_same;
      end_is = omega (arith, f.end_is);
      written =
          ap (λ (c : List ℕ). set c q.end x) f.written ∙ ap (λ (k : ℕ). set (sets b n (code e)) k x) f.end_is
          ∙ sets_append (code e) (x ∷ []) b n ∙ ap (sets b n) (sym w.code_more);
    }

-- a mark
data MarkIs (c : ℕ) : ℕ → Type 0 where
  a_mark : {x : ℕ} (M : Expr → Expr) → 0 < c → (x ≡ no-mark → ⊥)
      → ((e : Expr) (l : List ℕ) → first_byte l ≡ c → read_mark e l ≡ got (M e) (rest l)) → ((e : Expr) → Wraps x e (M e)) → MarkIs c x
  not-one : ((e : Expr) (l : List ℕ) → first_byte l ≡ c → read_mark e l ≡ got e l) → MarkIs c no-mark

wraps_star : (e : Expr) → Wraps op_star e (star e)
unfolding letters depth code
wraps_star e = record { letters_same = refl; depth_same = refl; code_more = refl }

wraps_plus : (e : Expr) → Wraps op_plus e (plus e)
unfolding letters depth code
wraps_plus e = record { letters_same = refl; depth_same = refl; code_more = refl }

wraps_optional : (e : Expr) → Wraps op_optional e (optional e)
unfolding letters depth code
wraps_optional e = record { letters_same = refl; depth_same = refl; code_more = refl }

wraps_inverse : (e : Expr) → Wraps op_inverse e (inverse e)
unfolding letters depth code
wraps_inverse e = record { letters_same = refl; depth_same = refl; code_more = refl }

mark_is : (c : ℕ) → MarkIs c (mark_number c)
mark_is c = go (eqb c asterisk) (eqb c plus_sign) (eqb c question_mark) refl refl refl
  where
    go : (x y z : Bool) → eqb c asterisk ≡ x → eqb c plus_sign ≡ y → eqb c question_mark ≡ z
        → MarkIs c (pick x op_star (pick y op_plus (pick z op_optional no-mark)))
    go true y z f g h =
        let v = eqb-true c asterisk f in
        a_mark {x = op_star} star (omega arith) (λ z. omega arith) (λ e l w. mark_star e l (ap (λ (t : ℕ). eqb t asterisk) w ∙ f)) wraps_star
    go false true z f g h =
        let v = eqb-true c plus_sign g in
        a_mark {x = op_plus} plus (omega arith) (λ z. omega arith)
        (λ e l w. mark_plus e l (ap (λ (t : ℕ). eqb t asterisk) w ∙ f) (ap (λ (t : ℕ). eqb t plus_sign) w ∙ g)) wraps_plus
    go false false true f g h =
        let v = eqb-true c question_mark h in
        a_mark {x = op_optional} optional (omega arith) (λ z. omega arith)
        (λ e l w. mark_optional e l (ap (λ (t : ℕ). eqb t asterisk) w ∙ f) (ap (λ (t : ℕ). eqb t plus_sign) w ∙ g) (ap (λ (t : ℕ). eqb t question_mark) w ∙ h))
        wraps_optional
    go false false false f g h =
        not-one (λ e l w. mark_none e l (ap (λ (t : ℕ). eqb t asterisk) w ∙ f)
        (ap (λ (t : ℕ). eqb t plus_sign) w ∙ g) (ap (λ (t : ℕ). eqb t question_mark) w ∙ h))

mark_read : {s : List ℕ} {at n : ℕ} {b a : List ℕ} {x : Parse} {r : Parsed} → Done got s at n b a x r
    → Done got s at n b (wrap_code (mark_of s r) r a) (then x read_mark) (wrap (mark_of s r) 1 r)
mark_read (none h) = none (ap (on read_mark) h)
mark_read {s} {at} {n} {b} {a} {x} (some {q} e h f) = go (first_byte (drop q.at s)) (mark_number (first_byte (drop q.at s))) refl (mark_is _)
  where
    go : (c y : ℕ) → first_byte (drop q.at s) ≡ c → MarkIs c y → Done got s at n b (wrap_code y (Got q) a) (then x read_mark) (wrap y 1 (Got q))
    go c y w (a_mark M k j m u) =
        let inside = there s q.at c w k in
        rw (ne_eqb y no-mark j)
        (some (M e) (ap (on read_mark) h ∙ m e (drop q.at s) w ∙ ap (got (M e)) (rest_drop s q.at))
        (one_more y at (q.at + 1) (M e) f (u e) (omega arith) (omega arith)))
    go c y w (not-one m) = some e (ap (on read_mark) h ∙ m e (drop q.at s) w) f

pub marks : {s : List ℕ} {at n : ℕ} {b a a' : List ℕ} {x : Parse} {r q : Parsed} {y : ℕ} → y ≡ mark_of s r
    → (q ≡ wrap y 1 r) × (a' ≡ wrap_code y r a) → Done got s at n b a x r → Done got s at n b a' (then x read_mark) q
marks h w d = rw (w.0, w.1, h) (mark_read d)

-- a ^ before
hat_read : {s : List ℕ} {at n : ℕ} {b a : List ℕ} {x : Parse} {r : Parsed} → Done got s (at + 1) n b a x r
    → Done got s at n b (wrap_code op_inverse r a) (then x invert_read) (wrap op_inverse 0 r)
hat_read (none h) = none (ap (on invert_read) h)
hat_read {s} {at} (some {q} e h f) =
    some (inverse e) (ap (on invert_read) h ∙ ap (λ (p : ℕ). got (inverse e) (drop p s)) (let z : q.at ≡ q.at + 0 = omega arith in z))
    (one_more op_inverse at (q.at + 0) (inverse e) f (wraps_inverse e) (omega (arith, f.inside)) (omega arith))

pub inverts : {s : List ℕ} {at n : ℕ} {b a a' : List ℕ} {x : Parse} {r q : Parsed}
    → (q ≡ wrap op_inverse 0 r) × (a' ≡ wrap_code op_inverse r a) → Done got s (at + 1) n b a x r → Done got s at n b a' (then x invert_read) q
inverts w d = rw (w.0, w.1) (hat_read d)

-- there is room for the numbers of a mark and of a ^
mark_room : {s : List ℕ} {at n space : ℕ} {b a : List ℕ} {x : Parse} {r : Parsed}
    → Done got s at n b a x r → n ≤ at → length s ≤ space → RoomToWrap space (mark_of s r) 1 r
mark_room (none h) u g = tt
mark_room {s} {space = space} (some {q} e h f) u g = λ k. go (first_byte (drop q.at s)) (mark_number (first_byte (drop q.at s))) refl (mark_is _) k
  where
    go : (c y : ℕ) → first_byte (drop q.at s) ≡ c → MarkIs c y → (y ≡ no-mark → ⊥) → (q.end < space) × (q.at + 1 ≤ space)
    go c y w (a_mark M k j m v) i = let inside = there s q.at c w k in (omega (arith, f.end_is, f.short), omega arith)
    go c y w (not-one m) i = absurd (i refl)

pub room_for_mark : {s : List ℕ} {at n space : ℕ} {b a : List ℕ} {x : Parse} {r : Parsed} {y : ℕ}
    → y ≡ mark_of s r → Done got s at n b a x r → n ≤ at → length s ≤ space → RoomToWrap space y 1 r
room_for_mark h d u g = rw h (mark_room d u g)

pub room_for_hat : {s : List ℕ} {at n space : ℕ} {b a : List ℕ} {x : Parse} {r : Parsed}
    → Done got s (at + 1) n b a x r → n ≤ at → length s ≤ space → RoomToWrap space op_inverse 0 r
room_for_hat (none h) u g = tt
room_for_hat (some e h f) u g = λ k. (omega (arith, f.end_is, f.short, f.inside), omega (arith, f.inside))

-- the ) of a group
grouped : {s : List ℕ} {at n : ℕ} {b a : List ℕ} {e : Expr} {q : Spot} → Found s (at + 1) n b a e q → q.at < length s
    → Found s at n b a (group e) (record { at = q.at + 1; end = q.end; letters = q.letters; depth = q.depth + 1 })
unfolding letters depth code
grouped f i = record {
  inside = omega arith;
  short = omega (arith, f.short);
  flat = omega (arith, f.flat);
  letters_are = f.letters_are;
  depth_is = ap (λ (k : ℕ). k + 1) f.depth_is;
  end_is = f.end_is;
  written = f.written;
}

pub closes : {s : List ℕ} {r : Parsed} {q : Spot} → r ≡ Got q → first_byte (drop q.at s) ≡ close_group
    → Closes s r (Got (record { at = q.at + 1; end = q.end; letters = q.letters; depth = q.depth + 1 }))
closes {s} {q = q} is v at n b a x d =
    let g = gave is d in
    some (group g.e)
    (ap (on read_close) g.is ∙ if_true (eqb (first_byte (drop q.at s)) close_group) _ _ (eq-eqb _ _ v) ∙ ap (got (group g.e)) (rest_drop s q.at))
    (grouped g.found (there s q.at close_group v (omega arith)))

pub not_closed : {s : List ℕ} {r : Parsed} {q : Spot} → r ≡ Got q → (first_byte (drop q.at s) ≡ close_group → ⊥) → Closes s r Fault
not_closed {s} {q = q} is v at n b a x d = none (ap (on read_close) (gave is d).is ∙ if_false (eqb (first_byte (drop q.at s)) close_group) _ _ (ne_eqb _ _ v))

pub none_closed : {s : List ℕ} {r : Parsed} → r ≡ Fault → Closes s r Fault
none_closed h at n b a x d = none (ap (on read_close) (missed h d))

-- a symbol, and its number
symbol_found : {s : List ℕ} {at n : ℕ} {b : List ℕ} {x : Parse} {y : Symbol} {q : Letters} → StandsFor s at x y q
    → Found s at n b (set b n (letters_number q.forward q.against)) (symbol y) (record { at = q.at; end = n + 1; letters = 1; depth = 0 })
unfolding letters depth code
symbol_found {n = n} {b = b} h =
    record {
      inside = h.inside;
      short = omega (arith, h.past);
      flat = omega (arith, h.past);
      letters_are = refl;
      depth_is = refl;
      end_is = refl;
      written = ap₂ (λ (y z : ℕ). set b n (letters_number y z)) h.forward h.against;
    }

abbrev Symbols : List ℕ → ℕ → Parse → Symbol-read → Type 0
Symbols s at x Missing = x ≡ fault
Symbols s at x (Read q) = (y : Symbol) × StandsFor s at x y q

symbols : {s : List ℕ} {at : ℕ} {x : Parse} {r : Symbol-read} → Stands s at x r → Symbols s at x r
symbols (missing h) = h
symbols (stands y h) = (y, h)

pub writes : {n : ℕ} {b : List ℕ} {r : Symbol-read} {q : Letters} → r ≡ Read q → (s : List ℕ) (at : ℕ) (x : Parse) → Stands s at x r
    → Done got s at n b (set b n (letters_number q.forward q.against)) x (Got (record { at = q.at; end = n + 1; letters = 1; depth = 0 }))
writes e s at x h = let z = subst (Symbols s at x) e (symbols h) in some (symbol z.0) z.1.is (symbol_found z.1)

pub writes_none : {n : ℕ} {b : List ℕ} {r : Symbol-read} → r ≡ Missing → (s : List ℕ) (at : ℕ) (x : Parse) → Stands s at x r → Done got s at n b b x Fault
writes_none e s at x h = none (subst (Symbols s at x) e (symbols h))

pub has_place : {space n : ℕ} {r : Symbol-read} {q : Letters} → r ≡ Read q → RoomToWrite space n r → n < space
has_place {space} {n} e h = subst (RoomToWrite space n) e h

-- there is room for a symbol's number
pub room_for_symbol : {s : List ℕ} {at n : ℕ} {a : List ℕ} {x : Parse} {r : Symbol-read} → Asks s at n a → Stands s at x r → RoomToWrite (length a) n r
room_for_symbol k (missing h) = tt
room_for_symbol k (stands y h) = omega (arith, h.past, h.inside, k.behind, k.space)

-- what the descent reads at ( and at ^
pub group_is : (s : List ℕ) (at : ℕ) → first_byte (drop at s) ≡ open_group → read_atom (drop at s) ≡ then (read_alternatives (drop (at + 1) s)) read_close
group_is s at v = atom_group (drop at s) (eq-eqb _ _ v) ∙ ap (λ (t : List ℕ). then (read_alternatives t) read_close) (rest_drop s at)

pub hat_is : (s : List ℕ) (at : ℕ) → first_byte (drop at s) ≡ hat → read_part (drop at s) ≡ then (then (read_atom (drop (at + 1) s)) read_mark) invert_read
hat_is s at v = part_hat (drop at s) (eq-eqb _ _ v) ∙ ap (λ (t : List ℕ). then (then (read_atom t) read_mark) invert_read) (rest_drop s at)

pub plain_is : (s : List ℕ) (at : ℕ) → (first_byte (drop at s) ≡ hat → ⊥) → read_part (drop at s) ≡ then (read_atom (drop at s)) read_mark
plain_is s at v = part_plain (drop at s) (ne_eqb _ _ v)

pub read_as : {k : Expr → List ℕ → Parse} {s : List ℕ} {at n : ℕ} {b a : List ℕ} {x y : Parse} {r : Parsed}
    → x ≡ y → Done k s at n b a y r → Done k s at n b a x r
read_as h d = rw h d

-- what a reader asks, of a code as long, and from the next byte on
pub asks_kept : {s : List ℕ} {at n : ℕ} {a a' : List ℕ} → length a' ≡ length a → Asks s at n a → Asks s at n a'
asks_kept h k = record { inside = k.inside; behind = k.behind; space = omega (arith, h, k.space) }

pub asks_next_byte : {s : List ℕ} {at n : ℕ} {a : List ℕ} → at < length s → Asks s at n a → Asks s (at + 1) n a
asks_next_byte h k = record { inside = omega arith; behind = omega (arith, k.behind); space = k.space }

-- what the ) of a group asks
pub fits_after : {k : Expr → List ℕ → Parse} {s : List ℕ} {at n : ℕ} {b a : List ℕ} {x : Parse} {r : Parsed} → Done k s at n b a x r → Fits s r
fits_after (none h) = tt
fits_after (some e h f) = record { inside = f.inside; flat = omega (arith, f.flat, f.depth_is) }
