-- Running the code: what each number does to the tables, what stands at the start and at the end.
--   Unary y f, Binary y f
--                        the item y is an operator on one operand, or on two, and makes f of them
--   inverts, stars, repeats, allows_none, unites, follows
--                        what each operator makes
--   Opened               of a number of the code: its operands, what is left of the run, and the symbols left
--   room_one, after_one, room_two, after_two, room_symbol, after_symbol
--                        for an operator on one, on two, and a symbol: there is room, and the tables after it hold what is left
--   holds_none, next-none
--                        at the start: empty tables hold nothing, and the whole code is left
--   at-end               at the end one part waits
--   alone_top            then one place of the stack is used
--   masked, masked_part, masked_sense
--                        with the start added, the tables are those of the automaton, of the expression or of its inverse
-- Assumes nothing.
use mathlib.Core.Path.{◌≡◌, refl, sym, ap, ap₂, ◌∙◌, subst}
use mathlib.Core.List.{List, [], ◌∷◌, ◌++◌}
use mathlib.Core.Bool.{Bool, true, false}
use Prim.Native.Nat.{ℕ, zero, suc, ◌+◌, ◌≤◌, ◌<◌, min, max}
use native.Mathlib.Omega.{arith}
use native.Mathlib.Decide.{dec_lt}
use lib.Bits.{bit_or}
use lib.Dec.{leb}
use lib.ListN.{length, get_or, set}
use lib.Seq.{get_or-set_same, get_or-set_other}
use borrow.Author.Tests.{ne_eqb, le-leb}
use Rattle.book.specs.Basics.{bit}
use Rattle.book.specs.Causes.{labels}
use Rattle.k2.specs.Bits.{digit}
use Rattle.k2.specs.DigitLaws.{digit_lt, digit_zero, digit_none, digit_or, digit_pow, digit_big}
use Rattle.paths.specs.Expressions.{Letter, Symbol, letter, none_of, stands_for, Expr, symbol, group, inverse, star, plus, optional as optional-part}
use Rattle.paths.specs.Expressions.{alternative}
use Rattle.paths.specs.Expressions.{sequence, letters}
use Rattle.paths.specs.Grammar.{Rule, alternatives, Is, one_alternative, more_alternatives, one_part, more_parts, plain, inverted, bare, with_star, with_plus}
use Rattle.paths.specs.Grammar.{with_optional, is-letter, is_negated, is_set, is_group}
use Rattle.paths.specs.Verdicts.{InLimits}
use Rattle.reader.specs.declared.items.Item.{Item}
use Rattle.reader.specs.declared.items.Item.TheVariants.{Letters, Inverse, Star, Plus, Optional, Alternative, Sequence}
use Rattle.reader.specs.Letters.{forward_of, against_of}
use Rattle.reader.specs.LetterLaws.{letters_all, letter_past, none_past}
use Rattle.reader.specs.Code.{op_inverse, op_star, op_plus, op_optional, op_alternative, op_sequence, first_letters, letters_number, item_of, code, value, does}
use Rattle.reader.specs.Code.{run}
use Rattle.reader.specs.Running.{operands, Runs, ended, next}
use Rattle.reader.specs.CodeLaws.{letters-number, run_code, runs_code}
use Rattle.automaton.specs.Automata.{is, Fragment, single, reversed, repeated, optional, either, followed, fragment, started, automaton}
use Rattle.automaton.specs.Traces.{Between, Within}
use Rattle.automaton.specs.Masks.{letter_number, Masked}
use Rattle.tables.specs.Rows.{Joined}
use Rattle.tables.specs.Builds.{Build, Part, changed, combined, parts, Item as Place, Items, none, item, Holds, symbols, places, Next, Alone, in_sense}
use Rattle.tables.proofs.PartLaws.{zero_of, Top, top_of}

-- ---- how many wait
items_length : {b : Build} {m k : ℕ} {st : List Part} → Items b m k st → k ≡ length st
items_length none = refl
items_length (item I F T) = ap suc (items_length I)

runs_places : {c : List ℕ} {st : List Part} → Runs parts places c st → length st ≤ places
runs_places (ended h) = h
runs_places (next b h r) = h

-- ---- what the operators do
pub record Unary (y : Item) (f : Part → Part) : Type 0 where
  pub takes : operands y ≡ 1
  pub makes : (x : Part) (st : List Part) → does parts y (x ∷ st) ≡ f x ∷ st

pub record Binary (y : Item) (f : Part → Part → Part) : Type 0 where
  pub takes : operands y ≡ 2
  pub makes : (x z : Part) (st : List Part) → does parts y (z ∷ x ∷ st) ≡ f x z ∷ st

pub inverts : Unary Inverse parts.inverted
unfolding does
inverts = record { takes = refl; makes = λ x st. refl }

pub stars : Unary Star (λ x. parts.maybe (parts.repeated x))
unfolding does parts
stars = record { takes = refl; makes = λ x st. refl }

pub repeats : Unary Plus parts.repeated
unfolding does
repeats = record { takes = refl; makes = λ x st. refl }

pub allows_none : Unary Optional parts.maybe
unfolding does
allows_none = record { takes = refl; makes = λ x st. refl }

pub unites : Binary Alternative parts.either
unfolding does
unites = record { takes = refl; makes = λ x z st. refl }

pub follows : Binary Sequence parts.followed
unfolding does
follows = record { takes = refl; makes = λ x z st. refl }

-- ---- a number of the code, which is the item y
module _ {b : Build} {i : ℕ} {c : List ℕ} {v : Part} (N : Next b (i ∷ c) v) {y : Item} (is-item : item_of i ≡ y) where
  -- its operands, what is left of the run, and the symbols left
  record Opened : Type 0 where
    enough : operands y ≤ length N.st
    rest : Runs parts places c (does parts y N.st)
    leaves : run parts c (does parts y N.st) ≡ v ∷ []

  opened : Opened
  unfolding run
  opened = go N.runs N.leaves
    where
      go : Runs parts places (i ∷ c) N.st → run parts c (does parts (item_of i) N.st) ≡ v ∷ [] → Opened
      go (next o h r) l = record {
        enough = subst (λ (x : Item). operands x ≤ length N.st) is-item o;
        rest = subst (λ (x : Item). Runs parts places c (does parts x N.st)) is-item r;
        leaves = subst (λ (x : Item). run parts c (does parts x N.st) ≡ v ∷ []) is-item l;
      }

  room : N.m + symbols c ≤ 63
  unfolding symbols
  room = let z = N.room in omega arith

  -- places of the operands
  room_of : (k : ℕ) → operands y ≡ k → (k ≤ b.top) × (b.top ≤ places)
  room_of k h = let z = items_length N.holds.items in let o = opened.enough in let p = runs_places N.runs in (omega arith, omega arith)

  -- the tables after it
  after : (r : Build) (m : ℕ) (st : List Part) → does parts y N.st ≡ st → m + symbols c ≤ 63 → Holds r m st → Next r c v
  after r m st d h H = record { m = m; st = st; runs = rw d at opened.rest; leaves = rw d at opened.leaves; room = h; holds = H }

  -- an operator on one
  pub room_one : {f : Part → Part} → Unary y f → (1 ≤ b.top) × (b.top ≤ places)
  room_one U = room_of 1 U.takes

  pub after_one : {f : Part → Part} {r : Build} → Unary y f → ((m : ℕ) (x : Part) (st : List Part) → Holds b m (x ∷ st) → Holds r m (f x ∷ st)) → Next r c v
  after_one {f} {r} U H = go N.st refl
    where
      go : (s : List Part) → N.st ≡ s → Next r c v
      go [] q = absurd (let o = opened.enough in let k = U.takes in let z : length N.st ≡ 0 = ap length q in omega arith)
      go (x ∷ s) q = after r N.m (f x ∷ s) (ap (does parts y) q ∙ U.makes x s) room (H N.m x s (rw q at N.holds))

  -- an operator on two
  pub room_two : {f : Part → Part → Part} → Binary y f → (2 ≤ b.top) × (b.top ≤ places)
  room_two B = room_of 2 B.takes

  pub after_two : {f : Part → Part → Part} {r : Build} → Binary y f
      → ((m : ℕ) (x z : Part) (st : List Part) → Holds b m (z ∷ x ∷ st) → Holds r m (f x z ∷ st)) → Next r c v
  after_two {f} {r} B H = go N.st refl
    where
      go : (s : List Part) → N.st ≡ s → Next r c v
      go [] q = absurd (let o = opened.enough in let k = B.takes in let z : length N.st ≡ 0 = ap length q in omega arith)
      go (x ∷ []) q = absurd (let o = opened.enough in let k = B.takes in let z : length N.st ≡ 1 = ap length q in omega arith)
      go (z ∷ x ∷ s) q = after r N.m (f x z ∷ s) (ap (does parts y) q ∙ B.makes x z s) room (H N.m x z s (rw q at N.holds))

-- a symbol
module _ {b : Build} {i : ℕ} {c : List ℕ} {v : Part} (N : Next b (i ∷ c) v) {forward against : ℕ} (is-item : item_of i ≡ Letters forward against) where
  does_symbol : does parts (Letters forward against) N.st ≡ parts.of forward against ∷ N.st
  unfolding does
  does_symbol = refl

  symbols_left : N.m + (1 + symbols c) ≤ 63
  unfolding symbols
  symbols_left = let z = N.room in let y : bit (leb first_letters i) ≡ 1 = ap bit (le-leb first_letters i (letters-number i is-item)) in omega arith

  pub room_symbol : (b.top < places) × (b.used < 63)
  room_symbol =
      let z = items_length N.holds.items in
      let p : suc (length N.st) ≤ places = runs_places (rw does_symbol at (opened N is-item).rest) in
      let u = N.holds.count in
      let l = symbols_left in
      (omega arith, omega arith)

  pub after_symbol : {r : Build} → ((m : ℕ) (st : List Part) → Holds b m st → Holds r (m + 1) (parts.of forward against ∷ st)) → Next r c v
  after_symbol {r} H =
      after N is-item r (N.m + 1) (parts.of forward against ∷ N.st) does_symbol (let l = symbols_left in omega arith) (H N.m N.st N.holds)

-- ---- at the start
symbols_append : (c d : List ℕ) → symbols (c ++ d) ≡ symbols c + symbols d
unfolding symbols
symbols_append [] d = omega arith
symbols_append (i ∷ c) d = let z = symbols_append c d in omega arith

symbols_two : (c d : List ℕ) (i : ℕ) → symbols ((c ++ d) ++ (i ∷ [])) ≡ symbols c + symbols d + symbols (i ∷ [])
symbols_two c d i = symbols_append (c ++ d) (i ∷ []) ∙ ap (λ (k : ℕ). k + symbols (i ∷ [])) (symbols_append c d)

-- a code has as many symbols as its expression has letters
symbols_code : (e : Expr) → symbols (code e) ≡ letters e
unfolding symbols code letters
symbols_code (symbol s) =
    rw (le-leb first_letters (letters_number (forward_of (stands_for s)) (against_of (stands_for s))) (unfold letters_number in (omega arith))) refl
symbols_code (group e) = symbols_code e
symbols_code (inverse e) = let u = symbols_code e in symbols_append (code e) (op_inverse ∷ []) ∙ (omega arith)
symbols_code (star e) = let u = symbols_code e in symbols_append (code e) (op_star ∷ []) ∙ (omega arith)
symbols_code (plus e) = let u = symbols_code e in symbols_append (code e) (op_plus ∷ []) ∙ (omega arith)
symbols_code (optional-part e) = let u = symbols_code e in symbols_append (code e) (op_optional ∷ []) ∙ (omega arith)
symbols_code (alternative e f) = let u = symbols_code e in let v = symbols_code f in symbols_two (code e) (code f) op_alternative ∙ (omega arith)
symbols_code (sequence e f) = let u = symbols_code e in let v = symbols_code f in symbols_two (code e) (code f) op_sequence ∙ (omega arith)

pub holds_none : (f p e : List ℕ) → ((i : ℕ) → get_or f i 0 ≡ 0) → ((i : ℕ) → get_or p i 0 ≡ 0) → ((i : ℕ) → get_or e i 0 ≡ 0)
    → (u v w n : List ℕ) → Holds (record { follow = f; pred = p; enter = e; first = u; last = v; own = w; nullable = n; top = 0; used = 0 }) 0 []
holds_none f p e hf hp he u v w n = record {
  items = none;
  count = refl;
  few = omega arith;
  blank = record { follow = λ i q n. rw (hf i) (digit_none q); pred = λ i q n. rw (hp q) (digit_none i); enter = λ i q n. rw (he i) (digit_none q) };
}

pub next-none : {b : Build} {s ns : List ℕ} {e : Expr} → InLimits s e → ns ≡ code e → Holds b 0 [] → Next b ns (value parts e)
next-none {e = e} L q H =
    rw q (record {
      m = 0;
      st = [];
      runs = runs_code parts L.syntax places [] (let d = L.shallow in omega arith);
      leaves = run_code parts L.syntax [];
      room = (let z = symbols_code e in let l = L.few_letters in omega arith);
      holds = H;
    })

-- ---- an expression's part is its letters and its fragment
abbrev part_of : Expr → Part
part_of e = record { letters = letters e; fragment = fragment e }

value_symbol : (s : Symbol) → ((a : Letter) → labels ≤ a.label → stands_for s a ≡ false) → value parts (symbol s) ≡ part_of (symbol s)
unfolding value parts fragment letters
value_symbol s h = ap (λ (f : Letter → Bool). record { letters = 1; fragment = λ o. single (suc o) f }) (letters_all (stands_for s) h)

value_parts : {R : Rule} {s : List ℕ} {e : Expr} → Is R s e → value parts e ≡ part_of e
unfolding value parts fragment letters
value_parts (one_alternative d) = value_parts d
value_parts (more_alternatives d d') = ap₂ (combined either) (value_parts d) (value_parts d')
value_parts (one_part d) = value_parts d
value_parts (more_parts d d') = ap₂ (combined followed) (value_parts d) (value_parts d')
value_parts (plain d) = value_parts d
value_parts (inverted d) = ap (changed reversed) (value_parts d)
value_parts (bare d) = value_parts d
value_parts (with_star d) = ap (changed (λ A. optional (repeated A))) (value_parts d)
value_parts (with_plus d) = ap (changed repeated) (value_parts d)
value_parts (with_optional d) = ap (changed optional) (value_parts d)
value_parts (is-letter {k} h) = value_symbol (letter k) (letter_past k h)
value_parts (is_negated {a = a} m) = value_symbol (none_of (a ∷ [])) (none_past (a ∷ []))
value_parts (is_set {w = w} m) = value_symbol (none_of w) (none_past w)
value_parts (is_group d) = value_parts d

-- ---- at the end
bottom : {b : Build} {o j : ℕ} → Items b o j [] → (o ≡ 0) × (j ≡ 0)
bottom none = (refl, refl)

pub at-end : {b : Build} {x : Part} → Next b [] x → (m : ℕ) × Holds b m (x ∷ [])
unfolding run
at-end N = (N.m, rw N.leaves at N.holds)

pub alone_top : {b : Build} {x : Part} → Alone b x → (1 ≤ b.top) × (b.top ≤ places)
alone_top A = let z = items_length A.1.items in (omega arith, omega arith)

-- with the start, they are the tables of the automaton
module _ {b : Build} {m : ℕ} {x : Part} (H : Holds b m (x ∷ [])) where
  abbrev A : Fragment
  A = x.fragment 0

  t : Top b m b.top x []
  t = top_of H.items

  z : (t.o ≡ 0) × (t.j ≡ 0)
  z = bottom t.rest

  T : Place b 0 0 x.letters A
  T =
      subst (λ (k : ℕ). Place b 0 0 k A) (let y : 0 + x.letters ≡ x.letters = omega arith in y)
      (subst (λ (j : ℕ). Place b j 0 (0 + x.letters) A) z.1 (subst (λ (o : ℕ). Place b t.j o (o + x.letters) (x.fragment o)) z.0 t.this))

  em : m ≡ x.letters
  em = let y = t.ends in let w = z.0 in omega arith

  W : Within 0 (0 + x.letters) A
  W = t.fit.within 0

  inside : (q : ℕ) → Dec (Between 0 x.letters q)
  inside q = go (dec_lt 0 q) (dec_lt x.letters q)
    where
      go : Dec (0 < q) → Dec (x.letters < q) → Dec (Between 0 x.letters q)
      go (yes h) (no g) = yes (h, omega arith)
      go (yes h) (yes g) = no (λ k. omega arith)
      go (no h) g = no (λ k. h k.0)

  -- a position outside has nothing
  out : (q : ℕ) → (Between 0 x.letters q → ⊥) → Between 0 m q → ⊥
  out q n k = n (omega arith, omega (arith, em))

  no_follow : (p q : ℕ) → (Between 0 x.letters p → ⊥) → A.follow p q ≡ 0
  no_follow p q n = zero_of _ (λ o. n (let k = W.from p q o in (omega arith, omega arith)))

  no_before : (p q : ℕ) → (Between 0 x.letters q → ⊥) → A.follow p q ≡ 0
  no_before p q n = zero_of _ (λ o. n (let k = W.to p q o in (omega arith, omega arith)))

  before_is : (p q : ℕ) → digit (get_or b.pred q 0) p ≡ A.follow p q
  before_is p q = go (inside q)
    where
      go : Dec (Between 0 x.letters q) → digit (get_or b.pred q 0) p ≡ A.follow p q
      go (yes h) = T.pred p q h
      go (no h) = H.blank.pred p q (out q h) ∙ sym (no_before p q h)

  follow_is : (p q : ℕ) → digit (get_or b.follow p 0) q ≡ A.follow p q
  follow_is p q = go (inside p)
    where
      go : Dec (Between 0 x.letters p) → digit (get_or b.follow p 0) q ≡ A.follow p q
      go (yes h) = T.follow p q h
      go (no h) = H.blank.follow p q (out p h) ∙ sym (no_follow p q h)

  pub masked : {pred : List ℕ} → length b.follow ≡ 64 → Joined b.pred (digit (get_or b.first 0 0)) 1 pred
      → Masked (set b.follow 0 (get_or b.first 0 0)) pred b.enter (bit_or (get_or b.last 0 0) (get_or b.nullable 0 0)) (started A)
  unfolding started
  masked {pred} long J = record { follow = fo; before = be; enters = en; final = fi }
    where
      fo : (p q : ℕ) → digit (get_or (set b.follow 0 (get_or b.first 0 0)) p 0) q ≡ max (A.follow p q) (min (is 0 p) (A.first q))
      fo zero q =
          ap (λ (x : ℕ). digit x q) (get_or-set_same b.follow 0 (get_or b.first 0 0) 0 (omega arith)) ∙ T.first q
          ∙ (let n = no_follow 0 q (λ h. omega arith) in let l = digit_lt (get_or b.first 0 0) q in let x = T.first q in omega arith)
      fo (suc p) q =
          ap (λ (x : ℕ). digit x q) (get_or-set_other b.follow 0 (suc p) (get_or b.first 0 0) 0 (λ h. omega arith)) ∙ follow_is (suc p) q
          ∙ rw (ne_eqb (suc p) 0 (λ h. omega arith)) (omega arith)

      be : (p q : ℕ) → digit (get_or pred q 0) p ≡ max (A.follow p q) (min (is 0 p) (A.first q))
      be p q = J.at q p ∙ (let x = before_is p q in let y = T.first q in let o = digit_pow 0 p in omega arith)

      fi : (q : ℕ) → digit (bit_or (get_or b.last 0 0) (get_or b.nullable 0 0)) q ≡ max (A.last q) (min (is 0 q) A.nullable)
      fi q = digit_or (get_or b.last 0 0) (get_or b.nullable 0 0) q ∙ ap₂ max (T.last q) (ap (λ (k : ℕ). digit k q) T.nullable ∙ nl q)
        where
          nl : (q : ℕ) → digit A.nullable q ≡ min (is 0 q) A.nullable
          nl zero = digit_zero A.nullable ∙ (let h = t.fit.nullable_lt 0 in omega arith)
          nl (suc q) = digit_big 1 (suc q) A.nullable (t.fit.nullable_lt 0) (omega arith) ∙ rw (ne_eqb (suc q) 0 (λ h. omega arith)) (omega arith)

      en : (q : ℕ) (a : Letter) → digit (get_or b.enter (letter_number a) 0) q ≡ A.enters q a
      en q a = go (inside q)
        where
          go : Dec (Between 0 x.letters q) → digit (get_or b.enter (letter_number a) 0) q ≡ A.enters q a
          go (yes h) = T.enters q a h
          go (no h) =
              H.blank.enter (letter_number a) q (out q h) ∙ sym (zero_of (A.enters q a) (λ o. h (let k = W.enters q a o in (omega arith, omega arith))))

masked_part : {fs ps es : List ℕ} {f : ℕ} {s : List ℕ} {e : Expr} → Is alternatives s e
    → Masked fs ps es f (started ((value parts e).fragment 0)) → Masked fs ps es f (automaton e)
masked_part {fs} {ps} {es} {f} d T = subst (λ (x : Part). Masked fs ps es f (started (x.fragment 0))) (value_parts d) T

pub masked_sense : (against : Bool) {fs ps es : List ℕ} {f : ℕ} {s : List ℕ} {e : Expr} → Is alternatives s e
    → Masked fs ps es f (started ((value parts (in_sense against e)).fragment 0)) → Masked fs ps es f (automaton (in_sense against e))
unfolding value parts fragment
masked_sense false d T = masked_part d T
masked_sense true {fs} {ps} {es} {f} d T = subst (λ (x : Part). Masked fs ps es f (started (reversed (x.fragment 0)))) (value_parts d) T
