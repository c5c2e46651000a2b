-- Cases of the plain book, by computation. They are the edits of the sample (S7.8); each number from 2 to 8, 17 and 18, where the first cause in order wins;
-- what is not held; closing up, with 21 and 13; 257 edits and 257 undos; and a full register.
--   adds, removes, locks, unlocks, withdraws, reinstates
--                   the calls, in short
--   fresh_1         a register has 1 to 1,024 records
--   sample          the edits of the sample, S7.8
--   refused_2, refused_3, refused_4, refused_5_6, refused_8
--                   each of these numbers, also where a later cause is there too
--   undo_each, undo_taken
--                   an undo takes back an add, a remove, a lock and an unlock
--   order_2_18, order_18_3, order_18_4, order_4_17, order_4_5, order_5_17
--                   withdrawn records: each pair of causes that could be exchanged
--   reinstated      6 for a record in use; a record that is reinstated takes links and locks again
--   undo_withdrawn  an undo takes back a withdraw and a reinstate, and a refused one is not held
--   total_each, total_undo, total_3
--                   totals after adds, a remove and an undo; 3 for a label above 25
--   close_21, close_13, close-given, close_renamed, close_drops
--                   closing up: its refusals, the list it gives, what is renamed, and the held edits that are gone
--   held_256        after 257 edits 256 undos pass, and the next gives 8
--   fills, full_7   4,096 adds are accepted, and one more gives 7
-- Assumes nothing.
use Rattle.std.specs.Prelude.{◌≡◌, refl, List, [], ◌∷◌, ◌++◌, map, false, ℕ, zero, suc, ◌+◌, ◌/◌, ◌%◌, ◌<◌, length, replicate}
use Rattle.std.proofs.Common.{ap, arith, le-leb}
use Rattle.std.proofs.lemmas.Bool.{lt-leb}
use Rattle.book.specs.Basics.{has, without, tally}
use Rattle.book.specs.Causes.{number, first_number, max_links}
use Rattle.book.specs.Book.{Link, same_link, Sheet, add, remove, lock, unlock, withdraw, reinstate, Call, edit, undo, close, touched, causes, edit_answer}
use Rattle.book.specs.Book.{edited, turned, undo_answer, undone, rank, closed_sheet, close_causes, close_answer, closed, new_numbers, close_given, fresh_answer}
use Rattle.book.specs.Book.{total, total_number, answer, next, given, fresh, answers, after, givens}
use Rattle.book.proofs.OrderLaws.{unlike}

abbrev link : ℕ → ℕ → ℕ → Link
link f l t = record { from = f; label = l; to = t }

abbrev adds : ℕ → ℕ → ℕ → Call
adds f l t = edit (add (link f l t))

abbrev removes : ℕ → ℕ → ℕ → Call
removes f l t = edit (remove (link f l t))

abbrev locks : ℕ → Call
locks r = edit (lock r)

abbrev unlocks : ℕ → Call
unlocks r = edit (unlock r)

abbrev withdraws : ℕ → Call
withdraws r = edit (withdraw r)

abbrev reinstates : ℕ → Call
reinstates r = edit (reinstate r)

-- a register has 1 to 1,024 records
fresh_1 : fresh_answer 0 ∷ fresh_answer 1 ∷ fresh_answer 1024 ∷ fresh_answer 1025 ∷ [] ≡ 1 ∷ 0 ∷ 0 ∷ 1 ∷ []
unfolding fresh_answer first_number number
fresh_1 = refl

-- the edits of the sample, S7.8
sample : answers (fresh 4) (adds 0 0 1 ∷ adds 2 0 1 ∷ locks 1 ∷ adds 1 1 3 ∷ undo ∷ adds 1 1 3 ∷ []) ≡ 0 ∷ 0 ∷ 0 ∷ 4 ∷ 0 ∷ 0 ∷ []
unfolding answers answer next edit_answer first_number number causes edited turned undo_answer undone fresh has without touched
sample = refl

-- 2, also with a label above 25 and with a locked end
refused_2 : answers (fresh 4)
    (adds 4 0 0 ∷ adds 0 0 4 ∷ removes 4 0 0 ∷ removes 0 0 4 ∷ locks 4 ∷ unlocks 4 ∷ adds 4 26 0 ∷ locks 0 ∷ adds 0 26 4 ∷ removes 4 0 0 ∷ [])
    ≡ 2 ∷ 2 ∷ 2 ∷ 2 ∷ 2 ∷ 2 ∷ 2 ∷ 0 ∷ 2 ∷ 2 ∷ []
unfolding answers answer next edit_answer first_number number causes edited turned undo_answer undone fresh has without touched
refused_2 = refl

-- 3, also with a locked end
refused_3 : answers (fresh 4) (adds 0 26 0 ∷ removes 0 26 0 ∷ locks 0 ∷ adds 0 26 1 ∷ removes 1 26 0 ∷ []) ≡ 3 ∷ 3 ∷ 0 ∷ 3 ∷ 3 ∷ []
unfolding answers answer next edit_answer first_number number causes edited turned undo_answer undone fresh has without touched
refused_3 = refl

-- 4 with either end or both locked, also where the link is present or absent
refused_4 : answers (fresh 4)
    (adds 0 0 1 ∷ locks 1 ∷ adds 0 0 1 ∷ adds 1 0 2 ∷ adds 2 0 1 ∷ adds 1 0 1 ∷ removes 0 0 1 ∷ removes 1 0 2 ∷ removes 2 0 1 ∷ removes 1 0 1 ∷ [])
    ≡ 0 ∷ 0 ∷ 4 ∷ 4 ∷ 4 ∷ 4 ∷ 4 ∷ 4 ∷ 4 ∷ 4 ∷ []
unfolding answers answer next edit_answer first_number number causes edited turned undo_answer undone fresh has without touched
refused_4 = refl

-- 5 and 6
refused_5_6 : answers (fresh 4)
    (adds 0 0 1 ∷ adds 0 0 1 ∷ removes 1 0 0 ∷ removes 0 0 1 ∷ removes 0 0 1 ∷ locks 2 ∷ locks 2 ∷ unlocks 3 ∷ unlocks 2 ∷ unlocks 2 ∷ [])
    ≡ 0 ∷ 5 ∷ 6 ∷ 0 ∷ 6 ∷ 0 ∷ 5 ∷ 6 ∷ 0 ∷ 6 ∷ []
unfolding answers answer next edit_answer first_number number causes edited turned undo_answer undone fresh has without touched
refused_5_6 = refl

-- 8; and a refused edit is not held: the undo after it takes back the lock, and the next gives 8
refused_8 : answers (fresh 4) (undo ∷ locks 1 ∷ adds 1 1 3 ∷ undo ∷ undo ∷ adds 1 1 3 ∷ []) ≡ 8 ∷ 0 ∷ 4 ∷ 0 ∷ 8 ∷ 0 ∷ []
unfolding answers answer next edit_answer first_number number causes edited turned undo_answer undone fresh has without touched
refused_8 = refl

-- an undo takes back an add, a remove, a lock and an unlock
undo_each : after (fresh 4) (adds 0 0 1 ∷ undo ∷ []) ∷ after (fresh 4) (locks 1 ∷ undo ∷ []) ∷ [] ≡ fresh 4 ∷ fresh 4 ∷ []
unfolding after answer next edit_answer first_number number causes edited turned undo_answer undone fresh has without touched
undo_each = refl

undo_taken : after (fresh 4) (adds 0 0 1 ∷ locks 1 ∷ unlocks 1 ∷ removes 0 0 1 ∷ undo ∷ undo ∷ []) ≡ after (fresh 4) (adds 0 0 1 ∷ locks 1 ∷ [])
unfolding after answer next edit_answer first_number number causes edited turned undo_answer undone fresh has without touched
undo_taken = refl

-- ---- withdrawn records, S6.6: each pair of causes that could be exchanged
-- 2 before 18, also where the other end is withdrawn: at an add, a remove, a lock and an unlock; and at a withdraw and a reinstate
order_2_18 : answers (fresh 4) (withdraws 3 ∷ adds 3 0 4 ∷ adds 4 0 3 ∷ removes 3 0 4 ∷ removes 4 0 3 ∷ locks 4 ∷ unlocks 4 ∷ withdraws 4 ∷ reinstates 4 ∷ [])
    ≡ 0 ∷ 2 ∷ 2 ∷ 2 ∷ 2 ∷ 2 ∷ 2 ∷ 2 ∷ 2 ∷ []
unfolding answers answer next edit_answer first_number number causes edited turned undo_answer undone fresh has without touched
order_2_18 = refl

-- 18 before 3, with either end or both withdrawn
order_18_3 : answers (fresh 4) (withdraws 3 ∷ adds 3 26 0 ∷ adds 0 26 3 ∷ adds 3 26 3 ∷ removes 3 26 0 ∷ removes 0 26 3 ∷ removes 3 26 3 ∷ [])
    ≡ 0 ∷ 18 ∷ 18 ∷ 18 ∷ 18 ∷ 18 ∷ 18 ∷ []
unfolding answers answer next edit_answer first_number number causes edited turned undo_answer undone fresh has without touched
order_18_3 = refl

-- 18 before 4, where one end is withdrawn and the other locked; before 6, where the link is absent; and before the 5 and 6 of a lock and an unlock
order_18_4 : answers (fresh 4)
    (withdraws 3 ∷ locks 0 ∷ adds 3 0 0 ∷ adds 0 0 3 ∷ removes 3 0 0 ∷ removes 0 0 3 ∷ adds 3 0 1 ∷ removes 1 0 3 ∷ locks 3 ∷ unlocks 3 ∷ [])
    ≡ 0 ∷ 0 ∷ 18 ∷ 18 ∷ 18 ∷ 18 ∷ 18 ∷ 18 ∷ 18 ∷ 18 ∷ []
unfolding answers answer next edit_answer first_number number causes edited turned undo_answer undone fresh has without touched
order_18_4 = refl

-- a withdraw: 4 of a locked record, also if a link touches it; 17 of one that a link touches, from or to; 0 once the link is gone; 5 the second time
order_4_17 : answers (fresh 4) (
    adds 0 0 1 ∷ withdraws 0 ∷ withdraws 1 ∷ locks 0 ∷ locks 2 ∷ withdraws 0 ∷ withdraws 2 ∷ unlocks 0 ∷ removes 0 0 1 ∷ withdraws 0 ∷ withdraws 0 ∷
    adds 2 0 2 ∷ unlocks 2 ∷ adds 2 0 2 ∷ withdraws 2 ∷ [])
    ≡ 0 ∷ 17 ∷ 17 ∷ 0 ∷ 0 ∷ 4 ∷ 4 ∷ 0 ∷ 0 ∷ 0 ∷ 5 ∷ 4 ∷ 0 ∷ 0 ∷ 17 ∷ []
unfolding answers answer next edit_answer first_number number causes edited turned undo_answer undone fresh has without touched
order_4_17 = refl

-- no history makes a record withdrawn and locked, or withdrawn and touched (BookLaws `withdrawn_bare`), so 4 with 5 and 5 with 17
-- are told on sheets that none makes
abbrev odd_sheet : List Link → List ℕ → Sheet
odd_sheet ks rs = record { links = ks; locks = rs; withdrawn = 0 ∷ [] }

order_4_5 : edit_answer 4 (odd_sheet [] (0 ∷ [])) (withdraw 0) ∷ edit_answer 4 (odd_sheet (link 0 0 1 ∷ []) (0 ∷ [])) (withdraw 0) ∷ [] ≡ 4 ∷ 4 ∷ []
unfolding edit_answer first_number number causes has touched
order_4_5 = refl

order_5_17 : edit_answer 4 (odd_sheet (link 0 0 1 ∷ []) []) (withdraw 0) ∷ edit_answer 4 (odd_sheet (link 1 0 0 ∷ []) []) (withdraw 0) ∷ [] ≡ 5 ∷ 5 ∷ []
unfolding edit_answer first_number number causes has touched
order_5_17 = refl

-- reinstating a record in use gives 6, also if it is locked or a link touches it; reinstated, it takes links and locks again
reinstated : answers (fresh 4)
    (reinstates 0 ∷ locks 0 ∷ reinstates 0 ∷ adds 1 0 2 ∷ reinstates 2 ∷ withdraws 3 ∷ reinstates 3 ∷ reinstates 3 ∷ adds 3 0 3 ∷ locks 3 ∷ [])
    ≡ 6 ∷ 0 ∷ 6 ∷ 0 ∷ 6 ∷ 0 ∷ 0 ∷ 6 ∷ 0 ∷ 0 ∷ []
unfolding answers answer next edit_answer first_number number causes edited turned undo_answer undone fresh has without touched
reinstated = refl

-- an undo takes back a withdraw and a reinstate, and a refused one is not held
undo_withdrawn : after (fresh 4) (withdraws 3 ∷ withdraws 3 ∷ undo ∷ []) ∷ after (fresh 4) (withdraws 3 ∷ reinstates 3 ∷ reinstates 3 ∷ undo ∷ []) ∷ []
    ≡ fresh 4 ∷ after (fresh 4) (withdraws 3 ∷ []) ∷ []
unfolding after answer next edit_answer first_number number causes edited turned undo_answer undone fresh has without touched
undo_withdrawn = refl

-- the totals of the labels 0 and 1 follow two adds, a refused add, a remove, and an undo of it; a label above 25 has none
total_each : map (λ l. total (after (fresh 4) (adds 0 0 1 ∷ adds 2 0 1 ∷ adds 2 0 1 ∷ removes 0 0 1 ∷ [])).sheet l) (0 ∷ 1 ∷ []) ≡ 1 ∷ 0 ∷ []
unfolding after answer next edit_answer first_number number causes edited turned fresh has without total tally
total_each = refl

total_undo : total (after (fresh 4) (adds 0 0 1 ∷ adds 2 0 1 ∷ removes 0 0 1 ∷ undo ∷ [])).sheet 0 ≡ 2
unfolding after answer next edit_answer first_number number causes edited turned undone fresh has without total tally
total_undo = refl

total_3 : total_number 0 ∷ total_number 25 ∷ total_number 26 ∷ total_number 255 ∷ [] ≡ 0 ∷ 0 ∷ 3 ∷ 3 ∷ []
unfolding total_number first_number number
total_3 = refl

-- ---- closing up, S14
-- 21 with no record in use, before 13; and nothing changes: an undo takes the latest withdraw back
close_21 : answers (fresh 2) (withdraws 0 ∷ withdraws 1 ∷ close 2 ∷ close 0 ∷ undo ∷ close 2 ∷ []) ≡ 0 ∷ 0 ∷ 21 ∷ 21 ∷ 0 ∷ 0 ∷ []
unfolding answers answer next edit_answer first_number number causes edited turned undo_answer undone rank closed_sheet close_causes close_answer closed fresh
    has without touched
close_21 = refl

-- 13 with a list shorter than the old n, however few records are in use; then the new n is the least
close_13 : answers (fresh 4) (withdraws 1 ∷ withdraws 2 ∷ close 2 ∷ close 3 ∷ close 4 ∷ close 1 ∷ close 2 ∷ close 9 ∷ [])
    ≡ 0 ∷ 0 ∷ 13 ∷ 13 ∷ 0 ∷ 13 ∷ 0 ∷ 0 ∷ []
unfolding answers answer next edit_answer first_number number causes edited turned undo_answer undone rank closed_sheet close_causes close_answer closed fresh
    has without touched
close_13 = refl

-- the list of each closing up, refused ones too: by ascending old number, 65,535 for a withdrawn record
close-given : givens (fresh 4) (withdraws 1 ∷ close 3 ∷ close 4 ∷ locks 0 ∷ undo ∷ close 3 ∷ []) ≡ [] ∷ (0 ∷ 65535 ∷ 1 ∷ 2 ∷ []) ∷ (0 ∷ 1 ∷ 2 ∷ []) ∷ []
unfolding givens given answer next edit_answer first_number number causes edited turned undo_answer undone rank closed_sheet close_causes close_answer closed
    new_numbers close_given fresh has without touched
close-given = refl

-- the count of records in use is the new n; a link and a lock follow their records, none is withdrawn, and nothing is held
close_renamed : after (fresh 4) (withdraws 0 ∷ withdraws 2 ∷ adds 1 5 3 ∷ locks 3 ∷ close 4 ∷ [])
    ≡ record { n = 2; sheet = record { links = link 0 5 1 ∷ []; locks = 1 ∷ []; withdrawn = [] }; pile = [] }
unfolding after answer next edit_answer first_number number causes edited turned undo_answer undone rank closed_sheet close_causes close_answer closed fresh has
    without touched
close_renamed = refl

-- with nothing withdrawn it renames nothing, and still drops the held edits: an undo straight after gives 8
close_drops : answers (fresh 2) (locks 1 ∷ close 2 ∷ undo ∷ unlocks 1 ∷ undo ∷ undo ∷ []) ≡ 0 ∷ 0 ∷ 8 ∷ 0 ∷ 0 ∷ 8 ∷ []
unfolding answers answer next edit_answer first_number number causes edited turned undo_answer undone rank closed_sheet close_causes close_answer closed fresh
    has without touched
close_drops = refl

-- after 257 edits, 256 undos pass and the next gives 8
unfoldable toggles : ℕ → List Call
toggles zero = []
toggles (suc zero) = locks 0 ∷ []
toggles (suc (suc k)) = locks 0 ∷ unlocks 0 ∷ toggles k

held_256 : answers (fresh 1) (toggles 257 ++ replicate 257 undo) ≡ replicate 513 0 ++ (8 ∷ [])
unfolding toggles answers answer next edit_answer first_number number causes edited turned undo_answer undone fresh has without touched
held_256 = refl

-- ---- a full register: 4,096 adds, and one more gives 7
-- the j-th link, and the first j of them, the latest on top
abbrev nth : ℕ → Link
nth j = link (j / 4) 0 (j % 4)

unfoldable first_links : ℕ → List Link
first_links zero = []
first_links (suc j) = nth j ∷ first_links j

-- adds of k links from the j-th on
unfoldable adds_from : ℕ → ℕ → List Call
adds_from j zero = []
adds_from j (suc k) = edit (add (nth j)) ∷ adds_from (suc j) k

length_first : (j : ℕ) → length (first_links j) ≡ j
unfolding first_links
length_first zero = refl
length_first (suc j) = ap suc (length_first j)

first_absent : (k : Link) (j : ℕ) → ((i : ℕ) → i < j → nth i ≡ k → ⊥) → has same_link k (first_links j) ≡ false
unfolding first_links has
first_absent k zero d = refl
first_absent k (suc j) d = rw (unlike (nth j) k (d j (omega arith))) (first_absent k j (λ i h. d i (omega arith)))

nth_apart : (i j : ℕ) → i < j → nth i ≡ nth j → ⊥
nth_apart i j h e =
    let p : i / 4 ≡ j / 4 = ap (λ (k : Link). k.from) e in
    let q : i % 4 ≡ j % 4 = ap (λ (k : Link). k.to) e in
    omega arith

abbrev filled : ℕ → Sheet
filled j = record { links = first_links j; locks = []; withdrawn = [] }

fill_accepted : (j : ℕ) → j < 4096 → edit_answer 1024 (filled j) (add (nth j)) ≡ 0
unfolding edit_answer first_number number causes has
fill_accepted j h = rw (
  lt-leb 1024 (j / 4) (omega arith),
  lt-leb 1024 (j % 4) (omega arith),
  first_absent (nth j) j (λ i l. nth_apart i j l),
  lt-leb max_links (length (first_links j)) (omega (arith, length_first j)),
)

fill_refused : edit_answer 1024 (filled 4096) (add (link 0 1 0)) ≡ 7
unfolding edit_answer first_number number causes has
fill_refused = rw (
  first_absent (link 0 1 0) 4096 (λ i h q. omega (arith, ap (λ (k : Link). k.label) q)),
  le-leb max_links (length (first_links 4096)) (omega (arith, length_first 4096)),
)

fills : (k j : ℕ) → j + k ≡ 4096 → (ss : List Sheet)
    → answers (record { n = 1024; sheet = filled j; pile = ss }) (adds_from j k ++ (adds 0 1 0 ∷ [])) ≡ replicate k 0 ++ (7 ∷ [])
unfolding answers answer next turned edited adds_from first_links
fills zero j e ss = let z : j ≡ 4096 = omega arith in rw (z, fill_refused)
fills (suc k) j e ss = rw (fill_accepted j (omega arith)) (ap (λ (l : List ℕ). 0 ∷ l) (fills k (suc j) (omega arith) _))

full_7 : answers (fresh 1024) (adds_from 0 4096 ++ (adds 0 1 0 ∷ [])) ≡ replicate 4096 0 ++ (7 ∷ [])
unfolding fresh first_links
full_7 = fills 4096 0 refl []
