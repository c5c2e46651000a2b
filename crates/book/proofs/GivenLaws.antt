-- Laws of the list that closing up gives: how long it is, what stands at each place, and what it and the answer depend on. Assumes nothing.
use Rattle.std.specs.Prelude.{◌≡◌, refl, List, [], ◌∷◌, ◌++◌, Bool, ℕ, zero, suc, ◌≤◌, ◌<◌, length, get_or}
use Rattle.std.proofs.Common.{ap₂, ◌∙◌, arith, length-append, ltb-false, le-ltb}
use Rattle.std.proofs.Math.Decide.{dec_lt}
use Rattle.std.proofs.Math.ListN.{get_or-append}
use Rattle.std.proofs.lemmas.List.{get_or_at}
use Rattle.book.specs.Basics.{pick}
use Rattle.book.specs.Causes.{none_in_use, short_list}
use Rattle.book.specs.Book.{Sheet, Book, close, used, rank, close_causes, close_answer, no_number, new_numbers, close_given, given}
use Rattle.book.proofs.RankLaws.{rank_same}
use Rattle.book.proofs.BookLaws.{first-none}

pub length-numbers : (u : ℕ → Bool) (n : ℕ) → length (new_numbers u n) ≡ n
unfolding new_numbers
length-numbers u zero = refl
length-numbers u (suc n) = length-append (new_numbers u n) (pick (u n) (rank u n) no_number ∷ []) ∙ omega (arith, length-numbers u n)

-- at its place stands each record's new number, or 65,535
pub numbers_at : (u : ℕ → Bool) (n x : ℕ) → x < n → get_or (new_numbers u n) x 0 ≡ pick (u x) (rank u x) no_number
unfolding new_numbers
numbers_at u zero x h = absurd (omega arith)
numbers_at u (suc n) x h = go (dec_lt x n) (numbers_at u n x)
  where
    go : Dec (x < n) → (x < n → get_or (new_numbers u n) x 0 ≡ pick (u x) (rank u x) no_number)
        → get_or (new_numbers u n ++ (pick (u n) (rank u n) no_number ∷ [])) x 0 ≡ pick (u x) (rank u x) no_number
    go (yes l) ih = get_or-append (new_numbers u n) (pick (u n) (rank u n) no_number ∷ []) 0 x (omega (arith, length-numbers u n)) ∙ ih l
    go (no l) ih =
        let e : x ≡ n = omega arith in
        rw e (get_or_at (new_numbers u n) (pick (u n) (rank u n) no_number) [] 0 n (length-numbers u n))

-- the list is of the tests below
pub numbers_same : (u v : ℕ → Bool) (n : ℕ) → ((x : ℕ) → x < n → u x ≡ v x) → (x : ℕ) → x ≤ n → new_numbers u x ≡ new_numbers v x
unfolding new_numbers
numbers_same u v n h zero l = refl
numbers_same u v n h (suc x) l = ap₂ (λ (k : List ℕ) (m : ℕ). k ++ (m ∷ [])) (numbers_same u v n h x (omega arith))
    (ap₂ (λ (t : Bool) (m : ℕ). pick t m no_number) (h x (omega arith)) (rank_same u v n h x (omega arith)))

-- an accepted closing up has room for the old n
pub close_room : (n : ℕ) (s : Sheet) (room : ℕ) → close_answer n s room ≡ 0 → n ≤ room
unfolding close_answer close_causes
close_room n s room e = ltb-false room n (first-none short_list _ _ (first-none none_in_use _ _ e).1).0

-- two lists with room for the old n are answered alike
pub room_same : (n : ℕ) (s : Sheet) (j k : ℕ) → n ≤ j → n ≤ k → close_answer n s j ≡ close_answer n s k
unfolding close_answer close_causes
room_same n s j k p q = rw (le-ltb j n p, le-ltb k n q)

-- the list given is as long as the old n, or empty; and there is room for it
pub given_length : (b : Book) (room : ℕ) → (length (given b (close room)) ≤ b.n) × (length (given b (close room)) ≤ room)
unfolding given close_given
given_length b room = go (close_answer b.n b.sheet room) refl
  where
    go : (k : ℕ) → close_answer b.n b.sheet room ≡ k → (length (close_given k b) ≤ b.n) × (length (close_given k b) ≤ room)
    go zero e =
        let l = length-numbers (used b.n b.sheet) b.n in
        let r = close_room b.n b.sheet room e in
        (omega arith, omega arith)
    go (suc k) e = (omega arith, omega arith)
