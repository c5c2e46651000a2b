-- What closing up promises of the words that a caller keeps, and a whole history over words.
--   Renumbers state numbers k
--                   what closing up promises of the words of a register and of the list it is lent, each as it was and as it is then: what `Edits` says of
--                   the call with a list so long; over any words a refused one leaves the list; of a register's words those of the list past the old n
--                   are as they were; and of words that keep a book, the list that the book gives is written over the front
--   Calls cs ws vs ks ls
--                   the calls cs, each given the words that the one before left, from the words ws on: the words vs at the end, the numbers ks, and the
--                   lists ls that the closings up among them were lent. A list of edits that is made is its calls, each told 0; a refused one is no call
--   WordsMade n cs ws vs ks ls
--                   the exported calls cs, refused ones too, made the words vs, on words that asking for a fresh register of n records left, lent the words ws
-- Assumes nothing: these are definitions.
use Rattle.std.specs.Prelude.{◌≡◌, List, [], ◌∷◌, ◌++◌, false, ℕ, ◌*◌, ◌≤◌, ◌<◌, length, drop, replicate}
use Rattle.book.specs.Basics.{over}
use Rattle.book.specs.Book.{Book, Call, close, given}
use Rattle.register.specs.History.{Lent, is_close}
use Rattle.register.specs.Words.{Keeps, Edits}
use Rattle.register.specs.declared.Register.{Register}
use Rattle.register.specs.Drafts.{draft_calls}
use Rattle.host.specs.Host.{KeepsBook, past_counts, Freshens}
use Rattle.host.specs.Drafts.{Applies}

pub record Renumbers (state numbers : Lent) (k : ℕ) : Type 0 where
  pub edits : Edits (close (length numbers.before)) state.before state.after k
  pub refused : (k ≡ 0 → ⊥) → numbers.after ≡ numbers.before
  pub past : (r : Register) → Keeps state.before r → drop r.n numbers.after ≡ drop r.n numbers.before
  pub given : (b : Book) → KeepsBook state.before b → numbers.after ≡ over (given b (close (length numbers.before))) numbers.before

pub data Calls : List Call → List ℕ → List ℕ → List ℕ → List Lent → Type 0 where
  none : {ws : List ℕ} → Calls [] ws ws [] []
  then_call : {c : Call} {cs : List Call} {ws us vs ks : List ℕ} {ls : List Lent} {k : ℕ} → is_close c ≡ false → Edits c ws us k → Calls cs us vs ks ls
      → Calls (c ∷ cs) ws vs (k ∷ ks) ls
  then_close : {cs : List Call} {ws us vs ks : List ℕ} {ls : List Lent} {k : ℕ} (l : Lent) → Renumbers (record { before = ws; after = us }) l k
      → Calls cs us vs ks ls → Calls (close (length l.before) ∷ cs) ws vs (k ∷ ks) (l ∷ ls)
  then_draft : {cs : List Call} {ws us vs ks : List ℕ} {ls : List Lent} {k : ℕ} (ds : List ℕ) → Applies ds ws us k → k < 2 * past_counts
      → Calls cs us vs ks ls → Calls (draft_calls ds ++ cs) ws vs (replicate (length ds) 0 ++ ks) ls
  refused_draft : {cs : List Call} {ws us vs ks : List ℕ} {ls : List Lent} {k : ℕ} (ds : List ℕ) → Applies ds ws us k → 2 * past_counts ≤ k
      → Calls cs us vs ks ls → Calls cs ws vs ks ls

pub record WordsMade (n : ℕ) (cs : List Call) (ws vs ks : List ℕ) (ls : List Lent) : Type 0 where
  pub opened : List ℕ
  pub opens : Freshens n ws opened 0
  pub calls : Calls cs opened vs ks ls
