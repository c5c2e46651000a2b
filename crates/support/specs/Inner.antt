-- What the inner functions promise.
--   lost before after core x
--                     whether x is not the core, and is marked before and not after
--   Marked known v anchors work n m
--                     asked of what is known of a book: the number of a refusal is a cause's; for every book of which it is known, it is the one of the pair
--                     question, and with none the records below n are marked that have a chain to some anchor
--   Compares known core n v anchors work before after a
--                     what `Support` `Supports` says, of a core and anchors that are not refused and with the work of a pair question alone
--   Comparing marks links core anchors
--                     what is asked is about records that there are: the core is one, and so are the anchors, which ascend
-- Assumes nothing: these are definitions.
use Rattle.std.specs.Prelude.{◌≡◌, List, Bool, false, not, ◌&&◌, true, ℕ, ◌<◌, ◌≤◌, length, get_or, ltb, eqb, leb}
use Rattle.book.specs.Causes.{Caused, first_number, max_records, max_links}
use Rattle.book.specs.Book.{Book}
use Rattle.paths.specs.Expressions.{Expr}
use Rattle.paths.specs.Grammar.{Verdict, accepted}
use Rattle.paths.specs.Chains.{asked}
use Rattle.paths.specs.Relations.{cells}
use Rattle.answers.specs.Answers.{counted, Contained}
use Rattle.answers.specs.declared.Counted.{Counted}
use Rattle.paths.specs.Questions.{by_trees, pairs_work, pairs_causes, Tells}
use Rattle.support.specs.Support.{reaches, support_outcome, some, orderly}
use Rattle.support.specs.SupportWork.{support_work}
use Rattle.support.specs.declared.Marks.{Marks}

unfoldable pub lost : List Bool → List Bool → ℕ → ℕ → Bool
lost before after core x = not (eqb x core) && (get_or before x false && not (get_or after x false))

pub record Marked (known : Book → Type 0) (v : Verdict) (anchors : List ℕ) (work n : ℕ) (m : Marks) : Type 0 where
  pub long : length m.records ≡ max_records
  pub caused : (m.number ≡ 0 → ⊥) → Caused m.number
  pub number : (b : Book) → known b → m.number ≡ first_number (pairs_causes by_trees b v work)
  pub records : (b : Book) → known b → (e : Expr) → v ≡ accepted e → m.number ≡ 0 → (x : ℕ) → x < n
      → get_or m.records x false ≡ reaches (cells (asked b) e) anchors x

pub record Compares (known : Book → Type 0) (core n : ℕ) (v : Verdict) (anchors : List ℕ) (work : ℕ) (before after : List ℕ) (a : Counted) : Type 0 where
  pub contained : Contained (length before) (counted a) before after a
  pub book : (b : Book) → known b → n ≡ b.n → (whole : ℕ) → ltb whole (support_work b.n) ≡ ltb work (pairs_work b.n)
      → Tells (support_outcome b core v anchors whole (length before)) before after a

-- ---- what functions ask for
pub record Comparing (marks links : List ℕ) (core : ℕ) (anchors : List ℕ) : Type 0 where
  pub few : length marks ≤ max_records
  pub few_links : length links ≤ max_links
  pub core_in : core < length marks
  pub anchors_in : some (leb (length marks)) anchors ≡ false
  pub ascending : orderly 0 anchors ≡ true
