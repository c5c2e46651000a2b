-- What each item's operation leaves, in plain variables: letters, and the operators. Assumes nothing.
use mathlib.Core.Path.{◌≡◌, sym, ap, ap₂, ◌∙◌, subst}
use mathlib.Core.List.{List}
use Prim.Native.Nat.{ℕ, ◌<◌}
use Rattle.book.specs.Book.{Book}
use Rattle.k2.specs.PairSets.{Cells, union, closure, diagonal}
use Rattle.k2.specs.PairSetLaws.{bit_small, diagonal_set}
use Rattle.paths.specs.Chains.{asked}
use Rattle.paths.specs.Relations.{crossed_by, zero_steps}
use Rattle.rows.specs.RowSets.{no_pairs}
use Rattle.rows.specs.RowLaws.{union_none}
use Rattle.reader.specs.declared.items.Item.{Item}
use Rattle.reader.specs.declared.items.Item.TheVariants.{Letters, Star}
use Rattle.reader.specs.Letters.{letters_in}
use Rattle.grid.specs.Grid.{within}
use Rattle.grid.specs.GridLaws.{within_set}
use Rattle.query.specs.Evaluation.{Lettered}
use Rattle.query.proofs.LetterLaws.{zero_used, used-below}
use Rattle.rowpairs.specs.Evaluation.{outcome_of}

-- zero steps have no record past n
pub diagonal_within : (b : Book) (n : ℕ) (links : List ℕ) (u : ℕ → ℕ) → Lettered b n links u → within n (diagonal u) ≡ zero_steps (asked b)
diagonal_within b n links u L =
    within_set n _ (diagonal_set n u (λ x. subst (λ (f : ℕ → ℕ). f x < 2) (sym L.in_use) (bit_small ((asked b).in_use x))) (used-below b n links u L))
    ∙ zero_used b n links u L

-- what is left is the value of z, and the item is z
pub does : {n : ℕ} {links : List ℕ} {u : ℕ → ℕ} {c : Cells} {y z : Item} (a b : Cells) → y ≡ z
    → ((k : Book) → Lettered k n links u → c ≡ outcome_of (asked k) z a b) → (k : Book) → Lettered k n links u → c ≡ outcome_of (asked k) y a b
does a b is made k L = made k L ∙ ap (λ (z : Item). outcome_of (asked k) z a b) (sym is)

pub letters_left : {n : ℕ} {links : List ℕ} {u : ℕ → ℕ} {c : Cells} (a b empty : Cells) (f r : ℕ) → empty ≡ no_pairs
    → ((k : Book) (u : ℕ → ℕ) → Lettered k n links u → c ≡ union empty (crossed_by (asked k) (letters_in f r)))
    → (k : Book) → Lettered k n links u → c ≡ outcome_of (asked k) (Letters f r) a b
unfolding outcome_of
letters_left {u = u} a b empty f r none made k L =
    made k u L ∙ ap (λ (x : Cells). union x (crossed_by (asked k) (letters_in f r))) none ∙ union_none (crossed_by (asked k) (letters_in f r))

pub star_left : {n : ℕ} {links : List ℕ} {u : ℕ → ℕ} {c : Cells} (a b closed : Cells) → closed ≡ closure n a → c ≡ union closed (within n (diagonal u))
    → (k : Book) → Lettered k n links u → c ≡ outcome_of (asked k) Star a b
unfolding outcome_of asked
star_left {n} {links} {u} a b closed first made k L = made ∙ ap₂ union (first ∙ ap (λ (i : ℕ). closure i a) L.size) (diagonal_within k n links u L)

-- the bits by which records are joined to themselves
pub diagonal_as : {c : Cells} (a : Cells) (n : ℕ) {u v : ℕ → ℕ} → c ≡ union a (within n (diagonal u)) → u ≡ v → c ≡ union a (within n (diagonal v))
diagonal_as a n e q = e ∙ ap (λ (f : ℕ → ℕ). union a (within n (diagonal f))) q
