-- A sheet as the register keeps it, and what a held edit takes back: the means by which a register is related to a book.
--   Packed           the links' words, and the mark of each record
--   kind_unit         a held word is its kind times this, plus the link's word or the record
--   held_word e       the word that is held for an edit
--   take_back_kind, take_back
--                    p with an edit taken back: by its kind and number, or by its held word
--   Shows n p s      p shows the sheet s of a register of n records: the same links, each once, as many of each label, and the same marks
--   Piled n p ws ss  taking back the edits of the held words ws, one after the other from p on, shows the sheets ss one after the other
-- Assumes nothing: these are definitions.
use Rattle.std.specs.Prelude.{◌≡◌, List, [], ◌∷◌, ℕ, zero, suc, ◌+◌, ◌*◌, ◌/◌, ◌%◌, length, get_or, set, eqb}
use Rattle.book.specs.Basics.{without}
use Rattle.book.specs.Book.{Sheet, Edit, add, remove, lock, unlock, withdraw, reinstate, total}
use Rattle.book.specs.Sheets.{Fit}
use Rattle.links.specs.Links.{link_word, Linked}
use Rattle.links.specs.Parts.{word_total}
use Rattle.links.specs.Ascending.{insert}
use Rattle.register.specs.Marks.{free_mark, lock_mark, withdrawn_mark, mark_of}

pub record Packed : Type 0 where
  pub links : List ℕ
  pub marks : List ℕ

abbrev pub kind_unit : ℕ
kind_unit = 33554432

-- the kinds: 0 add, 1 remove, 2 lock, 3 unlock, 4 withdraw, 5 reinstate
unfoldable pub held_word : Edit → ℕ
held_word (add k) = link_word k
held_word (remove k) = kind_unit + link_word k
held_word (lock r) = 2 * kind_unit + r
held_word (unlock r) = 3 * kind_unit + r
held_word (withdraw r) = 4 * kind_unit + r
held_word (reinstate r) = 5 * kind_unit + r

unfoldable pub take_back_kind : ℕ → ℕ → Packed → Packed
take_back_kind zero x p = record { links = without eqb x p.links; marks = p.marks }
take_back_kind (suc zero) x p = record { links = insert x p.links; marks = p.marks }
take_back_kind (suc (suc zero)) x p = record { links = p.links; marks = set p.marks x free_mark }
take_back_kind (suc (suc (suc zero))) x p = record { links = p.links; marks = set p.marks x lock_mark }
take_back_kind (suc (suc (suc (suc zero)))) x p = record { links = p.links; marks = set p.marks x free_mark }
take_back_kind (suc (suc (suc (suc (suc zero))))) x p = record { links = p.links; marks = set p.marks x withdrawn_mark }
take_back_kind (suc (suc (suc (suc (suc (suc k)))))) x p = p

abbrev pub take_back : ℕ → Packed → Packed
take_back w p = take_back_kind (w / kind_unit) (w % kind_unit) p

pub record Shows (n : ℕ) (p : Packed) (s : Sheet) : Type 0 where
  pub links : Linked p.links s
  pub count : length p.links ≡ length s.links
  pub totals : (l : ℕ) → word_total l p.links ≡ total s l
  pub marks : (r : ℕ) → get_or p.marks r free_mark ≡ mark_of s r
  pub fit : Fit n s

unfoldable pub Piled : ℕ → Packed → List ℕ → List Sheet → Type 0
Piled n p [] [] = Unit {0}
Piled n p [] (s ∷ ss) = ⊥
Piled n p (w ∷ ws) [] = ⊥
Piled n p (w ∷ ws) (s ∷ ss) = Shows n (take_back w p) s × Piled n (take_back w p) ws ss
