-- What a question reads of a register.
--   ReadOf self marks links
--               of every book that the register represents: as many marks as records, which say of each whether it is withdrawn, and the words of its links
--   read_of     what size, marks and links promise is what is read
-- Assumes nothing.
use Rattle.std.specs.Prelude.{◌≡◌, List, ℕ, ◌<◌, eqb, length, take}
use Rattle.std.proofs.Common.{ap, ◌∙◌, arith, get_or-take, length-take-le}
use Rattle.book.specs.Book.{Book, is_withdrawn}
use Rattle.links.specs.Links.{Linked}
use Rattle.register.specs.Marks.{withdrawn_mark, has_mark}
use Rattle.register.specs.MarkLaws.{listed_withdrawn}
use Rattle.register.specs.Representation.{Represents}
use Rattle.register.specs.Questions.{Sized, Listing, MarkList}
use Rattle.register.specs.declared.Register.{Register}
use Rattle.register.specs.declared.Links.{Links}

pub record ReadOf (self : Register) (marks links : List ℕ) : Type 0 where
  pub size : (b : Book) → Represents self b → length marks ≡ b.n
  pub linked : (b : Book) → Represents self b → Linked links b.sheet
  pub marked : (b : Book) → Represents self b → (x : ℕ) → x < length marks → has_mark withdrawn_mark marks x ≡ is_withdrawn b.sheet x

pub read_of : {self : Register} {n : ℕ} {ms : List ℕ} {ls : Links} → Sized self n → MarkList self ms → Listing self ls
    → ReadOf self (take n ms) (take ls.count ls.words)
read_of {n = n} {ms} Z M L =
    let few = Z.small in
    let k = M.long in
    let long : length (take n ms) ≡ n = length-take-le n ms (omega arith) in
    record {
      size = λ b R. long ∙ Z.size b R;
      linked = λ b R. L.linked b R;
      marked = λ b R x h. ap (λ (m : ℕ). eqb m withdrawn_mark) (get_or-take n ms x 0 (omega arith)) ∙ listed_withdrawn M R x;
    }
