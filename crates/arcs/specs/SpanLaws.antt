-- A register's links as words span the graph of the book that it represents.
--   inside      the book's graph is proper
--   asked_size  the graph has as many records as there are marks
--   spans       the words lent span it
--   used, out_of_use
--               a record is in use, unless its mark says that it is withdrawn
-- Assumes nothing.
use Rattle.std.specs.Prelude.{◌≡◌, List, true, ℕ, ◌≤◌, ◌<◌, get_or}
use Rattle.std.proofs.Math.Path.{sym}
use Rattle.std.proofs.Common.{ap, ◌∙◌, arith, eq-eqb, ne_eqb}
use Rattle.std.proofs.Math.ListN.{length}
use Rattle.book.specs.Book.{Link, Book, present, is_withdrawn}
use Rattle.book.proofs.ListLaws.{in_at, at_in}
use Rattle.paths.specs.Chains.{asked}
use Rattle.paths.specs.Inside.{Inside}
use Rattle.paths.proofs.PairLaws.{in_use, fit_inside}
use Rattle.register.specs.declared.Register.{Register}
use Rattle.links.specs.Links.{link_word}
use Rattle.links.specs.Parts.{link_of}
use Rattle.links.specs.LinkLaws.{link_of_word}
use Rattle.register.specs.Marks.{withdrawn_mark}
use Rattle.register.specs.Representation.{Represents}
use Rattle.register.specs.Reads.{ReadOf}
use Rattle.arcs.specs.Arcs.{Spans}

module _ {self : Register} {b : Book} (R : Represents self b) where
  pub inside : Inside (asked b)
  inside = fit_inside b R.sheet.fit

  module _ {marks links : List ℕ} (L : ReadOf self marks links) where
    pub asked_size : (asked b).n ≡ length marks
    unfolding asked
    asked_size = sym (L.size b R)

    pub spans : length marks ≤ 1024 → Spans links (length links) (asked b)
    unfolding asked
    spans hn = record { sound = sn; whole = wh }
      where
        size : length marks ≡ b.n
        size = L.size b R

        -- a word of a present link is that of no other
        word_link : (w : ℕ) (k : Link) → w ≡ link_word k → present b.sheet k ≡ true → link_of w ≡ k
        word_link w k e p =
            let f = R.sheet.fit.links k p in
            let a = f.from in
            let c = f.to in
            ap link_of e ∙ link_of_word k (omega (arith, size)) (omega (arith, size))

        sn : (i : ℕ) → i < length links → present b.sheet (link_of (get_or links i 0)) ≡ true
        sn i h =
            let z = (L.linked b R).sound (get_or links i 0) (at_in links i 0 h) in
            rw (word_link (get_or links i 0) z.0 z.1 z.2) z.2

        wh : (k : Link) → present b.sheet k ≡ true → (i : ℕ) × (i < length links) × (link_of (get_or links i 0) ≡ k)
        wh k p = let z = in_at 0 ((L.linked b R).whole k p) in (z.0, z.1, word_link (get_or links z.0 0) k z.2 p)

    pub used : (x : ℕ) → x < length marks → (get_or marks x 0 ≡ withdrawn_mark → ⊥) → (asked b).in_use x ≡ true
    used x h n = let s = L.size b R in in_use b x (omega arith) (sym (L.marked b R x h) ∙ ne_eqb (get_or marks x 0) withdrawn_mark n)

    pub out_of_use : (x : ℕ) → x < length marks → get_or marks x 0 ≡ withdrawn_mark → is_withdrawn b.sheet x ≡ true
    out_of_use x h e = sym (L.marked b R x h) ∙ eq-eqb (get_or marks x 0) withdrawn_mark e
