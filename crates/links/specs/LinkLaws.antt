-- Laws of links as words: a word and its link give one another, and what a word of the list says of the sheet. Assumes nothing.
use Rattle.std.specs.Prelude.{◌≡◌, refl, List, map, Bool, true, false, ℕ, ◌/◌, ◌%◌, ◌≤◌, ◌<◌, eqb}
use Rattle.std.proofs.Common.{sym, ap, subst, ◌∙◌, arith, eqb-true, eq-eqb}
use Rattle.book.specs.Basics.{In, has}
use Rattle.book.specs.Causes.{max_records}
use Rattle.book.specs.Book.{Link, same_link, Sheet, present, touched}
use Rattle.book.proofs.ListLaws.{map_in, in_map}
use Rattle.book.proofs.BookLaws.{touched_end, end_touched}
use Rattle.book.proofs.SetLaws.{eqb_test, same_link_test, has_in, in_has}
use Rattle.book.specs.Sheets.{Proper, Fit}
use Rattle.links.specs.Links.{link_word, Linked}
use Rattle.links.specs.Parts.{link_of}

pub link_of_word : (k : Link) → k.from < 1024 → k.to < 1024 → link_of (link_word k) ≡ k
link_of_word k f t =
    let a : link_word k / 1024 % 1024 ≡ k.from = omega arith in
    let b : link_word k / 1048576 ≡ k.label = omega arith in
    let c : link_word k % 1024 ≡ k.to = omega arith in
    λ i. record { from = a i; label = b i; to = c i }

module _ {n : ℕ} (small : n ≤ max_records) where
  pub word_link : {k : Link} → Proper n k → link_of (link_word k) ≡ k
  word_link {k} p = link_of_word k (omega (arith, p.from)) (omega (arith, p.to))

  pub word_same : {j k : Link} → Proper n j → Proper n k → link_word j ≡ link_word k → j ≡ k
  word_same p q e = sym (word_link p) ∙ ap link_of e ∙ word_link q

  pub word_test : {j k : Link} → Proper n j → Proper n k → eqb (link_word j) (link_word k) ≡ same_link j k
  word_test {j} {k} p q = go (eqb (link_word j) (link_word k)) refl (same_link j k) refl
    where
      go : (t : Bool) → eqb (link_word j) (link_word k) ≡ t → (u : Bool) → same_link j k ≡ u → t ≡ u
      go true e true f = refl
      go true e false f = sym (same_link_test.reflexive k) ∙ ap (λ (i : Link). same_link i k) (sym (word_same p q (eqb-true _ _ e))) ∙ f
      go false e true f = sym e ∙ eq-eqb (link_word j) (link_word k) (ap link_word (same_link_test.sound j k f))
      go false e false f = refl

  module _ {s : Sheet} (fit : Fit n s) {ws : List ℕ} (l : Linked ws s) where
    -- the link of a word of the list is present
    pub linked_present : {w : ℕ} → In w ws → present s (link_of w) ≡ true
    linked_present {w} h =
        let r = l.sound w h in
        let e : link_of w ≡ r.0 = ap link_of r.1 ∙ word_link (fit.links r.0 r.2) in
        ap (present s) e ∙ r.2

    -- the computed tests agree
    pub linked_has : {k : Link} → Proper n k → has eqb (link_word k) ws ≡ present s k
    linked_has {k} p = go (has eqb (link_word k) ws) refl (present s k) refl
      where
        go : (t : Bool) → has eqb (link_word k) ws ≡ t → (u : Bool) → present s k ≡ u → t ≡ u
        go true e true f = refl
        go true e false f = sym (linked_present (has_in eqb_test (link_word k) ws e)) ∙ ap (present s) (word_link p) ∙ f
        go false e true f = sym e ∙ in_has eqb_test (link_word k) ws (l.whole k f)
        go false e false f = refl

    -- a link touches a record by the words as it does by the sheet
    pub linked_touched : (r : ℕ) → touched r (map link_of ws) ≡ touched r s.links
    linked_touched r = go (touched r (map link_of ws)) refl (touched r s.links) refl
      where
        go : (t : Bool) → touched r (map link_of ws) ≡ t → (u : Bool) → touched r s.links ≡ u → t ≡ u
        go true e true f = refl
        go true e false f =
            let o = touched_end r (map link_of ws) e in
            let w = in_map link_of ws o.1 in
            let p : present s o.0 ≡ true = ap (present s) w.2 ∙ linked_present w.1 in
            sym (end_touched r s.links (has_in same_link_test o.0 s.links p) o.2) ∙ f
        go false e true f =
            let o = touched_end r s.links f in
            let p : present s o.0 ≡ true = in_has same_link_test o.0 s.links o.1 in
            let i : In o.0 (map link_of ws) =
            subst (λ (k : Link). In k (map link_of ws)) (word_link (fit.links o.0 p)) (map_in link_of (l.whole o.0 p)) in
            sym e ∙ end_touched r (map link_of ws) i o.2
        go false e false f = refl
