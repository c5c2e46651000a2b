-- Laws of part of an array moved by one place: up for one put in, down for one cut out. Assumes nothing.
use Rattle.std.proofs.Common.{◌≡◌, ap, sym, ◌∙◌, List, [], ◌∷◌, ◌++◌, append_assoc, ℕ, ◌+◌, ◌-◌, ◌≤◌, ◌<◌, add-one, arith}
use Rattle.std.proofs.Common.{length, get_or, take, drop, set, length-take-le, length-drop}
use Rattle.std.proofs.Math.Seq.{take-paste, take-suc, take-take, take-set-lt, set_at}
use Rattle.std.proofs.lemmas.List.{drop-take}
use Rattle.std.specs.List.{copy_within}
use Rattle.links.specs.Ascending.{put_at, cut_at}

-- the first count words, before and from a place
take_from : (a : List ℕ) (count i : ℕ) → i ≤ count → drop i (take count a) ≡ take (count - i) (drop i a)
take_from a count i h = let e : count ≡ i + (count - i) = omega arith in ap (λ (m : ℕ). drop i (take m a)) e ∙ drop-take i (count - i) a

pub put_shift : (a : List ℕ) (count i x : ℕ) → i ≤ count → count < length a
    → take (count + 1) (set (copy_within a i count (i + 1)) i x) ≡ put_at i x (take count a)
unfolding put_at
put_shift a count i x h k =
    let e : count + 1 ≡ i + 1 + (count - i) = omega arith in
    let f : i < count + 1 = omega arith in
    rw (take-set-lt (count + 1) (copy_within a i count (i + 1)) i x f, take-take i count a h, take_from a count i h)
    (ap (λ (m : ℕ). set (take m (copy_within a i count (i + 1))) i x) e
    ∙ ap (λ (l : List ℕ). set l i x) (take-paste a (i + 1) (drop i a) (count - i) (omega arith) (omega (arith, length-drop i a)) ∙ split)
    ∙ set_at (take i a) (get_or a i 0) (take (count - i) (drop i a)) x i (length-take-le i a (omega arith)))
  where
    split : take (i + 1) a ++ take (count - i) (drop i a) ≡ take i a ++ (get_or a i 0 ∷ take (count - i) (drop i a))
    split =
        rw (add-one, take-suc a i 0 (omega arith))
        (append_assoc (take i a) (get_or a i 0 ∷ []) (take (count - i) (drop i a)))

pub cut_shift : (a : List ℕ) (count i : ℕ) → i < count → count ≤ length a
    → take (count - 1) (copy_within a (i + 1) count i) ≡ cut_at i (take count a)
unfolding cut_at
cut_shift a count i h k =
    let e : count - 1 ≡ i + (count - (i + 1)) = omega arith in
    ap (λ (m : ℕ). take m (copy_within a (i + 1) count i)) e
    ∙ take-paste a i (drop (i + 1) a) (count - (i + 1)) (omega arith) (omega (arith, length-drop (i + 1) a))
    ∙ ap (λ (l : List ℕ). take i a ++ l) (sym (take_from a count (i + 1) (omega arith)))
    ∙ rw (take-take i count a (omega arith), add-one)
