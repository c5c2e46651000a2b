-- Laws of a list written word by word.
--   shown_none, shown_in, shown_out
--                  what is written of a list: nothing, a number more where there is room, one beyond it
--   shown_over, shown_past
--                  it is the first part of the list over what was there; the words past it are as they were
--   grown_none, grown_more, grown_to, grown_all
--                  one part after another, up to the whole list
-- Assumes nothing.
use Rattle.std.specs.Prelude.{◌≡◌, refl, List, [], ◌∷◌, ◌++◌, ℕ, zero, suc, ◌≤◌, ◌<◌, length, get_or, set, take, drop}
use Rattle.std.proofs.Common.{sym, ap, ap₂, subst, ◌∙◌, append-nil, append_assoc, add-one, arith, length-append, length-drop, drop_of_length-le, drop_at}
use Rattle.std.proofs.Common.{drop-cons, take_all, length-take-le}
use Rattle.std.proofs.Math.Decide.{dec_lt}
use Rattle.std.proofs.lemmas.List.{set_at, take-append-le}
use Rattle.book.specs.Basics.{over}
use Rattle.answers.specs.Listing.{Shown, Grown}

-- ---- written
pub shown_none : (e : List ℕ) → Shown [] e e
shown_none e = go (length e)
  where
    go : (k : ℕ) → e ≡ take k [] ++ drop 0 e
    go zero = refl
    go (suc k) = refl

module _ (l e now : List ℕ) (v : ℕ) (S : Shown l e now) where
  long : length (l ++ (v ∷ [])) ≡ suc (length l)
  long = length-append l (v ∷ []) ∙ add-one (length l)

  pub shown_in : length l < length e → Shown (l ++ (v ∷ [])) e (set now (length l) v)
  shown_in h =
      ap (λ (t : List ℕ). set t (length l) v) (S ∙ ap₂ (λ (s t : List ℕ). s ++ t) (take_all (length e) l (omega arith)) (drop-cons e (length l) 0 h))
      ∙ set_at l (get_or e (length l) 0) (drop (suc (length l)) e) v (length l) refl
      ∙ sym (ap₂ (λ (s : List ℕ) (k : ℕ). s ++ drop k e) (take_all (length e) (l ++ (v ∷ [])) (omega (arith, long))) long
      ∙ append_assoc l (v ∷ []) (drop (suc (length l)) e))

  pub shown_out : length e ≤ length l → Shown (l ++ (v ∷ [])) e now
  shown_out h =
      S ∙ ap₂ (λ (s t : List ℕ). s ++ t) (sym (take-append-le (length e) l (v ∷ []) h))
      (drop_of_length-le e {i = length l} h ∙ sym (drop_of_length-le e {i = length (l ++ (v ∷ []))} (omega (arith, long))))

pub shown_over : (l e : List ℕ) → take (length e) l ++ drop (length l) e ≡ over (take (length e) l) e
shown_over l e = go (dec_lt (length e) (length l))
  where
    go : Dec (length e < length l) → take (length e) l ++ drop (length l) e ≡ over (take (length e) l) e
    go (yes h) =
        ap (λ (t : List ℕ). take (length e) l ++ t) (drop_of_length-le e {i =
        length l} (omega arith) ∙ sym (drop_of_length-le e {i = length (take (length e) l)} (omega (arith, length-take-le (length e) l (omega arith)))))
    go (no h) = ap (λ (t : List ℕ). take (length e) l ++ drop (length t) e) (sym (take_all (length e) l (omega arith)))

pub shown_past : (l e : List ℕ) → drop (length l) (take (length e) l ++ drop (length l) e) ≡ drop (length l) e
shown_past l e = go (dec_lt (length e) (length l))
  where
    go : Dec (length e < length l) → drop (length l) (take (length e) l ++ drop (length l) e) ≡ drop (length l) e
    go (yes h) =
        let n : length (take (length e) l ++ drop (length l) e) ≤ length l =
        omega (arith, length-append (take (length e) l) (drop (length l) e), length-drop (length l) e, length-take-le (length e) l (omega arith)) in
        drop_of_length-le (take (length e) l ++ drop (length l) e) {i = length l} n ∙ sym (drop_of_length-le e {i = length l} (omega arith))
    go (no h) = rw (take_all (length e) l (omega arith)) (drop_at l (drop (length l) e) (length l) refl)

-- ---- one part after another
pub grown_none : (t : ℕ) (ks now : List ℕ) → ks ≡ [] → Grown t t ks now now
grown_none t ks now z l e h k S =
    let q : l ≡ l ++ ks = sym (ap (λ (x : List ℕ). l ++ x) z ∙ append-nil l) in
    (sym h ∙ ap length q, subst (λ (x : List ℕ). Shown x e now) q S)

pub grown_more : (t s r : ℕ) (ks js all now now' now'' : List ℕ) → length now' ≡ length now → Grown t s ks now now' → Grown s r js now' now'' → all ≡ ks ++ js
    → Grown t r all now now''
grown_more t s r ks js all now now' now'' k G H a l e h m S =
    let o = G l e h m S in
    let p = H (l ++ ks) e (sym o.0) (m ∙ sym k) o.1 in
    let q : (l ++ ks) ++ js ≡ l ++ all = append_assoc l ks js ∙ ap (λ (x : List ℕ). l ++ x) (sym a) in
    (p.0 ∙ ap length q, subst (λ (x : List ℕ). Shown x e now'') q p.1)

pub grown_to : (t s : ℕ) (ks js now now' : List ℕ) → ks ≡ js → Grown t s ks now now' → Grown t s js now now'
grown_to t s ks js now now' e G = subst (λ (x : List ℕ). Grown t s x now now') e G

-- the whole list
pub grown_all : (t : ℕ) (ks e now : List ℕ) → Grown 0 t ks e now → (t ≡ length ks) × (now ≡ take (length e) ks ++ drop (length ks) e)
grown_all t ks e now G = G [] e refl refl (shown_none e)
