-- Laws of writing: lengths are kept, nothing written is nothing changed, one text after another is both as one.
-- Assumes nothing.
use Rattle.std.specs.Prelude.{◌≡◌, refl, List, [], ◌∷◌, ◌++◌, ℕ, ◌+◌, ◌≤◌, ◌<◌, length, take, drop, get_or, set}
use Rattle.std.proofs.Common.{sym, ap, subst, ◌∙◌, append_assoc, add-zero, add_assoc, add-one, arith, length-append, length-drop, take-append-drop}
use Rattle.std.proofs.Common.{length-take-le, take-suc, take_at, drop_at, drop-drop}
use Rattle.std.proofs.lemmas.List.{set_split}
use Rattle.answers.specs.Written.{written, Wrote}

pub length_written : (p : ℕ) (t l : List ℕ) → p + length t ≤ length l → length (written p t l) ≡ length l
unfolding written
length_written p t l h =
    let a = length-append (take p l) (t ++ drop (p + length t) l) in
    let b = length-append t (drop (p + length t) l) in
    let c = length-take-le p l (omega arith) in
    let d = length-drop (p + length t) l in
    omega arith

pub written_none : (p : ℕ) (l : List ℕ) → p ≤ length l → written p [] l ≡ l
unfolding written
written_none p l h = rw add-zero (take-append-drop p l)

-- the second text begins where the first ends
pub written_written : (p : ℕ) (t u l : List ℕ) → p + length t ≤ length l → written (p + length t) u (written p t l) ≡ written p (t ++ u) l
unfolding written
written_written p t u l h =
    let rest = drop (p + length t) l in
    let long : length (take p l ++ t) ≡ p + length t = simp (length-append, length-take-le p l (omega arith)) in
    let same : take p l ++ (t ++ rest) ≡ (take p l ++ t) ++ rest = sym (append_assoc (take p l) t rest) in
    let front : take (p + length t) (take p l ++ (t ++ rest)) ≡ take p l ++ t = rw same (take_at (take p l ++ t) rest (p + length t) long) in
    let back : drop (p + length t + length u) (take p l ++ (t ++ rest)) ≡ drop (p + length (t ++ u)) l =
    sym (drop-drop (length u) (p + length t) (take p l ++ (t ++ rest)))
    ∙ ap (λ (m : List ℕ). drop (length u) m) (ap (λ (m : List ℕ). drop (p + length t) m) same ∙ drop_at (take p l ++ t) rest (p + length t) long)
    ∙ drop-drop (length u) (p + length t) l
    ∙ ap (λ (n : ℕ). drop n l) (add_assoc p (length t) (length u) ∙ ap (λ (n : ℕ). p + n) (sym (length-append t u))) in
    rw (front, back) (append_assoc (take p l) t (u ++ drop (p + length (t ++ u)) l)
    ∙ ap (λ (m : List ℕ). take p l ++ m) (sym (append_assoc t u (drop (p + length (t ++ u)) l))))

pub wrote_byte : (p b : ℕ) (l : List ℕ) → p < length l → Wrote p (b ∷ []) l (set l p b) (p + 1)
unfolding written
wrote_byte p b l h = record { contents = set_split l p b h ∙ rw add-one; place = refl; fits = omega arith }

pub wrote_none : (p : ℕ) (l : List ℕ) → p ≤ length l → Wrote p [] l l p
wrote_none p l h = record { contents = sym (written_none p l h); place = sym (add-zero p); fits = h }

-- a text, and another where it ended
pub wrote_then : {p q r : ℕ} {t u l m k : List ℕ} → Wrote p t l m q → Wrote q u m k r → Wrote p (t ++ u) l k r
wrote_then {p} {q} {r} {t} {u} {l} {m} {k} a b =
    let room : p + length t ≤ length l = rw a.place at a.fits in
    record {
      contents =
          b.contents ∙ ap (λ (j : ℕ). written j u m) a.place ∙ ap (λ (x : List ℕ). written (p + length t) u x) a.contents ∙ written_written p t u l room;
      place = b.place ∙ ap (λ (j : ℕ). j + length u) a.place ∙ add_assoc p (length t) (length u) ∙ ap (λ (n : ℕ). p + n) (sym (length-append t u));
      fits = omega (arith, b.fits, ap length a.contents, length_written p t l room);
    }

-- the same bytes by another equation
pub wrote_as : {p q : ℕ} {t u l m : List ℕ} → t ≡ u → Wrote p t l m q → Wrote p u l m q
wrote_as {p} {q} {t} {u} {l} {m} e w = subst (λ (v : List ℕ). Wrote p v l m q) e w

-- one byte more of a text
pub wrote_more : (p i : ℕ) (t l m : List ℕ) → Wrote p (take i t) l m (p + i) → i < length t
    → p + i < length m → Wrote p (take (i + 1) t) l (set m (p + i) (get_or t i 0)) (p + (i + 1))
wrote_more p i t l m w h k =
    rw (add-one i, take-suc t i 0 h, ← add-one, ← add_assoc)
    (wrote_then w (wrote_byte (p + i) (get_or t i 0) m k))
