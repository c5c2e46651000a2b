-- What a draft over words says of the plain book. Assumes nothing.
--   draft_book      the number tells the book's answer, and the words then keep the book after the draft
--   made_told, refused_told
--                   which answer a number tells: below 2^33 every call was made; else the place and the number are quotient and rest of what is above it
use Rattle.std.specs.Prelude.{◌≡◌, refl, List, ℕ, ◌+◌, ◌*◌, ◌-◌, ◌/◌, ◌%◌, ◌<◌, length}
use Rattle.std.proofs.Common.{sym, ap, subst, ◌∙◌, arith}
use Rattle.book.specs.Causes.{Cause, bad_size, no_record, bad_label, locked_end, already, missing, full, none_held, no_expression, too_many_bytes, too_large}
use Rattle.book.specs.Causes.{bad_tree, short_work, short_list, broken_frame, unknown_kind, not_open, touched_record, withdrawn_record, bad_tie}
use Rattle.book.specs.Causes.{unordered_anchors, none_in_use, number, Caused}
use Rattle.book.specs.Book.{Book}
use Rattle.register.specs.Drafts.{draft_answer, draft_next}
use Rattle.register.specs.declared.DraftAnswer.{DraftAnswer}
use Rattle.register.specs.declared.DraftAnswer.TheVariants.{Made, Refused}
use Rattle.host.specs.Host.{KeepsBook, past_counts, refusal}
use Rattle.host.specs.Drafts.{place_unit, told_draft, Applies}

pub draft_book : {ws before after : List ℕ} {k : ℕ} → Applies ws before after k → length ws < past_counts → (b : Book) → KeepsBook before b
    → (k ≡ told_draft ws (draft_answer b ws)) × KeepsBook after (draft_next b ws)
draft_book {ws} a l b h =
    let o = a.drafts h.0 h.1 l in
    (o.2 ∙ ap (told_draft ws) (o.1.answers b h.2), (o.0.register, o.3, o.1.follows b h.2))

pub made_told : (ws : List ℕ) (a : DraftAnswer) (k : ℕ) → told_draft ws a ≡ k → k < 2 * past_counts → a ≡ Made
made_told ws Made k e l = refl
made_told ws (Refused i j) k e l = absurd (omega arith)

cause_small : (c : Cause) → number c < place_unit
unfolding number
cause_small bad_size = omega arith
cause_small no_record = omega arith
cause_small bad_label = omega arith
cause_small locked_end = omega arith
cause_small already = omega arith
cause_small missing = omega arith
cause_small full = omega arith
cause_small none_held = omega arith
cause_small no_expression = omega arith
cause_small too_many_bytes = omega arith
cause_small too_large = omega arith
cause_small bad_tree = omega arith
cause_small short_work = omega arith
cause_small short_list = omega arith
cause_small broken_frame = omega arith
cause_small unknown_kind = omega arith
cause_small not_open = omega arith
cause_small touched_record = omega arith
cause_small withdrawn_record = omega arith
cause_small bad_tie = omega arith
cause_small unordered_anchors = omega arith
cause_small none_in_use = omega arith

pub refused_told : (ws : List ℕ) (a : DraftAnswer) (i j k : ℕ) → a ≡ Refused i j → Caused j → told_draft ws a ≡ k
    → (i ≡ (k - 2 * past_counts) / place_unit) × (j ≡ (k - 2 * past_counts) % place_unit)
refused_told ws a i j k q c e =
    let s : j < place_unit = subst (λ (m : ℕ). m < place_unit) (sym c.1) (cause_small c.0) in
    let t : refusal (place_unit * i + j) ≡ k = sym (ap (told_draft ws) q) ∙ e in
    (omega arith, omega arith)
