-- Laws of the preview over words. Assumes nothing.
--   previewed_call  the entry is a call: what is promised of the call
--   previewed_none  the entry is none: 15, and the list as it was
use Rattle.std.specs.Prelude.{◌≡◌, List, ℕ}
use Rattle.std.proofs.Common.{subst}
use Rattle.book.specs.Causes.{unknown_kind, number}
use Rattle.book.specs.Book.{Call}
use Rattle.register.specs.History.{Entry, is-call, no_call}
use Rattle.host.specs.Host.{refusal}
use Rattle.host.specs.Previews.{Foresees, Previewed, foreseen, unknown}

module _ {x : Entry} {ws text before after : List ℕ} {work k : ℕ} where
  pub previewed_call : {c : Call} → is-call c ≡ x → Foresees c ws text work before after k → Previewed ws text work before after k x
  previewed_call e q = subst (λ (y : Entry). Previewed ws text work before after k y) e (foreseen q)

  pub previewed_none : no_call ≡ x → k ≡ refusal (number unknown_kind) → after ≡ before → Previewed ws text work before after k x
  previewed_none e q l = subst (λ (y : Entry). Previewed ws text work before after k y) e (unknown q l)
