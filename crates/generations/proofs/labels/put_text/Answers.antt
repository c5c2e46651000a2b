-- ) and + after the letters (`two_more`). Assumes nothing.
use Rattle.std.proofs.Common.{arith, ◌≡◌, ◌∙◌, ap, ℕ, List, [], ◌∷◌, ◌++◌, length}
use Rattle.generations.specs.Inner.{loop_text}
use Rattle.generations.proofs.LabelLaws.{two_more}
use Rattle.generations.proofs.labels.put_text.Goals as goal

pub returns : goal.returns
unfolding loop_text
returns c =
    let p = c.spell_labels-count in
    let k : length p.new.text ≡ length c.args.text.now = p.auto.text in (
      omega (arith, p.ensures.0),
      two_more p.new.text p.result 41 43 (omega (arith, k, p.ensures.0, c.requires)) ∙ ap (λ (l : List ℕ). l ++ (41 ∷ 43 ∷ [])) p.ensures.1,
    )
