-- `host::reading::dating_links` hands over what `register::links_in` shows. Assumes nothing.
use lib.ListN.{take}
use Rattle.register.specs.WordLaws.{keeps_listing}
use Rattle.host.proofs.CarryLaws.{asked_list}
use Rattle.host.proofs.reading.dating_links.Goals as goal

pub returns : goal.returns
returns c =
    asked_list (λ r. take r.count r.links) c.links_in.ensures c.told_words.ensures
    (λ r k a h. (record { words = r.links; count = r.count }, keeps_listing k, h))
