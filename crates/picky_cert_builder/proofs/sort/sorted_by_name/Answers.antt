use Rattle.std.proofs.Common.{ap, ◌∙◌, rules, of_calls}
use Rattle.picky_cert_builder.specs.ByName.{by_name}
use Rattle.picky_cert_builder.proofs.SortLemmas.{by_name_from_sort}
use Rattle.picky_cert_builder.proofs.sort.sorted_by_name.Goals as goal

pub returns-in-Ok : goal.returns-in-Ok
returns-in-Ok g c =
    let name = g.T.Named.name in
    let sorted = by_name_from_sort name _ _ c.in-Ok.ensures.sorted c.in-Ok.ensures.stable
    (λ a r f called. search (rules, of_calls)) in
    c.from_vec.ensures ∙ sorted ∙ ap (by_name name) c.into_vec-items.ensures
