-- What the answers mean is one with what the caller's cryptography means.
use Rattle.std.proofs.Common.{◌≡◌, ap, subst, sym}
use Rattle.picky_c.specs.{Calls.{converted_with, entries_of, meanings_by}, Given.{outside}}
use Rattle.picky_conversion.specs.Convert.{IsConversion}
use Rattle.picky_c.proofs.laws.answers_that_agree_mean_the_same.Goals as goal

pub returns-clause-gives : goal.returns-clause-gives
returns-clause-gives c = λ m to g all. ap (λ w. converted_with w to g) (c.a_table_that_agrees_means_the_same.ensures.meant m (entries_of g) all)

pub returns-clause-means : goal.returns-clause-means
returns-clause-means c = λ m to g bytes all is.
    let one : is.0 ≡ to = cc (sym is.1) in
    subst (λ w. IsConversion (outside w g) to g.text bytes) (c.a_table_that_agrees_means_the_same.ensures.meant m (entries_of g) all)
    (subst (λ t. IsConversion (outside (meanings_by m g) g) t g.text bytes) one is.2)
