use Rattle.picky_cert_field.proofs.FieldLaws.{field_means}
use Rattle.picky_cert_field.proofs.laws.a_field_is_what_the_line_says.Goals as goal

pub returns-clause-means : goal.returns-clause-means
returns-clause-means c = field_means
