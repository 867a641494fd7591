-- What is handed out is what the line says.
use Rattle.picky_cert_field.proofs.FieldLaws.{given_is_field}
use Rattle.picky_cert_field.proofs.reading.certificate_field.Goals as goal

pub returns-clause-means : goal.returns-clause-means
returns-clause-means c =
    given_is_field (λ bytes. bytes.items) c.field_in_line.result c.args.field c.args.line.now c.args.place c.field_in_line.ensures
