-- An option that was seen is passed.
use Rattle.picky_cert_blob.proofs.RowLemmas.{option_passed}
use Rattle.picky_cert_blob.proofs.kinds.OptionsItem.pass.Goals as goal

pub returns-in-Ok : goal.returns-in-Ok
returns-in-Ok c = option_passed c.args.bytes.now c.args.from c.in-Ok.next c.in-Ok.field-0-0 c.in-Ok.ensures
