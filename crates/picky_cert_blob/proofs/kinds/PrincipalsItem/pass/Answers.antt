-- A text that was seen is a principal.
use Rattle.picky_wire_base.specs.Wire.{text}
use Rattle.picky_wire_base.specs.View.{Lies, end_of}
use Rattle.picky_cert_blob.specs.Items.{principal_item}
use Rattle.picky_cert_blob.proofs.RowLemmas.{principal_passed}
use Rattle.picky_cert_blob.proofs.kinds.PrincipalsItem.pass.Goals as goal

pub returns-in-Ok : goal.returns-in-Ok
unfolding principal_item
returns-in-Ok c =
    principal_passed (Lies c.args.bytes.now (end_of text c.args.bytes.now c.args.from)) c.args.bytes.now c.args.from c.in-Ok.next c.in-Ok.field-0-0 c.in-Ok.ensures
