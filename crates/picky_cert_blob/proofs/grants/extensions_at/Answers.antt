-- No item is empty, so that the list is one of the layout's.
use Rattle.picky_cert_blob.specs.Layout.{extensions}
use Rattle.picky_cert_blob.specs.carried.Items.{extension_item_solid}
use Rattle.picky_cert_blob.proofs.grants.extensions_at.Goals as goal

pub returns-clause-seen : goal.returns-clause-seen
unfolding extensions
returns-clause-seen c = c.list_at.ensures.seen extension_item_solid
