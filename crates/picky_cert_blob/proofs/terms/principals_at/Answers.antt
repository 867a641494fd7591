-- No item is empty, so that the list is one of the layout's.
use Rattle.picky_cert_blob.specs.Layout.{principals}
use Rattle.picky_cert_blob.specs.carried.Items.{principal_item_solid}
use Rattle.picky_cert_blob.proofs.terms.principals_at.Goals as goal

pub returns-clause-seen : goal.returns-clause-seen
unfolding principals
returns-clause-seen c = c.list_at.ensures.seen principal_item_solid
