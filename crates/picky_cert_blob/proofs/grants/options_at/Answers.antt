-- No item is empty, so that the list is one of the layout's.
use Rattle.picky_cert_blob.specs.Layout.{critical_options}
use Rattle.picky_cert_blob.specs.carried.Items.{option_item_solid}
use Rattle.picky_cert_blob.proofs.grants.options_at.Goals as goal

pub returns-clause-seen : goal.returns-clause-seen
unfolding critical_options
returns-clause-seen c = c.list_at.ensures.seen option_item_solid
