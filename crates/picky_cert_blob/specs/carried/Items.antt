-- That each item of a certificate's lists has at least one byte.
use Rattle.picky_wire_base.specs.Row.{Solid}
use Rattle.picky_wire_base.proofs.Solid.{text_solid}
use Rattle.picky_cert_parts.specs.carried.CriticalOption.{option_solid}
use Rattle.picky_cert_parts.specs.carried.Extension.{extension_solid}
use Rattle.picky_cert_blob.specs.Items.{principal_item, option_item, extension_item}

pub principal_item_solid : Solid principal_item.piece
unfolding principal_item
principal_item_solid = text_solid

pub option_item_solid : Solid option_item.piece
unfolding option_item
option_item_solid = option_solid

pub extension_item_solid : Solid extension_item.piece
unfolding extension_item
extension_item_solid = extension_solid
