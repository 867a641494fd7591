-- The input is made of the file's fields.
use Rattle.std.proofs.Common.{ap, ◌∙◌}
use Rattle.picky_kv.specs.ChoiceFields.{encryption_field}
use Rattle.picky_ppk.proofs.MacLemmas.{input_covers}
use Rattle.picky_ppk.proofs.ppk.covered.Goals as goal

pub returns-in-Ok : goal.returns-in-Ok
returns-in-Ok c =
    let encryption = c.as_static_str-encryption.ensures ∙ ap encryption_field.spelling c.encryption.ensures in
    input_covers _ _ _ _ _ _ c.args.file.now c.in-Ok.ensures c.as_static_str-algorithm.ensures encryption
    c.as_str.ensures.bytes c.as_slice.ensures.bytes
