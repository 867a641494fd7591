-- The parts of a public key, by number.
use Rattle.std.specs.Prelude.{◌==◌, List, ℕ, Option, None, Some, if◌then◌else◌}
use Rattle.picky_keys.specs.Blob.{blob_of}
use Rattle.picky_keys.specs.Key.{kind_of}
use Rattle.picky_keys.specs.KeyNames.{kind_name}
use Rattle.picky_keys.specs.declared.key.SshPublicKey.{SshPublicKey}
use Rattle.picky_c.specs.declared.part.Part.{Part}
use Rattle.picky_c.specs.declared.part.Part.TheVariants.{TypeName, Blob, Comment}

abbrev pub part_numbered : ℕ → Option Part
part_numbered number =
    if number == 1 then Some TypeName
    else if number == 2 then Some Blob
    else if number == 3 then Some Comment
    else None

abbrev pub part_of : Part → SshPublicKey → List ℕ
part_of TypeName key = kind_name (kind_of key.inner_key)
part_of Blob key = blob_of key.inner_key
part_of Comment key = key.comment
