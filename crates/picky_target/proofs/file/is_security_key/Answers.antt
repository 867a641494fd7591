-- A key has the kind of its public key.
use Rattle.std.proofs.Common.{◌∙◌, ap}
use Rattle.picky_keys.specs.Key.{is_security_key_kind}
use Rattle.picky_sshkey_blob.proofs.KeyLaws.{same_kind}
use Rattle.picky_target.proofs.file.is_security_key.Goals as goal

pub returns : goal.returns
returns c = c.is_security_key.ensures ∙ ap is_security_key_kind (c.kind.ensures ∙ same_kind c.args.key.now)
