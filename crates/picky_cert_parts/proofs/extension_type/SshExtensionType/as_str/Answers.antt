-- A name that is kept is a short text, and no known one.
use Rattle.std.proofs.Common.{rules}
use Rattle.picky_cert_parts.proofs.ExtensionNames.{other_keeps}
use Rattle.picky_cert_parts.proofs.extension_type.SshExtensionType.as_str.Goals as goal

pub returns-in-Other-clause-keeps : goal.returns-in-Other-clause-keeps
returns-in-Other-clause-keeps c =
    other_keeps c.args.self.now _ c.in-Other.is (search rules) c.as_str-in-Other.ensures.utf8 c.as_str-in-Other.ensures.other
