-- The name is a text that names no format.
use Rattle.std.proofs.Common.{rules}
use Rattle.picky_cert_parts.proofs.SignatureLemmas.{format_name_cause}
use Rattle.picky_cert_parts.proofs.signature_codec.take_format.Goals as goal

pub returns-in-None-clause-cause : goal.returns-in-None-clause-cause
returns-in-None-clause-cause g c =
    format_name_cause c.in-Ok.name _ (search rules) c.as_str.ensures.utf8 (search rules)
