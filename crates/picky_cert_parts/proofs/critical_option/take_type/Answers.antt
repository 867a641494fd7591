-- The name is a text that names no option.
use Rattle.std.proofs.Common.{rules}
use Rattle.picky_cert_parts.proofs.OptionLemmas.{option_name_cause}
use Rattle.picky_cert_parts.proofs.critical_option.take_type.Goals as goal

pub returns-in-None-clause-cause : goal.returns-in-None-clause-cause
returns-in-None-clause-cause g c =
    option_name_cause c.in-Ok.name _ (search rules) c.as_str.ensures.utf8 (search rules)
