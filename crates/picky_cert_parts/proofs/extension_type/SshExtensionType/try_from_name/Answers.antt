-- A known name stands for its extension, and is short.
use Rattle.std.specs.Prelude.{Ok}
use Rattle.std.proofs.Common.{sym, ap, ◌∙◌}
use Rattle.picky_cert_parts.specs.declared.error.SshExtensionError.TheVariants as errors
use Rattle.picky_cert_parts.proofs.ExtensionNames.{known_answers}
use Rattle.picky_cert_parts.proofs.extension_type.SshExtensionType.try_from_name.Goals as goal

pub returns-in-Some-clause-gives : goal.returns-in-Some-clause-gives
returns-in-Some-clause-gives c = known_answers errors.TooLong _ _ (sym c.of_name.ensures ∙ c.in-Some.is) ∙ ap Ok (sym c.of_known.ensures)
