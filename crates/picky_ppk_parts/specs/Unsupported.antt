-- What PuTTY's files have no key of.
use Rattle.std.specs.Prelude.{codes}
use Rattle.picky_ppk_parts.specs.declared.error.PuttyError.{PuttyError}
use Rattle.picky_ppk_parts.specs.declared.error.PuttyError.TheVariants as errors

-- keys whose secret a device keeps
abbrev pub no_security_keys : PuttyError
no_security_keys = errors.NotSupported (codes "SK keys")

-- DSS and Ed448, which are read by their names alone
abbrev pub no_such_algorithm : PuttyError
no_such_algorithm = errors.NotSupported (codes "unsupported key algorithm")
