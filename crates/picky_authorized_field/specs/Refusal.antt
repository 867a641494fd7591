-- Why authorized keys have no such field: they aren't read themselves.
use Rattle.picky_authorized.specs.declared.keys.PolicyError.{PolicyError}
use Rattle.picky_authorized.specs.declared.keys.PolicyError.TheVariants as keys
use Rattle.picky_authorized_field.specs.declared.error.AuthFieldError.{AuthFieldError}
use Rattle.picky_authorized_field.specs.declared.error.AuthFieldError.TheVariants as errors

abbrev pub refusal_of : PolicyError → AuthFieldError
refusal_of keys.TooLong = errors.TooLong
refusal_of keys.NoMemory = errors.NoMemory
