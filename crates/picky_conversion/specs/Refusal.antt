-- A refusal to read, as the conversion's, where want of memory is the outer want.
use Rattle.picky_key_text.specs.declared.error.ReadError.{ReadError}
use Rattle.picky_key_text.specs.declared.error.ReadError.TheVariants as input
use Rattle.picky_target.specs.declared.error.ConvertError.{ConvertError}
use Rattle.picky_target.specs.declared.error.ConvertError.TheVariants as errors

-- of the key text
abbrev pub input_refusal : ReadError → ConvertError
input_refusal input.NoMemory = errors.NoMemory
input_refusal e = errors.Input e

-- of the issuer's text
abbrev pub issuer_refusal : ReadError → ConvertError
issuer_refusal input.NoMemory = errors.NoMemory
issuer_refusal e = errors.Issuer e
