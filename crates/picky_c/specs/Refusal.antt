-- A conversion's refusal as a call's.
use Rattle.picky_sshkey_blob.specs.declared.error.SshPrivateKeyError.TheVariants as private
use Rattle.picky_ppk_parts.specs.declared.error.PuttyError.TheVariants as putty
use Rattle.picky_key_text.specs.declared.error.ReadError.TheVariants as input
use Rattle.picky_target.specs.declared.error.ConvertError.{ConvertError}
use Rattle.picky_target.specs.declared.error.ConvertError.TheVariants as errors
use Rattle.picky_c.specs.declared.error.PickyError.{PickyError}
use Rattle.picky_c.specs.declared.error.PickyError.TheVariants as calls

-- want of memory is the outer want, and the suite's fault that of a cipher
abbrev pub refusal_of : ConvertError → PickyError
refusal_of errors.NoMemory = calls.NoMemory
refusal_of (errors.Input (input.Private private.SuiteFault)) = calls.NoCipher
refusal_of (errors.Input (input.Putty putty.SuiteFault)) = calls.NoCipher
refusal_of (errors.Private private.SuiteFault) = calls.NoCipher
refusal_of (errors.Putty putty.SuiteFault) = calls.NoCipher
refusal_of e = calls.Refused e
