-- A refusal of the text as the change's, where want of memory is the outer want.
use Rattle.picky_keys.specs.declared.error.SshPublicKeyError.{SshPublicKeyError}
use Rattle.picky_keys.specs.declared.error.SshPublicKeyError.TheVariants as public
use Rattle.picky_sshkey_blob.specs.declared.error.SshPrivateKeyError.{SshPrivateKeyError}
use Rattle.picky_sshkey_blob.specs.declared.error.SshPrivateKeyError.TheVariants as private
use Rattle.picky_ppk_parts.specs.declared.error.PuttyError.{PuttyError}
use Rattle.picky_ppk_parts.specs.declared.error.PuttyError.TheVariants as putty
use Rattle.picky_key_text.specs.declared.error.ReadError.{ReadError}
use Rattle.picky_key_text.specs.declared.error.ReadError.TheVariants as read
use Rattle.picky_target.specs.declared.error.ConvertError.{ConvertError}
use Rattle.picky_target.specs.declared.error.ConvertError.TheVariants as errors
use Rattle.picky_wire_base.specs.declared.error.SizeError.{SizeError}
use Rattle.picky_wire_base.specs.declared.error.SizeError.TheVariants as sizes
use Rattle.picky_changed.specs.Comment.{of_line, of_private, of_putty}

abbrev pub unread_private : SshPrivateKeyError → ConvertError
unread_private private.NoMemory = errors.NoMemory
unread_private e = of_private e

abbrev pub unread_putty : PuttyError → ConvertError
unread_putty putty.NoMemory = errors.NoMemory
unread_putty e = of_putty e

abbrev pub unread_line : SshPublicKeyError → ConvertError
unread_line public.NoMemory = errors.NoMemory
unread_line e = of_line e

abbrev pub unread_text : ReadError → ConvertError
unread_text read.NoMemory = errors.NoMemory
unread_text e = errors.Input e

-- a comment that no length of the wire can say
abbrev pub size_refusal : SizeError → ConvertError
size_refusal sizes.TooLong = errors.TooLong
size_refusal sizes.NoMemory = errors.NoMemory
