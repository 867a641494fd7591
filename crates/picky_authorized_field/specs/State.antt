-- What an entry of authorized keys is, in a word.
use Rattle.std.specs.Prelude.{List, ℕ, codes}
use Rattle.picky_keys.specs.declared.error.SshPublicKeyError.{SshPublicKeyError}
use Rattle.picky_keys.specs.declared.error.SshPublicKeyError.TheVariants as errors
use Rattle.picky_authorized.specs.declared.entry.AuthContent.{AuthContent}
use Rattle.picky_authorized.specs.declared.entry.AuthContent.TheVariants as contents

-- the name of why a public key line is refused
abbrev pub refusal_name : SshPublicKeyError → List ℕ
refusal_name (errors.IoError kind) = codes "IoError"
refusal_name errors.InvalidUtf8 = codes "InvalidUtf8"
refusal_name errors.Base64DecodeError = codes "Base64DecodeError"
refusal_name errors.UnknownKeyType = codes "UnknownKeyType"
refusal_name errors.KeyError = codes "KeyError"
refusal_name errors.TooLong = codes "TooLong"
refusal_name errors.NoMemory = codes "NoMemory"

-- a key; options that don't fit; or why the public key line behind them is refused
abbrev pub state_name : AuthContent → List ℕ
state_name (contents.Key options key) = codes "key"
state_name contents.BadOptions = codes "bad-options"
state_name (contents.Unread e) = refusal_name e
