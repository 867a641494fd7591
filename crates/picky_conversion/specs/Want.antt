-- Which refusals say, at some depth, that memory ran out, which that the suite failed, and which that the signer did.
use Rattle.std.specs.Prelude.{◌≡◌, ◌⊎◌}
use Rattle.picky_keys.specs.declared.error.SshPublicKeyError.TheVariants as public
use Rattle.picky_sshkey_blob.specs.declared.pem_error.PemError.TheVariants as pem
use Rattle.picky_sshkey_blob.specs.declared.error.SshPrivateKeyError.TheVariants as private
use Rattle.picky_ppk_parts.specs.declared.error.PuttyError.TheVariants as putty
use Rattle.picky_key_text.specs.Want.{WantsMemory as ReadWantsMemory, IsFault as IsReadFault}
use Rattle.picky_cert_builder.specs.declared.error.SshCertificateGenerationError.TheVariants as requests
use Rattle.picky_target.specs.declared.error.ConvertError.{ConvertError}
use Rattle.picky_target.specs.declared.error.ConvertError.TheVariants as convert

-- memory ran out
abbrev pub WantsMemory : ConvertError → Type 0
WantsMemory (convert.Input e) = ReadWantsMemory e
WantsMemory (convert.Issuer e) = ReadWantsMemory e
WantsMemory (convert.Request e) = e ≡ requests.NoMemory
WantsMemory (convert.Private e) = (e ≡ private.NoMemory) ⊎ (e ≡ private.PemError pem.NoMemory)
WantsMemory (convert.Putty e) = (e ≡ putty.NoMemory) ⊎ (e ≡ putty.SshPublicKey public.NoMemory)
WantsMemory e = e ≡ convert.NoMemory

-- the suite failed
abbrev pub IsFault : ConvertError → Type 0
IsFault (convert.Input e) = IsReadFault e
IsFault (convert.Issuer e) = IsReadFault e
IsFault (convert.Private e) = e ≡ private.SuiteFault
IsFault (convert.Putty e) = e ≡ putty.SuiteFault
IsFault e = ⊥

-- the signer failed
abbrev pub IsSignerFault : ConvertError → Type 0
IsSignerFault (convert.Request e) = e ≡ requests.SignatureError
IsSignerFault e = ⊥
