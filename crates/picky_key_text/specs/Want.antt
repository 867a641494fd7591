-- Which refusals say, at some depth, that memory ran out, and which that the suite failed.
use Rattle.std.specs.Prelude.{◌≡◌, ◌⊎◌}
use Rattle.picky_keys.specs.declared.error.SshPublicKeyError.TheVariants as public
use Rattle.picky_sshkey_blob.specs.declared.pem_error.PemError.TheVariants as pem
use Rattle.picky_sshkey_blob.specs.declared.error.SshPrivateKeyError.TheVariants as private
use Rattle.picky_ppk_parts.specs.declared.error.PuttyError.TheVariants as putty
use Rattle.picky_cert.specs.Want.{WantsMemory as CertificateWants}
use Rattle.picky_key_text.specs.declared.error.ReadError.{ReadError}
use Rattle.picky_key_text.specs.declared.error.ReadError.TheVariants as errors

-- memory ran out
abbrev pub WantsMemory : ReadError → Type 0
WantsMemory (errors.Private e) = (e ≡ private.NoMemory) ⊎ (e ≡ private.PemError pem.NoMemory)
WantsMemory (errors.Public e) = e ≡ public.NoMemory
WantsMemory (errors.Certificate e) = CertificateWants e
WantsMemory (errors.Putty e) = (e ≡ putty.NoMemory) ⊎ (e ≡ putty.SshPublicKey public.NoMemory)
WantsMemory errors.NoMemory = Unit {0}

-- the suite failed
abbrev pub IsFault : ReadError → Type 0
IsFault (errors.Private e) = e ≡ private.SuiteFault
IsFault (errors.Public e) = ⊥
IsFault (errors.Certificate e) = ⊥
IsFault (errors.Putty e) = e ≡ putty.SuiteFault
IsFault errors.NoMemory = ⊥
