-- The blob of a public key, as PuTTY's files have it, where it is short enough.
use Rattle.std.specs.Prelude.{◌≡◌, Bool, true, false, List, ℕ, Ok, Err, if◌then◌else◌}
use Rattle.std.proofs.Common.{refl}
use Rattle.picky_keys.specs.Blob.{blob_of}
use Rattle.picky_keys.specs.LineRefusal.{is_short, blob_bytes}
use Rattle.picky_keys.specs.declared.error.SshPublicKeyError.{SshPublicKeyError}
use Rattle.picky_keys.specs.declared.error.SshPublicKeyError.TheVariants as public
use Rattle.picky_keys.specs.declared.key.SshBasePublicKey.{SshBasePublicKey}
use Rattle.picky_ppk_parts.specs.declared.error.PuttyError.{PuttyError}
use Rattle.picky_ppk_parts.specs.declared.error.PuttyError.TheVariants as errors
use Rattle.picky_ppk_parts.specs.KeyParts.{blob_within}

same_bytes : {A : Type 0} (t : Bool) (e : SshPublicKeyError) (f : PuttyError) (v w : A)
    → (if t then Ok v else Err e) ≡ Ok w → (if t then Ok v else Err f) ≡ Ok w
same_bytes true e f v w is = cc is
same_bytes false e f v w is = cc is

same_refusal : {A : Type 0} (t : Bool) (e d : SshPublicKeyError) (f : PuttyError) (v : A)
    → (if t then Ok v else Err e) ≡ Err d → (if t then Ok v else Err f) ≡ Err f
same_refusal true e d f v is = cc is
same_refusal false e d f v is = refl

-- the blob that is written
pub blob_is_within : (key : SshBasePublicKey) (bytes : List ℕ) → blob_bytes key ≡ Ok bytes → blob_within key ≡ Ok bytes
unfolding blob_bytes
blob_is_within key bytes is = same_bytes (is_short (blob_of key)) public.TooLong errors.TooLong (blob_of key) bytes is

-- and its refusal
pub blob_is_too_long : (key : SshBasePublicKey) → blob_bytes key ≡ Err public.TooLong
    → blob_within key ≡ Err errors.TooLong
unfolding blob_bytes
blob_is_too_long key is =
    same_refusal (is_short (blob_of key)) public.TooLong public.TooLong errors.TooLong (blob_of key) is

pub ruleset blobs_within = (blob_is_within, blob_is_too_long)
