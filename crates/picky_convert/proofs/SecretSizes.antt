-- How long the blob and the envelope of a private key are at most whose parts have at most 256 bytes each.
use Rattle.std.proofs.Common.{◌≡◌, ◌≤◌, ◌<◌, ◌+◌, ◌-◌, ◌%◌, ◌^◌, ℕ, zero, suc, List, [], ◌∷◌, ◌++◌, None, length, refl, ap, arith}
use Rattle.std.specs.Int.{w32, w8, to_be_bytes}
use Rattle.std.proofs.lemmas.List.{length-append}
use Rattle.picky_wire_base.specs.Mpint.{mpint_of}
use Rattle.picky_wire_base.specs.Wire.{string_of}
use Rattle.picky_wire_base.specs.Zeros.{without_zeros}
use Rattle.picky_keys.specs.declared.curve.EcCurve.TheVariants.{NistP256}
use Rattle.picky_keys.specs.KeyNames.{curve_identifier, kind_name}
use Rattle.picky_sshkey_blob.proofs.TextLaws.{length_lines, length_text}
use Rattle.picky_suite.specs.Meanings.{Meanings}
use Rattle.picky_keys.specs.Blob.{blob_of}
use Rattle.picky_sshkey_blob.specs.declared.key.SshBasePrivateKey.{SshBasePrivateKey}
use Rattle.picky_sshkey_blob.specs.declared.key.SshBasePrivateKey.TheVariants as keys
use Rattle.picky_sshkey_blob.specs.Blob.{private_fields_spelled, secret_of}
use Rattle.picky_sshkey_blob.specs.Key.{private_kind_of, public_part}
use Rattle.picky_sshkey.specs.declared.private_key.SshPrivateKey.{SshPrivateKey}
use Rattle.picky_sshkey.specs.Written.{count_up, envelope_of, unpadded_block, plain_block, unit_of}
use Rattle.picky_sshkey.proofs.WrittenLemmas.{plain_len}
use Rattle.picky_ppk_parts.specs.Secret.{secret_bytes}
use Rattle.picky_target.specs.Drafts.{openssh_key}
use Rattle.picky_target.specs.Texts.{envelope_text}
use Rattle.picky_wire_base.proofs.PieceLemmas.{length-string_of}
use Rattle.picky_convert.specs.SampleTexts.{unsealed_output}
use Rattle.picky_convert.proofs.BlobSizes.{IsSmall, blob_size, identifier_size, name_size}
use Rattle.picky_convert.proofs.PartLemmas.{zeros_size}
use Rattle.picky_convert.proofs.TextSizes.{concat_size, mpint_size}

-- each part has at most 256 bytes
abbrev pub IsSmallSecret : SshBasePrivateKey → Type 0
IsSmallSecret (keys.Rsa n e d iqmp p q) =
    (length n ≤ 256) × (length e ≤ 256) × (length d ≤ 256) × (length iqmp ≤ 256) × (length p ≤ 256) × (length q ≤ 256)
IsSmallSecret (keys.Ec curve point secret) = (length point ≤ 256) × (length secret ≤ 256)
IsSmallSecret (keys.Ed secret public) = (length secret ≤ 256) × (length public ≤ 256)
IsSmallSecret (keys.SkEcdsaSha2NistP256 point application flags handle) =
    (length point ≤ 256) × (length application ≤ 256) × (length handle ≤ 256)
IsSmallSecret (keys.SkEd25519 key application flags handle) =
    (length key ≤ 256) × (length application ≤ 256) × (length handle ≤ 256)

public_is_small : (key : SshBasePrivateKey) → IsSmallSecret key → IsSmall (public_part key)
public_is_small (keys.Rsa n e d iqmp p q) small = (small.1, small.0)
public_is_small (keys.Ec curve point secret) small = small.0
public_is_small (keys.Ed secret public) small = small.1
public_is_small (keys.SkEcdsaSha2NistP256 point application flags handle) small = (small.0, small.1)
public_is_small (keys.SkEd25519 key application flags handle) small = (small.0, small.1)

pub public_size : (key : SshBasePrivateKey) → IsSmallSecret key → length (blob_of (public_part key)) ≤ 800
public_size key small = blob_size (public_part key) (public_is_small key small)

-- ---- the blob

fields_size : (key : SshBasePrivateKey) → IsSmallSecret key → length (private_fields_spelled key) ≤ 1600
unfolding private_fields_spelled
fields_size (keys.Rsa n e d iqmp p q) small =
    omega (
      arith,
      small.0,
      small.1,
      small.2,
      small.3,
      small.4,
      small.5,
      concat_size (mpint_of n) (mpint_of e ∷ mpint_of d ∷ mpint_of iqmp ∷ mpint_of p ∷ mpint_of q ∷ []),
      concat_size (mpint_of e) (mpint_of d ∷ mpint_of iqmp ∷ mpint_of p ∷ mpint_of q ∷ []),
      concat_size (mpint_of d) (mpint_of iqmp ∷ mpint_of p ∷ mpint_of q ∷ []),
      concat_size (mpint_of iqmp) (mpint_of p ∷ mpint_of q ∷ []),
      concat_size (mpint_of p) (mpint_of q ∷ []),
      concat_size (mpint_of q) [],
      mpint_size n,
      mpint_size e,
      mpint_size d,
      mpint_size iqmp,
      mpint_size p,
      mpint_size q,
    )
fields_size (keys.Ec curve point secret) small =
    omega (
      arith,
      small.0,
      small.1,
      concat_size (string_of (curve_identifier curve)) (string_of point ∷ mpint_of secret ∷ []),
      concat_size (string_of point) (mpint_of secret ∷ []),
      concat_size (mpint_of secret) [],
      length-string_of (curve_identifier curve),
      length-string_of point,
      mpint_size secret,
      identifier_size curve,
    )
fields_size (keys.Ed secret public) small =
    omega (
      arith,
      small.0,
      small.1,
      concat_size (string_of public) (string_of (secret ++ public) ∷ []),
      concat_size (string_of (secret ++ public)) [],
      length-string_of public,
      length-string_of (secret ++ public),
      length-append secret public,
    )
fields_size (keys.SkEcdsaSha2NistP256 point application flags handle) small =
    omega (
      arith,
      small.0,
      small.1,
      small.2,
      concat_size (string_of (curve_identifier NistP256))
          (string_of point ∷ string_of application ∷ to_be_bytes w8 flags ∷ string_of handle ∷ string_of [] ∷ []),
      concat_size (string_of point) (string_of application ∷ to_be_bytes w8 flags ∷ string_of handle ∷ string_of [] ∷ []),
      concat_size (string_of application) (to_be_bytes w8 flags ∷ string_of handle ∷ string_of [] ∷ []),
      concat_size (to_be_bytes w8 flags) (string_of handle ∷ string_of [] ∷ []),
      concat_size (string_of handle) (string_of [] ∷ []),
      concat_size (string_of []) [],
      length-string_of (curve_identifier NistP256),
      length-string_of point,
      length-string_of application,
      length-string_of handle,
      length-string_of [],
      identifier_size NistP256,
    )
fields_size (keys.SkEd25519 key application flags handle) small =
    omega (
      arith,
      small.0,
      small.1,
      small.2,
      concat_size (string_of key) (string_of application ∷ to_be_bytes w8 flags ∷ string_of handle ∷ string_of [] ∷ []),
      concat_size (string_of application) (to_be_bytes w8 flags ∷ string_of handle ∷ string_of [] ∷ []),
      concat_size (to_be_bytes w8 flags) (string_of handle ∷ string_of [] ∷ []),
      concat_size (string_of handle) (string_of [] ∷ []),
      concat_size (string_of []) [],
      length-string_of key,
      length-string_of application,
      length-string_of handle,
      length-string_of [],
    )

secret_size : (key : SshBasePrivateKey) → IsSmallSecret key → length (secret_of key) ≤ 1700
unfolding secret_of
secret_size key small =
    omega (
      arith,
      length-append (string_of (kind_name (private_kind_of key))) (private_fields_spelled key),
      length-string_of (kind_name (private_kind_of key)),
      name_size (private_kind_of key),
      fields_size key small,
    )

-- ---- PuTTY's private bytes

pub private_size : (key : SshBasePrivateKey) → IsSmallSecret key → length (secret_bytes key) ≤ 1100
unfolding secret_bytes
private_size (keys.Rsa n e d iqmp p q) small =
    omega (
      arith,
      small.2,
      small.3,
      small.4,
      small.5,
      concat_size (mpint_of d) (mpint_of p ∷ mpint_of q ∷ mpint_of iqmp ∷ []),
      concat_size (mpint_of p) (mpint_of q ∷ mpint_of iqmp ∷ []),
      concat_size (mpint_of q) (mpint_of iqmp ∷ []),
      concat_size (mpint_of iqmp) [],
      mpint_size d,
      mpint_size iqmp,
      mpint_size p,
      mpint_size q,
    )
private_size (keys.Ec curve point secret) small = omega (arith, small.1, mpint_size secret)
private_size (keys.Ed secret public) small = omega (arith, small.0, mpint_size (without_zeros secret), zeros_size secret)
private_size (keys.SkEcdsaSha2NistP256 point application flags handle) small = omega arith
private_size (keys.SkEd25519 key application flags handle) small = omega arith

-- ---- the envelope

count_size : (from n : ℕ) → length (count_up from n) ≡ n
count_size from zero = refl
count_size from (suc n) = ap suc (count_size (from + 1) n)

block_fields_size : (key : SshPrivateKey) → IsSmallSecret key.base_key → length key.comment ≤ 9
    → length (unpadded_block key) ≤ 1800
unfolding unpadded_block
block_fields_size key small comment =
    omega (
      arith,
      comment,
      concat_size (to_be_bytes w32 key.check) (to_be_bytes w32 key.check ∷ secret_of key.base_key ∷ string_of key.comment ∷ []),
      concat_size (to_be_bytes w32 key.check) (secret_of key.base_key ∷ string_of key.comment ∷ []),
      concat_size (secret_of key.base_key) (string_of key.comment ∷ []),
      concat_size (string_of key.comment) [],
      length-string_of key.comment,
      secret_size key.base_key small,
    )

block_size : (key : SshPrivateKey) → IsSmallSecret key.base_key → length key.comment ≤ 9 → key.passphrase ≡ None
    → length (plain_block key) ≤ 2000
unfolding plain_block
block_size key small comment plain =
    let unit : unit_of key.passphrase ≡ 8 = ap unit_of plain in
    rw unit
    (omega (
      arith,
      length-append (unpadded_block key) (count_up 1 (8 - length (unpadded_block key) % 8)),
      count_size 1 (8 - length (unpadded_block key) % 8),
      block_fields_size key small comment,
    ))

pub envelope_size : (m : Meanings) (rounds : ℕ) (key : SshBasePrivateKey) (comment : List ℕ) → IsSmallSecret key
    → length comment ≤ 9 → length (envelope_text m (openssh_key unsealed_output rounds key comment)) < 2 ^ 32
envelope_size m rounds key comment small short =
    let made = openssh_key unsealed_output rounds key comment in
    let content = envelope_of made (plain_block made) in
    omega (
      arith,
      length_text content,
      length_lines content,
      plain_len made (plain_block made) refl,
      block_size made small short refl,
      public_size key small,
    )
