-- The sample keys: short, in their ranges, and of their kind.
use Rattle.std.proofs.Common.{◌≡◌, ◌≤◌, ◌<◌, ◌+◌, ◌^◌, ℕ, refl, arith}
use Rattle.picky_keys.specs.declared.curve.EcCurve.{EcCurve}
use Rattle.picky_keys.specs.declared.curve.EcCurve.TheVariants.{NistP256, NistP384, NistP521}
use Rattle.picky_keys.specs.declared.kind.KeyKind.{KeyKind}
use Rattle.picky_keys.specs.declared.kind.KeyKind.TheVariants as kinds
use Rattle.picky_sshkey_blob.specs.Key.{IsPrivateKey, public_part}
use Rattle.picky_ppk_file.specs.PuttyRefusal.{is_security_key}
use Rattle.picky_key_text.specs.Kept.{IsKeptMeaning}
use Rattle.picky_convert.specs.SampleKeys.{drawn_key, kind_at, meaning_at, numbers_len, secret_len}
use Rattle.picky_keys.specs.Key.{is_security_key_kind}
use Rattle.picky_convert.proofs.CommentLemmas.{comment_is_text}
use Rattle.picky_convert.proofs.PartLemmas.{application_is, application_size, ed_is, exponent_is, field_is, field_size}
use Rattle.picky_convert.proofs.PartLemmas.{number_is, number_size, point_is, point_size}
use Rattle.picky_convert.proofs.SecretSizes.{IsSmallSecret}

numbers_small : (curve : EcCurve) → numbers_len curve ≤ 132
numbers_small NistP256 = omega arith
numbers_small NistP384 = omega arith
numbers_small NistP521 = omega arith

secret_small : (curve : EcCurve) → secret_len curve ≤ 66
secret_small NistP256 = omega arith
secret_small NistP384 = omega arith
secret_small NistP521 = omega arith

pub key_is_small : (kind : KeyKind) (s : ℕ) → IsSmallSecret (drawn_key kind s)
unfolding drawn_key
key_is_small kinds.Rsa s = (
  number_size s 0 256,
  omega arith,
  number_size s 256 256,
  omega (arith, number_size s 512 128),
  omega (arith, number_size s 640 128),
  omega (arith, number_size s 768 128),
)
key_is_small (kinds.Ec curve) s = (
  omega (arith, point_size s (numbers_len curve), numbers_small curve),
  omega (arith, number_size s (numbers_len curve) (secret_len curve), secret_small curve),
)
key_is_small (kinds.Ed algorithm) s = (omega (arith, field_size s 0 32), omega (arith, field_size s 32 32))
key_is_small kinds.SkEcdsaSha2NistP256 s =
    (omega (arith, point_size s 64), omega (arith, application_size), omega (arith, field_size s 64 64))
key_is_small kinds.SkEd25519 s =
    (omega (arith, field_size s 0 32), omega (arith, application_size), omega (arith, field_size s 32 64))

pub key_is_private : (kind : KeyKind) (s : ℕ) → IsPrivateKey (drawn_key kind s)
unfolding drawn_key
key_is_private kinds.Rsa s = (
  number_is s 0 256 (omega arith),
  exponent_is,
  number_is s 256 256 (omega arith),
  number_is s 512 128 (omega arith),
  number_is s 640 128 (omega arith),
  number_is s 768 128 (omega arith),
)
key_is_private (kinds.Ec curve) s = (
  point_is s (numbers_len curve) (omega (arith, numbers_small curve)),
  number_is s (numbers_len curve) (secret_len curve) (omega (arith, secret_small curve)),
)
key_is_private (kinds.Ed algorithm) s = (ed_is s 0, ed_is s 32)
key_is_private kinds.SkEcdsaSha2NistP256 s =
    (point_is s 64 (omega arith), application_is, omega arith, field_is s 64 64 (omega arith))
key_is_private kinds.SkEd25519 s = (ed_is s 0, application_is, omega arith, field_is s 32 64 (omega arith))

pub key_is_of_kind : (kind : KeyKind) (s : ℕ) → is_security_key (public_part (drawn_key kind s)) ≡ is_security_key_kind kind
unfolding drawn_key
key_is_of_kind kinds.Rsa s = refl
key_is_of_kind (kinds.Ec curve) s = refl
key_is_of_kind (kinds.Ed algorithm) s = refl
key_is_of_kind kinds.SkEcdsaSha2NistP256 s = refl
key_is_of_kind kinds.SkEd25519 s = refl

pub meaning_is_kept : (i : ℕ) → i < 2 ^ 16 → IsKeptMeaning (meaning_at i)
meaning_is_kept i small = record { key = key_is_private (kind_at i) (i + 1); comment = comment_is_text i small }
