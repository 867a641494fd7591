-- What each target carries: every sample key, but PuTTY's those whose secret a device keeps.
use Rattle.std.proofs.Common.{◌≡◌, ◌∙◌, ◌≤◌, ◌<◌, ◌+◌, ◌^◌, ℕ, false, [], length, arith}
use Rattle.std.specs.Prelude.{replicate}
use Rattle.picky_kv.specs.declared.PpkVersionKey.{PpkVersionKey}
use Rattle.picky_kv.specs.declared.PpkVersionKey.TheVariants.{V2, V3}
use Rattle.picky_text.proofs.LineLaws.{one_line}
use Rattle.picky_keys.specs.Blob.{blob_of}
use Rattle.picky_sshkey_blob.specs.Key.{public_part}
use Rattle.picky_ppk_parts.specs.Config.{default_config}
use Rattle.picky_ppk_parts.specs.declared.config.PpkEncryptionConfig.{PpkEncryptionConfig}
use Rattle.picky_ppk_file.specs.Written.{line_end_of}
use Rattle.picky_ppk.specs.PpkLayout.{laid_secret}
use Rattle.picky_ppk.specs.declared.layout.PpkLayout.TheVariants as layouts
use Rattle.picky_key_text.specs.Key.{public_key}
use Rattle.picky_target.specs.declared.target.KeyTarget.TheVariants as targets
use Rattle.picky_target.specs.Carried.{Carries, HasFileRoom, Holds, Place}
use Rattle.picky_target.specs.Carried.{PrivateKey, Kind, Comment, Derivation, Fresh, Length, Lines}
use Rattle.picky_target.specs.Drafts.{default_rounds, key_parts_of}
use Rattle.picky_target.specs.Judged.{mac_len}
use Rattle.picky_target.specs.ReadBack.{IsConfig}
use Rattle.picky_target.proofs.FileWritten.{plain_len}
use Rattle.picky_convert.specs.SampleKeys.{comment_at, key_at, kind_at, meaning_at}
use Rattle.picky_keys.specs.Key.{is_security_key_kind}
use Rattle.picky_convert.specs.SampleTexts.{openssh, unsealed_output}
use Rattle.picky_convert.proofs.CommentLemmas.{comment_has_no_cr, comment_has_no_lf, comment_is_trimmed, comment_size}
use Rattle.picky_convert.proofs.FileSizes.{file_size, line_size, putty_size}
use Rattle.picky_convert.proofs.KeyLemmas.{key_is_of_kind, key_is_small}
use Rattle.picky_convert.proofs.SecretSizes.{envelope_size, private_size, public_size}

-- ---- sizes

blob_is_short : (i : ℕ) → length (blob_of (public_part (key_at i))) ≤ 800
blob_is_short i = public_size (key_at i) (key_is_small (kind_at i) (i + 1))

secret_is_short : (i : ℕ) → length (laid_secret layouts.Number (key_at i)) ≤ 1100
unfolding laid_secret
secret_is_short i = private_size (key_at i) (key_is_small (kind_at i) (i + 1))

mac_is_short : (version : PpkVersionKey) → length {A = ℕ} (replicate (mac_len version) 0) ≤ 64
mac_is_short V2 = omega arith
mac_is_short V3 = omega arith

file_room : (version : PpkVersionKey) (config : PpkEncryptionConfig) (i : ℕ) → i < 2 ^ 16
    → HasFileRoom unsealed_output version config layouts.Number (key_at i) (comment_at i)
file_room version config i small =
    let key = key_at i in
    let blob = blob_of (public_part key) in
    record {
      blob = omega (arith, blob_is_short i);
      private = omega (arith, secret_is_short i);
      text = λ m.
          omega (
            arith,
            plain_len m [] version config layouts.Number key (comment_at i),
            file_size version (key_parts_of layouts.Number key).algorithm (comment_at i) blob (laid_secret layouts.Number key) (replicate (mac_len version) 0)
                (comment_size i small) (omega (arith, blob_is_short i)) (secret_is_short i) (mac_is_short version),
          );
    }

-- ---- each target, place by place

envelope_holds : (i : ℕ) → i < 2 ^ 16 → (place : Place) → Holds unsealed_output openssh (meaning_at i) place
envelope_holds i small PrivateKey = tt
envelope_holds i small Kind = tt
envelope_holds i small Comment = comment_is_trimmed i small
envelope_holds i small Derivation = tt
envelope_holds i small Fresh = omega arith
envelope_holds i small Length =
    λ m. envelope_size m default_rounds (key_at i) (comment_at i) (key_is_small (kind_at i) (i + 1)) (comment_size i small)
envelope_holds i small Lines = tt

file_holds : (version : PpkVersionKey) (config : PpkEncryptionConfig) (i : ℕ) → i < 2 ^ 16 → is_security_key_kind (kind_at i) ≡ false
    → (place : Place) → Holds unsealed_output (targets.Ppk version config layouts.Number) (meaning_at i) place
file_holds version config i small plain PrivateKey = tt
file_holds version config i small plain Kind = key_is_of_kind (kind_at i) (i + 1) ∙ plain
file_holds version config i small plain Comment =
    one_line (line_end_of version) (comment_at i) (comment_has_no_cr i small, comment_has_no_lf i small)
file_holds version config i small plain Derivation = tt
file_holds version config i small plain Fresh = omega arith
file_holds version config i small plain Length = file_room version config i small
file_holds version config i small plain Lines = (omega (arith, blob_is_short i), omega (arith, secret_is_short i))

line_holds : (i : ℕ) → i < 2 ^ 16 → (place : Place) → Holds unsealed_output targets.OpenSshPublic (meaning_at i) place
line_holds i small PrivateKey = tt
line_holds i small Kind = tt
line_holds i small Comment = record {
  no_cr = comment_has_no_cr i small;
  no_lf = comment_has_no_lf i small;
  trimmed = comment_is_trimmed i small;
}
line_holds i small Derivation = tt
line_holds i small Fresh = omega arith
line_holds i small Length =
    omega (arith, line_size (public_key (meaning_at i)) (omega (arith, blob_is_short i)) (comment_size i small))
line_holds i small Lines = tt

putty_holds : (i : ℕ) → i < 2 ^ 16 → is_security_key_kind (kind_at i) ≡ false → (place : Place)
    → Holds unsealed_output targets.PuttyPublic (meaning_at i) place
putty_holds i small plain PrivateKey = tt
putty_holds i small plain Kind = key_is_of_kind (kind_at i) (i + 1) ∙ plain
putty_holds i small plain Comment = comment_has_no_lf i small
putty_holds i small plain Derivation = tt
putty_holds i small plain Fresh = omega arith
putty_holds i small plain Length = (
  omega (arith, blob_is_short i),
  omega (
    arith,
    putty_size (blob_of (public_part (key_at i))) (comment_at i) (omega (arith, blob_is_short i)) (comment_size i small),
  ),
)
putty_holds i small plain Lines = tt

-- ---- each target

pub envelope_carries : (i : ℕ) → i < 2 ^ 16 → Carries unsealed_output openssh (meaning_at i)
envelope_carries i small = record { holds = envelope_holds i small }

pub file_carries : (version : PpkVersionKey) (config : PpkEncryptionConfig) (i : ℕ) → i < 2 ^ 16 → is_security_key_kind (kind_at i) ≡ false
    → Carries unsealed_output (targets.Ppk version config layouts.Number) (meaning_at i)
file_carries version config i small plain = record { holds = file_holds version config i small plain }

pub line_carries : (i : ℕ) → i < 2 ^ 16 → Carries unsealed_output targets.OpenSshPublic (meaning_at i)
line_carries i small = record { holds = line_holds i small }

pub putty_carries : (i : ℕ) → i < 2 ^ 16 → is_security_key_kind (kind_at i) ≡ false
    → Carries unsealed_output targets.PuttyPublic (meaning_at i)
putty_carries i small plain = record { holds = putty_holds i small plain }

-- ---- the numbers of a target

pub default_is_rounds : default_rounds < 2 ^ 32
default_is_rounds = omega arith

pub default_is_config : IsConfig default_config
default_is_config = record {
  memory = omega arith;
  passes = omega arith;
  parallelism = omega arith;
  salt_size = omega arith;
}
