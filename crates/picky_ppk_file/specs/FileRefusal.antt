-- The order in which the lines of a PuTTY private key file are refused: the first that doesn't fit.
use Rattle.std.specs.Prelude.{List, ℕ, Result, Ok}
use Rattle.picky_wire_base.specs.Outcome.{and_then, map_err}
use Rattle.picky_text.specs.Lines.{lines}
use Rattle.picky_kv.specs.Keys.{encryption_key, comment_key, public_lines_key, private_lines_key, private_mac_key}
use Rattle.picky_kv.specs.Keys.{encryption_key_row, comment_key_row, public_lines_key_row, private_lines_key_row}
use Rattle.picky_kv.specs.Keys.{private_mac_key_row}
use Rattle.picky_kv.specs.Argon2Keys.{key_derivation_key, argon2_memory_key, argon2_passes_key}
use Rattle.picky_kv.specs.Argon2Keys.{argon2_parallelism_key, argon2_salt_key, key_derivation_key_row}
use Rattle.picky_kv.specs.Argon2Keys.{argon2_memory_key_row, argon2_passes_key_row, argon2_parallelism_key_row}
use Rattle.picky_kv.specs.Argon2Keys.{argon2_salt_key_row}
use Rattle.picky_kv.specs.Choices.{version_row}
use Rattle.picky_kv.specs.ChoiceFields.{version_field, encryption_field, flavour_field}
use Rattle.picky_kv.specs.declared.PpkVersionKey.{PpkVersionKey}
use Rattle.picky_kv.specs.declared.PpkVersionKey.TheVariants.{V2, V3}
use Rattle.picky_kv.specs.declared.PpkEncryptionValue.{PpkEncryptionValue}
use Rattle.picky_kv.specs.declared.PpkEncryptionValue.TheVariants.{None, Aes256Cbc}
use Rattle.picky_kv.specs.ValueFields.{comment_field, base64_field, hex_field}
use Rattle.picky_kv.specs.AlgorithmField.{algorithm_field}
use Rattle.picky_kv.specs.NumberFields.{u32_field}
use Rattle.picky_kv.specs.Lines.{next_pair, next_block, value_alone}
use Rattle.picky_kv.specs.declared.error.KvError.{KvError}
use Rattle.picky_kv.specs.declared.error.KvError.TheVariants as kv
use Rattle.picky_ppk_parts.specs.declared.error.PuttyError.{PuttyError}
use Rattle.picky_ppk_parts.specs.declared.error.PuttyError.TheVariants as errors
use Rattle.picky_ppk_parts.specs.declared.material.Argon2Params.{Argon2Params}
use Rattle.picky_ppk_file.specs.declared.file.PpkSealing.{PpkSealing}
use Rattle.picky_ppk_file.specs.declared.file.PpkSealing.TheVariants.{Unsealed, SealedV2, SealedV3}
use Rattle.picky_ppk_file.specs.declared.file.PpkFile.{PpkFile}
use Rattle.picky_ppk_file.specs.declared.reading.Front.{Front}

-- what a step reads, and the lines after it
abbrev pub TakesLines : Type 0 → Type 0
TakesLines A = List (List ℕ) → Result (A × List (List ℕ)) KvError

-- the lines of a derivation by Argon2
unfoldable pub argon2_in : TakesLines Argon2Params
argon2_in ls =
    and_then (value_alone (next_pair key_derivation_key flavour_field key_derivation_key_row.name ls)) (λ flavor.
    and_then (value_alone (next_pair argon2_memory_key u32_field argon2_memory_key_row.name flavor.1)) (λ memory.
    and_then (value_alone (next_pair argon2_passes_key u32_field argon2_passes_key_row.name memory.1)) (λ passes.
    and_then (value_alone (next_pair argon2_parallelism_key u32_field argon2_parallelism_key_row.name passes.1)) (λ lanes.
    and_then (value_alone (next_pair argon2_salt_key hex_field argon2_salt_key_row.name lanes.1)) (λ salt.
    Ok (
      record { flavor = flavor.0; memory = memory.0; passes = passes.0; parallelism = lanes.0; salt = salt.0 },
      salt.1,
    ))))))

-- the first lines of a file
unfoldable pub front_in : TakesLines Front
front_in ls =
    and_then (next_pair version_field algorithm_field version_row.name ls) (λ header.
    and_then (value_alone (next_pair encryption_key encryption_field encryption_key_row.name header.1)) (λ encryption.
    and_then (value_alone (next_pair comment_key comment_field comment_key_row.name encryption.1)) (λ comment.
    and_then (value_alone (next_block public_lines_key base64_field public_lines_key_row.name comment.1)) (λ public.
    Ok (
      record {
        version = header.0.0;
        algorithm = header.0.1;
        encryption = encryption.0;
        comment = comment.0;
        public_key = public.0;
      },
      public.1,
    )))))

-- what seals the file: its version and encryption say it, and in a sealed file of version 3 five lines more
abbrev pub sealing_in : PpkVersionKey → PpkEncryptionValue → TakesLines PpkSealing
sealing_in version None ls = Ok (Unsealed version, ls)
sealing_in V2 Aes256Cbc ls = Ok (SealedV2, ls)
sealing_in V3 Aes256Cbc ls = and_then (argon2_in ls) (λ params. Ok (SealedV3 params.0, params.1))

-- the file that the lines begin with
unfoldable pub file_in : TakesLines PpkFile
file_in ls =
    and_then (front_in ls) (λ front.
    and_then (sealing_in front.0.version front.0.encryption front.1) (λ sealing.
    and_then (value_alone (next_block private_lines_key base64_field private_lines_key_row.name sealing.1)) (λ private.
    and_then (value_alone (next_pair private_mac_key hex_field private_mac_key_row.name private.1)) (λ mac.
    Ok (
      record {
        sealing = sealing.0;
        algorithm = front.0.algorithm;
        comment = front.0.comment;
        public_key = front.0.public_key;
        private_bytes = private.0;
        mac = mac.0;
      },
      mac.1,
    )))))

-- the error of a line, as a file's
abbrev pub line_error : KvError → PuttyError
line_error kv.EndOfInput = errors.EndOfInput
line_error kv.InvalidKeyValueFormat = errors.InvalidKeyValueFormat
line_error (kv.InvalidInput context expected actual) = errors.InvalidInput context expected actual
line_error kv.TooManyLines = errors.TooManyLines
line_error kv.TooLong = errors.TooLong
line_error kv.NoMemory = errors.NoMemory

-- the fields of a text's lines, or the first reason why there are none
unfoldable pub file_meaning : List ℕ → Result PpkFile PuttyError
file_meaning text = and_then (map_err line_error (file_in (lines text))) (λ found. Ok found.0)
