-- What the parts of a file say is what is read of them.
use Rattle.std.proofs.Common.{◌≡◌, ℕ, List, Result, Ok, refl, sym}
use Rattle.picky_wire_base.specs.carried.Outcome.{and_then_ok, same_pair}
use Rattle.picky_kv.specs.Keys.{encryption_key, comment_key, public_lines_key}
use Rattle.picky_kv.specs.Keys.{encryption_key_row, comment_key_row, public_lines_key_row}
use Rattle.picky_kv.specs.Argon2Keys.{key_derivation_key, argon2_memory_key, argon2_passes_key}
use Rattle.picky_kv.specs.Argon2Keys.{argon2_parallelism_key, argon2_salt_key, key_derivation_key_row}
use Rattle.picky_kv.specs.Argon2Keys.{argon2_memory_key_row, argon2_passes_key_row, argon2_parallelism_key_row}
use Rattle.picky_kv.specs.Argon2Keys.{argon2_salt_key_row}
use Rattle.picky_kv.specs.Choices.{version_row}
use Rattle.picky_kv.specs.ChoiceFields.{version_field, encryption_field, flavour_field}
use Rattle.picky_kv.specs.declared.PpkVersionKey.{PpkVersionKey}
use Rattle.picky_kv.specs.declared.PpkVersionKey.TheVariants.{V2, V3}
use Rattle.picky_kv.specs.declared.PpkEncryptionValue.{PpkEncryptionValue}
use Rattle.picky_kv.specs.declared.PpkEncryptionValue.TheVariants.{None, Aes256Cbc}
use Rattle.picky_kv.specs.ValueFields.{comment_field, base64_field, hex_field}
use Rattle.picky_kv.specs.AlgorithmField.{algorithm_field}
use Rattle.picky_kv.specs.NumberFields.{u32_field}
use Rattle.picky_kv.specs.Lines.{next_pair, next_block, value_alone}
use Rattle.picky_kv.specs.Parts.{IsPair, IsBlock}
use Rattle.picky_kv.specs.declared.error.KvError.{KvError}
use Rattle.picky_kv.proofs.PartLemmas.{pairs_are_read}
use Rattle.picky_ppk_parts.specs.declared.material.Argon2Params.{Argon2Params}
use Rattle.picky_ppk_file.specs.declared.file.PpkSealing.{PpkSealing}
use Rattle.picky_ppk_file.specs.declared.file.PpkSealing.TheVariants.{Unsealed, SealedV2, SealedV3}
use Rattle.picky_ppk_file.specs.declared.reading.Front.{Front}
use Rattle.picky_ppk_file.specs.FileText.{SaysArgon2, SaysSealing}
use Rattle.picky_ppk_file.specs.FileRefusal.{argon2_in, front_in, sealing_in}
use Rattle.picky_ppk_file.proofs.LineSteps.{then_ok, said_of, pair_says, pair_means, block_says, block_means}

-- a sealing that is read, and the lines after it
abbrev read_as : PpkSealing → List (List ℕ) → Result (PpkSealing × List (List ℕ)) KvError
read_as sealing after = Ok (sealing, after)

-- ---- a derivation by Argon2

pub argon2_says : (ls : List (List ℕ)) (params : Argon2Params) (after : List (List ℕ))
    → argon2_in ls ≡ Ok (params, after) → SaysArgon2 ls params after
unfolding argon2_in
argon2_says ls params after is =
    let flavor = and_then_ok (value_alone (next_pair key_derivation_key flavour_field key_derivation_key_row.name ls)) _
    (params, after) is in
    let memory = and_then_ok (value_alone (next_pair argon2_memory_key u32_field argon2_memory_key_row.name flavor.0.1))
    _ (params, after) flavor.2 in
    let passes = and_then_ok (value_alone (next_pair argon2_passes_key u32_field argon2_passes_key_row.name memory.0.1))
    _ (params, after) memory.2 in
    let lanes = and_then_ok (value_alone (next_pair argon2_parallelism_key u32_field argon2_parallelism_key_row.name
    passes.0.1)) _ (params, after) passes.2 in
    let salt = and_then_ok (value_alone (next_pair argon2_salt_key hex_field argon2_salt_key_row.name lanes.0.1)) _
    (params, after) lanes.2 in
    let read : Argon2Params = record {
      flavor = flavor.0.0;
      memory = memory.0.0;
      passes = passes.0.0;
      parallelism = lanes.0.0;
      salt = salt.0.0;
    } in
    let same = same_pair (Ok (read, salt.0.1)) read params salt.0.1 after refl salt.2 in
    said_of (SaysArgon2 ls) read params salt.0.1 after same.0 same.1 (record {
      after_flavor = flavor.0.1;
      after_memory = memory.0.1;
      after_passes = passes.0.1;
      after_parallelism = lanes.0.1;
      flavor = (pair_says key_derivation_key flavour_field key_derivation_key_row.name ls flavor.0 flavor.1).1;
      memory = (pair_says argon2_memory_key u32_field argon2_memory_key_row.name flavor.0.1 memory.0 memory.1).1;
      passes = (pair_says argon2_passes_key u32_field argon2_passes_key_row.name memory.0.1 passes.0 passes.1).1;
      parallelism = (pair_says argon2_parallelism_key u32_field argon2_parallelism_key_row.name passes.0.1 lanes.0
          lanes.1).1;
      salt = (pair_says argon2_salt_key hex_field argon2_salt_key_row.name lanes.0.1 salt.0 salt.1).1;
    })

pub argon2_means : (ls : List (List ℕ)) (params : Argon2Params) (after : List (List ℕ))
    → SaysArgon2 ls params after → argon2_in ls ≡ Ok (params, after)
unfolding argon2_in
argon2_means ls params after says =
    then_ok _ _ (params.flavor, says.after_flavor) _
    (pair_means key_derivation_key flavour_field key_derivation_key_row.name ls (record {}) params.flavor
    says.after_flavor says.flavor)
    (then_ok _ _ (params.memory, says.after_memory) _
    (pair_means argon2_memory_key u32_field argon2_memory_key_row.name says.after_flavor (record {}) params.memory
    says.after_memory says.memory)
    (then_ok _ _ (params.passes, says.after_passes) _
    (pair_means argon2_passes_key u32_field argon2_passes_key_row.name says.after_memory (record {}) params.passes
    says.after_passes says.passes)
    (then_ok _ _ (params.parallelism, says.after_parallelism) _
    (pair_means argon2_parallelism_key u32_field argon2_parallelism_key_row.name says.after_passes (record {})
    params.parallelism says.after_parallelism says.parallelism)
    (then_ok _ _ (params.salt, after) _
    (pair_means argon2_salt_key hex_field argon2_salt_key_row.name says.after_parallelism (record {}) params.salt after
    says.salt)
    refl))))

-- ---- what seals the file

-- an answer has one sealing
same_sealing : (x y : PpkSealing) (ls after : List (List ℕ)) → read_as x ls ≡ read_as y after → x ≡ y
same_sealing x y ls after is = (same_pair (read_as x ls) x y ls after refl is).0

pub sealing_says : (version : PpkVersionKey) (encryption : PpkEncryptionValue) (ls : List (List ℕ))
    (sealing : PpkSealing)
    (after : List (List ℕ)) → sealing_in version encryption ls ≡ Ok (sealing, after)
    → SaysSealing version encryption ls sealing after
sealing_says V2 None ls (Unsealed of) after is =
    let same = same_pair (Ok (Unsealed V2, ls)) (Unsealed V2) (Unsealed of) ls after refl is in
    (cc same.0, sym same.1)
sealing_says V2 None ls SealedV2 after is = cc (same_sealing (Unsealed V2) SealedV2 ls after is)
sealing_says V2 None ls (SealedV3 params) after is = cc (same_sealing (Unsealed V2) (SealedV3 params) ls after is)
sealing_says V2 Aes256Cbc ls (Unsealed of) after is = cc (same_sealing SealedV2 (Unsealed of) ls after is)
sealing_says V2 Aes256Cbc ls SealedV2 after is =
    sym (same_pair (Ok (SealedV2, ls)) SealedV2 SealedV2 ls after refl is).1
sealing_says V2 Aes256Cbc ls (SealedV3 params) after is = cc (same_sealing SealedV2 (SealedV3 params) ls after is)
sealing_says V3 None ls (Unsealed of) after is =
    let same = same_pair (Ok (Unsealed V3, ls)) (Unsealed V3) (Unsealed of) ls after refl is in
    (cc same.0, sym same.1)
sealing_says V3 None ls SealedV2 after is = cc (same_sealing (Unsealed V3) SealedV2 ls after is)
sealing_says V3 None ls (SealedV3 params) after is = cc (same_sealing (Unsealed V3) (SealedV3 params) ls after is)
sealing_says V3 Aes256Cbc ls (Unsealed of) after is =
    let read = and_then_ok (argon2_in ls) (λ params. Ok (SealedV3 params.0, params.1)) (Unsealed of, after) is in
    cc (same_sealing (SealedV3 read.0.0) (Unsealed of) read.0.1 after read.2)
sealing_says V3 Aes256Cbc ls SealedV2 after is =
    let read = and_then_ok (argon2_in ls) (λ params. Ok (SealedV3 params.0, params.1)) (SealedV2, after) is in
    cc (same_sealing (SealedV3 read.0.0) SealedV2 read.0.1 after read.2)
sealing_says V3 Aes256Cbc ls (SealedV3 params) after is =
    let read = and_then_ok (argon2_in ls) (λ params. Ok (SealedV3 params.0, params.1)) (SealedV3 params, after) is in
    let same = same_pair (Ok (SealedV3 read.0.0, read.0.1)) (SealedV3 read.0.0) (SealedV3 params) read.0.1 after refl
    read.2 in
    let params_same : read.0.0 ≡ params = cc same.0 in
    said_of (SaysArgon2 ls) read.0.0 params read.0.1 after params_same same.1 (argon2_says ls read.0.0 read.0.1 read.1)

pub sealing_means : (version : PpkVersionKey) (encryption : PpkEncryptionValue) (ls : List (List ℕ))
    (sealing : PpkSealing)
    (after : List (List ℕ)) → SaysSealing version encryption ls sealing after
    → sealing_in version encryption ls ≡ Ok (sealing, after)
sealing_means V2 None ls (Unsealed of) after says = rw (says.0, says.1) refl
sealing_means V2 None ls SealedV2 after says = absurd says
sealing_means V2 None ls (SealedV3 params) after says = absurd says
sealing_means V2 Aes256Cbc ls (Unsealed of) after says = absurd says
sealing_means V2 Aes256Cbc ls SealedV2 after says = rw says refl
sealing_means V2 Aes256Cbc ls (SealedV3 params) after says = absurd says
sealing_means V3 None ls (Unsealed of) after says = rw (says.0, says.1) refl
sealing_means V3 None ls SealedV2 after says = absurd says
sealing_means V3 None ls (SealedV3 params) after says = absurd says
sealing_means V3 Aes256Cbc ls (Unsealed of) after says = absurd says
sealing_means V3 Aes256Cbc ls SealedV2 after says = absurd says
sealing_means V3 Aes256Cbc ls (SealedV3 params) after says =
    then_ok (argon2_in ls) _ (params, after) _ (argon2_means ls params after says) refl

-- ---- the first lines

-- what the first lines of a file say
pub record SaysFront (ls : List (List ℕ)) (front : Front) (after : List (List ℕ)) : Type 0 where
  pub after_header : List (List ℕ)
  pub after_encryption : List (List ℕ)
  pub after_comment : List (List ℕ)
  pub header : IsPair version_field algorithm_field ls front.version front.algorithm after_header
  pub encryption : IsPair encryption_key encryption_field after_header (record {}) front.encryption after_encryption
  pub comment : IsPair comment_key comment_field after_encryption (record {}) front.comment after_comment
  pub public_key : IsBlock public_lines_key base64_field after_comment (record {}) front.public_key after

pub front_says : (ls : List (List ℕ)) (front : Front) (after : List (List ℕ))
    → front_in ls ≡ Ok (front, after) → SaysFront ls front after
unfolding front_in
front_says ls front after is =
    let header = and_then_ok (next_pair version_field algorithm_field version_row.name ls) _ (front, after) is in
    let encryption = and_then_ok (value_alone (next_pair encryption_key encryption_field encryption_key_row.name
    header.0.1)) _ (front, after) header.2 in
    let comment = and_then_ok (value_alone (next_pair comment_key comment_field comment_key_row.name encryption.0.1)) _
    (front, after) encryption.2 in
    let public = and_then_ok (value_alone (next_block public_lines_key base64_field public_lines_key_row.name
    comment.0.1)) _ (front, after) comment.2 in
    let read : Front = record {
      version = header.0.0.0;
      algorithm = header.0.0.1;
      encryption = encryption.0.0;
      comment = comment.0.0;
      public_key = public.0.0;
    } in
    let same = same_pair (Ok (read, public.0.1)) read front public.0.1 after refl public.2 in
    said_of (SaysFront ls) read front public.0.1 after same.0 same.1 (record {
      after_header = header.0.1;
      after_encryption = encryption.0.1;
      after_comment = comment.0.1;
      header = (pairs_are_read version_field algorithm_field version_row.name ls header.0.0.0 header.0.0.1 header.0.1).0
          header.1;
      encryption = (pair_says encryption_key encryption_field encryption_key_row.name header.0.1 encryption.0
          encryption.1).1;
      comment = (pair_says comment_key comment_field comment_key_row.name encryption.0.1 comment.0 comment.1).1;
      public_key = (block_says public_lines_key base64_field public_lines_key_row.name comment.0.1 public.0 public.1).1;
    })

pub front_means : (ls : List (List ℕ)) (front : Front) (after : List (List ℕ))
    → SaysFront ls front after → front_in ls ≡ Ok (front, after)
unfolding front_in
front_means ls front after says =
    then_ok _ _ ((front.version, front.algorithm), says.after_header) _
    ((pairs_are_read version_field algorithm_field version_row.name ls front.version front.algorithm
    says.after_header).1 says.header)
    (then_ok _ _ (front.encryption, says.after_encryption) _
    (pair_means encryption_key encryption_field encryption_key_row.name says.after_header (record {}) front.encryption
    says.after_encryption says.encryption)
    (then_ok _ _ (front.comment, says.after_comment) _
    (pair_means comment_key comment_field comment_key_row.name says.after_encryption (record {}) front.comment
    says.after_comment says.comment)
    (then_ok _ _ (front.public_key, after) _
    (block_means public_lines_key base64_field public_lines_key_row.name says.after_comment (record {}) front.public_key
    after says.public_key)
    refl)))
