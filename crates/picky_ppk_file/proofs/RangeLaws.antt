-- The fields that a text of bytes has are in their ranges.
use Rattle.std.proofs.Common.{◌≡◌, ◌^◌, ◌<◌, ℕ, List, ◌++◌, codes, length, false, Some, Ok, sym, subst, arith}
use Rattle.std.proofs.lemmas.Bool.Decides.{nat_tests}
use Rattle.std.specs.{Result.{result_ok}, Prelude.{Result, Err}}
use Rattle.hex.specs.Hex.{decode_of}
use Rattle.hex.proofs.HexLemmas.{decode_of-ok}
use Rattle.picky_wire_base.specs.Numbers.{IsBytes}
use Rattle.picky_text.specs.Base64.{decoded}
use Rattle.picky_text.proofs.{Base64Laws.{decoded_is_bytes}, ListLaws.{all_front, all_back}}
use Rattle.picky_kv.specs.{Field.{Field, field_value}, declared.PpkVersionKey.{PpkVersionKey}}
use Rattle.picky_kv.specs.declared.PpkVersionKey.TheVariants.{V2, V3}
use Rattle.picky_kv.specs.declared.PpkEncryptionValue.{PpkEncryptionValue}
use Rattle.picky_kv.specs.declared.PpkEncryptionValue.TheVariants.{None, Aes256Cbc}
use Rattle.picky_kv.specs.Values.{AreFewBytes, is_long, comment_row, base64_row, hex_row, hex_decoded}
use Rattle.picky_kv.specs.{ValueFields.{comment_field, base64_field, hex_field}, NumberFields.{u32_field}}
use Rattle.picky_kv.specs.{Numbers.{u32_row, number_below}, Parts.{IsPair, IsBlock}, carried.Numbers.{u32_is_narrow}}
use Rattle.picky_kv.proofs.{NumberLemmas.{number_field_is}, LineBytes.{AreBytes, lines_are_bytes, joined_is_bytes}}
use Rattle.picky_ppk_parts.specs.declared.material.Argon2Params.{Argon2Params}
use Rattle.picky_ppk_file.specs.declared.file.PpkSealing.{PpkSealing}
use Rattle.picky_ppk_file.specs.declared.file.PpkSealing.TheVariants.{Unsealed, SealedV2, SealedV3}
use Rattle.picky_ppk_file.specs.{declared.file.PpkFile.{PpkFile}, File.{AreParams, IsSealing, IsFile}}
use Rattle.picky_ppk_file.specs.{FileText.{SaysArgon2, SaysSealing}, FileRefusal.{file_meaning}}
use Rattle.picky_ppk_file.proofs.{LineSteps.{judged_ok}, FileLaws.{meaning_is_said}}
use Rattle.picky_wire_base.proofs.Numbers.{EachByte, each_by_place}

-- ---- what each text gives

not_long : (bytes : List ℕ) → is_long bytes ≡ false → length bytes < 2 ^ 32
not_long bytes short = grind (arith, nat_tests, short)

comment_range : (text v : List ℕ) → field_value comment_field text ≡ Ok v → length v < 2 ^ 32
unfolding comment_field
comment_range text v is = not_long v (judged_ok is_long comment_row.expected text (Some text) v is).1

result_ok_is : {A E : Type 0} (r : Result A E) (v : A) → result_ok r ≡ Some v → r ≡ Ok v
result_ok_is (Ok w) v is = cc is
result_ok_is (Err e) v is = cc is

hex_range : (text v : List ℕ) → field_value hex_field text ≡ Ok v → AreFewBytes v
unfolding hex_field hex_decoded
hex_range text v is =
    let given = judged_ok is_long hex_row.expected text (result_ok (decode_of text)) v is in
    (not_long v given.1, (decode_of-ok text v (result_ok_is (decode_of text) v given.0)).3)

base64_range : (text v : List ℕ) → IsBytes text → field_value base64_field text ≡ Ok v → AreFewBytes v
unfolding base64_field
base64_range text v small is =
    let given = judged_ok is_long base64_row.expected text (decoded text) v is in
    (not_long v given.1, decoded_is_bytes text v small given.0)

u32_range : (text : List ℕ) (n : ℕ) → IsBytes text → field_value u32_field text ≡ Ok n → n < 2 ^ 32
unfolding u32_field
u32_range text n small is =
    let given = judged_ok (λ _. false) u32_row.expected text (number_below (2 ^ 32) text) n is in
    (((number_field_is (2 ^ 32) u32_is_narrow u32_row.expected).reads text n small).0 given.0).below

-- ---- lines of bytes

-- the lines after a pair are bytes, and so is its value's text
pair_bytes : {K V : Type 0} (key : Field K) (value : Field V) (ls : List (List ℕ)) (k : K) (v : V)
    (after : List (List ℕ))
    (is : IsPair key value ls k v after) → AreBytes ls → IsBytes is.value_text × AreBytes after
pair_bytes key value ls k v after is each =
    let all = subst AreBytes is.first each in
    let line = subst EachByte is.parts.joined all.0 in
    let behind = all_back (λ b. b < 256) (is.key_text ++ codes ": ") is.value_text line in
    (each_by_place is.value_text behind, all.1)

-- the lines after a block are bytes, and so is its text
block_bytes : {K V : Type 0} (key : Field K) (value : Field V) (ls : List (List ℕ)) (k : K) (v : V)
    (after : List (List ℕ))
    (is : IsBlock key value ls k v after) → AreBytes ls → IsBytes is.text × AreBytes after
block_bytes key value ls k v after is each =
    let counted = (subst AreBytes is.head.first each).1 in
    let all = subst AreBytes is.joined.split counted in (
      subst IsBytes (sym is.joined.joined) (joined_is_bytes is.joined.block
          (all_front EachByte is.joined.block after all)),
      all_back EachByte is.joined.block after all,
    )

-- ---- the fields

argon2_ranges : (ls : List (List ℕ)) (params : Argon2Params) (after : List (List ℕ)) → SaysArgon2 ls params after
    → AreBytes ls → AreParams params × AreBytes after
argon2_ranges ls params after says each =
    let flavor = pair_bytes _ _ _ _ _ _ says.flavor each in
    let memory = pair_bytes _ _ _ _ _ _ says.memory flavor.1 in
    let passes = pair_bytes _ _ _ _ _ _ says.passes memory.1 in
    let lanes = pair_bytes _ _ _ _ _ _ says.parallelism passes.1 in
    let salt = pair_bytes _ _ _ _ _ _ says.salt lanes.1 in (
      record {
        memory = u32_range says.memory.value_text params.memory memory.0 says.memory.value_is;
        passes = u32_range says.passes.value_text params.passes passes.0 says.passes.value_is;
        parallelism = u32_range says.parallelism.value_text params.parallelism lanes.0 says.parallelism.value_is;
        salt = hex_range says.salt.value_text params.salt says.salt.value_is;
      },
      salt.1,
    )

sealing_ranges : (version : PpkVersionKey) (encryption : PpkEncryptionValue) (ls : List (List ℕ)) (sealing : PpkSealing)
    (after : List (List ℕ)) → SaysSealing version encryption ls sealing after → AreBytes ls
    → IsSealing sealing × AreBytes after
sealing_ranges V2 None ls (Unsealed of) after says each = (tt, rw says.1 each)
sealing_ranges V2 None ls SealedV2 after says each = absurd says
sealing_ranges V2 None ls (SealedV3 params) after says each = absurd says
sealing_ranges V2 Aes256Cbc ls (Unsealed of) after says each = absurd says
sealing_ranges V2 Aes256Cbc ls SealedV2 after says each = (tt, rw says each)
sealing_ranges V2 Aes256Cbc ls (SealedV3 params) after says each = absurd says
sealing_ranges V3 None ls (Unsealed of) after says each = (tt, rw says.1 each)
sealing_ranges V3 None ls SealedV2 after says each = absurd says
sealing_ranges V3 None ls (SealedV3 params) after says each = absurd says
sealing_ranges V3 Aes256Cbc ls (Unsealed of) after says each = absurd says
sealing_ranges V3 Aes256Cbc ls SealedV2 after says each = absurd says
sealing_ranges V3 Aes256Cbc ls (SealedV3 params) after says each = argon2_ranges ls params after says each

-- The fields that a text of bytes has are in their ranges.
pub fields_in_ranges : (text : List ℕ) (f : PpkFile) → IsBytes text → file_meaning text ≡ Ok f → IsFile f
fields_in_ranges text f small is =
    let says = meaning_is_said text f is in
    let header = pair_bytes _ _ _ _ _ _ says.header (lines_are_bytes text small) in
    let encryption = pair_bytes _ _ _ _ _ _ says.encryption header.1 in
    let comment = pair_bytes _ _ _ _ _ _ says.comment encryption.1 in
    let public = block_bytes _ _ _ _ _ _ says.public_key comment.1 in
    let sealing = sealing_ranges says.version says.encryption_value says.after_public f.sealing says.after_sealing
    says.sealing public.1 in
    let private = block_bytes _ _ _ _ _ _ says.private_bytes sealing.1 in
    record {
      sealing = sealing.0;
      comment = comment_range says.comment.value_text f.comment says.comment.value_is;
      public_key = base64_range says.public_key.text f.public_key public.0 says.public_key.value_is;
      private_bytes = base64_range says.private_bytes.text f.private_bytes private.0 says.private_bytes.value_is;
      mac = hex_range says.mac.value_text f.mac says.mac.value_is;
    }
