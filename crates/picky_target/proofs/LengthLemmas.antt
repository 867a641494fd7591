-- How long the text of PuTTY's private key file is.
use Rattle.std.proofs.Common.{◌≡◌, ◌∙◌, ℕ, zero, suc, ◌+◌, ◌*◌, ◌^◌, ◌<◌, ◌≤◌, List, [], ◌∷◌, ◌++◌, length, codes, slice_index}
use Rattle.std.proofs.Common.{ap, refl, sym, arith}
use Rattle.std.proofs.lemmas.Fmt.{decimal_step, decimal_digit, length-decimal-le}
use Rattle.std.proofs.lemmas.List.{length-append, length-replicate}
use Rattle.std.specs.{Fmt.{decimal}, Int.{div_ceil}, List.{concat}}
use Rattle.hex.specs.Hex.{encode_lower}
use Rattle.hex.proofs.HexLemmas.{length-encode_with}
use Rattle.picky_wire_base.specs.{Mpint.{mpint_of}, Wire.{string_of}, Zeros.{without_zeros}}
use Rattle.picky_wire_base.proofs.{MpintLaws.{mpint_of_high, mpint_of_low}, PieceLemmas.{length-string_of}}
use Rattle.picky_text.specs.{Base64.{base64_of}, Lines.{text_of, end_bytes}, Rows.{rows_of}}
use Rattle.picky_text.specs.{declared.lines.LineEnd.{LineEnd}, declared.lines.LineEnd.TheVariants.{Lf, CrLf}}
use Rattle.picky_text.proofs.{Base64Laws.{length_base64}, RowLaws.{rows_of_are_rows}}
use Rattle.picky_kv.specs.AlgorithmField.{algorithm_field}
use Rattle.picky_kv.specs.Argon2Keys.{key_derivation_key, argon2_memory_key, argon2_passes_key, argon2_parallelism_key}
use Rattle.picky_kv.specs.Argon2Keys.{argon2_salt_key}
use Rattle.picky_kv.specs.ChoiceFields.{version_field, encryption_field, flavour_field}
use Rattle.picky_kv.specs.Keys.{encryption_key, comment_key, public_lines_key, private_lines_key, private_mac_key}
use Rattle.picky_kv.specs.{NumberFields.{u32_field}, Output.{pair_line, block_lines}}
use Rattle.picky_kv.specs.ValueFields.{comment_field, base64_field, hex_field}
use Rattle.picky_kv.specs.declared.Argon2FlavourValue.{Argon2FlavourValue}
use Rattle.picky_kv.specs.{declared.PpkEncryptionValue.{PpkEncryptionValue}, declared.PpkVersionKey.{PpkVersionKey}}
use Rattle.picky_kv.specs.declared.PpkVersionKey.TheVariants.{V2, V3}
use Rattle.picky_kv.specs.declared.algorithm.PpkKeyAlgorithmValue.{PpkKeyAlgorithmValue}
use Rattle.picky_kv.specs.declared.Argon2FlavourValue.TheVariants as flavours
use Rattle.picky_kv.specs.declared.PpkEncryptionValue.TheVariants as encryptions
use Rattle.picky_kv.specs.declared.algorithm.PpkKeyAlgorithmValue.TheVariants as algorithms
use Rattle.picky_kv.proofs.WriteLemmas.{length-rows_of}
use Rattle.picky_ppk_parts.specs.declared.config.PpkEncryptionConfig.{PpkEncryptionConfig}
use Rattle.picky_ppk_parts.specs.declared.material.Argon2Params.{Argon2Params}
use Rattle.picky_ppk_file.specs.{declared.file.PpkFile.{PpkFile}, File.{version_of, encryption_of}}
use Rattle.picky_ppk_file.specs.Written.{argon2_lines, line_end_of, file_lines, file_text, sealing_lines}
use Rattle.picky_ppk_file.proofs.TextLemmas.{text_of-append, text_of-nil}
use Rattle.picky_ppk.specs.Sealed.{sealing_under}
use Rattle.picky_target.specs.{Judged.{mac_len}, inner.File.{draft_of}, inner.Lengths.{line_len, block_len}}

-- ---- numbers and words

pub few_digits : (n : ℕ) → n < 2 ^ 64 → length (decimal n) ≤ 20
few_digits n small = length-decimal-le 20 n (omega arith) (omega arith) small

pub ruleset digit_counts = (decimal_digit, decimal_step, length-append, few_digits)

pub end_short : (end : LineEnd) → length (end_bytes end) ≤ 2
end_short Lf = omega arith
end_short CrLf = omega arith

pub version_short : (v : PpkVersionKey) → length (version_field.spelling v) ≤ 32
unfolding version_field
version_short V2 = omega arith
version_short V3 = omega arith

pub algorithm_short : (a : PpkKeyAlgorithmValue) → length (algorithm_field.spelling a) ≤ 32
unfolding algorithm_field
algorithm_short algorithms.Rsa = omega arith
algorithm_short algorithms.Dss = omega arith
algorithm_short algorithms.EcdsaSha2Nistp256 = omega arith
algorithm_short algorithms.EcdsaSha2Nistp384 = omega arith
algorithm_short algorithms.EcdsaSha2Nistp521 = omega arith
algorithm_short algorithms.Ed25519 = omega arith
algorithm_short algorithms.Ed448 = omega arith

pub encryption_short : (e : PpkEncryptionValue) → length (encryption_field.spelling e) ≤ 32
unfolding encryption_field
encryption_short encryptions.None = omega arith
encryption_short encryptions.Aes256Cbc = omega arith

pub flavour_short : (f : Argon2FlavourValue) → length (flavour_field.spelling f) ≤ 32
unfolding flavour_field
flavour_short flavours.Argon2d = omega arith
flavour_short flavours.Argon2i = omega arith
flavour_short flavours.Argon2id = omega arith

-- ---- the fields of numbers

pub high_len : (v : List ℕ) → 128 ≤ slice_index v 0 → length (mpint_of v) ≡ length v + 5
high_len v high = ap length (mpint_of_high v high) ∙ omega (arith, length-string_of (0 ∷ v))

pub low_len : (v : List ℕ) → slice_index v 0 < 128 → length (mpint_of v) ≡ length v + 4
low_len v low = ap length (mpint_of_low v low) ∙ length-string_of v

pub without_zeros_within : (v : List ℕ) → length (without_zeros v) ≤ length v
without_zeros_within [] = omega arith
without_zeros_within (zero ∷ v) = omega (arith, without_zeros_within v)
without_zeros_within (suc b ∷ v) = omega arith

pub string_len : (v : List ℕ) → length (string_of v) ≡ length v + 4
string_len v = length-string_of v

pub ruleset number_fields = (high_len, low_len, without_zeros_within)

-- ---- lines

pub length_none : (end : LineEnd) → length (text_of end []) ≡ 0
length_none end = ap length (text_of-nil end)

-- A line before others.
length_first : (end : LineEnd) (line : List ℕ) (more : List (List ℕ))
    → length (text_of end (line ∷ more)) ≡ length line + length (end_bytes end) + length (text_of end more)
unfolding text_of
length_first end line more = simp length-append

-- Lines before others.
length_more : (end : LineEnd) (a b : List (List ℕ))
    → length (text_of end (a ++ b)) ≡ length (text_of end a) + length (text_of end b)
length_more end a b = ap length (text_of-append end a b) ∙ length-append (text_of end a) (text_of end b)

-- Lines have their bytes, and an end for each.
length_joined : (end : LineEnd) (lines : List (List ℕ))
    → length (text_of end lines) ≡ length (concat lines) + length lines * length (end_bytes end)
length_joined end [] = omega (arith, length_none end)
length_joined end (line ∷ more) =
    omega (arith, length_joined end more, length_first end line more, length-append line (concat more))

-- ---- a block

length_rows : (end : LineEnd) (text : List ℕ)
    → length (text_of end (rows_of text)) ≡ length text + div_ceil (length text) 64 * length (end_bytes end)
length_rows end text =
    length_joined end (rows_of text) ∙ rw ((rows_of_are_rows text).joined, length-rows_of text) refl

length_symbols : (bytes : List ℕ) → length (base64_of bytes) ≡ div_ceil (length bytes) 3 * 4
length_symbols bytes = omega (arith, length_base64 bytes)

-- ---- what seals a file

pub length_argon2 : (end : LineEnd) (params : Argon2Params) → length (text_of end (argon2_lines params))
    ≡ line_len end (codes "Key-Derivation") (length (flavour_field.spelling params.flavor))
    + line_len end (codes "Argon2-Memory") (length (decimal params.memory))
    + line_len end (codes "Argon2-Passes") (length (decimal params.passes))
    + line_len end (codes "Argon2-Parallelism") (length (decimal params.parallelism))
    + line_len end (codes "Argon2-Salt") (2 * length params.salt)
unfolding argon2_lines key_derivation_key argon2_memory_key argon2_passes_key argon2_parallelism_key argon2_salt_key u32_field hex_field
length_argon2 end params = simp (length_first, length_none, length-append, length-encode_with) (omega arith)

pub ruleset sealing_lengths = (flavour_short, length_none, length_argon2)

-- ---- a file

length_parts : (end : LineEnd) (a b c d e : List (List ℕ)) → length (text_of end (a ++ b ++ c ++ d ++ e))
    ≡ length (text_of end a) + length (text_of end b) + length (text_of end c) + length (text_of end d) + length (text_of end e)
length_parts end a b c d e = simp length_more

length_file : (f : PpkFile) → let end = line_end_of (version_of f.sealing) in length (file_text f)
    ≡ line_len end (version_field.spelling (version_of f.sealing)) (length (algorithm_field.spelling f.algorithm))
    + line_len end (codes "Encryption") (length (encryption_field.spelling (encryption_of f.sealing)))
    + line_len end (codes "Comment") (length f.comment)
    + block_len end (codes "Public-Lines") (length f.public_key)
    + length (text_of end (sealing_lines f.sealing))
    + block_len end (codes "Private-Lines") (length f.private_bytes)
    + line_len end (codes "Private-MAC") (2 * length f.mac)
unfolding file_text file_lines encryption_key comment_key public_lines_key private_lines_key private_mac_key comment_field base64_field hex_field
length_file f =
    let version = pair_line (version_field.spelling (version_of f.sealing)) (algorithm_field.spelling f.algorithm) in
    let encryption = pair_line (codes "Encryption") (encryption_field.spelling (encryption_of f.sealing)) in
    let comment = pair_line (codes "Comment") f.comment in
    let mac = pair_line (codes "Private-MAC") (encode_lower f.mac) in
    length_parts (line_end_of (version_of f.sealing)) (version ∷ encryption ∷ comment ∷ [])
    (block_lines (codes "Public-Lines") (base64_of f.public_key)) (sealing_lines f.sealing)
    (block_lines (codes "Private-Lines") (base64_of f.private_bytes)) (mac ∷ [])
    ∙ simp (length_first, length_none, length_rows, length-rows_of, length_symbols, length-append, length-encode_with) (omega arith)

-- Files that differ in their private bytes and MACs alone, and not in how long those are, are alike long.
pub same_length : (f : PpkFile) (private mac : List ℕ) → length private ≡ length f.private_bytes → length mac ≡ length f.mac
    → length (file_text (record f { private_bytes = private; mac = mac })) ≡ length (file_text f)
same_length f private mac bytes macs =
    length_file (record f { private_bytes = private; mac = mac }) ∙ rw (bytes, macs) (sym (length_file f))

-- ---- a file that is to be sealed

pub sealing_version : (version : PpkVersionKey) (config : PpkEncryptionConfig) (salt : List ℕ)
    → version_of (sealing_under version config salt) ≡ version
sealing_version V2 config salt = refl
sealing_version V3 config salt = refl

sealing_encryption : (version : PpkVersionKey) (config : PpkEncryptionConfig) (salt : List ℕ)
    → encryption_of (sealing_under version config salt) ≡ encryptions.Aes256Cbc
sealing_encryption V2 config salt = refl
sealing_encryption V3 config salt = refl

pub length_sealed : (config : PpkEncryptionConfig) (salt padding : List ℕ) (f : PpkFile)
    → let version = version_of f.sealing in let end = line_end_of version in length (file_text (draft_of config salt padding f))
    ≡ line_len end (version_field.spelling version) (length (algorithm_field.spelling f.algorithm))
    + line_len end (codes "Encryption") (length (encryption_field.spelling encryptions.Aes256Cbc))
    + line_len end (codes "Comment") (length f.comment)
    + block_len end (codes "Public-Lines") (length f.public_key)
    + length (text_of end (sealing_lines (sealing_under version config salt)))
    + block_len end (codes "Private-Lines") (length (f.private_bytes ++ padding))
    + line_len end (codes "Private-MAC") (2 * mac_len version)
length_sealed config salt padding f =
    length_file (draft_of config salt padding f) ∙ simp (sealing_version, sealing_encryption, length-replicate)

pub ruleset sealed_lengths = (version_short, algorithm_short, encryption_short, length-append, length_sealed)
