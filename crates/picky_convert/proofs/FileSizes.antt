-- How long PuTTY's file, a public key line and PuTTY's public key are at most of a short blob, short private bytes and a short
-- comment.
use Rattle.std.proofs.Common.{◌≡◌, ◌≤◌, ◌+◌, ◌*◌, ℕ, List, [], ◌∷◌, ◌++◌, length, codes, refl, arith}
use Rattle.std.proofs.lemmas.List.{length-append}
use Rattle.std.specs.Fmt.{decimal}
use Rattle.hex.specs.Hex.{lower_digits}
use Rattle.hex.proofs.HexLemmas.{length-encode_with}
use Rattle.picky_keys.specs.{KeyNames.{kind_name}, declared.key.SshPublicKey.{SshPublicKey}, Blob.{blob_of}}
use Rattle.picky_keys.specs.{Key.{kind_of}, Line.{line_of as key_line}}
use Rattle.picky_text.specs.{Base64.{base64_of}, Quote.{quote}, Rows.{rows_of}}
use Rattle.picky_text.specs.declared.lines.LineEnd.TheVariants.{CrLf}
use Rattle.picky_kv.specs.ChoiceFields.{encryption_field, version_field}
use Rattle.picky_kv.specs.Keys.{comment_key, encryption_key, private_lines_key, private_mac_key, public_lines_key}
use Rattle.picky_kv.specs.{declared.PpkEncryptionValue.{PpkEncryptionValue}, declared.PpkVersionKey.{PpkVersionKey}}
use Rattle.picky_kv.specs.declared.PpkVersionKey.TheVariants.{V2, V3}
use Rattle.picky_kv.specs.{ValueFields.{base64_field, comment_field, hex_field}, AlgorithmField.{algorithm_field}}
use Rattle.picky_kv.specs.Output.{block_lines, pair_line}
use Rattle.picky_kv.specs.declared.algorithm.PpkKeyAlgorithmValue.{PpkKeyAlgorithmValue}
use Rattle.picky_kv.specs.declared.PpkEncryptionValue.TheVariants as encryptions
use Rattle.picky_kv.specs.declared.algorithm.PpkKeyAlgorithmValue.TheVariants as algorithms
use Rattle.picky_ppk_file.specs.PuttyPublic.{comment_line, comment_start, putty_footer, putty_header, putty_public}
use Rattle.picky_ppk_file.specs.declared.file.PpkSealing.TheVariants.{Unsealed}
use Rattle.picky_ppk_file.specs.Written.{line_end_of, file_lines, file_text, line_under, rows_under}
use Rattle.picky_convert.proofs.BlobSizes.{name_size}
use Rattle.picky_convert.proofs.TextSizes.{base64_size, decimal_size, lines_size, lines_size-append, quote_size, rows_count}
use Rattle.picky_convert.proofs.TextSizes.{rows_size, text_size}

-- ---- lines of a file

pair_size : (key value : List ℕ) → length (pair_line key value) ≡ length key + length value + 2
pair_size key value = omega (arith, length-append (key ++ codes ": ") value, length-append key (codes ": "))

block_size : (key value : List ℕ) → length value ≤ 4000 → lines_size (block_lines key value) ≤ length key + 4 * length value + 5
block_size key value short =
    let count = length (rows_of value) in
    omega (
      arith,
      short,
      pair_size key (decimal count),
      decimal_size count (omega (arith, short, rows_count value)),
      rows_count value,
      rows_size value,
    )

base64_block : (key bytes : List ℕ) → length bytes ≤ 1100 → lines_size (block_lines key (base64_field.spelling bytes)) ≤ length key + 10000
unfolding base64_field
base64_block key bytes short =
    omega (arith, short, base64_size bytes, block_size key (base64_of bytes) (omega (arith, short, base64_size bytes)))

-- ---- words of a file

version_size : (version : PpkVersionKey) → length (version_field.spelling version) ≤ 64
unfolding version_field
version_size V2 = omega arith
version_size V3 = omega arith

algorithm_size : (algorithm : PpkKeyAlgorithmValue) → length (algorithm_field.spelling algorithm) ≤ 64
unfolding algorithm_field
algorithm_size algorithms.Rsa = omega arith
algorithm_size algorithms.Dss = omega arith
algorithm_size algorithms.EcdsaSha2Nistp256 = omega arith
algorithm_size algorithms.EcdsaSha2Nistp384 = omega arith
algorithm_size algorithms.EcdsaSha2Nistp521 = omega arith
algorithm_size algorithms.Ed25519 = omega arith
algorithm_size algorithms.Ed448 = omega arith

encryption_size : (encryption : PpkEncryptionValue) → length (encryption_field.spelling encryption) ≤ 64
unfolding encryption_field
encryption_size encryptions.None = omega arith
encryption_size encryptions.Aes256Cbc = omega arith

encryption_key_size : length (encryption_key.spelling (record {})) ≤ 64
unfolding encryption_key
encryption_key_size = omega arith

comment_key_size : length (comment_key.spelling (record {})) ≤ 64
unfolding comment_key
comment_key_size = omega arith

public_key_size : length (public_lines_key.spelling (record {})) ≤ 64
unfolding public_lines_key
public_key_size = omega arith

private_key_size : length (private_lines_key.spelling (record {})) ≤ 64
unfolding private_lines_key
private_key_size = omega arith

mac_key_size : length (private_mac_key.spelling (record {})) ≤ 64
unfolding private_mac_key
mac_key_size = omega arith

comment_is_itself : (comment : List ℕ) → length (comment_field.spelling comment) ≡ length comment
unfolding comment_field
comment_is_itself comment = refl

hex_size : (bytes : List ℕ) → length (hex_field.spelling bytes) ≡ 2 * length bytes
unfolding hex_field
hex_size bytes = omega (arith, length-encode_with lower_digits bytes)

-- ---- a file

pub file_size : (version : PpkVersionKey) (algorithm : PpkKeyAlgorithmValue) (comment public private mac : List ℕ)
    → length comment ≤ 9 → length public ≤ 1100 → length private ≤ 1100 → length mac ≤ 64
    → length (file_text (record { sealing = Unsealed version; algorithm = algorithm; comment = comment; public_key = public; private_bytes = private; mac = mac }))
    ≤ 100000
unfolding file_text file_lines
file_size version algorithm comment public private mac few_comment few_public few_private few_mac =
    let first = line_under version_field algorithm_field version algorithm in
    let second = line_under encryption_key encryption_field (record {}) encryptions.None in
    let third = line_under comment_key comment_field (record {}) comment in
    let rows = rows_under public_lines_key (record {}) public in
    let front : List (List ℕ) = first ∷ second ∷ third ∷ rows in
    let more = rows_under private_lines_key (record {}) private in
    let last = line_under private_mac_key hex_field (record {}) mac in
    omega (
      arith,
      few_comment,
      few_mac,
      text_size (line_end_of version) (((front ++ []) ++ more) ++ last ∷ []),
      lines_size-append ((front ++ []) ++ more) (last ∷ []),
      lines_size-append (front ++ []) more,
      lines_size-append front [],
      pair_size (version_field.spelling version) (algorithm_field.spelling algorithm),
      version_size version,
      algorithm_size algorithm,
      pair_size (encryption_key.spelling (record {})) (encryption_field.spelling encryptions.None),
      encryption_key_size,
      encryption_size encryptions.None,
      pair_size (comment_key.spelling (record {})) (comment_field.spelling comment),
      comment_key_size,
      comment_is_itself comment,
      base64_block (public_lines_key.spelling (record {})) public few_public,
      public_key_size,
      base64_block (private_lines_key.spelling (record {})) private few_private,
      private_key_size,
      pair_size (private_mac_key.spelling (record {})) (hex_field.spelling mac),
      mac_key_size,
      hex_size mac,
    )

-- ---- public keys

pub line_size : (key : SshPublicKey) → length (blob_of key.inner_key) ≤ 1100 → length key.comment ≤ 9
    → length (key_line key) ≤ 100000
unfolding key_line
line_size key short few =
    let name = kind_name (kind_of key.inner_key) in
    let body = base64_of (blob_of key.inner_key) in
    omega (
      arith,
      short,
      few,
      length-append (name ++ 32 ∷ body ++ 32 ∷ key.comment) (13 ∷ 10 ∷ []),
      length-append (name ++ 32 ∷ body) (32 ∷ key.comment),
      length-append name (32 ∷ body),
      name_size (kind_of key.inner_key),
      base64_size (blob_of key.inner_key),
    )

comment_line_size : (comment : List ℕ) → length comment ≤ 9 → length (comment_line comment) ≤ 100
unfolding comment_line comment_start
comment_line_size comment few =
    omega (
      arith,
      few,
      length-append (codes "Comment: " ++ 34 ∷ quote comment) (34 ∷ []),
      length-append (codes "Comment: ") (34 ∷ quote comment),
      quote_size comment,
    )

frame_size : length putty_header + length putty_footer ≤ 100
unfolding putty_header putty_footer
frame_size = omega arith

pub putty_size : (blob comment : List ℕ) → length blob ≤ 1100 → length comment ≤ 9
    → length (putty_public blob comment) ≤ 100000
unfolding putty_public
putty_size blob comment short few =
    let rows = rows_of (base64_of blob) in
    let front : List (List ℕ) = putty_header ∷ comment_line comment ∷ rows in
    omega (
      arith,
      short,
      text_size CrLf (front ++ putty_footer ∷ []),
      lines_size-append front (putty_footer ∷ []),
      comment_line_size comment few,
      frame_size,
      rows_size (base64_of blob),
      base64_size blob,
    )
