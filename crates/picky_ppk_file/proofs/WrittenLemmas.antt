-- The lines of a derivation and of a file, written one after another.
use Rattle.std.proofs.Common.{◌≡◌, ℕ, List, [], ◌∷◌, ◌++◌, codes, refl, ◌∙◌}
use Rattle.std.specs.Fmt.{decimal}
use Rattle.hex.specs.Hex.{encode_lower}
use Rattle.picky_text.specs.Base64.{base64_of}
use Rattle.picky_text.specs.Lines.{text_of}
use Rattle.picky_text.specs.declared.lines.LineEnd.{LineEnd}
use Rattle.picky_kv.specs.Keys.{encryption_key, comment_key, public_lines_key, private_lines_key, private_mac_key}
use Rattle.picky_kv.specs.Argon2Keys.{key_derivation_key, argon2_memory_key, argon2_passes_key}
use Rattle.picky_kv.specs.Argon2Keys.{argon2_parallelism_key, argon2_salt_key}
use Rattle.picky_kv.specs.ChoiceFields.{version_field, encryption_field, flavour_field}
use Rattle.picky_kv.specs.declared.PpkVersionKey.{PpkVersionKey}
use Rattle.picky_kv.specs.declared.PpkEncryptionValue.{PpkEncryptionValue}
use Rattle.picky_kv.specs.ValueFields.{comment_field, base64_field, hex_field}
use Rattle.picky_kv.specs.AlgorithmField.{algorithm_field}
use Rattle.picky_kv.specs.NumberFields.{u32_field}
use Rattle.picky_kv.specs.Output.{pair_line, block_lines}
use Rattle.picky_ppk_parts.specs.declared.material.Argon2Params.{Argon2Params}
use Rattle.picky_ppk_file.specs.declared.file.PpkFile.{PpkFile}
use Rattle.picky_ppk_file.specs.File.{version_of, encryption_of}
use Rattle.picky_ppk_file.specs.Written.{argon2_lines, sealing_lines, file_lines, line_end_of, file_text}
use Rattle.picky_ppk_file.proofs.WriteLemmas.{lines_written}

-- one line alone
abbrev one : List ℕ → List ℕ → List (List ℕ)
one key value = pair_line key value ∷ []

-- The five lines of a derivation.
pub argon2_written : (end : LineEnd) (params : Argon2Params) (flavor salt t0 t1 t2 t3 t4 t5 : List ℕ)
    → flavor ≡ flavour_field.spelling params.flavor → salt ≡ params.salt
    → t1 ≡ t0 ++ text_of end (one (codes "Key-Derivation") flavor)
    → t2 ≡ t1 ++ text_of end (one (codes "Argon2-Memory") (decimal params.memory))
    → t3 ≡ t2 ++ text_of end (one (codes "Argon2-Passes") (decimal params.passes))
    → t4 ≡ t3 ++ text_of end (one (codes "Argon2-Parallelism") (decimal params.parallelism))
    → t5 ≡ t4 ++ text_of end (one (codes "Argon2-Salt") (encode_lower salt))
    → t5 ≡ t0 ++ text_of end (argon2_lines params)
unfolding argon2_lines key_derivation_key argon2_memory_key argon2_passes_key argon2_parallelism_key argon2_salt_key
    flavour_field u32_field hex_field
argon2_written end params flavor salt t0 t1 t2 t3 t4 t5 flavor_is salt_is p1 p2 p3 p4 p5 =
    let l1 : List (List ℕ) = one (codes "Key-Derivation") flavor in
    let l2 : List (List ℕ) = one (codes "Argon2-Memory") (decimal params.memory) in
    let l3 : List (List ℕ) = one (codes "Argon2-Passes") (decimal params.passes) in
    let l4 : List (List ℕ) = one (codes "Argon2-Parallelism") (decimal params.parallelism) in
    let l5 : List (List ℕ) = one (codes "Argon2-Salt") (encode_lower salt) in
    let q2 = lines_written end l1 l2 t0 t1 t2 p1 p2 in
    let q3 = lines_written end (l1 ++ l2) l3 t0 t2 t3 q2 p3 in
    let q4 = lines_written end (l1 ++ l2 ++ l3) l4 t0 t3 t4 q3 p4 in
    lines_written end (l1 ++ l2 ++ l3 ++ l4) l5 t0 t4 t5 q4 p5 ∙ rw (flavor_is, salt_is) refl

-- The lines of a file.
pub file_written : (f : PpkFile) (end : LineEnd) (version : PpkVersionKey) (encryption : PpkEncryptionValue)
    (header algorithm named comment public private mac t0 t1 t2 t3 t4 t5 t6 t7 : List ℕ)
    → end ≡ line_end_of version → version ≡ version_of f.sealing → encryption ≡ encryption_of f.sealing
    → header ≡ version_field.spelling version → algorithm ≡ algorithm_field.spelling f.algorithm
    → named ≡ encryption_field.spelling encryption → comment ≡ f.comment → public ≡ f.public_key
    → private ≡ f.private_bytes → mac ≡ f.mac
    → t0 ≡ [] → t1 ≡ t0 ++ text_of end (one header algorithm)
    → t2 ≡ t1 ++ text_of end (one (codes "Encryption") named)
    → t3 ≡ t2 ++ text_of end (one (codes "Comment") comment)
    → t4 ≡ t3 ++ text_of end (block_lines (codes "Public-Lines") (base64_of public))
    → t5 ≡ t4 ++ text_of end (sealing_lines f.sealing)
    → t6 ≡ t5 ++ text_of end (block_lines (codes "Private-Lines") (base64_of private))
    → t7 ≡ t6 ++ text_of end (one (codes "Private-MAC") (encode_lower mac))
    → t7 ≡ file_text f
unfolding file_text file_lines encryption_key comment_key public_lines_key private_lines_key private_mac_key
    comment_field base64_field hex_field
file_written f end version encryption header algorithm named comment public private mac t0 t1 t2 t3 t4 t5 t6 t7
    end_is version_is encryption_is header_is algorithm_is named_is comment_is public_is private_is mac_is p0 p1 p2 p3
    p4 p5 p6 p7 =
    let l1 : List (List ℕ) = one header algorithm in
    let l2 : List (List ℕ) = one (codes "Encryption") named in
    let l3 : List (List ℕ) = one (codes "Comment") comment in
    let l4 : List (List ℕ) = block_lines (codes "Public-Lines") (base64_of public) in
    let l5 : List (List ℕ) = sealing_lines f.sealing in
    let l6 : List (List ℕ) = block_lines (codes "Private-Lines") (base64_of private) in
    let l7 : List (List ℕ) = one (codes "Private-MAC") (encode_lower mac) in
    let q2 = lines_written end l1 l2 t0 t1 t2 p1 p2 in
    let q3 = lines_written end (l1 ++ l2) l3 t0 t2 t3 q2 p3 in
    let q4 = lines_written end (l1 ++ l2 ++ l3) l4 t0 t3 t4 q3 p4 in
    let q5 = lines_written end (l1 ++ l2 ++ l3 ++ l4) l5 t0 t4 t5 q4 p5 in
    let q6 = lines_written end (l1 ++ l2 ++ l3 ++ l4 ++ l5) l6 t0 t5 t6 q5 p6 in
    lines_written end (l1 ++ l2 ++ l3 ++ l4 ++ l5 ++ l6) l7 t0 t6 t7 q6 p7
    ∙ rw (
      p0,
      end_is,
      header_is,
      named_is,
      version_is,
      encryption_is,
      algorithm_is,
      comment_is,
      public_is,
      private_is,
      mac_is,
    ) refl
