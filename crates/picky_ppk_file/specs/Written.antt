-- The one text that is written for a PuTTY private key file (PuTTY's manual, Appendix C, "PPK file format").
use Rattle.std.specs.Prelude.{◌&&◌, List, [], ◌∷◌, ◌++◌, ℕ, Bool, length, nat_le, Result, Ok, Err, if◌then◌else◌}
use Rattle.picky_text.specs.Lines.{text_of}
use Rattle.picky_text.specs.declared.lines.LineEnd.{LineEnd}
use Rattle.picky_text.specs.declared.lines.LineEnd.TheVariants.{Lf, CrLf}
use Rattle.picky_kv.specs.Field.{Field}
use Rattle.picky_kv.specs.Keys.{encryption_key, comment_key, public_lines_key, private_lines_key, private_mac_key}
use Rattle.picky_kv.specs.Argon2Keys.{key_derivation_key, argon2_memory_key, argon2_passes_key}
use Rattle.picky_kv.specs.Argon2Keys.{argon2_parallelism_key, argon2_salt_key}
use Rattle.picky_kv.specs.ChoiceFields.{version_field, encryption_field, flavour_field}
use Rattle.picky_kv.specs.declared.PpkVersionKey.{PpkVersionKey}
use Rattle.picky_kv.specs.declared.PpkVersionKey.TheVariants.{V2, V3}
use Rattle.picky_kv.specs.ValueFields.{comment_field, base64_field, hex_field}
use Rattle.picky_kv.specs.AlgorithmField.{algorithm_field}
use Rattle.picky_kv.specs.NumberFields.{u32_field}
use Rattle.picky_kv.specs.Output.{pair_line, block_lines}
use Rattle.picky_keys.specs.LineRefusal.{is_short}
use Rattle.picky_ppk_parts.specs.declared.error.PuttyError.{PuttyError}
use Rattle.picky_ppk_parts.specs.declared.error.PuttyError.TheVariants as errors
use Rattle.picky_ppk_parts.specs.declared.material.Argon2Params.{Argon2Params}
use Rattle.picky_ppk_file.specs.declared.file.PpkSealing.{PpkSealing}
use Rattle.picky_ppk_file.specs.declared.file.PpkSealing.TheVariants.{Unsealed, SealedV2, SealedV3}
use Rattle.picky_ppk_file.specs.declared.file.PpkFile.{PpkFile}
use Rattle.picky_ppk_file.specs.File.{version_of, encryption_of}

-- the line of a key and a value, each as it is written
abbrev pub line_under : {K V : Type 0} → Field K → Field V → K → V → List ℕ
line_under key value k v = pair_line (key.spelling k) (value.spelling v)

-- the lines of a block of bytes
abbrev pub rows_under : {K : Type 0} → Field K → K → List ℕ → List (List ℕ)
rows_under key k bytes = block_lines (key.spelling k) (base64_field.spelling bytes)

-- the lines of a derivation by Argon2
unfoldable pub argon2_lines : Argon2Params → List (List ℕ)
argon2_lines params =
    line_under key_derivation_key flavour_field (record {}) params.flavor
    ∷ line_under argon2_memory_key u32_field (record {}) params.memory
    ∷ line_under argon2_passes_key u32_field (record {}) params.passes
    ∷ line_under argon2_parallelism_key u32_field (record {}) params.parallelism
    ∷ line_under argon2_salt_key hex_field (record {}) params.salt ∷ []

abbrev pub sealing_lines : PpkSealing → List (List ℕ)
sealing_lines (Unsealed version) = []
sealing_lines SealedV2 = []
sealing_lines (SealedV3 params) = argon2_lines params

-- the lines of a file
unfoldable pub file_lines : PpkFile → List (List ℕ)
file_lines f =
    line_under version_field algorithm_field (version_of f.sealing) f.algorithm
    ∷ line_under encryption_key encryption_field (record {}) (encryption_of f.sealing)
    ∷ line_under comment_key comment_field (record {}) f.comment
    ∷ rows_under public_lines_key (record {}) f.public_key
    ++ sealing_lines f.sealing
    ++ rows_under private_lines_key (record {}) f.private_bytes
    ++ line_under private_mac_key hex_field (record {}) f.mac ∷ []

-- CR LF ends the lines of version 2, LF those of version 3
abbrev pub line_end_of : PpkVersionKey → LineEnd
line_end_of V2 = CrLf
line_end_of V3 = Lf

unfoldable pub file_text : PpkFile → List ℕ
file_text f = text_of (line_end_of (version_of f.sealing)) (file_lines f)

-- 65,535 lines of 64 characters have room for the bytes, which are 48 a line
abbrev pub fits_block : List ℕ → Bool
fits_block bytes = nat_le (length bytes) 3145680

-- the text, where a length of the wire can say its length and each block has room
unfoldable pub file_spelled : PpkFile → Result (List ℕ) PuttyError
file_spelled f =
    if is_short (file_text f)
    then (if fits_block f.public_key && fits_block f.private_bytes then Ok (file_text f) else Err errors.TooManyLines)
    else Err errors.TooLong
