-- What is written of a file is read back.
use Rattle.std.proofs.Common.{◌≡◌, ◌^◌, ◌<◌, ◌&&◌, ℕ, List, [], ◌∷◌, ◌++◌, length, Bool, true, false, Ok, Err, refl, sym, ap}
use Rattle.std.proofs.Common.{◌∙◌, subst, arith}
use Rattle.std.proofs.{lemmas.Bool.{and_parts}, lemmas.Bool.Decides.{nat_tests}, lemmas.List.{append_assoc}}
use Rattle.std.specs.Prelude.{if◌then◌else◌}
use Rattle.picky_wire_base.specs.carried.Outcome.{passed_ok}
use Rattle.picky_text.specs.{Lines.{IsLine}, declared.lines.LineEnd.{LineEnd}}
use Rattle.picky_kv.specs.Keys.{encryption_key, comment_key, public_lines_key, private_lines_key, private_mac_key}
use Rattle.picky_kv.specs.Keys.{encryption_key_row, comment_key_row, public_lines_key_row, private_lines_key_row}
use Rattle.picky_kv.specs.Keys.{private_mac_key_row}
use Rattle.picky_kv.specs.Argon2Keys.{key_derivation_key, argon2_memory_key, argon2_passes_key, argon2_parallelism_key}
use Rattle.picky_kv.specs.Argon2Keys.{argon2_salt_key, key_derivation_key_row, argon2_memory_key_row, argon2_passes_key_row}
use Rattle.picky_kv.specs.Argon2Keys.{argon2_parallelism_key_row, argon2_salt_key_row}
use Rattle.picky_kv.specs.{Choices.{version_row}, ChoiceFields.{version_field, encryption_field, flavour_field}}
use Rattle.picky_kv.specs.{declared.PpkVersionKey.TheVariants.{V2, V3}, ValueFields.{comment_field, hex_field}}
use Rattle.picky_kv.specs.{AlgorithmField.{algorithm_field}, NumberFields.{u32_field}}
use Rattle.picky_kv.specs.carried.Pairs.{version_field_is_plain, encryption_key_is_plain, comment_key_is_plain}
use Rattle.picky_kv.specs.carried.Pairs.{public_lines_key_is_plain, private_lines_key_is_plain, private_mac_key_is_plain}
use Rattle.picky_kv.specs.carried.Pairs.{key_derivation_key_is_plain, argon2_memory_key_is_plain, argon2_passes_key_is_plain}
use Rattle.picky_kv.specs.carried.Pairs.{argon2_parallelism_key_is_plain, argon2_salt_key_is_plain}
use Rattle.picky_kv.proofs.OneLineLemmas.{algorithms_are_one_line, encryptions_are_one_line, flavours_are_one_line}
use Rattle.picky_kv.proofs.OneLineLemmas.{numbers_are_one_line, hex_is_one_line}
use Rattle.picky_keys.specs.LineRefusal.{is_short}
use Rattle.picky_ppk_parts.specs.declared.error.PuttyError.TheVariants as errors
use Rattle.picky_ppk_parts.specs.declared.material.Argon2Params.{Argon2Params}
use Rattle.picky_ppk_file.specs.declared.file.PpkSealing.{PpkSealing}
use Rattle.picky_ppk_file.specs.declared.file.PpkSealing.TheVariants.{Unsealed, SealedV2, SealedV3}
use Rattle.picky_ppk_file.specs.{declared.file.PpkFile.{PpkFile}, declared.reading.Front.{Front}}
use Rattle.picky_ppk_file.specs.File.{version_of, encryption_of, AreParams, IsSealing, IsFile}
use Rattle.picky_ppk_file.specs.FileRefusal.{argon2_in, front_in, sealing_in, file_in, file_meaning}
use Rattle.picky_ppk_file.specs.Written.{line_under, rows_under, argon2_lines, sealing_lines, file_lines, line_end_of, file_text}
use Rattle.picky_ppk_file.specs.Written.{fits_block, file_spelled}
use Rattle.picky_ppk_file.proofs.{LineSteps.{then_ok}, FileLaws.{read_is_meant}}
use Rattle.picky_ppk_file.proofs.BackLemmas.{lines_at, pair_back, value_back, bytes_back}
use Rattle.picky_text.proofs.LineLaws.{one_line}

-- ---- a derivation by Argon2

argon2_back : (end : LineEnd) (params : Argon2Params) (behind : List (List ℕ)) (more : List ℕ) → AreParams params
    → argon2_in (lines_at end (argon2_lines params ++ behind) more) ≡ Ok (params, lines_at end behind more)
unfolding argon2_in argon2_lines key_derivation_key argon2_memory_key argon2_passes_key argon2_parallelism_key
    argon2_salt_key flavour_field u32_field hex_field
argon2_back end params behind more is =
    let salt : List (List ℕ) = line_under argon2_salt_key hex_field (record {}) params.salt ∷ behind in
    let lanes : List (List ℕ) = line_under argon2_parallelism_key u32_field (record {}) params.parallelism ∷ salt in
    let passes : List (List ℕ) = line_under argon2_passes_key u32_field (record {}) params.passes ∷ lanes in
    let memory : List (List ℕ) = line_under argon2_memory_key u32_field (record {}) params.memory ∷ passes in
    then_ok _ _ (params.flavor, lines_at end memory more) _
    (value_back key_derivation_key flavour_field key_derivation_key_row.name end (record {}) params.flavor memory more
    key_derivation_key_is_plain tt tt (one_line end _ (flavours_are_one_line params.flavor tt)))
    (then_ok _ _ (params.memory, lines_at end passes more) _
    (value_back argon2_memory_key u32_field argon2_memory_key_row.name end (record {}) params.memory passes more
    argon2_memory_key_is_plain tt is.memory (one_line end _ (numbers_are_one_line params.memory is.memory)))
    (then_ok _ _ (params.passes, lines_at end lanes more) _
    (value_back argon2_passes_key u32_field argon2_passes_key_row.name end (record {}) params.passes lanes more
    argon2_passes_key_is_plain tt is.passes (one_line end _ (numbers_are_one_line params.passes is.passes)))
    (then_ok _ _ (params.parallelism, lines_at end salt more) _
    (value_back argon2_parallelism_key u32_field argon2_parallelism_key_row.name end (record {}) params.parallelism salt
    more
    argon2_parallelism_key_is_plain tt is.parallelism (one_line end _
    (numbers_are_one_line params.parallelism is.parallelism)))
    (then_ok _ _ (params.salt, lines_at end behind more) _
    (value_back argon2_salt_key hex_field argon2_salt_key_row.name end (record {}) params.salt behind more
    argon2_salt_key_is_plain tt is.salt (one_line end _ (hex_is_one_line params.salt is.salt)))
    refl))))

-- what seals the file
sealing_back : (end : LineEnd) (sealing : PpkSealing) (behind : List (List ℕ)) (more : List ℕ) → IsSealing sealing
    → sealing_in (version_of sealing) (encryption_of sealing) (lines_at end (sealing_lines sealing ++ behind) more)
    ≡ Ok (sealing, lines_at end behind more)
sealing_back end (Unsealed V2) behind more is = refl
sealing_back end (Unsealed V3) behind more is = refl
sealing_back end SealedV2 behind more is = refl
sealing_back end (SealedV3 params) behind more is =
    then_ok (argon2_in (lines_at end (argon2_lines params ++ behind) more)) _ (params, lines_at end behind more) _
    (argon2_back end params behind more is) refl

-- ---- the file

-- the first fields of a file
abbrev front_of : PpkFile → Front
front_of f = record {
  version = version_of f.sealing;
  algorithm = f.algorithm;
  encryption = encryption_of f.sealing;
  comment = f.comment;
  public_key = f.public_key;
}

-- the lines behind them
abbrev last_lines : PpkFile → List (List ℕ)
last_lines f = rows_under private_lines_key (record {}) f.private_bytes ++ line_under private_mac_key hex_field (record {})
    f.mac ∷ []

-- the lines of a file, with those that are read first in front
abbrev all_lines : PpkFile → List (List ℕ)
all_lines f =
    line_under version_field algorithm_field (version_of f.sealing) f.algorithm
    ∷ line_under encryption_key encryption_field (record {}) (encryption_of f.sealing)
    ∷ line_under comment_key comment_field (record {}) f.comment
    ∷ (rows_under public_lines_key (record {}) f.public_key ++ (sealing_lines f.sealing ++ last_lines f))

file_lines-all : (f : PpkFile) → file_lines f ≡ all_lines f
unfolding file_lines
file_lines-all f =
    let front : List (List ℕ) =
    line_under version_field algorithm_field (version_of f.sealing) f.algorithm
    ∷ line_under encryption_key encryption_field (record {}) (encryption_of f.sealing)
    ∷ line_under comment_key comment_field (record {}) f.comment
    ∷ rows_under public_lines_key (record {}) f.public_key in
    append_assoc (front ++ sealing_lines f.sealing) (rows_under private_lines_key (record {}) f.private_bytes)
    (line_under private_mac_key hex_field (record {}) f.mac ∷ [])
    ∙ append_assoc front (sealing_lines f.sealing) (last_lines f)

front_back : (end : LineEnd) (f : PpkFile) (more : List ℕ) → IsFile f → IsLine end f.comment → fits_block f.public_key ≡
    true
    → front_in (lines_at end (all_lines f) more) ≡ Ok (
      front_of f,
      lines_at end
          (sealing_lines f.sealing ++ last_lines f) more,
    )
unfolding front_in version_field algorithm_field encryption_key encryption_field comment_key comment_field
    public_lines_key
front_back end f more is line fits =
    let sealing : List (List ℕ) = sealing_lines f.sealing ++ last_lines f in
    let public : List (List ℕ) = rows_under public_lines_key (record {}) f.public_key ++ sealing in
    let comment : List (List ℕ) = line_under comment_key comment_field (record {}) f.comment ∷ public in
    let encryption : List (List ℕ) = line_under encryption_key encryption_field (record {}) (encryption_of f.sealing) ∷
    comment in
    then_ok _ _ ((version_of f.sealing, f.algorithm), lines_at end encryption more) _
    (pair_back version_field algorithm_field version_row.name end (version_of f.sealing) f.algorithm encryption more
    version_field_is_plain tt tt (one_line end _ (algorithms_are_one_line f.algorithm tt)))
    (then_ok _ _ (encryption_of f.sealing, lines_at end comment more) _
    (value_back encryption_key encryption_field encryption_key_row.name end (record {}) (encryption_of f.sealing)
    comment more
    encryption_key_is_plain tt tt (one_line end _ (encryptions_are_one_line (encryption_of f.sealing) tt)))
    (then_ok _ _ (f.comment, lines_at end public more) _
    (value_back comment_key comment_field comment_key_row.name end (record {}) f.comment public more
    comment_key_is_plain tt is.comment line)
    (then_ok _ _ (f.public_key, lines_at end sealing more) _
    (bytes_back public_lines_key public_lines_key_row.name end (record {}) f.public_key sealing more
    public_lines_key_is_plain tt is.public_key fits)
    refl)))

-- A file whose bytes fit and whose comment is a line is read of its lines.
file_back : (end : LineEnd) (f : PpkFile) (more : List ℕ) → IsFile f → IsLine end f.comment → fits_block f.public_key ≡
    true
    → fits_block f.private_bytes ≡ true → file_in (lines_at end (all_lines f) more) ≡ Ok (f, lines_at end [] more)
unfolding file_in private_lines_key private_mac_key hex_field
file_back end f more is line public_fits private_fits =
    let mac : List (List ℕ) = line_under private_mac_key hex_field (record {}) f.mac ∷ [] in
    let private : List (List ℕ) = rows_under private_lines_key (record {}) f.private_bytes ++ mac in
    then_ok _ _ (front_of f, lines_at end (sealing_lines f.sealing ++ private) more) _
    (front_back end f more is line public_fits)
    (then_ok _ _ (f.sealing, lines_at end private more) _
    (sealing_back end f.sealing private more is.sealing)
    (then_ok _ _ (f.private_bytes, lines_at end mac more) _
    (bytes_back private_lines_key private_lines_key_row.name end (record {}) f.private_bytes mac more
    private_lines_key_is_plain tt is.private_bytes private_fits)
    (then_ok _ _ (f.mac, lines_at end [] more) _
    (value_back private_mac_key hex_field private_mac_key_row.name end (record {}) f.mac [] more
    private_mac_key_is_plain tt is.mac (one_line end _ (hex_is_one_line f.mac is.mac)))
    refl)))

-- where both tests let the text pass, it is the file's
both_passed : (short blocks : Bool) (x y : List ℕ)
    → (if short then (if blocks then Ok x else Err errors.TooManyLines) else Err errors.TooLong) ≡ Ok y →
    (blocks ≡ true) × (x ≡ y)
both_passed true blocks x y is = passed_ok blocks errors.TooManyLines x y is
both_passed false blocks x y is = cc is

-- What is written of a file is read back, whatever follows it.
pub written_is_read_back : (f : PpkFile) (text more : List ℕ) → IsFile f → IsLine (line_end_of (version_of f.sealing))
    f.comment
    → file_spelled f ≡ Ok text → file_meaning (text ++ more) ≡ Ok f
unfolding file_spelled file_text
written_is_read_back f text more is line written_is =
    let end : LineEnd = line_end_of (version_of f.sealing) in
    let blocks = fits_block f.public_key && fits_block f.private_bytes in
    let short = both_passed (is_short (file_text f)) blocks (file_text f) text written_is in
    let fit = and_parts (fits_block f.public_key) (fits_block f.private_bytes) short.0 in
    let back : file_in (lines_at end (file_lines f) more) ≡ Ok (f, lines_at end [] more) =
    ap (λ ls. file_in (lines_at end ls more)) (file_lines-all f) ∙ file_back end f more is line fit.0 fit.1 in
    subst (λ t. file_meaning (t ++ more) ≡ Ok f) short.1 (read_is_meant (file_text f ++ more) f (lines_at end [] more)
    back)

-- So is a text that is short enough, of blocks that are.
pub text_is_read_back : (f : PpkFile) (text more : List ℕ) → text ≡ file_text f → IsFile f → length text < 2 ^ 32
    → (fits_block f.public_key && fits_block f.private_bytes) ≡ true → IsLine (line_end_of (version_of f.sealing)) f.comment
    → file_meaning (text ++ more) ≡ Ok f
unfolding file_spelled
text_is_read_back f text more text_is is short fit line =
    let whole : length (file_text f) < 2 ^ 32 = subst (λ t. length t < 2 ^ 32) text_is short in
    let first : is_short (file_text f) ≡ true = grind (arith, nat_tests, whole) in
    let written_is : file_spelled f ≡ Ok (file_text f) = rw (first, fit) refl in
    written_is_read_back f text more is line (written_is ∙ ap Ok (sym text_is))

pub ruleset written_texts = (text_is_read_back)
