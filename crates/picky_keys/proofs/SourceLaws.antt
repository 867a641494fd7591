-- The laws of a line in front of a source's bytes, as of a line alone: what is written is read back.
use Rattle.std.specs.Prelude.{◌≡◌, false, List, [], ◌∷◌, ℕ, ◌++◌, ◌<◌, ◌^◌, length, Ok}
use Rattle.std.specs.List.{after_first}
use Rattle.std.proofs.Common.{◌∙◌, ap, refl, arith, append_assoc}
use Rattle.std.proofs.lemmas.Bool.{lt-ltb}
use Rattle.std.proofs.lemmas.List.{length-append}
use Rattle.picky_wire_base.specs.Outcome.{and_then}
use Rattle.picky_text.proofs.ListLaws.{all_append, cut_at_first}
use Rattle.picky_text.specs.Words.{ends_line, line_in_front}
use Rattle.picky_text.proofs.WordLaws.{base64_is_word, stays_line}
use Rattle.picky_keys.specs.declared.key.SshPublicKey.{SshPublicKey}
use Rattle.picky_keys.specs.Key.{kind_of}
use Rattle.picky_keys.specs.Blob.{blob_of}
use Rattle.picky_keys.specs.Line.{line_of, line_name, line_body, IsReadBackPublicKey}
use Rattle.picky_keys.specs.LineRefusal.{line_meaning}
use Rattle.picky_keys.specs.SourceLine.{after_line, read_line, source_meaning, Stays}
use Rattle.picky_keys.proofs.ByteLaws.{name_is_word}
use Rattle.picky_keys.proofs.LineLaws.{blob_is_bytes, line_front, front_reads_back}

-- Where a length can say the line in front, the source is answered as that line is.
pub source_means : (bytes : List ℕ) → length (line_in_front bytes) < 2 ^ 32
    → source_meaning bytes ≡ and_then (line_meaning (line_in_front bytes)) (λ key. Ok (key, after_line bytes))
unfolding source_meaning read_line
source_means bytes short = rw (lt-ltb (length (line_in_front bytes)) (2 ^ 32) short) refl

front_stays : (key : SshPublicKey) → IsReadBackPublicKey key → Stays (line_front key)
front_stays key kept =
    let goes_on : ℕ → Type 0 = λ b. ends_line b ≡ false in
    let name = name_is_word (kind_of key.inner_key) in
    let body = base64_is_word (blob_of key.inner_key) (blob_is_bytes key.inner_key kept.is_key) in
    let words = all_append goes_on (line_name key) (32 ∷ line_body key)
    (stays_line (line_name key) name.1 name.2) (refl, stays_line (line_body key) body.1 body.2) in
    all_append goes_on (line_name key ++ 32 ∷ line_body key) (32 ∷ key.comment) words
    (refl, stays_line key.comment kept.no_cr kept.no_lf)

-- A line that is written is read back from a source: CR ends it, and LF and what follows are left.
pub source_reads_back : (key : SshPublicKey) (more : List ℕ) → IsReadBackPublicKey key
    → source_meaning (line_of key ++ more) ≡ Ok (key, 10 ∷ more)
unfolding source_meaning read_line after_line line_of
source_reads_back key more kept =
    let front = line_front key in
    let whole = append_assoc front (13 ∷ 10 ∷ []) more in
    let cut = cut_at_first ends_line front 13 (10 ∷ more) (front_stays key kept) refl in
    let line = ap line_in_front whole ∙ cut.before in
    let after = ap (after_first ends_line) whole ∙ cut.after in
    let short : length front < 2 ^ 32 = omega (arith, kept.short, length-append front (13 ∷ 10 ∷ [])) in
    rw (line, lt-ltb (length front) (2 ^ 32) short, front_reads_back key kept, after) refl
