-- What was read, however it was spelled, is written in its one spelling, which is read back as the same.
use Rattle.std.specs.Prelude.{◌≡◌, List, ◌∷◌, ℕ, ◌++◌, ◌<◌, ◌^◌, length, Ok}
use Rattle.std.specs.List.{position_or_len}
use Rattle.std.proofs.Common.{◌∙◌, ap, subst, refl}
use Rattle.std.proofs.lemmas.Bool.{ltb-true}
use Rattle.picky_wire_base.specs.carried.Outcome.{and_then_ok, passed_ok, same_pair}
use Rattle.picky_wire_base.specs.Numbers.{IsBytes}
use Rattle.picky_wire_base.proofs.Numbers.{bytes_in_front, front_bytes}
use Rattle.picky_text.specs.Words.{ends_line, line_in_front, after_body}
use Rattle.picky_text.proofs.WordLaws.{rest_has_no_cr, rest_has_no_lf, rest_is_trimmed, rest_of_line_is_text}
use Rattle.picky_keys.specs.declared.error.SshPublicKeyError.TheVariants as errors
use Rattle.picky_keys.specs.declared.key.SshBasePublicKey.{SshBasePublicKey}
use Rattle.picky_keys.specs.declared.key.SshPublicKey.{SshPublicKey}
use Rattle.picky_keys.specs.Blob.{blob_of}
use Rattle.picky_keys.specs.BlobRefusal.{read_blob}
use Rattle.picky_keys.proofs.BlobLayout.{blob_is_read_back}
use Rattle.picky_keys.specs.Line.{line_of, IsReadBackPublicKey}
use Rattle.picky_keys.specs.FromWire.{public_key_error}
use Rattle.picky_keys.specs.LineRefusal.{is_short, line_meaning, line_text}
use Rattle.picky_keys.specs.SourceLine.{read_line, source_meaning}
use Rattle.picky_keys.proofs.LineLaws.{chosen, line_meaning_says, line_reads_back}
use Rattle.picky_keys.proofs.SourceLaws.{source_reads_back}
use Rattle.picky_keys.proofs.KeyLaws.{spelled_is_key, read_is_key}

-- ---- a blob

-- What is written of a key that was read is read back as the same key, whatever follows.
pub read_is_written : (bytes : List ℕ) (key : SshBasePublicKey) (rest more : List ℕ) → IsBytes bytes
    → read_blob bytes ≡ Ok (key, rest) → read_blob (blob_of key ++ more) ≡ Ok (key, more)
read_is_written bytes key rest more each read = blob_is_read_back key more (read_is_key bytes key rest each read)

-- ---- a line

-- the line that is written is short enough, and it is the canonical one
text_is_line : (key : SshPublicKey) (line : List ℕ) → line_text key ≡ Ok line
    → (length (line_of key) < 2 ^ 32) × (line_of key ≡ line)
unfolding line_text
text_is_line key line is =
    let passed = passed_ok (is_short (line_of key)) errors.TooLong (line_of key) line is in
    (ltb-true (length (line_of key)) (2 ^ 32) passed.0, passed.1)

-- A key read from a line is one whose line is read back.
pub text_is_kept : (text : List ℕ) (key : SshPublicKey) → IsBytes text → line_meaning text ≡ Ok key
    → length (line_of key) < 2 ^ 32 → IsReadBackPublicKey key
text_is_kept text key each means short =
    let line = line_meaning_says text key each means in
    let front = bytes_in_front line.fits.0 line.rest (subst IsBytes line.fits.2 line.are_bytes) in
    let rest : List ℕ = after_body text in
    record {
      is_key = spelled_is_key key.inner_key line.fits.0 front line.fits.1;
      no_cr = rw line.comment (rest_has_no_cr rest line.comment_utf8);
      no_lf = rw line.comment (rest_has_no_lf rest line.comment_utf8);
      trimmed = rw line.comment (rest_is_trimmed rest line.comment_utf8);
      utf8 = rw line.comment (rest_of_line_is_text rest line.comment_utf8);
      short = short;
    }

-- So is a key read from a source.
pub source_is_kept : (bytes : List ℕ) (key : SshPublicKey) (rest : List ℕ) → IsBytes bytes
    → source_meaning bytes ≡ Ok (key, rest) → length (line_of key) < 2 ^ 32 → IsReadBackPublicKey key
unfolding source_meaning read_line
source_is_kept bytes key rest each means short =
    let taken = and_then_ok (read_line public_key_error bytes) _ (key, rest) means in
    let line_is = chosen (is_short (line_in_front bytes)) _ errors.TooLong taken.0 taken.1 in
    let same : line_in_front bytes ≡ taken.0.0 = cc line_is.1 in
    let step = and_then_ok (line_meaning taken.0.0) _ (key, rest) taken.2 in
    let is = (same_pair _ step.0 key taken.0.1 rest refl step.2).0 in
    let line = front_bytes (position_or_len ends_line bytes) bytes each in
    let front : line_meaning (line_in_front bytes) ≡ Ok key =
    ap line_meaning same ∙ step.1 ∙ ap (λ k. Ok k) is in
    text_is_kept (line_in_front bytes) key line front short

-- What was read from a text is written as a line that is read back.
pub text_is_written : (text : List ℕ) (key : SshPublicKey) (line more : List ℕ) → IsBytes text
    → line_meaning text ≡ Ok key → line_text key ≡ Ok line → line_meaning (line ++ more) ≡ Ok key
text_is_written text key line more each means writes =
    let written = text_is_line key line writes in
    let kept = text_is_kept text key each means written.0 in
    subst (λ l. line_meaning (l ++ more) ≡ Ok key) written.1 (line_reads_back key more kept)

-- So is what was read from a source.
pub source_is_written : (bytes : List ℕ) (key : SshPublicKey) (rest line more : List ℕ) → IsBytes bytes
    → source_meaning bytes ≡ Ok (key, rest) → line_text key ≡ Ok line
    → source_meaning (line ++ more) ≡ Ok (key, 10 ∷ more)
source_is_written bytes key rest line more each means writes =
    let written = text_is_line key line writes in
    let kept = source_is_kept bytes key rest each means written.0 in
    subst (λ l. source_meaning (l ++ more) ≡ Ok (key, 10 ∷ more)) written.1 (source_reads_back key more kept)
