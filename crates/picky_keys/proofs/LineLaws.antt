-- The laws of a line: its meaning is what it says, and what is written is read back.
use Rattle.std.specs.Prelude.{◌≡◌, ◌&&◌, Bool, true, false, if◌then◌else◌, is_some, List, [], ◌∷◌, ℕ, ◌+◌, ◌++◌, ◌<◌, ◌^◌}
use Rattle.std.specs.Prelude.{length, Option, Some, None, Result, Ok, Err, IsUtf8}
use Rattle.std.specs.Option.{ok_or}
use Rattle.std.proofs.Common.{sym, ◌∙◌, ap, subst, refl, arith, append_assoc}
use Rattle.std.proofs.{lemmas.Bool.{ltb-true, lt-ltb, and_parts}, lemmas.List.{append-nil, length-append}}
use Rattle.picky_wire_base.specs.{carried.Outcome.{and_then_ok, map_err_ok}, Outcome.{map_err}, Grammar.{Fits}}
use Rattle.picky_wire_base.specs.{Numbers.{IsBytes}, Table.{find_entry}}
use Rattle.picky_text.specs.{Base64.{base64_of, decoded}, declared.lines.LineEnd.TheVariants.{CrLf}}
use Rattle.picky_text.specs.Words.{first_word, behind_word, body_word, after_body, comment_of, AreParts, HasParts}
use Rattle.picky_text.proofs.Base64Laws.{base64_is_read_back, base64_is_of_what_it_gives, decoded_is_bytes}
use Rattle.picky_text.proofs.WordLaws.{key_line_is_read_back, key_line_alone, base64_is_word, rest_text_is, rest_text_says}
use Rattle.picky_keys.specs.{declared.kind.KeyKind.{KeyKind}, declared.curve.EcCurve.TheVariants.{NistP256}}
use Rattle.picky_keys.specs.{KeyNameTables.{key_types}, KeyNames.{kind_name}}
use Rattle.picky_keys.specs.declared.key.SshBasePublicKey.{SshBasePublicKey}
use Rattle.picky_keys.specs.{declared.key.SshPublicKey.{SshPublicKey}, Key.{IsKey, kind_of}}
use Rattle.picky_keys.specs.{Blob.{blob, blob_of, fields_spelled}, BlobRefusal.{blob_error, read_blob}}
use Rattle.picky_keys.specs.carried.Blob.{blob_spells}
use Rattle.picky_keys.specs.Line.{IsPublicLine, line_of, line_name, line_body, IsReadBackPublicKey}
use Rattle.picky_keys.specs.LineRefusal.{blob_key, body_key, is_key_type, is_short, line_meaning, words_meaning, is_short_text}
use Rattle.picky_keys.specs.LineRefusal.{comment_text}
use Rattle.picky_keys.proofs.KeyNames.{kind_of_name, name_of_kind}
use Rattle.picky_keys.proofs.ByteLaws.{bytes_joined, string_bytes_each, mpint_bytes_each, no_bytes, word_is_bytes, after_bytes}
use Rattle.picky_keys.proofs.ByteLaws.{name_is_word, name_bytes, identifier_bytes}
use Rattle.picky_keys.specs.declared.error.SshPublicKeyError.TheVariants as errors
use Rattle.picky_keys.specs.declared.key.SshBasePublicKey.TheVariants as keys

-- ---- a blob and its key

-- A blob has the key that it fits.
pub blob_key_of : (bytes rest : List ℕ) (key : SshBasePublicKey) → Fits blob.piece key bytes rest
    → blob_key bytes ≡ Ok key
unfolding blob_key read_blob
blob_key_of bytes rest key fits =
    let read = ap blob.read fits.2 ∙ blob.complete key fits.0 rest fits.1 in
    rw read refl

-- The canonical blob of a key is bytes.
pub fields_bytes : (key : SshBasePublicKey) → IsKey key → IsBytes (fields_spelled key)
unfolding fields_spelled
fields_bytes (keys.Rsa e n) is =
    bytes_joined _ _ (mpint_bytes_each e is.0.bytes) (bytes_joined _ _ (mpint_bytes_each n is.1.bytes) no_bytes)
fields_bytes (keys.Ec curve point) is =
    bytes_joined _ _ (string_bytes_each _ (identifier_bytes curve))
    (bytes_joined _ _ (string_bytes_each point is.bytes) no_bytes)
fields_bytes (keys.Ed key) is = bytes_joined _ _ (string_bytes_each key is.bytes) no_bytes
fields_bytes (keys.SkEcdsaSha2NistP256 point application) is =
    bytes_joined _ _ (string_bytes_each _ (identifier_bytes NistP256))
    (bytes_joined _ _ (string_bytes_each point is.0.bytes)
    (bytes_joined _ _ (string_bytes_each application is.1.string.bytes) no_bytes))
fields_bytes (keys.SkEd25519 key application) is =
    bytes_joined _ _ (string_bytes_each key is.0.bytes)
    (bytes_joined _ _ (string_bytes_each application is.1.string.bytes) no_bytes)

pub blob_is_bytes : (key : SshBasePublicKey) → IsKey key → IsBytes (blob_of key)
unfolding blob_of
blob_is_bytes key is =
    bytes_joined _ _ (string_bytes_each _ (name_bytes (kind_of key))) (fields_bytes key is)

-- ---- a line's meaning

pub some_of : {A E : Type 0} (o : Option A) (e : E) (x : A) → ok_or o e ≡ Ok x → o ≡ Some x
some_of (Some y) e x same = cc same
some_of None e x same = cc same

found : {A : Type 0} (o : Option A) → is_some o ≡ true → (x : A) × (o ≡ Some x)
found (Some x) is = (x, refl)
found None is = cc is

-- It fits the key that it has.
pub blob_key_fits : (bytes : List ℕ) (key : SshBasePublicKey) → blob_key bytes ≡ Ok key
    → (rest : List ℕ) × Fits blob.piece key bytes rest
unfolding blob_key read_blob
blob_key_fits bytes key has =
    let found = and_then_ok (map_err blob_error (blob.read bytes)) (λ f. Ok f.0) key has in
    let read = map_err_ok blob_error (blob.read bytes) found.0 found.1 in
    let same : found.0.0 ≡ key = cc found.2 in
    (found.0.1, subst (λ k. Fits blob.piece k bytes found.0.1) same (blob.sound bytes found.0.0 found.0.1 read))

pub chosen : {A E : Type 0} (b : Bool) (x : Result A E) (e : E) (y : A)
    → (if b then x else Err e) ≡ Ok y → (b ≡ true) × (x ≡ Ok y)
chosen true x e y same = (refl, same)
chosen false x e y same = cc same

-- A body is the base64 of the blob whose key it has.
pub body_key_of : (body bytes rest : List ℕ) (key : SshBasePublicKey) → IsBytes bytes
    → body ≡ base64_of bytes → Fits blob.piece key bytes rest → body_key body ≡ Ok key
unfolding body_key
body_key_of body bytes rest key small is fits =
    let some = ap decoded is ∙ base64_is_read_back bytes small in
    rw some (blob_key_of bytes rest key fits)

-- a blob whose base64 the body is, and that the key fits
pub record IsBodyOf (body : List ℕ) (key : SshBasePublicKey) : Type 0 where
  pub blob_bytes : List ℕ
  pub are_bytes : IsBytes blob_bytes
  pub is : body ≡ base64_of blob_bytes
  pub rest : List ℕ
  pub fits : Fits blob.piece key blob_bytes rest

pub body_key_says : (body : List ℕ) (key : SshBasePublicKey) → IsBytes body → body_key body ≡ Ok key
    → IsBodyOf body key
unfolding body_key
body_key_says body key small has =
    let step = and_then_ok (ok_or (decoded body) errors.Base64DecodeError) blob_key key has in
    let some = some_of (decoded body) errors.Base64DecodeError step.0 step.1 in
    let fits = blob_key_fits step.0 key step.2 in
    record {
      blob_bytes = step.0;
      are_bytes = decoded_is_bytes body step.0 small some;
      is = base64_is_of_what_it_gives body step.0 small some;
      rest = fits.0;
      fits = fits.1;
    }

pub named_of : (word : List ℕ) (kind : KeyKind) → word ≡ kind_name kind → is_key_type word ≡ true
named_of word kind is = ap (λ w. is_some (find_entry key_types w)) is ∙ ap is_some (kind_of_name kind)

-- A line means what it says.
pub line_meaning_of : (text : List ℕ) (key : SshPublicKey) → IsPublicLine text key → line_meaning text ≡ Ok key
unfolding line_meaning words_meaning
line_meaning_of text key line =
    let named = named_of (first_word text) line.kind line.name in
    let body = body_key_of (body_word text) line.blob_bytes line.rest key.inner_key line.are_bytes line.body line.fits in
    let body_fits = lt-ltb (length (body_word text)) (2 ^ 32) line.body_short in
    let comment = rest_text_is (after_body text) line.comment_utf8 in
    let comment_fits = lt-ltb (length (comment_of text)) (2 ^ 32) line.comment_short in
    rw (named, comment, body_fits, comment_fits, body, ← line.comment) refl

-- It says what it means.
pub line_meaning_says : (text : List ℕ) (key : SshPublicKey) → IsBytes text → line_meaning text ≡ Ok key
    → IsPublicLine text key
unfolding line_meaning words_meaning
line_meaning_says text key small means =
    let named = chosen (is_key_type (first_word text)) _ errors.UnknownKeyType key means in
    let body_fits = is_short (body_word text) in
    let fits = is_short_text (comment_text text) in
    let short = chosen (body_fits && fits) _ errors.TooLong key named.1 in
    let both = and_parts body_fits fits short.0 in
    let step = and_then_ok (body_key (body_word text)) _ key short.1 in
    let last = and_then_ok (ok_or (comment_text text) errors.InvalidUtf8) _ key step.2 in
    let some = some_of (comment_text text) errors.InvalidUtf8 last.0 last.1 in
    let comment = rest_text_says (after_body text) last.0 some in
    let comment_fits = ap is_short_text (ap Some comment.1 ∙ sym some) ∙ both.1 in
    let kind = found (find_entry key_types (first_word text)) named.0 in
    let body = body_key_says (body_word text) step.0 (word_is_bytes (behind_word text) (after_bytes text small)) step.1 in
    let is : record { inner_key = step.0; comment = last.0 } ≡ key = cc last.2 in
    record {
      kind = kind.0;
      name = sym (name_of_kind (first_word text) kind.0 kind.1);
      blob_bytes = body.blob_bytes;
      are_bytes = body.are_bytes;
      body = body.is;
      body_short = ltb-true (length (body_word text)) (2 ^ 32) both.0;
      rest = body.rest;
      fits = subst (λ k. Fits blob.piece k body.blob_bytes body.rest) (ap (λ k. k.inner_key) is) body.fits;
      comment = sym (ap (λ k. k.comment) is) ∙ sym comment.1;
      comment_utf8 = comment.0;
      comment_short = ltb-true (length (comment_of text)) (2 ^ 32) comment_fits;
    }

-- A line has one meaning.
pub one_line_meaning : (text : List ℕ) (k l : SshPublicKey) → IsPublicLine text k → IsPublicLine text l → k ≡ l
one_line_meaning text k l first second =
    let both = sym (line_meaning_of text k first) ∙ line_meaning_of text l second in cc both

part_lengths : (key : SshPublicKey) → length (line_of key)
    ≡ length (line_name key) + (1 + length (line_body key)) + (1 + length key.comment) + 2
unfolding line_of
part_lengths key =
    let front = line_name key ++ 32 ∷ line_body key in
    omega (
      arith,
      length-append (front ++ 32 ∷ key.comment) (13 ∷ 10 ∷ []),
      length-append front (32 ∷ key.comment),
      length-append (line_name key) (32 ∷ line_body key),
    )

-- the line without its end
abbrev pub line_front : SshPublicKey → List ℕ
line_front key = line_name key ++ 32 ∷ line_body key ++ 32 ∷ key.comment

line_parts : (key : SshPublicKey) → IsReadBackPublicKey key
    → AreParts (line_name key) (line_body key) key.comment
line_parts key kept = record {
  name_word = name_is_word (kind_of key.inner_key);
  body_word = base64_is_word (blob_of key.inner_key) (blob_is_bytes key.inner_key kept.is_key);
  no_cr = kept.no_cr;
  no_lf = kept.no_lf;
  trimmed = kept.trimmed;
}

-- a line of a key's parts says the key
parts_say : (key : SshPublicKey) (line : List ℕ) → IsReadBackPublicKey key
    → HasParts line (line_name key) (line_body key) key.comment → IsPublicLine line key
parts_say key line kept is =
    let len = part_lengths key in
    record {
      kind = kind_of key.inner_key;
      name = is.name_is;
      blob_bytes = blob_of key.inner_key;
      are_bytes = blob_is_bytes key.inner_key kept.is_key;
      body = is.body_is;
      body_short = subst (λ w. length w < 2 ^ 32) (sym is.body_is) (omega (arith, kept.short, len));
      rest = [];
      fits = (blob_of key.inner_key, blob_spells key.inner_key kept.is_key, sym (append-nil (blob_of key.inner_key)));
      comment = sym is.comment_is;
      comment_utf8 = subst IsUtf8 (sym is.line_is) kept.utf8;
      comment_short = subst (λ w. length w < 2 ^ 32) (sym is.comment_is) (omega (arith, kept.short, len));
    }

-- The line that is written says the key, whatever follows it.
pub line_says : (key : SshPublicKey) (more : List ℕ) → IsReadBackPublicKey key
    → IsPublicLine (line_of key ++ more) key
unfolding line_of
line_says key more kept =
    let parts = line_parts key kept in
    let is = key_line_is_read_back (line_name key) (line_body key) key.comment parts CrLf more in
    rw (append_assoc (line_front key) (13 ∷ 10 ∷ []) more) (parts_say key _ kept is)

-- It is read back whatever follows.
pub line_reads_back : (key : SshPublicKey) (more : List ℕ) → IsReadBackPublicKey key
    → line_meaning (line_of key ++ more) ≡ Ok key
line_reads_back key more kept = line_meaning_of (line_of key ++ more) key (line_says key more kept)

-- It is so without its end.
pub front_reads_back : (key : SshPublicKey) → IsReadBackPublicKey key → line_meaning (line_front key) ≡ Ok key
front_reads_back key kept =
    let is = key_line_alone (line_name key) (line_body key) key.comment (line_parts key kept) in
    line_meaning_of (line_front key) key (parts_say key (line_front key) kept is)
