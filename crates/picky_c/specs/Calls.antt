-- What each call comes to: bytes, or the first reason why there are none.
use Rattle.std.specs.Prelude.{◌≡◌, ◌++◌, ◌&&◌, List, [], ℕ, Bool, false, Some, Result, Ok, Err, codes, is_ok}
use Rattle.std.specs.Option.{ok_or}
use Rattle.std.specs.Str.{is_utf8}
use Rattle.base64.specs.Engines.{standard_no_pad}
use Rattle.base64.specs.GeneralPurpose.{encode_of}
use Rattle.sha2.specs.Sha256.{sha256}
use Rattle.picky_wire_base.specs.Outcome.{and_then, map_err}
use Rattle.picky_suite.specs.Meanings.{Meanings}
use Rattle.picky_ask.specs.Known.{meant}
use Rattle.picky_ask.specs.Table.{table_of}
use Rattle.picky_ask.specs.declared.question.Entry.{Entry}
use Rattle.picky_ask.specs.declared.table.TableError.{TableError}
use Rattle.picky_ask.specs.declared.table.TableError.TheVariants as tables
use Rattle.picky_keys.specs.Blob.{blob_of}
use Rattle.picky_keys.specs.declared.key.SshPublicKey.{SshPublicKey}
use Rattle.picky_key_text.specs.Key.{public_key as public_key_of}
use Rattle.picky_key_text.specs.Order.{reading}
use Rattle.picky_key_text.specs.Reads.{Reads}
use Rattle.picky_key_text.specs.declared.meaning.Meaning.{Meaning}
use Rattle.picky_target.specs.declared.target.KeyTarget.{KeyTarget}
use Rattle.picky_conversion.specs.Convert.{IsConversion, conversion, converting_asks}
use Rattle.picky_conversion.specs.Refusal.{input_refusal}
use Rattle.picky_c.specs.Given.{Given, outside, plain_reader, utf8}
use Rattle.picky_c.specs.Part.{part_numbered, part_of}
use Rattle.picky_c.specs.Refusal.{refusal_of}
use Rattle.picky_c.specs.Sealing.{sealing_target}
use Rattle.picky_c.specs.Target.{target_numbered}
use Rattle.picky_c.specs.declared.sealing.PickySealing.{PickySealing}
use Rattle.picky_c.specs.declared.part.Part.{Part}
use Rattle.picky_c.specs.declared.error.AnswersError.TheVariants as answers
use Rattle.picky_c.specs.declared.error.PickyError.{PickyError}
use Rattle.picky_c.specs.declared.error.PickyError.TheVariants as errors

-- ---- a conversion, under what the answers mean: under m, where m gives each of them, and else under their completion

-- the entries of the answers; none where they are no table
abbrev pub entries_in : Result (List Entry) TableError → List Entry
entries_in (Ok entries) = entries
entries_in (Err e) = []

abbrev pub entries_of : Given → List Entry
entries_of g = entries_in (table_of g.answers)

abbrev pub meanings_by : Meanings → Given → Meanings
meanings_by m g = meant m (entries_of g)

-- a table that isn't one, as a call's refusal
abbrev pub table_refusal : TableError → PickyError
table_refusal tables.EndsInEntry = errors.Answers answers.EndsInEntry
table_refusal tables.LengthPastEnd = errors.Answers answers.LengthPastEnd
table_refusal tables.NoQuestion = errors.Answers answers.NoQuestion
table_refusal tables.NoMemory = errors.NoMemory

-- the target of a number, or why there is none; and that of what a caller chooses
abbrev pub numbered_target : ℕ → Result KeyTarget PickyError
numbered_target number = ok_or (target_numbered number) errors.NoSuchTarget

abbrev pub sealed_target : PickySealing → Result KeyTarget PickyError
sealed_target s = ok_or (sealing_target s) errors.NoSuchSealing

-- the text under some meanings, or the first reason why there is none
abbrev pub converted_under : Meanings → KeyTarget → Given → Result (List ℕ) PickyError
converted_under m target g =
    and_then (utf8 errors.TextNotUtf8 g.text) (λ text.
    and_then (utf8 errors.PassNotUtf8 g.pass_in) (λ pass_in.
    and_then (utf8 errors.PassNotUtf8 g.pass_out) (λ pass_out.
    map_err refusal_of (conversion (outside m g) target text))))

-- a cipher is asked for: all is UTF-8; and the key text is sealed and comes with a passphrase, or what is written is to be sealed
abbrev pub asks_under : Meanings → KeyTarget → Given → Bool
asks_under m target g =
    is_utf8 g.text && is_utf8 g.pass_in && is_utf8 g.pass_out && converting_asks (outside m g) target g.text

-- the same of a target that a number may not name, by answers that may be no table
abbrev pub converted_with : Meanings → Result KeyTarget PickyError → Given → Result (List ℕ) PickyError
converted_with m target g =
    and_then target (λ target.
    and_then (map_err table_refusal (table_of g.answers)) (λ entries. converted_under m target g))

-- and under what the answers mean
abbrev pub converted : Meanings → Result KeyTarget PickyError → Given → Result (List ℕ) PickyError
converted m target g = converted_with (meanings_by m g) target g

abbrev pub target_asks : Meanings → Result KeyTarget PickyError → Given → Bool
target_asks m (Ok target) g = asks_under m target g
target_asks m (Err e) g = false

abbrev pub converting_is_asked : Meanings → Result KeyTarget PickyError → Given → Bool
converting_is_asked m target g = is_ok (table_of g.answers) && target_asks (meanings_by m g) target g

-- the bytes are the target's one text for the one thing that the key text means, and are read back
abbrev pub IsConverted : Meanings → Result KeyTarget PickyError → Given → (bytes : List ℕ) → Type 0
IsConverted m target g bytes =
    (to : KeyTarget) × (target ≡ Ok to) × IsConversion (outside (meanings_by m g) g) to g.text bytes

-- ---- a public key

-- the public part of the key that a text means, and the comment, or the first reason why there is none
abbrev pub public_key : List ℕ → Result SshPublicKey PickyError
public_key text =
    and_then (utf8 errors.TextNotUtf8 text) (λ text.
    and_then (map_err (λ e. refusal_of (input_refusal e)) (reading plain_reader text)) (λ meaning.
    Ok (public_key_of meaning)))

-- the text means a key whose public part this is
abbrev pub IsPublicKey : (text : List ℕ) → SshPublicKey → Type 0
IsPublicKey text key = (meaning : Meaning) × Reads plain_reader text meaning × (key ≡ public_key_of meaning)

-- its fingerprint, as ssh-keygen -l prints it
abbrev pub print : SshPublicKey → List ℕ
print key = codes "SHA256:" ++ encode_of standard_no_pad (sha256 (blob_of key.inner_key))

abbrev pub fingerprint : List ℕ → Result (List ℕ) PickyError
fingerprint text = and_then (public_key text) (λ key. Ok (print key))

abbrev pub IsFingerprint : (text bytes : List ℕ) → Type 0
IsFingerprint text bytes = (key : SshPublicKey) × IsPublicKey text key × (bytes ≡ print key)

-- its part with a number
abbrev pub public_part_in : (text : List ℕ) → (part : ℕ) → Result (List ℕ) PickyError
public_part_in text part =
    and_then (ok_or (part_numbered part) errors.NoSuchPart) (λ part.
    and_then (public_key text) (λ key. Ok (part_of part key)))

abbrev pub IsPart : (text : List ℕ) → (part : ℕ) → (bytes : List ℕ) → Type 0
IsPart text number bytes =
    (key : SshPublicKey) × IsPublicKey text key
    × ((part : Part) × (part_numbered number ≡ Some part) × (bytes ≡ part_of part key))
