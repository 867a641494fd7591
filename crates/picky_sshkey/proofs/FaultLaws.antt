-- No order of refusals answers a fault of the suite or want of memory, which are the code's alone.
use Rattle.std.specs.Prelude.{◌≢◌, ◌==◌, Bool, true, false, List, ℕ, Option, None, Some, Result, Ok, Err, if◌then◌else◌, length}
use Rattle.std.specs.{Option.{ok_or}, Str.{bytes_eq}}
use Rattle.std.proofs.Common.{refl, subst}
use Rattle.picky_wire_base.specs.{Combine.{tag}, Fixed.{is_number}}
use Rattle.picky_wire_base.specs.Flaw.{Flaw, Short, NotUtf8, Big, Flawed, Length, Magic, Name, Number, Reason}
use Rattle.picky_wire_base.specs.{Front.{read_front}, Outcome.{map_err}, Table.{find_entry}}
use Rattle.picky_wire_base.specs.Wire.{text as utf8, uint32}
use Rattle.picky_sshkey_blob.specs.PemRefusal.{after_header, before_footer, of_body, pem_content, short_content}
use Rattle.picky_sshkey_blob.specs.{Pem.{packed}, declared.pem_error.PemError.{PemError}, Blob.{secret}}
use Rattle.picky_sshkey_blob.specs.BlobRefusal.{private_error}
use Rattle.picky_sshkey_blob.specs.declared.error.SshPrivateKeyError.{SshPrivateKeyError}
use Rattle.picky_sshkey_blob.specs.declared.pem_error.PemError.TheVariants as pem
use Rattle.picky_suite.specs.{Meanings.{Meanings}, Ranges.{bcrypt_fits}}
use Rattle.picky_text.specs.Base64.{decoded}
use Rattle.picky_sshkey_blob.specs.declared.error.SshPrivateKeyError.TheVariants as errors
use Rattle.picky_sshkey_blob.proofs.RefusedLemmas.{RefusesAs, both_refuses, done_refuses, narrow_refuses, test_refused}
use Rattle.picky_sshkey.specs.{declared.private_key.SshPrivateKey.{SshPrivateKey}, declared.cipher.Cipher.{Cipher}}
use Rattle.picky_sshkey.specs.{Cipher.{ciphers}, Envelope.{Envelope}, Kdf.{bcrypt}}
use Rattle.picky_sshkey.specs.PrivateBlock.{PrivateBlock, check_numbers, flaw_error, private_block}
use Rattle.picky_sshkey.specs.PrivateRefusal.{Closed, closed, content_key, envelope_error, envelope_under, key_closed}
use Rattle.picky_sshkey.specs.PrivateRefusal.{key_of_block, lock_of, lock_under, sealed_under, takes_block, text_key}
use Rattle.picky_sshkey.specs.Written.{key_content, key_text, sealable, text_len}
use Rattle.picky_sshkey.proofs.RefusalLaws.{Refuses, err_as, front_as, if_as, map_as, ok_as, some_as, tag_as, then_as}

-- ---- which errors are no faults

abbrev pub IsOwnPem : PemError → Type 0
IsOwnPem pem.NoMemory = ⊥
IsOwnPem other = Unit {0}

-- neither the suite's nor memory's
abbrev pub IsOwnPrivate : SshPrivateKeyError → Type 0
IsOwnPrivate errors.SuiteFault = ⊥
IsOwnPrivate errors.NoMemory = ⊥
IsOwnPrivate (errors.PemError e) = IsOwnPem e
IsOwnPrivate other = Unit {0}

-- A flaw of a field is no fault.
flaw_own : (flaw : Flaw) → IsOwnPrivate (flaw_error flaw)
flaw_own Short = tt
flaw_own NotUtf8 = tt
flaw_own Big = tt

-- A length that is refused is none.
length_own : (secret : Bool) → IsOwnPrivate (if secret then errors.InvalidKeyFormat else errors.KeyError)
length_own true = tt
length_own false = tt

-- Nor is a reason for which a blob is refused.
private_own : (reason : Reason) → IsOwnPrivate (private_error reason)
private_own (i, Flawed flaw) = flaw_own flaw
private_own (i, Length) = length_own (i == 2)
private_own (i, Name name) = tt
private_own (i, Magic) = tt
private_own (i, Number n) = tt

-- Nor one for which an envelope is.
envelope_own : (reason : Reason) → IsOwnPrivate (envelope_error reason)
envelope_own (i, Flawed flaw) = flaw_own flaw
envelope_own (i, Length) = tt
envelope_own (i, Name name) = tt
envelope_own (i, Magic) = tt
envelope_own (i, Number n) = tt

-- ---- a content

-- Nor one for which the check numbers are.
checks_own : RefusesAs IsOwnPrivate check_numbers.read
unfolding check_numbers
checks_own =
    both_refuses IsOwnPrivate (tag flaw_error uint32).read _ (tag_as IsOwnPrivate flaw_error uint32 flaw_own) (λ check.
    both_refuses IsOwnPrivate _ _
    (narrow_refuses IsOwnPrivate (tag flaw_error uint32) (is_number (errors.InvalidCheckNumbers check) check)
    (tag_as IsOwnPrivate flaw_error uint32 flaw_own)
    (λ n e is. subst IsOwnPrivate (test_refused (n == check) n (errors.InvalidCheckNumbers check n) e is) tt))
    (λ again. done_refuses IsOwnPrivate check))

-- Nor one for which a block is.
block_own : RefusesAs IsOwnPrivate private_block.read
unfolding private_block
block_own =
    both_refuses IsOwnPrivate check_numbers.read _ checks_own (λ check.
    both_refuses IsOwnPrivate (tag private_error secret).read _ (tag_as IsOwnPrivate private_error secret private_own) (λ key.
    both_refuses IsOwnPrivate (tag flaw_error utf8).read _ (tag_as IsOwnPrivate flaw_error utf8 flaw_own) (λ comment. done_refuses IsOwnPrivate _)))

-- No envelope is refused for a fault.
pub envelope_under_own : (given : Option (List ℕ)) (content : List ℕ) → Refuses IsOwnPrivate (envelope_under given content)
unfolding envelope_under
envelope_under_own given content =
    if_as IsOwnPrivate _ _ _ (map_as IsOwnPrivate envelope_error _ envelope_own) (err_as IsOwnPrivate errors.TooLong tt)

-- Nor is a lock under a cipher and a passphrase.
under_own : (e : Envelope) (cipher : Cipher) (pass : List ℕ) → Refuses IsOwnPrivate (lock_under e cipher pass)
under_own e cipher pass =
    if_as IsOwnPrivate (bcrypt_fits (length pass) (length e.option.salt) e.option.rounds) _ _
    (if_as IsOwnPrivate (takes_block cipher e.block) _ _ (ok_as IsOwnPrivate _) (err_as IsOwnPrivate errors.DecryptionError tt))
    (err_as IsOwnPrivate errors.HashingError tt)

-- Nor is a lock of a sealed block.
pub sealed_own : (given : Option (List ℕ)) (e : Envelope) → Refuses IsOwnPrivate (sealed_under given e)
unfolding sealed_under
sealed_own given e =
    let why = errors.UnsupportedCipher e.cipher in
    then_as IsOwnPrivate (ok_or (find_entry ciphers e.cipher) why) _ (some_as IsOwnPrivate (find_entry ciphers e.cipher) why tt) (λ cipher.
    if_as IsOwnPrivate (bytes_eq e.kdf bcrypt) _ _
    (then_as IsOwnPrivate (ok_or given errors.MissingPassphrase) (lock_under e cipher)
    (some_as IsOwnPrivate given errors.MissingPassphrase tt) (under_own e cipher))
    (err_as IsOwnPrivate (errors.UnsupportedKdf e.kdf) tt))

-- Nor is any.
lock_own : (given : Option (List ℕ)) (e : Envelope) → Refuses IsOwnPrivate (lock_of given e)
unfolding lock_of
lock_own given e =
    if_as IsOwnPrivate _ _ _ (ok_as IsOwnPrivate None) (then_as IsOwnPrivate _ _ (sealed_own given e) (λ lock. ok_as IsOwnPrivate (Some lock)))

-- Nor are both together.
closed_own : (given : Option (List ℕ)) (content : List ℕ) → Refuses IsOwnPrivate (closed given content)
unfolding closed
closed_own given content =
    then_as IsOwnPrivate _ _ (envelope_under_own given content) (λ e.
    then_as IsOwnPrivate _ _ (lock_own given e) (λ lock. ok_as IsOwnPrivate _))

-- Nor is what a block begins with, nor its key.
pub block_front_own : (block : List ℕ) → Refuses IsOwnPrivate (read_front private_block block)
block_front_own block = front_as IsOwnPrivate private_block block block_own

pub key_of_block_own : (given : Option (List ℕ)) (e : Envelope) (block : PrivateBlock)
    → Refuses IsOwnPrivate (key_of_block given e block)
key_of_block_own given e block = if_as IsOwnPrivate _ _ _ (ok_as IsOwnPrivate _) (err_as IsOwnPrivate errors.PublicKeyMismatch tt)

-- Nor is the key in them.
key_closed_own : (m : Meanings) (given : Option (List ℕ)) (c : Closed) → Refuses IsOwnPrivate (key_closed m given c)
unfolding key_closed
key_closed_own m given c =
    then_as IsOwnPrivate _ _ (block_front_own _) (key_of_block_own given c.envelope)

-- Nor is a content.
content_own : (m : Meanings) (given : Option (List ℕ)) (content : List ℕ) → Refuses IsOwnPrivate (content_key m given content)
unfolding content_key
content_own m given content = then_as IsOwnPrivate _ _ (closed_own given content) (key_closed_own m given)

-- ---- a text

-- A content of a text is not refused for a fault.
short_own : (content : List ℕ) → Refuses IsOwnPem (short_content content)
unfolding short_content
short_own content = if_as IsOwnPem _ _ _ (ok_as IsOwnPem content) (err_as IsOwnPem pem.TooLong tt)

-- Nor is a body.
body_own : (body : List ℕ) → Refuses IsOwnPem (of_body body)
unfolding of_body
body_own body =
    then_as IsOwnPem (ok_or (decoded (packed body)) pem.BadBase64) short_content
    (some_as IsOwnPem (decoded (packed body)) pem.BadBase64 tt) short_own

-- Nor is the armour.
pem_own : (bytes : List ℕ) → Refuses IsOwnPem (pem_content bytes)
unfolding pem_content
pem_own bytes =
    then_as IsOwnPem (ok_or (after_header bytes) pem.HeaderNotFound) _
    (some_as IsOwnPem (after_header bytes) pem.HeaderNotFound tt) (λ after.
    then_as IsOwnPem (ok_or (before_footer after) pem.FooterNotFound) of_body
    (some_as IsOwnPem (before_footer after) pem.FooterNotFound tt) body_own)

-- A fault of the armour would be a fault of the key.
pem_error_own : (r : Result (List ℕ) PemError) → Refuses IsOwnPem r → Refuses IsOwnPrivate (map_err errors.PemError r)
pem_error_own (Ok x) each = ok_as IsOwnPrivate x
pem_error_own (Err why) each = err_as IsOwnPrivate (errors.PemError why) (each why refl)

-- Nor is a text.
text_own : (m : Meanings) (given : Option (List ℕ)) (text : List ℕ) → Refuses IsOwnPrivate (text_key m given text)
unfolding text_key
text_own m given text =
    then_as IsOwnPrivate _ _ (pem_error_own (pem_content text) (pem_own text)) (content_own m given)

-- ---- what is written

-- No key is refused for a fault before it is sealed.
sealable_own : (measure : List ℕ → ℕ) (key : SshPrivateKey) → Refuses IsOwnPrivate (sealable measure key)
unfolding sealable
sealable_own measure key =
    if_as IsOwnPrivate _ _ _
    (if_as IsOwnPrivate _ _ _ (ok_as IsOwnPrivate _) (err_as IsOwnPrivate errors.TooLong tt))
    (err_as IsOwnPrivate errors.HashingError tt)

-- Nor is its content.
written_own : (m : Meanings) (key : SshPrivateKey) → Refuses IsOwnPrivate (key_content m key)
unfolding key_content
written_own m key = then_as IsOwnPrivate _ _ (sealable_own _ key) (λ lock. ok_as IsOwnPrivate _)

-- Nor is its text.
written_text_own : (m : Meanings) (key : SshPrivateKey) → Refuses IsOwnPrivate (key_text m key)
unfolding key_text
written_text_own m key = then_as IsOwnPrivate _ _ (sealable_own text_len key) (λ lock. ok_as IsOwnPrivate _)

-- ---- the laws

-- A content is never refused for a fault of the suite, nor for want of memory.
pub content_no_fault : (m : Meanings) (given : Option (List ℕ)) (content : List ℕ)
    → (content_key m given content ≢ Err errors.SuiteFault) × (content_key m given content ≢ Err errors.NoMemory)
content_no_fault m given content =
    (content_own m given content errors.SuiteFault, content_own m given content errors.NoMemory)

-- Nor is a text, and not for want of memory in its own layer.
pub text_no_fault : (m : Meanings) (given : Option (List ℕ)) (text : List ℕ)
    → (text_key m given text ≢ Err errors.SuiteFault) × (text_key m given text ≢ Err errors.NoMemory)
    × (text_key m given text ≢ Err (errors.PemError pem.NoMemory))
text_no_fault m given text = (
  text_own m given text errors.SuiteFault,
  text_own m given text errors.NoMemory,
  text_own m given text (errors.PemError pem.NoMemory),
)

-- Nor is a key whose content is written.
pub key_content_no_fault : (m : Meanings) (key : SshPrivateKey)
    → (key_content m key ≢ Err errors.SuiteFault) × (key_content m key ≢ Err errors.NoMemory)
key_content_no_fault m key = (written_own m key errors.SuiteFault, written_own m key errors.NoMemory)

-- Nor is one whose text is.
pub key_text_no_fault : (m : Meanings) (key : SshPrivateKey)
    → (key_text m key ≢ Err errors.SuiteFault) × (key_text m key ≢ Err errors.NoMemory)
key_text_no_fault m key = (written_text_own m key errors.SuiteFault, written_text_own m key errors.NoMemory)
