-- Without a passphrase no suite is asked, neither of the text nor of what is written of it.
use Rattle.std.specs.Prelude.{◌≡◌, ◌⊎◌, ◌^◌, nat_lt, Bool, true, false, List, ℕ, Option, None, Some, Result, Ok, Err, if◌then◌else◌}
use Rattle.std.proofs.Common.{◌∙◌, ap, inl, inr, refl, subst, sym}
use Rattle.picky_wire_base.specs.Outcome.{and_then, map_err}
use Rattle.picky_wire_base.specs.carried.Outcome.{and_then_ok}
use Rattle.picky_keys.proofs.LineLaws.{chosen}
use Rattle.picky_suite.specs.Asked.{LeavesSuite}
use Rattle.picky_suite.specs.Failures.{IsAskedFault}
use Rattle.picky_suite.specs.Meanings.{Meanings}
use Rattle.picky_sshkey_blob.specs.declared.error.SshPrivateKeyError.{SshPrivateKeyError}
use Rattle.picky_sshkey_blob.specs.declared.error.SshPrivateKeyError.TheVariants as private
use Rattle.picky_sshkey_blob.specs.PemRefusal.{pem_content}
use Rattle.picky_wire_base.specs.Front.{read_front}
use Rattle.picky_sshkey.specs.PrivateBlock.{private_block}
use Rattle.picky_sshkey.specs.PrivateRefusal.{Closed, closed, content_key, is_public_part, key_closed, key_of_block, plain_of}
use Rattle.picky_sshkey.specs.PrivateRefusal.{text_asks, text_key}
use Rattle.picky_sshkey.specs.PrivateText.{key_in}
use Rattle.picky_sshkey.specs.Written.{envelope_of, is_kept, key_text, lock_kept, may_derive, plain_block}
use Rattle.picky_sshkey.specs.Written.{sealable, text_len, text_writing_asks}
use Rattle.picky_sshkey.specs.declared.private_key.SshPrivateKey.{SshPrivateKey}
use Rattle.picky_key_text.specs.Form.{form_of}
use Rattle.picky_key_text.specs.Order.{asks, asks_as, reading}
use Rattle.picky_key_text.specs.declared.error.ReadError.{ReadError}
use Rattle.picky_key_text.specs.declared.error.ReadError.TheVariants as read
use Rattle.picky_key_text.specs.declared.meaning.Meaning.{Meaning}
use Rattle.picky_key_text.specs.declared.form.Form.TheVariants as forms
use Rattle.picky_target.specs.declared.error.ConvertError.{ConvertError}
use Rattle.picky_target.specs.declared.error.ConvertError.TheVariants as errors
use Rattle.picky_changed.specs.Comment.{not_commented, of_private, private_refusal}
use Rattle.picky_changed.specs.inner.Unread.{unread_private, unread_text}
use Rattle.picky_key_text.proofs.UnaskedLaws.{unasked}

-- a text in OpenSSH's form
pub text_unasked : (text : List ℕ) → form_of text ≡ forms.Envelope → text_asks None text ≡ false
unfolding asks
text_unasked text form = subst (λ f. asks_as f None text ≡ false) form (unasked text)

-- a fault isn't answered where no suite is asked
not_asked : {P : Type 0} {E : Type 0} (e want fault : E) (asked : Bool) (rose : Type 0) → asked ≡ false
    → (e ≡ want) ⊎ ((e ≡ fault) × IsAskedFault asked rose) ⊎ P → (e ≡ want) ⊎ P
not_asked e want fault asked rose unasked_is (inl memory) = inl memory
not_asked e want fault asked rose unasked_is (inr (inl was)) = let never : true ≡ false = sym was.1.0 ∙ unasked_is in cc never
not_asked e want fault asked rose unasked_is (inr (inr refused)) = inr refused

-- the key of such a text keeps no passphrase
closed_keeps : (m : Meanings) (given : Option (List ℕ)) (c : Closed) (key : SshPrivateKey) → key_closed m given c ≡ Ok key
    → key.passphrase ≡ given
unfolding key_closed
closed_keeps m given c key has =
    let read = and_then_ok (read_front private_block (plain_of m c.envelope c.lock)) (key_of_block given c.envelope) key has in
    let passed = chosen (is_public_part c.envelope.outer read.0.key) _ private.PublicKeyMismatch key read.2 in
    let same : key_in given c.envelope read.0 ≡ key = cc passed.1 in
    sym (ap (λ (k : SshPrivateKey). k.passphrase) same)

pub text_keeps : (m : Meanings) (given : Option (List ℕ)) (text : List ℕ) (key : SshPrivateKey) → text_key m given text ≡ Ok key
    → key.passphrase ≡ given
unfolding text_key content_key
text_keeps m given text key has =
    let content = and_then_ok (map_err private.PemError (pem_content text)) (content_key m given) key has in
    let step = and_then_ok (closed given content.0) (key_closed m given) key content.2 in
    closed_keeps m given step.0 key step.2

-- what is written of one without a passphrase asks no suite
kept_unasked : (may short : Bool) (given : Option (List ℕ)) → given ≡ None
    → is_kept (if may then (if short then Ok (lock_kept given) else Err private.TooLong) else Err private.HashingError) ≡ false
kept_unasked true true None is = refl
kept_unasked true true (Some pass) is = cc is
kept_unasked true false given is = refl
kept_unasked false short given is = refl

pub key_unasked : (key : SshPrivateKey) → key.passphrase ≡ None → text_writing_asks key ≡ false
unfolding text_writing_asks sealable
key_unasked key bare =
    kept_unasked (may_derive key.passphrase key.kdf.option) (nat_lt (text_len (envelope_of key (plain_block key))) (2 ^ 32))
    key.passphrase bare

-- ---- what a call answers of such a text

private_read : (says : Result SshPrivateKey SshPrivateKeyError) (e : SshPrivateKeyError) → (e ≡ private.NoMemory) ⊎ (says ≡ Err e)
    → (unread_private e ≡ errors.NoMemory) ⊎ (map_err of_private says ≡ Err (unread_private e))
private_read says private.NoMemory refused = inl refl
private_read says e (inl want) = cc want
private_read says e (inr is) = inr (ap (map_err of_private) is)

pub key_is_unread : (m : Meanings) (text : List ℕ) (e : SshPrivateKeyError) (refusal : ConvertError) (rose : Type 0)
    → form_of text ≡ forms.Envelope → refusal ≡ unread_private e
    → (e ≡ private.NoMemory) ⊎ ((e ≡ private.SuiteFault) × IsAskedFault (text_asks None text) rose) ⊎ (text_key m None text ≡ Err e)
    → (refusal ≡ errors.NoMemory) ⊎ (map_err of_private (text_key m None text) ≡ Err refusal)
key_is_unread m text e refusal rose form is refused =
    rw is (private_read (text_key m None text) e
    (not_asked e private.NoMemory private.SuiteFault (text_asks None text) rose (text_unasked text form) refused))

pub reading_stays : {S A : Type 0} (meanings : S → Meanings) (faults : S → ℕ) (result : Result A SshPrivateKeyError)
    (text : List ℕ) (old new : S) → form_of text ≡ forms.Envelope
    → LeavesSuite meanings faults private.SuiteFault (text_asks None text) result old new → new ≡ old
reading_stays meanings faults result text old new form leaves = leaves.unasked (text_unasked text form)

-- ---- and of what is written

private_written : (says : Result (List ℕ) SshPrivateKeyError) (e : SshPrivateKeyError) → (e ≡ private.NoMemory) ⊎ (says ≡ Err e)
    → (private_refusal e ≡ errors.NoMemory) ⊎ (map_err private_refusal says ≡ Err (private_refusal e))
private_written says private.NoMemory refused = inl refl
private_written says e (inl want) = cc want
private_written says e (inr is) = inr (ap (map_err private_refusal) is)

pub key_is_unwritten : (m : Meanings) (key : SshPrivateKey) (e : SshPrivateKeyError) (refusal : ConvertError) (rose : Type 0)
    → key.passphrase ≡ None → refusal ≡ private_refusal e
    → (e ≡ private.NoMemory) ⊎ ((e ≡ private.SuiteFault) × IsAskedFault (text_writing_asks key) rose) ⊎ (key_text m key ≡ Err e)
    → (refusal ≡ errors.NoMemory) ⊎ (map_err private_refusal (key_text m key) ≡ Err refusal)
key_is_unwritten m key e refusal rose bare is refused =
    rw is (private_written (key_text m key) e
    (not_asked e private.NoMemory private.SuiteFault (text_writing_asks key) rose (key_unasked key bare) refused))

pub writing_stays : {S A : Type 0} (meanings : S → Meanings) (faults : S → ℕ) (result : Result A SshPrivateKeyError)
    (key : SshPrivateKey) (old new : S) → key.passphrase ≡ None
    → LeavesSuite meanings faults private.SuiteFault (text_writing_asks key) result old new → new ≡ old
writing_stays meanings faults result key old new bare leaves = leaves.unasked (key_unasked key bare)

-- ---- a certificate's text

certificate_read : (says : Result Meaning ReadError) (e : ReadError) → (e ≡ read.NoMemory) ⊎ (says ≡ Err e)
    → (unread_text e ≡ errors.NoMemory) ⊎ (and_then (map_err errors.Input says) not_commented ≡ Err (unread_text e))
certificate_read says read.NoMemory refused = inl refl
certificate_read says e (inl want) = cc want
certificate_read says e (inr is) = inr (ap (λ t. and_then (map_err errors.Input t) not_commented) is)

pub text_is_unread : (m : Meanings) (text : List ℕ) (e fault : ReadError) (refusal : ConvertError) (rose : Type 0)
    → refusal ≡ unread_text e
    → (e ≡ read.NoMemory) ⊎ ((e ≡ fault) × IsAskedFault (asks None text) rose)
    ⊎ (reading (record { meanings = m; pass = None }) text ≡ Err e)
    → (refusal ≡ errors.NoMemory)
    ⊎ (and_then (map_err errors.Input (reading (record { meanings = m; pass = None }) text)) not_commented ≡ Err refusal)
text_is_unread m text e fault refusal rose is refused =
    rw is (certificate_read (reading (record { meanings = m; pass = None }) text) e
    (not_asked e read.NoMemory fault (asks None text) rose (unasked text) refused))

pub text_stays : {S A : Type 0} (meanings : S → Meanings) (faults : S → ℕ) (fault : ReadError) (result : Result A ReadError)
    (text : List ℕ) (old new : S) → LeavesSuite meanings faults fault (asks None text) result old new → new ≡ old
text_stays meanings faults fault result text old new leaves = leaves.unasked (unasked text)
