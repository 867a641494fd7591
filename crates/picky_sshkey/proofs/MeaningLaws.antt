-- A private key's content, and its text, mean a key exactly where they say it, and they say one.
use Rattle.std.specs.{Prelude.{◌≡◌, true, false, List, ℕ, Option, None, Some, Result, Ok, Err}, Option.{IfSome}}
use Rattle.std.proofs.{Common.{◌∙◌, ap, inl, inr, refl, subst, sym}, lemmas.Bool.{ltb-true, lt-ltb}}
use Rattle.picky_wire_base.specs.{Flaw.{Reason}, Front.{Begins, read_front}, Numbers.{IsBytes}}
use Rattle.picky_wire_base.specs.{Outcome.{and_then, map_err}, carried.Inside.{front_complete, front_sound}}
use Rattle.picky_wire_base.specs.carried.Outcome.{and_then_ok, map_err_ok}
use Rattle.picky_wire_base.proofs.Numbers.{bytes_in_front}
use Rattle.picky_sshkey_blob.specs.{PemRefusal.{pem_content}, Key.{IsPrivateKey, public_part}}
use Rattle.picky_sshkey_blob.specs.declared.key.SshBasePrivateKey.{SshBasePrivateKey}
use Rattle.picky_sshkey_blob.proofs.MeaningLaws.{pem_means, pem_says}
use Rattle.picky_suite.specs.Meanings.{Meanings}
use Rattle.picky_keys.specs.{Blob.{blob}, LineRefusal.{is_short_text}}
use Rattle.picky_keys.specs.declared.key.SshBasePublicKey.{SshBasePublicKey}
use Rattle.picky_keys.proofs.LineLaws.{chosen}
use Rattle.picky_sshkey_blob.specs.declared.error.SshPrivateKeyError.TheVariants as errors
use Rattle.picky_sshkey.specs.declared.private_key.SshPrivateKey.{SshPrivateKey}
use Rattle.picky_sshkey.specs.{Envelope.{Envelope, envelope as layout}, Opened.{Lock}}
use Rattle.picky_sshkey.specs.PrivateBlock.{PrivateBlock, private_block}
use Rattle.picky_sshkey.specs.PrivateRefusal.{Closed, closed, content_key, envelope_error, envelope_under, is_public_part}
use Rattle.picky_sshkey.specs.PrivateRefusal.{key_closed, key_of_block, lock_of, plain_of, text_key}
use Rattle.picky_sshkey.specs.PrivateText.{IsOpened, IsPrivateContent, IsPrivateText, IsShortPass, key_in}
use Rattle.picky_sshkey.proofs.LockLaws.{lock_of_says, lock_of_none, lock_of_some, opened_bytes}
use Rattle.picky_sshkey.proofs.PieceLaws.{block_keeps, envelope_keeps}
use Rattle.picky_sshkey.proofs.PublicLaws.{says_public_is, says_public_refused, says_public_same}

-- ---- the passphrase is short

-- A passphrase that passes the test is short.
short_says : (given : Option (List ℕ)) → is_short_text given ≡ true → IsShortPass given
short_says None is = tt
short_says (Some pass) is = ltb-true _ _ is

-- A short one passes it.
short_means : (given : Option (List ℕ)) → IsShortPass given → is_short_text given ≡ true
short_means None short = refl
short_means (Some pass) short = lt-ltb _ _ short

-- ---- the envelope and its lock

-- An envelope that is read stands in front, under a short passphrase.
envelope_says : (given : Option (List ℕ)) (content : List ℕ) (e : Envelope) → envelope_under given content ≡ Ok e
    → IsShortPass given × Begins layout.piece content e
unfolding envelope_under
envelope_says given content e is =
    let passed = chosen (is_short_text given) _ errors.TooLong e is in
    let read = map_err_ok envelope_error (read_front layout content) e passed.1 in
    (short_says given passed.0, front_sound layout content e read)

-- An envelope that stands in front is read.
envelope_means : (given : Option (List ℕ)) (content : List ℕ) (e : Envelope) → IsShortPass given
    → Begins layout.piece content e → envelope_under given content ≡ Ok e
unfolding envelope_under
envelope_means given content e short begins =
    rw (short_means given short, front_complete layout content e begins) refl

-- What is closed is an envelope and its lock.
closed_says : (given : Option (List ℕ)) (content : List ℕ) (c : Closed) → closed given content ≡ Ok c
    → (envelope_under given content ≡ Ok c.envelope) × (lock_of given c.envelope ≡ Ok c.lock)
unfolding closed
closed_says given content c is =
    let one = and_then_ok (envelope_under given content) _ c is in
    let two = and_then_ok (lock_of given one.0) (λ lock. Ok (record { envelope = one.0; lock = lock })) c one.2 in
    let same : record { envelope = one.0; lock = two.0 } ≡ c = cc two.2 in
    subst (λ (d : Closed). (envelope_under given content ≡ Ok d.envelope) × (lock_of given d.envelope ≡ Ok d.lock)) same
    (one.1, two.1)

-- An envelope and its lock are closed.
closed_means : (given : Option (List ℕ)) (content : List ℕ) (e : Envelope) (lock : Option Lock)
    → envelope_under given content ≡ Ok e → lock_of given e ≡ Ok lock
    → closed given content ≡ Ok (record { envelope = e; lock = lock })
unfolding closed
closed_means given content e lock one two = rw (one, two) refl

-- ---- the block that is opened

-- A lock that is found opens the block.
opened_says : (m : Meanings) (given : Option (List ℕ)) (e : Envelope) (lock : Option Lock) → lock_of given e ≡ Ok lock
    → IsOpened m given e (plain_of m e lock)
opened_says m given e lock is = elim (lock_of_says given e lock is) [
  | inl bare ↦ inl (bare.1, ap (plain_of m e) bare.0)
  | inr shut ↦ inr (shut.0, shut.2, ap (plain_of m e) shut.1)
]

-- What a block of bytes was before it was sealed is bytes.
pub opened_is_bytes : (m : Meanings) (given : Option (List ℕ)) (e : Envelope) (plain : List ℕ) → IfSome given IsBytes
    → IsBytes e.option.salt → IsBytes e.block → IsOpened m given e plain → IsBytes plain
opened_is_bytes m given e plain pass salt block is = elim is [
  | inl bare ↦ subst IsBytes (sym bare.1) block
  | inr shut ↦
      let each = subst (λ g. IfSome g IsBytes) shut.1.pass pass in
      subst IsBytes (sym shut.2) (opened_bytes m shut.0 e.option e.block each salt block)
]

-- What opens the block is found.
opened_means : (m : Meanings) (given : Option (List ℕ)) (e : Envelope) (plain : List ℕ) → IsOpened m given e plain
    → (lock : Option Lock) × (lock_of given e ≡ Ok lock) × (plain_of m e lock ≡ plain)
opened_means m given e plain is = elim is [
  | inl bare ↦ (None, lock_of_none given e bare.0, sym bare.1)
  | inr shut ↦ (Some shut.0, lock_of_some given e shut.0 shut.1, sym shut.2)
]

-- ---- the public key before it

-- Where the outer key passes the test, it stands in front.
public_says : (outer : List ℕ) (key : SshBasePrivateKey) → IsBytes outer → IsPrivateKey key
    → is_public_part outer key ≡ true → Begins blob.piece outer (public_part key)
public_says outer key each private is = go (read_front blob outer) refl
  where
    go : (r : Result SshBasePublicKey Reason) → read_front blob outer ≡ r → Begins blob.piece outer (public_part key)
    go (Ok other) read =
        let same = says_public_is outer key other each private read is in
        front_sound blob outer (public_part key) (read ∙ ap Ok same)
    go (Err reason) refused =
        let differs : true ≡ false = sym is ∙ says_public_refused outer key reason refused in cc differs

-- Where it stands in front, it passes.
public_means : (outer : List ℕ) (key : SshBasePrivateKey) → Begins blob.piece outer (public_part key)
    → is_public_part outer key ≡ true
public_means outer key begins =
    says_public_same outer key (public_part key) (front_complete blob outer (public_part key) begins) refl

-- ---- a content

-- a block of the opened bytes, whose key has the envelope's public key
record IsBlockOf (m : Meanings) (given : Option (List ℕ)) (c : Closed) (key : SshPrivateKey) : Type 0 where
  block : PrivateBlock
  begins : Begins private_block.piece (plain_of m c.envelope c.lock) block
  public : is_public_part c.envelope.outer block.key ≡ true
  is : key_in given c.envelope block ≡ key

-- A key that is found in the opened bytes is one of a block there.
closed_key : (m : Meanings) (given : Option (List ℕ)) (c : Closed) (key : SshPrivateKey) → key_closed m given c ≡ Ok key
    → IsBlockOf m given c key
unfolding key_closed
closed_key m given c key has =
    let read = and_then_ok (read_front private_block (plain_of m c.envelope c.lock)) (key_of_block given c.envelope) key has in
    let passed = chosen (is_public_part c.envelope.outer read.0.key) _ errors.PublicKeyMismatch key read.2 in
    record {
      block = read.0;
      begins = front_sound private_block (plain_of m c.envelope c.lock) read.0 read.1;
      public = passed.0;
      is = cc passed.1;
    }

-- A content of bytes says the key that it means.
pub content_says : (m : Meanings) (given : Option (List ℕ)) (content : List ℕ) (key : SshPrivateKey) → IsBytes content
    → IfSome given IsBytes → content_key m given content ≡ Ok key → IsPrivateContent m given content key
unfolding content_key
content_says m given content key each pass has =
    let step = and_then_ok (closed given content) (key_closed m given) key has in
    let c : Closed = step.0 in
    let parts = closed_says given content c step.1 in
    let outside = envelope_says given content c.envelope parts.0 in
    let fits = outside.1.1 in
    let keeps = envelope_keeps c.envelope fits.0 (bytes_in_front fits.0 outside.1.0 (subst IsBytes fits.2 each)) fits.1 in
    let opened = opened_says m given c.envelope c.lock parts.1 in
    let plain = opened_is_bytes m given c.envelope (plain_of m c.envelope c.lock) pass keeps.0.salt.bytes keeps.2 opened in
    let inside = closed_key m given c key step.2 in
    let front = inside.begins.1 in
    let private = (block_keeps inside.block front.0 (bytes_in_front front.0 inside.begins.0 (subst IsBytes front.2 plain)) front.1).key in
    let public = public_says c.envelope.outer inside.block.key keeps.1 private inside.public in
    record {
      envelope = c.envelope;
      rest = outside.1.0;
      fits = fits;
      plain = plain_of m c.envelope c.lock;
      opened = opened;
      block = inside.block;
      padding = inside.begins.0;
      block_fits = front;
      outer_rest = public.0;
      outer_fits = public.1;
      key_is = sym inside.is;
    }

-- A block in front of the opened bytes has its key found.
block_means : (m : Meanings) (given : Option (List ℕ)) (e : Envelope) (lock : Option Lock) (block : PrivateBlock)
    → Begins private_block.piece (plain_of m e lock) block → is_public_part e.outer block.key ≡ true
    → key_closed m given (record { envelope = e; lock = lock }) ≡ Ok (key_in given e block)
unfolding key_closed
block_means m given e lock block begins public =
    rw (front_complete private_block (plain_of m e lock) block begins, public) refl

-- It means the key that it says.
pub content_means : (m : Meanings) (given : Option (List ℕ)) (content : List ℕ) (key : SshPrivateKey)
    → IsShortPass given → IsPrivateContent m given content key → content_key m given content ≡ Ok key
unfolding content_key
content_means m given content key short is =
    let outside = envelope_means given content is.envelope short (is.rest, is.fits) in
    let opened = opened_means m given is.envelope is.plain is.opened in
    let public = public_means is.envelope.outer is.block.key (is.outer_rest, is.outer_fits) in
    let begins = subst (λ plain. Begins private_block.piece plain is.block) (sym opened.2) (is.padding, is.block_fits) in
    ap (λ c. and_then c (key_closed m given)) (closed_means given content is.envelope opened.0 outside opened.1)
    ∙ block_means m given is.envelope opened.0 is.block begins public ∙ ap Ok (sym is.key_is)

-- It means one only under a passphrase that is short.
pub content_short : (m : Meanings) (given : Option (List ℕ)) (content : List ℕ) (key : SshPrivateKey)
    → content_key m given content ≡ Ok key → IsShortPass given
unfolding content_key
content_short m given content key has =
    let step = and_then_ok (closed given content) (key_closed m given) key has in
    let c : Closed = step.0 in
    (envelope_says given content c.envelope (closed_says given content c step.1).0).0

-- ---- a text

-- A text of bytes says the key that it means.
pub text_says : (m : Meanings) (given : Option (List ℕ)) (text : List ℕ) (key : SshPrivateKey) → IsBytes text
    → IfSome given IsBytes → text_key m given text ≡ Ok key → IsPrivateText m given text key
unfolding text_key
text_says m given text key each pass has =
    let step = and_then_ok (map_err errors.PemError (pem_content text)) (content_key m given) key has in
    let pem = pem_says text step.0 each (map_err_ok errors.PemError (pem_content text) step.0 step.1) in
    record {
      short = content_short m given step.0 key step.2;
      content = step.0;
      pem = pem;
      says = content_says m given step.0 key pem.bytes pass step.2;
    }

-- It means the key that it says.
pub text_means : (m : Meanings) (given : Option (List ℕ)) (text : List ℕ) (key : SshPrivateKey)
    → IsPrivateText m given text key → text_key m given text ≡ Ok key
unfolding text_key
text_means m given text key is =
    ap (λ r. and_then (map_err errors.PemError r) (content_key m given)) (pem_means text is.content is.pem)
    ∙ content_means m given is.content key is.short is.says

-- It says one key.
pub one_text_key : (m : Meanings) (given : Option (List ℕ)) (text : List ℕ) (k l : SshPrivateKey)
    → IsPrivateText m given text k → IsPrivateText m given text l → k ≡ l
one_text_key m given text k l first second =
    let both = sym (text_means m given text k first) ∙ text_means m given text l second in cc both
