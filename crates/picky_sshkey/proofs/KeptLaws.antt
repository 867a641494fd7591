-- What is written of a private key is read back, sealed or not, under its own passphrase.
use Rattle.std.specs.Prelude.{◌≡◌, ◌<◌, ◌^◌, ◌++◌, true, List, [], ℕ, Option, None, Some, Ok, length}
use Rattle.std.specs.{Option.{IfSome}, Str.{trim_end}}
use Rattle.std.proofs.{Common.{◌∙◌, ap, arith, inl, inr, refl, subst, sym}, lemmas.Bool.{ltb-true}}
use Rattle.std.proofs.lemmas.List.{append-nil, length-append}
use Rattle.picky_wire_base.specs.{Numbers.{IsBytes}, Outcome.{and_then, map_err}, carried.Outcome.{and_then_ok}}
use Rattle.picky_wire_base.proofs.Numbers.{bytes_in_front}
use Rattle.picky_sshkey_blob.specs.{Pem.{pem_text}, Key.{public_part}}
use Rattle.picky_sshkey_blob.proofs.{TextLaws.{text_is_long, text_read_back}, KeyLaws.{public_part_is_key}}
use Rattle.picky_suite.specs.Meanings.{Meanings}
use Rattle.picky_suite.proofs.RangeLemmas.{bcrypt_decides}
use Rattle.picky_text.proofs.WordLaws.{IsUtf8-trim_end, trim_end-trim_end, trim_end_front}
use Rattle.picky_keys.specs.{Blob.{blob_of}, Key.{IsText}, carried.Blob.{blob_spells}}
use Rattle.picky_keys.proofs.LineLaws.{chosen}
use Rattle.picky_sshkey_blob.specs.declared.error.SshPrivateKeyError.TheVariants as errors
use Rattle.picky_sshkey.specs.{declared.cipher.Cipher.TheVariants.{Aes256Ctr}, declared.kdf.KdfOption.{KdfOption}}
use Rattle.picky_sshkey.specs.{declared.private_key.SshPrivateKey.{SshPrivateKey}, Kept.{IsSshPrivateKey, read_again}}
use Rattle.picky_sshkey.specs.{Opened.{Lock, opened}, PrivateRefusal.{content_key, text_key}}
use Rattle.picky_sshkey.specs.PrivateText.{IsOpened, IsPrivateContent, IsShortPass}
use Rattle.picky_sshkey.specs.Written.{content_under, envelope_of, unpadded_block, key_content, key_text, lock_kept, may_derive}
use Rattle.picky_sshkey.specs.Written.{block_padding, plain_block, sealable, sealed_block, text_len, unit_of, written_cipher}
use Rattle.picky_sshkey.specs.Written.{written_kdf, written_option}
use Rattle.picky_sshkey.proofs.{LockLaws.{length-opened, opened-opened, opened_bytes}, MeaningLaws.{content_means}}
use Rattle.picky_sshkey.proofs.BlockLaws.{block_is_bytes, block_read, block_spells}
use Rattle.picky_sshkey.proofs.WrittenLaws.{envelope_is_bytes, envelope_read, envelope_spells, length-envelope_of}
use Rattle.picky_sshkey.proofs.WrittenLaws.{written_keeps}

-- ---- sealing

-- Sealing changes no length.
pub sealed_len : (m : Meanings) (key : SshPrivateKey) (lock : Option Lock)
    → length (sealed_block m lock key) ≡ length (plain_block key)
sealed_len m key None = refl
sealed_len m key (Some lock) = length-opened m lock key.kdf.option (plain_block key)

-- Envelopes round blocks of one length have one length.
pub envelopes_alike : (key : SshPrivateKey) (a b : List ℕ) → length a ≡ length b
    → length (envelope_of key a) ≡ length (envelope_of key b)
envelopes_alike key a b same = omega (arith, same, length-envelope_of key a, length-envelope_of key b)

-- An envelope is as long as it was before its block was sealed.
pub length-sealed : (m : Meanings) (key : SshPrivateKey) (lock : Lock) (option : KdfOption) (block : List ℕ)
    → length (envelope_of key (opened m lock option block)) ≡ length (envelope_of key block)
length-sealed m key lock option block =
    envelopes_alike key (opened m lock option block) block (length-opened m lock option block)

-- What is sealed is opened under the same passphrase.
sealed_opens : (m : Meanings) (key : SshPrivateKey) (given : Option (List ℕ)) (outer : List ℕ)
    → may_derive given key.kdf.option ≡ true
    → IsOpened m given
    (record {
      cipher = written_cipher given;
      kdf = written_kdf given;
      option = written_option given key.kdf.option;
      outer = outer;
      block = sealed_block m (lock_kept given) key;
    })
    (plain_block key)
sealed_opens m key None outer may = inl (refl, refl)
sealed_opens m key (Some pass) outer may =
    let lock : Lock = record { cipher = Aes256Ctr; pass = pass } in
    inr (
      lock,
      record {
        cipher = refl;
        kdf = refl;
        pass = refl;
        range = (bcrypt_decides (length pass) (length key.kdf.option.salt) key.kdf.option.rounds).0 may;
        whole = λ chains. cc chains;
      },
      sym (opened-opened m lock key.kdf.option (plain_block key) refl),
    )

-- What is sealed is bytes.
sealed_bytes : (m : Meanings) (key : SshPrivateKey) (given : Option (List ℕ)) → IsSshPrivateKey key → IfSome given IsText
    → IsBytes (sealed_block m (lock_kept given) key)
sealed_bytes m key None kept pass = block_is_bytes key kept
sealed_bytes m key (Some text) kept pass =
    opened_bytes m (record { cipher = Aes256Ctr; pass = text }) key.kdf.option (plain_block key) pass.string.bytes
    kept.option.salt.bytes (block_is_bytes key kept)

-- ---- what may be sealed

record IsSealable (measure : List ℕ → ℕ) (key : SshPrivateKey) (lock : Option Lock) : Type 0 where
  may : may_derive key.passphrase key.kdf.option ≡ true
  short : measure (envelope_of key (plain_block key)) < 2 ^ 32
  is : lock_kept key.passphrase ≡ lock

-- What may be sealed may be derived for, is short, and has its lock.
sealable_says : (measure : List ℕ → ℕ) (key : SshPrivateKey) (lock : Option Lock) → sealable measure key ≡ Ok lock
    → IsSealable measure key lock
unfolding sealable
sealable_says measure key lock is =
    let may = chosen (may_derive key.passphrase key.kdf.option) _ errors.HashingError lock is in
    let short = chosen _ _ errors.TooLong lock may.1 in
    record { may = may.0; short = ltb-true _ _ short.0; is = cc short.1 }

-- ---- the content

-- A passphrase that is text is short.
short_pass : (given : Option (List ℕ)) → IfSome given IsText → IsShortPass given
short_pass None is = tt
short_pass (Some pass) is = is.string.short

-- the content that is written
abbrev written : Meanings → SshPrivateKey → List ℕ
written m key = content_under m key (lock_kept key.passphrase)

-- A content is as short sealed as before.
written_short : (m : Meanings) (key : SshPrivateKey) → length (envelope_of key (plain_block key)) < 2 ^ 32
    → length (written m key) < 2 ^ 32
written_short m key short =
    let same = envelopes_alike key (sealed_block m (lock_kept key.passphrase) key) (plain_block key)
    (sealed_len m key (lock_kept key.passphrase)) in
    omega (arith, short, same)

-- A block is its fields and their padding.
plain_is : (key : SshPrivateKey)
    → plain_block key ≡ unpadded_block key ++ block_padding (unit_of key.passphrase) (unpadded_block key)
unfolding plain_block
plain_is key = refl

-- The content says the key that is read of it, whatever follows.
pub written_says : (m : Meanings) (key : SshPrivateKey) (more : List ℕ) → IsSshPrivateKey key
    → may_derive key.passphrase key.kdf.option ≡ true → length (envelope_of key (plain_block key)) < 2 ^ 32
    → IsPrivateContent m key.passphrase (content_under m key (lock_kept key.passphrase) ++ more) (read_again key)
written_says m key more kept may short =
    let block = sealed_block m (lock_kept key.passphrase) key in
    let outer = blob_of (public_part key.base_key) in
    record {
      envelope = envelope_read key block;
      rest = more;
      fits = (envelope_of key block, envelope_spells key block kept (written_short m key short), refl);
      plain = plain_block key;
      opened = sealed_opens m key key.passphrase outer may;
      block = block_read key;
      padding = block_padding (unit_of key.passphrase) (unpadded_block key);
      block_fits = (unpadded_block key, block_spells key kept, plain_is key);
      outer_rest = [];
      outer_fits = (outer, blob_spells (public_part key.base_key) (public_part_is_key key.base_key kept.base_key), sym (append-nil outer));
      key_is = refl;
    }

-- The content that is written is read back, whatever follows it.
pub content_reads_back : (m : Meanings) (key : SshPrivateKey) (content more : List ℕ) → IsSshPrivateKey key
    → key_content m key ≡ Ok content → content_key m key.passphrase (content ++ more) ≡ Ok (read_again key)
unfolding key_content
content_reads_back m key content more kept has =
    let step = and_then_ok (sealable length key) (λ lock. Ok (content_under m key lock)) content has in
    let may = sealable_says length key step.0 step.1 in
    let same : content_under m key step.0 ≡ content = cc step.2 in
    let whole : written m key ≡ content = ap (content_under m key) may.is ∙ same in
    subst (λ c. content_key m key.passphrase (c ++ more) ≡ Ok (read_again key)) whole
    (content_means m key.passphrase (written m key ++ more) (read_again key) (short_pass key.passphrase kept.passphrase)
    (written_says m key more kept may.may may.short))

-- ---- the text

-- The text of a content that is written is read back, whatever follows it.
written_reads_back : (m : Meanings) (key : SshPrivateKey) (more : List ℕ) → IsSshPrivateKey key
    → may_derive key.passphrase key.kdf.option ≡ true → length (envelope_of key (plain_block key)) < 2 ^ 32
    → text_key m key.passphrase (pem_text (written m key) ++ more) ≡ Ok (read_again key)
unfolding text_key
written_reads_back m key more kept may short =
    let block = sealed_block m (lock_kept key.passphrase) key in
    let each = envelope_is_bytes key block kept (sealed_bytes m key key.passphrase kept kept.passphrase) in
    let pem = text_read_back (written m key) more each (written_short m key short) in
    let alone = content_means m key.passphrase (written m key ++ []) (read_again key) (short_pass key.passphrase kept.passphrase)
    (written_says m key [] kept may short) in
    ap (λ r. and_then (map_err errors.PemError r) (content_key m key.passphrase)) pem
    ∙ ap (content_key m key.passphrase) (sym (append-nil (written m key))) ∙ alone

-- So is the text.
pub text_reads_back : (m : Meanings) (key : SshPrivateKey) (text more : List ℕ) → IsSshPrivateKey key
    → key_text m key ≡ Ok text → text_key m key.passphrase (text ++ more) ≡ Ok (read_again key)
unfolding key_text
text_reads_back m key text more kept has =
    let step = and_then_ok (sealable text_len key) (λ lock. Ok (pem_text (content_under m key lock))) text has in
    let may = sealable_says text_len key step.0 step.1 in
    let same : pem_text (content_under m key step.0) ≡ text = cc step.2 in
    let whole : pem_text (written m key) ≡ text = ap (λ lock. pem_text (content_under m key lock)) may.is ∙ same in
    let short : length (envelope_of key (plain_block key)) < 2 ^ 32 =
    omega (arith, may.short, text_is_long (envelope_of key (plain_block key))) in
    subst (λ t. text_key m key.passphrase (t ++ more) ≡ Ok (read_again key)) whole
    (written_reads_back m key more kept may.may short)

-- ---- and what is read again of what was read again

-- Options that are written are written as they are.
written_twice : (given : Option (List ℕ)) (option : KdfOption)
    → written_option given (written_option given option) ≡ written_option given option
written_twice None option = refl
written_twice (Some pass) option = refl

-- A key that is read again is read again as it is.
pub read_again-read_again : (key : SshPrivateKey) → IsSshPrivateKey key → read_again (read_again key) ≡ read_again key
read_again-read_again key kept =
    let once = read_again key in
    ap (λ option. record once {
      kdf = record { name = written_kdf key.passphrase; option = option };
      comment = trim_end (trim_end key.comment);
    }) (written_twice key.passphrase key.kdf.option)
    ∙ ap (λ comment. record once { comment = comment }) (trim_end-trim_end key.comment kept.comment.utf8)

-- Text without the white space at its end is text.
pub trimmed_keeps : (text : List ℕ) → IsText text → IsText (trim_end text)
trimmed_keeps text is =
    let front = trim_end_front text is.utf8 in
    record {
      string = record {
        bytes = bytes_in_front (trim_end text) front.0 (subst IsBytes (sym front.1) is.string.bytes);
        short = omega (arith, is.string.short, length-append (trim_end text) front.0, ap length front.1);
      };
      utf8 = IsUtf8-trim_end text is.utf8;
    }

-- It keeps what a key does.
pub IsSshPrivateKey-read_again : (key : SshPrivateKey) → IsSshPrivateKey key → IsSshPrivateKey (read_again key)
IsSshPrivateKey-read_again key kept = record {
  base_key = kept.base_key;
  check = kept.check;
  comment = trimmed_keeps key.comment kept.comment;
  passphrase = kept.passphrase;
  option = written_keeps key.passphrase key.kdf.option kept.option;
}
