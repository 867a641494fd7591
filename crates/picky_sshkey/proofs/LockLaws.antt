-- What opens a block: the order of its refusals answers what the relation says, and what is opened keeps.
use Rattle.std.specs.Prelude.{◌≡◌, ◌⊎◌, ◌||◌, ◌==◌, Bool, true, false, List, ℕ, Option, None, Some, Ok, length, not}
use Rattle.std.specs.Prelude.{◌+◌, if◌then◌else◌}
use Rattle.std.specs.Option.{ok_or}
use Rattle.std.specs.Str.{bytes_eq}
use Rattle.std.proofs.Common.{◌∙◌, ap, inl, inr, refl, subst, sym}
use Rattle.std.proofs.lemmas.Bool.{eq-eqb, eqb-true}
use Rattle.std.proofs.lemmas.Slice.Eq.{bytes_eq-Decides}
use Rattle.picky_wire_base.specs.Numbers.{IsBytes}
use Rattle.picky_wire_base.specs.Outcome.{and_then}
use Rattle.picky_wire_base.specs.Table.{find_entry}
use Rattle.picky_wire_base.specs.carried.Outcome.{and_then_ok}
use Rattle.picky_wire_base.specs.carried.Table.{entry_sound, key_is_found}
use Rattle.picky_wire_base.proofs.Numbers.{front_bytes, back_bytes}
use Rattle.picky_suite.specs.Meanings.{Meanings}
use Rattle.picky_suite.specs.Ranges.{bcrypt_fits}
use Rattle.picky_suite.proofs.RangeLemmas.{bcrypt_decides}
use Rattle.picky_keys.proofs.LineLaws.{chosen, some_of}
use Rattle.picky_sshkey_blob.specs.declared.error.SshPrivateKeyError.TheVariants as errors
use Rattle.picky_sshkey.specs.declared.cipher.Cipher.{Cipher}
use Rattle.picky_sshkey.specs.declared.kdf.KdfOption.{KdfOption}
use Rattle.picky_sshkey.specs.Cipher.{ciphers, is_cbc, key_len}
use Rattle.picky_sshkey.specs.CipherNames.{cipher_name}
use Rattle.picky_sshkey.specs.Envelope.{Envelope}
use Rattle.picky_sshkey.specs.Kdf.{none, bcrypt}
use Rattle.picky_sshkey.specs.Opened.{Lock, cipher_iv, cipher_key, derived, opened}
use Rattle.picky_sshkey.specs.PrivateRefusal.{lock_of, lock_under, sealed_under, takes_block}
use Rattle.picky_sshkey.specs.PrivateText.{IsLocked}

-- ---- the test of a block's length

-- A block that a chaining cipher takes is whole.
whole_of : (chains : Bool) (over : ℕ) → (not chains || over == 0) ≡ true → chains ≡ true → over ≡ 0
whole_of true over passes is = eqb-true over 0 passes
whole_of false over passes is = cc is

-- It takes a whole one.
of_whole : (chains : Bool) (over : ℕ) → (chains ≡ true → over ≡ 0) → (not chains || over == 0) ≡ true
of_whole true over whole = eq-eqb over 0 (whole refl)
of_whole false over whole = refl

-- ---- a lock that is found is one

-- A lock that is found under a cipher and a passphrase is one of the envelope.
under_says : (given : Option (List ℕ)) (e : Envelope) (cipher : Cipher) (pass : List ℕ) (lock : Lock)
    → e.cipher ≡ cipher_name cipher → e.kdf ≡ bcrypt → given ≡ Some pass → lock_under e cipher pass ≡ Ok lock
    → IsLocked given e lock
under_says given e cipher pass lock named kdf some is =
    let fits = chosen (bcrypt_fits (length pass) (length e.option.salt) e.option.rounds) _ errors.HashingError lock is in
    let takes = chosen (takes_block cipher e.block) _ errors.DecryptionError lock fits.1 in
    let same : record { cipher = cipher; pass = pass } ≡ lock = cc takes.1 in
    subst (IsLocked given e) same (record {
      cipher = named;
      kdf = kdf;
      pass = some;
      range = (bcrypt_decides (length pass) (length e.option.salt) e.option.rounds).0 fits.0;
      whole = whole_of (is_cbc cipher) _ takes.0;
    })

-- So is one that is found for a block that is sealed.
sealed_says : (given : Option (List ℕ)) (e : Envelope) (lock : Lock) → sealed_under given e ≡ Ok lock
    → IsLocked given e lock
unfolding sealed_under ciphers
sealed_says given e lock is =
    let found = and_then_ok (ok_or (find_entry ciphers e.cipher) (errors.UnsupportedCipher e.cipher)) _ lock is in
    let kdf = chosen (bytes_eq e.kdf bcrypt) _ (errors.UnsupportedKdf e.kdf) lock found.2 in
    let pass = and_then_ok (ok_or given errors.MissingPassphrase) (lock_under e found.0) lock kdf.1 in
    let named = entry_sound ciphers (λ name. errors.UnsupportedCipher name) e.cipher found.0 found.1 in
    under_says given e found.0 pass.0 lock (sym named) ((bytes_eq-Decides e.kdf bcrypt).0 kdf.0)
    (some_of given errors.MissingPassphrase pass.0 pass.1) pass.2

-- Where there is none no derivation is named, and else it is a lock of the envelope.
pub lock_of_says : (given : Option (List ℕ)) (e : Envelope) (lock : Option Lock) → lock_of given e ≡ Ok lock
    → ((lock ≡ None) × (e.kdf ≡ none)) ⊎ ((l : Lock) × (lock ≡ Some l) × IsLocked given e l)
unfolding lock_of
lock_of_says given e lock is = go (bytes_eq e.kdf none) refl is
  where
    go : (plain : Bool) → bytes_eq e.kdf none ≡ plain
        → (if plain then Ok None else and_then (sealed_under given e) (λ l. Ok (Some l))) ≡ Ok lock
        → ((lock ≡ None) × (e.kdf ≡ none)) ⊎ ((l : Lock) × (lock ≡ Some l) × IsLocked given e l)
    go true same answers = inl (cc answers, (bytes_eq-Decides e.kdf none).0 same)
    go false other answers =
        let found = and_then_ok (sealed_under given e) (λ l. Ok (Some l)) lock answers in
        inr (found.0, cc found.2, sealed_says given e found.0 found.1)

-- ---- and a lock is found

-- Where no derivation is named, there is none.
pub lock_of_none : (given : Option (List ℕ)) (e : Envelope) → e.kdf ≡ none → lock_of given e ≡ Ok None
unfolding lock_of
lock_of_none given e kdf = rw ((bytes_eq-Decides e.kdf none).1 kdf) refl

-- The two names of derivations differ.
names_differ : bytes_eq bcrypt none ≡ false
unfolding bcrypt none
names_differ = refl

-- A cipher is found by its name.
cipher_found : (e : Envelope) (cipher : Cipher) → e.cipher ≡ cipher_name cipher
    → find_entry ciphers e.cipher ≡ Some cipher
unfolding ciphers
cipher_found e cipher named = key_is_found ciphers e.cipher cipher (sym named)

-- A lock of the envelope is found under its cipher and passphrase.
under_means : (given : Option (List ℕ)) (e : Envelope) (lock : Lock) → IsLocked given e lock
    → lock_under e lock.cipher lock.pass ≡ Ok lock
under_means given e lock locked =
    let fits = (bcrypt_decides (length lock.pass) (length e.option.salt) e.option.rounds).1 locked.range in
    let takes : takes_block lock.cipher e.block ≡ true = of_whole (is_cbc lock.cipher) _ locked.whole in
    rw (fits, takes) refl

-- It is found for the block that is sealed.
sealed_means : (given : Option (List ℕ)) (e : Envelope) (lock : Lock) → IsLocked given e lock
    → sealed_under given e ≡ Ok lock
unfolding sealed_under
sealed_means given e lock locked =
    let found = cipher_found e lock.cipher locked.cipher in
    let kdf = (bytes_eq-Decides e.kdf bcrypt).1 locked.kdf in
    let under = under_means given e lock locked in
    rw (found, kdf, locked.pass, under) refl

-- A lock of the envelope is found.
pub lock_of_some : (given : Option (List ℕ)) (e : Envelope) (lock : Lock) → IsLocked given e lock
    → lock_of given e ≡ Ok (Some lock)
unfolding lock_of
lock_of_some given e lock locked =
    let other : bytes_eq e.kdf none ≡ false = ap (λ k. bytes_eq k none) locked.kdf ∙ names_differ in
    rw (other, sealed_means given e lock locked) refl

-- ---- what is opened

-- What holds of both holds of either.
either : {A : Type 0} (P : A → Type 0) (b : Bool) (x y : A) → P x → P y → P (if b then x else y)
either P true x y left right = left
either P false x y left right = right

-- What is opened of bytes is bytes.
pub opened_bytes : (m : Meanings) (lock : Lock) (option : KdfOption) (block : List ℕ) → IsBytes lock.pass
    → IsBytes option.salt → IsBytes block → IsBytes (opened m lock option block)
unfolding opened
opened_bytes m lock option block pass salt each =
    let all = m.bcrypt_bytes lock.pass option.salt option.rounds (key_len lock.cipher + 16) pass salt in
    let key = front_bytes (key_len lock.cipher) (derived m lock option) all in
    let iv = back_bytes (key_len lock.cipher) (derived m lock option) all in
    either IsBytes (is_cbc lock.cipher) _ _ (m.open_bytes _ _ block key iv each) (m.ctr_bytes _ _ block key iv each)

-- Opening changes no length.
pub length-opened : (m : Meanings) (lock : Lock) (option : KdfOption) (block : List ℕ)
    → length (opened m lock option block) ≡ length block
unfolding opened
length-opened m lock option block =
    let key = cipher_key m lock option in
    let iv = cipher_iv m lock option in
    either (λ (bytes : List ℕ). length bytes ≡ length block) (is_cbc lock.cipher) (m.cbc_open key iv block) (m.ctr key iv block)
    (m.open_len key iv block) (m.ctr_len key iv block)

-- The counter mode undoes itself.
pub opened-opened : (m : Meanings) (lock : Lock) (option : KdfOption) (block : List ℕ) → is_cbc lock.cipher ≡ false
    → opened m lock option (opened m lock option block) ≡ block
unfolding opened
opened-opened m lock option block counts = rw counts (m.twice (cipher_key m lock option) (cipher_iv m lock option) block)
