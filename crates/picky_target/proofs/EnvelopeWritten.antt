-- What is written of OpenSSH's private key step by step is what its conditions say.
use Rattle.std.proofs.Common.{◌≡◌, ◌≤◌, ◌^◌, ℕ, List, [], true, false, Option, None, Some, length, take, refl, arith, inl, inr}
use Rattle.std.specs.Prelude.{◌++◌, nat_le}
use Rattle.std.specs.Int.{w32, to_be_bytes}
use Rattle.std.proofs.lemmas.Bool.{cases_Bool, leb-true, le-leb, ltb-false, lt-ltb, le-ltb}
use Rattle.std.proofs.lemmas.List.{length-append, length-take}
use Rattle.picky_wire_base.specs.Wire.{string_of}
use Rattle.picky_wire_base.proofs.PieceLemmas.{length-string_of}
use Rattle.picky_sshkey_blob.specs.Pem.{pem_text}
use Rattle.picky_sshkey_blob.proofs.TextLaws.{text_is_long}
use Rattle.picky_suite.specs.Meanings.{Meanings}
use Rattle.picky_suite.specs.Ranges.{bcrypt_fits}
use Rattle.picky_suite.proofs.RangeLemmas.{bcrypt_decides}
use Rattle.picky_keys.specs.LineRefusal.{is_short}
use Rattle.picky_sshkey_blob.specs.Blob.{secret_of}
use Rattle.picky_sshkey_blob.specs.declared.key.SshBasePrivateKey.{SshBasePrivateKey}
use Rattle.picky_sshkey.specs.declared.private_key.SshPrivateKey.{SshPrivateKey}
use Rattle.picky_sshkey.specs.Made.{key_made, made_of}
use Rattle.picky_sshkey.specs.Written.{envelope_of, unpadded_block, key_text, block_padding, plain_block, sealable, text_writing_asks, unit_of}
use Rattle.picky_sshkey.proofs.WrittenLemmas.{block_within}
use Rattle.picky_key_text.specs.Key.{private_meaning}
use Rattle.picky_target.specs.declared.target.KeyTarget.TheVariants as targets
use Rattle.picky_target.specs.Drafts.{with_rounds}
use Rattle.picky_target.specs.Output.{Output}
use Rattle.picky_target.specs.Judged.{is_short_envelope, is_trimmed, judged_meaning}
use Rattle.picky_target.specs.Written.{written, writing_asks}
use Rattle.picky_target.specs.inner.Envelope.{envelope_written, envelope_asks}

-- ---- a text is longer than the comment in it

fields_len : (key : SshPrivateKey) → length key.comment ≤ length (unpadded_block key)
unfolding unpadded_block
fields_len key =
    let check = to_be_bytes w32 key.check in
    let secret = secret_of key.base_key in
    let comment = string_of key.comment in
    omega (
      arith,
      length-append check (check ++ (secret ++ (comment ++ []))),
      length-append check (secret ++ (comment ++ [])),
      length-append secret (comment ++ []),
      length-append comment [],
      length-string_of key.comment,
    )

block_len : (key : SshPrivateKey) → length (unpadded_block key) ≤ length (plain_block key)
unfolding plain_block
block_len key = omega (arith, length-append (unpadded_block key) (block_padding (unit_of key.passphrase) (unpadded_block key)))

comment_within : (key : SshPrivateKey) → length key.comment ≤ length (pem_text (envelope_of key (plain_block key)))
comment_within key =
    omega (
      arith,
      fields_len key,
      block_len key,
      block_within key (plain_block key),
      text_is_long (envelope_of key (plain_block key)),
    )

-- so a key whose comment is too long has too long a text
long_comment : (key : SshPrivateKey) → is_short key.comment ≡ false → is_short_envelope key ≡ false
long_comment key long =
    let most = ltb-false (length key.comment) (2 ^ 32) long in
    le-ltb (length (pem_text (envelope_of key (plain_block key)))) (2 ^ 32) (omega (arith, most, comment_within key))

-- ---- each way

abbrev pub AreWritten : Meanings → Output → ℕ → SshBasePrivateKey → List ℕ → Type 0
AreWritten m out rounds key comment =
    (envelope_written m out rounds key comment ≡ written m out (targets.OpenSsh rounds) (private_meaning key comment))
    × (envelope_asks out rounds key comment ≡ writing_asks out (targets.OpenSsh rounds) (private_meaning key comment))

plain_is_written : (m : Meanings) (fresh : List ℕ) (rounds : ℕ) (key : SshBasePrivateKey) (comment : List ℕ)
    → AreWritten m (record { pass = None; fresh = fresh }) rounds key comment
unfolding written writing_asks judged_meaning key_made key_text text_writing_asks sealable
plain_is_written m fresh rounds key comment =
    let k = with_rounds rounds (made_of key None comment (take 16 fresh)) in
    let enough : nat_le 0 (length fresh) ≡ true = le-leb 0 (length fresh) (omega arith) in
    elim (cases_Bool (is_trimmed comment)) [
      | inr bad ↦ rw bad (refl, refl)
      | inl trimmed ↦ rw (trimmed, enough) (elim (cases_Bool (is_short comment)) [
        | inr long ↦ rw (long, long_comment k long) (refl, refl)
        | inl short ↦ rw short (elim (cases_Bool (is_short_envelope k)) [
          | inl room ↦ rw room (refl, refl)
          | inr none ↦ rw none (refl, refl)
        ])
      ])
    ]

sealed_is_written : (m : Meanings) (pass fresh : List ℕ) (rounds : ℕ) (key : SshBasePrivateKey) (comment : List ℕ)
    → AreWritten m (record { pass = Some pass; fresh = fresh }) rounds key comment
unfolding written writing_asks judged_meaning key_made key_text text_writing_asks sealable
sealed_is_written m pass fresh rounds key comment =
    let k = with_rounds rounds (made_of key (Some pass) comment (take 16 fresh)) in
    elim (cases_Bool (is_trimmed comment)) [
      | inr bad ↦ rw bad (refl, refl)
      | inl trimmed ↦ rw trimmed (elim (cases_Bool (bcrypt_fits (length pass) 16 rounds)) [
        | inr bad ↦ rw bad (refl, refl)
        | inl derives ↦ rw derives (elim (cases_Bool (nat_le 16 (length fresh))) [
          | inr few ↦ rw few (refl, refl)
          | inl enough ↦
              let sized : length (take 16 fresh) ≡ 16 = omega (arith, length-take 16 fresh, leb-true 16 (length fresh) enough) in
              let range = (bcrypt_decides (length pass) 16 rounds).0 derives in
              let pass_short : is_short pass ≡ true = lt-ltb (length pass) (2 ^ 32) range.1 in
              let may : bcrypt_fits (length pass) (length (take 16 fresh)) rounds ≡ true = rw sized derives in
              rw (enough, pass_short) (elim (cases_Bool (is_short comment)) [
                | inr long ↦ rw (long, long_comment k long) (refl, refl)
                | inl short ↦ rw (short, may) (elim (cases_Bool (is_short_envelope k)) [
                  | inl room ↦ rw room (refl, refl)
                  | inr none ↦ rw none (refl, refl)
                ])
              ])
        ])
      ])
    ]

-- OpenSSH's private key is written as its conditions say, and the suite is asked as they say.
pub envelope_is_written : (m : Meanings) (pass : Option (List ℕ)) (fresh : List ℕ) (rounds : ℕ) (key : SshBasePrivateKey)
    (comment : List ℕ) → AreWritten m (record { pass = pass; fresh = fresh }) rounds key comment
envelope_is_written m None fresh rounds key comment = plain_is_written m fresh rounds key comment
envelope_is_written m (Some pass) fresh rounds key comment = sealed_is_written m pass fresh rounds key comment
