-- OpenSSH's text that is written is read back.
use Rattle.std.proofs.Common.{◌≡◌, ◌∙◌, ◌<◌, ◌≤◌, ◌^◌, ℕ, List, [], true, Option, None, Some, Ok, length, take, refl, ap, sym}
use Rattle.std.proofs.Common.{subst, arith}
use Rattle.std.proofs.{lemmas.Bool.{lt-ltb}, lemmas.List.{append-nil, length-take}}
use Rattle.std.specs.{Option.{IfSome}, Str.{IsUtf8, trim_end}}
use Rattle.picky_wire_base.specs.Numbers.{IsBytes}
use Rattle.picky_sshkey_blob.specs.{Pem.{pem_text}, declared.key.SshBasePrivateKey.{SshBasePrivateKey}}
use Rattle.picky_sshkey_blob.specs.Key.{IsPrivateKey}
use Rattle.picky_sshkey_blob.proofs.TextLaws.{text_is_ascii}
use Rattle.picky_suite.specs.Meanings.{Meanings}
use Rattle.picky_suite.proofs.RangeLemmas.{bcrypt_decides}
use Rattle.picky_keys.specs.Key.{IsText}
use Rattle.picky_sshkey.specs.{declared.private_key.SshPrivateKey.{SshPrivateKey}, Kept.{IsSshPrivateKey, read_again}}
use Rattle.picky_sshkey.specs.{Made.{made_of, made_option}, PrivateRefusal.{text_key}}
use Rattle.picky_sshkey.specs.Written.{content_under, envelope_of, key_text, lock_kept, may_derive, plain_block, sealable}
use Rattle.picky_sshkey.proofs.{KeptLaws.{text_reads_back}, MeaningLaws.{text_says}, ReadLaws.{made_is_kept}}
use Rattle.picky_key_text.specs.declared.meaning.Key.TheVariants as keys
use Rattle.picky_key_text.specs.{Key.{private_meaning}, Reads.{Means, Reads}}
use Rattle.picky_target.specs.declared.target.KeyTarget.TheVariants as targets
use Rattle.picky_target.specs.Output.{Output}
use Rattle.picky_target.specs.Carried.{Carries, Comment, Derivation, Derives, Fresh, Length, need_under}
use Rattle.picky_target.specs.{Drafts.{openssh_key, with_rounds}, ReadBack.{under}, Texts.{envelope_text}}
use Rattle.picky_target.proofs.{ByteLemmas.{ascii_is_bytes, pass_is_bytes, take_bytes}, FormLaws.{envelope_form}}
use Rattle.picky_target.proofs.PlaceLemmas.{envelope_len}
use Rattle.picky_keys.proofs.ByteLaws.{utf8_is_bytes}

-- bcrypt can be run where the passphrase and the salt allow it
may_derive_of : (rounds : ℕ) (pass : Option (List ℕ)) (fresh : List ℕ) (key : SshBasePrivateKey)
    → Derives (targets.OpenSsh rounds) pass → need_under (targets.OpenSsh rounds) pass (keys.Private key) ≤ length fresh
    → may_derive pass (record { salt = (made_option pass (take 16 fresh)).salt; rounds = rounds }) ≡ true
may_derive_of rounds None fresh key derives enough = refl
may_derive_of rounds (Some pass) fresh key derives enough =
    let sized : length (take 16 fresh) ≡ 16 = omega (arith, length-take 16 fresh, enough) in
    rw sized ((bcrypt_decides (length pass) 16 rounds).1 derives)

-- and it allows none that isn't short
pass_is_text : (rounds : ℕ) (pass : Option (List ℕ)) → Derives (targets.OpenSsh rounds) pass → IfSome pass IsUtf8
    → IfSome pass IsText
pass_is_text rounds None derives is = tt
pass_is_text rounds (Some pass) derives is =
    record { string = record { bytes = utf8_is_bytes pass is; short = derives.1 }; utf8 = is }

-- a key that says other rounds keeps what it kept
rounds_are_kept : (rounds : ℕ) (key : SshPrivateKey) → rounds < 2 ^ 32 → IsSshPrivateKey key → IsSshPrivateKey (with_rounds rounds key)
rounds_are_kept rounds key fit kept = record {
  base_key = kept.base_key;
  check = kept.check;
  comment = kept.comment;
  passphrase = kept.passphrase;
  option = record { salt = kept.option.salt; rounds = fit };
}

-- such a key is written
written : (m : Meanings) (key : SshPrivateKey) → may_derive key.passphrase key.kdf.option ≡ true
    → length (pem_text (envelope_of key (plain_block key))) < 2 ^ 32 → key_text m key ≡ Ok (envelope_text m key)
unfolding key_text sealable
written m key may short =
    let fits = lt-ltb (length (pem_text (envelope_of key (plain_block key)))) (2 ^ 32) short in
    rw (may, fits) refl

pub envelope_is_read_back : (m : Meanings) (out : Output) (rounds : ℕ) (key : SshBasePrivateKey) (comment : List ℕ)
    → rounds < 2 ^ 32 → IsPrivateKey key → IsText comment → IsBytes out.fresh → IfSome out.pass IsUtf8
    → Carries out (targets.OpenSsh rounds) (private_meaning key comment)
    → Reads (under m out.pass) (envelope_text m (openssh_key out rounds key comment)) (private_meaning key comment)
envelope_is_read_back m out rounds key comment fit is text fresh pass carries =
    let made = openssh_key out rounds key comment in
    let written_text = envelope_text m made in
    let before = made_is_kept key out.pass comment (take 16 out.fresh) is
    (pass_is_text rounds out.pass (carries.holds Derivation) pass) text (record {
      bytes = take_bytes 16 out.fresh fresh;
      short = omega (arith, length-take 16 out.fresh);
    }) in
    let kept = rounds_are_kept rounds (made_of key out.pass comment (take 16 out.fresh)) fit before in
    let may = may_derive_of rounds out.pass out.fresh key (carries.holds Derivation) (carries.holds Fresh) in
    let short : length (pem_text (envelope_of made (plain_block made))) < 2 ^ 32 = omega (arith, envelope_len m made, carries.holds Length m) in
    let back = text_reads_back m made written_text [] kept (written m made may short) in
    let has : text_key m out.pass written_text ≡ Ok (read_again made) =
    ap (text_key m out.pass) (sym (append-nil written_text)) ∙ back in
    let content = content_under m made (lock_kept made.passphrase) in
    let each = ascii_is_bytes written_text (text_is_ascii content) in
    let trimmed : trim_end comment ≡ comment = carries.holds Comment in
    let says = text_says m out.pass written_text (read_again made) each (pass_is_bytes out.pass pass) has in
    subst (λ f. Means f (under m out.pass) written_text (private_meaning key comment)) (sym (envelope_form content))
    (read_again made, says, ap (private_meaning key) (sym trimmed))
