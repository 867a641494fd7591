-- The text of each target for a key and a comment.
use Rattle.std.specs.Prelude.{◌≡◌, List, [], ℕ}
use Rattle.picky_sshkey_blob.specs.Pem.{pem_text}
use Rattle.picky_suite.specs.Meanings.{Meanings}
use Rattle.picky_keys.specs.Blob.{blob_of}
use Rattle.picky_keys.specs.Line.{line_of}
use Rattle.picky_sshkey_blob.specs.declared.key.SshBasePrivateKey.{SshBasePrivateKey}
use Rattle.picky_sshkey.specs.declared.private_key.SshPrivateKey.{SshPrivateKey}
use Rattle.picky_sshkey.specs.Written.{content_under, lock_kept}
use Rattle.picky_ppk_file.specs.Written.{file_text}
use Rattle.picky_ppk_file.specs.PuttyPublic.{putty_public, SpellsPuttyPublic}
use Rattle.picky_key_text.specs.declared.meaning.Key.{Key}
use Rattle.picky_key_text.specs.declared.meaning.Key.TheVariants as keys
use Rattle.picky_key_text.specs.declared.meaning.Meaning.{Meaning}
use Rattle.picky_key_text.specs.Key.{public_part, public_key}
use Rattle.picky_target.specs.declared.target.KeyTarget.{KeyTarget}
use Rattle.picky_target.specs.declared.target.KeyTarget.TheVariants as targets
use Rattle.picky_target.specs.Output.{Output}
use Rattle.picky_target.specs.Drafts.{openssh_key, ppk_file}

-- OpenSSH's text of a private key
abbrev pub envelope_text : Meanings → SshPrivateKey → List ℕ
envelope_text m key = pem_text (content_under m key (lock_kept key.passphrase))

-- the text of a private key; a public target has none
abbrev pub private_text : Meanings → Output → KeyTarget → SshBasePrivateKey → (comment : List ℕ) → List ℕ
private_text m out (targets.OpenSsh rounds) key comment = envelope_text m (openssh_key out rounds key comment)
private_text m out (targets.Ppk version config layout) key comment = file_text (ppk_file m out version config layout key comment)
private_text m out targets.OpenSshPublic key comment = []
private_text m out targets.PuttyPublic key comment = []

-- the secret's text; there is none without one
abbrev pub text_of_secret : Meanings → Output → KeyTarget → Key → (comment : List ℕ) → List ℕ
text_of_secret m out target (keys.Private key) comment = private_text m out target key comment
text_of_secret m out target (keys.Public key) comment = []

-- the text spells the key, or its public part where the target is a public one, and the comment
abbrev pub Spells : Meanings → Output → KeyTarget → Meaning → List ℕ → Type 0
Spells m out (targets.OpenSsh rounds) meaning text = text ≡ text_of_secret m out (targets.OpenSsh rounds) meaning.key meaning.comment
Spells m out (targets.Ppk version config layout) meaning text =
    text ≡ text_of_secret m out (targets.Ppk version config layout) meaning.key meaning.comment
Spells m out targets.OpenSshPublic meaning text = text ≡ line_of (public_key meaning)
Spells m out targets.PuttyPublic meaning text =
    SpellsPuttyPublic (blob_of (public_part meaning.key)) meaning.comment text

-- the same, as a function
abbrev pub text_for : Meanings → Output → KeyTarget → Meaning → List ℕ
text_for m out (targets.OpenSsh rounds) meaning = text_of_secret m out (targets.OpenSsh rounds) meaning.key meaning.comment
text_for m out (targets.Ppk version config layout) meaning =
    text_of_secret m out (targets.Ppk version config layout) meaning.key meaning.comment
text_for m out targets.OpenSshPublic meaning = line_of (public_key meaning)
text_for m out targets.PuttyPublic meaning = putty_public (blob_of (public_part meaning.key)) meaning.comment
