-- What a target carries: one condition a place, in the order in which they are judged.
use Rattle.std.specs.Prelude.{◌≡◌, ◌<◌, ◌≤◌, ◌^◌, ◌+◌, List, [], ◌∷◌, ℕ, false, Option, None, Some, length}
use Rattle.std.specs.Str.{trim_end}
use Rattle.picky_kv.specs.declared.PpkVersionKey.{PpkVersionKey}
use Rattle.picky_kv.specs.declared.PpkVersionKey.TheVariants.{V2, V3}
use Rattle.picky_text.specs.Lines.{HasNo, IsLine}
use Rattle.picky_suite.specs.Meanings.{Meanings}
use Rattle.picky_suite.specs.Ranges.{BcryptOk, Argon2Ok}
use Rattle.picky_keys.specs.Blob.{blob_of}
use Rattle.picky_keys.specs.Line.{line_of}
use Rattle.picky_sshkey_blob.specs.declared.key.SshBasePrivateKey.{SshBasePrivateKey}
use Rattle.picky_sshkey_blob.specs.Key.{public_part as public_part_of}
use Rattle.picky_ppk_parts.specs.declared.config.PpkEncryptionConfig.{PpkEncryptionConfig}
use Rattle.picky_ppk_file.specs.Written.{line_end_of, file_text}
use Rattle.picky_ppk_file.specs.PuttyPublic.{putty_public}
use Rattle.picky_ppk_file.specs.PuttyRefusal.{is_security_key}
use Rattle.picky_key_text.specs.declared.meaning.Key.{Key}
use Rattle.picky_key_text.specs.declared.meaning.Key.TheVariants as keys
use Rattle.picky_key_text.specs.declared.meaning.Meaning.{Meaning}
use Rattle.picky_key_text.specs.Key.{public_part, public_key}
use Rattle.picky_target.specs.declared.target.KeyTarget.{KeyTarget}
use Rattle.picky_target.specs.declared.target.KeyTarget.TheVariants as targets
use Rattle.picky_target.specs.Output.{Output}
use Rattle.picky_ppk.specs.declared.layout.PpkLayout.{PpkLayout}
use Rattle.picky_ppk.specs.Fresh.{salt_len}
use Rattle.picky_target.specs.Drafts.{key_padding_len, private_bytes, ppk_file}
use Rattle.picky_target.specs.Texts.{text_for}

-- a private key, a kind of key that the target has, a comment that it has, a passphrase that keys can be derived from, fresh
-- bytes enough, lengths, and lines
pub data Place : Type 0 where
  PrivateKey : Place
  Kind : Place
  Comment : Place
  Derivation : Place
  Fresh : Place
  Length : Place
  Lines : Place

-- every target judges all of them, in this order
abbrev pub places : List Place
places = PrivateKey ∷ Kind ∷ Comment ∷ Derivation ∷ Fresh ∷ Length ∷ Lines ∷ []

-- ---- a private key

abbrev pub IsPrivate : Key → Type 0
IsPrivate (keys.Private key) = Unit {0}
IsPrivate (keys.Public key) = ⊥

-- the target keeps the secret
abbrev pub HasNeededSecret : KeyTarget → Key → Type 0
HasNeededSecret (targets.OpenSsh rounds) key = IsPrivate key
HasNeededSecret (targets.Ppk version config layout) key = IsPrivate key
HasNeededSecret targets.OpenSshPublic key = Unit {0}
HasNeededSecret targets.PuttyPublic key = Unit {0}

-- ---- the kind: PuTTY has no key whose secret a device keeps

abbrev pub HasKind : KeyTarget → Key → Type 0
HasKind (targets.OpenSsh rounds) key = Unit {0}
HasKind (targets.Ppk version config layout) key = is_security_key (public_part key) ≡ false
HasKind targets.OpenSshPublic key = Unit {0}
HasKind targets.PuttyPublic key = is_security_key (public_part key) ≡ false

-- ---- the comment

-- a line carries a comment without CR, LF and white space at its end
pub record LineCarries (comment : List ℕ) : Type 0 where
  pub no_cr : HasNo 13 comment
  pub no_lf : HasNo 10 comment
  pub trimmed : trim_end comment ≡ comment

-- OpenSSH's private key drops white space at the comment's end, and PuTTY's lines end a comment
abbrev pub CarriesComment : KeyTarget → List ℕ → Type 0
CarriesComment (targets.OpenSsh rounds) comment = trim_end comment ≡ comment
CarriesComment (targets.Ppk version config layout) comment = IsLine (line_end_of version) comment
CarriesComment targets.OpenSshPublic comment = LineCarries comment
CarriesComment targets.PuttyPublic comment = HasNo 10 comment

-- ---- the keys that seal

abbrev pub DerivesUnder : KeyTarget → List ℕ → Type 0
DerivesUnder (targets.OpenSsh rounds) pass = BcryptOk (length pass) 16 rounds
DerivesUnder (targets.Ppk V2 config layout) pass = Unit {0}
DerivesUnder (targets.Ppk V3 config layout) pass =
    Argon2Ok config.argon2_memory config.argon2_passes config.argon2_parallelism (length pass) config.argon2_salt_size
DerivesUnder targets.OpenSshPublic pass = Unit {0}
DerivesUnder targets.PuttyPublic pass = Unit {0}

abbrev pub Derives : KeyTarget → Option (List ℕ) → Type 0
Derives target None = Unit {0}
Derives target (Some pass) = DerivesUnder target pass

-- ---- fresh bytes

-- how many sealing takes: OpenSSH's salt; PuTTY's salt in version 3, and the padding of its layout
abbrev pub need_of : KeyTarget → SshBasePrivateKey → ℕ
need_of (targets.OpenSsh rounds) key = 16
need_of (targets.Ppk version config layout) key = salt_len version config + key_padding_len layout key
need_of targets.OpenSshPublic key = 0
need_of targets.PuttyPublic key = 0

abbrev pub need_under : KeyTarget → Option (List ℕ) → Key → ℕ
need_under target (Some pass) (keys.Private key) = need_of target key
need_under target (Some pass) (keys.Public key) = 0
need_under target None key = 0

abbrev pub fresh_needed : Output → KeyTarget → Key → ℕ
fresh_needed out target key = need_under target out.pass key

-- ---- lengths that a length of the wire can say

-- PuTTY's file: its blob, its private bytes and its text
pub record HasFileRoom (out : Output) (version : PpkVersionKey) (config : PpkEncryptionConfig) (layout : PpkLayout)
    (key : SshBasePrivateKey) (comment : List ℕ) : Type 0 where
  pub blob : length (blob_of (public_part_of key)) < 2 ^ 32
  pub private : length (private_bytes out version config layout key) < 2 ^ 32
  pub text : (m : Meanings) → length (file_text (ppk_file m out version config layout key comment)) < 2 ^ 32

abbrev pub HasSecretRoom : Output → PpkVersionKey → PpkEncryptionConfig → PpkLayout → Key → (comment : List ℕ) → Type 0
HasSecretRoom out version config layout (keys.Private key) comment = HasFileRoom out version config layout key comment
HasSecretRoom out version config layout (keys.Public key) comment = Unit {0}

-- the text, whatever a suite's calls mean, and PuTTY's blob
abbrev pub HasRoom : Output → KeyTarget → Meaning → Type 0
HasRoom out (targets.OpenSsh rounds) meaning =
    (m : Meanings) → length (text_for m out (targets.OpenSsh rounds) meaning) < 2 ^ 32
HasRoom out (targets.Ppk version config layout) meaning = HasSecretRoom out version config layout meaning.key meaning.comment
HasRoom out targets.OpenSshPublic meaning = length (line_of (public_key meaning)) < 2 ^ 32
HasRoom out targets.PuttyPublic meaning =
    (length (blob_of (public_part meaning.key)) < 2 ^ 32)
    × (length (putty_public (blob_of (public_part meaning.key)) meaning.comment) < 2 ^ 32)

-- ---- lines: 65,535 of 48 bytes

abbrev pub HasFileLines : Output → PpkVersionKey → PpkEncryptionConfig → PpkLayout → Key → Type 0
HasFileLines out version config layout (keys.Private key) =
    (length (blob_of (public_part_of key)) ≤ 3145680) × (length (private_bytes out version config layout key) ≤ 3145680)
HasFileLines out version config layout (keys.Public key) = Unit {0}

abbrev pub HasLines : Output → KeyTarget → Key → Type 0
HasLines out (targets.OpenSsh rounds) key = Unit {0}
HasLines out (targets.Ppk version config layout) key = HasFileLines out version config layout key
HasLines out targets.OpenSshPublic key = Unit {0}
HasLines out targets.PuttyPublic key = Unit {0}

-- ---- all

abbrev pub Holds : Output → KeyTarget → Meaning → Place → Type 0
Holds out target meaning PrivateKey = HasNeededSecret target meaning.key
Holds out target meaning Kind = HasKind target meaning.key
Holds out target meaning Comment = CarriesComment target meaning.comment
Holds out target meaning Derivation = Derives target out.pass
Holds out target meaning Fresh = fresh_needed out target meaning.key ≤ length out.fresh
Holds out target meaning Length = HasRoom out target meaning
Holds out target meaning Lines = HasLines out target meaning.key

-- the target carries the meaning under these: each place holds
pub record Carries (out : Output) (target : KeyTarget) (meaning : Meaning) : Type 0 where
  pub holds : (place : Place) → Holds out target meaning place
