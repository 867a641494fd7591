-- Lemmas on PuTTY's file of a key.
use Rattle.std.proofs.Common.{◌≡◌, ℕ, List, Bool, true, false, Result, Ok, Err, refl, ap, sym, ◌∙◌}
use Rattle.std.specs.Prelude.{if◌then◌else◌}
use Rattle.picky_wire_base.specs.Outcome.{and_then}
use Rattle.picky_wire_base.specs.carried.Outcome.{and_then_ok}
use Rattle.picky_kv.specs.declared.PpkVersionKey.{PpkVersionKey}
use Rattle.picky_kv.specs.declared.PpkVersionKey.TheVariants.{V2, V3}
use Rattle.picky_suite.specs.Meanings.{Meanings}
use Rattle.picky_keys.specs.Blob.{blob_of}
use Rattle.picky_keys.specs.LineRefusal.{is_short}
use Rattle.picky_sshkey_blob.specs.declared.key.SshBasePrivateKey.{SshBasePrivateKey}
use Rattle.picky_sshkey_blob.specs.declared.key.SshBasePrivateKey.TheVariants as keys
use Rattle.picky_sshkey_blob.specs.Key.{public_part}
use Rattle.picky_kv.specs.declared.algorithm.PpkKeyAlgorithmValue.{PpkKeyAlgorithmValue}
use Rattle.picky_kv.specs.declared.algorithm.PpkKeyAlgorithmValue.TheVariants as algorithms
use Rattle.picky_ppk_parts.specs.declared.error.PuttyError.{PuttyError}
use Rattle.picky_ppk_parts.specs.declared.error.PuttyError.TheVariants as putty
use Rattle.picky_ppk_parts.specs.declared.config.PpkEncryptionConfig.{PpkEncryptionConfig}
use Rattle.picky_ppk_parts.specs.declared.key_parts.KeyParts.{KeyParts}
use Rattle.picky_ppk_parts.specs.Algorithm.{curve_algorithm}
use Rattle.picky_ppk_parts.specs.Unsupported.{no_security_keys}
use Rattle.picky_ppk_file.specs.declared.file.PpkFile.{PpkFile}
use Rattle.picky_ppk_file.specs.PuttyRefusal.{is_security_key}
use Rattle.picky_ppk.specs.declared.layout.PpkLayout.{PpkLayout}
use Rattle.picky_ppk.specs.Changed.{file_of_parts}
use Rattle.picky_ppk.specs.Fresh.{salt_len}
use Rattle.picky_ppk.specs.PpkLayout.{laid_file, laid_parts, laid_secret, laid_under}
use Rattle.picky_target.specs.Drafts.{key_parts_of, plain_file}

-- ---- the parts of a key

-- two tests in a row
abbrev pub tested : {A : Type 0} (blob secret : Bool) → A → Result A PuttyError
tested blob secret x = if blob then (if secret then Ok x else Err putty.TooLong) else Err putty.TooLong

steps : (short_blob short_secret : Bool) (algorithm : PpkKeyAlgorithmValue) (blob secret : List ℕ)
    → and_then (if short_blob then Ok blob else Err putty.TooLong) (λ b.
    if short_secret then Ok (record { algorithm = algorithm; blob = b; private_bytes = secret }) else Err putty.TooLong)
    ≡ tested {A = KeyParts} short_blob short_secret (record { algorithm = algorithm; blob = blob; private_bytes = secret })
steps true short_secret algorithm blob secret = refl
steps false short_secret algorithm blob secret = refl

abbrev parts_tested : PpkLayout → SshBasePrivateKey → Result KeyParts PuttyError
parts_tested layout key = tested (is_short (blob_of (public_part key))) (is_short (laid_secret layout key)) (key_parts_of layout key)

under_is : (layout : PpkLayout) (key : SshBasePrivateKey) (algorithm : PpkKeyAlgorithmValue)
    → (key_parts_of layout key).algorithm ≡ algorithm → laid_under layout key algorithm ≡ parts_tested layout key
under_is layout key algorithm is =
    steps (is_short (blob_of (public_part key))) (is_short (laid_secret layout key)) algorithm (blob_of (public_part key)) (laid_secret layout key)
    ∙ ap (λ a. tested (is_short (blob_of (public_part key))) (is_short (laid_secret layout key)) (record (key_parts_of layout key) { algorithm = a })) (sym is)

-- Which parts a key has, and which refusals.
pub laid_parts_are : (layout : PpkLayout) (key : SshBasePrivateKey) → is_security_key (public_part key) ≡ false
    → laid_parts layout key ≡ parts_tested layout key
unfolding laid_parts
laid_parts_are layout (keys.Rsa n e d iqmp p q) plain = under_is layout (keys.Rsa n e d iqmp p q) algorithms.Rsa refl
laid_parts_are layout (keys.Ec curve point secret) plain = under_is layout (keys.Ec curve point secret) (curve_algorithm curve) refl
laid_parts_are layout (keys.Ed secret public) plain = under_is layout (keys.Ed secret public) algorithms.Ed25519 refl
laid_parts_are layout (keys.SkEcdsaSha2NistP256 point application flags handle) plain = cc plain
laid_parts_are layout (keys.SkEd25519 key application flags handle) plain = cc plain

tested_ok : {A : Type 0} (blob secret : Bool) (x y : A) → tested blob secret x ≡ Ok y → x ≡ y
tested_ok true true x y is = cc is
tested_ok true false x y is = cc is
tested_ok false secret x y is = cc is

-- A key whose secret a device keeps has none.
pub security_key_is_refused : (layout : PpkLayout) (key : SshBasePrivateKey) → is_security_key (public_part key) ≡ true
    → laid_parts layout key ≡ Err no_security_keys
unfolding laid_parts
security_key_is_refused layout (keys.Rsa n e d iqmp p q) is_sk = cc is_sk
security_key_is_refused layout (keys.Ec curve point secret) is_sk = cc is_sk
security_key_is_refused layout (keys.Ed secret public) is_sk = cc is_sk
security_key_is_refused layout (keys.SkEcdsaSha2NistP256 point application flags handle) is_sk = refl
security_key_is_refused layout (keys.SkEd25519 key application flags handle) is_sk = refl

parts_are : (layout : PpkLayout) (key : SshBasePrivateKey) (parts : KeyParts) → laid_parts layout key ≡ Ok parts
    → key_parts_of layout key ≡ parts
parts_are layout key parts is = go (is_security_key (public_part key)) refl
  where
    go : (is_sk : Bool) → is_security_key (public_part key) ≡ is_sk → key_parts_of layout key ≡ parts
    go true is_sk = cc (sym (security_key_is_refused layout key is_sk) ∙ is)
    go false plain = tested_ok _ _ (key_parts_of layout key) parts (sym (laid_parts_are layout key plain) ∙ is)

-- The file that is made of a key.
pub made_is_plain : (m : Meanings) (version : PpkVersionKey) (layout : PpkLayout) (key : SshBasePrivateKey) (comment : List ℕ)
    (f : PpkFile) → laid_file m version layout key comment ≡ Ok f → plain_file m version layout key comment ≡ f
unfolding laid_file
made_is_plain m version layout key comment f is =
    let both = and_then_ok (laid_parts layout key) (λ parts. Ok (file_of_parts m version comment parts)) f is in
    let same : file_of_parts m version comment both.0 ≡ f = cc (both.2) in
    ap (file_of_parts m version comment) (parts_are layout key both.0 both.1) ∙ same

-- ---- the salt

pub salt_size : (version : PpkVersionKey) (config : PpkEncryptionConfig) (n : ℕ) → n ≡ salt_len version config → version ≡ V3
    → n ≡ config.argon2_salt_size
salt_size V2 config n is third = cc third
salt_size V3 config n is third = is

pub ruleset plain_files = (made_is_plain)

pub ruleset sealing_steps = (salt_size)
