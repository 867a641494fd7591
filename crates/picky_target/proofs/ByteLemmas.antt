-- What is written is bytes.
use Rattle.std.proofs.Common.{◌<◌, ◌+◌, ℕ, zero, suc, List, [], ◌∷◌, Option, None, Some, take, drop, replicate, slice_index, refl, arith}
use Rattle.std.specs.List.{AllByRecursion}
use Rattle.std.specs.Option.{IfSome}
use Rattle.std.specs.Str.{IsAscii, IsUtf8}
use Rattle.std.proofs.lemmas.List.{get_or-drop}
use Rattle.sha1.specs.Sha1.{sha1, digest_bytes}
use Rattle.picky_wire_base.specs.Numbers.{IsBytes}
use Rattle.picky_wire_base.specs.Mpint.{mpint_of}
use Rattle.picky_wire_base.specs.Zeros.{without_zeros}
use Rattle.picky_suite.specs.Meanings.{Meanings}
use Rattle.picky_keys.proofs.ByteLaws.{bytes_by_test, bytes_first, bytes_joined, mpint_bytes_each, no_bytes, number_bytes, string_bytes_each}
use Rattle.picky_sshkey_blob.specs.declared.key.SshBasePrivateKey.{SshBasePrivateKey}
use Rattle.picky_sshkey_blob.specs.declared.key.SshBasePrivateKey.TheVariants as keys
use Rattle.picky_sshkey_blob.specs.Key.{IsPrivateKey}
use Rattle.picky_ppk_parts.specs.Keys.{Keys}
use Rattle.picky_ppk_parts.specs.Material.{cipher_key_v2, derived_v3, flavour_named}
use Rattle.picky_ppk_parts.specs.Secret.{secret_bytes}
use Rattle.picky_ppk_file.specs.declared.file.PpkSealing.{PpkSealing}
use Rattle.picky_ppk_file.specs.declared.file.PpkSealing.TheVariants.{Unsealed, SealedV2, SealedV3}
use Rattle.picky_ppk_file.specs.File.{IsSealing}
use Rattle.picky_ppk.specs.Keyed.{keys_under}
use Rattle.picky_ppk.specs.PpkLayout.{laid_secret}
use Rattle.picky_ppk.specs.declared.layout.PpkLayout.{PpkLayout}
use Rattle.picky_ppk.specs.declared.layout.PpkLayout.TheVariants as layouts
use Rattle.picky_keys.proofs.ByteLaws.{utf8_is_bytes}

-- ---- lists

pub each_is_byte : (bytes : List ℕ) → AllByRecursion (λ b. b < 256) bytes → IsBytes bytes
each_is_byte [] each = no_bytes
each_is_byte (b ∷ bytes) each = bytes_first b bytes each.0 (each_is_byte bytes each.1)

pub ascii_is_bytes : (bytes : List ℕ) → IsAscii bytes → IsBytes bytes
ascii_is_bytes bytes ascii i = let low = ascii i in omega (arith, low)

pub take_bytes : (n : ℕ) (bytes : List ℕ) → IsBytes bytes → IsBytes (take n bytes)
take_bytes zero bytes each = no_bytes
take_bytes (suc n) [] each = no_bytes
take_bytes (suc n) (b ∷ bytes) each = bytes_first b (take n bytes) (each 0) (take_bytes n bytes (λ i. each (suc i)))

pub drop_bytes : (n : ℕ) (bytes : List ℕ) → IsBytes bytes → IsBytes (drop n bytes)
drop_bytes n bytes each i = rw (get_or-drop n bytes i 0) (each (n + i))

pub pass_is_bytes : (pass : Option (List ℕ)) → IfSome pass IsUtf8 → IfSome pass IsBytes
pass_is_bytes None is = tt
pass_is_bytes (Some text) is = utf8_is_bytes text is

-- ---- the private bytes of a key

zeros_bytes : (bytes : List ℕ) → IsBytes bytes → IsBytes (without_zeros bytes)
zeros_bytes [] each = no_bytes
zeros_bytes (zero ∷ bytes) each = zeros_bytes bytes (λ i. each (suc i))
zeros_bytes (suc b ∷ bytes) each = each

number_is_bytes : (key : SshBasePrivateKey) → IsPrivateKey key → IsBytes (secret_bytes key)
unfolding secret_bytes
number_is_bytes (keys.Rsa n e d iqmp p q) is =
    bytes_joined (mpint_of d) _ (mpint_bytes_each d is.2.bytes) (bytes_joined (mpint_of p) _ (mpint_bytes_each p is.4.bytes)
    (bytes_joined (mpint_of q) _ (mpint_bytes_each q is.5.bytes) (bytes_joined (mpint_of iqmp) [] (mpint_bytes_each iqmp is.3.bytes) no_bytes)))
number_is_bytes (keys.Ec curve point secret) is = mpint_bytes_each secret is.1.bytes
number_is_bytes (keys.Ed secret public) is = mpint_bytes_each (without_zeros secret) (zeros_bytes secret is.0.bytes)
number_is_bytes (keys.SkEcdsaSha2NistP256 point application flags handle) is = no_bytes
number_is_bytes (keys.SkEd25519 key application flags handle) is = no_bytes

pub secret_is_bytes : (layout : PpkLayout) (key : SshBasePrivateKey) → IsPrivateKey key → IsBytes (laid_secret layout key)
unfolding laid_secret
secret_is_bytes layouts.Number key is = number_is_bytes key is
secret_is_bytes layouts.Putty (keys.Rsa n e d iqmp p q) is = number_is_bytes (keys.Rsa n e d iqmp p q) is
secret_is_bytes layouts.Putty (keys.Ec curve point secret) is = number_is_bytes (keys.Ec curve point secret) is
secret_is_bytes layouts.Putty (keys.Ed secret public) is = string_bytes_each secret is.0.bytes
secret_is_bytes layouts.Putty (keys.SkEcdsaSha2NistP256 point application flags handle) is =
    number_is_bytes (keys.SkEcdsaSha2NistP256 point application flags handle) is
secret_is_bytes layouts.Putty (keys.SkEd25519 key application flags handle) is =
    number_is_bytes (keys.SkEd25519 key application flags handle) is

-- ---- keys that a passphrase makes

digest_is_bytes : (h : List ℕ) (n : ℕ) → IsBytes (digest_bytes h n)
unfolding digest_bytes
digest_is_bytes h zero = no_bytes
digest_is_bytes h (suc n) = bytes_joined (digest_bytes h n) _ (digest_is_bytes h n) (number_bytes (slice_index h n))

sha1_is_bytes : (text : List ℕ) → IsBytes (sha1 text)
unfolding sha1
sha1_is_bytes text = digest_is_bytes _ 5

v2_is_bytes : (pass : List ℕ) → IsBytes (cipher_key_v2 pass)
unfolding cipher_key_v2
v2_is_bytes pass = bytes_joined _ _ (sha1_is_bytes _) (take_bytes 12 _ (sha1_is_bytes _))

zero_iv : IsBytes (replicate 16 0)
zero_iv = bytes_by_test (replicate 16 0) refl

pub record AreByteKeys (keys : Keys) : Type 0 where
  pub key : IsBytes keys.key
  pub iv : IsBytes keys.iv

pub keys_are_bytes : (m : Meanings) (sealing : PpkSealing) (pass : List ℕ) → IsSealing sealing → IsBytes pass
    → AreByteKeys (keys_under m sealing pass)
unfolding derived_v3
keys_are_bytes m (Unsealed version) pass is each = record { key = v2_is_bytes pass; iv = zero_iv }
keys_are_bytes m SealedV2 pass is each = record { key = v2_is_bytes pass; iv = zero_iv }
keys_are_bytes m (SealedV3 params) pass is each =
    let derived = m.argon2_bytes (flavour_named params.flavor) params.memory params.passes params.parallelism pass params.salt
    each is.salt.1 in
    record { key = take_bytes 32 _ derived; iv = take_bytes 16 _ (drop_bytes 32 _ derived) }
