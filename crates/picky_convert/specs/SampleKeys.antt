-- The sample key with each number, and its comment.
use Rattle.std.specs.Prelude.{List, [], ◌∷◌, ◌++◌, ℕ, ◌+◌, ◌%◌, ◌==◌, codes, if◌then◌else◌}
use Rattle.std.specs.Fmt.{decimal}
use Rattle.picky_wire_base.specs.Zeros.{without_zeros}
use Rattle.picky_keys.specs.declared.curve.EcCurve.{EcCurve}
use Rattle.picky_keys.specs.declared.curve.EcCurve.TheVariants.{NistP256, NistP384, NistP521}
use Rattle.picky_keys.specs.declared.curve.EdAlgorithm.TheVariants.{Ed25519}
use Rattle.picky_keys.specs.declared.kind.KeyKind.{KeyKind}
use Rattle.picky_keys.specs.declared.kind.KeyKind.TheVariants as kinds
use Rattle.picky_sshkey_blob.specs.declared.key.SshBasePrivateKey.{SshBasePrivateKey}
use Rattle.picky_sshkey_blob.specs.declared.key.SshBasePrivateKey.TheVariants as keys
use Rattle.picky_key_text.specs.declared.meaning.Meaning.{Meaning}
use Rattle.picky_key_text.specs.Key.{private_meaning}
use Rattle.picky_convert.specs.Generator.{state_after, generated}

-- the kind of the key with a number
abbrev pub kind_at : ℕ → KeyKind
kind_at i =
    if i % 7 == 0 then kinds.Rsa
    else if i % 7 == 1 then kinds.Ec NistP256
    else if i % 7 == 2 then kinds.Ec NistP384
    else if i % 7 == 3 then kinds.Ec NistP521
    else if i % 7 == 4 then kinds.Ed Ed25519
    else if i % 7 == 5 then kinds.SkEcdsaSha2NistP256
    else kinds.SkEd25519

-- ---- fields, from the state that a key is drawn from: so many bytes, behind so many others

abbrev pub sample_field : ℕ → (behind len : ℕ) → List ℕ
sample_field s behind len = generated len (state_after behind s)

-- an mpint, without its leading zeros
abbrev pub sample_number : ℕ → (behind len : ℕ) → List ℕ
sample_number s behind len = without_zeros (sample_field s behind len)

-- a point that isn't compressed: 04 and its two numbers
abbrev pub point : ℕ → (len : ℕ) → List ℕ
point s len = 4 ∷ sample_field s 0 len

-- ---- keys

-- how many bytes a point's two numbers have, and a secret
abbrev pub numbers_len : EcCurve → ℕ
numbers_len NistP256 = 64
numbers_len NistP384 = 96
numbers_len NistP521 = 132

abbrev pub secret_len : EcCurve → ℕ
secret_len NistP256 = 32
secret_len NistP384 = 48
secret_len NistP521 = 66

-- the exponent of each RSA key, 65537, and the application of each key on a device
abbrev pub exponent : List ℕ
exponent = 1 ∷ 0 ∷ 1 ∷ []

unfoldable pub application : List ℕ
application = codes "ssh:"

-- the key of a kind, drawn from a state: of RSA n, d, iqmp, p and q, in this order; of the others the public part first,
-- but for Ed25519
unfoldable pub drawn_key : KeyKind → ℕ → SshBasePrivateKey
drawn_key kinds.Rsa s =
    let n = sample_number s 0 256 in
    let d = sample_number s 256 256 in
    let iqmp = sample_number s 512 128 in
    let p = sample_number s 640 128 in
    let q = sample_number s 768 128 in
    keys.Rsa n exponent d iqmp p q
drawn_key (kinds.Ec curve) s =
    keys.Ec curve (point s (numbers_len curve)) (sample_number s (numbers_len curve) (secret_len curve))
drawn_key (kinds.Ed algorithm) s =
    let secret = sample_field s 0 32 in
    let public = sample_field s 32 32 in
    keys.Ed secret public
drawn_key kinds.SkEcdsaSha2NistP256 s = keys.SkEcdsaSha2NistP256 (point s 64) application 1 (sample_field s 64 64)
drawn_key kinds.SkEd25519 s = keys.SkEd25519 (sample_field s 0 32) application 1 (sample_field s 32 64)

-- key number i is drawn from the state i + 1
abbrev pub key_at : ℕ → SshBasePrivateKey
key_at i = drawn_key (kind_at i) (i + 1)

unfoldable pub comment_at : ℕ → List ℕ
comment_at i = codes "key-" ++ decimal i

-- the key and its comment
abbrev pub meaning_at : ℕ → Meaning
meaning_at i = private_meaning (key_at i) (comment_at i)
