-- The private bytes of a PuTTY private key file, which aren't sealed (PuTTY's manual, Appendix C). Of Ed25519 the manual's
-- string of 32 bytes is read; what is written is this project's own: the secret as a number, most significant byte first,
-- which is read as the same 32 bytes.
use Rattle.std.specs.Prelude.{List, [], ◌∷◌, ℕ}
use Rattle.std.specs.List.{concat}
use Rattle.picky_wire_base.specs.Flaw.{Reason, Length}
use Rattle.picky_wire_base.specs.Grammar.{Grammar}
use Rattle.picky_wire_base.specs.Combine.{at, done, narrow, ◌>>=◌}
use Rattle.picky_wire_base.specs.Wire.{string}
use Rattle.picky_wire_base.specs.Zeros.{without_zeros}
use Rattle.picky_wire_base.specs.Mpint.{mpint, mpint_of}
use Rattle.picky_keys.specs.declared.curve.EcCurve.{EcCurve}
use Rattle.picky_keys.specs.declared.public_key.PublicKey.{PublicKey}
use Rattle.picky_keys.specs.declared.public_key.PublicKey.TheVariants as plain
use Rattle.picky_sshkey_blob.specs.declared.key.SshBasePrivateKey.{SshBasePrivateKey}
use Rattle.picky_sshkey_blob.specs.declared.key.SshBasePrivateKey.TheVariants as keys
use Rattle.picky_ppk_parts.specs.EdSecret.{as_number}

-- the secret numbers of an RSA key; iqmp is the inverse of q modulo p
pub record RsaSecret : Type 0 where
  pub d : List ℕ
  pub p : List ℕ
  pub q : List ℕ
  pub iqmp : List ℕ

-- mpint d
-- mpint p
-- mpint q
-- mpint iqmp
unfoldable pub rsa_secret : Grammar Reason RsaSecret
rsa_secret = do
  d ← at 0 mpint
  p ← at 1 mpint
  q ← at 2 mpint
  iqmp ← at 3 mpint
  done (record { d = d; p = p; q = q; iqmp = iqmp })

-- a string whose bytes are, as a number, the 32 of the secret
unfoldable pub ppk_ed_secret : Grammar Reason (List ℕ)
ppk_ed_secret = narrow (at 0 string) (as_number (0, Length))

-- ---- the key of a public key and its secret

abbrev pub rsa_key : (e n : List ℕ) → RsaSecret → SshBasePrivateKey
rsa_key e n s = keys.Rsa n e s.d s.iqmp s.p s.q

unfoldable pub ppk_rsa_fields : (e n : List ℕ) → Grammar Reason SshBasePrivateKey
ppk_rsa_fields e n = do
  secret ← rsa_secret
  done (rsa_key e n secret)

-- mpint secret
unfoldable pub ppk_ec_fields : EcCurve → List ℕ → Grammar Reason SshBasePrivateKey
ppk_ec_fields curve point = do
  secret ← at 0 mpint
  done (keys.Ec curve point secret)

unfoldable pub ppk_ed_fields : List ℕ → Grammar Reason SshBasePrivateKey
ppk_ed_fields public = do
  secret ← ppk_ed_secret
  done (keys.Ed secret public)

-- the public key says which secret follows
abbrev pub ppk_secret_fields : PublicKey → Grammar Reason SshBasePrivateKey
ppk_secret_fields (plain.Rsa e n) = ppk_rsa_fields e n
ppk_secret_fields (plain.Ec curve point) = ppk_ec_fields curve point
ppk_secret_fields (plain.Ed public) = ppk_ed_fields public

-- ---- the one spelling that is written; PuTTY has no key whose secret a device keeps

unfoldable pub secret_bytes : SshBasePrivateKey → List ℕ
secret_bytes (keys.Rsa n e d iqmp p q) = concat (mpint_of d ∷ mpint_of p ∷ mpint_of q ∷ mpint_of iqmp ∷ [])
secret_bytes (keys.Ec curve point secret) = mpint_of secret
secret_bytes (keys.Ed secret public) = mpint_of (without_zeros secret)
secret_bytes (keys.SkEcdsaSha2NistP256 point application flags handle) = []
secret_bytes (keys.SkEd25519 key application flags handle) = []
