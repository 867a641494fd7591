-- The parts that a private key makes are read back as it.
use Rattle.std.specs.Prelude.{◌≡◌, Bool, true, false, List, [], ◌∷◌, ℕ, suc, ◌≤◌, ◌<◌, ◌^◌, length, nat_le, slice_index}
use Rattle.std.specs.Prelude.{if◌then◌else◌, Ok, Err}
use Rattle.std.proofs.{Common.{refl, sym, ap, subst, ◌∙◌, arith}, lemmas.List.{append-nil}}
use Rattle.picky_wire_base.specs.{carried.Outcome.{and_then_ok, passed_ok}, Zeros.{BeginsWithNoZero, without_zeros}}
use Rattle.picky_wire_base.specs.carried.Zeros.{all_is_kept, no_zero_begins, zeros_in_front}
use Rattle.picky_wire_base.specs.{Magnitude.{IsMagnitude}, Mpint.{mpint_of, with_sign}}
use Rattle.picky_wire_base.proofs.{Zeros.{length_with_zeros}, Strings.{string_spells}, MpintLaws.{mpint_spells}}
use Rattle.picky_kv.specs.declared.algorithm.PpkKeyAlgorithmValue.{PpkKeyAlgorithmValue}
use Rattle.picky_kv.specs.declared.algorithm.PpkKeyAlgorithmValue.TheVariants as algorithms
use Rattle.picky_keys.specs.{declared.curve.EcCurve.{EcCurve}, declared.public_key.PublicKey.{PublicKey}, Key.{IsKey}}
use Rattle.picky_keys.specs.{Blob.{blob as blob_layout, blob_of}, carried.Blob.{blob_spells}, LineRefusal.{is_short}}
use Rattle.picky_keys.specs.declared.public_key.PublicKey.TheVariants as plain
use Rattle.picky_sshkey_blob.specs.declared.key.SshBasePrivateKey.{SshBasePrivateKey}
use Rattle.picky_sshkey_blob.specs.Key.{IsPrivateKey, public_part}
use Rattle.picky_sshkey_blob.specs.declared.key.SshBasePrivateKey.TheVariants as keys
use Rattle.picky_sshkey_blob.proofs.KeyLaws.{public_part_is_key}
use Rattle.picky_ppk_parts.specs.declared.error.PuttyError.TheVariants as errors
use Rattle.picky_ppk_parts.specs.declared.key_parts.KeyParts.{KeyParts}
use Rattle.picky_ppk_parts.specs.Algorithm.{algorithm_of, curve_algorithm, ssh_key_of}
use Rattle.picky_ppk_parts.specs.Secret.{rsa_secret, ppk_ed_secret, ppk_rsa_fields, ppk_ec_fields, ppk_ed_fields, ppk_secret_fields}
use Rattle.picky_ppk_parts.specs.Secret.{secret_bytes}
use Rattle.picky_ppk_parts.specs.{Parts.{StandsForKey}, PartsRefusal.{parts_key}}
use Rattle.picky_ppk_parts.specs.KeyParts.{blob_within, parts_under, key_parts}
use Rattle.picky_ppk_parts.proofs.PartsLaws.{parts_complete}

-- ---- the one spelling of a secret

signed : (high : Bool) (v : List ℕ) → BeginsWithNoZero v
    → (without_zeros (if high then 0 ∷ v else v) ≡ v) × (length (if high then 0 ∷ v else v) ≤ suc (length v))
signed true v begins = (all_is_kept v begins, omega arith)
signed false v begins = (all_is_kept v begins, omega arith)

without_zeros_within : (v : List ℕ) → length (without_zeros v) ≤ length v
without_zeros_within v =
    let front = zeros_in_front v in
    omega (arith, ap length front.1, length_with_zeros front.0 (without_zeros v))

-- Also with zeros in front, and where all is zero.
ed_spells : (secret : List ℕ) → length secret ≡ 32 → ppk_ed_secret.piece secret (mpint_of (without_zeros secret))
unfolding ppk_ed_secret mpint_of
ed_spells secret len =
    let number = without_zeros secret in
    let begins = no_zero_begins secret in
    let both = signed (nat_le 128 (slice_index number 0)) number begins in
    let few = without_zeros_within secret in
    let short : length (with_sign number) < 2 ^ 32 = omega (arith, both.1, few, len) in
    (with_sign number, string_spells (with_sign number) short, (len, both.0))

rsa_spells : (n e d iqmp p q : List ℕ) → IsMagnitude d → IsMagnitude p → IsMagnitude q → IsMagnitude iqmp
    → (ppk_rsa_fields e n).piece (keys.Rsa n e d iqmp p q) (secret_bytes (keys.Rsa n e d iqmp p q))
unfolding ppk_rsa_fields rsa_secret secret_bytes
rsa_spells n e d iqmp p q d_is p_is q_is iqmp_is = (
  record { d = d; p = p; q = q; iqmp = iqmp },
  _,
  [],
  (d, _, _, mpint_spells d d_is, (p, _, _, mpint_spells p p_is, (q, _, _, mpint_spells q q_is, (iqmp, _, _, mpint_spells iqmp iqmp_is, (refl, refl), refl), refl), refl), refl),
  (refl, refl),
  sym (append-nil _),
)

ec_spells : (curve : EcCurve) (point secret : List ℕ) → IsMagnitude secret
    → (ppk_ec_fields curve point).piece (keys.Ec curve point secret) (secret_bytes (keys.Ec curve point secret))
unfolding ppk_ec_fields secret_bytes
ec_spells curve point secret is =
    (secret, mpint_of secret, [], mpint_spells secret is, (refl, refl), sym (append-nil (mpint_of secret)))

ed_fields_spell : (secret public : List ℕ) → length secret ≡ 32
    → (ppk_ed_fields public).piece (keys.Ed secret public) (secret_bytes (keys.Ed secret public))
unfolding ppk_ed_fields secret_bytes
ed_fields_spell secret public len =
    let bytes = mpint_of (without_zeros secret) in
    (secret, bytes, [], ed_spells secret len, (refl, refl), sym (append-nil bytes))

-- ---- the parts

abbrev parts_of : SshBasePrivateKey → PpkKeyAlgorithmValue → KeyParts
parts_of key algorithm =
    record { algorithm = algorithm; blob = blob_of (public_part key); private_bytes = secret_bytes key }

abbrev parts_with : SshBasePrivateKey → PpkKeyAlgorithmValue → List ℕ → KeyParts
parts_with key algorithm blob = record { algorithm = algorithm; blob = blob; private_bytes = secret_bytes key }

parts_are : (key : SshBasePrivateKey) (algorithm : PpkKeyAlgorithmValue) (parts : KeyParts)
    → parts_under key algorithm ≡ Ok parts → parts_of key algorithm ≡ parts
parts_are key algorithm parts made =
    let both = and_then_ok (blob_within (public_part key))
    (λ blob. if is_short (secret_bytes key) then Ok (parts_with key algorithm blob) else Err errors.TooLong) parts made in
    let blob = passed_ok (is_short (blob_of (public_part key))) errors.TooLong (blob_of (public_part key)) both.0 both.1 in
    let whole = passed_ok (is_short (secret_bytes key)) errors.TooLong (parts_with key algorithm both.0) parts both.2 in
    ap (parts_with key algorithm) blob.1 ∙ whole.1

stands : (key : SshBasePrivateKey) (public : PublicKey) → ssh_key_of public ≡ public_part key → IsKey (public_part key)
    → (ppk_secret_fields public).piece key (secret_bytes key)
    → StandsForKey (algorithm_of public) (blob_of (public_part key)) (secret_bytes key) key
stands key public same is spells =
    let bytes = blob_of (public_part key) in
    let blob = subst (λ k. blob_layout.piece k bytes) (sym same) (blob_spells (public_part key) is) in
    record {
      public = public;
      named = refl;
      blob_begins = ([], (bytes, blob, sym (append-nil bytes)));
      private_begins = ([], (secret_bytes key, spells, sym (append-nil (secret_bytes key))));
    }

-- the parts that a key makes
pub record Makes (key : SshBasePrivateKey) (parts : KeyParts) : Type 0 where
  pub public : PublicKey
  pub same : ssh_key_of public ≡ public_part key
  pub spells : (ppk_secret_fields public).piece key (secret_bytes key)
  pub are : parts_of key (algorithm_of public) ≡ parts

-- Each key that makes parts is of a kind that PuTTY has.
pub made_parts : (key : SshBasePrivateKey) (parts : KeyParts) → IsPrivateKey key → key_parts key ≡ Ok parts
    → Makes key parts
unfolding key_parts
made_parts (keys.Rsa n e d iqmp p q) parts is made = record {
  public = plain.Rsa e n;
  same = refl;
  spells = rsa_spells n e d iqmp p q is.2.mpint is.4.mpint is.5.mpint is.3.mpint;
  are = parts_are (keys.Rsa n e d iqmp p q) algorithms.Rsa parts made;
}
made_parts (keys.Ec curve point secret) parts is made = record {
  public = plain.Ec curve point;
  same = refl;
  spells = ec_spells curve point secret is.1.mpint;
  are = parts_are (keys.Ec curve point secret) (curve_algorithm curve) parts made;
}
made_parts (keys.Ed secret public) parts is made = record {
  public = plain.Ed public;
  same = refl;
  spells = ed_fields_spell secret public is.0.len;
  are = parts_are (keys.Ed secret public) algorithms.Ed25519 parts made;
}
made_parts (keys.SkEcdsaSha2NistP256 point application flags handle) parts is made = cc made
made_parts (keys.SkEd25519 key application flags handle) parts is made = cc made

-- They are read back.
pub parts_read_back : (key : SshBasePrivateKey) (parts : KeyParts) → IsPrivateKey key → key_parts key ≡ Ok parts
    → parts_key parts.algorithm parts.blob parts.private_bytes ≡ Ok key
parts_read_back key parts is made =
    let makes = made_parts key parts is made in
    let public = makes.public in
    subst (λ (p : KeyParts). parts_key p.algorithm p.blob p.private_bytes ≡ Ok key) makes.are
    (parts_complete (algorithm_of public) (blob_of (public_part key)) (secret_bytes key) key
    (stands key public makes.same (public_part_is_key key is) makes.spells))
