-- The key of private bytes is that of the secret which is seen in front of them.
use Rattle.std.specs.Prelude.{◌≡◌, List, ℕ, Result, Ok, Err}
use Rattle.std.proofs.Common.{refl, sym, ap, subst, ◌∙◌}
use Rattle.picky_wire_base.specs.Flaw.{Flaw, Why, Reason, Flawed}
use Rattle.picky_wire_base.specs.Grammar.{Grammar}
use Rattle.picky_wire_base.specs.Combine.{placed, at, done, ◌>>=◌}
use Rattle.picky_wire_base.specs.Front.{read_front}
use Rattle.picky_wire_base.specs.Outcome.{and_then, map_err}
use Rattle.picky_wire_base.specs.Magnitude.{IsMagnitude}
use Rattle.picky_wire_base.specs.Mpint.{mpint}
use Rattle.picky_wire_base.specs.View.{why_in}
use Rattle.picky_keys.specs.declared.curve.EcCurve.{EcCurve}
use Rattle.picky_keys.specs.declared.public_key.PublicKey.TheVariants as plain
use Rattle.picky_sshkey_blob.specs.declared.key.SshBasePrivateKey.{SshBasePrivateKey}
use Rattle.picky_sshkey_blob.specs.declared.key.SshBasePrivateKey.TheVariants as keys
use Rattle.picky_ppk_parts.specs.Secret.{RsaSecret, rsa_secret, ppk_ed_secret, rsa_key, ppk_rsa_fields, ppk_ec_fields, ppk_ed_fields}
use Rattle.picky_ppk_parts.specs.PartsRefusal.{parts_why_error, secret_error, key_with_secret}
use Rattle.picky_ppk_parts.specs.inner.View.{AreNumbers}

-- ---- a secret, and the key that is made of it

abbrev made : {A : Type 0} → (A → SshBasePrivateKey) → A × List ℕ → Result (SshBasePrivateKey × List ℕ) Reason
made f first = Ok (f first.0, first.1)

abbrev key_in_front : SshBasePrivateKey × List ℕ → Result SshBasePrivateKey Reason
key_in_front first = Ok first.0

made_refused : {A : Type 0} (f : A → SshBasePrivateKey) (r : Result (A × List ℕ) Reason) (why : Why)
    → map_err why_in r ≡ Err why
    → map_err secret_error (and_then (and_then r (made f)) key_in_front) ≡ Err (parts_why_error why)
made_refused f (Ok x) why refused = cc refused
made_refused f (Err reason) why refused =
    let same : reason.1 ≡ why = cc refused in ap (λ w. Err (parts_why_error w)) same

key_of_read : {A : Type 0} (G : Grammar Reason A) (f : A → SshBasePrivateKey) (bytes rest : List ℕ) (a : A)
    → G.read bytes ≡ Ok (a, rest) → map_err secret_error (read_front (G >>= (λ s. done (f s))) bytes) ≡ Ok (f a)
key_of_read G f bytes rest a is = ap (λ r. map_err secret_error (and_then (and_then r (made f)) key_in_front)) is

key_of_refused : {A : Type 0} (G : Grammar Reason A) (f : A → SshBasePrivateKey) (bytes : List ℕ) (why : Why)
    → map_err why_in (G.read bytes) ≡ Err why
    → map_err secret_error (read_front (G >>= (λ s. done (f s))) bytes) ≡ Err (parts_why_error why)
key_of_refused G f bytes why refused = made_refused f (G.read bytes) why refused

-- ---- RSA

pub rsa_key_read : (e n private rest : List ℕ) (secret : RsaSecret) → rsa_secret.read private ≡ Ok (secret, rest)
    → key_with_secret (plain.Rsa e n) private ≡ Ok (rsa_key e n secret)
unfolding key_with_secret ppk_rsa_fields
rsa_key_read e n private rest secret is = key_of_read rsa_secret (rsa_key e n) private rest secret is

pub rsa_key_refused : (e n private : List ℕ) (why : Why) → map_err why_in (rsa_secret.read private) ≡ Err why
    → key_with_secret (plain.Rsa e n) private ≡ Err (parts_why_error why)
unfolding key_with_secret ppk_rsa_fields
rsa_key_refused e n private why refused = key_of_refused rsa_secret (rsa_key e n) private why refused

mpint_is : (v bytes : List ℕ) → mpint.piece v bytes → IsMagnitude v
unfolding mpint
mpint_is v bytes (a, spells, stands) = stands.mpint

spelled_numbers : (secret : RsaSecret) (bytes : List ℕ) → rsa_secret.piece secret bytes → AreNumbers secret
unfolding rsa_secret
spelled_numbers secret bytes (d, x1, y1, d_is, (p, x2, y2, p_is, (q, x3, y3, q_is, (iqmp, x4, y4, iqmp_is, (is, none), j4), j3), j2), j1) =
    subst AreNumbers (sym is) (record {
      d = mpint_is d x1 d_is;
      p = mpint_is p x2 p_is;
      q = mpint_is q x3 q_is;
      iqmp = mpint_is iqmp x4 iqmp_is;
    })

-- what is read are numbers
pub rsa_numbers : (private rest : List ℕ) (secret : RsaSecret) → rsa_secret.read private ≡ Ok (secret, rest)
    → AreNumbers secret
rsa_numbers private rest secret is =
    let fits = rsa_secret.sound private secret rest is in
    spelled_numbers secret fits.0 fits.1

pub ruleset rsa_keys = (rsa_key_read, rsa_key_refused, rsa_numbers)

-- ---- ECDSA

same_why : {A : Type 0} (i : ℕ) (r : Result A Flaw) → map_err why_in (map_err (placed i) r) ≡ map_err Flawed r
same_why i (Ok x) = refl
same_why i (Err flaw) = refl

pub ec_key_read : (curve : EcCurve) (point private rest secret : List ℕ) → mpint.read private ≡ Ok (secret, rest)
    → key_with_secret (plain.Ec curve point) private ≡ Ok (keys.Ec curve point secret)
unfolding key_with_secret ppk_ec_fields
ec_key_read curve point private rest secret is =
    key_of_read (at 0 mpint) (keys.Ec curve point) private rest secret (ap (map_err (placed 0)) is)

pub ec_key_refused : (curve : EcCurve) (point private : List ℕ) (why : Why)
    → map_err Flawed (mpint.read private) ≡ Err why
    → key_with_secret (plain.Ec curve point) private ≡ Err (parts_why_error why)
unfolding key_with_secret ppk_ec_fields
ec_key_refused curve point private why refused =
    key_of_refused (at 0 mpint) (keys.Ec curve point) private why (same_why 0 (mpint.read private) ∙ refused)

pub ec_number : (private rest secret : List ℕ) → mpint.read private ≡ Ok (secret, rest) → IsMagnitude secret
ec_number private rest secret is =
    let fits = mpint.sound private secret rest is in
    mpint_is secret fits.0 fits.1

pub ruleset ec_keys = (ec_key_read, ec_key_refused, ec_number)

-- ---- Ed25519

pub ed_key_read : (public private rest secret : List ℕ) → ppk_ed_secret.read private ≡ Ok (secret, rest)
    → key_with_secret (plain.Ed public) private ≡ Ok (keys.Ed secret public)
unfolding key_with_secret ppk_ed_fields
ed_key_read public private rest secret is =
    key_of_read ppk_ed_secret (λ s. keys.Ed s public) private rest secret is

pub ed_key_refused : (public private : List ℕ) (why : Why) → map_err why_in (ppk_ed_secret.read private) ≡ Err why
    → key_with_secret (plain.Ed public) private ≡ Err (parts_why_error why)
unfolding key_with_secret ppk_ed_fields
ed_key_refused public private why refused =
    key_of_refused ppk_ed_secret (λ s. keys.Ed s public) private why refused

pub ruleset ed_keys = (ed_key_read, ed_key_refused)
