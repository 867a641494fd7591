-- The counted strings are a front of the private bytes, and what follows it says nothing.
use Rattle.std.specs.Prelude.{◌≡◌, List, [], ◌∷◌, ℕ, suc, ◌-◌, ◌++◌, ◌≤◌, length, take, Ok}
use Rattle.std.proofs.Common.{refl, sym, ap, subst, ◌∙◌, arith}
use Rattle.std.proofs.lemmas.List.{append-nil, length-append}
use Rattle.std.proofs.Math.Seq.{take-append_seam}
use Rattle.picky_wire_base.specs.Wire.{string}
use Rattle.picky_wire_base.specs.Mpint.{mpint}
use Rattle.picky_wire_base.specs.Outcome.{and_then, map_err}
use Rattle.picky_wire_base.specs.carried.Outcome.{and_then_ok, map_err_ok}
use Rattle.picky_kv.specs.declared.algorithm.PpkKeyAlgorithmValue.{PpkKeyAlgorithmValue}
use Rattle.picky_kv.specs.Algorithm.{mpint_values_count}
use Rattle.picky_keys.specs.declared.curve.EcCurve.{EcCurve}
use Rattle.picky_keys.specs.declared.curve.EcCurve.TheVariants.{NistP256, NistP384, NistP521}
use Rattle.picky_keys.specs.declared.public_key.PublicKey.{PublicKey}
use Rattle.picky_keys.specs.declared.public_key.PublicKey.TheVariants as plain
use Rattle.picky_sshkey_blob.specs.declared.key.SshBasePrivateKey.{SshBasePrivateKey}
use Rattle.picky_sshkey_blob.specs.Key.{IsPrivateKey}
use Rattle.picky_ppk_parts.specs.declared.key_parts.KeyParts.{KeyParts}
use Rattle.picky_ppk_parts.specs.Algorithm.{algorithm_of, curve_algorithm}
use Rattle.picky_ppk_parts.specs.Secret.{RsaSecret, rsa_secret, ppk_ed_secret, secret_bytes}
use Rattle.picky_ppk_parts.specs.Secret.{ppk_rsa_fields, ppk_ec_fields, ppk_ed_fields, ppk_secret_fields}
use Rattle.picky_ppk_parts.specs.Parts.{StandsForKey}
use Rattle.picky_ppk_parts.specs.PartsRefusal.{parts_flaw_error}
use Rattle.picky_ppk_parts.specs.KeyParts.{key_parts}
use Rattle.picky_ppk_parts.specs.Counted.{strings, counted}
use Rattle.picky_ppk_parts.proofs.CountedLemmas.{len_taken}
use Rattle.picky_ppk_parts.proofs.ReadBackLaws.{made_parts}

-- ---- a front

-- the bytes begin with so many strings, which take so many bytes
pub record CountedFront (algorithm : PpkKeyAlgorithmValue) (private : List ℕ) (n : ℕ) : Type 0 where
  pub values : List (List ℕ)
  pub front : List ℕ
  pub rest : List ℕ
  pub spells : (strings (mpint_values_count algorithm)).piece values front
  pub are : private ≡ front ++ rest
  pub len : length front ≡ n

counted_front : (algorithm : PpkKeyAlgorithmValue) (private : List ℕ) (n : ℕ) → counted algorithm private ≡ Ok n
    → CountedFront algorithm private n
unfolding counted
counted_front algorithm private n is =
    let layout = strings (mpint_values_count algorithm) in
    let both = and_then_ok (map_err parts_flaw_error (layout.read private)) (len_taken (length private)) n is in
    let read = map_err_ok parts_flaw_error (layout.read private) both.0 both.1 in
    let taken : length private - length both.0.1 ≡ n = cc both.2 in
    let fits = layout.sound private both.0.0 both.0.1 read in
    record {
      values = both.0.0;
      front = fits.0;
      rest = both.0.1;
      spells = fits.1;
      are = fits.2;
      len = omega (arith, ap length fits.2, length-append fits.0 both.0.1, taken);
    }

-- So many bytes are counted where the strings stand in front.
front_counted : (algorithm : PpkKeyAlgorithmValue) (values : List (List ℕ)) (front rest : List ℕ)
    → (strings (mpint_values_count algorithm)).piece values front → counted algorithm (front ++ rest) ≡ Ok (length front)
unfolding counted
front_counted algorithm values front rest spells =
    let layout = strings (mpint_values_count algorithm) in
    let whole = length (front ++ rest) in
    let taken : whole - length rest ≡ length front = omega (arith, length-append front rest) in
    ap (λ r. and_then (map_err parts_flaw_error r) (len_taken whole)) (layout.complete values front rest spells) ∙ ap Ok taken

front_taken : (private front rest : List ℕ) (n : ℕ) → private ≡ front ++ rest → length front ≡ n → take n private ≡ front
front_taken private front rest n are len =
    ap (take n) are ∙ ap (λ m. take m (front ++ rest)) (sym len) ∙ take-append_seam front rest

-- They are no more bytes than there are, and they are counted whatever follows them.
pub counted_is_a_front : (algorithm : PpkKeyAlgorithmValue) (private more : List ℕ) (n : ℕ)
    → counted algorithm private ≡ Ok n → (n ≤ length private) × (counted algorithm (take n private ++ more) ≡ Ok n)
counted_is_a_front algorithm private more n is =
    let front = counted_front algorithm private n is in (
      omega (arith, ap length front.are, length-append front.front front.rest, front.len),
      ap (λ f. counted algorithm (f ++ more)) (front_taken private front.front front.rest n front.are front.len)
          ∙ front_counted algorithm front.values front.front more front.spells ∙ ap Ok front.len,
    )

-- ---- a key's secret

more_strings : (n : ℕ) (v : List ℕ) (vs : List (List ℕ)) (x y : List ℕ) → string.piece v x → (strings n).piece vs y
    → (strings (suc n)).piece (v ∷ vs) (x ++ y)
more_strings n v vs x y first others = (v, x, y, first, (vs, y, [], others, (refl, refl), sym (append-nil y)), refl)

-- strings that bytes are
abbrev AreStrings : ℕ → List ℕ → Type 0
AreStrings n bytes = (vs : List (List ℕ)) × (strings n).piece vs bytes

mpint_then : (n : ℕ) (v x y bytes : List ℕ) → mpint.piece v x → bytes ≡ x ++ y → AreStrings n y → AreStrings (suc n) bytes
unfolding mpint
mpint_then n v x y bytes (a, spells, number) joined (vs, others) =
    (a ∷ vs, subst (λ b. (strings (suc n)).piece (a ∷ vs) b) (sym joined) (more_strings n a vs x y spells others))

none_left : (bytes : List ℕ) → bytes ≡ [] → AreStrings 0 bytes
none_left bytes none = ([], (refl, none))

rsa_are_strings : (secret : RsaSecret) (bytes : List ℕ) → rsa_secret.piece secret bytes → AreStrings 4 bytes
unfolding rsa_secret
rsa_are_strings secret bytes (d, x1, y1, d_is, (p, x2, y2, p_is, (q, x3, y3, q_is, (iqmp, x4, y4, iqmp_is, (is, none), j4), j3), j2), j1) =
    mpint_then 3 d x1 y1 bytes d_is j1 (mpint_then 2 p x2 y2 y1 p_is j2
    (mpint_then 1 q x3 y3 y2 q_is j3 (mpint_then 0 iqmp x4 y4 y3 iqmp_is j4 (none_left y4 none))))

ed_is_string : (secret bytes : List ℕ) → ppk_ed_secret.piece secret bytes → AreStrings 1 bytes
unfolding ppk_ed_secret
ed_is_string secret bytes (a, spells, number) =
    (a ∷ [], subst (λ b. (strings 1).piece (a ∷ []) b) (append-nil bytes) (more_strings 0 a [] bytes [] spells (refl, refl)))

whole : (n : ℕ) (x y bytes : List ℕ) → AreStrings n x → y ≡ [] → bytes ≡ x ++ y → AreStrings n bytes
whole n x y bytes are none joined =
    subst (AreStrings n) (sym (joined ∙ ap (λ z. x ++ z) none ∙ append-nil x)) are

curve_counts_one : (curve : EcCurve) (bytes : List ℕ) → AreStrings 1 bytes
    → AreStrings (mpint_values_count (curve_algorithm curve)) bytes
curve_counts_one NistP256 bytes are = are
curve_counts_one NistP384 bytes are = are
curve_counts_one NistP521 bytes are = are

-- The secret's fields are the counted strings.
fields_are_strings : (public : PublicKey) (key : SshBasePrivateKey) (bytes : List ℕ) → (ppk_secret_fields public).piece key bytes
    → AreStrings (mpint_values_count (algorithm_of public)) bytes
unfolding ppk_rsa_fields ppk_ec_fields ppk_ed_fields
fields_are_strings (plain.Rsa e n) key bytes (secret, x, y, spells, (is, none), joined) =
    whole 4 x y bytes (rsa_are_strings secret x spells) none joined
fields_are_strings (plain.Ec curve point) key bytes (secret, x, y, spells, (is, none), joined) =
    curve_counts_one curve bytes (mpint_then 0 secret x y bytes spells joined (none_left y none))
fields_are_strings (plain.Ed public) key bytes (secret, x, y, spells, (is, none), joined) =
    whole 1 x y bytes (ed_is_string secret x spells) none joined

fields_counted : (algorithm : PpkKeyAlgorithmValue) (public : PublicKey) (key : SshBasePrivateKey) (front rest : List ℕ)
    → algorithm ≡ algorithm_of public → (ppk_secret_fields public).piece key front
    → counted algorithm (front ++ rest) ≡ Ok (length front)
fields_counted algorithm public key front rest named spells =
    let are = fields_are_strings public key front spells in
    ap (λ a. counted a (front ++ rest)) named ∙ front_counted (algorithm_of public) are.0 front rest are.1

-- Private bytes that stand for a key have their counted strings.
pub standing_is_counted : (algorithm : PpkKeyAlgorithmValue) (blob private : List ℕ) (key : SshBasePrivateKey)
    → StandsForKey algorithm blob private key → (n : ℕ) × (counted algorithm private ≡ Ok n)
standing_is_counted algorithm blob private key stands =
    let rest = stands.private_begins.0 in
    let fits = stands.private_begins.1 in (
      length fits.0,
      ap (counted algorithm) fits.2 ∙ fields_counted algorithm stands.public key fits.0 rest stands.named fits.1,
    )

-- The key stays the same where its private bytes are cut after the counted strings, whatever follows then.
pub cut_stands : (algorithm : PpkKeyAlgorithmValue) (blob private more : List ℕ) (key : SshBasePrivateKey) (n : ℕ)
    → StandsForKey algorithm blob private key → counted algorithm private ≡ Ok n
    → StandsForKey algorithm blob (take n private ++ more) key
cut_stands algorithm blob private more key n stands is =
    let rest = stands.private_begins.0 in
    let fits = stands.private_begins.1 in
    let all = fields_counted algorithm stands.public key fits.0 rest stands.named fits.1 in
    let same : Ok (length fits.0) ≡ Ok n = sym all ∙ ap (counted algorithm) (sym fits.2) ∙ is in
    let len : length fits.0 ≡ n = cc same in
    record {
      public = stands.public;
      named = stands.named;
      blob_begins = stands.blob_begins;
      private_begins = (more, (fits.0, fits.1, ap (λ f. f ++ more) (front_taken private fits.0 rest n fits.2 len)));
    }

-- The private bytes that a key makes are the counted strings and nothing more.
pub made_is_counted : (key : SshBasePrivateKey) (parts : KeyParts) → IsPrivateKey key → key_parts key ≡ Ok parts
    → counted parts.algorithm parts.private_bytes ≡ Ok (length parts.private_bytes)
made_is_counted key parts is made =
    let makes = made_parts key parts is made in
    let bytes = secret_bytes key in
    let all : counted (algorithm_of makes.public) bytes ≡ Ok (length bytes) =
    ap (counted (algorithm_of makes.public)) (sym (append-nil bytes))
    ∙ fields_counted (algorithm_of makes.public) makes.public key bytes [] refl makes.spells in
    subst (λ (p : KeyParts). counted p.algorithm p.private_bytes ≡ Ok (length p.private_bytes)) makes.are all
