-- The file for PuTTY is read as the same key, and is the file itself where that has PuTTY's layout.
use Rattle.std.specs.Prelude.{◌≡◌, Bool, true, false, List, [], ℕ, ◌<◌, ◌^◌, length, Result, Ok, Err, IfOk, if◌then◌else◌}
use Rattle.std.proofs.Common.{refl, sym, ap, subst, ◌∙◌, arith}
use Rattle.std.proofs.lemmas.List.{append-nil}
use Rattle.picky_wire_base.specs.Outcome.{and_then}
use Rattle.picky_wire_base.specs.carried.Outcome.{and_then_ok}
use Rattle.picky_wire_base.specs.Gives.{Gives}
use Rattle.picky_wire_base.specs.Wire.{string_of}
use Rattle.picky_wire_base.proofs.Strings.{string_spells}
use Rattle.picky_suite.specs.Meanings.{Meanings}
use Rattle.picky_keys.specs.declared.curve.EcCurve.{EcCurve}
use Rattle.picky_keys.specs.declared.curve.EcCurve.TheVariants.{NistP256, NistP384, NistP521}
use Rattle.picky_keys.specs.declared.public_key.PublicKey.{PublicKey}
use Rattle.picky_keys.specs.declared.public_key.PublicKey.TheVariants as plain
use Rattle.picky_sshkey_blob.specs.declared.key.SshBasePrivateKey.{SshBasePrivateKey}
use Rattle.picky_sshkey_blob.specs.declared.key.SshBasePrivateKey.TheVariants as keys
use Rattle.picky_ppk_parts.specs.declared.error.PuttyError.{PuttyError}
use Rattle.picky_ppk_parts.specs.declared.error.PuttyError.TheVariants as errors
use Rattle.picky_ppk_parts.specs.Algorithm.{algorithm_of, curve_algorithm}
use Rattle.picky_ppk_parts.specs.Secret.{ppk_ed_secret, ppk_ed_fields, ppk_secret_fields}
use Rattle.picky_ppk_parts.specs.Parts.{StandsForKey}
use Rattle.picky_ppk_parts.proofs.PartsLaws.{parts_stand_for_one}
use Rattle.picky_ppk_file.specs.declared.file.PpkFile.{PpkFile}
use Rattle.picky_ppk_file.specs.File.{is_sealed, version_of}
use Rattle.picky_ppk.specs.Mac.{own_mac, with_own_mac, CarriesMac}
use Rattle.picky_ppk.specs.KeyOf.{base_key_of}
use Rattle.picky_ppk.specs.ForPutty.{HasPuttySecret, is_ed25519, with_putty_secret, putty_fields}
use Rattle.picky_ppk.proofs.KeyLaws.{found_key_stands, standing_key_is_found}

-- ---- the string of a secret

-- The string of 32 bytes is the secret that they are.
pub secret_string_spells : (secret public : List ℕ) → length secret ≡ 32
    → (ppk_ed_fields public).piece (keys.Ed secret public) (string_of secret)
unfolding ppk_ed_fields ppk_ed_secret
secret_string_spells secret public len =
    let short : length secret < 2 ^ 32 = omega (arith, len) in
    (secret, string_of secret, [], (secret, string_spells secret short, (len, refl)), (refl, refl), sym (append-nil (string_of secret)))

-- What stands for an Ed25519 key has an Ed25519 public key, whose secret has 32 bytes.
pub record IsEdKey (public : PublicKey) (key : SshBasePrivateKey) : Type 0 where
  pub point : List ℕ
  pub secret : List ℕ
  pub len : length secret ≡ 32
  pub is_public : public ≡ plain.Ed point
  pub is_key : key ≡ keys.Ed secret point

ed_key_spelled : (public bytes : List ℕ) (key : SshBasePrivateKey) → (ppk_ed_fields public).piece key bytes
    → IsEdKey (plain.Ed public) key
unfolding ppk_ed_fields ppk_ed_secret
ed_key_spelled public bytes key (secret, x, y, (number, spells, (len, same)), (is, none), joined) =
    record { point = public; secret = secret; len = len; is_public = refl; is_key = is }

pub curve_is_none : (curve : EcCurve) → is_ed25519 (curve_algorithm curve) ≡ false
curve_is_none NistP256 = refl
curve_is_none NistP384 = refl
curve_is_none NistP521 = refl

ed_key_begins : (public : PublicKey) (key : SshBasePrivateKey) (bytes : List ℕ)
    → is_ed25519 (algorithm_of public) ≡ true → (ppk_secret_fields public).piece key bytes → IsEdKey public key
ed_key_begins (plain.Rsa e n) key bytes ed spells = cc ed
ed_key_begins (plain.Ec curve point) key bytes ed spells = cc (ed, curve_is_none curve)
ed_key_begins (plain.Ed public) key bytes ed spells = ed_key_spelled public bytes key spells

-- ---- the fields

-- the parts of an Ed25519 key, with the string of its secret for their private bytes, stand for it
ed_string_stands : (f : PpkFile) (private secret point : List ℕ) (key : SshBasePrivateKey)
    (stands : StandsForKey f.algorithm f.public_key private key) → stands.public ≡ plain.Ed point → length secret ≡ 32
    → StandsForKey f.algorithm f.public_key (string_of secret) (keys.Ed secret point)
ed_string_stands f private secret point key stands is_public len =
    let spells = secret_string_spells secret point len in
    record {
      public = stands.public;
      named = stands.named;
      blob_begins = stands.blob_begins;
      private_begins = (
        [],
        (
          string_of secret,
          subst (λ p. (ppk_secret_fields p).piece (keys.Ed secret point) (string_of secret)) (sym is_public) spells,
          sym (append-nil (string_of secret)),
        ),
      );
    }

-- what holds of the fields that are made for PuTTY
record AreForPutty (f fields : PpkFile) : Type 0 where
  pub sealing : fields.sealing ≡ f.sealing
  pub comment : fields.comment ≡ f.comment
  pub key : base_key_of fields ≡ base_key_of f
  pub layout : HasPuttySecret fields
  pub same : HasPuttySecret f → fields ≡ f

other_fields : (f : PpkFile) → is_ed25519 f.algorithm ≡ false → AreForPutty f f
other_fields f other = record {
  sealing = refl;
  comment = refl;
  key = refl;
  layout = λ ed. cc (ed, other);
  same = λ has. refl;
}

abbrev with_private : PpkFile → List ℕ → PpkFile
with_private f bytes = record f { private_bytes = bytes }

ed_fields_are : (f : PpkFile) (key : SshBasePrivateKey) → is_ed25519 f.algorithm ≡ true → base_key_of f ≡ Ok key
    → AreForPutty f (with_putty_secret f key)
ed_fields_are f key ed found =
    let stood = found_key_stands f key found in
    let stands = stood.1 in
    let begins = stands.private_begins in
    let is = ed_key_begins stands.public key begins.1.0 (subst (λ a. is_ed25519 a ≡ true) stands.named ed) begins.1.1 in
    let fields = with_private f (string_of is.secret) in
    let new = ed_string_stands f f.private_bytes is.secret is.point key stands is.is_public is.len in
    let again : base_key_of fields ≡ Ok (keys.Ed is.secret is.point) =
    standing_key_is_found fields (keys.Ed is.secret is.point) stood.0 new in
    subst (λ k. AreForPutty f (with_putty_secret f k)) (sym is.is_key) (record {
      sealing = refl;
      comment = refl;
      key = again ∙ ap Ok (sym is.is_key) ∙ sym found;
      layout = λ again. (is.secret, is.len, refl);
      same = λ has.
          let own = has ed in
          let other = ed_string_stands f f.private_bytes own.0 is.point key stands is.is_public own.1 in
          let there : StandsForKey f.algorithm f.public_key f.private_bytes (keys.Ed own.0 is.point) =
          subst (λ b. StandsForKey f.algorithm f.public_key b (keys.Ed own.0 is.point)) (sym own.2) other in
          let one : keys.Ed is.secret is.point ≡ keys.Ed own.0 is.point =
          sym is.is_key ∙ parts_stand_for_one f.algorithm f.public_key f.private_bytes key (keys.Ed own.0 is.point) stands there in
          let secrets : is.secret ≡ own.0 = cc one in
          ap (with_private f) (ap string_of secrets ∙ sym own.2);
    })

fields_are : (f fields : PpkFile) (ed : Bool) → is_ed25519 f.algorithm ≡ ed
    → (if ed then and_then (base_key_of f) (λ key. Ok (with_putty_secret f key)) else Ok f) ≡ Ok fields
    → AreForPutty f fields
fields_are f fields true ed made =
    let both = and_then_ok (base_key_of f) (λ key. Ok (with_putty_secret f key)) fields made in
    let same : with_putty_secret f both.0 ≡ fields = cc (both.2) in
    subst (AreForPutty f) same (ed_fields_are f both.0 ed both.1)
fields_are f fields false ed made =
    let same : f ≡ fields = cc made in
    subst (AreForPutty f) same (other_fields f ed)

-- ---- the file

-- The MAC says nothing of the key.
key_under_mac : (f : PpkFile) (mac : List ℕ) → is_sealed f.sealing ≡ false → base_key_of (record f { mac = mac }) ≡ base_key_of f
unfolding base_key_of
key_under_mac f mac unsealed = rw unsealed refl

-- what holds of the file that is made for PuTTY
pub record IsForPutty (m : Meanings) (f file : PpkFile) : Type 0 where
  pub key : base_key_of file ≡ base_key_of f
  pub comment : file.comment ≡ f.comment
  pub version : version_of file.sealing ≡ version_of f.sealing
  pub layout : HasPuttySecret file
  pub same : HasPuttySecret f → CarriesMac m f → file ≡ f

made_of_fields : (m : Meanings) (f fields : PpkFile) → is_sealed f.sealing ≡ false → AreForPutty f fields
    → IsForPutty m f (with_own_mac m fields)
made_of_fields m f fields unsealed are =
    let unsealed_too : is_sealed fields.sealing ≡ false = ap is_sealed are.sealing ∙ unsealed in
    record {
      key = key_under_mac fields (own_mac m fields) unsealed_too ∙ are.key;
      comment = are.comment;
      version = ap version_of are.sealing;
      layout = are.layout;
      same = λ has carries.
          ap (with_own_mac m) (are.same has) ∙ ap (λ mac. record f { mac = mac }) (sym carries.1);
    }

-- What is made of the fields is that file. So what is made for PuTTY is made for it once.
pub remade_is : (m : Meanings) (f fields : PpkFile) (r : Result PpkFile PuttyError) → is_sealed f.sealing ≡ false
    → putty_fields f ≡ Ok fields → Gives errors.NoMemory (λ ppk. ppk) r (Ok (with_own_mac m fields)) → IfOk r (IsForPutty m f)
unfolding putty_fields
remade_is m f fields (Ok file) unsealed is gives =
    let same : with_own_mac m fields ≡ file = cc gives in
    subst (IsForPutty m f) same (made_of_fields m f fields unsealed (fields_are f fields (is_ed25519 f.algorithm) refl is))
remade_is m f fields (Err e) unsealed is gives = tt
