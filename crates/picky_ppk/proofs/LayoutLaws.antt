-- A key's file in each layout is read as the key; PuTTY's is what is made for PuTTY of the other one.
use Rattle.std.specs.Prelude.{◌≡◌, ◌++◌, List, [], ◌∷◌, ℕ, true, false, ◌<◌, ◌^◌, ◌-◌, length, Result, Ok, Err, if◌then◌else◌}
use Rattle.std.proofs.Common.{refl, sym, ap, subst, ◌∙◌, arith}
use Rattle.std.proofs.lemmas.Bool.{lt-ltb}
use Rattle.std.proofs.lemmas.List.{append-nil}
use Rattle.picky_wire_base.specs.{Outcome.{and_then, map_err}, Wire.{string_of}}
use Rattle.picky_wire_base.specs.carried.Outcome.{and_then_ok, passed_ok}
use Rattle.picky_wire_base.proofs.{PieceLemmas.{length-string_of}, Strings.{string_spells}}
use Rattle.picky_kv.specs.{declared.PpkVersionKey.{PpkVersionKey}, declared.algorithm.PpkKeyAlgorithmValue.{PpkKeyAlgorithmValue}}
use Rattle.picky_kv.specs.declared.algorithm.PpkKeyAlgorithmValue.TheVariants as algorithms
use Rattle.picky_suite.specs.Meanings.{Meanings}
use Rattle.picky_keys.specs.{Blob.{blob_of}, carried.Blob.{blob_spells}, LineRefusal.{is_short}}
use Rattle.picky_keys.specs.declared.public_key.PublicKey.TheVariants as plain
use Rattle.picky_sshkey_blob.specs.{declared.key.SshBasePrivateKey.{SshBasePrivateKey}, Key.{IsPrivateKey, public_part}}
use Rattle.picky_sshkey_blob.specs.declared.key.SshBasePrivateKey.TheVariants as keys
use Rattle.picky_sshkey_blob.proofs.KeyLaws.{public_part_is_key}
use Rattle.picky_ppk_parts.specs.declared.error.PuttyError.{PuttyError}
use Rattle.picky_ppk_parts.specs.declared.error.PuttyError.TheVariants as errors
use Rattle.picky_ppk_parts.specs.{declared.key_parts.KeyParts.{KeyParts}, Algorithm.{curve_algorithm}, Counted.{strings, counted}}
use Rattle.picky_ppk_parts.specs.{KeyParts.{key_parts}, Parts.{StandsForKey}, PartsRefusal.{parts_flaw_error}, Secret.{secret_bytes}}
use Rattle.picky_ppk_parts.proofs.{CountedLaws.{made_is_counted}, CountedLemmas.{len_taken}, PartsLaws.{parts_sound}}
use Rattle.picky_ppk_parts.proofs.ReadBackLaws.{parts_read_back}
use Rattle.picky_ppk_file.specs.declared.file.PpkFile.{PpkFile}
use Rattle.picky_ppk.specs.declared.layout.PpkLayout.{PpkLayout}
use Rattle.picky_ppk.specs.declared.layout.PpkLayout.TheVariants as layouts
use Rattle.picky_ppk.specs.{Changed.{file_of_parts, of_base_key}, ForPutty.{HasPuttySecret, for_putty, is_ed25519, putty_fields}}
use Rattle.picky_ppk.specs.{KeyOf.{base_key_of}, PpkLayout.{laid_file, laid_parts, laid_secret}, Mac.{own_mac}}
use Rattle.picky_ppk.proofs.{ForPuttyLaws.{curve_is_none, secret_string_spells}, KeyLaws.{base_key_comes_back, standing_key_is_found}}

-- ---- the string of a secret

pub short_string : (secret : List ℕ) → length secret ≡ 32 → is_short (string_of secret) ≡ true
short_string secret len = lt-ltb (length (string_of secret)) (2 ^ 32) (omega (arith, length-string_of secret, len))

ed_stands : (secret public : List ℕ) → IsPrivateKey (keys.Ed secret public)
    → StandsForKey algorithms.Ed25519 (blob_of (public_part (keys.Ed secret public))) (string_of secret) (keys.Ed secret public)
ed_stands secret public is =
    let key : SshBasePrivateKey = keys.Ed secret public in
    let blob = blob_of (public_part key) in
    record {
      public = plain.Ed public;
      named = refl;
      blob_begins = ([], (blob, blob_spells (public_part key) (public_part_is_key key is), sym (append-nil blob)));
      private_begins = ([], (string_of secret, secret_string_spells secret public is.0.len, sym (append-nil (string_of secret))));
    }

-- it is the one counted string
ed_counted : (secret : List ℕ) → length secret ≡ 32
    → counted algorithms.Ed25519 (string_of secret) ≡ Ok (length (string_of secret))
unfolding counted
ed_counted secret len =
    let bytes = string_of secret in
    let short : length secret < 2 ^ 32 = omega (arith, len) in
    let piece : (strings 1).piece (secret ∷ []) bytes =
    (secret, bytes, [], string_spells secret short, ([], [], [], (refl, refl), (refl, refl), refl), sym (append-nil bytes)) in
    let layout = strings 1 in
    let read : layout.read bytes ≡ Ok (secret ∷ [], []) =
    ap (λ b. layout.read b) (sym (append-nil bytes)) ∙ layout.complete (secret ∷ []) bytes [] piece in
    let left : length bytes - 0 ≡ length bytes = omega arith in
    ap (λ r. and_then (map_err parts_flaw_error r) (len_taken (length bytes))) read ∙ ap Ok left

-- ---- the parts

abbrev parts_with : PpkKeyAlgorithmValue → (blob private : List ℕ) → KeyParts
parts_with algorithm blob private = record { algorithm = algorithm; blob = blob; private_bytes = private }

abbrev within : PpkKeyAlgorithmValue → (blob private : List ℕ) → Result KeyParts PuttyError
within algorithm blob private =
    and_then (if is_short blob then Ok blob else Err errors.TooLong) (λ b.
    if is_short private then Ok (parts_with algorithm b private) else Err errors.TooLong)

within_are : (algorithm : PpkKeyAlgorithmValue) (blob private : List ℕ) (parts : KeyParts)
    → within algorithm blob private ≡ Ok parts → parts_with algorithm blob private ≡ parts
within_are algorithm blob private parts made =
    let both = and_then_ok (if is_short blob then Ok blob else Err errors.TooLong) (λ b.
    if is_short private then Ok (parts_with algorithm b private) else Err errors.TooLong) parts made in
    let first = passed_ok (is_short blob) errors.TooLong blob both.0 both.1 in
    let whole = passed_ok (is_short private) errors.TooLong (parts_with algorithm both.0 private) parts both.2 in
    ap (λ b. parts_with algorithm b private) first.1 ∙ whole.1

read_parts_stand : (key : SshBasePrivateKey) (parts : KeyParts) → IsPrivateKey key → key_parts key ≡ Ok parts
    → StandsForKey parts.algorithm parts.blob parts.private_bytes key
read_parts_stand key parts is made =
    parts_sound parts.algorithm parts.blob parts.private_bytes key (parts_read_back key parts is made)

-- They stand for the key in each layout.
pub laid_parts_stand : (layout : PpkLayout) (key : SshBasePrivateKey) (parts : KeyParts) → IsPrivateKey key
    → laid_parts layout key ≡ Ok parts → StandsForKey parts.algorithm parts.blob parts.private_bytes key
unfolding laid_parts laid_secret key_parts
laid_parts_stand layouts.Number key parts is made = read_parts_stand key parts is made
laid_parts_stand layouts.Putty (keys.Rsa n e d iqmp p q) parts is made = read_parts_stand (keys.Rsa n e d iqmp p q) parts is made
laid_parts_stand layouts.Putty (keys.Ec curve point secret) parts is made = read_parts_stand (keys.Ec curve point secret) parts is made
laid_parts_stand layouts.Putty (keys.Ed secret public) parts is made =
    let blob = blob_of (public_part (keys.Ed secret public)) in
    let same = within_are algorithms.Ed25519 blob (string_of secret) parts made in
    subst (λ (p : KeyParts). StandsForKey p.algorithm p.blob p.private_bytes (keys.Ed secret public)) same (ed_stands secret public is)
laid_parts_stand layouts.Putty (keys.SkEcdsaSha2NistP256 point application flags handle) parts is made = cc made
laid_parts_stand layouts.Putty (keys.SkEd25519 key application flags handle) parts is made = cc made

-- And they are the counted strings and nothing more.
pub laid_parts_counted : (layout : PpkLayout) (key : SshBasePrivateKey) (parts : KeyParts) → IsPrivateKey key
    → laid_parts layout key ≡ Ok parts → counted parts.algorithm parts.private_bytes ≡ Ok (length parts.private_bytes)
unfolding laid_parts laid_secret key_parts
laid_parts_counted layouts.Number key parts is made = made_is_counted key parts is made
laid_parts_counted layouts.Putty (keys.Rsa n e d iqmp p q) parts is made = made_is_counted (keys.Rsa n e d iqmp p q) parts is made
laid_parts_counted layouts.Putty (keys.Ec curve point secret) parts is made = made_is_counted (keys.Ec curve point secret) parts is made
laid_parts_counted layouts.Putty (keys.Ed secret public) parts is made =
    let blob = blob_of (public_part (keys.Ed secret public)) in
    let same = within_are algorithms.Ed25519 blob (string_of secret) parts made in
    subst (λ (p : KeyParts). counted p.algorithm p.private_bytes ≡ Ok (length p.private_bytes)) same (ed_counted secret is.0.len)
laid_parts_counted layouts.Putty (keys.SkEcdsaSha2NistP256 point application flags handle) parts is made = cc made
laid_parts_counted layouts.Putty (keys.SkEd25519 key application flags handle) parts is made = cc made

-- ---- the file

-- The number's file is that of the other call.
pub number_is_of_base_key : (m : Meanings) (version : PpkVersionKey) (key : SshBasePrivateKey) (comment : List ℕ)
    → laid_file m version layouts.Number key comment ≡ of_base_key m version key comment
unfolding laid_file laid_parts laid_secret of_base_key key_parts
number_is_of_base_key m version key comment = refl

-- Each is read as the key.
pub laid_key_comes_back : (m : Meanings) (version : PpkVersionKey) (layout : PpkLayout) (key : SshBasePrivateKey)
    (comment : List ℕ) (f : PpkFile) → IsPrivateKey key → laid_file m version layout key comment ≡ Ok f
    → (base_key_of f ≡ Ok key) × (f.comment ≡ comment)
unfolding laid_file
laid_key_comes_back m version layout key comment f is made =
    let both = and_then_ok (laid_parts layout key) (λ parts. Ok (file_of_parts m version comment parts)) f made in
    let same : file_of_parts m version comment both.0 ≡ f = cc (both.2) in
    let found = standing_key_is_found (file_of_parts m version comment both.0) key refl (laid_parts_stand layout key both.0 is both.1) in
    subst (λ (g : PpkFile). (base_key_of g ≡ Ok key) × (g.comment ≡ comment)) same (found, refl)

abbrev file_with : Meanings → PpkVersionKey → (comment : List ℕ) → PpkKeyAlgorithmValue → (blob private : List ℕ) → PpkFile
file_with m version comment algorithm blob private = file_of_parts m version comment (parts_with algorithm blob private)

file_is : (m : Meanings) (version : PpkVersionKey) (comment : List ℕ) (algorithm : PpkKeyAlgorithmValue) (blob private : List ℕ)
    (f : PpkFile) → and_then (within algorithm blob private) (λ parts. Ok (file_of_parts m version comment parts)) ≡ Ok f
    → file_with m version comment algorithm blob private ≡ f
file_is m version comment algorithm blob private f made =
    let both = and_then_ok (within algorithm blob private) (λ parts. Ok (file_of_parts m version comment parts)) f made in
    let same : file_of_parts m version comment both.0 ≡ f = cc (both.2) in
    ap (file_of_parts m version comment) (within_are algorithm blob private both.0 both.1) ∙ same

-- PuTTY's has PuTTY's own layout.
pub laid_has_secret : (m : Meanings) (version : PpkVersionKey) (key : SshBasePrivateKey) (comment : List ℕ) (f : PpkFile)
    → IsPrivateKey key → laid_file m version layouts.Putty key comment ≡ Ok f → HasPuttySecret f
unfolding laid_file laid_parts laid_secret
laid_has_secret m version (keys.Rsa n e d iqmp p q) comment f is made =
    let key : SshBasePrivateKey = keys.Rsa n e d iqmp p q in
    subst HasPuttySecret (file_is m version comment algorithms.Rsa (blob_of (public_part key)) (secret_bytes key) f made) (λ ed. cc ed)
laid_has_secret m version (keys.Ec curve point secret) comment f is made =
    let key : SshBasePrivateKey = keys.Ec curve point secret in
    subst HasPuttySecret (file_is m version comment (curve_algorithm curve) (blob_of (public_part key)) (secret_bytes key) f made)
    (λ ed. cc (ed, curve_is_none curve))
laid_has_secret m version (keys.Ed secret public) comment f is made =
    let key : SshBasePrivateKey = keys.Ed secret public in
    subst HasPuttySecret (file_is m version comment algorithms.Ed25519 (blob_of (public_part key)) (string_of secret) f made)
    (λ ed. (secret, is.0.len, refl))
laid_has_secret m version (keys.SkEcdsaSha2NistP256 point application flags handle) comment f is made = cc made
laid_has_secret m version (keys.SkEd25519 key application flags handle) comment f is made = cc made

-- ---- what is made for PuTTY

other_for_putty : (m : Meanings) (version : PpkVersionKey) (comment : List ℕ) (algorithm : PpkKeyAlgorithmValue)
    (blob private : List ℕ) → is_ed25519 algorithm ≡ false
    → for_putty m (file_with m version comment algorithm blob private) ≡ Ok (file_with m version comment algorithm blob private)
unfolding for_putty putty_fields own_mac
other_for_putty m version comment algorithm blob private other = rw other refl

ed_for_putty : (m : Meanings) (version : PpkVersionKey) (comment blob private secret public : List ℕ)
    → base_key_of (file_with m version comment algorithms.Ed25519 blob private) ≡ Ok (keys.Ed secret public)
    → for_putty m (file_with m version comment algorithms.Ed25519 blob private)
    ≡ Ok (file_with m version comment algorithms.Ed25519 blob (string_of secret))
unfolding for_putty putty_fields own_mac
ed_for_putty m version comment blob private secret public found = rw found refl

-- A key's file in PuTTY's layout is made for PuTTY of that with the number.
pub laid_is_made_for_putty : (m : Meanings) (version : PpkVersionKey) (key : SshBasePrivateKey) (comment : List ℕ) (f g : PpkFile)
    → IsPrivateKey key → of_base_key m version key comment ≡ Ok f → laid_file m version layouts.Putty key comment ≡ Ok g
    → for_putty m f ≡ Ok g
unfolding laid_file laid_parts laid_secret of_base_key key_parts
laid_is_made_for_putty m version (keys.Rsa n e d iqmp p q) comment f g is made laid =
    let key : SshBasePrivateKey = keys.Rsa n e d iqmp p q in
    let blob = blob_of (public_part key) in
    let old = file_is m version comment algorithms.Rsa blob (secret_bytes key) f made in
    let new = file_is m version comment algorithms.Rsa blob (secret_bytes key) g laid in
    ap (for_putty m) (sym old) ∙ other_for_putty m version comment algorithms.Rsa blob (secret_bytes key) refl ∙ ap Ok new
laid_is_made_for_putty m version (keys.Ec curve point secret) comment f g is made laid =
    let key : SshBasePrivateKey = keys.Ec curve point secret in
    let blob = blob_of (public_part key) in
    let old = file_is m version comment (curve_algorithm curve) blob (secret_bytes key) f made in
    let new = file_is m version comment (curve_algorithm curve) blob (secret_bytes key) g laid in
    ap (for_putty m) (sym old)
    ∙ other_for_putty m version comment (curve_algorithm curve) blob (secret_bytes key) (curve_is_none curve) ∙ ap Ok new
laid_is_made_for_putty m version (keys.Ed secret public) comment f g is made laid =
    let key : SshBasePrivateKey = keys.Ed secret public in
    let blob = blob_of (public_part key) in
    let old = file_is m version comment algorithms.Ed25519 blob (secret_bytes key) f made in
    let new = file_is m version comment algorithms.Ed25519 blob (string_of secret) g laid in
    let found = ap base_key_of old ∙ (base_key_comes_back m version key comment f is made).0 in
    ap (for_putty m) (sym old) ∙ ed_for_putty m version comment blob (secret_bytes key) secret public found ∙ ap Ok new
laid_is_made_for_putty m version (keys.SkEcdsaSha2NistP256 point application flags handle) comment f g is made laid = cc made
laid_is_made_for_putty m version (keys.SkEd25519 key application flags handle) comment f g is made laid = cc made
