-- The parts of a private key stand for it exactly where they are read as it.
use Rattle.std.specs.Prelude.{◌≡◌, List, ℕ, Ok}
use Rattle.std.proofs.Common.{sym, ap, subst, ◌∙◌}
use Rattle.picky_wire_base.specs.Front.{Begins, read_front}
use Rattle.picky_wire_base.specs.carried.Inside.{front_sound, front_complete}
use Rattle.picky_wire_base.specs.Outcome.{and_then, map_err}
use Rattle.picky_wire_base.specs.carried.Outcome.{and_then_ok, map_err_ok}
use Rattle.picky_kv.specs.declared.algorithm.PpkKeyAlgorithmValue.{PpkKeyAlgorithmValue}
use Rattle.picky_keys.specs.Blob.{blob as blob_layout}
use Rattle.picky_keys.specs.LineRefusal.{blob_key}
use Rattle.picky_keys.proofs.LineLaws.{blob_key_of, blob_key_fits}
use Rattle.picky_sshkey_blob.specs.declared.key.SshBasePrivateKey.{SshBasePrivateKey}
use Rattle.picky_ppk_parts.specs.declared.error.PuttyError.TheVariants as errors
use Rattle.picky_ppk_parts.specs.Algorithm.{ssh_key_of, key_under}
use Rattle.picky_ppk_parts.specs.Secret.{ppk_secret_fields}
use Rattle.picky_ppk_parts.specs.Parts.{StandsForKey}
use Rattle.picky_ppk_parts.specs.PartsRefusal.{secret_error, key_with_secret, public_key_under, parts_key}
use Rattle.picky_ppk_parts.proofs.AlgorithmLemmas.{key_is_named, named_is_under}

-- What is read stands there.
pub parts_sound : (algorithm : PpkKeyAlgorithmValue) (blob private : List ℕ) (key : SshBasePrivateKey)
    → parts_key algorithm blob private ≡ Ok key → StandsForKey algorithm blob private key
unfolding parts_key public_key_under key_with_secret
parts_sound algorithm blob private key is =
    let both = and_then_ok (public_key_under algorithm blob) (λ public. key_with_secret public private) key is in
    let found = and_then_ok (map_err errors.SshPublicKey (blob_key blob)) (key_under algorithm) both.0 both.1 in
    let named = key_is_named algorithm found.0 both.0 found.2 in
    let read = map_err_ok errors.SshPublicKey (blob_key blob) found.0 found.1 in
    let secret = map_err_ok secret_error (read_front (ppk_secret_fields both.0) private) key both.2 in
    record {
      public = both.0;
      named = named.named;
      blob_begins = subst (λ k. Begins blob_layout.piece blob k) named.same (blob_key_fits blob found.0 read);
      private_begins = front_sound (ppk_secret_fields both.0) private key secret;
    }

-- What stands there is read.
pub parts_complete : (algorithm : PpkKeyAlgorithmValue) (blob private : List ℕ) (key : SshBasePrivateKey)
    → StandsForKey algorithm blob private key → parts_key algorithm blob private ≡ Ok key
unfolding parts_key public_key_under key_with_secret
parts_complete algorithm blob private key stands =
    let public = stands.public in
    let read : blob_key blob ≡ Ok (ssh_key_of public) =
    blob_key_of blob stands.blob_begins.0 (ssh_key_of public) stands.blob_begins.1 in
    let under : public_key_under algorithm blob ≡ Ok public =
    ap (λ r. and_then (map_err errors.SshPublicKey r) (key_under algorithm)) read
    ∙ ap (λ a. key_under a (ssh_key_of public)) stands.named ∙ named_is_under public in
    let secret : key_with_secret public private ≡ Ok key =
    ap (map_err secret_error) (front_complete (ppk_secret_fields public) private key stands.private_begins) in
    ap (λ r. and_then r (λ p. key_with_secret p private)) under ∙ secret

-- So the parts stand for one key.
pub parts_stand_for_one : (algorithm : PpkKeyAlgorithmValue) (blob private : List ℕ) (k l : SshBasePrivateKey)
    → StandsForKey algorithm blob private k → StandsForKey algorithm blob private l → k ≡ l
parts_stand_for_one algorithm blob private k l first second =
    let same : Ok k ≡ Ok l =
    sym (parts_complete algorithm blob private k first) ∙ parts_complete algorithm blob private l second in
    cc same
