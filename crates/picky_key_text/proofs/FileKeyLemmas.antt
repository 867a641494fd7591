-- What a private key file means, by its key and its comment.
use Rattle.std.specs.Prelude.{List, ℕ}
use Rattle.std.proofs.Common.{◌≡◌, Result, Ok, Err, ap}
use Rattle.picky_wire_base.specs.Outcome.{and_then}
use Rattle.picky_sshkey_blob.specs.declared.key.SshBasePrivateKey.{SshBasePrivateKey}
use Rattle.picky_ppk_parts.specs.declared.error.PuttyError.{PuttyError}
use Rattle.picky_key_text.specs.Key.{private_meaning}

-- it is what these mean
pub file_key_means : (says : Result SshBasePrivateKey PuttyError) (own : List ℕ) (key : SshBasePrivateKey) (comment : List ℕ)
    → and_then {B = SshBasePrivateKey × List ℕ} says (λ key. Ok (key, own)) ≡ Ok (key, comment)
    → and_then says (λ key. Ok (private_meaning key own)) ≡ Ok (private_meaning key comment)
file_key_means (Ok found) own key comment is =
    let same : ◌≡◌ {A = SshBasePrivateKey × List ℕ} (found, own) (key, comment) = cc is in ap (λ both. Ok (private_meaning both.0 both.1)) same
file_key_means (Err e) own key comment is = cc is

-- and without a key there is no meaning
pub no_file_key_means : (says : Result SshBasePrivateKey PuttyError) (own : List ℕ) (e : PuttyError)
    → and_then {B = SshBasePrivateKey × List ℕ} says (λ key. Ok (key, own)) ≡ Err e → and_then says (λ key. Ok (private_meaning key own)) ≡ Err e
no_file_key_means (Ok found) own e is = cc is
no_file_key_means (Err d) own e is = let same : d ≡ e = cc is in ap Err same

pub ruleset file_keys = (file_key_means, no_file_key_means)
