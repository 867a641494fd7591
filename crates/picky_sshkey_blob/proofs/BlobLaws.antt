-- A private key's blob that is written is read back, and one that is read stands where it is spelled.
use Rattle.std.specs.Prelude.{◌≡◌, List, ℕ, ◌++◌, drop, Some, Result, Ok, Err}
use Rattle.std.proofs.Common.{ap, subst, ◌∙◌}
use Rattle.picky_wire_base.specs.Flaw.{Why, Reason}
use Rattle.picky_wire_base.specs.Numbers.{IsBytes}
use Rattle.picky_wire_base.proofs.Numbers.{bytes_in_front}
use Rattle.picky_wire_base.specs.Grammar.{Fits}
use Rattle.picky_wire_base.specs.Outcome.{map_err}
use Rattle.picky_wire_base.specs.carried.Outcome.{map_err_ok}
use Rattle.picky_wire_base.specs.View.{Sees, why_in}
use Rattle.picky_sshkey_blob.specs.declared.key.SshBasePrivateKey.{SshBasePrivateKey}
use Rattle.picky_sshkey_blob.specs.declared.view.PrivateView.{PrivateView}
use Rattle.picky_wire_base.specs.declared.stopped.Stopped.{Stopped}
use Rattle.picky_sshkey_blob.specs.Key.{IsPrivateKey}
use Rattle.picky_sshkey_blob.specs.Blob.{secret, secret_of}
use Rattle.picky_sshkey_blob.specs.BlobRefusal.{private_error, read_secret, refused_place}
use Rattle.picky_sshkey_blob.specs.carried.Blob.{secret_spells}
use Rattle.picky_wire_base.specs.View.{SeesAt}
use Rattle.picky_sshkey_blob.specs.View.{private_key_seen, answer_of}
use Rattle.picky_sshkey_blob.proofs.KeyLaws.{spelled_is_key}

-- What is read in front is spelled there.
pub secret_sound : (bytes : List ℕ) (key : SshBasePrivateKey) (rest : List ℕ) → read_secret bytes ≡ Ok (key, rest)
    → Fits secret.piece key bytes rest
unfolding read_secret
secret_sound bytes key rest read =
    secret.sound bytes key rest (map_err_ok private_error (secret.read bytes) (key, rest) read)

-- What is spelled in front is read.
pub secret_complete : (key : SshBasePrivateKey) (front rest : List ℕ) → secret.piece key front
    → read_secret (front ++ rest) ≡ Ok (key, rest)
unfolding read_secret
secret_complete key front rest spells = ap (map_err private_error) (secret.complete key front rest spells)

-- What is written is read back whatever follows.
pub secret_reads_back : (key : SshBasePrivateKey) (rest : List ℕ) → IsPrivateKey key
    → read_secret (secret_of key ++ rest) ≡ Ok (key, rest)
secret_reads_back key rest is = secret_complete key (secret_of key) rest (secret_spells key is)

-- A key that is read keeps what its type promises.
pub read_is_key : (bytes : List ℕ) (key : SshBasePrivateKey) (rest : List ℕ) → IsBytes bytes
    → read_secret bytes ≡ Ok (key, rest) → IsPrivateKey key
read_is_key bytes key rest each read =
    let fits = secret_sound bytes key rest read in
    spelled_is_key key fits.0 (bytes_in_front fits.0 rest (subst IsBytes fits.2 each)) fits.1

-- A view answers as the reader does.
pub view_reads : (bytes : List ℕ) (from : ℕ) (r : Result (PrivateView × ℕ) (Stopped ℕ))
    → SeesAt private_key_seen secret bytes from r → read_secret (drop from bytes) ≡ answer_of bytes r
unfolding read_secret
view_reads bytes from (Ok (view, next)) sees = ap (map_err private_error) sees
view_reads bytes from (Err stopped) sees = ap (map_err private_error) sees

-- So does one that is read at the front.
pub front_reads : (bytes : List ℕ) (view : PrivateView) (next : ℕ)
    → Sees private_key_seen why_in secret bytes 0 (Ok (view, next)) → read_secret bytes ≡ Ok (private_key_seen view, drop next bytes)
unfolding read_secret
front_reads bytes view next sees = ap (map_err private_error) sees

placed_reason : {A : Type 0} (r : Result A Reason) (why : Why) (field : ℕ) → map_err why_in r ≡ Err why
    → refused_place r ≡ Some field → map_err private_error r ≡ Err (private_error (field, why))
placed_reason (Ok x) why field stuck place = cc stuck
placed_reason (Err e) why field stuck place =
    let same_why : e.1 ≡ why = cc stuck in
    let same_field : e.0 ≡ field = cc place in
    ap (λ i. Err (private_error (i, e.1))) same_field ∙ ap (λ w. Err (private_error (field, w))) same_why

-- The field at which a view is stuck, and why it is, are the reader's reason.
pub stuck_reads : (bytes : List ℕ) (why : Why) (field : ℕ) → map_err why_in (secret.read bytes) ≡ Err why
    → refused_place (secret.read bytes) ≡ Some field → read_secret bytes ≡ Err (private_error (field, why))
unfolding read_secret
stuck_reads bytes why field stuck place = placed_reason (secret.read bytes) why field stuck place
