-- Lemmas on the block of a private key.
use Rattle.std.proofs.Common.{◌≡◌, ℕ, List, ap, refl, sym, Result, Ok, Err}
use Rattle.picky_wire_base.specs.Flaw.{Flaw, Flawed, Why}
use Rattle.picky_wire_base.specs.Outcome.{map_err}
use Rattle.picky_sshkey_blob.specs.declared.error.SshPrivateKeyError.{SshPrivateKeyError}
use Rattle.picky_wire_base.specs.Front.{read_front}
use Rattle.picky_wire_base.specs.Wire.{text}
use Rattle.picky_sshkey_blob.specs.Blob.{secret}
use Rattle.picky_sshkey_blob.specs.declared.key.SshBasePrivateKey.{SshBasePrivateKey}
use Rattle.picky_sshkey.specs.PrivateBlock.{check_numbers, flaw_error, private_block}

-- a field that is refused with this reason is refused with its error
pub comment_refused : {A : Type 0} (r : Result (A × List ℕ) Flaw) (why : Why) (e : SshPrivateKeyError)
    → map_err Flawed r ≡ Err why → ((flaw : Flaw) → why ≡ Flawed flaw → e ≡ flaw_error flaw)
    → map_err flaw_error r ≡ Err e
comment_refused (Ok found) why e refused says = cc refused
comment_refused (Err flaw) why e refused says =
    let same : Flawed flaw ≡ why = cc refused in
    ap Err (sym (says flaw (sym same)))

-- a block whose comment is refused
pub block_refused : (block after rest : List ℕ) (check : ℕ) (key : SshBasePrivateKey) (e : SshPrivateKeyError)
    → check_numbers.read block ≡ Ok (check, after) → secret.read after ≡ Ok (key, rest)
    → map_err flaw_error (text.read rest) ≡ Err e → read_front private_block block ≡ Err e
unfolding private_block
block_refused block after rest check key e numbers is refused = rw (numbers, is, refused) refl
