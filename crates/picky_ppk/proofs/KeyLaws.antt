-- The private key in a file: where it stands, and that an OpenSSH key comes back from the file that it makes.
use Rattle.std.specs.Prelude.{◌≡◌, false, List, ℕ, Ok}
use Rattle.std.proofs.Common.{refl, subst}
use Rattle.picky_wire_base.specs.carried.Outcome.{and_then_ok, guard_ok}
use Rattle.picky_kv.specs.declared.PpkVersionKey.{PpkVersionKey}
use Rattle.picky_kv.specs.declared.PpkVersionKey.TheVariants.{V3}
use Rattle.picky_suite.specs.Meanings.{Meanings}
use Rattle.picky_sshkey_blob.specs.declared.key.SshBasePrivateKey.{SshBasePrivateKey}
use Rattle.picky_sshkey_blob.specs.Key.{IsPrivateKey}
use Rattle.picky_sshkey.specs.declared.private_key.SshPrivateKey.{SshPrivateKey}
use Rattle.picky_ppk_parts.specs.declared.error.PuttyError.TheVariants as errors
use Rattle.picky_ppk_parts.specs.KeyParts.{key_parts}
use Rattle.picky_ppk_parts.specs.Parts.{StandsForKey}
use Rattle.picky_ppk_parts.specs.PartsRefusal.{parts_key}
use Rattle.picky_ppk_parts.proofs.PartsLaws.{parts_sound, parts_complete}
use Rattle.picky_ppk_parts.proofs.ReadBackLaws.{parts_read_back}
use Rattle.picky_ppk_file.specs.declared.file.PpkFile.{PpkFile}
use Rattle.picky_ppk_file.specs.File.{is_sealed}
use Rattle.picky_ppk.specs.Changed.{open_file, file_of_parts, of_base_key, of_openssh}
use Rattle.picky_ppk.specs.KeyOf.{base_key_of}
use Rattle.picky_ppk.specs.Wrappers.{base_of_openssh, base_of_parts, base_to_openssh}
use Rattle.picky_ppk.specs.declared.wrappers.PuttyBasePrivateKey.{PuttyBasePrivateKey}

abbrev key_of_fields : PpkFile → SshBasePrivateKey → Type 0
key_of_fields f key = parts_key f.algorithm f.public_key f.private_bytes ≡ Ok key

-- A key that is found stands in a file that isn't sealed.
pub found_key_stands : (f : PpkFile) (key : SshBasePrivateKey) → base_key_of f ≡ Ok key
    → (is_sealed f.sealing ≡ false) × StandsForKey f.algorithm f.public_key f.private_bytes key
unfolding base_key_of
found_key_stands f key is =
    let both = and_then_ok (open_file f) (λ f. parts_key f.algorithm f.public_key f.private_bytes) key is in
    let opened = guard_ok (is_sealed f.sealing) errors.Encrypted f both.0 both.1 in
    let read : key_of_fields f key = rw opened.1 both.2 in
    (opened.0, parts_sound f.algorithm f.public_key f.private_bytes key read)

-- A key that stands there is found.
pub standing_key_is_found : (f : PpkFile) (key : SshBasePrivateKey) → is_sealed f.sealing ≡ false
    → StandsForKey f.algorithm f.public_key f.private_bytes key → base_key_of f ≡ Ok key
unfolding base_key_of
standing_key_is_found f key unsealed stands =
    rw unsealed (parts_complete f.algorithm f.public_key f.private_bytes key stands)

abbrev gives_back : SshBasePrivateKey → List ℕ → PpkFile → Type 0
gives_back key comment f = (base_key_of f ≡ Ok key) × (f.comment ≡ comment)

-- A key that is put into a file comes back.
pub base_key_comes_back : (m : Meanings) (version : PpkVersionKey) (key : SshBasePrivateKey) (comment : List ℕ) (f : PpkFile)
    → IsPrivateKey key → of_base_key m version key comment ≡ Ok f → (base_key_of f ≡ Ok key) × (f.comment ≡ comment)
unfolding base_key_of of_base_key
base_key_comes_back m version key comment f is made =
    let both = and_then_ok (key_parts key) (λ parts. Ok (file_of_parts m version comment parts)) f made in
    let same : file_of_parts m version comment both.0 ≡ f = cc (both.2) in
    subst (gives_back key comment) same (parts_read_back key both.0 is both.1, refl)

-- An OpenSSH key too.
pub key_comes_back : (m : Meanings) (key : SshPrivateKey) (f : PpkFile) → IsPrivateKey key.base_key → of_openssh m key ≡ Ok f
    → (base_key_of f ≡ Ok key.base_key) × (f.comment ≡ key.comment)
unfolding of_openssh
key_comes_back m key f is made = base_key_comes_back m V3 key.base_key key.comment f is made

abbrev stands_for : SshBasePrivateKey → PuttyBasePrivateKey → Type 0
stands_for key base = base_to_openssh base ≡ Ok key

-- And a key whose parts are taken.
pub base_comes_back : (key : SshBasePrivateKey) (base : PuttyBasePrivateKey) → IsPrivateKey key → base_of_openssh key ≡ Ok base
    → base_to_openssh base ≡ Ok key
unfolding base_of_openssh
base_comes_back key base is made =
    let both = and_then_ok (key_parts key) (λ parts. Ok (base_of_parts parts)) base made in
    let same : base_of_parts both.0 ≡ base = cc (both.2) in
    subst (stands_for key) same (parts_read_back key both.0 is both.1)
