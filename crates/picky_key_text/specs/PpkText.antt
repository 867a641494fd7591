-- What a PuTTY private key file's text says under a passphrase (PuTTY's manual, Appendix C).
use Rattle.std.specs.Prelude.{◌≡◌, ◌⊎◌, List, ℕ, Some, length}
use Rattle.picky_suite.specs.Meanings.{Meanings}
use Rattle.picky_suite.specs.Ranges.{Argon2Ok, IsWhole}
use Rattle.picky_sshkey_blob.specs.declared.key.SshBasePrivateKey.{SshBasePrivateKey}
use Rattle.picky_ppk_parts.specs.Parts.{StandsForKey}
use Rattle.picky_ppk_file.specs.declared.file.PpkFile.{PpkFile}
use Rattle.picky_ppk_file.specs.declared.file.PpkSealing.{PpkSealing}
use Rattle.picky_ppk_file.specs.declared.file.PpkSealing.TheVariants.{Unsealed, SealedV2, SealedV3}
use Rattle.picky_ppk_file.specs.FileText.{SaysFile}
use Rattle.picky_ppk.specs.Keyed.{keys_under}
use Rattle.picky_ppk.specs.Mac.{CarriesMac, mac_under}
use Rattle.picky_key_text.specs.Reader.{Reader}
use Rattle.picky_key_text.specs.Key.{private_meaning}
use Rattle.picky_key_text.specs.declared.meaning.Meaning.{Meaning}

-- the file is sealed, and its keys can be made of the passphrase: in version 3 Argon2 can be run with its numbers
abbrev pub CanOpen : PpkSealing → List ℕ → Type 0
CanOpen (Unsealed version) pass = ⊥
CanOpen SealedV2 pass = Unit {0}
CanOpen (SealedV3 params) pass =
    Argon2Ok params.memory params.passes params.parallelism (length pass) (length params.salt)

-- these are the private bytes, with their padding, that were sealed under the passphrase: the file's MAC covers them
pub record IsUnsealed (m : Meanings) (pass : List ℕ) (f : PpkFile) (private : List ℕ) : Type 0 where
  pub can_open : CanOpen f.sealing pass
  pub whole : IsWhole f.private_bytes
  pub opened : private ≡ m.cbc_open (keys_under m f.sealing pass).key (keys_under m f.sealing pass).iv f.private_bytes
  pub mac : f.mac ≡ mac_under m (keys_under m f.sealing pass).mac_key f private

-- the file's private bytes, opened where they are sealed; its MAC covers them
abbrev pub AreOpened : Reader → PpkFile → List ℕ → Type 0
AreOpened r f private =
    (CarriesMac r.meanings f × (private ≡ f.private_bytes))
    ⊎ ((pass : List ℕ) × (r.pass ≡ Some pass) × IsUnsealed r.meanings pass f private)

-- the text says a file, its private bytes are opened, and with its algorithm and blob they stand for a key
pub record IsPpkText (r : Reader) (text : List ℕ) (meaning : Meaning) : Type 0 where
  pub file : PpkFile
  pub says : SaysFile text file
  pub private : List ℕ
  pub opened : AreOpened r file private
  pub key : SshBasePrivateKey
  pub stands : StandsForKey file.algorithm file.public_key private key
  pub is : meaning ≡ private_meaning key file.comment
