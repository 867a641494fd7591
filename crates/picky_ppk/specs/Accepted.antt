-- A text whose MAC holds under a passphrase (PuTTY's manual, Appendix C), and what two such texts with one MAC say.
use Rattle.std.specs.Prelude.{◌≡◌, ◌≢◌, List, ℕ, true, Ok, if◌then◌else◌}
use Rattle.picky_wire_base.specs.Numbers.{IsBytes}
use Rattle.picky_suite.specs.Meanings.{Meanings}
use Rattle.picky_ppk_parts.specs.Mac.{plain_mac_key}
use Rattle.picky_ppk_file.specs.declared.file.PpkFile.{PpkFile}
use Rattle.picky_ppk_file.specs.File.{is_sealed, version_of}
use Rattle.picky_ppk.specs.Checked.{ppk_meaning}
use Rattle.picky_ppk.specs.Keyed.{keys_under}
use Rattle.picky_ppk.specs.Mac.{covered, mac_under}
use Rattle.picky_ppk.specs.Opened.{decrypted}

-- the private bytes that the MAC covers, opened where they are sealed
abbrev pub private_under : Meanings → (pass : List ℕ) → PpkFile → List ℕ
private_under m pass f =
    let keys = keys_under m f.sealing pass in
    if is_sealed f.sealing then m.cbc_open keys.key keys.iv f.private_bytes else f.private_bytes

-- the key of the MAC
abbrev pub mac_key_under : Meanings → (pass : List ℕ) → PpkFile → List ℕ
mac_key_under m pass f =
    if is_sealed f.sealing then (keys_under m f.sealing pass).mac_key else plain_mac_key (version_of f.sealing)

-- the MAC that the file carries is that of its fields and these bytes, under that key
abbrev pub MacHolds : Meanings → (pass : List ℕ) → PpkFile → Type 0
MacHolds m pass f = f.mac ≡ mac_under m (mac_key_under m pass f) f (private_under m pass f)

-- the text is read as the file, and a sealed one is opened under the passphrase
pub record IsAccepted (m : Meanings) (pass text : List ℕ) (f : PpkFile) : Type 0 where
  pub bytes : IsBytes text
  pub is_read : ppk_meaning m text ≡ Ok f
  pub opens : is_sealed f.sealing ≡ true → (opened : PpkFile) × (decrypted m pass f ≡ Ok opened)

-- two files say the same: algorithm, encryption, comment, public blob and opened private bytes
pub record SayTheSame (m : Meanings) (pass other : List ℕ) (f g : PpkFile) : Type 0 where
  pub algorithm : f.algorithm ≡ g.algorithm
  pub sealed : is_sealed f.sealing ≡ is_sealed g.sealing
  pub comment : f.comment ≡ g.comment
  pub public : f.public_key ≡ g.public_key
  pub private : private_under m pass f ≡ private_under m other g

-- two different messages have one MAC
pub record HaveOneMac (m : Meanings) (pass other : List ℕ) (f g : PpkFile) : Type 0 where
  pub differ : covered f (private_under m pass f) ≢ covered g (private_under m other g)
  pub same : mac_under m (mac_key_under m pass f) f (private_under m pass f)
      ≡ mac_under m (mac_key_under m pass f) g (private_under m other g)
