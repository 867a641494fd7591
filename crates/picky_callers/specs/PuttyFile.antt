-- A PuTTY private key file of a key (PuTTY's manual, Appendix C).
use Rattle.std.specs.Prelude.{◌≡◌, List, ℕ, Ok}
use Rattle.picky.specs.Checked.{ppk_meaning}
use Rattle.picky.specs.KeyOf.{base_key_of}
use Rattle.picky.specs.Meanings.{Meanings}
use Rattle.picky.specs.declared.putty.PpkFile.{PpkFile}
use Rattle.picky.specs.declared.ssh.SshPrivateKey.{SshPrivateKey}

-- the text is read as a file, whose MAC is right, and the file has the key and its comment
pub record IsFileOf (m : Meanings) (key : SshPrivateKey) (text : List ℕ) : Type 0 where
  pub file : PpkFile
  pub is_read : ppk_meaning m text ≡ Ok file
  pub has_key : base_key_of file ≡ Ok key.base_key
  pub has_comment : file.comment ≡ key.comment
