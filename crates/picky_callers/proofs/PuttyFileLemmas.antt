-- A PuTTY file that was made of an OpenSSH key, read again.
use Rattle.std.proofs.Common.{◌≡◌, ◌⊎◌, ◌++◌, List, [], ℕ, true, Result, Ok, Err, IfOk, sym, subst, inr}
use Rattle.std.proofs.lemmas.List.{append-nil}
use Rattle.picky.specs.Changed.{file_of_parts, of_base_key, of_openssh}
use Rattle.picky.specs.Checked.{ppk_meaning}
use Rattle.picky.specs.File.{is_sealed, version_of}
use Rattle.picky.specs.KeyOf.{base_key_of}
use Rattle.picky.specs.KeyParts.{key_parts}
use Rattle.picky.specs.Meanings.{Meanings}
use Rattle.picky.specs.Outcome.{and_then}
use Rattle.picky.specs.PpkFileWritten.{line_end_of}
use Rattle.picky.specs.PpkMac.{CarriesMac}
use Rattle.picky.specs.TextLines.{IsLine}
use Rattle.picky.specs.declared.putty.KeyParts.{KeyParts}
use Rattle.picky.specs.declared.putty.LineEnd.TheVariants.{Lf}
use Rattle.picky.specs.declared.putty.PpkFile.{PpkFile}
use Rattle.picky.specs.declared.putty.PpkSealing.TheVariants.{Unsealed}
use Rattle.picky.specs.declared.putty.PpkVersionKey.TheVariants.{V3}
use Rattle.picky.specs.declared.putty.PuttyError.{PuttyError}
use Rattle.picky.specs.declared.ssh.SshPrivateKey.{SshPrivateKey}
use Rattle.picky_callers.specs.PuttyFile.{IsFileOf}

-- whatever its parts are, it is of version 3
of_version_3 : (m : Meanings) (comment : List ℕ) (parts : Result KeyParts PuttyError) (file : PpkFile)
    → and_then parts (λ p. Ok (file_of_parts m V3 comment p)) ≡ Ok file → file.sealing ≡ Unsealed V3
of_version_3 m comment (Ok parts) file made = cc made
of_version_3 m comment (Err e) file made = cc made

made_of_version_3 : (m : Meanings) (key : SshPrivateKey) (file : PpkFile) → of_openssh m key ≡ Ok file
    → file.sealing ≡ Unsealed V3
unfolding of_openssh of_base_key
made_of_version_3 m key file made = of_version_3 m key.comment (key_parts key.base_key) file made

-- so the comment is a line of it, and its text is read as it
pub text_is_file_of : (m : Meanings) (key : SshPrivateKey) (file : PpkFile) (result : Result (List ℕ) PuttyError)
    → of_openssh m key ≡ Ok file → CarriesMac m file
    → (base_key_of file ≡ Ok key.base_key) × (file.comment ≡ key.comment) → IsLine Lf key.comment
    → (IsLine (line_end_of (version_of file.sealing)) file.comment
    → IfOk result (λ text. (n : Meanings) (more : List ℕ) → (is_sealed file.sealing ≡ true) ⊎ CarriesMac n file
    → ppk_meaning n (text ++ more) ≡ Ok file))
    → IfOk result (IsFileOf m key)
text_is_file_of m key file (Ok text) made mac back line reads =
    let stands = subst (IsLine Lf) (sym back.1) line in
    let fits = subst (λ s. IsLine (line_end_of (version_of s)) file.comment) (sym (made_of_version_3 m key file made)) stands in
    record {
      file = file;
      is_read = subst (λ t. ppk_meaning m t ≡ Ok file) (append-nil text) (reads fits m [] (inr mac));
      has_key = back.0;
      has_comment = back.1;
    }
text_is_file_of m key file (Err e) made mac back line reads = tt
