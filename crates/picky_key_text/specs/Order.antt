-- The order in which a key text is refused, by its form, and whether the suite is asked.
use Rattle.std.specs.Prelude.{List, ℕ, Bool, false, Option, None, Some, Result, Ok, Err, if◌then◌else◌}
use Rattle.std.specs.Option.{ok_or}
use Rattle.picky_wire_base.specs.Outcome.{and_then, map_err}
use Rattle.picky_keys.specs.LineRefusal.{line_meaning}
use Rattle.picky_sshkey_blob.specs.declared.error.SshPrivateKeyError.TheVariants as private
use Rattle.picky_sshkey.specs.declared.private_key.SshPrivateKey.{SshPrivateKey}
use Rattle.picky_sshkey.specs.PrivateRefusal.{text_key, text_asks}
use Rattle.picky_cert.specs.LineRefusal.{cert_line_meaning}
use Rattle.picky_ppk_parts.specs.declared.error.PuttyError.{PuttyError}
use Rattle.picky_ppk_parts.specs.declared.error.PuttyError.TheVariants as putty
use Rattle.picky_ppk_file.specs.PuttyRefusal.{putty_meaning, putty_to_openssh}
use Rattle.picky_ppk_file.specs.declared.file.PpkFile.{PpkFile}
use Rattle.picky_ppk_file.specs.File.{is_sealed}
use Rattle.picky_ppk_file.specs.FileRefusal.{file_meaning}
use Rattle.picky_ppk.specs.Checked.{ppk_meaning}
use Rattle.picky_ppk.specs.KeyOf.{base_key_of}
use Rattle.picky_ppk.specs.Opened.{decrypted, is_openable}
use Rattle.picky_key_text.specs.declared.error.ReadError.{ReadError}
use Rattle.picky_key_text.specs.declared.error.ReadError.TheVariants as errors
use Rattle.picky_key_text.specs.declared.form.Form.{Form}
use Rattle.picky_key_text.specs.declared.form.Form.TheVariants as forms
use Rattle.picky_key_text.specs.declared.meaning.Meaning.{Meaning}
use Rattle.picky_key_text.specs.Form.{form_of}
use Rattle.picky_key_text.specs.Key.{certificate_meaning, public_meaning, private_meaning}
use Rattle.picky_key_text.specs.Reader.{Reader}

-- ---- a PuTTY private key file

-- the file, opened where it is sealed
abbrev pub opened_ppk : Reader → PpkFile → Result PpkFile PuttyError
opened_ppk r f =
    if is_sealed f.sealing then and_then (ok_or r.pass putty.Encrypted) (λ pass. decrypted r.meanings pass f) else Ok f

-- its key and comment
abbrev pub file_key : PpkFile → Result Meaning PuttyError
file_key f = and_then (base_key_of f) (λ key. Ok (private_meaning key f.comment))

unfoldable pub ppk_key : Reader → List ℕ → Result Meaning PuttyError
ppk_key r text = and_then (ppk_meaning r.meanings text) (λ f. and_then (opened_ppk r f) file_key)

-- the suite is asked, since the file is sealed and nothing was refused before
abbrev pub file_asks : Option (List ℕ) → Result PpkFile PuttyError → Bool
file_asks (Some pass) (Ok f) = is_openable pass f
file_asks (Some pass) (Err e) = false
file_asks None f = false

unfoldable pub ppk_asks : Option (List ℕ) → List ℕ → Bool
ppk_asks pass text = file_asks pass (file_meaning text)

-- ---- each form

abbrev pub envelope_meaning : SshPrivateKey → Meaning
envelope_meaning key = private_meaning key.base_key key.comment

abbrev pub reading_as : Form → Reader → List ℕ → Result Meaning ReadError
reading_as forms.Envelope r text =
    and_then (map_err errors.Private (text_key r.meanings r.pass text)) (λ key. Ok (envelope_meaning key))
reading_as forms.Ppk r text = map_err errors.Putty (ppk_key r text)
reading_as forms.PuttyPublic r text =
    and_then (map_err errors.Putty (and_then (putty_meaning text) putty_to_openssh)) (λ key. Ok (public_meaning key))
reading_as forms.Certificate r text =
    and_then (map_err errors.Certificate (cert_line_meaning text)) (λ c. Ok (certificate_meaning c))
reading_as forms.PublicLine r text =
    and_then (map_err errors.Public (line_meaning text)) (λ key. Ok (public_meaning key))

-- what the text means, or the first reason why it means nothing
unfoldable pub reading : Reader → List ℕ → Result Meaning ReadError
reading r text = reading_as (form_of text) r text

-- the suite is asked of a text in this form
abbrev pub asks_as : Form → Option (List ℕ) → List ℕ → Bool
asks_as forms.Envelope pass text = text_asks pass text
asks_as forms.Ppk pass text = ppk_asks pass text
asks_as forms.PuttyPublic pass text = false
asks_as forms.Certificate pass text = false
asks_as forms.PublicLine pass text = false

unfoldable pub asks : Option (List ℕ) → List ℕ → Bool
asks pass text = asks_as (form_of text) pass text

-- the suite's fault, in the words of the form; those of public keys ask none
abbrev pub fault_as : Form → ReadError
fault_as forms.Envelope = errors.Private private.SuiteFault
fault_as forms.Ppk = errors.Putty putty.SuiteFault
fault_as forms.PuttyPublic = errors.Putty putty.SuiteFault
fault_as forms.Certificate = errors.Putty putty.SuiteFault
fault_as forms.PublicLine = errors.Putty putty.SuiteFault

abbrev pub fault_of : List ℕ → ReadError
fault_of text = fault_as (form_of text)
