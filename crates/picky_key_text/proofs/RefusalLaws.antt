-- No order of refusals answers a fault of the suite or want of memory, which are the code's alone.
use Rattle.std.specs.Prelude.{◌≡◌, ◌≢◌, List, [], ◌∷◌, ℕ, Option, Result, Ok, Err, if◌then◌else◌, not}
use Rattle.std.specs.Option.{ok_or}
use Rattle.std.proofs.Common.{refl, ap, subst, ◌∙◌, inl, inr}
use Rattle.picky_wire_base.specs.Flaw.{Flaw, Short, NotUtf8, Big, Flawed, Length, Magic, Name, Number, Reason}
use Rattle.picky_wire_base.specs.{Outcome.{and_then, map_err}, Gives.{Gives}}
use Rattle.picky_text.specs.{Base64.{decoded}, Lines.{lines}}
use Rattle.picky_suite.specs.Meanings.{Meanings}
use Rattle.picky_keys.specs.declared.curve.EcCurve.{EcCurve}
use Rattle.picky_keys.specs.declared.curve.EcCurve.TheVariants.{NistP256, NistP384, NistP521}
use Rattle.picky_keys.specs.declared.error.SshPublicKeyError.{SshPublicKeyError}
use Rattle.picky_keys.specs.declared.key.SshBasePublicKey.{SshBasePublicKey}
use Rattle.picky_keys.specs.{declared.key.SshPublicKey.{SshPublicKey}, BlobRefusal.{read_blob}}
use Rattle.picky_keys.specs.{LineRefusal.{blob_key, line_meaning}, carried.BlobLayout.{blob_own}}
use Rattle.picky_keys.specs.carried.SourceLine.{line_own}
use Rattle.picky_cert.specs.LineRefusal.{cert_line_meaning}
use Rattle.picky_cert.proofs.LineLaws.{line_no_want as certificate_no_want}
use Rattle.picky_keys.specs.declared.error.SshPublicKeyError.TheVariants as public
use Rattle.picky_keys.specs.declared.key.SshBasePublicKey.TheVariants as public_keys
use Rattle.picky_sshkey_blob.specs.declared.key.SshBasePrivateKey.{SshBasePrivateKey}
use Rattle.picky_sshkey_blob.specs.declared.error.SshPrivateKeyError.{SshPrivateKeyError}
use Rattle.picky_sshkey.specs.PrivateRefusal.{text_key}
use Rattle.picky_sshkey.proofs.FaultLaws.{text_no_fault}
use Rattle.picky_sshkey.proofs.RefusalLaws.{Refuses, err_as, if_as, map_as, ok_as, some_as, then_as}
use Rattle.picky_kv.specs.declared.algorithm.PpkKeyAlgorithmValue.{PpkKeyAlgorithmValue}
use Rattle.picky_kv.specs.declared.algorithm.PpkKeyAlgorithmValue.TheVariants as algorithms
use Rattle.picky_ppk_parts.specs.declared.error.PuttyError.{PuttyError}
use Rattle.picky_ppk_parts.specs.{Algorithm.{rsa_of, ec_of, ed_of, key_under, same_curve}, Counted.{counted}}
use Rattle.picky_ppk_parts.specs.PartsRefusal.{parts_flaw_error, secret_error, key_in_blob, public_key_under, key_with_secret}
use Rattle.picky_ppk_parts.specs.PartsRefusal.{parts_key}
use Rattle.picky_ppk_parts.specs.Unsupported.{no_such_algorithm}
use Rattle.picky_ppk_parts.specs.declared.error.PuttyError.TheVariants as putty
use Rattle.picky_ppk_file.specs.PuttyRefusal.{of_lines, of_blob, of_parts, after_comment, after_putty_header, quoted, body_from}
use Rattle.picky_ppk_file.specs.PuttyRefusal.{putty_meaning, putty_to_openssh}
use Rattle.picky_ppk_file.specs.declared.putty_public.PuttyPublicKey.{PuttyPublicKey}
use Rattle.picky_ppk_file.specs.{declared.file.PpkFile.{PpkFile}, File.{is_sealed}}
use Rattle.picky_ppk.specs.{Changed.{open_file}, Checked.{ppk_meaning}, Keyed.{can_derive}}
use Rattle.picky_ppk.specs.KeyOf.{base_key_of, base_key_and_comment_of}
use Rattle.picky_ppk.specs.Opened.{decrypted, is_openable, not_openable}
use Rattle.picky_key_text.specs.{declared.error.ReadError.{ReadError}, declared.form.Form.{Form}, Form.{form_of}}
use Rattle.picky_key_text.specs.{Order.{opened_ppk, file_key, ppk_key, reading_as, reading}, Reader.{Reader}}
use Rattle.picky_key_text.specs.Want.{WantsMemory, IsFault}
use Rattle.picky_key_text.specs.declared.error.ReadError.TheVariants as errors
use Rattle.picky_key_text.specs.declared.form.Form.TheVariants as forms
use Rattle.picky_key_text.proofs.FileRefusalLemmas.{IsOwnPublic, IsOwnPutty, either, mapped_as, ppk_meaning_own}

-- ---- the keys in it

public_own : (e : SshPublicKeyError) → (e ≡ public.NoMemory → ⊥) → IsOwnPublic e
public_own public.NoMemory other = other refl
public_own e other = tt

blob_key_own : (blob : List ℕ) → Refuses IsOwnPublic (blob_key blob)
unfolding blob_key
blob_key_own blob =
    then_as IsOwnPublic (read_blob blob) _ (λ e is. public_own e (blob_own blob e is).1) (λ found. ok_as IsOwnPublic _)

key_in_blob_own : (blob : List ℕ) → Refuses IsOwnPutty (key_in_blob blob)
key_in_blob_own blob = mapped_as IsOwnPutty putty.SshPublicKey (blob_key blob) (blob_key_own blob)

rsa_own : (key : SshBasePublicKey) → Refuses IsOwnPutty (rsa_of key)
rsa_own (public_keys.Rsa e n) = ok_as IsOwnPutty _
rsa_own key = err_as IsOwnPutty putty.PublicAndPrivateKeyMismatch tt

ec_own : (curve : EcCurve) (key : SshBasePublicKey) → Refuses IsOwnPutty (ec_of curve key)
ec_own curve (public_keys.Ec other point) =
    if_as IsOwnPutty (same_curve curve other) _ _ (ok_as IsOwnPutty _) (err_as IsOwnPutty putty.PublicAndPrivateKeyMismatch tt)
ec_own curve key = err_as IsOwnPutty putty.PublicAndPrivateKeyMismatch tt

ed_own : (key : SshBasePublicKey) → Refuses IsOwnPutty (ed_of key)
ed_own (public_keys.Ed key) = ok_as IsOwnPutty _
ed_own key = err_as IsOwnPutty putty.PublicAndPrivateKeyMismatch tt

key_under_own : (algorithm : PpkKeyAlgorithmValue) (key : SshBasePublicKey) → Refuses IsOwnPutty (key_under algorithm key)
key_under_own algorithms.Rsa key = rsa_own key
key_under_own algorithms.Dss key = err_as IsOwnPutty no_such_algorithm tt
key_under_own algorithms.EcdsaSha2Nistp256 key = ec_own NistP256 key
key_under_own algorithms.EcdsaSha2Nistp384 key = ec_own NistP384 key
key_under_own algorithms.EcdsaSha2Nistp521 key = ec_own NistP521 key
key_under_own algorithms.Ed25519 key = ed_own key
key_under_own algorithms.Ed448 key = err_as IsOwnPutty no_such_algorithm tt

flaw_own : (flaw : Flaw) → IsOwnPutty (parts_flaw_error flaw)
flaw_own Short = tt
flaw_own NotUtf8 = tt
flaw_own Big = tt

secret_own : (reason : Reason) → IsOwnPutty (secret_error reason)
secret_own (i, Flawed flaw) = flaw_own flaw
secret_own (i, Length) = tt
secret_own (i, Magic) = tt
secret_own (i, Name name) = tt
secret_own (i, Number n) = tt

base_key_own : (f : PpkFile) → Refuses IsOwnPutty (base_key_of f)
unfolding base_key_of parts_key public_key_under key_with_secret
base_key_own f =
    then_as IsOwnPutty (open_file f) _
    (if_as IsOwnPutty (is_sealed f.sealing) _ _ (err_as IsOwnPutty putty.Encrypted tt) (ok_as IsOwnPutty f)) (λ f.
    then_as IsOwnPutty (public_key_under f.algorithm f.public_key) _
    (then_as IsOwnPutty (key_in_blob f.public_key) (key_under f.algorithm) (key_in_blob_own f.public_key)
    (key_under_own f.algorithm))
    (λ public. map_as IsOwnPutty secret_error _ secret_own))

-- ---- a sealed file

not_openable_own : (pass : List ℕ) (f : PpkFile) → IsOwnPutty (not_openable pass f)
not_openable_own pass f =
    either IsOwnPutty (not (is_sealed f.sealing)) putty.AlreadyDecrypted
    (if not (can_derive f.sealing pass) then putty.Argon2 else putty.Aes) tt
    (either IsOwnPutty (not (can_derive f.sealing pass)) putty.Argon2 putty.Aes tt tt)

counted_own : (algorithm : PpkKeyAlgorithmValue) (private : List ℕ) → Refuses IsOwnPutty (counted algorithm private)
unfolding counted
counted_own algorithm private =
    then_as IsOwnPutty _ _ (map_as IsOwnPutty parts_flaw_error _ flaw_own) (λ found. ok_as IsOwnPutty _)

decrypted_own : (m : Meanings) (pass : List ℕ) (f : PpkFile) → Refuses IsOwnPutty (decrypted m pass f)
unfolding decrypted
decrypted_own m pass f =
    if_as IsOwnPutty (is_openable pass f) _ _
    (if_as IsOwnPutty _ _ _
    (then_as IsOwnPutty _ _ (counted_own f.algorithm _) (λ n. ok_as IsOwnPutty _))
    (err_as IsOwnPutty putty.MacValidation tt))
    (err_as IsOwnPutty (not_openable pass f) (not_openable_own pass f))

opened_own : (r : Reader) (f : PpkFile) → Refuses IsOwnPutty (opened_ppk r f)
opened_own r f =
    if_as IsOwnPutty (is_sealed f.sealing) _ _
    (then_as IsOwnPutty (ok_or r.pass putty.Encrypted) _ (some_as IsOwnPutty r.pass putty.Encrypted tt)
    (λ pass. decrypted_own r.meanings pass f))
    (ok_as IsOwnPutty f)

ppk_key_own : (r : Reader) (text : List ℕ) → Refuses IsOwnPutty (ppk_key r text)
unfolding ppk_key
ppk_key_own r text =
    then_as IsOwnPutty (ppk_meaning r.meanings text) _ (ppk_meaning_own r.meanings text) (λ f.
    then_as IsOwnPutty (opened_ppk r f) file_key (opened_own r f) (λ g.
    then_as IsOwnPutty (base_key_of g) _ (base_key_own g) (λ key. ok_as IsOwnPutty _)))

-- ---- a public key

of_blob_own : (between blob : List ℕ) → Refuses IsOwnPutty (of_blob between blob)
of_blob_own between blob = if_as IsOwnPutty _ _ _ (ok_as IsOwnPutty _) (err_as IsOwnPutty putty.TooLong tt)

of_parts_own : (between body : List ℕ) → Refuses IsOwnPutty (of_parts between body)
of_parts_own between body =
    then_as IsOwnPutty (ok_or (decoded body) putty.InvalidPublicKeyData) (of_blob between)
    (some_as IsOwnPutty (decoded body) putty.InvalidPublicKeyData tt) (of_blob_own between)

after_comment_own : (between : List ℕ) (ls : List (List ℕ)) → Refuses IsOwnPutty (after_comment between ls)
after_comment_own between ls =
    then_as IsOwnPutty (ok_or (body_from [] ls) putty.EndOfInput) (of_parts between)
    (some_as IsOwnPutty (body_from [] ls) putty.EndOfInput tt) (of_parts_own between)

after_header_own : (ls : List (List ℕ)) → Refuses IsOwnPutty (after_putty_header ls)
after_header_own [] = err_as IsOwnPutty putty.EndOfInput tt
after_header_own (line ∷ more) =
    then_as IsOwnPutty (ok_or (quoted line) putty.InvalidPublicKeyComment) _
    (some_as IsOwnPutty (quoted line) putty.InvalidPublicKeyComment tt) (λ between. after_comment_own between more)

of_lines_own : (ls : List (List ℕ)) → Refuses IsOwnPutty (of_lines ls)
of_lines_own [] = err_as IsOwnPutty putty.EndOfInput tt
of_lines_own (line ∷ more) =
    if_as IsOwnPutty _ _ _ (after_header_own more) (err_as IsOwnPutty putty.InvalidPublicKeyContainer tt)

to_openssh_own : (key : PuttyPublicKey) → Refuses IsOwnPutty (putty_to_openssh key)
unfolding putty_to_openssh
to_openssh_own key =
    then_as IsOwnPutty (key_in_blob key.blob) _ (key_in_blob_own key.blob) (λ inner. ok_as IsOwnPutty _)

putty_meaning_own : (text : List ℕ) → Refuses IsOwnPutty (putty_meaning text)
unfolding putty_meaning
putty_meaning_own text = of_lines_own (lines text)

putty_public_own : (text : List ℕ) → Refuses IsOwnPutty (and_then (putty_meaning text) putty_to_openssh)
putty_public_own text = then_as IsOwnPutty (putty_meaning text) putty_to_openssh (putty_meaning_own text) to_openssh_own

-- ---- any text

-- neither the suite's nor memory's
abbrev pub IsOwnRead : ReadError → Type 0
IsOwnRead e = (IsFault e → ⊥) × (WantsMemory e → ⊥)

putty_wants : (e : PuttyError) → IsOwnPutty e → WantsMemory (errors.Putty e) → ⊥
putty_wants e own (inl memory) = subst IsOwnPutty memory own
putty_wants e own (inr memory) = subst IsOwnPutty memory own

putty_own : (e : PuttyError) → IsOwnPutty e → IsOwnRead (errors.Putty e)
putty_own e own = (λ fault. subst IsOwnPutty fault own, putty_wants e own)

public_line_own : (e : SshPublicKeyError) → e ≢ public.NoMemory → IsOwnRead (errors.Public e)
public_line_own e other = (λ fault. fault, other)

private_wants : (m : Meanings) (given : Option (List ℕ)) (text : List ℕ) (e : SshPrivateKeyError)
    → text_key m given text ≡ Err e → WantsMemory (errors.Private e) → ⊥
private_wants m given text e is (inl memory) = (text_no_fault m given text).1 (is ∙ ap Err memory)
private_wants m given text e is (inr memory) = (text_no_fault m given text).2 (is ∙ ap Err memory)

private_own : (m : Meanings) (given : Option (List ℕ)) (text : List ℕ) (e : SshPrivateKeyError)
    → text_key m given text ≡ Err e → IsOwnRead (errors.Private e)
private_own m given text e is =
    (λ fault. (text_no_fault m given text).0 (is ∙ ap Err fault), private_wants m given text e is)

reading_as_own : (form : Form) (r : Reader) (text : List ℕ) → Refuses IsOwnRead (reading_as form r text)
reading_as_own forms.Envelope r text =
    then_as IsOwnRead (map_err errors.Private (text_key r.meanings r.pass text)) _
    (mapped_as IsOwnRead errors.Private (text_key r.meanings r.pass text) (private_own r.meanings r.pass text))
    (λ key. ok_as IsOwnRead _)
reading_as_own forms.Ppk r text =
    mapped_as IsOwnRead errors.Putty (ppk_key r text) (λ e is. putty_own e (ppk_key_own r text e is))
reading_as_own forms.PuttyPublic r text =
    then_as IsOwnRead (map_err errors.Putty (and_then (putty_meaning text) putty_to_openssh)) _
    (mapped_as IsOwnRead errors.Putty (and_then (putty_meaning text) putty_to_openssh) (λ e is. putty_own e (putty_public_own text e is)))
    (λ key. ok_as IsOwnRead _)
reading_as_own forms.Certificate r text =
    then_as IsOwnRead (map_err errors.Certificate (cert_line_meaning text)) _
    (mapped_as IsOwnRead errors.Certificate (cert_line_meaning text) (λ e is. (λ fault. fault, certificate_no_want text e is)))
    (λ c. ok_as IsOwnRead _)
reading_as_own forms.PublicLine r text =
    then_as IsOwnRead (map_err errors.Public (line_meaning text)) _
    (mapped_as IsOwnRead errors.Public (line_meaning text) (λ e is. public_line_own e (line_own text e is).1))
    (λ key. ok_as IsOwnRead _)

-- No text is refused for a fault of the suite or for want of memory.
pub reading_own : (r : Reader) (text : List ℕ) (e : ReadError) → reading r text ≡ Err e → IsOwnRead e
unfolding reading
reading_own r text e is = reading_as_own (form_of text) r text e is

-- ---- what a call gives of such an order is no fault

gives_own : {X A : Type 0} (view : X → A) (result : Result X PuttyError) (says : Result A PuttyError)
    → Refuses IsOwnPutty says → Gives putty.NoMemory view result says → result ≢ Err putty.SuiteFault
gives_own view (Ok x) says own gives is = cc is
gives_own view (Err e) says own (inl want) is =
    let both : putty.NoMemory ≡ putty.SuiteFault = cc (want, is) in cc both
gives_own view (Err e) says own (inr refused) is =
    let same : e ≡ putty.SuiteFault = cc is in own putty.SuiteFault (refused ∙ ap Err same)

-- a file's text, a file's key, a public key's text, and its key
pub ppk_no_fault : {X : Type 0} (view : X → PpkFile) (result : Result X PuttyError) (m : Meanings) (text : List ℕ)
    → Gives putty.NoMemory view result (ppk_meaning m text) → result ≢ Err putty.SuiteFault
ppk_no_fault view result m text gives = gives_own view result _ (ppk_meaning_own m text) gives

pub base_key_no_fault : {X : Type 0} (view : X → SshBasePrivateKey × List ℕ) (result : Result X PuttyError) (f : PpkFile)
    → Gives putty.NoMemory view result (base_key_and_comment_of f) → result ≢ Err putty.SuiteFault
base_key_no_fault view result f gives =
    gives_own view result _ (then_as IsOwnPutty (base_key_of f) _ (base_key_own f) (λ key. ok_as IsOwnPutty _)) gives

pub public_no_fault : {X : Type 0} (view : X → PuttyPublicKey) (result : Result X PuttyError) (text : List ℕ)
    → Gives putty.NoMemory view result (putty_meaning text) → result ≢ Err putty.SuiteFault
public_no_fault view result text gives = gives_own view result _ (putty_meaning_own text) gives

pub openssh_no_fault : {X : Type 0} (view : X → SshPublicKey) (result : Result X PuttyError) (key : PuttyPublicKey)
    → Gives putty.NoMemory view result (putty_to_openssh key) → result ≢ Err putty.SuiteFault
openssh_no_fault view result key gives = gives_own view result _ (to_openssh_own key) gives

pub ruleset no_fault = (ppk_no_fault, base_key_no_fault, public_no_fault, openssh_no_fault)
