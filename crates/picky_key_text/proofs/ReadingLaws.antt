-- What a key text means: its order of refusals is Ok exactly where the reading relation holds.
use Rattle.std.specs.{Prelude.{◌≡◌, ◌⊎◌, Bool, List, ℕ, Option, Result, Ok, Err, IfOk}, Option.{IfSome}, Str.{IsUtf8}}
use Rattle.std.proofs.Common.{refl, sym, ap, subst, ◌∙◌, inl, inr}
use Rattle.picky_wire_base.specs.{Numbers.{IsBytes}, Outcome.{and_then, map_err}}
use Rattle.picky_wire_base.specs.carried.Outcome.{and_then_ok, map_err_ok}
use Rattle.picky_keys.specs.{declared.key.SshPublicKey.{SshPublicKey}, LineRefusal.{line_meaning}}
use Rattle.picky_keys.proofs.{LineLaws.{line_meaning_of, line_meaning_says}, ByteLaws.{utf8_is_bytes}}
use Rattle.picky_cert.specs.LineRefusal.{cert_line_meaning}
use Rattle.picky_cert.proofs.LineLaws.{line_meaning_of as certificate_is_read, line_meaning_says as certificate_says}
use Rattle.picky_suite.specs.{Asked.{GivesAsked, LeavesSuite}, Failures.{IsAskedFault}, Meanings.{Meanings}}
use Rattle.picky_sshkey.specs.PrivateRefusal.{text_key}
use Rattle.picky_sshkey.proofs.MeaningLaws.{text_says, text_means}
use Rattle.picky_ppk_file.specs.{PuttyRefusal.{putty_meaning, putty_to_openssh}, declared.file.PpkFile.{PpkFile}}
use Rattle.picky_ppk_file.proofs.KeyLaws.{putty_key_of, putty_key_says}
use Rattle.picky_ppk_parts.specs.declared.error.PuttyError.{PuttyError}
use Rattle.picky_ppk_parts.specs.declared.error.PuttyError.TheVariants as putty
use Rattle.picky_ppk.specs.Checked.{ppk_meaning}
use Rattle.picky_key_text.specs.{declared.error.ReadError.{ReadError}, declared.form.Form.{Form}}
use Rattle.picky_key_text.specs.{declared.meaning.Meaning.{Meaning}, Form.{form_of}}
use Rattle.picky_key_text.specs.Key.{certificate_meaning, public_key, public_meaning}
use Rattle.picky_key_text.specs.Order.{envelope_meaning, opened_ppk, file_key, file_asks, ppk_key, ppk_asks, reading_as, reading}
use Rattle.picky_key_text.specs.Order.{asks, asks_as, fault_as, fault_of}
use Rattle.picky_key_text.specs.{Reader.{Reader}, Reads.{Means, Reads}}
use Rattle.picky_key_text.specs.declared.error.ReadError.TheVariants as errors
use Rattle.picky_key_text.specs.declared.form.Form.TheVariants as forms
use Rattle.picky_key_text.proofs.PpkLemmas.{taken_file, ppk_says, ppk_is_read}

-- ---- what is read is said

-- the public key in a meaning that is one's
public_of_reading : {E : Type 0} (says : Result SshPublicKey E) (wrap : E → ReadError) (meaning : Meaning)
    → and_then (map_err wrap says) (λ key. Ok (public_meaning key)) ≡ Ok meaning
    → (says ≡ Ok (public_key meaning)) × (meaning ≡ public_meaning (public_key meaning))
public_of_reading says wrap meaning is =
    let step = and_then_ok (map_err wrap says) (λ key. Ok (public_meaning key)) meaning is in
    let same : public_meaning step.0 ≡ meaning = cc step.2 in
    subst (λ m. (says ≡ Ok (public_key m)) × (m ≡ public_meaning (public_key m))) same
    (map_err_ok wrap says step.0 step.1, refl)

reading_as_says : (form : Form) (r : Reader) (text : List ℕ) (meaning : Meaning) → IsBytes text → IfSome r.pass IsBytes
    → reading_as form r text ≡ Ok meaning → Means form r text meaning
reading_as_says forms.Envelope r text meaning bytes pass is =
    let step = and_then_ok (map_err errors.Private (text_key r.meanings r.pass text)) (λ key. Ok (envelope_meaning key))
    meaning is in
    let same : envelope_meaning step.0 ≡ meaning = cc step.2 in (
      step.0,
      text_says r.meanings r.pass text step.0 bytes pass (map_err_ok errors.Private (text_key r.meanings r.pass text) step.0 step.1),
      sym same,
    )
reading_as_says forms.Ppk r text meaning bytes pass is =
    ppk_says r text meaning (map_err_ok errors.Putty (ppk_key r text) meaning is)
reading_as_says forms.PuttyPublic r text meaning bytes pass is =
    let key = public_of_reading (and_then (putty_meaning text) putty_to_openssh) errors.Putty meaning is in
    (putty_key_says text (public_key meaning) bytes key.0, key.1)
reading_as_says forms.Certificate r text meaning bytes pass is =
    let step = and_then_ok (map_err errors.Certificate (cert_line_meaning text)) (λ c. Ok (certificate_meaning c)) meaning is in
    let same : certificate_meaning step.0 ≡ meaning = cc step.2 in (
      step.0,
      certificate_says text step.0 bytes (map_err_ok errors.Certificate (cert_line_meaning text) step.0 step.1),
      sym same,
    )
reading_as_says forms.PublicLine r text meaning bytes pass is =
    let key = public_of_reading (line_meaning text) errors.Public meaning is in
    (line_meaning_says text (public_key meaning) bytes key.0, key.1)

pub reading_says : (r : Reader) (text : List ℕ) (meaning : Meaning) → IsUtf8 text → IfSome r.pass IsBytes
    → reading r text ≡ Ok meaning → Reads r text meaning
unfolding reading
reading_says r text meaning utf8 pass is =
    reading_as_says (form_of text) r text meaning (utf8_is_bytes text utf8) pass is

-- ---- what is said is read

reading_as_of : (form : Form) (r : Reader) (text : List ℕ) (meaning : Meaning) → Means form r text meaning
    → reading_as form r text ≡ Ok meaning
reading_as_of forms.Envelope r text meaning (key, says, same) =
    ap (λ t. and_then (map_err errors.Private t) (λ key. Ok (envelope_meaning key)))
    (text_means r.meanings r.pass text key says)
    ∙ ap Ok (sym same)
reading_as_of forms.Ppk r text meaning says = ap (map_err errors.Putty) (ppk_is_read r text meaning says)
reading_as_of forms.PuttyPublic r text meaning (says, same) =
    ap (λ t. and_then (map_err errors.Putty t) (λ key. Ok (public_meaning key))) (putty_key_of text (public_key meaning) says)
    ∙ ap Ok (sym same)
reading_as_of forms.Certificate r text meaning (c, says, same) =
    ap (λ t. and_then (map_err errors.Certificate t) (λ c. Ok (certificate_meaning c))) (certificate_is_read text c says)
    ∙ ap Ok (sym same)
reading_as_of forms.PublicLine r text meaning (says, same) =
    ap (λ t. and_then (map_err errors.Public t) (λ key. Ok (public_meaning key))) (line_meaning_of text (public_key meaning) says)
    ∙ ap Ok (sym same)

pub reading_of : (r : Reader) (text : List ℕ) (meaning : Meaning) → Reads r text meaning → reading r text ≡ Ok meaning
unfolding reading
reading_of r text meaning says = reading_as_of (form_of text) r text meaning says

pub one_meaning : (r : Reader) (text : List ℕ) (m n : Meaning) → Reads r text m → Reads r text n → m ≡ n
one_meaning r text m n first second =
    let both = sym (reading_of r text m first) ∙ reading_of r text n second in cc both

-- ---- what a call gives

pub given_means : (result : Result Meaning ReadError) (fault : ReadError) (r : Reader) (text : List ℕ) (asked : Bool)
    (rose : Type 0) → IsUtf8 text → IfSome r.pass IsBytes
    → GivesAsked errors.NoMemory fault (λ meaning. meaning) result (reading r text) asked rose
    → IfOk result (λ meaning. Reads r text meaning)
given_means (Ok meaning) fault r text asked rose utf8 pass gives =
    reading_says r text meaning utf8 pass gives
given_means (Err e) fault r text asked rose utf8 pass gives = tt

pub given_meaning : (result : Result Meaning ReadError) (fault : ReadError) (r : Reader) (text : List ℕ) (asked : Bool)
    (rose : Type 0) → GivesAsked errors.NoMemory fault (λ meaning. meaning) result (reading r text) asked rose
    → (meaning : Meaning) → Reads r text meaning
    → (result ≡ Ok meaning) ⊎ (result ≡ Err errors.NoMemory) ⊎ ((result ≡ Err fault) × IsAskedFault asked rose)
given_meaning (Ok other) fault r text asked rose gives meaning reads =
    inl (sym gives ∙ reading_of r text meaning reads)
given_meaning (Err e) fault r text asked rose (inl want) meaning reads = inr (inl (ap Err want))
given_meaning (Err e) fault r text asked rose (inr (inl asks)) meaning reads = inr (inr (ap Err asks.0, asks.1))
given_meaning (Err e) fault r text asked rose (inr (inr refused)) meaning reads =
    let means = reading_of r text meaning reads in cc (refused, means)

-- ---- a file's text, by its file

-- the key of the text is the file's
pub file_key_is : (r : Reader) (text : List ℕ) (f : PpkFile) → ppk_meaning r.meanings text ≡ Ok f
    → ppk_key r text ≡ and_then (opened_ppk r f) file_key
unfolding ppk_key
file_key_is r text f is = ap (λ t. and_then t (λ f. and_then (opened_ppk r f) file_key)) is

-- and the suite is asked as for the file
pub file_asks_is : (m : Meanings) (pass : Option (List ℕ)) (text : List ℕ) (f : PpkFile) → ppk_meaning m text ≡ Ok f
    → ppk_asks pass text ≡ file_asks pass (Ok f)
unfolding ppk_asks
file_asks_is m pass text f is = ap (file_asks pass) (taken_file m text f is).0

pub file_gives : (result : Result Meaning PuttyError) (m : Meanings) (pass : Option (List ℕ)) (text : List ℕ) (f : PpkFile)
    (rose : Type 0) → ppk_meaning m text ≡ Ok f
    → GivesAsked putty.NoMemory putty.SuiteFault (λ meaning. meaning) result
    (and_then (opened_ppk (record { meanings = m; pass = pass }) f) file_key) (file_asks pass (Ok f)) rose
    → GivesAsked putty.NoMemory putty.SuiteFault (λ meaning. meaning) result
    (ppk_key (record { meanings = m; pass = pass }) text) (ppk_asks pass text) rose
file_gives result m pass text f rose is gives =
    let key = file_key_is (record { meanings = m; pass = pass }) text f is in
    let asks = file_asks_is m pass text f is in
    subst (λ asked. GivesAsked putty.NoMemory putty.SuiteFault (λ meaning. meaning) result
    (ppk_key (record { meanings = m; pass = pass }) text) asked rose) (sym asks)
    (subst (λ says. GivesAsked putty.NoMemory putty.SuiteFault (λ meaning. meaning) result says (file_asks pass (Ok f)) rose)
    (sym key) gives)

pub file_leaves : {S : Type 0} (meanings : S → Meanings) (faults : S → ℕ) (result : Result Meaning PuttyError) (m : Meanings)
    (pass : Option (List ℕ)) (text : List ℕ) (f : PpkFile) (old new : S) → ppk_meaning m text ≡ Ok f
    → LeavesSuite meanings faults putty.SuiteFault (file_asks pass (Ok f)) result old new
    → LeavesSuite meanings faults putty.SuiteFault (ppk_asks pass text) result old new
file_leaves meanings faults result m pass text f old new is leaves =
    subst (λ asked. LeavesSuite meanings faults putty.SuiteFault asked result old new) (sym (file_asks_is m pass text f is)) leaves

pub ruleset file_texts = (file_gives, file_leaves)

-- ---- a text, by its form

pub text_gives : (result : Result Meaning ReadError) (form : Form) (m : Meanings) (pass : Option (List ℕ)) (text : List ℕ)
    (rose : Type 0) → form ≡ form_of text
    → GivesAsked errors.NoMemory (fault_as form) (λ meaning. meaning) result
    (reading_as form (record { meanings = m; pass = pass }) text) (asks_as form pass text) rose
    → GivesAsked errors.NoMemory (fault_of text) (λ meaning. meaning) result (reading (record { meanings = m; pass = pass }) text)
    (asks pass text) rose
unfolding reading asks
text_gives result form m pass text rose is gives =
    subst (λ f. GivesAsked errors.NoMemory (fault_as f) (λ meaning. meaning) result
    (reading_as f (record { meanings = m; pass = pass }) text) (asks_as f pass text) rose) is gives

pub text_leaves : {S : Type 0} (meanings : S → Meanings) (faults : S → ℕ) (result : Result Meaning ReadError) (form : Form)
    (pass : Option (List ℕ)) (text : List ℕ) (old new : S) → form ≡ form_of text
    → LeavesSuite meanings faults (fault_as form) (asks_as form pass text) result old new
    → LeavesSuite meanings faults (fault_of text) (asks pass text) result old new
unfolding asks
text_leaves meanings faults result form pass text old new is leaves =
    subst (λ f. LeavesSuite meanings faults (fault_as f) (asks_as f pass text) result old new) is leaves
