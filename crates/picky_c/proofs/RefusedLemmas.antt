-- What is refused of a text that is shown, or that is to have another comment, is answered as a refusal.
use Rattle.std.specs.Prelude.{nat_lt}
use Rattle.std.specs.Option.{ok_or}
use Rattle.std.proofs.Common.{◌≡◌, ◌∙◌, ◌&&◌, ◌^◌, ℕ, List, Bool, true, false, None, Result, Ok, Err, if◌then◌else◌, ap, inl, inr, refl, subst, sym}
use Rattle.picky_wire_base.specs.Outcome.{and_then, map_err}
use Rattle.picky_wire_base.specs.carried.Outcome.{map_err_ok}
use Rattle.picky_suite.specs.Meanings.{Meanings, plain}
use Rattle.picky_keys.specs.{Line.{line_of}, LineRefusal.{is_short, line_meaning, line_text}}
use Rattle.picky_keys.specs.declared.{error.SshPublicKeyError.{SshPublicKeyError}, key.SshPublicKey.{SshPublicKey}}
use Rattle.picky_keys.specs.declared.error.SshPublicKeyError.TheVariants as public
use Rattle.picky_sshkey_blob.specs.Pem.{pem_text}
use Rattle.picky_sshkey_blob.specs.declared.error.SshPrivateKeyError.{SshPrivateKeyError}
use Rattle.picky_sshkey_blob.specs.declared.error.SshPrivateKeyError.TheVariants as private
use Rattle.picky_sshkey.specs.{PrivateRefusal.{text_key}, Written.{content_under, envelope_of, key_text, lock_kept, may_derive, plain_block, sealable, text_len}, declared.private_key.SshPrivateKey.{SshPrivateKey}}
use Rattle.picky_sshkey.proofs.RefusalLaws.{Refuses, err_as, if_as, ok_as, then_as}
use Rattle.picky_ppk_parts.specs.{Config.{default_config}, PartsRefusal.{parts_key}}
use Rattle.picky_ppk_parts.specs.declared.error.PuttyError.{PuttyError}
use Rattle.picky_ppk_parts.specs.declared.error.PuttyError.TheVariants as putty
use Rattle.picky_ppk_file.specs.{File.{is_sealed, version_of}, Written.{file_spelled, file_text, fits_block}, PuttyPublic.{putty_public}}
use Rattle.picky_ppk_file.specs.declared.file.PpkFile.{PpkFile}
use Rattle.picky_ppk_file.specs.PuttyRefusal.{putty_commented, putty_meaning, putty_text, putty_to_openssh}
use Rattle.picky_ppk_file.specs.declared.putty_public.PuttyPublicKey.{PuttyPublicKey}
use Rattle.picky_ppk.specs.{Changed.{commented, open_file}, Checked.{ppk_meaning}, KeyOf.{base_key_of}, Mac.{with_own_mac}, Opened.{decrypted}}
use Rattle.picky_ppk.specs.declared.layout.PpkLayout.TheVariants.{Number}
use Rattle.picky_key_text.specs.{Form.{form_of}, Reader.{Reader}, Order.{envelope_meaning, file_key, opened_ppk, ppk_key, reading, reading_as}, declared.form.Form.{Form}}
use Rattle.picky_key_text.specs.Key.{private_meaning, public_meaning}
use Rattle.picky_key_text.specs.declared.error.ReadError.{ReadError}
use Rattle.picky_key_text.specs.declared.error.ReadError.TheVariants as read
use Rattle.picky_key_text.specs.declared.form.Form.TheVariants as forms
use Rattle.picky_key_text.proofs.FileRefusalLemmas.{mapped_as}
use Rattle.picky_shown.specs.Shown.{shows}
use Rattle.picky_shown.proofs.RefusalLaws.{shows_own}
use Rattle.picky_target.specs.{Judged.{carries_comment}, declared.error.ConvertError.{ConvertError}}
use Rattle.picky_target.specs.declared.error.ConvertError.TheVariants as errors
use Rattle.picky_target.specs.declared.target.KeyTarget.TheVariants as targets
use Rattle.picky_conversion.proofs.JudgedLemmas.{next_is}
use Rattle.picky_changed.specs.Comment.{commented_as, commented_text, file_commented, key_commented, line_commented, line_refusal}
use Rattle.picky_changed.specs.Comment.{not_commented, of_line, of_private, of_putty, private_refusal, putty_key_commented, putty_refusal}
use Rattle.picky_c.specs.Number.{IsAnswered}
use Rattle.picky_c.proofs.LawLemmas.{reading_answered}

pub shown_answered : (text : List ℕ) (e : ReadError) → shows plain text ≡ Err e → IsAnswered (errors.Input e)
shown_answered text e is =
    let own = shows_own plain text e is in record { no_memory = own.1; no_fault = own.0 }

-- ---- what is refused of what is written

not_carried : IsAnswered errors.CommentNotCarried
not_carried = record { no_memory = λ want. cc want; no_fault = λ fault. fault }

too_long : IsAnswered errors.TooLong
too_long = record { no_memory = λ want. cc want; no_fault = λ fault. fault }

too_many_lines : IsAnswered errors.TooManyLines
too_many_lines = record { no_memory = λ want. cc want; no_fault = λ fault. fault }

not_derived : IsAnswered (errors.Private private.HashingError)
not_derived = record { no_memory = λ want. elim want [ inl is ↦ cc is | inr is ↦ cc is ]; no_fault = λ fault. cc fault }

encrypted : IsAnswered (errors.Putty putty.Encrypted)
encrypted = record { no_memory = λ want. elim want [ inl is ↦ cc is | inr is ↦ cc is ]; no_fault = λ fault. cc fault }

key_answered : (m : Meanings) (key : SshPrivateKey) → Refuses (λ e. IsAnswered (private_refusal e)) (key_text m key)
unfolding key_text sealable
key_answered m key =
    let P : SshPrivateKeyError → Type 0 = λ e. IsAnswered (private_refusal e) in
    then_as P (sealable text_len key) (λ lock. Ok (pem_text (content_under m key lock)))
    (if_as P (may_derive key.passphrase key.kdf.option) _ (Err private.HashingError)
    (if_as P (nat_lt (text_len (envelope_of key (plain_block key))) (2 ^ 32)) (Ok (lock_kept key.passphrase)) (Err private.TooLong)
    (ok_as P (lock_kept key.passphrase)) (err_as P private.TooLong too_long)) (err_as P private.HashingError not_derived))
    (λ lock. ok_as P (pem_text (content_under m key lock)))

private_answered : (m : Meanings) (comment : List ℕ) (key : SshPrivateKey) (carried : Bool)
    → Refuses IsAnswered (if carried
    then (if is_short comment then map_err private_refusal (key_text m (record key { comment = comment })) else Err errors.TooLong)
    else Err errors.CommentNotCarried)
private_answered m comment key carried =
    let written = map_err private_refusal (key_text m (record key { comment = comment })) in
    if_as IsAnswered carried (if is_short comment then written else Err errors.TooLong) (Err errors.CommentNotCarried)
    (if_as IsAnswered (is_short comment) written (Err errors.TooLong)
    (mapped_as IsAnswered private_refusal (key_text m (record key { comment = comment })) (key_answered m (record key { comment = comment })))
    (err_as IsAnswered errors.TooLong too_long)) (err_as IsAnswered errors.CommentNotCarried not_carried)

changed_answered : (m : Meanings) (comment : List ℕ) (f : PpkFile) → Refuses (λ e. IsAnswered (putty_refusal e)) (commented m comment f)
unfolding commented
changed_answered m comment f =
    let P : PuttyError → Type 0 = λ e. IsAnswered (putty_refusal e) in
    then_as P (open_file f)
    (λ (f : PpkFile). if is_short comment then Ok (with_own_mac m (record f { comment = comment })) else Err putty.TooLong)
    (if_as P (is_sealed f.sealing) (Err putty.Encrypted) (Ok f) (err_as P putty.Encrypted encrypted) (ok_as P f))
    (λ f. if_as P (is_short comment) (Ok (with_own_mac m (record f { comment = comment }))) (Err putty.TooLong)
    (ok_as P (with_own_mac m (record f { comment = comment }))) (err_as P putty.TooLong too_long))

spelled_answered : (g : PpkFile) → Refuses (λ e. IsAnswered (putty_refusal e)) (file_spelled g)
unfolding file_spelled
spelled_answered g =
    let P : PuttyError → Type 0 = λ e. IsAnswered (putty_refusal e) in
    let fits = fits_block g.public_key && fits_block g.private_bytes in
    if_as P (is_short (file_text g)) (if fits then Ok (file_text g) else Err putty.TooManyLines) (Err putty.TooLong)
    (if_as P fits (Ok (file_text g)) (Err putty.TooManyLines) (ok_as P (file_text g)) (err_as P putty.TooManyLines too_many_lines))
    (err_as P putty.TooLong too_long)

file_answered : (m : Meanings) (comment : List ℕ) (f : PpkFile) → Refuses IsAnswered (file_commented m comment f)
file_answered m comment f =
    if_as IsAnswered (carries_comment (targets.Ppk (version_of f.sealing) default_config Number) comment)
    (and_then (map_err putty_refusal (commented m comment f)) (λ g. map_err putty_refusal (file_spelled g))) (Err errors.CommentNotCarried)
    (then_as IsAnswered (map_err putty_refusal (commented m comment f)) (λ g. map_err putty_refusal (file_spelled g))
    (mapped_as IsAnswered putty_refusal (commented m comment f) (changed_answered m comment f))
    (λ g. mapped_as IsAnswered putty_refusal (file_spelled g) (spelled_answered g)))
    (err_as IsAnswered errors.CommentNotCarried not_carried)

putty_changed : (comment : List ℕ) (key : PuttyPublicKey) → Refuses (λ e. IsAnswered (putty_refusal e)) (putty_commented key comment)
unfolding putty_commented
putty_changed comment key =
    let P : PuttyError → Type 0 = λ e. IsAnswered (putty_refusal e) in
    if_as P (is_short comment) (Ok (record key { comment = comment })) (Err putty.TooLong) (ok_as P (record key { comment = comment }))
    (err_as P putty.TooLong too_long)

putty_spelled : (key : PuttyPublicKey) → Refuses (λ e. IsAnswered (putty_refusal e)) (putty_text key)
unfolding putty_text
putty_spelled key =
    let P : PuttyError → Type 0 = λ e. IsAnswered (putty_refusal e) in
    if_as P (is_short (putty_public key.blob key.comment)) (Ok (putty_public key.blob key.comment)) (Err putty.TooLong)
    (ok_as P (putty_public key.blob key.comment)) (err_as P putty.TooLong too_long)

public_answered : (comment : List ℕ) (key : PuttyPublicKey) → Refuses IsAnswered (putty_key_commented comment key)
public_answered comment key =
    if_as IsAnswered (carries_comment targets.PuttyPublic comment)
    (and_then (map_err putty_refusal (putty_commented key comment)) (λ k. map_err putty_refusal (putty_text k))) (Err errors.CommentNotCarried)
    (then_as IsAnswered (map_err putty_refusal (putty_commented key comment)) (λ k. map_err putty_refusal (putty_text k))
    (mapped_as IsAnswered putty_refusal (putty_commented key comment) (putty_changed comment key))
    (λ k. mapped_as IsAnswered putty_refusal (putty_text k) (putty_spelled k)))
    (err_as IsAnswered errors.CommentNotCarried not_carried)

line_spelled : (key : SshPublicKey) → Refuses (λ e. IsAnswered (line_refusal e)) (line_text key)
unfolding line_text
line_spelled key =
    let P : SshPublicKeyError → Type 0 = λ e. IsAnswered (line_refusal e) in
    if_as P (is_short (line_of key)) (Ok (line_of key)) (Err public.TooLong) (ok_as P (line_of key)) (err_as P public.TooLong too_long)

line_answered : (comment : List ℕ) (key : SshPublicKey) → Refuses IsAnswered (line_commented comment key)
line_answered comment key =
    let written = map_err line_refusal (line_text (record key { comment = comment })) in
    if_as IsAnswered (carries_comment targets.OpenSshPublic comment) (if is_short comment then written else Err errors.TooLong)
    (Err errors.CommentNotCarried)
    (if_as IsAnswered (is_short comment) written (Err errors.TooLong)
    (mapped_as IsAnswered line_refusal (line_text (record key { comment = comment })) (line_spelled (record key { comment = comment })))
    (err_as IsAnswered errors.TooLong too_long)) (err_as IsAnswered errors.CommentNotCarried not_carried)

-- ---- and of what is read

abbrev bare : Meanings → Reader
bare m = record { meanings = m; pass = None }

read_answered : (m : Meanings) (form : Form) (text : List ℕ) (e : ReadError) → form_of text ≡ form → reading_as form (bare m) text ≡ Err e
    → IsAnswered (errors.Input e)
unfolding reading
read_answered m form text e is refused =
    reading_answered (bare m) text e (ap (λ f. reading_as f (bare m) text) is ∙ refused)

unread_key : (m : Meanings) (text : List ℕ) (e : SshPrivateKeyError) → form_of text ≡ forms.Envelope → text_key m None text ≡ Err e
    → IsAnswered (of_private e)
unread_key m text e form is =
    read_answered m forms.Envelope text (read.Private e) form
    (ap (λ t. and_then (map_err read.Private t) (λ key. Ok (envelope_meaning key))) is)

unread_file : (m : Meanings) (text : List ℕ) (e : PuttyError) → form_of text ≡ forms.Ppk → ppk_meaning m text ≡ Err e → IsAnswered (of_putty e)
unfolding ppk_key
unread_file m text e form is =
    read_answered m forms.Ppk text (read.Putty e) form
    (ap (λ t. map_err read.Putty (and_then t (λ f. and_then (opened_ppk (bare m) f) file_key))) is)

-- a file whose key is refused, as an encrypted one's, is refused for that
no_key : (m : Meanings) (f : PpkFile) (e : PuttyError) (shut : Bool) → is_sealed f.sealing ≡ shut → base_key_of f ≡ Err e
    → and_then (opened_ppk (bare m) f) file_key ≡ Err e
unfolding base_key_of
no_key m f e true is refused =
    let seen : Err putty.Encrypted ≡ Err e =
    sym (ap (λ b. and_then (if b then Err putty.Encrypted else Ok f) (λ (f : PpkFile). parts_key f.algorithm f.public_key f.private_bytes)) is)
    ∙ refused in
    let why : putty.Encrypted ≡ e = cc seen in
    ap (λ b. and_then (if b then and_then (ok_or None putty.Encrypted) (λ pass. decrypted m pass f) else Ok f) file_key) is ∙ ap Err why
no_key m f e false is refused =
    ap (λ b. and_then (if b then and_then (ok_or None putty.Encrypted) (λ pass. decrypted m pass f) else Ok f) file_key) is
    ∙ ap (λ k. and_then k (λ key. Ok (private_meaning key f.comment))) refused

unread_file_key : (m : Meanings) (text : List ℕ) (f : PpkFile) (e : PuttyError) → form_of text ≡ forms.Ppk → ppk_meaning m text ≡ Ok f
    → base_key_of f ≡ Err e → IsAnswered (of_putty e)
unfolding ppk_key
unread_file_key m text f e form was is =
    read_answered m forms.Ppk text (read.Putty e) form
    (ap (λ t. map_err read.Putty (and_then t (λ f. and_then (opened_ppk (bare m) f) file_key))) was
    ∙ ap (map_err read.Putty) (no_key m f e (is_sealed f.sealing) refl is))

unread_public : (m : Meanings) (text : List ℕ) (e : PuttyError) → form_of text ≡ forms.PuttyPublic
    → and_then (putty_meaning text) putty_to_openssh ≡ Err e → IsAnswered (of_putty e)
unread_public m text e form is =
    read_answered m forms.PuttyPublic text (read.Putty e) form
    (ap (λ t. and_then (map_err read.Putty t) (λ key. Ok (public_meaning key))) is)

unread_line : (m : Meanings) (text : List ℕ) (e : SshPublicKeyError) → form_of text ≡ forms.PublicLine → line_meaning text ≡ Err e
    → IsAnswered (of_line e)
unread_line m text e form is =
    read_answered m forms.PublicLine text (read.Public e) form
    (ap (λ t. and_then (map_err read.Public t) (λ key. Ok (public_meaning key))) is)

answered_as : (form : Form) (m : Meanings) (comment text : List ℕ) (e : ConvertError) → form_of text ≡ form
    → commented_as form m comment text ≡ Err e → IsAnswered e
answered_as forms.Envelope m comment text e form is =
    next_is IsAnswered (map_err of_private (text_key m None text)) (key_commented m comment) e
    (mapped_as IsAnswered of_private (text_key m None text) (λ g was. unread_key m text g form was))
    (λ key f was late. private_answered m comment key _ f late) is
answered_as forms.Ppk m comment text e form is =
    next_is IsAnswered (map_err of_putty (ppk_meaning m text)) _ e
    (mapped_as IsAnswered of_putty (ppk_meaning m text) (λ g was. unread_file m text g form was))
    (λ f g was late. next_is IsAnswered (map_err of_putty (base_key_of f)) (λ key. file_commented m comment f) g
    (mapped_as IsAnswered of_putty (base_key_of f) (λ h refused. unread_file_key m text f h form (map_err_ok of_putty _ f was) refused))
    (λ key h key_was last. file_answered m comment f h last) late) is
answered_as forms.PuttyPublic m comment text e form is =
    next_is IsAnswered (map_err of_putty (putty_meaning text)) _ e
    (mapped_as IsAnswered of_putty (putty_meaning text) (λ g was. unread_public m text g form (ap (λ t. and_then t putty_to_openssh) was)))
    (λ k g was late. next_is IsAnswered (map_err of_putty (putty_to_openssh k)) (λ key. putty_key_commented comment k) g
    (mapped_as IsAnswered of_putty (putty_to_openssh k) (λ h refused. unread_public m text h form
    (ap (λ t. and_then t putty_to_openssh) (map_err_ok of_putty _ k was) ∙ refused)))
    (λ key h key_was last. public_answered comment k h last) late) is
answered_as forms.Certificate m comment text e form is =
    next_is IsAnswered (map_err errors.Input (reading (bare m) text)) not_commented e
    (mapped_as IsAnswered errors.Input (reading (bare m) text) (λ g was. reading_answered (bare m) text g was))
    (λ meaning f was late. err_as IsAnswered errors.CommentNotCarried not_carried f late) is
answered_as forms.PublicLine m comment text e form is =
    next_is IsAnswered (map_err of_line (line_meaning text)) (line_commented comment) e
    (mapped_as IsAnswered of_line (line_meaning text) (λ g was. unread_line m text g form was))
    (λ key f was late. line_answered comment key f late) is

pub comment_answered : (comment text : List ℕ) (e : ConvertError) → commented_text plain comment text ≡ Err e → IsAnswered e
unfolding commented_text
comment_answered comment text e is = answered_as (form_of text) plain comment text e refl is
