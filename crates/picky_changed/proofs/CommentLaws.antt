-- What is written with another comment is read as the same key, with that comment.
use Rattle.std.specs.Prelude.{◌≡◌, ◌<◌, ◌^◌, ◌&&◌, Bool, true, false, List, [], ℕ, None, Ok, Err, length, if◌then◌else◌}
use Rattle.std.specs.Str.{IsUtf8, trim_end}
use Rattle.std.proofs.Common.{◌∙◌, ap, arith, inr, refl, subst, sym}
use Rattle.std.proofs.lemmas.Bool.{ltb-true}
use Rattle.std.proofs.lemmas.List.{append-nil}
use Rattle.picky_wire_base.specs.Numbers.{IsBytes}
use Rattle.picky_wire_base.specs.Outcome.{and_then, map_err}
use Rattle.picky_wire_base.specs.carried.Outcome.{and_then_ok, map_err_ok}
use Rattle.picky_kv.specs.declared.PpkVersionKey.{PpkVersionKey}
use Rattle.picky_kv.specs.declared.PpkVersionKey.TheVariants.{V2, V3}
use Rattle.picky_suite.specs.Meanings.{Meanings}
use Rattle.picky_keys.specs.Key.{IsText}
use Rattle.picky_keys.specs.Line.{line_of}
use Rattle.picky_keys.specs.LineRefusal.{is_short, line_meaning, line_text}
use Rattle.picky_keys.specs.declared.key.SshBasePublicKey.{SshBasePublicKey}
use Rattle.picky_keys.specs.declared.error.SshPublicKeyError.TheVariants as public
use Rattle.picky_keys.proofs.ByteLaws.{utf8_is_bytes}
use Rattle.picky_keys.proofs.LineLaws.{chosen, line_meaning_of, line_says}
use Rattle.picky_sshkey_blob.specs.Pem.{pem_text}
use Rattle.picky_sshkey_blob.specs.declared.key.SshBasePrivateKey.{SshBasePrivateKey}
use Rattle.picky_sshkey.specs.Kept.{IsSshPrivateKey, read_again}
use Rattle.picky_sshkey.specs.PrivateRefusal.{text_key}
use Rattle.picky_sshkey.specs.Written.{content_under, key_text, sealable, text_len}
use Rattle.picky_sshkey.specs.declared.private_key.SshPrivateKey.{SshPrivateKey}
use Rattle.picky_sshkey.proofs.KeptLaws.{text_reads_back}
use Rattle.picky_sshkey.proofs.ReadLaws.{text_is_kept}
use Rattle.picky_ppk_parts.specs.Config.{default_config}
use Rattle.picky_ppk_parts.specs.Mac.{mac_of}
use Rattle.picky_ppk_parts.specs.PartsRefusal.{key_in_blob}
use Rattle.picky_ppk_parts.specs.declared.error.PuttyError.TheVariants as putty
use Rattle.picky_ppk_file.specs.File.{IsFile, is_sealed, version_of}
use Rattle.picky_ppk_file.specs.PuttyPublic.{putty_public}
use Rattle.picky_ppk_file.specs.PuttyRefusal.{putty_commented, putty_meaning, putty_text, putty_to_openssh}
use Rattle.picky_ppk_file.specs.Written.{file_spelled, file_text, fits_block}
use Rattle.picky_ppk_file.specs.declared.file.PpkFile.{PpkFile}
use Rattle.picky_ppk_file.specs.declared.putty_public.PuttyPublicKey.{PuttyPublicKey}
use Rattle.picky_ppk_file.proofs.MeaningLaws.{putty_meaning_says, putty_public_reads_back}
use Rattle.picky_ppk_file.proofs.RangeLaws.{fields_in_ranges}
use Rattle.picky_ppk_file.proofs.ReadBackLaws.{written_is_read_back}
use Rattle.picky_ppk.specs.declared.layout.PpkLayout.TheVariants.{Number}
use Rattle.picky_ppk.specs.Changed.{commented}
use Rattle.picky_ppk.specs.Checked.{ppk_meaning}
use Rattle.picky_ppk.specs.KeyOf.{base_key_of}
use Rattle.picky_ppk.specs.Mac.{own_mac, with_own_mac}
use Rattle.picky_ppk.proofs.CheckedLaws.{made_file_carries, read_file_is_taken}
use Rattle.picky_key_text.specs.Form.{form_of}
use Rattle.picky_key_text.specs.Key.{private_meaning, public_meaning}
use Rattle.picky_key_text.specs.Order.{envelope_meaning, ppk_key, reading, reading_as}
use Rattle.picky_key_text.specs.declared.error.ReadError.TheVariants as read
use Rattle.picky_key_text.specs.declared.form.Form.{Form}
use Rattle.picky_key_text.specs.declared.form.Form.TheVariants as forms
use Rattle.picky_key_text.specs.declared.meaning.Meaning.{Meaning}
use Rattle.picky_key_text.proofs.KeptLaws.{meaning_is_kept}
use Rattle.picky_key_text.proofs.PpkLemmas.{taken_file}
use Rattle.picky_target.specs.Drafts.{default_rounds}
use Rattle.picky_target.specs.Judged.{carries_comment}
use Rattle.picky_target.specs.declared.error.ConvertError.TheVariants as errors
use Rattle.picky_target.specs.declared.target.KeyTarget.TheVariants as targets
use Rattle.picky_target.proofs.ByteLemmas.{each_is_byte}
use Rattle.picky_target.proofs.FormLaws.{envelope_form, file_form, line_form, putty_form}
use Rattle.picky_target.proofs.PlaceLemmas.{comment_holds}
use Rattle.picky_changed.specs.Comment.{IsCommented, commented_as, commented_text, file_commented, key_commented, line_commented}
use Rattle.picky_changed.specs.Comment.{line_refusal, not_commented, of_line, of_private, of_putty, private_refusal}
use Rattle.picky_changed.specs.Comment.{putty_key_commented, putty_refusal}
use Rattle.picky_changed.proofs.UnaskedLemmas.{text_keeps}

-- a text is read in its form
read_as : (m : Meanings) (form : Form) (text : List ℕ) (meaning : Meaning) → form_of text ≡ form
    → reading_as form (record { meanings = m; pass = None }) text ≡ Ok meaning
    → reading (record { meanings = m; pass = None }) text ≡ Ok meaning
unfolding reading
read_as m form text meaning is reads =
    subst (λ f. reading_as f (record { meanings = m; pass = None }) text ≡ Ok meaning) (sym is) reads

-- ---- OpenSSH's private key

written_key_form : (m : Meanings) (key : SshPrivateKey) (out : List ℕ) → key_text m key ≡ Ok out → form_of out ≡ forms.Envelope
unfolding key_text
written_key_form m key out has =
    let step = and_then_ok (sealable text_len key) (λ lock. Ok (pem_text (content_under m key lock))) out has in
    let same : pem_text (content_under m key step.0) ≡ out = cc step.2 in
    subst (λ t. form_of t ≡ forms.Envelope) same (envelope_form (content_under m key step.0))

envelope_back : (m : Meanings) (comment text out : List ℕ) → IsBytes text → IsText comment → form_of text ≡ forms.Envelope
    → commented_as forms.Envelope m comment text ≡ Ok out → IsCommented m comment text out
envelope_back m comment text out bytes wire form is =
    let step = and_then_ok (map_err of_private (text_key m None text)) (key_commented m comment) out is in
    let found : text_key m None text ≡ Ok step.0 = map_err_ok of_private (text_key m None text) step.0 step.1 in
    let carried = chosen (carries_comment (targets.OpenSsh default_rounds) comment) _ errors.CommentNotCarried out step.2 in
    let short = chosen (is_short comment) _ errors.TooLong out carried.1 in
    let has : key_text m (record step.0 { comment = comment }) ≡ Ok out =
    map_err_ok private_refusal (key_text m (record step.0 { comment = comment })) out short.1 in
    let kept = text_is_kept m None text step.0 bytes tt found in
    let still : IsSshPrivateKey (record step.0 { comment = comment }) = record {
      base_key = kept.base_key;
      check = kept.check;
      comment = wire;
      passphrase = kept.passphrase;
      option = kept.option;
    } in
    let back = text_reads_back m (record step.0 { comment = comment }) out [] still has in
    let bare : step.0.passphrase ≡ None = text_keeps m None text step.0 found in
    let again : text_key m None out ≡ Ok (read_again (record step.0 { comment = comment })) =
    subst (λ p. text_key m p out ≡ Ok (read_again (record step.0 { comment = comment }))) bare
    (subst (λ t. text_key m step.0.passphrase t ≡ Ok (read_again (record step.0 { comment = comment }))) (append-nil out) back) in
    let trimmed : trim_end comment ≡ comment = comment_holds (targets.OpenSsh default_rounds) comment carried.0 in
    record {
      meaning = envelope_meaning step.0;
      before = read_as m forms.Envelope text (envelope_meaning step.0) form
          (ap (λ t. and_then (map_err read.Private t) (λ key. Ok (envelope_meaning key))) found);
      after = read_as m forms.Envelope out (private_meaning step.0.base_key comment)
          (written_key_form m (record step.0 { comment = comment }) out has)
          (ap (λ t. and_then (map_err read.Private t) (λ key. Ok (envelope_meaning key))) again
          ∙ ap (λ c. Ok (private_meaning step.0.base_key c)) trimmed);
    }

-- ---- PuTTY's private key file

own_bytes : (m : Meanings) (version : PpkVersionKey) (key input : List ℕ)
    → (length (mac_of m version key input) < 2 ^ 32) × IsBytes (mac_of m version key input)
own_bytes m V2 key input = let mac = m.sha1_is_mac key input in (omega (arith, mac.len), each_is_byte _ mac.each)
own_bytes m V3 key input = let mac = m.sha256_is_mac key input in (omega (arith, mac.len), each_is_byte _ mac.each)

own_mac_bytes : (m : Meanings) (f : PpkFile) → (length (own_mac m f) < 2 ^ 32) × IsBytes (own_mac m f)
unfolding own_mac
own_mac_bytes m f = own_bytes m (version_of f.sealing) _ _

-- a file with another comment isn't sealed
commented_is : (m : Meanings) (comment : List ℕ) (f g : PpkFile) → commented m comment f ≡ Ok g
    → (is_sealed f.sealing ≡ false) × (with_own_mac m (record f { comment = comment }) ≡ g)
unfolding commented
commented_is m comment f g is = go (is_sealed f.sealing) refl is
  where
    go : (shut : Bool) → is_sealed f.sealing ≡ shut
        → and_then (if shut then Err putty.Encrypted else Ok f) (λ f.
        if is_short comment then Ok (with_own_mac m (record f { comment = comment })) else Err putty.TooLong) ≡ Ok g
        → (is_sealed f.sealing ≡ false) × (with_own_mac m (record f { comment = comment }) ≡ g)
    go true was answers = cc answers
    go false was answers = (was, cc (chosen (is_short comment) _ putty.TooLong g answers).1)

written_file_form : (g : PpkFile) (out : List ℕ) → file_spelled g ≡ Ok out → form_of out ≡ forms.Ppk
unfolding file_spelled
written_file_form g out has =
    let short = chosen (is_short (file_text g)) _ putty.TooLong out has in
    let fits = chosen (fits_block g.public_key && fits_block g.private_bytes) (Ok (file_text g)) putty.TooManyLines out short.1 in
    let same : file_text g ≡ out = cc fits.1 in
    subst (λ t. form_of t ≡ forms.Ppk) same (file_form g)

-- the key of a text of a file that isn't sealed
open_file_read : (m : Meanings) (text : List ℕ) (f : PpkFile) (key : SshBasePrivateKey) → ppk_meaning m text ≡ Ok f → is_sealed f.sealing ≡ false
    → base_key_of f ≡ Ok key
    → reading_as forms.Ppk (record { meanings = m; pass = None }) text ≡ Ok (private_meaning key f.comment)
unfolding ppk_key
open_file_read m text f key taken unsealed has = rw (taken, unsealed, has) refl

-- the key stays, whatever the comment and the MAC
key_stays : (f g : PpkFile) → is_sealed f.sealing ≡ false → is_sealed g.sealing ≡ false → g.algorithm ≡ f.algorithm
    → g.public_key ≡ f.public_key → g.private_bytes ≡ f.private_bytes → base_key_of g ≡ base_key_of f
unfolding base_key_of
key_stays f g unsealed still algorithm blob private = rw (unsealed, still, algorithm, blob, private) refl

file_back : (m : Meanings) (comment text out : List ℕ) → IsBytes text → IsText comment → form_of text ≡ forms.Ppk
    → commented_as forms.Ppk m comment text ≡ Ok out → IsCommented m comment text out
file_back m comment text out bytes wire form is =
    let one = and_then_ok (map_err of_putty (ppk_meaning m text)) _ out is in
    let taken : ppk_meaning m text ≡ Ok one.0 = map_err_ok of_putty (ppk_meaning m text) one.0 one.1 in
    let two = and_then_ok (map_err of_putty (base_key_of one.0)) (λ key. file_commented m comment one.0) out one.2 in
    let found : base_key_of one.0 ≡ Ok two.0 = map_err_ok of_putty (base_key_of one.0) two.0 two.1 in
    let target = targets.Ppk (version_of one.0.sealing) default_config Number in
    let carried = chosen (carries_comment target comment) _ errors.CommentNotCarried out two.2 in
    let made = and_then_ok (map_err putty_refusal (commented m comment one.0)) (λ g. map_err putty_refusal (file_spelled g)) out carried.1 in
    let changed = commented_is m comment one.0 made.0 (map_err_ok putty_refusal (commented m comment one.0) made.0 made.1) in
    let spelled : file_spelled made.0 ≡ Ok out = map_err_ok putty_refusal (file_spelled made.0) out made.2 in
    let written : file_spelled (with_own_mac m (record one.0 { comment = comment })) ≡ Ok out =
    ap file_spelled changed.1 ∙ spelled in
    let ranges = fields_in_ranges text one.0 bytes (taken_file m text one.0 taken).0 in
    let still : IsFile (with_own_mac m (record one.0 { comment = comment })) = record {
      sealing = ranges.sealing;
      comment = wire.string.short;
      public_key = ranges.public_key;
      private_bytes = ranges.private_bytes;
      mac = own_mac_bytes m _;
    } in
    let line = comment_holds target comment carried.0 in
    let back = written_is_read_back (with_own_mac m (record one.0 { comment = comment })) out [] still line written in
    let carries = made_file_carries m (record one.0 { comment = comment }) (with_own_mac m (record one.0 { comment = comment })) changed.0 refl in
    let again : ppk_meaning m out ≡ Ok (with_own_mac m (record one.0 { comment = comment })) =
    subst (λ t. ppk_meaning m t ≡ Ok (with_own_mac m (record one.0 { comment = comment }))) (append-nil out)
    (read_file_is_taken m (with_own_mac m (record one.0 { comment = comment })) out [] back (inr carries)) in
    let stays = key_stays one.0 (with_own_mac m (record one.0 { comment = comment })) changed.0 changed.0 refl refl refl in
    record {
      meaning = private_meaning two.0 one.0.comment;
      before = read_as m forms.Ppk text (private_meaning two.0 one.0.comment) form (open_file_read m text one.0 two.0 taken changed.0 found);
      after = read_as m forms.Ppk out (private_meaning two.0 comment)
          (written_file_form (with_own_mac m (record one.0 { comment = comment })) out written)
          (open_file_read m out (with_own_mac m (record one.0 { comment = comment })) two.0 again changed.0 (stays ∙ found));
    }

-- ---- public keys

putty_read : (m : Meanings) (text : List ℕ) (k : PuttyPublicKey) (inner : SshBasePublicKey) → putty_meaning text ≡ Ok k
    → key_in_blob k.blob ≡ Ok inner
    → reading_as forms.PuttyPublic (record { meanings = m; pass = None }) text
    ≡ Ok (public_meaning (record { inner_key = inner; comment = k.comment }))
unfolding putty_to_openssh
putty_read m text k inner said has = rw (said, has) refl

putty_back : (m : Meanings) (comment text out : List ℕ) → IsBytes text → IsText comment → form_of text ≡ forms.PuttyPublic
    → commented_as forms.PuttyPublic m comment text ≡ Ok out → IsCommented m comment text out
unfolding putty_commented putty_text putty_to_openssh
putty_back m comment text out bytes wire form is =
    let one = and_then_ok (map_err of_putty (putty_meaning text)) _ out is in
    let said : putty_meaning text ≡ Ok one.0 = map_err_ok of_putty (putty_meaning text) one.0 one.1 in
    let two = and_then_ok (map_err of_putty (putty_to_openssh one.0)) (λ key. putty_key_commented comment one.0) out one.2 in
    let key : putty_to_openssh one.0 ≡ Ok two.0 = map_err_ok of_putty (putty_to_openssh one.0) two.0 two.1 in
    let inner = and_then_ok (key_in_blob one.0.blob) _ two.0 key in
    let carried = chosen (carries_comment targets.PuttyPublic comment) _ errors.CommentNotCarried out two.2 in
    let made = and_then_ok (map_err putty_refusal (putty_commented one.0 comment)) (λ k. map_err putty_refusal (putty_text k)) out carried.1 in
    let short = chosen (is_short comment) _ putty.TooLong made.0 (map_err_ok putty_refusal (putty_commented one.0 comment) made.0 made.1) in
    let changed : record one.0 { comment = comment } ≡ made.0 = cc short.1 in
    let spelled = chosen (is_short (putty_public made.0.blob made.0.comment)) _ putty.TooLong out
    (map_err_ok putty_refusal (putty_text made.0) out made.2) in
    let same : putty_public one.0.blob comment ≡ out =
    ap (λ (k : PuttyPublicKey). putty_public k.blob k.comment) changed ∙ cc spelled.1 in
    let says = putty_meaning_says text one.0 bytes said in
    let back = putty_public_reads_back (record one.0 { comment = comment }) says.bytes (comment_holds targets.PuttyPublic comment carried.0)
    says.blob_short wire.string.short in
    let again : putty_meaning out ≡ Ok (record one.0 { comment = comment }) =
    subst (λ t. putty_meaning t ≡ Ok (record one.0 { comment = comment })) same back in
    record {
      meaning = public_meaning (record { inner_key = inner.0; comment = one.0.comment });
      before = read_as m forms.PuttyPublic text _ form (putty_read m text one.0 inner.0 said inner.1);
      after = read_as m forms.PuttyPublic out _ (subst (λ t. form_of t ≡ forms.PuttyPublic) same (putty_form one.0.blob comment))
          (putty_read m out (record one.0 { comment = comment }) inner.0 again inner.1);
    }

line_back : (m : Meanings) (comment text out : List ℕ) → IsUtf8 text → IsText comment → form_of text ≡ forms.PublicLine
    → commented_as forms.PublicLine m comment text ≡ Ok out → IsCommented m comment text out
unfolding line_text
line_back m comment text out utf8 wire form is =
    let one = and_then_ok (map_err of_line (line_meaning text)) (line_commented comment) out is in
    let said : line_meaning text ≡ Ok one.0 = map_err_ok of_line (line_meaning text) one.0 one.1 in
    let before = read_as m forms.PublicLine text (public_meaning one.0) form
    (ap (λ t. and_then (map_err read.Public t) (λ key. Ok (public_meaning key))) said) in
    let kept = meaning_is_kept (record { meanings = m; pass = None }) text (public_meaning one.0) utf8 tt before in
    let carried = chosen (carries_comment targets.OpenSshPublic comment) _ errors.CommentNotCarried out one.2 in
    let short = chosen (is_short comment) _ errors.TooLong out carried.1 in
    let spelled = chosen (is_short (line_of (record one.0 { comment = comment }))) _ public.TooLong out
    (map_err_ok line_refusal (line_text (record one.0 { comment = comment })) out short.1) in
    let same : line_of (record one.0 { comment = comment }) ≡ out = cc spelled.1 in
    let line = comment_holds targets.OpenSshPublic comment carried.0 in
    let says = line_says (record one.0 { comment = comment }) [] (record {
      is_key = kept.key;
      no_cr = line.no_cr;
      no_lf = line.no_lf;
      trimmed = line.trimmed;
      utf8 = wire.utf8;
      short = ltb-true _ _ spelled.0;
    }) in
    let again : line_meaning out ≡ Ok (record one.0 { comment = comment }) =
    subst (λ t. line_meaning t ≡ Ok (record one.0 { comment = comment })) (append-nil (line_of (record one.0 { comment = comment })) ∙ same)
    (line_meaning_of _ (record one.0 { comment = comment }) says) in
    record {
      meaning = public_meaning one.0;
      before = before;
      after = read_as m forms.PublicLine out (public_meaning (record one.0 { comment = comment }))
          (subst (λ t. form_of t ≡ forms.PublicLine) same (line_form (record one.0 { comment = comment })))
          (ap (λ t. and_then (map_err read.Public t) (λ key. Ok (public_meaning key))) again);
    }

-- ---- any text

none_back : (m : Meanings) (comment text out : List ℕ) → commented_as forms.Certificate m comment text ≡ Ok out
    → IsCommented m comment text out
none_back m comment text out is =
    let step = and_then_ok (map_err errors.Input (reading (record { meanings = m; pass = None }) text)) not_commented out is in
    cc step.2

back_as : (form : Form) (m : Meanings) (comment text out : List ℕ) → IsUtf8 text → IsText comment → form_of text ≡ form
    → commented_as form m comment text ≡ Ok out → IsCommented m comment text out
back_as forms.Envelope m comment text out utf8 wire form is = envelope_back m comment text out (utf8_is_bytes text utf8) wire form is
back_as forms.Ppk m comment text out utf8 wire form is = file_back m comment text out (utf8_is_bytes text utf8) wire form is
back_as forms.PuttyPublic m comment text out utf8 wire form is = putty_back m comment text out (utf8_is_bytes text utf8) wire form is
back_as forms.Certificate m comment text out utf8 wire form is = none_back m comment text out is
back_as forms.PublicLine m comment text out utf8 wire form is = line_back m comment text out utf8 wire form is

pub commented_is_read : (m : Meanings) (comment text out : List ℕ) → IsUtf8 text → IsText comment
    → commented_text m comment text ≡ Ok out → IsCommented m comment text out
unfolding commented_text
commented_is_read m comment text out utf8 wire is = back_as (form_of text) m comment text out utf8 wire refl is
