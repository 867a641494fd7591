-- A text with another comment: what is written of it, and why nothing is.
use Rattle.std.proofs.Common.{◌≡◌, ◌<◌, ◌^◌, true, ℕ, List, None, Ok, length, subst}
use Rattle.std.specs.Str.{is_utf8}
use Rattle.std.proofs.lemmas.Bool.{ltb-true}
use Rattle.std.proofs.lemmas.Str.{IsUtf8-from_is_utf8}
use Rattle.picky_wire_base.specs.Outcome.{map_err}
use Rattle.picky_wire_base.specs.carried.Outcome.{and_then_ok, map_err_ok}
use Rattle.picky_suite.specs.Meanings.{Meanings, plain}
use Rattle.picky_keys.specs.{LineRefusal.{is_short, line_meaning}}
use Rattle.picky_keys.proofs.{ByteLaws.{utf8_is_bytes}, LineLaws.{chosen}}
use Rattle.picky_sshkey.specs.PrivateRefusal.{text_key}
use Rattle.picky_ppk_parts.specs.Config.{default_config}
use Rattle.picky_ppk_parts.specs.declared.error.PuttyError.TheVariants as putty
use Rattle.picky_ppk_file.specs.{File.{version_of}, PuttyRefusal.{putty_commented, putty_meaning, putty_text, putty_to_openssh}}
use Rattle.picky_ppk_file.specs.Written.{file_spelled}
use Rattle.picky_ppk.specs.{Changed.{commented, open_file}, Checked.{ppk_meaning}, KeyOf.{base_key_of}}
use Rattle.picky_ppk.specs.declared.layout.PpkLayout.TheVariants.{Number}
use Rattle.picky_key_text.specs.{Form.{form_of}, Order.{reading}, declared.form.Form.{Form}}
use Rattle.picky_key_text.specs.declared.form.Form.TheVariants as forms
use Rattle.picky_target.specs.{Judged.{carries_comment}}
use Rattle.picky_target.specs.declared.error.ConvertError.TheVariants as errors
use Rattle.picky_target.specs.declared.target.KeyTarget.TheVariants as targets
use Rattle.picky_changed.specs.Comment.{IsCommented, commented_as, commented_text, file_commented, key_commented, line_commented}
use Rattle.picky_changed.specs.Comment.{not_commented, of_line, of_private, of_putty, putty_key_commented, putty_refusal}
use Rattle.picky_changed.proofs.CommentLaws.{commented_is_read}

-- ---- what is written has a comment that a length of the wire can say

envelope_short : (m : Meanings) (comment text out : List ℕ) → commented_as forms.Envelope m comment text ≡ Ok out
    → is_short comment ≡ true
envelope_short m comment text out is =
    let key = and_then_ok (map_err of_private (text_key m None text)) (key_commented m comment) out is in
    let carried = chosen _ _ errors.CommentNotCarried out key.2 in
    (chosen (is_short comment) _ errors.TooLong out carried.1).0

file_short : (m : Meanings) (comment text out : List ℕ) → commented_as forms.Ppk m comment text ≡ Ok out → is_short comment ≡ true
unfolding commented
file_short m comment text out is =
    let file = and_then_ok (map_err of_putty (ppk_meaning m text)) _ out is in
    let key = and_then_ok (map_err of_putty (base_key_of file.0)) (λ key. file_commented m comment file.0) out file.2 in
    let carried = chosen (carries_comment (targets.Ppk (version_of file.0.sealing) default_config Number) comment) _
    errors.CommentNotCarried out key.2 in
    let made = and_then_ok (map_err putty_refusal (commented m comment file.0)) (λ g. map_err putty_refusal (file_spelled g)) out carried.1 in
    let seen = and_then_ok (open_file file.0) _ made.0 (map_err_ok putty_refusal (commented m comment file.0) made.0 made.1) in
    (chosen (is_short comment) _ putty.TooLong made.0 seen.2).0

putty_short : (m : Meanings) (comment text out : List ℕ) → commented_as forms.PuttyPublic m comment text ≡ Ok out
    → is_short comment ≡ true
unfolding putty_commented
putty_short m comment text out is =
    let said = and_then_ok (map_err of_putty (putty_meaning text)) _ out is in
    let key = and_then_ok (map_err of_putty (putty_to_openssh said.0)) (λ key. putty_key_commented comment said.0) out said.2 in
    let carried = chosen (carries_comment targets.PuttyPublic comment) _ errors.CommentNotCarried out key.2 in
    let made = and_then_ok (map_err putty_refusal (putty_commented said.0 comment)) (λ k. map_err putty_refusal (putty_text k)) out carried.1 in
    (chosen (is_short comment) _ putty.TooLong made.0 (map_err_ok putty_refusal (putty_commented said.0 comment) made.0 made.1)).0

none_short : (m : Meanings) (comment text out : List ℕ) → commented_as forms.Certificate m comment text ≡ Ok out
    → is_short comment ≡ true
none_short m comment text out is =
    let step = and_then_ok (map_err errors.Input (reading (record { meanings = m; pass = None }) text)) not_commented out is in
    cc step.2

line_short : (m : Meanings) (comment text out : List ℕ) → commented_as forms.PublicLine m comment text ≡ Ok out
    → is_short comment ≡ true
line_short m comment text out is =
    let key = and_then_ok (map_err of_line (line_meaning text)) (line_commented comment) out is in
    let carried = chosen (carries_comment targets.OpenSshPublic comment) _ errors.CommentNotCarried out key.2 in
    (chosen (is_short comment) _ errors.TooLong out carried.1).0

short_as : (form : Form) (m : Meanings) (comment text out : List ℕ) → commented_as form m comment text ≡ Ok out
    → is_short comment ≡ true
short_as forms.Envelope m comment text out is = envelope_short m comment text out is
short_as forms.Ppk m comment text out is = file_short m comment text out is
short_as forms.PuttyPublic m comment text out is = putty_short m comment text out is
short_as forms.Certificate m comment text out is = none_short m comment text out is
short_as forms.PublicLine m comment text out is = line_short m comment text out is

comment_is_short : (m : Meanings) (comment text out : List ℕ) → commented_text m comment text ≡ Ok out
    → length comment < 2 ^ 32
unfolding commented_text
comment_is_short m comment text out is = ltb-true _ _ (short_as (form_of text) m comment text out is)

-- ---- the call

is_commented : (comment text out : List ℕ) → is_utf8 text ≡ true → is_utf8 comment ≡ true → commented_text plain comment text ≡ Ok out
    → IsCommented plain comment text out
is_commented comment text out text_utf8 comment_utf8 is =
    let utf8 = IsUtf8-from_is_utf8 comment comment_utf8 in
    commented_is_read plain comment text out (IsUtf8-from_is_utf8 text text_utf8) (record {
      string = record { bytes = utf8_is_bytes comment utf8; short = comment_is_short plain comment text out is };
      utf8 = utf8;
    }) is

pub text_is_commented : (m : Meanings) (bytes said text comment out : List ℕ) → m ≡ plain → text ≡ bytes → is_utf8 bytes ≡ true
    → comment ≡ said → is_utf8 said ≡ true → commented_text m comment text ≡ Ok out → IsCommented plain said bytes out
text_is_commented m bytes said text comment out means same text_utf8 heard comment_utf8 is =
    let here = subst (λ n. commented_text n comment text ≡ Ok out) means is in
    let there = subst (λ t. commented_text plain comment t ≡ Ok out) same here in
    is_commented said bytes out text_utf8 comment_utf8 (subst (λ c. commented_text plain c bytes ≡ Ok out) heard there)
