-- What a key text means under a passphrase and what a suite's calls mean, by its form.
use Rattle.std.specs.Prelude.{◌≡◌, List, ℕ}
use Rattle.picky_keys.specs.Line.{IsPublicLine}
use Rattle.picky_cert.specs.declared.certificate.SshCertificate.{SshCertificate}
use Rattle.picky_cert.specs.Line.{IsCertificateLine}
use Rattle.picky_ppk_file.specs.PuttyPublic.{IsPuttyPublic}
use Rattle.picky_sshkey.specs.declared.private_key.SshPrivateKey.{SshPrivateKey}
use Rattle.picky_sshkey.specs.PrivateText.{IsPrivateText}
use Rattle.picky_key_text.specs.declared.form.Form.{Form}
use Rattle.picky_key_text.specs.declared.form.Form.TheVariants as forms
use Rattle.picky_key_text.specs.declared.meaning.Meaning.{Meaning}
use Rattle.picky_key_text.specs.Form.{form_of}
use Rattle.picky_key_text.specs.Key.{certificate_meaning, public_key, public_meaning, private_meaning}
use Rattle.picky_key_text.specs.PpkText.{IsPpkText}
use Rattle.picky_key_text.specs.Reader.{Reader}

-- in its form the text means a key and a comment, and nothing else that it says
abbrev pub Means : Form → Reader → List ℕ → Meaning → Type 0
Means forms.Envelope r text meaning =
    (key : SshPrivateKey) × IsPrivateText r.meanings r.pass text key × (meaning ≡ private_meaning key.base_key key.comment)
Means forms.Ppk r text meaning = IsPpkText r text meaning
Means forms.PuttyPublic r text meaning =
    IsPuttyPublic text (public_key meaning) × (meaning ≡ public_meaning (public_key meaning))
Means forms.Certificate r text meaning =
    (c : SshCertificate) × IsCertificateLine text c × (meaning ≡ certificate_meaning c)
Means forms.PublicLine r text meaning =
    IsPublicLine text (public_key meaning) × (meaning ≡ public_meaning (public_key meaning))

abbrev pub Reads : Reader → List ℕ → Meaning → Type 0
Reads r text meaning = Means (form_of text) r text meaning
