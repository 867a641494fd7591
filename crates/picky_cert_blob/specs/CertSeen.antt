-- What the parts of a certificate's view show, and where they lie.
use Rattle.std.specs.Prelude.{◌≡◌, ◌+◌, List, ℕ, take, Option, Some, None}
use Rattle.picky_wire_base.specs.Numbers.{uint64}
use Rattle.picky_wire_base.specs.Wire.{string, text}
use Rattle.picky_wire_base.specs.declared.view.Part.{Part}
use Rattle.picky_wire_base.specs.View.{Lies, end_of}
use Rattle.picky_keys.specs.Blob.{key_type}
use Rattle.picky_keys.specs.declared.view.PublicView.{PublicView}
use Rattle.picky_keys.specs.View.{key_seen, PartsLie}
use Rattle.picky_cert_parts.specs.declared.cert_key_type.SshCertKeyType.{SshCertKeyType}
use Rattle.picky_cert_parts.specs.declared.critical_option.SshCriticalOption.{SshCriticalOption}
use Rattle.picky_cert_parts.specs.declared.extension.SshExtension.{SshExtension}
use Rattle.picky_cert_parts.specs.ExtensionType.{extension_named}
use Rattle.picky_cert_parts.specs.CertNames.{cert_key_type_name}
use Rattle.picky_cert_blob.specs.declared.head.HeadView.{HeadView}
use Rattle.picky_cert_blob.specs.declared.head.NamedType.{NamedType}
use Rattle.picky_cert_blob.specs.declared.kinds.OptionView.{OptionView}
use Rattle.picky_cert_blob.specs.declared.kinds.ExtensionView.{ExtensionView}
use Rattle.picky_cert_parts.specs.declared.signature.SshSignature.{SshSignature}
use Rattle.picky_cert_parts.specs.declared.signature.SshSignatureBlob.{SshSignatureBlob}
use Rattle.picky_cert_parts.specs.declared.signature.SshSignatureBlob.TheVariants as blobs
use Rattle.picky_cert_parts.specs.Signature.{signature_format, signature_total}
use Rattle.picky_cert_blob.specs.declared.signature.SignatureView.{SignatureView}
use Rattle.picky_cert_blob.specs.declared.body.BodyView.{BodyView}
use Rattle.picky_cert_blob.specs.declared.grants.GrantsView.{GrantsView}
use Rattle.picky_cert_blob.specs.declared.terms.TermsView.{TermsView}
use Rattle.picky_cert_blob.specs.declared.part.CertPart.TheVariants as parts
use Rattle.picky_wire_base.specs.Combine.{at}
use Rattle.picky_cert_blob.specs.Items.{principal_item, option_item, extension_item}
use Rattle.picky_cert_blob.specs.View.{AreItems, values_in}
use Rattle.picky_cert_blob.specs.Layout.{Body, Grants, Head, Terms, cert_name, critical_options, extensions, head, terms}
use Rattle.picky_cert_blob.specs.Layout.{type_number}

abbrev pub type_named : NamedType → SshCertKeyType
type_named named = named.cert_key_type

-- the name ends there, and is the type's
abbrev pub NameLies : List ℕ → ℕ → NamedType → Type 0
NameLies blob end named = Lies blob end named.name × (named.name.bytes.now ≡ cert_key_type_name named.cert_key_type)

abbrev pub head_seen : HeadView → Head
head_seen head = record { cert_key_type = head.cert_key_type; nonce = head.nonce.bytes.now; key = key_seen head.key }

-- the parts of a head whose name ends at this place
abbrev pub HeadLiesBehind : List ℕ → ℕ → HeadView → Type 0
HeadLiesBehind blob from head =
    let nonce_end = end_of string blob from in
    Lies blob nonce_end head.nonce × PartsLie blob nonce_end head.key

abbrev pub HeadLies : List ℕ → ℕ → HeadView → Type 0
HeadLies blob from head = HeadLiesBehind blob (end_of cert_name blob from) head

-- ---- the items of lists

abbrev pub option_seen : OptionView → SshCriticalOption
option_seen view = record { option_type = view.option_type; payload = view.payload.bytes.now }

abbrev pub extension_seen : ExtensionView → SshExtension
extension_seen view = record { extension_type = extension_named view.name.bytes.now; payload = view.payload.bytes.now }

-- ---- the terms

abbrev pub terms_seen : TermsView → Terms
terms_seen view = record {
  serial = view.serial;
  cert_type = view.cert_type;
  key_id = view.key_id.bytes.now;
  principals = values_in principal_item view.principals;
  after = view.after;
  before = view.before;
}

abbrev pub TermsLie : List ℕ → ℕ → TermsView → Type 0
TermsLie blob from view =
    let number_end = end_of type_number blob (end_of (at parts.Serial uint64) blob from) in
    let key_id_end = end_of text blob number_end in
    Lies blob key_id_end view.key_id × Lies blob (end_of string blob key_id_end) view.principals

-- ---- the grants

abbrev pub grants_seen : GrantsView → Grants
grants_seen view = record {
  options = values_in option_item view.options;
  extensions = values_in extension_item view.extensions;
  issuer = key_seen view.issuer;
}

-- the parts of a key whose blob stands in a string lie in the buffer up to the string's end; the length has four bytes
abbrev pub IssuerLies : List ℕ → ℕ → PublicView → Type 0
IssuerLies blob from key =
    let front = take (end_of string blob from) blob in
    PartsLie front (end_of key_type front (from + 4)) key

abbrev pub GrantsLie : List ℕ → ℕ → GrantsView → Type 0
GrantsLie blob from view =
    let options_end = end_of critical_options blob from in
    let extensions_end = end_of extensions blob options_end in
    Lies blob (end_of string blob from) view.options × Lies blob (end_of string blob options_end) view.extensions
    × IssuerLies blob (end_of string blob extensions_end) view.issuer

-- ---- all before the signature

abbrev pub body_seen : BodyView → Body
body_seen view = record { head = head_seen view.head; terms = terms_seen view.terms; grants = grants_seen view.grants }

abbrev pub BodyLies : List ℕ → ℕ → BodyView → Type 0
BodyLies blob from view =
    let head_end = end_of head blob from in
    HeadLies blob from view.head × TermsLie blob head_end view.terms
    × GrantsLie blob (end_of terms blob head_end) view.grants

-- ---- the signature

abbrev pub blob_seen : Part → Option (ℕ × ℕ) → SshSignatureBlob
blob_seen payload None = blobs.Standard payload.bytes.now
blob_seen payload (Some (flags, counter)) = blobs.Sk payload.bytes.now flags counter

abbrev pub signature_seen : SignatureView → SshSignature
signature_seen view = record { format = view.format; blob = blob_seen view.payload view.sk }

-- the payload of a signature whose format's name ends at this place
abbrev pub PayloadLies : List ℕ → ℕ → SignatureView → Type 0
PayloadLies blob from view = Lies blob (end_of string blob from) view.payload

abbrev pub SignatureLies : List ℕ → ℕ → SignatureView → Type 0
SignatureLies blob from view = PayloadLies blob (end_of signature_format blob (end_of signature_total blob from)) view

-- the blocks of its lists are items
abbrev pub HasItems : BodyView → Type 0
HasItems view =
    AreItems principal_item view.terms.principals × AreItems option_item view.grants.options
    × AreItems extension_item view.grants.extensions
