-- An entry of a ledger: a request, and the certificate that was issued for it; and its line.
use Rattle.std.specs.Prelude.{◌≡◌, ◌<◌, ◌^◌, ◌++◌, ◌∷◌, ℕ, Bool, false, List, [], length}
use Rattle.std.specs.Prelude.{Option, Some, None, bytes_eq, if◌then◌else◌}
use Rattle.std.specs.Result.{result_ok}
use Rattle.std.specs.Str.{is_utf8, IsUtf8}
use Rattle.picky_text.specs.Base64.{base64_of, decoded}
use Rattle.picky_cert.specs.declared.certificate.SshCertificate.{SshCertificate}
use Rattle.picky_cert.specs.Line.{IsReadBackCertificate}
use Rattle.picky_cert.specs.LineRefusal.{cert_line_meaning}
use Rattle.picky_cert.specs.Spelled.{cert_blob_of, cert_line_of}
use Rattle.picky_cert_parts.specs.CertNames.{cert_key_type_name}
use Rattle.picky_issuing.specs.Steps.{some_then}
use Rattle.picky_request.specs.Request.{cut_at_space, request_in}
use Rattle.picky_request.specs.declared.request.CertRequestLine.{CertRequestLine}
use Rattle.picky_ledger.specs.declared.entry.Entry.{Entry}

-- the request line is one, with this id; the serial is the certificate's; and the certificate is what its own line says, where a
-- length of the wire can say the length of that
pub record IsEntry (e : Entry) : Type 0 where
  pub asks : CertRequestLine
  pub request : request_in e.request ≡ Some asks
  pub id : asks.id ≡ e.id
  pub text : IsUtf8 e.request
  pub serial : e.certificate.serial ≡ e.serial
  pub fits : e.serial < 2 ^ 64
  pub kept : length (cert_line_of e.certificate) < 2 ^ 32 → IsReadBackCertificate e.certificate

-- ---- the line of an entry

-- the certificate's line without its CR LF
unfoldable pub front_of : SshCertificate → List ℕ
front_of c = cert_key_type_name c.cert_key_type ++ 32 ∷ base64_of (cert_blob_of c) ++ 32 ∷ c.comment

-- id SP base64 SP certificate, with the request line in base64
unfoldable pub entry_front : Entry → List ℕ
entry_front e = e.id ++ 32 ∷ (base64_of e.request ++ 32 ∷ front_of e.certificate)

-- the same with the LF that ends it
unfoldable pub entry_line : Entry → List ℕ
entry_line e = entry_front e ++ 10 ∷ []

-- ---- the entry of a line

-- bytes that are text
abbrev pub if_text : (bytes : List ℕ) → Option (List ℕ)
if_text bytes = if is_utf8 bytes then Some bytes else None

-- the text that a word says in base64
unfoldable pub base64_text_in : (word : List ℕ) → Option (List ℕ)
base64_text_in word = some_then (decoded word) if_text

-- what is asked is asked under this id
abbrev pub is_named : (id : List ℕ) → Option CertRequestLine → Bool
is_named id None = false
is_named id (Some r) = bytes_eq r.id id

-- a line that is a request with this id
abbrev pub if_named : (id line : List ℕ) → Option (List ℕ)
if_named id line = if is_named id (request_in line) then Some line else None

-- the request line with this id that a word says in base64
unfoldable pub request_under : (id word : List ℕ) → Option (List ℕ)
request_under id word = some_then (base64_text_in word) (if_named id)

-- the certificate that the text says, where it says it in the one spelling
abbrev pub if_canonical : (text : List ℕ) → SshCertificate → Option SshCertificate
if_canonical text c = if bytes_eq (front_of c) text then Some c else None

unfoldable pub certificate_in : (text : List ℕ) → Option SshCertificate
certificate_in text = some_then (result_ok (cert_line_meaning text)) (if_canonical text)

abbrev pub entry_of : (id request : List ℕ) → SshCertificate → Entry
entry_of id request c = record { id = id; serial = c.serial; request = request; certificate = c }

-- what the line says, which stands before its LF
unfoldable pub entry_in : (line : List ℕ) → Option Entry
entry_in line =
    some_then (cut_at_space line) (λ id.
    some_then (cut_at_space id.1) (λ word.
    some_then (request_under id.0 word.0) (λ request.
    some_then (certificate_in word.1) (λ c. Some (entry_of id.0 request c)))))
