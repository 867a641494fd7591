-- The question whether a signature is good, and its answers.
use Rattle.std.specs.Prelude.{Bool, true, false, List, [], ◌∷◌, ℕ}
use Rattle.std.specs.List.{concat}
use Rattle.picky_wire_base.specs.Wire.{string_of}
use Rattle.picky_keys.specs.Blob.{blob_of}
use Rattle.picky_keys.specs.declared.key.SshBasePublicKey.{SshBasePublicKey}
use Rattle.picky_cert_parts.specs.CertNames.{format_name}
use Rattle.picky_cert_parts.specs.Signature.{blob_fields}
use Rattle.picky_cert_parts.specs.declared.signature.SshSignature.{SshSignature}
use Rattle.picky_ask.specs.declared.question.Question.{Question}
use Rattle.picky_ask.specs.declared.question.Head.TheVariants as heads
use Rattle.picky_ask.specs.Lookup.{question}

-- a signature (RFC 4253, section 6.6; of a security key, PROTOCOL.u2f)
-- string name, of its format
-- string blob
-- byte flags, and uint32 counter, of a security key
unfoldable pub signature_bytes : SshSignature → List ℕ
signature_bytes s = concat (string_of (format_name s.format) ∷ blob_fields s.blob)

-- whether the signature of the message is good under the key
abbrev pub verify_question : SshBasePublicKey → SshSignature → (message : List ℕ) → Question
verify_question key signature message = question (heads.Verify (blob_of key) (signature_bytes signature)) message

-- the answer, one byte
abbrev pub verdict : (good : Bool) → List ℕ
verdict true = 1 ∷ []
verdict false = 0 ∷ []
