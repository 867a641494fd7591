-- The three fingerprints of a public key: digests of the blob that is written for it. SHA-1 and SHA-256 as OpenSSH
-- shows them, in base64 without padding; MD5 in hex without its colons.
use Rattle.std.specs.Prelude.{List, [], ◌∷◌, ◌++◌, ℕ, codes}
use Rattle.base64.specs.Engines.{standard_no_pad}
use Rattle.base64.specs.GeneralPurpose.{encode_of}
use Rattle.hex.specs.Hex.{encode_lower}
use Rattle.md5.specs.Md5.{md5}
use Rattle.sha1.specs.Sha1.{sha1}
use Rattle.sha2.specs.Sha256.{sha256}
use Rattle.picky_text.specs.Lines.{text_of}
use Rattle.picky_text.specs.declared.lines.LineEnd.TheVariants.{Lf}
use Rattle.picky_keys.specs.declared.key.SshBasePublicKey.{SshBasePublicKey}
use Rattle.picky_keys.specs.Blob.{blob_of}

-- MD5 in hex, SHA-1 and SHA-256 in base64 without padding
unfoldable pub fingerprint_lines : SshBasePublicKey → List (List ℕ)
fingerprint_lines key =
    (codes "MD5:" ++ encode_lower (md5 (blob_of key)))
    ∷ (codes "SHA1:" ++ encode_of standard_no_pad (sha1 (blob_of key)))
    ∷ (codes "SHA256:" ++ encode_of standard_no_pad (sha256 (blob_of key)))
    ∷ []

-- the lines, each ended by LF
abbrev pub fingerprint_text : SshBasePublicKey → List ℕ
fingerprint_text key = text_of Lf (fingerprint_lines key)
