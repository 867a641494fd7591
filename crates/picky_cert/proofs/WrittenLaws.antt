-- What is written binds all that is said, it is a piece, and it is read back.
use Rattle.std.specs.Prelude.{◌≡◌, true, List, [], ℕ, ◌++◌, ◌<◌, ◌^◌, Ok}
use Rattle.std.proofs.Common.{sym, ◌∙◌, refl}
use Rattle.std.proofs.lemmas.List.{append-nil}
use Rattle.picky_wire_base.proofs.Grammar.{one_front}
use Rattle.picky_cert_parts.specs.Signature.{blob_fits, signature_of, total_of}
use Rattle.picky_cert_parts.specs.carried.Signature.{behind_spells}
use Rattle.picky_cert_blob.specs.Layout.{body, signature_part}
use Rattle.picky_cert_blob.proofs.SpellLaws.{body_spells}
use Rattle.picky_cert.specs.declared.certificate.SshCertificate.{SshCertificate}
use Rattle.picky_cert.specs.Certificate.{certificate, certified, said}
use Rattle.picky_cert.specs.Keeps.{IsCertificate, IsWellFormed}
use Rattle.picky_cert.specs.Spelled.{cert_blob_of, signed_of}

-- ---- what is signed

signed_spells : (c : SshCertificate) → IsCertificate c → IsWellFormed c → body.piece (said c) (signed_of c)
unfolding signed_of
signed_spells c is formed = body_spells (said c) is.said formed

-- As it is written, it binds all that is said.
pub written_binds : (c d : SshCertificate) (more : List ℕ) → IsCertificate c → IsCertificate d → IsWellFormed c → IsWellFormed d
    → signed_of d ≡ signed_of c ++ more → said c ≡ said d
written_binds c d more is_c is_d formed_c formed_d same =
    let one = one_front body (said c) (said d) (signed_of c) (signed_of d) more [] (signed_spells c is_c formed_c)
    (signed_spells d is_d formed_d) (sym same ∙ sym (append-nil (signed_of d))) in
    one.value

-- ---- all of it

-- The one spelling that is written is a piece.
pub certificate_spells : (c : SshCertificate) → IsCertificate c → IsWellFormed c
    → blob_fits c.signature.format c.signature.blob ≡ true → total_of c.signature < 2 ^ 32
    → certificate.piece (certified (said c) c.signature) (cert_blob_of c)
unfolding certificate cert_blob_of signature_part signature_of
certificate_spells c is formed fits short =
    let signed = behind_spells (total_of c.signature) c.signature short is.signature fits in (
      said c,
      signed_of c,
      signature_of c.signature,
      signed_spells c is formed,
      (c.signature, signature_of c.signature, [], signed, (refl, refl), sym (append-nil (signature_of c.signature))),
      refl,
    )

-- It is read back, whatever follows.
pub certificate_is_read_back : (c : SshCertificate) (more : List ℕ) → IsCertificate c → IsWellFormed c
    → blob_fits c.signature.format c.signature.blob ≡ true → total_of c.signature < 2 ^ 32
    → certificate.read (cert_blob_of c ++ more) ≡ Ok (certified (said c) c.signature, more)
certificate_is_read_back c more is formed fits short =
    certificate.complete (certified (said c) c.signature) (cert_blob_of c) more (certificate_spells c is formed fits short)

pub ruleset written_laws = (certificate_spells, certificate_is_read_back)
