-- What the laws state.
use Rattle.std.specs.Prelude.{◌≡◌, ◌++◌, ◌<◌, ◌^◌, List, ℕ, Some, None, Ok, true}
use Rattle.picky_wire_base.specs.Grammar.{OneFront}
use Rattle.picky_wire_base.proofs.Grammar.{one_front}
use Rattle.picky_wire_base.specs.Table.{find_entry}
use Rattle.picky_wire_base.specs.carried.Table.{found_has_key}
use Rattle.picky_cert_parts.specs.CertNumber.{cert_type_number}
use Rattle.picky_cert_parts.specs.carried.CertNumber.{own_number}
use Rattle.picky_cert_parts.specs.NumberTable.{cert_types}
use Rattle.picky_cert_parts.specs.CertType.{cert_type, cert_type_of}
use Rattle.picky_cert_parts.specs.carried.CertType.{cert_type_spells}
use Rattle.picky_cert_parts.specs.CriticalOption.{critical_option, option_of, IsCriticalOption}
use Rattle.picky_cert_parts.specs.carried.CriticalOption.{option_spells}
use Rattle.picky_cert_parts.specs.Extension.{extension, extension_of, IsExtension}
use Rattle.picky_cert_parts.specs.carried.Extension.{extension_spells}
use Rattle.picky_cert_parts.specs.Signature.{signature, behind_total, signature_of, blob_fits, signature_reason, IsSignature}
use Rattle.picky_cert_parts.specs.carried.Signature.{behind_spells, signature_spells}
use Rattle.picky_cert_parts.specs.declared.cert_type.SshCertType.{SshCertType}
use Rattle.picky_cert_parts.specs.declared.critical_option.SshCriticalOption.{SshCriticalOption}
use Rattle.picky_cert_parts.specs.declared.extension.SshExtension.{SshExtension}
use Rattle.picky_cert_parts.specs.declared.signature.SshSignature.{SshSignature}

pub type_of_number : (t : SshCertType) → find_entry cert_types (cert_type_number t) ≡ Some t
unfolding cert_types
type_of_number t = own_number t

pub number_of_type : (n : ℕ) (t : SshCertType) → find_entry cert_types n ≡ Some t → cert_type_number t ≡ n
unfolding cert_types
number_of_type n t found = found_has_key cert_types n t found

pub ruleset number_laws = (type_of_number, number_of_type)

-- ---- what is written is read back

pub cert_type_reads_back : (t : SshCertType) (rest : List ℕ) → cert_type.read (cert_type_of t ++ rest) ≡ Ok (t, rest)
cert_type_reads_back t rest = cert_type.complete t (cert_type_of t) rest (cert_type_spells t)

pub option_reads_back : (o : SshCriticalOption) (rest : List ℕ) → IsCriticalOption o
    → critical_option.read (option_of o ++ rest) ≡ Ok (o, rest)
option_reads_back o rest is = critical_option.complete o (option_of o) rest (option_spells o is)

pub extension_reads_back : (x : SshExtension) (rest : List ℕ) → IsExtension x
    → extension.read (extension_of x ++ rest) ≡ Ok (x, rest)
extension_reads_back x rest is = extension.complete x (extension_of x) rest (extension_spells x is)

pub signature_reads_back : (s : SshSignature) (rest : List ℕ) → IsSignature s → signature_reason s ≡ None
    → signature.read (signature_of s ++ rest) ≡ Ok (s, rest)
signature_reads_back s rest is written = signature.complete s (signature_of s) rest (signature_spells s is written)

pub behind_reads_back : (s : SshSignature) (total : ℕ) (rest : List ℕ) → IsSignature s → blob_fits s.format s.blob ≡ true
    → total < 2 ^ 32 → signature.read (behind_total total s ++ rest) ≡ Ok (s, rest)
behind_reads_back s total rest is fits small =
    signature.complete s (behind_total total s) rest (behind_spells total s small is fits)

pub ruleset element_laws = (
  cert_type_reads_back,
  option_reads_back,
  extension_reads_back,
  signature_reads_back,
  behind_reads_back,
)

-- ---- one front spells one value

pub cert_type_front : (v w : SshCertType) (a b x y : List ℕ) → cert_type.piece v a → cert_type.piece w b → a ++ x ≡ b ++ y
    → OneFront v w a b x y
cert_type_front v w a b x y first second same = one_front cert_type v w a b x y first second same

pub option_front : (v w : SshCriticalOption) (a b x y : List ℕ) → critical_option.piece v a → critical_option.piece w b
    → a ++ x ≡ b ++ y → OneFront v w a b x y
option_front v w a b x y first second same = one_front critical_option v w a b x y first second same

pub extension_front : (v w : SshExtension) (a b x y : List ℕ) → extension.piece v a → extension.piece w b
    → a ++ x ≡ b ++ y → OneFront v w a b x y
extension_front v w a b x y first second same = one_front extension v w a b x y first second same

pub signature_front : (v w : SshSignature) (a b x y : List ℕ) → signature.piece v a → signature.piece w b
    → a ++ x ≡ b ++ y → OneFront v w a b x y
signature_front v w a b x y first second same = one_front signature v w a b x y first second same

pub ruleset front_laws = (cert_type_front, option_front, extension_front, signature_front)
