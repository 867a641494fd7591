-- The fields of certificates, and of what is asked of one, are equal exactly where what compares them tells.
use Rattle.std.specs.Prelude.{◌≡◌, ◌↔◌, Bool, IsTrue, List, ℕ, Option, Some, None, nat_eq}
use Rattle.std.specs.Option.{option_eq}
use Rattle.std.proofs.Common.{rules, ap, refl}
use Rattle.std.proofs.lemmas.Slice.Eq.{slice_eq-Decides}
use lib.Pointwise.{pointwise}
use Rattle.picky_keys.specs.contracts.algorithm.SignatureAlgorithmPartialEq.TheImpl as algorithm
use Rattle.picky_keys.specs.declared.algorithm.SignatureAlgorithm.{SignatureAlgorithm}
use Rattle.picky_wire.specs.contracts.timestamp.TimestampPartialEq.TheImpl as moment
use Rattle.picky_wire.specs.declared.timestamp.Timestamp.{Timestamp}
use Rattle.picky_keys.specs.contracts.key.SshPublicKeyPartialEq.TheImpl as key
use Rattle.picky_keys.specs.declared.key.SshPublicKey.{SshPublicKey}
use Rattle.picky_cert_parts.specs.contracts.cert_key_type.SshCertKeyTypePartialEq.TheImpl as key_type
use Rattle.picky_cert_parts.specs.declared.cert_key_type.SshCertKeyType.{SshCertKeyType}
use Rattle.picky_cert_parts.specs.contracts.cert_type.SshCertTypePartialEq.TheImpl as cert_type
use Rattle.picky_cert_parts.specs.declared.cert_type.SshCertType.{SshCertType}
use Rattle.picky_cert_parts.specs.contracts.critical_option.SshCriticalOptionPartialEq.TheImpl as option
use Rattle.picky_cert_parts.specs.declared.critical_option.SshCriticalOption.{SshCriticalOption}
use Rattle.picky_cert_parts.specs.contracts.extension.SshExtensionPartialEq.TheImpl as extension
use Rattle.picky_cert_parts.specs.declared.extension.SshExtension.{SshExtension}

-- values that may be absent are equal where what compares them tells
pub may_equal : {A : Type 0} (eq : A → A → Bool) → ((x y : A) → IsTrue (eq x y) ↔ (x ≡ y)) → (a b : Option A)
    → IsTrue (option_eq eq a b) ↔ (a ≡ b)
may_equal eq each None None = (λ is. refl, λ same. refl)
may_equal eq each None (Some y) = (λ is. absurd (cc is), λ same. absurd (cc same))
may_equal eq each (Some x) None = (λ is. absurd (cc is), λ same. absurd (cc same))
may_equal eq each (Some x) (Some y) =
    (λ is. ap Some ((each x y).0 is), λ same. let inner : x ≡ y = cc same in (each x y).1 inner)

pub key_type_equal : (a b : SshCertKeyType) → IsTrue (key_type.ghosts.eq a b) ↔ (a ≡ b)
key_type_equal = search rules

pub key_equal : (a b : SshPublicKey) → IsTrue (key.ghosts.eq a b) ↔ (a ≡ b)
key_equal = search rules

pub type_equal : (a b : SshCertType) → IsTrue (cert_type.ghosts.eq a b) ↔ (a ≡ b)
type_equal = search rules

pub number_equal : (a b : ℕ) → IsTrue (nat_eq a b) ↔ (a ≡ b)
number_equal = search rules

pub bytes_equal : (a b : List ℕ) → IsTrue (pointwise nat_eq a b) ↔ (a ≡ b)
bytes_equal = search rules

pub texts_equal : (a b : List (List ℕ)) → IsTrue (pointwise (pointwise nat_eq) a b) ↔ (a ≡ b)
texts_equal a b = slice_eq-Decides bytes_equal a b _ refl

pub moment_equal : (a b : Timestamp) → IsTrue (moment.ghosts.eq a b) ↔ (a ≡ b)
moment_equal = search rules

option_equal : (a b : SshCriticalOption) → IsTrue (option.ghosts.eq a b) ↔ (a ≡ b)
option_equal = search rules

pub options_equal : (a b : List SshCriticalOption) → IsTrue (pointwise option.ghosts.eq a b) ↔ (a ≡ b)
options_equal a b = slice_eq-Decides option_equal a b _ refl

extension_equal : (a b : SshExtension) → IsTrue (extension.ghosts.eq a b) ↔ (a ≡ b)
extension_equal = search rules

pub extensions_equal : (a b : List SshExtension) → IsTrue (pointwise extension.ghosts.eq a b) ↔ (a ≡ b)
extensions_equal a b = slice_eq-Decides extension_equal a b _ refl

pub algorithm_equal : (a b : SignatureAlgorithm) → IsTrue (algorithm.ghosts.eq a b) ↔ (a ≡ b)
algorithm_equal = search rules
