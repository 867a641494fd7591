-- That each type of certificates has a number of its own.
use Rattle.std.specs.Prelude.{◌≡◌, ◌==◌, Some, find, refl}
use Rattle.picky_cert_parts.specs.declared.cert_type.SshCertType.{SshCertType}
use Rattle.picky_cert_parts.specs.declared.cert_type.SshCertType.TheVariants.{Client, Host}
use Rattle.picky_cert_parts.specs.CertNumber.{cert_type_number, cert_types_in_order}

pub own_number : (a : SshCertType)
    → find (λ b. cert_type_number a == cert_type_number b) cert_types_in_order ≡ Some a
own_number Client = refl
own_number Host = refl
