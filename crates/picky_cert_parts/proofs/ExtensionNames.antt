-- An extension and its name.
use Rattle.std.specs.Prelude.{◌≡◌, ◌<◌, ◌^◌, List, ℕ, Option, Some, None, length, IsUtf8}
use Rattle.std.specs.Prelude.{true, nat_lt, if◌then◌else◌, Ok, Err}
use Rattle.std.proofs.Common.{refl, sym, ap, subst, ◌∙◌}
use Rattle.picky_wire_base.specs.Table.{find_entry}
use Rattle.picky_wire_base.specs.carried.Table.{found_has_key}
use Rattle.picky_wire.specs.Principals.{IsPrincipal}
use Rattle.picky_cert_parts.specs.declared.known_extension.KnownExtension.{KnownExtension}
use Rattle.picky_cert_parts.specs.declared.known_extension.KnownExtension.TheVariants as known
use Rattle.picky_cert_parts.specs.declared.extension_type.SshExtensionType.{SshExtensionType}
use Rattle.picky_cert_parts.specs.declared.extension_type.SshExtensionType.TheVariants as extensions
use Rattle.picky_cert_parts.specs.CertNames.{known_name}
use Rattle.picky_cert_parts.specs.carried.ExtensionNames.{known_named, name_names}
use Rattle.picky_cert_parts.specs.CertNameTables.{known_extensions}
use Rattle.picky_cert_parts.specs.ExtensionType.{type_of, known_or_other, extension_name, extension_named, IsExtensionType}

name_of_known : (k : KnownExtension) → extension_name (type_of k) ≡ known_name k
name_of_known known.NoTouchRequired = refl
name_of_known known.PermitX11Forwarding = refl
name_of_known known.PermitAgentForwarding = refl
name_of_known known.PermitPortForwarding = refl
name_of_known known.PermitPty = refl
name_of_known known.PermitUserPc = refl

known_key : (name : List ℕ) (k : KnownExtension) → find_entry known_extensions name ≡ Some k → known_name k ≡ name
unfolding known_extensions
known_key name k found = found_has_key known_extensions name k found

known_name_short : (k : KnownExtension) → nat_lt (length (known_name k)) (2 ^ 32) ≡ true
unfolding known_name
known_name_short known.NoTouchRequired = refl
known_name_short known.PermitX11Forwarding = refl
known_name_short known.PermitAgentForwarding = refl
known_name_short known.PermitPortForwarding = refl
known_name_short known.PermitPty = refl
known_name_short known.PermitUserPc = refl

known_name_answers : {E : Type 0} (big : E) (k : KnownExtension)
    → (if nat_lt (length (known_name k)) (2 ^ 32) then Ok (extension_named (known_name k)) else Err big) ≡ Ok (type_of k)
known_name_answers big k =
    ap (λ short. if short then Ok (extension_named (known_name k)) else Err big) (known_name_short k) ∙ ap Ok (known_named k)

-- A known name is short enough for an answer, which is its extension.
pub known_answers : {E : Type 0} (big : E) (name : List ℕ) (k : KnownExtension) → find_entry known_extensions name ≡ Some k
    → (if nat_lt (length name) (2 ^ 32) then Ok (extension_named name) else Err big) ≡ Ok (type_of k)
known_answers big name k found =
    subst (λ n. (if nat_lt (length n) (2 ^ 32) then Ok (extension_named n) else Err big) ≡ Ok (type_of k))
    (known_key name k found) (known_name_answers big k)

kept : (name : List ℕ) (o : Option KnownExtension) → find_entry known_extensions name ≡ o
    → extension_name (known_or_other name o) ≡ name
kept name (Some k) found = name_of_known k ∙ known_key name k found
kept name None found = refl

pub name_is_kept : (name : List ℕ) → extension_name (extension_named name) ≡ name
name_is_kept name = kept name (find_entry known_extensions name) refl

type_keeps : (k : KnownExtension) → IsExtensionType (type_of k)
type_keeps known.NoTouchRequired = record {}
type_keeps known.PermitX11Forwarding = record {}
type_keeps known.PermitAgentForwarding = record {}
type_keeps known.PermitPortForwarding = record {}
type_keeps known.PermitPty = record {}
type_keeps known.PermitUserPc = record {}

named_as : (name : List ℕ) (o : Option KnownExtension) → find_entry known_extensions name ≡ o → IsPrincipal name
    → IsExtensionType (known_or_other name o)
named_as name (Some k) found is = type_keeps k
named_as name None found is = (is, found)

-- The extension that a short text stands for is one.
pub named_keeps : (name : List ℕ) → IsPrincipal name → IsExtensionType (extension_named name)
named_keeps name is = named_as name (find_entry known_extensions name) refl is

-- a name that is kept is a short text, and no known one
pub other_keeps : (t : SshExtensionType) (name : List ℕ) → t ≡ extensions.Other name → length name < 2 ^ 32 → IsUtf8 name
    → find_entry known_extensions name ≡ None → IsExtensionType t
other_keeps t name is short utf8 other =
    subst IsExtensionType (sym is) (record { short = short; utf8 = utf8 }, other)

pub ruleset extension_laws = (name_names, name_is_kept)
