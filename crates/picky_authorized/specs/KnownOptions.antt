-- The two options that say whose keys a line is for (sshd(8), "cert-authority" and "principals").
use Rattle.std.specs.Prelude.{◌&&◌, ℕ, Bool, true, List, codes, bytes_eq, count_by, is_none, is_some, nat_le, if◌then◌else◌}
use Rattle.std.specs.List.{list_all}
use Rattle.picky_authorized.specs.declared.auth_option.AuthOption.{AuthOption}

-- the key is that of an authority
unfoldable pub cert_authority : List ℕ
cert_authority = codes "cert-authority"

-- the names that a certificate of the authority may be for
unfoldable pub principals : List ℕ
principals = codes "principals"

-- the option has the name
abbrev pub is_named : (name : List ℕ) → AuthOption → Bool
is_named name o = bytes_eq o.name name

-- how many do
abbrev pub named_count : (name : List ℕ) → List AuthOption → ℕ
named_count name options = count_by (is_named name) options

-- `cert-authority` has no value, and `principals` has one
abbrev pub is_fit : AuthOption → Bool
is_fit o =
    if is_named cert_authority o then is_none o.value
    else if is_named principals o then is_some o.value
    else true

-- so it is with each option of a line, and neither of the two stands twice
unfoldable pub are_fit : List AuthOption → Bool
are_fit options =
    list_all is_fit options && nat_le (named_count cert_authority options) 1 && nat_le (named_count principals options) 1
