-- The options that say whose keys a line is for.
use Rattle.std.proofs.Common.{◌≡◌, ◌<◌, ◌≤◌, true, false, List, refl}
use Rattle.std.proofs.lemmas.Bool.{lt-leb, le-leb}
use Rattle.std.specs.List.{list_all}
use Rattle.std.specs.Prelude.{nat_le}
use Rattle.picky_authorized.specs.declared.auth_option.AuthOption.{AuthOption}
use Rattle.picky_authorized.specs.KnownOptions.{are_fit, cert_authority, is_fit, named_count, principals}

-- an option doesn't fit
pub one_unfit : (options : List AuthOption) → list_all is_fit options ≡ false → false ≡ are_fit options
unfolding are_fit
one_unfit options other = rw other refl

-- one of the two stands twice
pub authority_twice : (options : List AuthOption) → list_all is_fit options ≡ true
    → 1 < named_count cert_authority options → false ≡ are_fit options
unfolding are_fit
authority_twice options fit twice = rw (fit, lt-leb (named_count cert_authority options) 1 twice) refl

-- all depends on the other
pub principals_decide : (options : List AuthOption) → list_all is_fit options ≡ true
    → named_count cert_authority options ≤ 1 → nat_le (named_count principals options) 1 ≡ are_fit options
unfolding are_fit
principals_decide options fit once = rw (fit, le-leb (named_count cert_authority options) 1 once) refl

pub ruleset fits = (one_unfit, authority_twice, principals_decide)
