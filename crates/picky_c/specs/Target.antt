-- What a key text is converted to, by number.
use Rattle.std.specs.Prelude.{◌==◌, ℕ, Option, None, Some, if◌then◌else◌}
use Rattle.picky_kv.specs.declared.PpkVersionKey.TheVariants.{V2, V3}
use Rattle.picky_ppk_parts.specs.Config.{default_config}
use Rattle.picky_ppk.specs.declared.layout.PpkLayout.TheVariants.{Number, Putty}
use Rattle.picky_target.specs.declared.target.KeyTarget.{KeyTarget}
use Rattle.picky_target.specs.declared.target.KeyTarget.TheVariants as targets
use Rattle.picky_target.specs.Drafts.{default_rounds}

-- OpenSSH's key is sealed with 16 rounds, and PuTTY's files with the default configuration; those of the last two numbers have PuTTY's own layout
abbrev pub target_numbered : ℕ → Option KeyTarget
target_numbered number =
    if number == 1 then Some (targets.OpenSsh default_rounds)
    else if number == 2 then Some (targets.Ppk V2 default_config Number)
    else if number == 3 then Some (targets.Ppk V3 default_config Number)
    else if number == 4 then Some targets.OpenSshPublic
    else if number == 5 then Some targets.PuttyPublic
    else if number == 6 then Some (targets.Ppk V2 default_config Putty)
    else if number == 7 then Some (targets.Ppk V3 default_config Putty)
    else None
