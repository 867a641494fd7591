-- A conversion to a PuTTY private key file of version 3, without passphrases and fresh bytes.
use Rattle.std.specs.Prelude.{[], None}
use Rattle.picky.specs.Meanings.{plain}
use Rattle.picky.specs.Outside.{Outside}
use Rattle.picky.specs.Config.{default_config}
use Rattle.picky.specs.declared.convert.KeyTarget.{KeyTarget}
use Rattle.picky.specs.declared.convert.KeyTarget.TheVariants.{Ppk}
use Rattle.picky.specs.declared.putty.PpkVersionKey.TheVariants.{V3}
use Rattle.picky.specs.declared.putty.PpkLayout.TheVariants.{Number}

abbrev pub alone : Outside
alone = record { meanings = plain; pass_in = None; output = record { pass = None; fresh = [] } }

abbrev pub to_putty : KeyTarget
to_putty = Ppk V3 default_config Number
