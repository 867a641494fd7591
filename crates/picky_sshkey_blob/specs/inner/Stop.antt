-- Words of private contracts: where the readers of a private key's blob stop.
use Rattle.picky_wire_base.specs.Flaw.{Reason, Flawed, Length, Magic, Name, Number}
use Rattle.std.specs.Prelude.{◌==◌, if◌then◌else◌}
use Rattle.picky_wire.specs.declared.stop.Stop.{Stop}
use Rattle.picky_wire.specs.declared.stop.Stop.TheVariants as stops
use Rattle.picky_wire.specs.Flaws.{flaw_stop}

-- a reason as a stop; no blob has a magic, so that stop is the one of Ed25519's secret, which is field 2
abbrev pub secret_stop : Reason → Stop
secret_stop (i, Flawed flaw) = flaw_stop flaw
secret_stop (i, Length) = if i == 2 then stops.Magic else stops.Length
secret_stop (i, Magic) = stops.Length
secret_stop (i, Name name) = stops.Name
secret_stop (i, Number n) = stops.Number
