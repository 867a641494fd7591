-- Words of private contracts of readers, here and in the crates above: why a reading stops.
use Rattle.picky_wire_base.specs.Flaw.{Why, Reason, Flawed, Length, Magic, Name, Number}
use Rattle.picky_wire.specs.declared.stop.Stop.{Stop}
use Rattle.picky_wire.specs.declared.stop.Stop.TheVariants as stops
use Rattle.picky_wire.specs.Flaws.{flaw_stop}

abbrev pub why_stop : Why → Stop
why_stop (Flawed flaw) = flaw_stop flaw
why_stop Length = stops.Length
why_stop Magic = stops.Magic
why_stop (Name name) = stops.Name
why_stop (Number n) = stops.Number

abbrev pub stop_of : Reason → Stop
stop_of reason = why_stop reason.1
