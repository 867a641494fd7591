-- What is left of bytes is bytes.
use Rattle.std.proofs.Common.{List, ℕ, Option, Some, None, refl, subst}
use Rattle.std.specs.Io.KnownBytes.{Consumes}
use Rattle.picky_wire_base.specs.Numbers.{IsBytes}
use Rattle.picky_wire_base.proofs.Numbers.{bytes_behind}
use Rattle.picky_wire.specs.Known.{TellsBytes}
use Rattle.picky_wire.proofs.std_io.StdSourceSource.read.Goals as goal

still_tells : (old new : Option (List ℕ)) (front : List ℕ) → Consumes old new front
    → TellsBytes old → TellsBytes new
still_tells None new front consumes tells = cc tells.0
still_tells (Some xs) None front consumes tells = absurd consumes
still_tells (Some xs) (Some ys) front consumes tells =
    (refl, bytes_behind front ys (subst IsBytes consumes tells.1))

pub returns-in-Ok-clause-keeps : goal.returns-in-Ok-clause-keeps
returns-in-Ok-clause-keeps g c = record {
  told = λ told. still_tells _ _ _ c.in-Ok.ensures.bytes.0 told;
  counted = tt;
  calm = refl;
}
