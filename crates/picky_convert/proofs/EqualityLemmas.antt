-- Two statuses are equal exactly where their contents are.
use Rattle.std.specs.Prelude.{◌≡◌, ◌↔◌, IsTrue}
use Rattle.std.proofs.Common.{rules, ap}
use Rattle.picky_target.specs.declared.error.ConvertError.{ConvertError}
use Rattle.picky_target.proofs.EqualityLaws.{convert_equal}
use Rattle.picky_convert.specs.contracts.error.StatusPartialEq.TheImpl as whole
use Rattle.picky_convert.specs.declared.error.Status.{Status}
use Rattle.picky_convert.specs.declared.error.Status.TheVariants as statuses

refused_equal : (e : ConvertError) (b : Status) → IsTrue (whole.ghosts.eq (statuses.Refused e) b) ↔ (statuses.Refused e ≡ b)
refused_equal e (statuses.Refused f) =
    let each = convert_equal e f in (λ equal. ap statuses.Refused (each.0 equal), λ same. each.1 (cc same))
refused_equal e b = (λ equal. cc equal, λ same. cc same)

-- each variant beside all, in turn: what is said of both at once takes a proof for each pair
pub status_equal : (a b : Status) → IsTrue (whole.ghosts.eq a b) ↔ (a ≡ b)
status_equal (statuses.Refused e) = refused_equal e
status_equal statuses.Done = search rules
status_equal statuses.Usage = search rules
status_equal statuses.ReadFault = search rules
status_equal statuses.WriteFault = search rules
status_equal statuses.OutsideFault = search rules
status_equal statuses.NoMemory = search rules
status_equal statuses.InputTooLong = search rules
status_equal statuses.InputNotUtf8 = search rules
