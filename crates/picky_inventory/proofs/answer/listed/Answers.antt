-- A part that isn't read, as the run's status.
use Rattle.std.proofs.Common.{Err, ◌∙◌, ap}
use Rattle.picky_wire.specs.Count.{Rose}
use Rattle.picky_inventory.specs.Run.{reader}
use Rattle.picky_inventory.proofs.RunLemmas.{fault_status, listed_gives}
use Rattle.picky_inventory.proofs.answer.listed.Goals as goal

pub returns-in-Err-clause-gives : goal.returns-in-Err-clause-gives
returns-in-Err-clause-gives g c =
    listed_gives (reader (g.S.Suite.meanings c.args.suite.now) c.args.pass) c.args.text.now
    (Rose (g.S.Suite.faults c.args.suite.now) (g.S.Suite.faults c.list_text.new.suite)) c.in-Err.unread.part c.in-Err.unread.error
    c.unread_status.result c.unread_status.ensures c.in-Err.ensures.gives

pub returns-in-Err-clause-suite : goal.returns-in-Err-clause-suite
returns-in-Err-clause-suite g c = record {
  kept = c.in-Err.ensures.kept;
  calm = λ other. c.in-Err.ensures.calm_unless_fault
      (λ fault. other (ap Err (c.unread_status.ensures ∙ fault_status c.in-Err.unread.part c.in-Err.unread.error fault)));
  unasked = c.in-Err.ensures.unasked;
}
