-- The entry goes behind those that there are.
use Rattle.picky_ledger.specs.State.{State}
use Rattle.picky_ledger.proofs.StateLemmas.{entered_is_ledger}
use Rattle.picky_ledger.proofs.ledger.Ledger.add.Goals as goal

pub invariant_of-self : goal.invariant_of-self
invariant_of-self c =
    let l : State = record { next = c.self.inside.next; entries = c.self.inside.entries } in
    entered_is_ledger c.args.self.now l c.in-Ok.entry c.args.certificate c.args.line.now c.push.new.self c.self.view_is
    c.self.invariant c.in-Ok.ensures c.in-Ok-push.ensures.ok c.requires.entry c.requires.serial c.requires.new c.requires.room
