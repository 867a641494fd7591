-- Each entry stays beside its identity.
use Rattle.std.proofs.Common.{length, ap, arith}
use Rattle.picky_agent_state.proofs.EntryLemmas.{one_removed}
use Rattle.picky_agent_state.proofs.keyring.Keyring.remove.Goals as goal

pub invariant_of-self : goal.invariant_of-self
invariant_of-self c =
    one_removed c.self.inside.identities.items c.remove.new.self.items c.self.inside.entries.items c.remove-2.new.self.items c.args.place
    c.self.invariant (omega (arith, c.requires, ap length c.self.view_is)) c.remove.ensures.items c.remove-2.ensures.items
