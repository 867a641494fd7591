-- The new entry goes beside its identity.
use Rattle.picky_agent_state.proofs.EntryLemmas.{one_replaced}
use Rattle.picky_agent_state.proofs.keyring.Keyring.replace.Goals as goal

pub invariant_of-self : goal.invariant_of-self
invariant_of-self c =
    one_replaced c.self.inside.identities.items c.self.inside.entries.items c.args.place c.args.identity c.in-Ok.entry c.self.invariant
    c.in-Ok.ensures
