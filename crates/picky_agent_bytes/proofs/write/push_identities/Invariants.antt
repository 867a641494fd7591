-- The messages so far, each of an identity.
use Rattle.std.proofs.Common.{◌≡◌, ◌++◌, take}
use Rattle.std.specs.Prelude.{All, flat_map}
use Rattle.picky_agent_bytes.specs.IsState.{IsIdentity}
use Rattle.picky_agent_bytes.specs.State.{framed}
use Rattle.picky_agent_bytes.proofs.write.push_identities.Given as goal

abbrev pub invariant-identities : goal.invariant-identities
invariant-identities l =
    (l.out.items ≡ l.initial.out.items ++ flat_map framed (take l.identity-index l.identities))
    × All IsIdentity (take l.identity-index l.identities)
