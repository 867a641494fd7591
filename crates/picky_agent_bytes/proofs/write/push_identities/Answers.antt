-- One message more.
use Rattle.picky_agent_bytes.proofs.WriteLemmas.{are_more, framed_more, one_too_long}
use Rattle.picky_agent_bytes.proofs.write.push_identities.Goals as goal

pub identities-preserved : goal.identities-preserved
identities-preserved c =
    let xs = c.args.identities.now in
    let i = c.identities.identity-index in
    let x = c.identity-item.result in (
      framed_more xs i x c.args.out.now.items c.identities.out.items c.push_identity.new.out.items c.identities-test.true
          c.identity-item.is c.identities.invariant.0 c.in-Ok.ensures.ok,
      are_more xs i x c.identities-test.true c.identity-item.is c.identities.invariant.1 c.push_identity.ensures.is,
    )

pub returns-in-Err-clause-too_long_only_if_long : goal.returns-in-Err-clause-too_long_only_if_long
returns-in-Err-clause-too_long_only_if_long c = λ is.
    one_too_long c.args.identities.now c.identities.identity-index c.identity-item.result c.identities-test.true c.identity-item.is
    (c.in-Err.ensures.too_long_only_if_long is)
