-- What each arm's call says, as a step.
use Rattle.std.proofs.Common.{subst}
use Rattle.picky_keys.specs.View.{key_seen}
use Rattle.picky_sshkey_blob.specs.View.{private_key_seen}
use Rattle.picky_agent_state.specs.declared.identity.Identity.{Identity}
use Rattle.picky_agent_state.specs.Kept.{Kept, machine}
use Rattle.picky_agent_state.specs.Request.{Request, Identities, Sign, Add, Remove, RemoveAll, Lock, Unlock, Unfit, sign_request}
use Rattle.picky_agent_state.specs.Rows.{Adds, Fails, Lists, Locks, Removes, RemovesAll, Unlocks}
use Rattle.picky_agent_state.specs.Step.{AsksSigner}
use Rattle.picky_agent_state.proofs.StepLemmas.{fails, stays, steps}
use Rattle.picky_agent_state.proofs.agent.Agent.answer.Goals as goal

pub returns-in-Identities-clause-step : goal.returns-in-Identities-clause-step
returns-in-Identities-clause-step g c =
    let kept = c.args.self.now in
    let faults = g.G.Signer.faults c.args.signer.now in
    steps (g.G.Signer.signs c.args.signer.now) (machine kept faults) (machine kept faults) Identities c.args.message.now c.list.result
    c.in-Identities.ensures.request (stays kept kept faults Lists c.list.result c.list.ensures)

pub returns-in-Sign-clause-step : goal.returns-in-Sign-clause-step
returns-in-Sign-clause-step g c =
    let kept = c.args.self.now in
    steps (g.G.Signer.signs c.args.signer.now) (machine kept (g.G.Signer.faults c.args.signer.now))
    (machine kept (g.G.Signer.faults c.sign.new.signer))
    (Sign (sign_request (key_seen c.in-Sign.key) c.in-Sign.message.now c.in-Sign.flags)) c.args.message.now c.sign.result
    c.in-Sign.ensures.request c.sign.ensures.asks

pub returns-in-Sign-clause-unasked : goal.returns-in-Sign-clause-unasked
returns-in-Sign-clause-unasked g c = λ never.
    c.sign.ensures.unasked (λ can. never (subst (λ (q : Request). AsksSigner c.args.self.now q) c.in-Sign.ensures.request can))

pub returns-in-Add-clause-step : goal.returns-in-Add-clause-step
returns-in-Add-clause-step g c =
    let faults = g.G.Signer.faults c.args.signer.now in
    let added : Identity = record { key = private_key_seen c.in-Add.key; comment = c.in-Add.comment.now } in
    steps (g.G.Signer.signs c.args.signer.now) (machine c.args.self.now faults) (machine c.add.new.self faults) (Add added)
    c.args.message.now c.add.result c.in-Add.ensures.request
    (stays c.args.self.now c.add.new.self faults (λ (before : Kept). Adds before added) c.add.result c.add.ensures.row)

pub returns-in-Remove-clause-step : goal.returns-in-Remove-clause-step
returns-in-Remove-clause-step g c =
    let faults = g.G.Signer.faults c.args.signer.now in
    let key = key_seen c.in-Remove.key in
    steps (g.G.Signer.signs c.args.signer.now) (machine c.args.self.now faults) (machine c.remove.new.self faults) (Remove key)
    c.args.message.now c.remove.result c.in-Remove.ensures.request
    (stays c.args.self.now c.remove.new.self faults (λ (before : Kept). Removes before key) c.remove.result c.remove.ensures.row)

pub returns-in-RemoveAll-clause-step : goal.returns-in-RemoveAll-clause-step
returns-in-RemoveAll-clause-step g c =
    let faults = g.G.Signer.faults c.args.signer.now in
    steps (g.G.Signer.signs c.args.signer.now) (machine c.args.self.now faults) (machine c.remove_all.new.self faults) RemoveAll
    c.args.message.now c.remove_all.result c.in-RemoveAll.ensures.request
    (stays c.args.self.now c.remove_all.new.self faults RemovesAll c.remove_all.result c.remove_all.ensures.row)

pub returns-in-Lock-clause-step : goal.returns-in-Lock-clause-step
returns-in-Lock-clause-step g c =
    let faults = g.G.Signer.faults c.args.signer.now in
    let pass = c.in-Lock.pass.now in
    steps (g.G.Signer.signs c.args.signer.now) (machine c.args.self.now faults) (machine c.lock.new.self faults) (Lock pass)
    c.args.message.now c.lock.result c.in-Lock.ensures.request
    (stays c.args.self.now c.lock.new.self faults (λ (before : Kept). Locks before pass) c.lock.result c.lock.ensures.row)

pub returns-in-Unlock-clause-step : goal.returns-in-Unlock-clause-step
returns-in-Unlock-clause-step g c =
    let faults = g.G.Signer.faults c.args.signer.now in
    let pass = c.in-Unlock.pass.now in
    steps (g.G.Signer.signs c.args.signer.now) (machine c.args.self.now faults) (machine c.unlock.new.self faults) (Unlock pass)
    c.args.message.now c.unlock.result c.in-Unlock.ensures.request
    (stays c.args.self.now c.unlock.new.self faults (λ (before : Kept). Unlocks before pass) c.unlock.result c.unlock.ensures.row)

pub returns-in-Unfit-clause-step : goal.returns-in-Unfit-clause-step
returns-in-Unfit-clause-step g c =
    let kept = c.args.self.now in
    let faults = g.G.Signer.faults c.args.signer.now in
    steps (g.G.Signer.signs c.args.signer.now) (machine kept faults) (machine kept faults) Unfit c.args.message.now c.failure.result
    c.in-Unfit.ensures.request (stays kept kept faults Fails c.failure.result (fails kept c.failure.result c.failure.ensures))
