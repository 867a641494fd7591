-- The messages of the identities, and that of the lock.
use Rattle.picky_agent_bytes.proofs.WrittenLemmas.{gives_written, is_locked_state, is_open_state, locked_state, long_identities, long_lock, open_state, written_reads}
use Rattle.picky_agent_bytes.proofs.write.write_agent.Goals as goal

pub returns-in-Err-clause-gives : goal.returns-in-Err-clause-gives
returns-in-Err-clause-gives c =
    long_identities c.args.agent.now c.identities.result.now c.in-Err.e c.identities.ensures.all c.in-Err.ensures.too_long_only_if_long

pub returns-in-Err-push_lock-clause-gives : goal.returns-in-Err-push_lock-clause-gives
returns-in-Err-push_lock-clause-gives c =
    long_lock c.args.agent.now c.in-Some.pass.now c.in-Err-push_lock.e c.in-Some.ensures c.in-Err-push_lock.ensures.too_long_only_if_long

pub returns-in-Ok-push_lock-clause-gives : goal.returns-in-Ok-push_lock-clause-gives
returns-in-Ok-push_lock-clause-gives c =
    let is = locked_state c.args.agent.now c.identities.result.now c.in-Some.pass.now c.new-out.result.items c.push_identities.new.out.items
    c.push_lock.new.out.items c.identities.ensures.all c.in-Some.ensures c.new-out.ensures.items c.in-Ok.ensures.ok
    c.in-Ok-push_lock.ensures.ok in
    gives_written (λ x. x.items) c.args.agent.now c.push_lock.new.out.items c.within_limit.result is c.within_limit.ensures

pub returns-in-Ok-push_lock-clause-read : goal.returns-in-Ok-push_lock-clause-read
returns-in-Ok-push_lock-clause-read c =
    let is = locked_state c.args.agent.now c.identities.result.now c.in-Some.pass.now c.new-out.result.items c.push_identities.new.out.items
    c.push_lock.new.out.items c.identities.ensures.all c.in-Some.ensures c.new-out.ensures.items c.in-Ok.ensures.ok
    c.in-Ok-push_lock.ensures.ok in
    written_reads (λ x. x.items) c.args.agent.now c.push_lock.new.out.items c.within_limit.result
    (is_locked_state c.args.agent.now c.identities.result.now c.in-Some.pass.now c.identities.ensures.all c.identities.ensures.few
    c.in-Ok.ensures.are c.in-Some.ensures c.in-Ok-push_lock.ensures.short) is c.within_limit.ensures

pub returns-in-None-clause-gives : goal.returns-in-None-clause-gives
returns-in-None-clause-gives c =
    let is = open_state c.args.agent.now c.identities.result.now c.new-out.result.items c.push_identities.new.out.items
    c.identities.ensures.all c.in-None.ensures c.new-out.ensures.items c.in-Ok.ensures.ok in
    gives_written (λ x. x.items) c.args.agent.now c.push_identities.new.out.items c.within_limit-in-None.result is c.within_limit-in-None.ensures

pub returns-in-None-clause-read : goal.returns-in-None-clause-read
returns-in-None-clause-read c =
    let is = open_state c.args.agent.now c.identities.result.now c.new-out.result.items c.push_identities.new.out.items
    c.identities.ensures.all c.in-None.ensures c.new-out.ensures.items c.in-Ok.ensures.ok in
    written_reads (λ x. x.items) c.args.agent.now c.push_identities.new.out.items c.within_limit-in-None.result
    (is_open_state c.args.agent.now c.identities.result.now c.identities.ensures.all c.identities.ensures.few c.in-Ok.ensures.are
    c.in-None.ensures) is c.within_limit-in-None.ensures
