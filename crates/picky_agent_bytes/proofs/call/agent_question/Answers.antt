-- The question of the identity that stands there.
use Rattle.std.proofs.Common.{◌∙◌, List, ap, get_or, inl, inr, refl}
use Rattle.picky_sshkey_blob.specs.Key.{public_part}
use Rattle.picky_agent_state.specs.declared.identity.Identity.{Identity}
use Rattle.picky_agent_state.specs.Request.{request_of}
use Rattle.picky_agent_bytes.specs.Call.{question_of}
use Rattle.picky_agent_bytes.proofs.CallLemmas.{long_question, question_asked}
use Rattle.picky_agent_bytes.proofs.call.agent_question.Goals as goal

pub returns-in-Ok-question_bytes-clause-ok : goal.returns-in-Ok-question_bytes-clause-ok
returns-in-Ok-question_bytes-clause-ok c =
    let held = c.index-identities-question.result in record {
      kept = c.in-Ok.agent;
      holds = c.in-Ok.ensures.gives;
      asked = inl (question_asked c.in-Ok.agent (request_of c.args.message.now) c.in-Some.question held
          c.in-Ok-question_bytes.bytes.items c.in-Some.ensures
          (c.index-identities-question.is
          ∙ ap (λ (xs : List Identity). get_or xs c.in-Some.question.place held) c.identities.ensures.all)
          c.in-Ok-question_bytes.ensures.ok);
    }

pub returns-in-Some-clause-err : goal.returns-in-Some-clause-err
returns-in-Some-clause-err c =
    let held = c.index-identities-question.result in
    let question = c.in-Some.question in
    let key = public_part held.key in
    let message = question.message.now in
    elim c.in-Err-question_bytes.ensures.err [
      | inl want ↦ inl want
      | inr long ↦ inr (inl (
        long.0,
        record {
          kept = c.in-Ok.agent;
          holds = c.in-Ok.ensures.gives;
          bytes = question_of key question.place question.algorithm question.format message;
          asked = question_asked c.in-Ok.agent (request_of c.args.message.now) question held
              (question_of key question.place question.algorithm question.format message) c.in-Some.ensures
              (c.index-identities-question.is
              ∙ ap (λ (xs : List Identity). get_or xs question.place held) c.identities.ensures.all)
              refl;
          long = long_question key question.place question.algorithm question.format message long.1;
        },
      ))
    ]
