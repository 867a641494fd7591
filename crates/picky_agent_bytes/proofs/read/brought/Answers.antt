-- The messages are taken one after another.
use Rattle.std.proofs.Common.{◌∙◌, sym, ap, inl, inr, arith}
use Rattle.picky_wire_base.specs.Outcome.{map_err}
use Rattle.picky_agent_bytes.specs.State.{keep_refusal}
use Rattle.picky_agent_bytes.proofs.StateLemmas.{brought_cut, brought_more, brought_none, brought_not}
use Rattle.picky_agent_bytes.proofs.read.brought.Goals as goal

pub messages-preserved : goal.messages-preserved
messages-preserved c =
    let found = c.in-Ok.found in (
      omega (arith, c.messages.invariant.0, c.in-Ok.ensures.shorter),
      sym (brought_more c.messages.agent c.keep.new.self c.messages.rest.now found.0.now found.1.now c.messages-test.true
          c.in-Ok.ensures.gives (ap (map_err keep_refusal) c.in-Ok-keep.ensures.ok))
          ∙ c.messages.invariant.1,
    )

pub returns-in-Err : goal.returns-in-Err
returns-in-Err c =
    elim c.in-Err.ensures.gives [
      | inl want ↦ inl want
      | inr cut ↦ inr (sym c.messages.invariant.1
          ∙ brought_cut c.messages.agent c.messages.rest.now c.in-Err.e c.messages-test.true cut)
    ]

pub returns-in-Err-keep : goal.returns-in-Err-keep
returns-in-Err-keep c =
    let found = c.in-Ok.found in
    elim c.in-Err-keep.ensures.err [
      | inl want ↦ inl (c.keep_refusal.ensures ∙ ap keep_refusal want)
      | inr refused ↦ inr (sym c.messages.invariant.1
          ∙ brought_not c.messages.agent c.messages.rest.now found.0.now found.1.now c.in-Err-keep.e c.keep_refusal.result
          c.keep_refusal.ensures c.messages-test.true c.in-Ok.ensures.gives refused)
    ]

pub returns : goal.returns
returns c =
    sym c.messages.invariant.1 ∙ brought_none c.messages.agent c.messages.rest.now (omega arith)
