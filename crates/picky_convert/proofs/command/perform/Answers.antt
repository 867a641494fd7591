-- What the command answers to the text, as the status of a run.
use Rattle.std.proofs.Common.{Global, Err, ap, ◌∙◌}
use Rattle.std.specs.Prelude.{string_bytes}
use Rattle.picky_conversion.specs.Outside.{outside}
use Rattle.picky_convert.proofs.OutcomeLemmas.{done_leaves, outcome_no_text, refused_comes, refused_leaves, text_comes, untouched_devices}
use Rattle.picky_convert.proofs.command.perform.Goals as goal

pub returns-in-Ok-clause-comes : goal.returns-in-Ok-clause-comes
returns-in-Ok-clause-comes g c =
    let o = outside (g.S.Suite.meanings c.args.suite.now) c.args.given in
    let text = c.in-Some.ensures in
    text_comes (g.G.Signer.signs c.args.signer.now) o c.args.command c.args.input.now _ c.requires text.1
    (rw text.0 at c.in-Ok.ensures.gives)

pub returns-in-Ok-clause-devices : goal.returns-in-Ok-clause-devices
returns-in-Ok-clause-devices g c =
    let o = outside (g.S.Suite.meanings c.args.suite.now) c.args.given in
    let text = c.in-Some.ensures in
    done_leaves g.S.Suite.meanings g.S.Suite.faults g.G.Signer.signs g.G.Signer.faults o c.args.command c.args.input.now c.in-Ok.text _ _ _ _ _
    c.requires text.1
    (rw text.0 at c.in-Ok.ensures.suite) (rw text.0 at c.in-Ok.ensures.signer)

pub returns-in-Err-clause-comes : goal.returns-in-Err-clause-comes
returns-in-Err-clause-comes g c =
    let o = outside (g.S.Suite.meanings c.args.suite.now) c.args.given in
    let text = c.in-Some.ensures in
    rw c.status_of.ensures
    (refused_comes (g.G.Signer.signs c.args.signer.now) (string_bytes {Z = Global}) (string_bytes {Z = Global}) o c.args.command c.args.input.now _ _ _ c.in-Err.e c.requires text.1 (rw text.0 at c.in-Err.ensures.gives))

pub returns-in-Err-clause-devices : goal.returns-in-Err-clause-devices
returns-in-Err-clause-devices g c =
    let o = outside (g.S.Suite.meanings c.args.suite.now) c.args.given in
    let text = c.in-Some.ensures in
    refused_leaves g.S.Suite.meanings g.S.Suite.faults g.G.Signer.signs g.G.Signer.faults o c.args.command c.args.input.now c.in-Err.e _ _ _ _ _
    (λ is. ap Err (c.status_of.ensures ∙ is)) c.requires text.1
    (rw text.0 at c.in-Err.ensures.suite) (rw text.0 at c.in-Err.ensures.signer)

pub returns-in-None-clause-comes : goal.returns-in-None-clause-comes
returns-in-None-clause-comes g c =
    let o = outside (g.S.Suite.meanings c.args.suite.now) c.args.given in
    outcome_no_text o c.args.command c.args.input.now c.requires c.in-None.ensures

pub returns-in-None-clause-devices : goal.returns-in-None-clause-devices
returns-in-None-clause-devices g c =
    untouched_devices g.S.Suite.meanings g.S.Suite.faults g.G.Signer.signs g.G.Signer.faults _ _ _ c.args.suite.now c.args.signer.now
