use Rattle.std.proofs.Common.{◌≡◌, subst}
use Rattle.std.specs.Prelude.{OnOk}
use Rattle.picky_suite.specs.Meanings.{Meanings}
use Rattle.picky_ask.proofs.TableLaws.{meant_is}
use Rattle.picky_ask.proofs.laws.what_answers_seal_is_what_was_answered.Goals as goal

pub returns-clause-sealed : goal.returns-clause-sealed
returns-clause-sealed g c = λ all.
    subst (λ (w : Meanings). OnOk c.seal_by.result (c.seal_by.new.block ≡ w.cbc_seal c.args.key.now c.args.iv.now c.args.block.now))
    (meant_is g.m c.args.table.now all) c.seal_by.ensures.sealed
