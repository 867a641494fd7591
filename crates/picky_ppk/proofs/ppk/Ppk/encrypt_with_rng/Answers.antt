-- What was drawn seals the file.
use Rattle.std.proofs.Common.{◌∙◌, ap, sym, subst}
use Rattle.picky_suite.specs.Asked.{LeavesSuite}
use Rattle.picky_ppk_parts.specs.declared.error.PuttyError.TheVariants as errors
use Rattle.picky_ppk.specs.Fresh.{can_draw}
use Rattle.picky_ppk.proofs.FreshLemmas.{fresh_gives, fresh_asks, fresh_given}
use Rattle.picky_ppk.proofs.ppk.Ppk.encrypt_with_rng.Goals as goal

pub returns-in-Ok-fresh-clause-gives : goal.returns-in-Ok-fresh-clause-gives
returns-in-Ok-fresh-clause-gives g c =
    let can = ap (can_draw c.args.passphrase.now c.args.config) (sym c.file.ensures) ∙ c.in-Ok.ensures.ok in
    let drawn = fresh_given c.args.config c.args.self.now (g.R.Rng.stream c.args.rng.now) _ _ _ _ _
    c.as_slice.ensures.value c.as_slice-in-Ok-fresh.ensures.value c.in-Ok-fresh.ensures.drawn in
    fresh_gives _ c.encrypt.result _ (g.S.Suite.meanings c.args.suite.now) c.args.passphrase.now c.args.config
    c.args.self.now (g.R.Rng.stream c.args.rng.now) _ _ _ can drawn c.encrypt.ensures.gives

pub returns-in-Ok-fresh-clause-suite : goal.returns-in-Ok-fresh-clause-suite
returns-in-Ok-fresh-clause-suite g c =
    let can = ap (can_draw c.args.passphrase.now c.args.config) (sym c.file.ensures) ∙ c.in-Ok.ensures.ok in
    let drawn = fresh_given c.args.config c.args.self.now (g.R.Rng.stream c.args.rng.now) _ _ _ _ _
    c.as_slice.ensures.value c.as_slice-in-Ok-fresh.ensures.value c.in-Ok-fresh.ensures.drawn in
    let asks = fresh_asks c.args.passphrase.now c.args.config c.args.self.now (g.R.Rng.stream c.args.rng.now) _ _ _
    can drawn in
    subst (λ asked. LeavesSuite g.S.Suite.meanings g.S.Suite.faults errors.SuiteFault asked c.encrypt.result
    c.args.suite.now c.encrypt.new.suite) (sym asks) c.encrypt.ensures.suite
