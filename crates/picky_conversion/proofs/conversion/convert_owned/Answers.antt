-- By the target.
use Rattle.std.proofs.Common.{ap}
use Rattle.picky_wire.specs.Count.{Rose}
use Rattle.picky_ppk.specs.declared.layout.PpkLayout.TheVariants as layouts
use Rattle.picky_target.specs.declared.target.KeyTarget.TheVariants as keys
use Rattle.picky_target.specs.Drafts.{default_rounds}
use Rattle.picky_conversion.specs.To.{way_to}
use Rattle.picky_conversion.specs.Outside.{outside}
use Rattle.picky_conversion.proofs.ToLemmas.{key_converted}
use Rattle.picky_conversion.proofs.conversion.convert_owned.Goals as goal

pub returns-in-OpenSsh-clause-gives : goal.returns-in-OpenSsh-clause-gives
returns-in-OpenSsh-clause-gives g c =
    let o = outside (g.S.Suite.meanings c.args.suite.now) c.args.given in
    key_converted (g.G.Signer.signs c.args.signer.now) o c.args.target (keys.OpenSsh default_rounds) c.args.input.now
    (Rose (g.S.Suite.faults c.args.suite.now) (g.S.Suite.faults c.convert_key.new.suite)) _ c.convert_key.result (ap way_to c.in-OpenSsh.is)
    c.convert_key.ensures.gives

pub returns-in-Ppk-clause-gives : goal.returns-in-Ppk-clause-gives
returns-in-Ppk-clause-gives g c =
    let o = outside (g.S.Suite.meanings c.args.suite.now) c.args.given in
    key_converted (g.G.Signer.signs c.args.signer.now) o c.args.target (keys.Ppk c.in-Ppk.version c.in-Ppk.config layouts.Number) c.args.input.now
    (Rose (g.S.Suite.faults c.args.suite.now) (g.S.Suite.faults c.convert_key-in-Ppk.new.suite)) _ c.convert_key-in-Ppk.result (ap way_to c.in-Ppk.is)
    c.convert_key-in-Ppk.ensures.gives

pub returns-in-OpenSshPublic-clause-gives : goal.returns-in-OpenSshPublic-clause-gives
returns-in-OpenSshPublic-clause-gives g c =
    let o = outside (g.S.Suite.meanings c.args.suite.now) c.args.given in
    key_converted (g.G.Signer.signs c.args.signer.now) o c.args.target keys.OpenSshPublic c.args.input.now
    (Rose (g.S.Suite.faults c.args.suite.now) (g.S.Suite.faults c.convert_key-in-OpenSshPublic.new.suite)) _ c.convert_key-in-OpenSshPublic.result (ap way_to c.in-OpenSshPublic.is)
    c.convert_key-in-OpenSshPublic.ensures.gives

pub returns-in-PuttyPublic-clause-gives : goal.returns-in-PuttyPublic-clause-gives
returns-in-PuttyPublic-clause-gives g c =
    let o = outside (g.S.Suite.meanings c.args.suite.now) c.args.given in
    key_converted (g.G.Signer.signs c.args.signer.now) o c.args.target keys.PuttyPublic c.args.input.now
    (Rose (g.S.Suite.faults c.args.suite.now) (g.S.Suite.faults c.convert_key-in-PuttyPublic.new.suite)) _ c.convert_key-in-PuttyPublic.result (ap way_to c.in-PuttyPublic.is)
    c.convert_key-in-PuttyPublic.ensures.gives
