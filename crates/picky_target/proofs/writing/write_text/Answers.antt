use Rattle.std.proofs.Common.{inr, refl}
use Rattle.std.specs.Option.{option_copied}
use Rattle.picky_target.specs.declared.error.ConvertError.TheVariants as errors
use Rattle.picky_target.specs.Output.{Output}
use Rattle.picky_target.proofs.WrittenLemmas.{gives_as, leaves_as, gives_unasked, written_openssh, written_ppk}
use Rattle.picky_target.proofs.WrittenLemmas.{openssh_wants_private, ppk_wants_private, line_is_written, putty_is_written}
use Rattle.picky_target.proofs.writing.write_text.Goals as goal

pub returns-in-Private-clause-gives : goal.returns-in-Private-clause-gives
returns-in-Private-clause-gives g c =
    let is = written_openssh (g.S.Suite.meanings c.args.suite.now) (option_copied c.args.pass) c.args.fresh.now c.args.target c.in-OpenSsh.rounds
    c.args.meaning c.in-Private.key c.as_str.result.now c.in-OpenSsh.is c.in-Private.is c.as_str.ensures.bytes in
    gives_as _ _ _ _ _ _ _ errors.NoMemory (λ text. text) c.write_envelope.result _ is c.write_envelope.ensures.gives

pub returns-in-Private-clause-suite : goal.returns-in-Private-clause-suite
returns-in-Private-clause-suite g c =
    let is = written_openssh (g.S.Suite.meanings c.args.suite.now) (option_copied c.args.pass) c.args.fresh.now c.args.target c.in-OpenSsh.rounds
    c.args.meaning c.in-Private.key c.as_str.result.now c.in-OpenSsh.is c.in-Private.is c.as_str.ensures.bytes in
    leaves_as _ _ _ _ _ _ _ _ _ c.write_envelope.result _ _ is c.write_envelope.ensures.suite

pub returns-in-OpenSsh-clause-gives : goal.returns-in-OpenSsh-clause-gives
returns-in-OpenSsh-clause-gives g c = inr (inr (openssh_wants_private _ _ _ c.in-OpenSsh.rounds _ c.in-Public.key c.in-OpenSsh.is c.in-Public.is))

pub returns-in-Private-key-clause-gives : goal.returns-in-Private-key-clause-gives
returns-in-Private-key-clause-gives g c =
    let is = written_ppk (g.S.Suite.meanings c.args.suite.now) (option_copied c.args.pass) c.args.fresh.now c.args.target c.in-Ppk.version
    c.in-Ppk.config c.in-Ppk.layout c.args.meaning c.in-Private-key.key c.args.meaning.comment c.in-Ppk.is c.in-Private-key.is refl in
    gives_as _ _ _ _ _ _ _ errors.NoMemory (λ text. text) c.write_file-text.result _ is c.write_file-text.ensures.gives

pub returns-in-Private-key-clause-suite : goal.returns-in-Private-key-clause-suite
returns-in-Private-key-clause-suite g c =
    let is = written_ppk (g.S.Suite.meanings c.args.suite.now) (option_copied c.args.pass) c.args.fresh.now c.args.target c.in-Ppk.version
    c.in-Ppk.config c.in-Ppk.layout c.args.meaning c.in-Private-key.key c.args.meaning.comment c.in-Ppk.is c.in-Private-key.is refl in
    leaves_as _ _ _ _ _ _ _ _ _ c.write_file-text.result _ _ is c.write_file-text.ensures.suite

pub returns-in-Ppk-clause-gives : goal.returns-in-Ppk-clause-gives
returns-in-Ppk-clause-gives g c =
    inr (inr (ppk_wants_private _ _ _ c.in-Ppk.version c.in-Ppk.config c.in-Ppk.layout _ c.in-Public-key.key c.in-Ppk.is c.in-Public-key.is))

pub returns-in-OpenSshPublic-clause-gives : goal.returns-in-OpenSshPublic-clause-gives
returns-in-OpenSshPublic-clause-gives g c =
    let m = g.S.Suite.meanings c.args.suite.now in
    let out : Output = record { pass = option_copied c.args.pass; fresh = c.args.fresh.now } in
    let is = line_is_written m out c.args.target c.args.meaning c.public_key.result c.in-OpenSshPublic.is c.public_key.ensures in
    gives_unasked errors.NoMemory _ (λ text. text) c.write_line.result _ _ _ _ is c.write_line.ensures

pub returns-clause-gives : goal.returns-clause-gives
returns-clause-gives g c =
    let m = g.S.Suite.meanings c.args.suite.now in
    let out : Output = record { pass = option_copied c.args.pass; fresh = c.args.fresh.now } in
    let is = putty_is_written m out c.args.target c.args.meaning
    c.public_key-in-PuttyPublic.result c.in-PuttyPublic.is c.public_key-in-PuttyPublic.ensures in
    gives_unasked errors.NoMemory _ (λ text. text) c.write_putty.result _ _ _ _ is c.write_putty.ensures
