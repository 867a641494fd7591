-- What refuses an envelope refuses the text.
use Rattle.std.specs.Option.{option_copied}
use Rattle.picky_wire.specs.Count.{Rose}
use Rattle.picky_key_text.proofs.EnvelopeLemmas.{envelope_refused}
use Rattle.picky_key_text.proofs.reading.read_as.Goals as goal

pub returns-in-Err-clause-gives : goal.returns-in-Err-clause-gives
returns-in-Err-clause-gives g c =
    envelope_refused c.args.form (g.S.Suite.meanings c.args.suite.now) (option_copied c.args.pass) c.args.input.now c.in-Err.e
    c.envelope_refusal.result (Rose (g.S.Suite.faults c.args.suite.now) (g.S.Suite.faults c.base_key_from_pem_str.new.suite))
    c.in-Envelope.is c.envelope_refusal.ensures c.in-Err.ensures.gives
