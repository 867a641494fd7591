-- A signature that fits is refused for its length alone.
use Rattle.picky_cert.proofs.WrittenLemmas.{long_total}
use Rattle.picky_cert.proofs.written.push_signature.Goals as goal

pub returns-in-Err-clause-too_long : goal.returns-in-Err-clause-too_long
returns-in-Err-clause-too_long c = λ fits same. long_total c.args.signature.now c.in-Err.field-0 fits c.in-Err.ensures.refused
