use Rattle.picky_ledger.proofs.RunLemmas.{refused_as_no_text, refused_as_too_long}
use Rattle.picky_ledger.proofs.laws.bytes_are_refused_for_what_they_are.Goals as goal

pub returns-clause-too_long : goal.returns-clause-too_long
returns-clause-too_long c = refused_as_too_long

pub returns-clause-not_utf8 : goal.returns-clause-not_utf8
returns-clause-not_utf8 c = refused_as_no_text
