-- Each status of the bytes that have no offer.
use Rattle.picky_policy.proofs.SourceLaws.{refused_bad, refused_no_text, refused_too_long}
use Rattle.picky_policy.proofs.laws.bytes_are_refused_for_what_they_are.Goals as goal

pub returns-clause-too_long : goal.returns-clause-too_long
returns-clause-too_long c = refused_too_long

pub returns-clause-not_utf8 : goal.returns-clause-not_utf8
returns-clause-not_utf8 c = refused_no_text

pub returns-clause-bad_offer : goal.returns-clause-bad_offer
returns-clause-bad_offer c = refused_bad
