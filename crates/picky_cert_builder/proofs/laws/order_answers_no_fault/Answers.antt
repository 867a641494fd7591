-- Neither is a request's own refusal.
use Rattle.picky_cert_builder.proofs.OwnLaws.{requested_is_own}
use Rattle.picky_cert_builder.proofs.laws.order_answers_no_fault.Goals as goal

pub returns : goal.returns
returns c = requested_is_own
