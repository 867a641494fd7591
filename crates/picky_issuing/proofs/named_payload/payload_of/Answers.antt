-- Where no equals sign stands, the payload is empty.
use Rattle.std.proofs.Common.{arith, refl}
use Rattle.picky_issuing.specs.NamedPayload.{is_equals, payload_in}
use Rattle.picky_text.proofs.ListLaws.{none_passes}
use Rattle.picky_issuing.proofs.named_payload.payload_of.Goals as goal

pub returns-in-None : goal.returns-in-None
unfolding payload_in
returns-in-None c =
    let none = none_passes is_equals c.args.value.now (c.in-None.ensures.byte (omega arith) (λ w o finds. finds)) in
    rw (none, c.from_vec.ensures, c.new.ensures.items) refl
