use Rattle.std.specs.Prelude.{◌++◌}
use Rattle.std.proofs.Common.{sym, ◌∙◌, append_assoc}
use Rattle.picky_wire_base.specs.Wire.{string_of}
use Rattle.picky_wire_base.proofs.Fronts.{one_string_in_front}
use Rattle.picky_wire_base.proofs.laws.no_string_is_a_front_of_another.Goals as goal

pub returns : goal.returns
returns c = λ a b x y z short_a short_b same.
    let first = sym (append_assoc (string_of a) x z) ∙ sym same in
    one_string_in_front a b (x ++ z) y short_a short_b first
