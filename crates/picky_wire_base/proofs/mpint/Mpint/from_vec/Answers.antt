-- The zeros go behind the number, and are cut off.
use Rattle.std.proofs.Common.{◌∙◌, ap, sym, arith, length}
use Rattle.picky_wire_base.specs.Zeros.{without_zeros}
use Rattle.picky_wire_base.proofs.MpintLemmas.{kept_within, zeros_behind, rest_is_mpint}
use Rattle.picky_wire_base.proofs.mpint.Mpint.from_vec.Goals as goal

pub overflow_sub-len : goal.overflow_sub-len
overflow_sub-len c =
    omega (arith, kept_within c.as_slice.result.now _ c.after_zeros-kept.ensures, c.as_slice.ensures.len, c.len.ensures)

pub returns-clause-ok : goal.returns-clause-ok
returns-clause-ok c =
    c.truncate.ensures.items
    ∙ zeros_behind c.args.vec.items c.after_zeros-kept.result.now _ c.len.result
    (c.after_zeros-kept.ensures ∙ ap without_zeros c.as_slice.ensures.value)
    (c.len.ensures ∙ sym c.as_slice.ensures.len ∙ ap length c.as_slice.ensures.value)
    c.rotate_left.ensures.items

pub returns-clause-mpint : goal.returns-clause-mpint
returns-clause-mpint c =
    rest_is_mpint c.args.vec.items _ (returns-clause-ok c)
    (omega (arith, c.if-kept-ge-MAX_LEN.false, ap length (returns-clause-ok c), ap length c.after_zeros-kept.ensures, ap (λ l. length (without_zeros l)) c.as_slice.ensures.value))

pub invariant_of-result : goal.invariant_of-result
invariant_of-result c = returns-clause-mpint c
