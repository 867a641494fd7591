-- A string is a number without its leading zeros.
use Rattle.std.proofs.Common.{◌<◌, ◌^◌, ◌-◌, ◌∙◌, sym, ap, refl, length, drop, arith, Ok}
use Rattle.std.proofs.lemmas.List.{length-drop}
use Rattle.picky_wire_base.specs.Mpint.{mpint}
use Rattle.picky_wire_base.specs.Zeros.{without_zeros}
use Rattle.picky_wire_base.proofs.When.{mpint_reads}
use Rattle.picky_wire_base.proofs.MpintLemmas.{kept_within}
use Rattle.picky_wire_base.proofs.ViewLemmas.{string_leaves, number_lies}
use Rattle.picky_wire_base.proofs.view.mpint_at.Goals as goal

pub overflow_sub-zeros : goal.overflow_sub-zeros
overflow_sub-zeros c = kept_within c.in-Ok.found.0.bytes.now _ c.after_zeros-bytes.ensures

pub returns : goal.returns
unfolding mpint
returns c =
    let whole = c.in-Ok.found.0.bytes.now in
    let number = c.after_zeros-bytes.ensures in
    let room = string_leaves _ whole _ c.in-Ok.ensures.sees in
    let kept = kept_within whole _ number in
    let behind = length-drop c.args.from c.args.blob.now in
    let few : length (without_zeros whole) < 2 ^ 32 - 1 =
    omega (arith, room, kept, ap length number, behind, c.requires) in
    record {
      sees = mpint_reads _ whole _ c.in-Ok.ensures.sees few
          ∙ ap (λ n. Ok (n, drop c.in-Ok.found.1 c.args.blob.now)) (sym number);
      placed = (
        number_lies c.args.blob.now _ c.in-Ok.found.0 _ c.in-Ok.ensures.placed.0 number refl,
        c.in-Ok.ensures.placed.1,
        c.in-Ok.ensures.placed.2,
      );
    }
