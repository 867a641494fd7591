-- What stays in front are zeros.
use Rattle.std.proofs.Common.{ℕ, ◌-◌, ◌++◌, ◌∙◌, length, ap, arith}
use Rattle.std.specs.Prelude.{replicate}
use Rattle.std.proofs.lemmas.List.{take-replicate}
use Rattle.picky_ppk_parts.proofs.secret.padded.Goals as goal

pub returns : goal.returns
returns c =
    let zeros = 32 - length c.args.number.now in
    ap (λ z. z ++ c.copy_from_slice.new.self) c.split_at_mut-back.ensures.front
    ∙ ap (λ z. z ++ c.copy_from_slice.new.self) (take-replicate {X = ℕ} zeros 32 0 (omega arith))
    ∙ ap (λ b. replicate {A = ℕ} zeros 0 ++ b) c.copy_from_slice.ensures.after
