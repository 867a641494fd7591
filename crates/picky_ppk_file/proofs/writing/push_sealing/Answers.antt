-- Without a derivation nothing is written.
use Rattle.std.proofs.Common.{inl, inr}
use Rattle.picky_ppk_file.proofs.WriteLemmas.{nothing_written}
use Rattle.picky_ppk_file.proofs.writing.push_sealing.Goals as goal

pub returns-in-Unsealed-clause-ok : goal.returns-in-Unsealed-clause-ok
returns-in-Unsealed-clause-ok c = elim c.in-Unsealed.is [
  | inl at ↦ rw at.1 (nothing_written c.args.end _)
  | inr at ↦ rw at (nothing_written c.args.end _)
]

pub returns-in-Unsealed-2-clause-ok : goal.returns-in-Unsealed-2-clause-ok
returns-in-Unsealed-2-clause-ok c = elim c.in-Unsealed.is [
  | inl at ↦ rw at.1 (nothing_written c.args.end _)
  | inr at ↦ rw at (nothing_written c.args.end _)
]
