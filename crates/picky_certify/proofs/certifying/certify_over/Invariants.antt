-- The table; a signer's answers need no meanings.
use Rattle.std.specs.Prelude.{Some}
use Rattle.picky_suite.specs.Meanings.{plain}
use Rattle.picky_certify.proofs.certifying.certify_over.Given as goal

abbrev pub ghosts-sign_draft : goal.ghosts-sign_draft
ghosts-sign_draft a = record { known = plain; table = Some a.table.now }
