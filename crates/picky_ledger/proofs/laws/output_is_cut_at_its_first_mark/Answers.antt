use Rattle.picky_ledger.proofs.OutputLaws.{answer_is_cut}
use Rattle.picky_ledger.proofs.laws.output_is_cut_at_its_first_mark.Goals as goal

pub returns : goal.returns
returns g c = answer_is_cut (g.G.Signer.signs c.args._signer.now)
