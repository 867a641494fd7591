-- The text of each value is bytes.
use Rattle.picky_ppk_file.proofs.RangeLaws.{fields_in_ranges}
use Rattle.picky_ppk_file.proofs.laws.fields_are_in_their_ranges.Goals as goal

pub returns : goal.returns
returns c = fields_in_ranges
