-- Both ways, and once.
use Rattle.picky_kv.proofs.SeparatorLemmas.{key_and_value_iff, key_and_value_none_iff, parts_are_unique}
use Rattle.picky_kv.proofs.laws.lines_are_cut_at_their_first_separator.Goals as goal

pub returns : goal.returns
returns c = record {
  parts = key_and_value_iff;
  none = key_and_value_none_iff;
  unique = parts_are_unique;
}
