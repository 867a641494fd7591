-- Each value's type is its row's.
use Rattle.std.proofs.Common.{◌^◌}
use Rattle.picky_kv.specs.AlgorithmField.{algorithm_field}
use Rattle.picky_kv.specs.Algorithm.{algorithm_row, algorithms}
use Rattle.picky_kv.specs.carried.Algorithm.{algorithms_are_named}
use Rattle.picky_kv_words.specs.ChoiceFields.{encryption_field}
use Rattle.picky_kv_words.specs.Choices.{encryption_row, encryptions}
use Rattle.picky_kv_words.specs.carried.Choices.{encryptions_are_named}
use Rattle.picky_kv_words.specs.ChoiceFields.{flavour_field}
use Rattle.picky_kv_words.specs.Choices.{flavour_row, flavours}
use Rattle.picky_kv_words.specs.carried.Choices.{flavours_are_named}
use Rattle.picky_kv.specs.NumberFields.{u32_field, count_field}
use Rattle.picky_kv.specs.Numbers.{u32_row, count_row}
use Rattle.picky_kv.specs.carried.Numbers.{u32_is_narrow}
use Rattle.picky_kv.specs.carried.Numbers.{u16_is_narrow}
use Rattle.picky_kv.proofs.LiteralLemmas.{literal_type_is}
use Rattle.picky_kv.proofs.NumberLemmas.{number_field_is}
use Rattle.picky_kv.proofs.ValueLemmas.{comment_field_is, base64_field_is, hex_field_is}
use Rattle.picky_kv.proofs.ValueLemmas.{hex_is_lower}
use Rattle.picky_kv_words.specs.ValueFields.{hex_field}
use Rattle.picky_kv.proofs.laws.values_have_their_texts.Goals as goal

pub returns-clause-header : goal.returns-clause-header
unfolding algorithm_field
returns-clause-header c = literal_type_is algorithm_row algorithms algorithms_are_named

pub returns-clause-encryption : goal.returns-clause-encryption
unfolding encryption_field
returns-clause-encryption c = literal_type_is encryption_row encryptions encryptions_are_named

pub returns-clause-key_derivation : goal.returns-clause-key_derivation
unfolding flavour_field
returns-clause-key_derivation c = literal_type_is flavour_row flavours flavours_are_named

pub returns-clause-memory : goal.returns-clause-memory
unfolding u32_field
returns-clause-memory c = number_field_is (2 ^ 32) u32_is_narrow u32_row.expected

pub returns-clause-passes : goal.returns-clause-passes
unfolding u32_field
returns-clause-passes c = number_field_is (2 ^ 32) u32_is_narrow u32_row.expected

pub returns-clause-parallelism : goal.returns-clause-parallelism
unfolding u32_field
returns-clause-parallelism c = number_field_is (2 ^ 32) u32_is_narrow u32_row.expected

pub returns-clause-count : goal.returns-clause-count
unfolding count_field
returns-clause-count c = number_field_is (2 ^ 16) u16_is_narrow count_row.expected

pub returns-clause-comment : goal.returns-clause-comment
returns-clause-comment c = comment_field_is

pub returns-clause-salt : goal.returns-clause-salt
returns-clause-salt c = hex_field_is

pub returns-clause-mac : goal.returns-clause-mac
returns-clause-mac c = hex_field_is

pub returns-clause-public_lines : goal.returns-clause-public_lines
returns-clause-public_lines c = base64_field_is

pub returns-clause-private_lines : goal.returns-clause-private_lines
returns-clause-private_lines c = base64_field_is

pub returns-clause-lower : goal.returns-clause-lower
unfolding hex_field
returns-clause-lower c = hex_is_lower
