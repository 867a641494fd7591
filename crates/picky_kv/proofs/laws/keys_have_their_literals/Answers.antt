-- Each key's type is its row's.
use Rattle.std.proofs.Common.{[], ◌∷◌, refl}
use Rattle.picky_kv_words.specs.Argon2Keys.{argon2_memory_key, argon2_memory_key_row}
use Rattle.picky_kv_words.specs.Argon2Keys.{argon2_parallelism_key, argon2_parallelism_key_row}
use Rattle.picky_kv_words.specs.Argon2Keys.{argon2_passes_key, argon2_passes_key_row}
use Rattle.picky_kv_words.specs.Argon2Keys.{argon2_salt_key, argon2_salt_key_row}
use Rattle.picky_kv_words.specs.Argon2Keys.{key_derivation_key, key_derivation_key_row}
use Rattle.picky_kv_words.specs.ChoiceFields.{version_field}
use Rattle.picky_kv_words.specs.Choices.{version_row, versions}
use Rattle.picky_kv_words.specs.carried.Choices.{versions_are_named}
use Rattle.picky_kv_words.specs.Keys.{comment_key, comment_key_row, encryption_key, encryption_key_row}
use Rattle.picky_kv_words.specs.Keys.{private_lines_key, private_lines_key_row, private_mac_key}
use Rattle.picky_kv_words.specs.Keys.{private_mac_key_row, public_lines_key, public_lines_key_row}
use Rattle.picky_kv.proofs.LiteralLemmas.{literal_type_is}
use Rattle.picky_kv.proofs.laws.keys_have_their_literals.Goals as goal

pub returns-clause-header : goal.returns-clause-header
unfolding version_field
returns-clause-header c = literal_type_is version_row versions versions_are_named

pub returns-clause-encryption : goal.returns-clause-encryption
unfolding encryption_key
returns-clause-encryption c = literal_type_is encryption_key_row (record {} ∷ []) (λ _. refl)

pub returns-clause-comment : goal.returns-clause-comment
unfolding comment_key
returns-clause-comment c = literal_type_is comment_key_row (record {} ∷ []) (λ _. refl)

pub returns-clause-key_derivation : goal.returns-clause-key_derivation
unfolding key_derivation_key
returns-clause-key_derivation c = literal_type_is key_derivation_key_row (record {} ∷ []) (λ _. refl)

pub returns-clause-memory : goal.returns-clause-memory
unfolding argon2_memory_key
returns-clause-memory c = literal_type_is argon2_memory_key_row (record {} ∷ []) (λ _. refl)

pub returns-clause-passes : goal.returns-clause-passes
unfolding argon2_passes_key
returns-clause-passes c = literal_type_is argon2_passes_key_row (record {} ∷ []) (λ _. refl)

pub returns-clause-parallelism : goal.returns-clause-parallelism
unfolding argon2_parallelism_key
returns-clause-parallelism c = literal_type_is argon2_parallelism_key_row (record {} ∷ []) (λ _. refl)

pub returns-clause-salt : goal.returns-clause-salt
unfolding argon2_salt_key
returns-clause-salt c = literal_type_is argon2_salt_key_row (record {} ∷ []) (λ _. refl)

pub returns-clause-mac : goal.returns-clause-mac
unfolding private_mac_key
returns-clause-mac c = literal_type_is private_mac_key_row (record {} ∷ []) (λ _. refl)

pub returns-clause-public_lines : goal.returns-clause-public_lines
unfolding public_lines_key
returns-clause-public_lines c = literal_type_is public_lines_key_row (record {} ∷ []) (λ _. refl)

pub returns-clause-private_lines : goal.returns-clause-private_lines
unfolding private_lines_key
returns-clause-private_lines c = literal_type_is private_lines_key_row (record {} ∷ []) (λ _. refl)
