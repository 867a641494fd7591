-- Lemmas on the words of a line.
use Rattle.std.specs.Prelude.{◌≡◌, false, is_some, List, ℕ, IsUtf8}
use Rattle.std.proofs.Common.{ap, sym, ◌∙◌, subst}
use Rattle.picky_wire_base.proofs.Table.{none_is_found}
use Rattle.picky_keys.specs.KeyNameTables.{key_types}
use Rattle.picky_keys.proofs.KeyNames.{key_is_name, kind_name_utf8}
use Rattle.picky_keys.specs.LineRefusal.{is_key_type}

-- bytes that aren't UTF-8 are no name
pub no_text_is_no_name : (word : List ℕ) → (IsUtf8 word → ⊥) → is_key_type word ≡ false
no_text_is_no_name word other =
    ap is_some (none_is_found key_types word (λ kind has.
    other (subst IsUtf8 (sym (key_is_name kind) ∙ has) (kind_name_utf8 kind))))
