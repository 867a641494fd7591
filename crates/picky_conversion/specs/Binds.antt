-- What the text of a conversion binds.
use Rattle.std.specs.Prelude.{◌≡◌, ◌↔◌, List, ℕ, Option, Ok}
use Rattle.std.specs.Option.{IfSome}
use Rattle.std.specs.Str.{IsUtf8}
use Rattle.picky_key_text.specs.declared.meaning.Meaning.{Meaning}
use Rattle.picky_key_text.specs.Reads.{Reads}
use Rattle.picky_target.specs.declared.target.KeyTarget.{KeyTarget}
use Rattle.picky_target.specs.ReadBack.{kept}
use Rattle.picky_conversion.specs.Convert.{conversion}
use Rattle.picky_conversion.specs.Outside.{Outside, reader}
use Rattle.picky_conversion.specs.To.{Certified, Way, Written}

-- it equals the text that another key text, read under any passphrase, has for the same target, output passphrase and fresh bytes
-- exactly where the target keeps the same of both meanings: the comment, and the key or of a public target its public part
abbrev pub Binds : Outside → KeyTarget → (input text : List ℕ) → Type 0
Binds o target input text =
    (pass : Option (List ℕ)) (again other : List ℕ) (m n : Meaning) → IfSome pass IsUtf8 → IsUtf8 again
    → Reads (reader o) input m → Reads (reader (record o { pass_in = pass })) again n
    → conversion (record o { pass_in = pass }) target again ≡ Ok other → (text ≡ other) ↔ (kept target m ≡ kept target n)

-- so it is for each target that no device signs
abbrev pub BindsTo : Outside → Way → (input text : List ℕ) → Type 0
BindsTo o (Written target) input text = Binds o target input text
BindsTo o (Certified request) input text = Unit {0}
