-- Lines of a key and a value, and blocks of lines, after PuTTY's manual, Appendix C.
use Rattle.std.specs.Prelude.{ℕ, zero, suc, ◌==◌, ◌&&◌, List, [], ◌∷◌, ◌++◌, if◌then◌else◌, Option, Some}
use Rattle.std.specs.Prelude.{None, Result, Ok, Err}
use Rattle.picky_wire_base.specs.Outcome.{and_then}
use Rattle.picky_kv_words.specs.Field.{Field, field_value}
use Rattle.picky_kv.specs.NumberFields.{count_field}
use Rattle.picky_kv.specs.Context.{need, in_context}
use Rattle.picky_kv.specs.declared.error.KvError.{KvError}
use Rattle.picky_kv.specs.declared.error.KvError.TheVariants.{EndOfInput, InvalidKeyValueFormat}

-- the same with this text in front of the first
abbrev pub prefixed : {B : Type 0} → List ℕ → Option (List ℕ × B) → Option (List ℕ × B)
prefixed front (Some (text, rest)) = Some (front ++ text, rest)
prefixed front None = None

-- the texts before and after the first colon that a space follows
abbrev pub key_and_value : List ℕ → Option (List ℕ × List ℕ)
key_and_value [] = None
key_and_value (a ∷ []) = None
key_and_value (a ∷ b ∷ text) =
    if a == 58 && b == 32 then Some ([], text) else prefixed (a ∷ []) (key_and_value (b ∷ text))

-- the first so many lines, joined, and the lines after them
abbrev pub first_joined : ℕ → List (List ℕ) → Option (List ℕ × List (List ℕ))
first_joined zero lines = Some ([], lines)
first_joined (suc count) [] = None
first_joined (suc count) (line ∷ lines) = prefixed line (first_joined count lines)

-- a line's key and value, and the lines after it
abbrev pub next_pair : {K V : Type 0} → Field K → Field V → List ℕ → List (List ℕ)
    → Result ((K × V) × List (List ℕ)) KvError
next_pair key value context [] = Err EndOfInput
next_pair key value context (line ∷ lines) =
    need InvalidKeyValueFormat (key_and_value line) (λ texts.
    and_then (in_context context (field_value key texts.0)) (λ k.
    and_then (in_context context (field_value value texts.1)) (λ v. Ok ((k, v), lines))))

-- a block is a key and a count, and the value of that many lines joined
abbrev pub next_block : {K V : Type 0} → Field K → Field V → List ℕ → List (List ℕ)
    → Result ((K × V) × List (List ℕ)) KvError
next_block key value context lines =
    and_then (next_pair key count_field context lines) (λ head.
    need EndOfInput (first_joined head.0.1 head.1) (λ block.
    and_then (in_context context (field_value value block.0)) (λ v. Ok ((head.0.0, v), block.1))))

-- the value alone
abbrev pub value_alone : {K V : Type 0} → Result ((K × V) × List (List ℕ)) KvError
    → Result (V × List (List ℕ)) KvError
value_alone answer = and_then answer (λ read. Ok (read.0.1, read.1))
