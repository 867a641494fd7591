-- The head of a question: a byte, its operation, and then that operation's arguments but the text.
use Rattle.std.specs.Prelude.{◌<◌, ◌^◌, List, [], ◌∷◌, ℕ, length}
use Rattle.std.specs.Int.{w8, w32, to_be_bytes}
use Rattle.std.specs.List.{concat}
use Rattle.picky_wire_base.specs.Flaw.{Reason, Number}
use Rattle.picky_wire_base.specs.Grammar.{Grammar}
use Rattle.picky_wire_base.specs.Combine.{at, done, narrow, ◌>>=◌}
use Rattle.picky_wire_base.specs.Entry.{entry}
use Rattle.picky_wire_base.specs.Numbers.{byte}
use Rattle.picky_wire_base.specs.Wire.{uint32, string, string_of}
use Rattle.picky_suite.specs.declared.flavour.Flavour.{Flavour}
use Rattle.picky_ask.specs.declared.operation.Operation.{Operation}
use Rattle.picky_ask.specs.declared.operation.Operation.TheVariants as ops
use Rattle.picky_ask.specs.declared.question.Head.{Head}
use Rattle.picky_ask.specs.declared.question.Head.TheVariants as heads
use Rattle.picky_ask.specs.OperationNumber.{flavour_number}
use Rattle.picky_ask.specs.Operation.{operations, flavours}
use Rattle.picky_ask.specs.AlgorithmNumber.{kind_number, algorithm_kind, algorithm_hash}
use Rattle.picky_ask.specs.Algorithm.{algorithm}

-- byte, of an operation
unfoldable pub operation : Grammar Reason Operation
operation = narrow (at 0 byte) (entry (λ n. (0, Number n)) operations)

-- byte, of a kind of Argon2
unfoldable pub flavour : Grammar Reason Flavour
flavour = narrow (at 1 byte) (entry (λ n. (1, Number n)) flavours)

-- ---- the arguments of each operation

-- uint32 length
-- uint32 rounds
-- string salt
unfoldable pub bcrypt_fields : Grammar Reason Head
bcrypt_fields = do
  len ← at 1 uint32
  rounds ← at 2 uint32
  salt ← at 3 string
  done (heads.Bcrypt len rounds salt)

-- byte flavour
-- uint32 memory, in KiB
-- uint32 passes
-- uint32 parallelism
-- string salt
unfoldable pub argon2_fields : Grammar Reason Head
argon2_fields = do
  kind ← flavour
  memory ← at 2 uint32
  passes ← at 3 uint32
  parallelism ← at 4 uint32
  salt ← at 5 string
  done (heads.Argon2 kind memory passes parallelism salt)

-- string key
-- string iv
unfoldable pub cipher_fields : (List ℕ → List ℕ → Head) → Grammar Reason Head
cipher_fields make = do
  key ← at 1 string
  iv ← at 2 string
  done (make key iv)

-- byte, byte, of the algorithm
-- string key, a public key's blob
unfoldable pub sign_fields : Grammar Reason Head
sign_fields = do
  by ← algorithm
  key ← at 3 string
  done (heads.Sign by key)

abbrev pub operation_fields : Operation → Grammar Reason Head
operation_fields ops.Bcrypt = bcrypt_fields
operation_fields ops.Argon2 = argon2_fields
operation_fields ops.CbcSeal = cipher_fields heads.CbcSeal
operation_fields ops.CbcOpen = cipher_fields heads.CbcOpen
operation_fields ops.Ctr = cipher_fields heads.Ctr
operation_fields ops.Sign = sign_fields
-- string key, a public key's blob
-- string signature
operation_fields ops.Verify = cipher_fields heads.Verify

-- the operation decides the rest
unfoldable pub head : Grammar Reason Head
head = do
  op ← operation
  operation_fields op

-- ---- the one spelling that is written

-- two strings behind a byte
abbrev pub two_strings : ℕ → List ℕ → List ℕ → List ℕ
two_strings number first second = concat (to_be_bytes w8 number ∷ string_of first ∷ string_of second ∷ [])

unfoldable pub head_of : Head → List ℕ
head_of (heads.Bcrypt len rounds salt) =
    concat (to_be_bytes w8 1 ∷ to_be_bytes w32 len ∷ to_be_bytes w32 rounds ∷ string_of salt ∷ [])
head_of (heads.Argon2 kind memory passes parallelism salt) = concat (
    to_be_bytes w8 2 ∷ to_be_bytes w8 (flavour_number kind) ∷ to_be_bytes w32 memory ∷ to_be_bytes w32 passes
    ∷ to_be_bytes w32 parallelism ∷ string_of salt ∷ []
    )
head_of (heads.CbcSeal key iv) = two_strings 3 key iv
head_of (heads.CbcOpen key iv) = two_strings 4 key iv
head_of (heads.Ctr key iv) = two_strings 5 key iv
head_of (heads.Sign by key) = concat (
    to_be_bytes w8 6 ∷ to_be_bytes w8 (kind_number (algorithm_kind by)) ∷ to_be_bytes w8 (algorithm_hash by)
    ∷ string_of key ∷ []
    )
head_of (heads.Verify key signature) = two_strings 7 key signature

-- what has a spelling: numbers below 2^32, and strings shorter than that
abbrev pub IsHead : Head → Type 0
IsHead (heads.Bcrypt len rounds salt) = (len < 2 ^ 32) × (rounds < 2 ^ 32) × (length salt < 2 ^ 32)
IsHead (heads.Argon2 kind memory passes parallelism salt) =
    (memory < 2 ^ 32) × (passes < 2 ^ 32) × (parallelism < 2 ^ 32) × (length salt < 2 ^ 32)
IsHead (heads.CbcSeal key iv) = (length key < 2 ^ 32) × (length iv < 2 ^ 32)
IsHead (heads.CbcOpen key iv) = (length key < 2 ^ 32) × (length iv < 2 ^ 32)
IsHead (heads.Ctr key iv) = (length key < 2 ^ 32) × (length iv < 2 ^ 32)
IsHead (heads.Sign by key) = length key < 2 ^ 32
IsHead (heads.Verify key signature) = (length key < 2 ^ 32) × (length signature < 2 ^ 32)
