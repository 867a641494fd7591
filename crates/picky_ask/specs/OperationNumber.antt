-- The number of each operation, and of each kind of Argon2 (RFC 9106, section 3.2: the type y).
use Rattle.std.specs.Prelude.{List, [], ◌∷◌, ℕ}
use Rattle.picky_suite.specs.declared.flavour.Flavour.{Flavour}
use Rattle.picky_suite.specs.declared.flavour.Flavour.TheVariants.{Argon2d, Argon2i, Argon2id}
use Rattle.picky_ask.specs.declared.operation.Operation.{Operation}
use Rattle.picky_ask.specs.declared.operation.Operation.TheVariants as operations

abbrev pub operation_number : Operation → ℕ
operation_number operations.Bcrypt = 1
operation_number operations.Argon2 = 2
operation_number operations.CbcSeal = 3
operation_number operations.CbcOpen = 4
operation_number operations.Ctr = 5
operation_number operations.Sign = 6
operation_number operations.Verify = 7

-- in the order in which their numbers are tried
abbrev pub operations_in_order : List Operation
operations_in_order =
    operations.Bcrypt ∷ operations.Argon2 ∷ operations.CbcSeal ∷ operations.CbcOpen ∷ operations.Ctr ∷ operations.Sign
    ∷ operations.Verify ∷ []

abbrev pub flavour_number : Flavour → ℕ
flavour_number Argon2d = 0
flavour_number Argon2i = 1
flavour_number Argon2id = 2

abbrev pub flavours_in_order : List Flavour
flavours_in_order = Argon2d ∷ Argon2i ∷ Argon2id ∷ []
