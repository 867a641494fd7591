-- The operations of questions, and the numbers by which a head tells them, and a kind of Argon2.
use Rattle.std.specs.Prelude.{ℕ}
use Rattle.picky_wire_base.specs.Table.{Table, numbers}
use Rattle.picky_suite.specs.declared.flavour.Flavour.{Flavour}
use Rattle.picky_ask.specs.declared.operation.Operation.{Operation}
use Rattle.picky_ask.specs.OperationNumber.{operation_number, operations_in_order, flavour_number, flavours_in_order}
use Rattle.picky_ask.specs.carried.Operation.{own_operation, own_flavour}

unfoldable pub operations : Table ℕ Operation
operations = numbers operations_in_order operation_number own_operation

unfoldable pub flavours : Table ℕ Flavour
flavours = numbers flavours_in_order flavour_number own_flavour
