-- A certificate's bytes seen where they stand, and what a view is stopped by.
use Rattle.std.specs.Prelude.{◌≡◌, ◌+◌, ◌≤◌, ◌<◌, List, [], ℕ, length, drop, Result, Ok, Err}
use Rattle.picky_wire_base.specs.Grammar.{Grammar}
use Rattle.picky_wire_base.specs.Outcome.{map_err}
use Rattle.picky_wire_base.specs.Row.{read_all}
use Rattle.picky_wire_base.specs.declared.view.Part.{Part}
use Rattle.picky_wire_base.specs.declared.view.Stuck.{Stuck}
use Rattle.picky_wire_base.specs.declared.view.Stuck.TheVariants as stucks
use Rattle.picky_wire_base.specs.View.{Lies, end_of, reason_of}
use Rattle.picky_cert_blob.specs.declared.part.CertPart.{CertPart}
use Rattle.picky_cert_blob.specs.Reason.{CertReason}
use Rattle.picky_cert_blob.specs.Used.{used_row}
use Rattle.picky_wire_base.specs.declared.stopped.Stopped.{Stopped}

-- ---- a row of items

-- a name that is refused ends there
abbrev pub NameLies : List ℕ → ℕ → Stuck → Type 0
NameLies blob end (stucks.Name name) = Lies blob end name
NameLies blob end stuck = Unit {0}

-- an item stands there, up to the next place; or none does, for that very reason
abbrev pub IsPassed : {A : Type 0} → Grammar CertReason A → List ℕ → ℕ → Result ℕ (Stopped CertPart) → Type 0
IsPassed {A = A} item bytes from (Ok next) =
    (v : A) × (item.read (drop from bytes) ≡ Ok (v, drop next bytes)) × (next ≡ end_of item bytes from) × (from < next)
    × (next ≤ length bytes)
IsPassed item bytes from (Err stopped) =
    (item.read (drop from bytes) ≡ Err (reason_of stopped)) × NameLies bytes (end_of item bytes from) stopped.stuck

-- all of the bytes from a place on are items; or the first place where none stands is refused, for that very reason
abbrev pub ArePassed : {A : Type 0} → Grammar CertReason A → List ℕ → ℕ → Result Unit (Stopped CertPart) → Type 0
ArePassed {A = A} item bytes from (Ok done) = (vs : List A) × (read_all item (drop from bytes) ≡ Ok vs)
ArePassed item bytes from (Err stopped) =
    (read_all item (drop from bytes) ≡ Err (reason_of stopped))
    × NameLies bytes (from + used_row item (drop from bytes)) stopped.stuck

-- the values that a block's bytes are, where they are some
abbrev pub values_or_none : {E A : Type 0} → Result (List A) E → List A
values_or_none (Ok vs) = vs
values_or_none (Err e) = []

abbrev pub values_in : {A : Type 0} → Grammar CertReason A → Part → List A
values_in item block = values_or_none (read_all item block.bytes.now)

-- the block's bytes are items
abbrev pub AreItems : {A : Type 0} → Grammar CertReason A → Part → Type 0
AreItems {A = A} item block = (vs : List A) × (read_all item block.bytes.now ≡ Ok vs)
