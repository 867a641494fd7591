-- Words of this crate's private contracts: what a run comes to, status by status.
use Rattle.std.specs.Prelude.{◌≡◌, ◌⊎◌, ℕ, List, Result, Ok, Err}
use Rattle.picky_input.specs.Extent.{Extent, ToEnd}
use Rattle.picky_sshkey_blob.specs.declared.error.SshPrivateKeyError.TheVariants as private
use Rattle.picky_ppk_parts.specs.declared.error.PuttyError.TheVariants as putty
use Rattle.picky_key_text.specs.Reader.{Reader}
use Rattle.picky_key_text.specs.declared.error.ReadError.{ReadError}
use Rattle.picky_key_text.specs.declared.error.ReadError.TheVariants as errors
use Rattle.picky_inventory.specs.declared.command.Command.{Command}
use Rattle.picky_inventory.specs.declared.status.InventoryStatus.{InventoryStatus}
use Rattle.picky_inventory.specs.declared.status.InventoryStatus.TheVariants as statuses
use Rattle.picky_inventory.specs.Run.{IsFaultOf, IsOutsideFault, answer, extent_of, outcome}

-- a part that isn't read, where want of memory is the run's, and the suite's fault is the one from outside
abbrev pub unread_status : ℕ → ReadError → InventoryStatus
unread_status n errors.NoMemory = statuses.NoMemory
unread_status n (errors.Private private.SuiteFault) = statuses.OutsideFault
unread_status n (errors.Putty putty.SuiteFault) = statuses.OutsideFault
unread_status n e = statuses.Refused n e

-- what is answered for a text: what the command writes; or want of memory, the suite's fault, or the text's own status
abbrev pub AnswersText : Reader → Command → (text : List ℕ) (rose : Type 0) → Result (List ℕ) InventoryStatus → Type 0
AnswersText r command text rose (Ok written) = answer r command text ≡ Ok written
AnswersText r command text rose (Err status) =
    (status ≡ statuses.NoMemory) ⊎ ((status ≡ statuses.OutsideFault) × IsFaultOf r command text rose)
    ⊎ (answer r command text ≡ Err status)

-- the same for the bytes of a source, which may fail
abbrev pub Comes : Reader → Command → (input : List ℕ) (read_rose suite_rose : Type 0) → Result (List ℕ) InventoryStatus
    → Type 0
Comes r command input read_rose suite_rose (Ok written) = outcome r command input ≡ Ok written
Comes r command input read_rose suite_rose (Err status) =
    (status ≡ statuses.NoMemory) ⊎ ((status ≡ statuses.ReadFault) × read_rose)
    ⊎ ((status ≡ statuses.OutsideFault) × IsOutsideFault r command input suite_rose)
    ⊎ (outcome r command input ≡ Err status)

-- how far the source was read
abbrev pub extent_for : Result (List ℕ) InventoryStatus → Extent
extent_for (Ok text) = ToEnd
extent_for (Err status) = extent_of status
