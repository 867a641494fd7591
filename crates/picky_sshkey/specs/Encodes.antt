-- What a call promises that writes what it makes with a suite.
use Rattle.std.specs.Prelude.{◌≡◌, ◌⊎◌, List, ℕ, Bool, Result, Ok, Err}
use Rattle.picky_wire.specs.Puts.{Puts}
use Rattle.picky_wire.specs.declared.error.IoKind.TheVariants as io_kinds
use Rattle.picky_suite.specs.Failures.{IsAskedFault}
use Rattle.picky_sshkey_blob.specs.declared.error.SshPrivateKeyError.{SshPrivateKeyError}
use Rattle.picky_sshkey_blob.specs.declared.error.SshPrivateKeyError.TheVariants as errors

-- the content is written, or a front of it with the sink's fault; nothing is where there is none, where memory ran out
-- before, and where the suite failed, which was asked and counted one
abbrev pub Encodes : {W A : Type 0} → (W → Type 0) → (W → List ℕ) → (W → ℕ) → Result (List ℕ) SshPrivateKeyError → Bool
    → Type 0 → Result A SshPrivateKeyError → W → W → Type 0
Encodes tells written faults (Ok content) asked rose result old new =
    (((result ≡ Err errors.NoMemory) ⊎ ((result ≡ Err errors.SuiteFault) × IsAskedFault asked rose)) × (new ≡ old))
    ⊎ Puts tells written faults (errors.IoError io_kinds.WriteFault) content result old new
Encodes tells written faults (Err e) asked rose result old new =
    ((result ≡ Err errors.NoMemory) ⊎ (result ≡ Err e)) × (new ≡ old)
