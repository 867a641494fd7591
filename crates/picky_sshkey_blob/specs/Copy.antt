-- A secret of 32 bytes that stands before a copy of the public key, as an Ed25519 private key has it (PROTOCOL.key).
use Rattle.std.specs.Prelude.{List, ℕ}
use Rattle.picky_wire_base.specs.Narrowed.{Narrowing}
use Rattle.picky_sshkey_blob.specs.Before.{StandsBefore, read_before}
use Rattle.picky_sshkey_blob.specs.carried.Before.{before_sound, before_complete}

-- bytes stand for the 32 that stand before the copy
abbrev pub before_copy : {E : Type 0} → E → List ℕ → Narrowing E (List ℕ) (List ℕ)
before_copy why public = record {
  means = StandsBefore public;
  decide = read_before why public;
  sound = before_sound why public;
  complete = before_complete why public;
}
