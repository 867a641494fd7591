-- The entries so far, and those that are left; whether each can be said hangs on these.
use Rattle.std.proofs.Common.{◌≡◌, ◌++◌, length}
use Rattle.std.specs.List.{flat_map, list_all}
use Rattle.picky_authorized_field.specs.Layout.{entry_bytes, is_sayable}
use Rattle.picky_authorized_field.proofs.layout.entries_bytes.Given as goal

abbrev pub invariant-entries : goal.invariant-entries
invariant-entries l = record {
  bytes : l.bytes.items ++ flat_map entry_bytes l.rest ≡ flat_map entry_bytes l.fn.entries;
  sayable : list_all is_sayable l.rest ≡ list_all is_sayable l.fn.entries;
}

abbrev pub decreases-entries : goal.decreases-entries
decreases-entries l = length l.rest
