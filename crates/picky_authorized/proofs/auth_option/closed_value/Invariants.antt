-- The value so far, before that of what is left, is the text's.
use Rattle.std.proofs.Common.{◌≡◌, ◌+◌, ◌≤◌, length, string_bytes, string_len}
use denote.Text.{Utf8}
use denote.Shadow.{shadow}
use Rattle.picky_authorized.specs.OptionText.{escaped_value}
use Rattle.picky_authorized.proofs.ValueLemmas.{behind}
use Rattle.picky_authorized.proofs.auth_option.closed_value.Given as goal

abbrev pub invariant-pieces : goal.invariant-pieces
invariant-pieces l =
    shadow (Utf8 l.rest) × (behind (string_bytes l.value) (escaped_value l.rest) ≡ escaped_value l.text)
    × (string_len l.value + length l.rest ≤ length l.text)

abbrev pub decreases-pieces : goal.decreases-pieces
decreases-pieces l = length l.rest
