-- What is to be signed is printed where there is room for it.
use Rattle.std.proofs.Common.{◌∙◌}
use Rattle.std.specs.Prelude.{string_bytes}
use Rattle.picky_conversion.proofs.IssueLemmas.{ok_leaves, printed_gives, printed_refused, want_leaves}
use Rattle.picky_conversion.proofs.CertifyLemmas.{still_leaves}
use Rattle.picky_conversion.proofs.issuing.print_request.Goals as goal

pub returns-in-Ok-hex_text-clause-gives : goal.returns-in-Ok-hex_text-clause-gives
returns-in-Ok-hex_text-clause-gives g c =
    printed_gives string_bytes _ c.in-Ok.bytes c.in-Ok-hex_text.text c.in-Ok.ensures.gives
    (λ u is. c.in-Ok-hex_text.ensures u (c.as_slice.ensures.bytes ∙ is))

pub returns-in-Ok-hex_text-clause-suite : goal.returns-in-Ok-hex_text-clause-suite
returns-in-Ok-hex_text-clause-suite g c =
    ok_leaves _ _ _ c.in-Ok.bytes c.in-Ok-hex_text.text _ _ c.in-Ok.ensures.suite

pub returns-in-Ok-clause-suite : goal.returns-in-Ok-clause-suite
returns-in-Ok-clause-suite g c =
    want_leaves _ _ _ c.in-Ok.bytes _ _ c.in-Ok.ensures.suite

pub returns-clause-gives : goal.returns-clause-gives
returns-clause-gives g c = printed_refused _ _ c.in-Err.e c.in-Err.ensures.gives

pub returns-clause-suite : goal.returns-clause-suite
returns-clause-suite g c = still_leaves _ _ _ c.in-Err.e _ _ c.in-Err.ensures.suite
