-- The characters, one by one.
use Rattle.std.proofs.Common.{◌≡◌, ◌∙◌, true, ap, sym, length, map-id}
use Rattle.std.proofs.lemmas.Iterator.{YieldsList-from_chars}
use Rattle.std.proofs.lemmas.Iterator.Consumers.{YieldsList-end, YieldsList-turn}
use Rattle.std.proofs.lemmas.List.Folds.{list_any_at}
use Rattle.std.specs.Char.{is_whitespace}
use Rattle.std.specs.List.{list_any}
use Rattle.std.specs.Str.{chars}
use Rattle.picky_request.proofs.names.has_white.Goals as goal

pub returns-then-is_whitespace : goal.returns-then-is_whitespace
returns-then-is_whitespace c =
    let turn =
    YieldsList-turn (YieldsList-from_chars c.args.text.now c.utf8.text cc) c.chars.yielded _ c.chars.yielded_by _ _ c.in-Some.c
    c.in-Some.is c.next.ensures.steps in
    let white : is_whitespace c.in-Some.c ≡ true = cc (c.is_whitespace.ensures, c.if-is_whitespace.true) in
    sym (list_any_at is_whitespace (chars c.args.text.now) (length c.chars.yielded) c.in-Some.c turn.0
    (ap is_whitespace (sym turn.1) ∙ white))

pub returns : goal.returns
returns c =
    let end =
    YieldsList-end (YieldsList-from_chars c.args.text.now c.utf8.text cc) c.chars.yielded _ c.chars.yielded_by _ _ c.in-None.is
    c.next.ensures.steps in
    sym c.chars.invariant ∙ ap (list_any is_whitespace) (sym (map-id c.chars.yielded) ∙ end.0)
