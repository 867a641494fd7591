-- A string's bytes are UTF-8.
use Rattle.std.proofs.Common.{◌≡◌, ◌∙◌, subst, ap, true}
use Rattle.std.specs.Prelude.{string_bytes}
use Rattle.std.specs.Str.{is_utf8}
use Rattle.std.proofs.lemmas.Str.{IsUtf8-string_bytes, is_utf8-from_IsUtf8}
use Rattle.picky_input.proofs.source_text.into_text.Goals as goal

pub returns-in-Ok : goal.returns-in-Ok
returns-in-Ok c =
    let same : string_bytes c.in-Ok.string ≡ c.args.bytes.items = ap (λ v. v.items) c.in-Ok.ensures.ok in (
      c.from_string.ensures ∙ same,
      subst (λ b. is_utf8 b ≡ true) same (is_utf8-from_IsUtf8 (string_bytes c.in-Ok.string) (IsUtf8-string_bytes c.in-Ok.string)),
    )
