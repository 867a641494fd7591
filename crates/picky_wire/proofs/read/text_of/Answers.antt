-- A string's bytes are UTF-8.
use Rattle.std.proofs.Common.{◌≡◌, ◌∙◌, subst, ap, true}
use Rattle.std.specs.Prelude.{string_bytes}
use Rattle.std.specs.Str.{is_utf8}
use Rattle.std.proofs.lemmas.Str.{IsUtf8-string_bytes, is_utf8-from_IsUtf8}
use Rattle.picky_wire.proofs.read.text_of.Goals as goal

pub returns-in-Ok : goal.returns-in-Ok
returns-in-Ok c =
    let same : string_bytes c.in-Ok.string ≡ c.args.bytes =
    ap (λ v. v.items) c.in-Ok.ensures.ok ∙ c.into_vec.ensures.bytes in (
      c.from_string.ensures ∙ same,
      subst (λ b. is_utf8 b ≡ true) same (is_utf8-from_IsUtf8 (string_bytes c.in-Ok.string) (IsUtf8-string_bytes c.in-Ok.string)),
    )
