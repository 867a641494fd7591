-- A string's bytes are UTF-8.
use Rattle.std.proofs.Common.{◌≡◌, Bool, true, Some, None, List, ℕ, ap, subst, ◌∙◌, sym, string_bytes, if◌then◌else◌}
use Rattle.std.specs.Str.{is_utf8}
use Rattle.std.proofs.lemmas.Str.{is_utf8-from_IsUtf8, IsUtf8-string_bytes}
use Rattle.picky_ledger.proofs.entry_line.into_text.Goals as goal

pub returns-in-Ok : goal.returns-in-Ok
returns-in-Ok c =
    let text : List ℕ = c.args.bytes.items in
    let same : string_bytes c.in-Ok.string ≡ text = ap (λ v. v.items) c.in-Ok.ensures.ok in
    let utf8 = is_utf8-from_IsUtf8 (string_bytes c.in-Ok.string) (IsUtf8-string_bytes c.in-Ok.string) in
    let is : is_utf8 text ≡ true = subst (λ t. is_utf8 t ≡ true) same utf8 in
    ap (λ t. Some t) (c.from_string.ensures ∙ same) ∙ sym (ap (λ (b : Bool). if b then Some text else None) is)
