-- A name without an equals sign behind it.
use Rattle.std.proofs.Common.{◌≡◌, ◌∙◌, ap, arith, sym, true}
use Rattle.picky_authorized.specs.OptionText.{is_name}
use Rattle.picky_authorized.proofs.ValueLemmas.{bare_option}
use Rattle.picky_authorized.proofs.auth_option.option_of.Goals as goal

pub returns-in_ok-option-in-None : goal.returns-in_ok-option-in-None
returns-in_ok-option-in-None c =
    let is : is_name c.args.text.now ≡ true =
    ap is_name (sym c.as_bytes-in-None.ensures.value) ∙ sym c.is_name-in-None.ensures ∙ c.if-not-is_name-2.false in
    bare_option c.args.text.now c.in_ok-option-in-None.option (c.in-None.ensures.byte (omega arith) (λ w o finds. finds)) is
    c.in_ok-option-in-None.ensures
