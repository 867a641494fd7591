use Rattle.std.proofs.Common.{◌≡◌, false, true, subst}
use Rattle.picky_wire_base.specs.Gives.{Gives}
use Rattle.picky_ppk_file.specs.PuttyRefusal.{is_security_key}
use Rattle.picky_target.specs.declared.error.ConvertError.TheVariants as errors
use Rattle.picky_target.specs.declared.target.KeyTarget.TheVariants as targets
use Rattle.picky_target.specs.Judged.{carries_comment}
use Rattle.picky_target.proofs.PublicLemmas.{putty_is_written}
use Rattle.picky_target.proofs.public.write_putty.Goals as goal

pub returns : goal.returns
returns c =
    let plain : is_security_key c.args.key.inner_key ≡ false = cc (c.if-is_security_key.ensures) in
    let carries : carries_comment targets.PuttyPublic c.args.key.comment ≡ true = cc (c.if-not-carries_comment.ensures) in
    subst (Gives errors.NoMemory (λ text. text) c.text_of_putty.result) (putty_is_written c.args.key plain carries) c.text_of_putty.ensures
