-- The first line is a header, or isn't.
use Rattle.std.proofs.Common.{inr, sym, ◌∙◌}
use Rattle.picky_ppk_file.specs.PuttyPublic.{putty_header}
use Rattle.picky_ppk_file.proofs.HeaderLemmas.{header_read, other_read}
use Rattle.picky_ppk_file.proofs.putty_public.PuttyPublicKey.from_str.Goals as goal

pub returns-in-Some : goal.returns-in-Some
unfolding putty_header
returns-in-Some c =
    let same = sym c.eq.ensures ∙ c.if-eq.true in
    rw (header_read c.args.text.now c.in-Some.line.now _ _ c.new-lines.ensures c.in-Some.ensures.line same)
    c.after_header.ensures

pub returns-in-Some-2 : goal.returns-in-Some-2
unfolding putty_header
returns-in-Some-2 c =
    let other = sym c.eq.ensures ∙ c.if-eq.false in
    inr (other_read c.args.text.now c.in-Some.line.now _ _ c.new-lines.ensures c.in-Some.ensures.line other)
