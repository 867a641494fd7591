-- What std's calls find, in the words of the definition.
use Rattle.std.proofs.Common.{inr, sym}
use Rattle.picky_sshkey_blob.specs.Pem.{header, footer}
use Rattle.picky_sshkey_blob.proofs.ParseLemmas.{no_header_read, no_footer_read, body_read, header_front, no_footer_found, footer_found}
use Rattle.picky_sshkey_blob.proofs.pem.parse_pem.Goals as goal

pub returns-in-Some-split_once : goal.returns-in-Some-split_once
unfolding header footer
returns-in-Some-split_once c =
    let after = c.in-Some.after.now in
    let body = c.in-Some-split_once.body.now in
    let head = header_front c.args.text.now after c.in-Some.ensures.cases in
    let foot = footer_found after body _ c.in-Some-split_once.ensures.cases in
    rw (body_read c.args.text.now after body head foot, sym c.as_bytes.ensures.value) c.of_body.ensures

pub returns-in-None-split_once : goal.returns-in-None-split_once
unfolding header footer
returns-in-None-split_once c =
    let after = c.in-Some.after.now in
    let head = header_front c.args.text.now after c.in-Some.ensures.cases in
    inr (no_footer_read c.args.text.now after head (no_footer_found after c.in-None-split_once.ensures.cases))

pub returns-in-None : goal.returns-in-None
unfolding header
returns-in-None c = inr (no_header_read c.args.text.now c.in-None.ensures.cases)
