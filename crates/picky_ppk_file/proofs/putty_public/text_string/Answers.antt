-- The text is written piece by piece.
use Rattle.std.proofs.Common.{◌∙◌, ◌++◌, ap, codes}
use Rattle.picky_text.specs.Base64.{base64_of}
use Rattle.picky_text.proofs.Base64Laws.{base64_is_ascii}
use Rattle.picky_ppk_file.proofs.PuttyLemmas.{putty_written}
use Rattle.picky_ppk_file.proofs.putty_public.text_string.Goals as goal

pub push_rows-requires : goal.push_rows-requires
push_rows-requires c = record { ascii = rw (c.as_str.ensures.value, c.in_ok-body.ensures.text) (base64_is_ascii _) }

pub returns-clause-text : goal.returns-clause-text
returns-clause-text c =
    let blob = ap base64_of c.blob_bytes.ensures.blob in
    let body = c.as_str.ensures.value ∙ c.in_ok-body.ensures.text ∙ blob in
    let header = c.in_ok-push_str.ensures.bytes ∙ ap (λ t. t ++ codes "---- BEGIN SSH2 PUBLIC KEY ----") c.in_ok-text.ensures.bytes in
    putty_written _ _ _ _ _ _ _ _ _ _ _ _ _ header c.in_ok-push_str-2.ensures.bytes
    c.in_ok-push_str-3.ensures.bytes c.in_ok-push_str-4.ensures.bytes
    c.in_ok-push_quoted.ensures.ok c.as_str-comment.ensures.bytes
    c.in_ok-push_str-5.ensures.bytes c.in_ok-push_rows.ensures.ok body
    c.in_ok-push_str-6.ensures.bytes c.in_ok-push_str-7.ensures.bytes
