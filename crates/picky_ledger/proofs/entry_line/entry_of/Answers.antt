-- Word by word.
use Rattle.std.proofs.Common.{◌≡◌, Some, List, ℕ, ap, ◌∙◌, sym, arith}
use Rattle.std.proofs.lemmas.Grind.{common_steps}
use Rattle.picky_cert.specs.declared.certificate.SshCertificate.{SshCertificate}
use Rattle.picky_request.specs.Request.{cut_at_space}
use Rattle.picky_ledger.specs.Entry.{certificate_in, entry_of, request_under}
use Rattle.picky_ledger.proofs.EntryLaws.{words_are}
use Rattle.picky_ledger.proofs.entry_line.entry_of.Goals as goal

pub returns : goal.returns
returns c =
    let line : List ℕ = c.args.line.now in
    let id : List ℕ = c.in-Some.id.now in
    let rest : List ℕ = c.in-Some.rest.now in
    let word : List ℕ = c.in-Some-split_once.word.now in
    let text : List ℕ = c.in-Some-split_once.text.now in
    let request : List ℕ = c.in-Some-2.request in
    let certificate : SshCertificate = c.in-Some-3.certificate in
    let of_line : cut_at_space line ≡ Some (id, rest) = grind (arith, common_steps, c.in-Some.ensures.byte) in
    let of_rest : cut_at_space rest ≡ Some (word, text) = grind (arith, common_steps, c.in-Some-split_once.ensures.byte) in
    let asked : request_under id word ≡ Some request = cc (c.in_ok-request.ensures) in
    let says : certificate_in text ≡ Some certificate = cc (c.in_ok-certificate.ensures) in
    ap (λ i. Some (entry_of i request certificate)) c.in_ok-id.ensures
    ∙ sym (words_are line id rest word text request certificate of_line of_rest asked says)
