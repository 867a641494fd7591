-- A command's answer, by the command.
use Rattle.std.proofs.Common.{Global, List, ℕ, Ok, Err, refl}
use Rattle.std.specs.Prelude.{string_bytes}
use Rattle.picky_wire.specs.Count.{Rose}
use Rattle.picky_conversion.specs.Certify.{IsInputFault}
use Rattle.picky_convert.specs.Command.{fingerprints}
use Rattle.picky_conversion.specs.Convert.{IsFaultOf, conversion}
use Rattle.picky_conversion.specs.Issue.{IsIssuingFault, issued_bytes}
use Rattle.picky_conversion.specs.Made.{Whole}
use Rattle.picky_conversion.specs.Outside.{outside}
use Rattle.picky_conversion.proofs.CertifyLemmas.{plain_made, still, still_leaves, still_signs}
use Rattle.picky_conversion.proofs.IssueLemmas.{ok_leaves}
use Rattle.picky_convert.specs.Sample.{sample_text}
use Rattle.picky_convert.proofs.command.answer_to.Goals as goal

pub returns-in-Ok-clause-gives : goal.returns-in-Ok-clause-gives
returns-in-Ok-clause-gives g c =
    let o = outside (g.S.Suite.meanings c.args.suite.now) c.args.given in
    let rose = Rose (g.S.Suite.faults c.args.suite.now) (g.S.Suite.faults c.convert_key_text.new.suite) in
    let text = c.into_string.ensures.bytes in
    rw (c.in-Convert.is, text)
    (plain_made (g.G.Signer.signs c.args.signer.now) (λ (text : List ℕ). text) (conversion o c.in-Convert.target c.args.text.now)
    (λ e. IsFaultOf o c.in-Convert.target c.args.text.now e rose) rose (Ok c.in-Ok.text) c.in-Ok.ensures.gives)

pub returns-in-Ok-clause-suite : goal.returns-in-Ok-clause-suite
returns-in-Ok-clause-suite g c = rw c.in-Convert.is (ok_leaves _ _ _ c.in-Ok.text _ _ _ c.in-Ok.ensures.suite)

pub returns-in-Ok-clause-signer : goal.returns-in-Ok-clause-signer
returns-in-Ok-clause-signer g c = still g.G.Signer.signs g.G.Signer.faults _ _ c.args.signer.now

pub returns-in-Err-clause-signer : goal.returns-in-Err-clause-signer
returns-in-Err-clause-signer g c = still g.G.Signer.signs g.G.Signer.faults _ _ c.args.signer.now

pub returns-in-Err-clause-gives : goal.returns-in-Err-clause-gives
returns-in-Err-clause-gives g c =
    let o = outside (g.S.Suite.meanings c.args.suite.now) c.args.given in
    let rose = Rose (g.S.Suite.faults c.args.suite.now) (g.S.Suite.faults c.convert_key_text.new.suite) in
    rw c.in-Convert.is
    (plain_made (g.G.Signer.signs c.args.signer.now) (λ (text : List ℕ). text) (conversion o c.in-Convert.target c.args.text.now)
    (λ e. IsFaultOf o c.in-Convert.target c.args.text.now e rose) _ (Err c.in-Err.e) c.in-Err.ensures.gives)

pub returns-in-Err-clause-suite : goal.returns-in-Err-clause-suite
returns-in-Err-clause-suite g c = rw c.in-Convert.is (still_leaves _ _ _ c.in-Err.e _ _ c.in-Err.ensures.suite)

pub returns-in-Err-issue-clause-suite : goal.returns-in-Err-issue-clause-suite
returns-in-Err-issue-clause-suite g c = rw c.in-Certify.is (still_leaves _ _ _ c.in-Err-issue.e _ _ c.in-Err-issue.ensures.suite)

pub returns-in-Err-issue-clause-signer : goal.returns-in-Err-issue-clause-signer
returns-in-Err-issue-clause-signer g c = rw c.in-Certify.is (still_signs _ _ _ c.in-Err-issue.e _ _ c.in-Err-issue.ensures.signer)

pub returns-in-PrintSigned-clause-gives : goal.returns-in-PrintSigned-clause-gives
returns-in-PrintSigned-clause-gives g c =
    let o = outside (g.S.Suite.meanings c.args.suite.now) c.args.given in
    let rose = Rose (g.S.Suite.faults c.args.suite.now) (g.S.Suite.faults c.print_signed.new.suite) in
    rw c.in-PrintSigned.is
    (plain_made (g.G.Signer.signs c.args.signer.now) (string_bytes {Z = Global}) (issued_bytes o c.in-PrintSigned.options c.args.text.now)
    (λ e. IsIssuingFault o c.args.text.now e rose) _ c.print_signed.result c.print_signed.ensures.gives)

pub returns-in-Fingerprint-clause-gives : goal.returns-in-Fingerprint-clause-gives
returns-in-Fingerprint-clause-gives g c =
    let o = outside (g.S.Suite.meanings c.args.suite.now) c.args.given in
    let rose = Rose (g.S.Suite.faults c.args.suite.now) (g.S.Suite.faults c.fingerprint.new.suite) in
    rw c.in-Fingerprint.is
    (plain_made (g.G.Signer.signs c.args.signer.now) (string_bytes {Z = Global}) (fingerprints o c.args.text.now)
    (λ e. IsInputFault o c.args.text.now e rose) _ c.fingerprint.result c.fingerprint.ensures.gives)

pub returns-in-Ok-sample-clause-gives : goal.returns-in-Ok-sample-clause-gives
returns-in-Ok-sample-clause-gives g c =
    rw c.in-Sample.is (Whole (sample_text (g.S.Suite.meanings c.args.suite.now) c.in-Sample.keys), refl, c.in-Ok-sample.ensures.gives)
