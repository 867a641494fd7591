-- A part that is too long makes the whole too long.
use Rattle.std.proofs.Common.{arith}
use Rattle.picky_cert.specs.Certificate.{said}
use Rattle.picky_cert.proofs.WrittenLemmas.{extensions_within, issuer_within, options_within}
use Rattle.picky_cert.proofs.blob_bytes.push_grants.Goals as goal

pub returns-in-Err-clause-too_long : goal.returns-in-Err-clause-too_long
returns-in-Err-clause-too_long c = λ same.
    let long = rw c.as_slice.ensures at (c.in-Err.ensures.too_long same) in
    omega (arith, long, options_within (said c.args.certificate.now).grants)

pub returns-in-Err-block_of-clause-too_long : goal.returns-in-Err-block_of-clause-too_long
returns-in-Err-block_of-clause-too_long c = λ same.
    let long = rw c.as_slice-2.ensures at (c.in-Err-block_of.ensures.too_long same) in
    omega (arith, long, extensions_within (said c.args.certificate.now).grants)

pub returns-in-Err-issuer_vec-clause-too_long : goal.returns-in-Err-issuer_vec-clause-too_long
returns-in-Err-issuer_vec-clause-too_long c = λ same.
    omega (arith, c.in-Err-issuer_vec.ensures.too_long same, issuer_within (said c.args.certificate.now).grants)
