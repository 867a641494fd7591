-- Who reads without a passphrase asks no suite, so what is refused is the text.
use Rattle.picky_c.proofs.CallLemmas.{key_refusal}
use Rattle.picky_c.proofs.public.public_key_of_text.Goals as goal

pub returns-in-Err-clause-gives : goal.returns-in-Err-clause-gives
returns-in-Err-clause-gives c =
    key_refusal _ c.args.text.now c.in-Some.text.now c.in-Err.e c.input_refusal.result c.refusal.result _
    c.new-suite.ensures.meanings c.in-Some.ensures.0 c.in-Some.ensures.1 c.input_refusal.ensures c.refusal.ensures c.in-Err.ensures.gives
