-- What was appended lies behind what stood there.
use Rattle.std.proofs.Common.{List, ℕ, ◌++◌, drop, sym, ◌∙◌, ap}
use Rattle.std.specs.Prelude.{vec_len}
use Rattle.std.specs.Result.{result_ok}
use Rattle.std.proofs.lemmas.List.{take-append-drop}
use Rattle.base64.specs.GeneralPurpose.{decoded_of}
use Rattle.picky_text.specs.Base64.{decoded}
use Rattle.picky_kv.proofs.block.append.Goals as goal

pub returns-in-Ok-clause-ok : goal.returns-in-Ok-clause-ok
unfolding decoded decoded_of
returns-in-Ok-clause-ok c =
    let n : ℕ = vec_len c.args.bytes.now in
    let new : List ℕ = c.decode_vec.new.buffer.items in (
      drop n new,
      ap result_ok c.in-Ok.ensures.ok,
      sym (take-append-drop n new) ∙ ap (λ l. l ++ drop n new) c.in-Ok.ensures.front,
    )
