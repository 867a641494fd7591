-- A text ends well where nothing is pending.
use Rattle.std.proofs.Common.{refl, sym, ◌∙◌, ap}
use Rattle.std.specs.Prelude.{Ok}
use Rattle.picky_kv.proofs.StateLemmas.{finished_ok, finished_err, pending_some, joined_whole}
use Rattle.picky_kv.proofs.block.BlockDecoder.finish.Goals as goal

pub returns-then-is_empty-clause-gives : goal.returns-then-is_empty-clause-gives
returns-then-is_empty-clause-gives c =
    ap Ok c.from_vec.ensures
    ∙ sym (finished_ok c.self.inside.bytes.items _ c.as_slice.result.now c.args.self
    c.self.invariant.state.small c.as_slice.ensures.value c.if-is_empty.ensures c.self.view_is)

pub returns-then-is_empty-clause-joined : goal.returns-then-is_empty-clause-joined
returns-then-is_empty-clause-joined c =
    joined_whole c.self.inside.bytes.items _ c.as_slice.result.now c.args.self c.from_vec.result
    c.as_slice.ensures.value c.if-is_empty.ensures c.self.view_is c.from_vec.ensures

pub returns-else-is_empty-clause-gives : goal.returns-else-is_empty-clause-gives
returns-else-is_empty-clause-gives c =
    sym (finished_err c.self.inside.bytes.items _ c.as_slice.result.now c.args.self
    c.as_slice.ensures.value c.as_slice.ensures.few c.if-is_empty.ensures c.self.view_is)

pub returns-else-is_empty-clause-bad : goal.returns-else-is_empty-clause-bad
returns-else-is_empty-clause-bad c = (
  refl,
  pending_some c.self.inside.bytes.items _ c.as_slice.result.now c.args.self
      c.as_slice.ensures.value c.as_slice.ensures.few c.if-is_empty.ensures c.self.view_is,
)
