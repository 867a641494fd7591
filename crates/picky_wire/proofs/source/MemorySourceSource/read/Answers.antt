-- The bytes that were copied are the first ones that were left.
use Rattle.std.proofs.Common.{rules, ◌∙◌, sym, ap, arith}
use Rattle.std.proofs.lemmas.List.{length-take-le}
use Rattle.picky_wire_base.proofs.Numbers.{back_bytes}
use Rattle.picky_wire.proofs.MemoryLemmas.{front_and_rest}
use Rattle.picky_wire.proofs.source.MemorySourceSource.read.Goals as goal

pub returns-clause-taken : goal.returns-clause-taken
returns-clause-taken c =
    let n = c.min-n.result in
    let fits = c.copy_from_slice.ensures.len ∙ length-take-le n c.args.buffer.now (omega arith) in
    let copied = rw c.deref.ensures.value at c.copy_from_slice.ensures.after in
    sym (ap (λ s. s.left) c.self.view_is)
    ∙ front_and_rest c.self.inside.content.items c.copy_from_slice.new.self _ c.self.inside.at n copied fits

pub returns-clause-keeps : goal.returns-clause-keeps
returns-clause-keeps c = record {
  told = λ _. back_bytes _ c.self.inside.content.items c.self.invariant.2;
  counted = tt;
  calm = search rules;
}

pub returns-then-next_fails-clause-keeps : goal.returns-then-next_fails-clause-keeps
returns-then-next_fails-clause-keeps c = record {
  told = λ _. back_bytes _ c.self.inside.content.items c.self.invariant.2;
  counted = search rules;
  calm = tt;
}
