-- The four pieces make the line; where one isn't written, those before it are a front of it.
use Rattle.std.proofs.Common.{◌++◌, ◌∙◌, codes}
use Rattle.std.proofs.lemmas.List.{append_assoc}
use Rattle.picky_text.specs.Lines.{end_bytes}
use Rattle.picky_text.proofs.FrontLemmas.{front_is_written}
use Rattle.picky_kv.proofs.WriteLemmas.{text_of_one}
use Rattle.picky_kv.proofs.lines.push_line.Goals as goal

pub returns-clause-ok : goal.returns-clause-ok
returns-clause-ok c =
    rw (
      text_of_one,
      c.in_ok-push_str-4.ensures.bytes,
      c.in_ok-push_str-3.ensures.bytes,
      c.in_ok-push_str-2.ensures.bytes,
      c.in_ok-push_str.ensures.bytes,
      c.as_str.ensures,
    ) (simp append_assoc)

pub returns-in_err-push_str-2-clause-err : goal.returns-in_err-push_str-2-clause-err
returns-in_err-push_str-2-clause-err c =
    front_is_written _ _ c.args.key.now (codes ": " ++ c.args.value.now ++ end_bytes c.args.end)
    (c.in_err-push_str-2.ensures.bytes ∙ c.in_ok-push_str.ensures.bytes) (rw text_of_one (simp append_assoc))

pub returns-in_err-push_str-3-clause-err : goal.returns-in_err-push_str-3-clause-err
returns-in_err-push_str-3-clause-err c =
    front_is_written _ _ (c.args.key.now ++ codes ": ") (c.args.value.now ++ end_bytes c.args.end)
    (rw (c.in_err-push_str-3.ensures.bytes, c.in_ok-push_str-2.ensures.bytes, c.in_ok-push_str.ensures.bytes) (simp append_assoc))
    (rw text_of_one (simp append_assoc))

pub returns-in_err-push_str-4-clause-err : goal.returns-in_err-push_str-4-clause-err
returns-in_err-push_str-4-clause-err c =
    front_is_written _ _ (c.args.key.now ++ codes ": " ++ c.args.value.now) (end_bytes c.args.end)
    (rw (
      c.in_err-push_str-4.ensures.bytes,
      c.in_ok-push_str-3.ensures.bytes,
      c.in_ok-push_str-2.ensures.bytes,
      c.in_ok-push_str.ensures.bytes,
    ) (simp append_assoc))
    (rw text_of_one (simp append_assoc))
