-- The parts that std's calls give, in the words of the definition.
use Rattle.std.proofs.Common.{Some, arith}
use Rattle.std.proofs.lemmas.Str.Pattern.{split_parts}
use Rattle.picky_text.proofs.UnquoteLemmas.{none_from_places}
use Rattle.picky_ppk_file.specs.PuttyPublic.{comment_start}
use Rattle.picky_ppk_file.proofs.QuotedLemmas.{no_key, key_front, nowhere, last_parts, without_quotes, with_one_quote, with_quotes}
use Rattle.picky_ppk_file.proofs.putty_public.quoted.Goals as goal

pub returns-in_err-quotes-clause-none : goal.returns-in_err-quotes-clause-none
unfolding comment_start
returns-in_err-quotes-clause-none c =
    rw c.from_residual.ensures (no_key c.args.line.now c.in_err-quotes.ensures.cases)

pub returns-in_err-after-clause-none : goal.returns-in_err-after-clause-none
unfolding comment_start
returns-in_err-after-clause-none c =
    let quotes = c.in_ok-quotes.quotes.now in
    let key = key_front c.args.line.now quotes c.in_ok-quotes.ensures.cases in
    let none = nowhere 34 quotes c.in_err-after.ensures.cases (omega arith) in
    rw c.from_residual-in_err-after.ensures (without_quotes c.args.line.now quotes key none)

pub returns-in_err-between-clause-none : goal.returns-in_err-between-clause-none
unfolding comment_start
returns-in_err-between-clause-none c =
    let quotes = c.in_ok-quotes.quotes.now in
    let before = c.in_ok-after.field-0-0 in
    let after = c.in_ok-after.after in
    let key = key_front c.args.line.now quotes c.in_ok-quotes.ensures.cases in
    let parts = split_parts 34 quotes (Some (before, after)) c.in_ok-after.ensures.cases (omega arith) in
    let first = none_from_places 34 before.now parts.1 in
    let last = nowhere 34 after.now c.in_err-between.ensures.cases (omega arith) in
    rw c.from_residual-in_err-between.ensures
    (with_one_quote c.args.line.now quotes before.now after.now key parts.0 first last)

pub returns-clause-some : goal.returns-clause-some
unfolding comment_start
returns-clause-some c =
    let quotes = c.in_ok-quotes.quotes.now in
    let before = c.in_ok-after.field-0-0 in
    let rest = c.in_ok-after.after in
    let between = c.in_ok-between.between.now in
    let after = c.in_ok-between.field-0-1.now in
    let key = key_front c.args.line.now quotes c.in_ok-quotes.ensures.cases in
    let parts = split_parts 34 quotes (Some (before, rest)) c.in_ok-after.ensures.cases (omega arith) in
    let first = none_from_places 34 before.now parts.1 in
    let cut = last_parts 34 rest.now between after c.in_ok-between.ensures.cases (omega arith) in
    with_quotes c.args.line.now quotes before.now rest.now between after key parts.0 first cut.0 cut.1
