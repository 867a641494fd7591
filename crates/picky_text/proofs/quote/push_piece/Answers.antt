-- Where the text is cut, and what the quoting of its front is.
use Rattle.std.proofs.Common.{◌∙◌, ap, arith, slice_index}
use Rattle.std.proofs.lemmas.Str.{IsCharBoundary-after_ascii}
use Rattle.std.specs.List.{position_or_len}
use Rattle.picky_text.specs.Quote.{is_special}
use Rattle.picky_text.proofs.QuoteLemmas.{boundary_of_special, quote_plain_front, quote_quotes}
use Rattle.picky_text.proofs.quote.push_piece.Goals as goal

pub split_at-requires : goal.split_at-requires
split_at-requires c =
    IsCharBoundary-after_ascii c.args.text.now 0 c.utf8.text c.requires
    (omega (arith, c.in-34.is, ap (λ l. slice_index l 0) c.as_bytes.ensures.value))

pub split_at-requires-in-92 : goal.split_at-requires-in-92
split_at-requires-in-92 c =
    IsCharBoundary-after_ascii c.args.text.now 0 c.utf8.text c.requires
    (omega (arith, c.in-92.is, ap (λ l. slice_index l 0) c.as_bytes.ensures.value))

pub split_at-requires-in_default : goal.split_at-requires-in_default
split_at-requires-in_default c =
    boundary_of_special c.args.text.now c.plain_len.result
    (c.plain_len.ensures.place ∙ ap (position_or_len is_special) c.as_bytes-in_default.ensures.value)

pub returns-in-Some-clause-ok : goal.returns-in-Some-clause-ok
returns-in-Some-clause-ok c = record {
  piece = _;
  begins = quote_quotes c.args.text.now c.in-Some.more.now c.in-Some.ensures.cases;
  appended = c.in_ok-push_str-in-34.ensures.bytes;
}

pub returns-in_ok-push_str-in_default-clause-ok : goal.returns-in_ok-push_str-in_default-clause-ok
returns-in_ok-push_str-in_default-clause-ok c =
    let place = c.plain_len.ensures.place
    ∙ ap (position_or_len is_special) c.as_bytes-in_default.ensures.value in
    record {
      piece = _;
      begins = quote_plain_front c.args.text.now _ _ c.plain_len.result place
          c.split_at-in_default.ensures.front c.split_at-in_default.ensures.back;
      appended = c.in_ok-push_str-in_default.ensures.bytes;
    }
