-- The front is cut off where it ends.
use Rattle.std.proofs.Common.{◌≡◌, ◌∙◌, ap, length}
use Rattle.picky_authorized.specs.Quotes.{ends_at, front_outside}
use Rattle.picky_authorized.proofs.QuoteLemmas.{front_ends_at_boundary, front_taken, rest_left}
use Rattle.picky_authorized.proofs.quotes.split_outside.Goals as goal

pub split_at-requires : goal.split_at-requires
split_at-requires c =
    front_ends_at_boundary c.args.end c.args.text.now c.front_len.result
    (c.front_len.ensures ∙ ap (λ t. length (front_outside (ends_at c.args.end) t)) c.as_bytes.ensures.value)

pub returns : goal.returns
returns c =
    let n : c.front_len.result ≡ length (front_outside (ends_at c.args.end) c.args.text.now) =
    c.front_len.ensures ∙ ap (λ t. length (front_outside (ends_at c.args.end) t)) c.as_bytes.ensures.value in
    record {
      front = c.split_at.ensures.front ∙ front_taken (ends_at c.args.end) c.args.text.now c.front_len.result n;
      rest = c.split_at.ensures.back ∙ rest_left (ends_at c.args.end) c.args.text.now c.front_len.result n;
    }
