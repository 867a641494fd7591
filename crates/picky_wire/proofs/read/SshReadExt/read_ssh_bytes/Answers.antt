-- Where the source knows that a string can't be whole, its bytes aren't asked for.
use Rattle.std.proofs.Common.{◌≡◌, ap, arith, refl, inl, inr, Ok, Err}
use Rattle.picky_wire.specs.declared.error.WireError.TheVariants as errors
use Rattle.picky_wire.proofs.UnreadLemmas.{four_bytes, rest_is_short, length_refused, stays_unread, refused_unread, known_some}
use Rattle.picky_wire.specs.LengthFirst.{LengthFirst}
use Rattle.picky_wire.proofs.LengthFirstLemmas.{if_fewer}
use Rattle.picky_wire.proofs.read.SshReadExt.read_ssh_bytes.Goals as goal

pub returns-in-Err-clause-unread : goal.returns-in-Err-clause-unread
returns-in-Err-clause-unread g c = λ told is.
    length_refused c.in-Err.e _ _ _ c.in-Err.ensures.cause (c.in-Err.ensures.takes.answers told) (c.in-Err.ensures.cut told) is.length_is_there

pub returns-in-Ok-read_counted-clause-unread : goal.returns-in-Ok-read_counted-clause-unread
returns-in-Ok-read_counted-clause-unread g c = λ told is.
    let mid = c.read_uint32.new.source in
    let told_mid = c.in-Ok.ensures.takes.told told in
    let known = known_some (g.Self.Source.known mid) (c.in-Ok.ensures.takes.knows is.knows) in
    let four = four_bytes _ _ c.in-Ok.len (c.in-Ok.ensures.takes.answers told) in
    let short = rest_is_short _ _ c.in-Ok.len four is.length_is_there is.ends in
    let len = g.met.Self.Source.knows mid known.0 told_mid known.1 in
    let unread = refused_unread _ known.0 c.in-Ok.len _ known.1 c.in-Ok-read_counted.ensures.unread (omega (arith, len, short)) in
    cc unread.0

pub returns-in-Err-read_counted-clause-unread : goal.returns-in-Err-read_counted-clause-unread
returns-in-Err-read_counted-clause-unread g c = λ told is.
    let mid = c.read_uint32.new.source in
    let told_mid = c.in-Ok.ensures.takes.told told in
    let known = known_some (g.Self.Source.known mid) (c.in-Ok.ensures.takes.knows is.knows) in
    let four = four_bytes _ _ c.in-Ok.len (c.in-Ok.ensures.takes.answers told) in
    let short = rest_is_short _ _ c.in-Ok.len four is.length_is_there is.ends in
    let len = g.met.Self.Source.knows mid known.0 told_mid known.1 in
    let unread = refused_unread _ known.0 c.in-Ok.len _ known.1 c.in-Err-read_counted.ensures.unread (omega (arith, len, short)) in
    let end : c.in-Err-read_counted.e ≡ errors.UnexpectedEnd = cc unread.0 in
    stays_unread c.in-Err-read_counted.e _ _ _ end four.rest_is (ap g.Self.Source.left unread.1)

-- ---- the length is read first

pub returns-in-Err-clause-length_first : goal.returns-in-Err-clause-length_first
unfolding LengthFirst
returns-in-Err-clause-length_first g c = inl (record {
  why = c.in-Err.e;
  cause = c.in-Err.ensures.cause;
  takes = c.in-Err.ensures.takes;
  refused = refl;
})

pub returns-in-Ok-read_counted-clause-length_first : goal.returns-in-Ok-read_counted-clause-length_first
unfolding LengthFirst
returns-in-Ok-read_counted-clause-length_first g c = inr (record {
  len = c.in-Ok.len;
  mid = c.read_uint32.new.source;
  takes_len = c.in-Ok.ensures.takes;
  bytes = Ok c.in-Ok-read_counted.vec.items;
  takes_bytes = c.in-Ok-read_counted.ensures.takes;
  unread = if_fewer _ _ (λ was. absurd (cc was.0)) c.in-Ok-read_counted.ensures.unread;
  refused = tt;
})

pub returns-in-Err-read_counted-clause-length_first : goal.returns-in-Err-read_counted-clause-length_first
unfolding LengthFirst
returns-in-Err-read_counted-clause-length_first g c = inr (record {
  len = c.in-Ok.len;
  mid = c.read_uint32.new.source;
  takes_len = c.in-Ok.ensures.takes;
  bytes = Err c.in-Err-read_counted.e;
  takes_bytes = c.in-Err-read_counted.ensures.takes;
  unread = if_fewer _ _ (λ was. let end : c.in-Err-read_counted.e ≡ errors.UnexpectedEnd = cc was.0 in (ap Err end, was.1))
      c.in-Err-read_counted.ensures.unread;
  refused = refl;
})
