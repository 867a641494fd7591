-- What is joined so far, and the lines left, give the same body as all the lines.
use Rattle.std.proofs.Common.{◌≡◌, [], length}
use Rattle.picky_kv.specs.Joined.{joined_text}
use Rattle.picky_ppk_file.specs.PuttyRefusal.{body_from}
use Rattle.picky_ppk_file.proofs.putty_public.body.Given as goal

abbrev pub invariant-lines : goal.invariant-lines
invariant-lines l = body_from (joined_text l.body) l.lines ≡ body_from [] l.fn.lines

abbrev pub decreases-lines : goal.decreases-lines
decreases-lines l = length l.lines
