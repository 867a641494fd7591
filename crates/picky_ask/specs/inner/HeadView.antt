-- Words of private contracts: what a head shows whose strings are borrowed.
use Rattle.std.specs.Prelude.{List, ℕ}
use Rattle.picky_ask.specs.declared.question.Head.{Head}
use Rattle.picky_ask.specs.declared.question.Head.TheVariants as heads
use Rattle.picky_ask.specs.declared.head_view.TwoStrings.{TwoStrings}
use Rattle.picky_ask.specs.declared.head_view.TwoStrings.TheVariants as two
use Rattle.picky_ask.specs.declared.head_view.HeadView.{HeadView}
use Rattle.picky_ask.specs.declared.head_view.HeadView.TheVariants as seen

abbrev pub two_head : TwoStrings → List ℕ → List ℕ → Head
two_head two.CbcSeal = heads.CbcSeal
two_head two.CbcOpen = heads.CbcOpen
two_head two.Ctr = heads.Ctr
two_head two.Verify = heads.Verify

abbrev pub head_seen : HeadView → Head
head_seen (seen.Bcrypt len rounds salt) = heads.Bcrypt len rounds salt.now
head_seen (seen.Argon2 kind memory passes parallelism salt) = heads.Argon2 kind memory passes parallelism salt.now
head_seen (seen.Two of first second) = two_head of first.now second.now
head_seen (seen.Sign by key) = heads.Sign by key.now
