-- The secret stands before the copy.
use Rattle.std.proofs.Common.{◌≡◌, drop, refl, sym, ◌∙◌, arith}
use Rattle.std.specs.Prelude.{bytes_eq}
use Rattle.std.proofs.lemmas.Bool.{not-false}
use Rattle.std.proofs.lemmas.Slice.Eq.{bytes_eq-Decides}
use Rattle.picky_sshkey_blob.proofs.ViewLemmas.{secret_seen}
use Rattle.picky_sshkey_blob.proofs.view_fields.ed_secret_in.Goals as goal

pub returns : goal.returns
returns c =
    let both = c.in_ok-both.both in
    let copy = c.split_at.result.1.now in
    let equal = not-false (bytes_eq copy c.args.public.now) (sym c.ne.ensures ∙ c.if-ne.false) in
    let same : drop 32 both.bytes.now ≡ c.args.public.now =
    sym c.split_at.ensures.back ∙ (bytes_eq-Decides copy c.args.public.now).0 equal in
    secret_seen c.args.from c.in_ok-both.next c.args.blob.now c.args.public.now both _ c.in_ok-both.ensures (omega arith)
    refl c.split_at.ensures.front same c.requires
