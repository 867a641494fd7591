-- The issuer's key, seen inside its string.
use Rattle.std.specs.Prelude.{◌≡◌, List, ℕ, ◌+◌, take, Ok, Err}
use Rattle.std.proofs.Common.{subst, ◌∙◌, ap}
use Rattle.picky_wire_base.specs.Wire.{string}
use Rattle.picky_wire_base.specs.declared.view.Part.{Part}
use Rattle.picky_wire_base.specs.declared.view.Stuck.{Stuck}
use Rattle.picky_wire_base.specs.View.{Lies, Seen, end_of, part_bytes, why_in}
use Rattle.picky_keys.specs.Blob.{blob as key_blob, key_type}
use Rattle.picky_keys.specs.View.{key_seen, PartsLie}
use Rattle.picky_keys.specs.declared.view.PublicView.{PublicView}
use Rattle.picky_cert_blob.specs.declared.part.CertPart.TheVariants as parts
use Rattle.picky_cert_blob.specs.Layout.{issuer}
use Rattle.picky_wire_base.specs.Combine.{at}
use Rattle.picky_cert_blob.specs.CertSeen.{IssuerLies}
use Rattle.picky_wire_base.specs.View.{SeenAt}
use Rattle.picky_cert_blob.proofs.PlaceLemmas.{block_at, enclosed_passed, enclosed_stopped}

pub issuer_seen : (blob front : List ℕ) (from next after : ℕ) (block : Part) (key : PublicView)
    → SeenAt part_bytes (Lies blob (end_of string blob from)) (at parts.IssuerString string) blob from (Ok (block, next))
    → front ≡ take next blob
    → Seen key_seen (PartsLie front (end_of key_type front block.at)) why_in key_blob front block.at (Ok (key, after))
    → SeenAt key_seen (IssuerLies blob from) issuer blob from (Ok (key, next))
unfolding issuer
issuer_seen blob front from next after block key seen are found =
    let at = block_at parts.IssuerString blob from next block seen in
    let lies : front ≡ take (end_of string blob from) blob = are ∙ ap (λ n. take n blob) seen.placed.1 in
    let placed = subst (λ f. PartsLie f (end_of key_type f (from + 4)) key) lies
    (subst (λ n. PartsLie front (end_of key_type front n) key) at.1 found.placed.0) in
    let found' = subst (λ f. Seen key_seen (PartsLie f (end_of key_type f block.at)) why_in key_blob f block.at (Ok (key, after)))
    are found in
    let all = enclosed_passed key_seen (PartsLie (take next blob) (end_of key_type (take next blob) block.at)) key_blob
    parts.IssuerString parts.Issuer blob from next after block key seen found' in
    record { sees = all.sees; placed = (placed, all.placed.1, all.placed.2) }

pub issuer_stuck : (blob front : List ℕ) (from next : ℕ) (block : Part) (stuck : Stuck)
    → SeenAt part_bytes (Lies blob (end_of string blob from)) (at parts.IssuerString string) blob from (Ok (block, next))
    → front ≡ take next blob
    → Seen {X = PublicView} key_seen (PartsLie front (end_of key_type front block.at)) why_in key_blob front block.at (Err stuck)
    → SeenAt {X = PublicView} key_seen (IssuerLies blob from) issuer blob from (Err (record { place = parts.Issuer; stuck = stuck }))
unfolding issuer
issuer_stuck blob front from next block stuck seen are found =
    let found' = subst (λ f. Seen {X = PublicView} key_seen (PartsLie f (end_of key_type f block.at)) why_in key_blob f block.at
    (Err stuck)) are found in
    enclosed_stopped key_seen (PartsLie (take next blob) (end_of key_type (take next blob) block.at)) (IssuerLies blob from) key_blob
    parts.IssuerString parts.Issuer blob from next block stuck seen found'
