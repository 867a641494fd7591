-- Lemmas on the view of a blob.
use Rattle.std.proofs.Common.{◌≡◌, ◌≢◌, ℕ, List, drop, ap, subst, Result, Ok, Err}
use Rattle.std.specs.Prelude.{IfOk}
use Rattle.picky_wire_base.specs.Flaw.{Why, Reason}
use Rattle.picky_wire_base.specs.Numbers.{IsBytes}
use Rattle.picky_wire_base.proofs.Numbers.{bytes_in_front}
use Rattle.picky_wire_base.specs.Outcome.{and_then, map_err}
use Rattle.picky_wire_base.specs.declared.view.Stuck.{Stuck}
use Rattle.picky_wire_base.specs.declared.view.Stuck.TheVariants as stucks
use Rattle.picky_wire_base.specs.View.{Seen, end_of, why_of, why_in}
use Rattle.picky_keys.specs.declared.key.SshBasePublicKey.{SshBasePublicKey}
use Rattle.picky_keys.specs.declared.view.PublicView.{PublicView}
use Rattle.picky_keys.specs.Key.{IsKey}
use Rattle.picky_keys.proofs.KeyLaws.{spelled_is_key}
use Rattle.picky_keys.specs.Blob.{blob, key_type}
use Rattle.picky_wire.specs.declared.error.IoKind.TheVariants as kinds
use Rattle.picky_keys.specs.declared.error.SshPublicKeyError.TheVariants as errors
use Rattle.picky_keys.specs.BlobRefusal.{why_error, blob_error, read_blob}
use Rattle.picky_keys.specs.LineRefusal.{blob_key}
use Rattle.picky_keys.specs.View.{key_seen, PartsLie}

-- what is seen at the front of bytes is a key
pub seen_is_key : (bytes : List ℕ) (r : Result (PublicView × ℕ) Stuck) → IsBytes bytes
    → Seen key_seen (PartsLie bytes (end_of key_type bytes 0)) why_in blob bytes 0 r
    → IfOk r (λ found. IsKey (key_seen found.0))
seen_is_key bytes (Ok (view, next)) each seen =
    let fits = blob.sound bytes (key_seen view) (drop next bytes) seen.sees in
    spelled_is_key (key_seen view) fits.0
    (bytes_in_front fits.0 (drop next bytes) (subst IsBytes fits.2 each)) fits.1
seen_is_key bytes (Err stuck) each seen = tt

-- the key of a blob is the one that is seen
pub blob_key_seen : (bytes rest : List ℕ) (key : SshBasePublicKey) → blob.read bytes ≡ Ok (key, rest)
    → blob_key bytes ≡ Ok key
unfolding blob_key read_blob
blob_key_seen bytes rest key read =
    ap (λ r. and_then (map_err blob_error r) (λ found. Ok found.0)) read

refused_by_why : {A : Type 0} (r : Result A Reason) (why : Why) → map_err why_in r ≡ Err why
    → map_err blob_error r ≡ Err (why_error why)
refused_by_why (Ok v) why refused = cc refused
refused_by_why (Err reason) why refused =
    let same : reason.1 ≡ why = cc refused in cc same

-- and its refusal is the one by which the view is stuck
pub blob_key_refused : (bytes : List ℕ) (why : Why) → map_err why_in (blob.read bytes) ≡ Err why
    → blob_key bytes ≡ Err (why_error why)
unfolding blob_key read_blob
blob_key_refused bytes why refused =
    ap (λ r. and_then r (λ found. Ok found.0)) (refused_by_why (blob.read bytes) why refused)

-- and the view of a slice meets no fault
pub stuck_is_no_fault : (stuck : Stuck) → why_error (why_of stuck) ≢ errors.IoError kinds.ReadFault
stuck_is_no_fault stucks.Short is = cc is
stuck_is_no_fault stucks.NotUtf8 is = cc is
stuck_is_no_fault (stucks.Name name) is = cc is
stuck_is_no_fault stucks.Length is = cc is
stuck_is_no_fault (stucks.Number n) is = cc is

pub ruleset blob_keys = (blob_key_seen, blob_key_refused, stuck_is_no_fault)
