-- What stands inside a string, seen in the buffer up to the string's end.
use Rattle.std.specs.Prelude.{◌≡◌, List, ℕ, ◌+◌, ◌-◌, ◌≤◌, length, take, drop, Result, Ok, Err}
use Rattle.std.proofs.Common.{sym, ◌∙◌, ap, subst, arith}
use Rattle.std.proofs.lemmas.List.{length-append, length-take-le, drop-take, take-take}
use Rattle.picky_wire_base.specs.Flaw.{Why, Reason}
use Rattle.picky_wire_base.specs.Front.{read_front}
use Rattle.picky_wire_base.specs.Grammar.{Grammar}
use Rattle.picky_wire_base.specs.Outcome.{and_then, map_err}
use Rattle.picky_wire_base.specs.carried.Outcome.{map_err_ok}
use Rattle.picky_wire_base.specs.Row.{Solid, read_all}
use Rattle.picky_wire_base.specs.Wire.{string, uint32, byte_array}
use Rattle.picky_wire_base.specs.declared.view.Part.{Part}
use Rattle.picky_wire_base.specs.declared.view.Stuck.{Stuck}
use Rattle.picky_wire_base.specs.declared.view.Stuck.TheVariants as stucks
use Rattle.picky_wire_base.specs.View.{Lies, Places, Seen, end_of, part_bytes, why_in, why_of}
use Rattle.picky_cert_blob.specs.declared.part.CertPart.{CertPart}
use Rattle.picky_wire_base.specs.declared.stopped.Stopped.{Stopped}
use Rattle.picky_wire_base.specs.Combine.{placed, at}
use Rattle.picky_cert_blob.specs.Reason.{CertReason, in_key, within}
use Rattle.picky_cert_blob.specs.Listed.{enclosed, listed}
use Rattle.picky_cert_blob.specs.Used.{up_to, up_to_inside, used_inside, used_row}
use Rattle.picky_wire_base.specs.View.{SeenAt, reason_of}
use Rattle.picky_cert_blob.specs.View.{AreItems, ArePassed, NameLies, values_in, values_or_none}

-- a string takes the four bytes of its length and its bytes
pub string_used : (bytes v rest : List ℕ) → string.read bytes ≡ Ok (v, rest) → string.used bytes ≡ 4 + length v
unfolding string uint32 byte_array
string_used bytes v rest read =
    let fits = string.sound bytes v rest read in
    let piece = fits.1 in
    let head : length piece.1 ≡ 4 = ap length piece.3.1.1 ∙ piece.3.1.0 in
    let whole = length-append fits.0 rest in
    let parts = length-append piece.1 piece.2 in
    omega (
      arith,
      ap length fits.2,
      whole,
      ap length piece.5,
      parts,
      head,
      ap length piece.4.1,
      string.takes bytes v rest read,
    )

-- ---- the buffer up to the end of a string

-- where the string's bytes stand, and that they are all from there on
pub block_at : (part : CertPart) (blob : List ℕ) (from next : ℕ) (block : Part)
    → SeenAt part_bytes (Lies blob (end_of string blob from)) (at part string) blob from (Ok (block, next))
    → (string.read (drop from blob) ≡ Ok (block.bytes.now, drop next blob)) × (block.at ≡ from + 4)
    × (drop block.at (take next blob) ≡ block.bytes.now)
block_at part blob from next block seen =
    let read = map_err_ok (placed part) (string.read (drop from blob)) (block.bytes.now, drop next blob) seen.sees in
    let lies = seen.placed.0 in
    let len = length block.bytes.now in
    let ends : next ≡ block.at + len = omega (arith, seen.placed.1, lies.ends) in (
      read,
      omega (arith, lies.ends, string_used (drop from blob) block.bytes.now (drop next blob) read),
      ap (λ n. drop block.at (take n blob)) ends ∙ drop-take block.at len blob ∙ sym lies.are,
    )

-- a part of the buffer's front is a part of the buffer
pub part_of_front : (blob : List ℕ) (next end : ℕ) (part : Part) → next ≤ length blob → Lies (take next blob) end part
    → Lies blob end part
part_of_front blob next end part fits lies =
    let len = length part.bytes.now in
    let front = length-take-le next blob fits in
    let rest = next - part.at in
    let all : part.at + rest ≡ next = omega (arith, lies.ends, lies.within, front) in
    record {
      ends = lies.ends;
      within = omega (arith, lies.within, front);
      are = lies.are ∙ ap (λ n. take len (drop part.at (take n blob))) (sym all)
          ∙ ap (take len) (drop-take part.at rest blob)
          ∙ take-take len rest (drop part.at blob) (omega (arith, lies.ends, lies.within, front));
    }

name_of_front : {X : Type 0} (lies : X → Type 0) (blob : List ℕ) (next end : ℕ) (stuck : Stuck) → next ≤ length blob
    → NameLies (take next blob) end stuck → Places lies blob end (Err stuck)
name_of_front lies blob next end (stucks.Name name) fits inner = part_of_front blob next end name fits inner
name_of_front lies blob next end stucks.Short fits inner = tt
name_of_front lies blob next end stucks.NotUtf8 fits inner = tt
name_of_front lies blob next end stucks.Length fits inner = tt
name_of_front lies blob next end (stucks.Number n) fits inner = tt

used_up_to : {E A : Type 0} (decide : List ℕ → Result A E) (used : List ℕ → ℕ) (bytes v rest : List ℕ) (e : E)
    → string.read bytes ≡ Ok (v, rest) → decide v ≡ Err e → used_inside decide used bytes ≡ 4 + used v
used_up_to decide used bytes v rest e read refused =
    ap (up_to_inside decide used (string.used bytes)) read
    ∙ ap (λ r. up_to r (string.used bytes) (4 + used v)) refused

-- ---- what is refused inside a list's string

pub list_stopped : {A : Type 0} (item : Grammar CertReason A) (solid : Solid item.piece) (part : CertPart) (blob : List ℕ) (from next : ℕ)
    (block : Part) (stopped : Stopped CertPart)
    → SeenAt part_bytes (Lies blob (end_of string blob from)) (at part string) blob from (Ok (block, next))
    → ArePassed item (take next blob) block.at (Err stopped)
    → SeenAt (values_in item) (Lies blob (end_of string blob from)) (listed (placed part) item solid) blob from (Err stopped)
list_stopped item solid part blob from next block stopped seen (refused, lies) =
    let at = block_at part blob from next block seen in
    let whole = at.2 in
    let inner : read_all item block.bytes.now ≡ Err (reason_of stopped) = ap (read_all item) (sym whole) ∙ refused in
    let used = used_up_to (read_all item) (used_row item) (drop from blob) block.bytes.now (drop next blob) (reason_of stopped)
    at.0 inner in
    let end : block.at + used_row item (drop block.at (take next blob))
    ≡ from + used_inside (read_all item) (used_row item) (drop from blob) =
    omega (arith, at.1, used, ap (used_row item) whole) in
    record {
      sees = ap (λ r. and_then (map_err (placed part) r) (λ found. and_then (read_all item found.0) (λ vs. Ok (vs, found.1)))) at.0
          ∙ ap (λ r. and_then r (λ vs. Ok (vs, drop next blob))) inner;
      placed = name_of_front (Lies blob (end_of string blob from)) blob next
          (from + used_inside (read_all item) (used_row item) (drop from blob)) stopped.stuck seen.placed.2
          (subst (λ n. NameLies (take next blob) n stopped.stuck) end lies);
    }

-- and what isn't
pub list_passed : {A : Type 0} (item : Grammar CertReason A) (solid : Solid item.piece) (part : CertPart) (blob : List ℕ) (from next : ℕ)
    (block : Part) → SeenAt part_bytes (Lies blob (end_of string blob from)) (at part string) blob from (Ok (block, next))
    → ((vs : List A) × (read_all item (drop block.at (take next blob)) ≡ Ok vs))
    → SeenAt (values_in item) (Lies blob (end_of string blob from)) (listed (placed part) item solid) blob from (Ok (block, next))
list_passed item solid part blob from next block seen (vs, passed) =
    let at = block_at part blob from next block seen in
    let inner : read_all item block.bytes.now ≡ Ok vs = ap (read_all item) (sym at.2) ∙ passed in
    let used : used_inside (read_all item) (used_row item) (drop from blob) ≡ string.used (drop from blob) =
    ap (up_to_inside (read_all item) (used_row item) (string.used (drop from blob))) at.0
    ∙ ap (λ r. up_to r (string.used (drop from blob)) (4 + used_row item block.bytes.now)) inner in
    record {
      sees = ap (λ r. and_then (map_err (placed part) r) (λ found. and_then (read_all item found.0) (λ vs. Ok (vs, found.1)))) at.0
          ∙ ap (λ r. and_then r (λ vs. Ok (vs, drop next blob))) inner
          ∙ ap (λ r. Ok (values_or_none r, drop next blob)) (sym inner);
      placed = (seen.placed.0, omega (arith, seen.placed.1, used), seen.placed.2);
    }

pub list_items : {A : Type 0} (item : Grammar CertReason A) (part : CertPart) (blob : List ℕ) (from next : ℕ)
    (block : Part) → SeenAt part_bytes (Lies blob (end_of string blob from)) (at part string) blob from (Ok (block, next))
    → ((vs : List A) × (read_all item (drop block.at (take next blob)) ≡ Ok vs)) → AreItems item block
list_items item part blob from next block seen (vs, passed) =
    (vs, ap (read_all item) (sym (block_at part blob from next block seen).2) ∙ passed)

-- ---- a layout inside a string, seen there

pub enclosed_passed : {X A : Type 0} (shows : X → A) (lies : X → Type 0) (inner : Grammar Reason A) (whole inside : CertPart)
    (blob : List ℕ) (from next after : ℕ) (block : Part) (x : X)
    → SeenAt part_bytes (Lies blob (end_of string blob from)) (at whole string) blob from (Ok (block, next))
    → Seen shows lies why_in inner (take next blob) block.at (Ok (x, after))
    → SeenAt shows lies (enclosed (placed whole) (within inside inner)) blob from (Ok (x, next))
enclosed_passed shows lies inner whole inside blob from next after block x seen found =
    let at = block_at whole blob from next block seen in
    let read : inner.read block.bytes.now ≡ Ok (shows x, drop after (take next blob)) = ap inner.read (sym at.2) ∙ found.sees in
    let front : read_front (within inside inner) block.bytes.now ≡ Ok (shows x) =
    ap (λ r. and_then (map_err (in_key inside) r) (λ first. Ok first.0)) read in
    let used : used_inside (read_front (within inside inner)) inner.used (drop from blob) ≡ string.used (drop from blob) =
    ap (up_to_inside (read_front (within inside inner)) inner.used (string.used (drop from blob))) at.0
    ∙ ap (λ r. up_to r (string.used (drop from blob)) (4 + inner.used block.bytes.now)) front in
    record {
      sees = ap (λ r. and_then (map_err (placed whole) r) (λ first. and_then (read_front (within inside inner) first.0)
          (λ v. Ok (v, first.1)))) at.0
          ∙ ap (λ r. and_then r (λ v. Ok (v, drop next blob))) front;
      placed = (found.placed.0, omega (arith, seen.placed.1, used), seen.placed.2);
    }

why_kept : {A : Type 0} (inside : CertPart) (r : Result (A × List ℕ) Reason) (why : Why) → map_err why_in r ≡ Err why
    → and_then (map_err (in_key inside) r) (λ first. Ok first.0) ≡ Err (inside, why)
why_kept inside (Ok x) why is = cc is
why_kept inside (Err e) why is =
    let same : e.1 ≡ why = cc is in
    ap (λ w. Err (inside, w)) same

name_placed : {X : Type 0} (lies : X → Type 0) (blob : List ℕ) (end : ℕ) (stuck : Stuck) → Places lies blob end (Err stuck)
    → NameLies blob end stuck
name_placed lies blob end (stucks.Name name) placed = placed
name_placed lies blob end stucks.Short placed = tt
name_placed lies blob end stucks.NotUtf8 placed = tt
name_placed lies blob end stucks.Length placed = tt
name_placed lies blob end (stucks.Number n) placed = tt

pub enclosed_stopped : {X A : Type 0} (shows : X → A) (lies lies' : X → Type 0) (inner : Grammar Reason A) (whole inside : CertPart)
    (blob : List ℕ) (from next : ℕ) (block : Part) (stuck : Stuck)
    → SeenAt part_bytes (Lies blob (end_of string blob from)) (at whole string) blob from (Ok (block, next))
    → Seen {X = X} shows lies why_in inner (take next blob) block.at (Err stuck)
    → SeenAt {X = X} shows lies' (enclosed (placed whole) (within inside inner)) blob from
    (Err (record { place = inside; stuck = stuck }))
enclosed_stopped {X = X} shows lies lies' inner whole inside blob from next block stuck seen found =
    let at = block_at whole blob from next block seen in
    let why : map_err why_in (inner.read block.bytes.now) ≡ Err (why_of stuck) = ap (λ b. map_err why_in (inner.read b)) (sym at.2) ∙ found.sees in
    let front : read_front (within inside inner) block.bytes.now ≡ Err (inside, why_of stuck) =
    why_kept inside (inner.read block.bytes.now) (why_of stuck) why in
    let used = used_up_to (read_front (within inside inner)) inner.used (drop from blob) block.bytes.now (drop next blob)
    (inside, why_of stuck) at.0 front in
    let end : block.at + inner.used (drop block.at (take next blob))
    ≡ from + used_inside (read_front (within inside inner)) inner.used (drop from blob) =
    omega (arith, at.1, used, ap inner.used at.2) in
    record {
      sees = ap (λ r. and_then (map_err (placed whole) r) (λ first. and_then (read_front (within inside inner) first.0)
          (λ v. Ok (v, first.1)))) at.0
          ∙ ap (λ r. and_then r (λ v. Ok (v, drop next blob))) front;
      placed = name_of_front lies' blob next
          (from + used_inside (read_front (within inside inner)) inner.used (drop from blob)) stuck seen.placed.2
          (subst (λ n. NameLies (take next blob) n stuck) end (name_placed lies (take next blob) (end_of inner (take next blob) block.at) stuck found.placed));
    }
