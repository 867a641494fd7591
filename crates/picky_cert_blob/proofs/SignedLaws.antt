-- What stands before a signature binds all that is said there.
use Rattle.std.specs.Prelude.{◌≡◌, List, [], ℕ, ◌++◌, length, take, Ok}
use Rattle.std.proofs.Common.{sym, ◌∙◌, ap, subst, arith}
use Rattle.std.proofs.Math.Seq.{take-append_seam}
use Rattle.std.proofs.lemmas.List.{append-nil, length-append}
use Rattle.picky_wire_base.specs.Grammar.{Grammar}
use Rattle.picky_wire_base.proofs.Grammar.{one_front}
use Rattle.picky_cert_blob.specs.Layout.{Body, body}
use Rattle.picky_cert_blob.specs.Keeps.{IsBody, IsWellFormedBody}
use Rattle.picky_cert_blob.specs.Spelled.{body_spelled}
use Rattle.picky_cert_blob.proofs.SpellLaws.{body_spells}

-- the bytes that a value takes are a piece of it
taken_is_piece : {E A : Type 0} (G : Grammar E A) (bytes : List ℕ) (v : A) (rest : List ℕ) → G.read bytes ≡ Ok (v, rest)
    → G.piece v (take (G.used bytes) bytes)
taken_is_piece G bytes v rest read =
    let fits = G.sound bytes v rest read in
    let takes = G.takes bytes v rest read in
    let len : length fits.0 ≡ G.used bytes = omega (arith, takes, ap length fits.2, length-append fits.0 rest) in
    let front : take (G.used bytes) bytes ≡ fits.0 =
    ap (take (G.used bytes)) fits.2 ∙ ap (λ n. take n (fits.0 ++ rest)) (sym len) ∙ take-append_seam fits.0 rest in
    subst (G.piece v) (sym front) fits.1

-- a piece that is the front of another spells the same value
front_binds : {E A : Type 0} (G : Grammar E A) (v w : A) (x y more : List ℕ) → G.piece v x → G.piece w y → y ≡ x ++ more → v ≡ w
front_binds G v w x y more of_v of_w same = (one_front G v w x y more [] of_v of_w (sym same ∙ sym (append-nil y))).value

-- The bytes that are read before a signature are the front of others only where both say the same.
pub read_bodies_bind : (x y : List ℕ) (b d : Body) (r s more : List ℕ) → body.read x ≡ Ok (b, r) → body.read y ≡ Ok (d, s)
    → take (body.used y) y ≡ take (body.used x) x ++ more → b ≡ d
read_bodies_bind x y b d r s more read_b read_d same =
    front_binds body b d (take (body.used x) x) (take (body.used y) y) more (taken_is_piece body x b r read_b)
    (taken_is_piece body y d s read_d) same

-- So it is with what is written.
pub spelled_bodies_bind : (b d : Body) (more : List ℕ) → IsBody b → IsBody d → IsWellFormedBody b → IsWellFormedBody d
    → body_spelled d ≡ body_spelled b ++ more → b ≡ d
spelled_bodies_bind b d more is_b is_d formed_b formed_d same =
    front_binds body b d (body_spelled b) (body_spelled d) more (body_spells b is_b formed_b) (body_spells d is_d formed_d) same

pub ruleset binding_laws = (read_bodies_bind, spelled_bodies_bind)
