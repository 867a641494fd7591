-- A block that is items is read as the list of its elements, with the layer's own reasons.
use Rattle.std.specs.Prelude.{◌≡◌, List, [], ◌∷◌, ℕ, zero, suc, length, Result, Ok, Err}
use Rattle.std.proofs.Common.{sym, ◌∙◌, ap, refl}
use Rattle.picky_wire_base.specs.Grammar.{Grammar}
use Rattle.picky_wire_base.specs.Combine.{tag}
use Rattle.picky_wire_base.specs.Outcome.{and_then, map_err}
use Rattle.picky_wire_base.specs.carried.Outcome.{map_err_ok}
use Rattle.picky_wire_base.specs.Row.{after, read_within, read_all}
use Rattle.picky_wire_base.specs.Wire.{text}
use Rattle.picky_wire_base.specs.declared.view.Part.{Part}
use Rattle.picky_wire.specs.Flaws.{wire_error}
use Rattle.picky_wire.specs.Principals.{principal}
use Rattle.picky_cert_parts.specs.CriticalOption.{critical_option}
use Rattle.picky_cert_parts.specs.Extension.{extension}
use Rattle.picky_cert_blob.specs.declared.part.CertPart.TheVariants as parts
use Rattle.picky_cert_blob.specs.Items.{principal_item, option_item, extension_item}
use Rattle.picky_wire_base.specs.Combine.{placed}
use Rattle.picky_cert_blob.specs.Reason.{CertReason, option_why, extension_why}
use Rattle.picky_cert_blob.specs.View.{AreItems, values_in, values_or_none}

-- ---- a row whose layout has another layer's reasons

after_tagged : {E F A : Type 0} (f : E → F) (v : A) (r : Result (List A) E) → after v (map_err f r) ≡ map_err f (after v r)
after_tagged f v (Ok vs) = refl
after_tagged f v (Err e) = refl

step_tagged : {E F A B : Type 0} (f : E → F) (r : Result A E) (next : A → Result B E) (next' : A → Result B F)
    → ((x : A) → next' x ≡ map_err f (next x)) → and_then (map_err f r) next' ≡ map_err f (and_then r next)
step_tagged f (Ok x) next next' same = same x
step_tagged f (Err e) next next' same = refl

within_tagged : {E F A : Type 0} (f : E → F) (G : Grammar E A) (most : ℕ) (bytes : List ℕ)
    → read_within (tag f G) most bytes ≡ map_err f (read_within G most bytes)
within_tagged f G zero bytes = refl
within_tagged f G (suc most) [] = refl
within_tagged f G (suc most) (b ∷ bytes) =
    step_tagged f (G.read (b ∷ bytes)) (λ first. after first.0 (read_within G most first.1))
    (λ first. after first.0 (read_within (tag f G) most first.1))
    λ first. ap (after first.0) (within_tagged f G most first.1) ∙ after_tagged f first.0 (read_within G most first.1)

-- The values of a row are the same with another layer's reasons, and so is the place that is refused.
pub all_tagged : {E F A : Type 0} (f : E → F) (G : Grammar E A) (bytes : List ℕ)
    → read_all (tag f G) bytes ≡ map_err f (read_all G bytes)
unfolding read_all
all_tagged f G bytes = within_tagged f G (length bytes) bytes

-- ---- the lists of a certificate

own_values : {E A : Type 0} (f : E → CertReason) (G : Grammar E A) (block : Part) → AreItems (tag f G) block
    → read_all G block.bytes.now ≡ Ok (values_in (tag f G) block)
own_values f G block (vs, are) =
    map_err_ok f (read_all G block.bytes.now) vs (sym (all_tagged f G block.bytes.now) ∙ are)
    ∙ ap (λ r. Ok (values_or_none r)) (sym are)

-- A block of principals is read as the list of them.
pub principals_are_read : (block : Part) → AreItems principal_item block
    → read_all principal block.bytes.now ≡ Ok (values_in principal_item block)
unfolding principal_item principal
principals_are_read block are =
    all_tagged wire_error text block.bytes.now
    ∙ ap (map_err wire_error) (own_values (placed parts.Principals) text block are)

-- So is a block of critical options.
pub options_are_read : (block : Part) → AreItems option_item block
    → read_all critical_option block.bytes.now ≡ Ok (values_in option_item block)
unfolding option_item
options_are_read block are = own_values (λ e. (parts.Options, option_why e)) critical_option block are

-- So is a block of extensions.
pub extensions_are_read : (block : Part) → AreItems extension_item block
    → read_all extension block.bytes.now ≡ Ok (values_in extension_item block)
unfolding extension_item
extensions_are_read block are = own_values (λ e. (parts.Extensions, extension_why e)) extension block are

pub ruleset list_laws = (principals_are_read, options_are_read, extensions_are_read)
