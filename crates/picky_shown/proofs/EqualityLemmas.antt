-- What two texts show is equal exactly where its parts are.
use Rattle.std.specs.Prelude.{◌≡◌, ◌↔◌, IsTrue}
use Rattle.std.proofs.Common.{rules, ap, refl}
use Rattle.std.proofs.lemmas.Bool.Decides.{Decides-and, Decides-like}
use Rattle.picky_keys.specs.contracts.key.SshPublicKeyPartialEq.TheImpl as public
use Rattle.picky_keys.specs.declared.key.SshPublicKey.{SshPublicKey}
use Rattle.picky_shown.specs.contracts.sealing.ShownSealingPartialEq.TheImpl as sealing
use Rattle.picky_shown.specs.contracts.showing.ShownPartialEq.TheImpl as whole
use Rattle.picky_shown.specs.declared.sealing.ShownSealing.{ShownSealing}
use Rattle.picky_shown.specs.declared.showing.Shown.{Shown}

public_equal : (a b : SshPublicKey) → IsTrue (public.ghosts.eq a b) ↔ (a ≡ b)
public_equal = search rules

sealing_equal : (a b : ShownSealing) → IsTrue (sealing.ghosts.eq a b) ↔ (a ≡ b)
sealing_equal = search rules

-- what is shown, of its parts
abbrev made : SshPublicKey → ShownSealing → Shown
made k s = record { key = k; sealing = s }

parts_equal : (k l : SshPublicKey) (s t : ShownSealing) → k ≡ l → s ≡ t → made k s ≡ made l t
parts_equal k l s t one two = rw (one, two) refl

same_shown : (a b : Shown) → a.key ≡ b.key → a.sealing ≡ b.sealing → a ≡ b
same_shown a b = parts_equal a.key b.key a.sealing b.sealing

pub shown_equal : (a b : Shown) → IsTrue (whole.ghosts.eq a b) ↔ (a ≡ b)
shown_equal a b =
    Decides-like _
    (λ w. same_shown a b w.0 w.1)
    (λ same. (ap (λ s. s.key) same, ap (λ s. s.sealing) same))
    (Decides-and _ _ (public_equal a.key b.key) (sealing_equal a.sealing b.sealing))
