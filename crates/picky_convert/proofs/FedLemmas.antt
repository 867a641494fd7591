-- What is fed piece by piece, and what stays while the suite does.
use Rattle.std.proofs.Common.{◌≡◌, ◌∙◌, ℕ, List, [], ◌++◌, Ok, sym, ap, subst}
use Rattle.std.proofs.lemmas.List.{append-nil, append_assoc}
use Rattle.sha2.specs.declared.Sha256.{Sha256}
use Rattle.sha2.specs.Hashers.{Holds256}
use Rattle.picky_suite.specs.Meanings.{Meanings}
use Rattle.picky_target.specs.declared.target.KeyTarget.{KeyTarget}
use Rattle.picky_conversion.specs.Convert.{conversion}
use Rattle.picky_convert.specs.SampleChain.{without_passphrase}
use Rattle.picky_convert.specs.SampleTexts.{text_at}
use Rattle.picky_convert.specs.inner.Fed.{Feeds}

-- ---- pieces

pub feeds_none : (old : Sha256) → Feeds old old []
feeds_none old m held = subst (Holds256 old) (sym (append-nil m)) held

pub feeds_both : (old mid new : Sha256) (a b : List ℕ) → Feeds old mid a → Feeds mid new b → Feeds old new (a ++ b)
feeds_both old mid new a b front back m held = subst (Holds256 new) (append_assoc m a b) (back (m ++ a) (front m held))

-- ---- the same meanings and target

pub fed_so : (old new : Sha256) (m n : Meanings) (to target : KeyTarget) (i : ℕ) → n ≡ m → target ≡ to
    → Feeds old new (text_at n i target) → Feeds old new (text_at m i to)
fed_so old new m n to target i same is fed =
    subst (λ k. Feeds old new (text_at k i to)) same (subst (λ t. Feeds old new (text_at n i t)) is fed)

pub text_so : (m n : Meanings) (to target : KeyTarget) (i : ℕ) (text : List ℕ) → n ≡ m → target ≡ to
    → text ≡ text_at n i target → text ≡ text_at m i to
text_so m n to target i text same is text_is = text_is ∙ ap (λ k. text_at k i target) same ∙ ap (text_at m i) is

pub made_so : (m n : Meanings) (to target : KeyTarget) (i : ℕ) (from input : List ℕ) → n ≡ m → target ≡ to → input ≡ from
    → conversion (without_passphrase m) to from ≡ Ok (text_at m i to)
    → conversion (without_passphrase n) target input ≡ Ok (text_at n i target)
made_so m n to target i from input same is input_is made =
    subst (λ k. conversion (without_passphrase k) target input ≡ Ok (text_at k i target)) (sym same)
    (subst (λ t. conversion (without_passphrase m) t input ≡ Ok (text_at m i t)) (sym is)
    (subst (λ x. conversion (without_passphrase m) to x ≡ Ok (text_at m i to)) (sym input_is) made))
