-- Private bytes that stand for a key do so however many bytes follow its counted strings.
use Rattle.std.specs.Prelude.{◌≡◌, List, [], ℕ, ◌++◌, take, drop, Ok}
use Rattle.std.proofs.Common.{ap, subst, ◌∙◌, append_assoc}
use Rattle.std.proofs.lemmas.List.{append-nil, take-append-drop}
use Rattle.picky_kv.specs.declared.algorithm.PpkKeyAlgorithmValue.{PpkKeyAlgorithmValue}
use Rattle.picky_sshkey_blob.specs.declared.key.SshBasePrivateKey.{SshBasePrivateKey}
use Rattle.picky_ppk_parts.specs.Counted.{counted}
use Rattle.picky_ppk_parts.specs.Parts.{StandsForKey}
use Rattle.picky_ppk_parts.proofs.CountedLaws.{cut_stands}

-- The key stays where bytes follow.
more_stands : (algorithm : PpkKeyAlgorithmValue) (blob private more : List ℕ) (key : SshBasePrivateKey)
    → StandsForKey algorithm blob private key → StandsForKey algorithm blob (private ++ more) key
more_stands algorithm blob private more key stands =
    let rest = stands.private_begins.0 in
    let fits = stands.private_begins.1 in
    record {
      public = stands.public;
      named = stands.named;
      blob_begins = stands.blob_begins;
      private_begins = (rest ++ more, (fits.0, fits.1, ap (λ p. p ++ more) fits.2 ∙ append_assoc fits.0 rest more));
    }

-- So it stays where they were cut.
pub uncut_stands : (algorithm : PpkKeyAlgorithmValue) (blob private : List ℕ) (key : SshBasePrivateKey) (n : ℕ)
    → StandsForKey algorithm blob (take n private) key → StandsForKey algorithm blob private key
uncut_stands algorithm blob private key n stands =
    subst (λ p. StandsForKey algorithm blob p key) (take-append-drop n private)
    (more_stands algorithm blob (take n private) (drop n private) key stands)

-- And where they are cut after their counted strings.
pub counted_stands : (algorithm : PpkKeyAlgorithmValue) (blob private : List ℕ) (key : SshBasePrivateKey) (n : ℕ)
    → StandsForKey algorithm blob private key → counted algorithm private ≡ Ok n
    → StandsForKey algorithm blob (take n private) key
counted_stands algorithm blob private key n stands is =
    subst (λ p. StandsForKey algorithm blob p key) (append-nil (take n private))
    (cut_stands algorithm blob private [] key n stands is)
