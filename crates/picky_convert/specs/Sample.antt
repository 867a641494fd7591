-- The summary of the sample keys with the numbers from 0 on: how many keys and texts, and the digest of the texts.
use Rattle.std.specs.Prelude.{List, [], ◌∷◌, ◌++◌, ℕ, zero, suc, codes, length}
use Rattle.std.specs.Fmt.{decimal}
use Rattle.std.specs.List.{concat}
use Rattle.hex.specs.Hex.{encode_lower}
use Rattle.sha2.specs.Sha256.{sha256}
use Rattle.picky_text.specs.Lines.{text_of}
use Rattle.picky_text.specs.declared.lines.LineEnd.TheVariants.{Lf}
use Rattle.picky_suite.specs.Meanings.{Meanings}
use Rattle.picky_convert.specs.SampleTexts.{texts_at}

-- the texts of so many keys, from number 0 on
unfoldable pub texts_of : Meanings → ℕ → List (List ℕ)
texts_of m zero = []
texts_of m (suc i) = texts_of m i ++ texts_at m i

-- three lines: the number of keys, that of their texts, and a digest in hex
unfoldable pub summary_of : (keys texts : ℕ) → (digest : List ℕ) → List ℕ
summary_of keys texts digest = text_of Lf (
    (codes "keys " ++ decimal keys)
    ∷ (codes "texts " ++ decimal texts)
    ∷ (codes "sha256 " ++ encode_lower digest)
    ∷ [])

-- the summary of so many keys, whose digest is SHA-256 of their texts joined
abbrev pub sample_text : Meanings → (keys : ℕ) → List ℕ
sample_text m keys =
    let texts = texts_of m keys in
    summary_of keys (length texts) (sha256 (concat texts))
