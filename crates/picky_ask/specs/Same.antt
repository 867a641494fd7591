-- Whether two questions are the same, as a test on their parts.
use Rattle.std.specs.Prelude.{◌&&◌, ◌==◌, Bool, false, List, ℕ}
use Rattle.std.specs.Str.{bytes_eq}
use Rattle.picky_ask.specs.declared.question.Head.{Head}
use Rattle.picky_ask.specs.declared.question.Head.TheVariants as heads
use Rattle.picky_ask.specs.declared.question.Question.{Question}
use Rattle.picky_ask.specs.OperationNumber.{flavour_number}
use Rattle.picky_ask.specs.AlgorithmNumber.{kind_number, algorithm_kind, algorithm_hash}

-- two pairs of strings
abbrev pub same_two : (a b c d : List ℕ) → Bool
same_two a b c d = bytes_eq a c && bytes_eq b d

unfoldable pub same_head : Head → Head → Bool
same_head (heads.Bcrypt len rounds salt) (heads.Bcrypt n r s) = (len == n) && (rounds == r) && bytes_eq salt s
same_head (heads.Argon2 kind memory passes parallelism salt) (heads.Argon2 k m p l s) =
    (flavour_number kind == flavour_number k) && (memory == m) && (passes == p) && (parallelism == l) && bytes_eq salt s
same_head (heads.CbcSeal key iv) (heads.CbcSeal k v) = same_two key iv k v
same_head (heads.CbcOpen key iv) (heads.CbcOpen k v) = same_two key iv k v
same_head (heads.Ctr key iv) (heads.Ctr k v) = same_two key iv k v
same_head (heads.Sign by key) (heads.Sign a k) =
    (kind_number (algorithm_kind by) == kind_number (algorithm_kind a)) && (algorithm_hash by == algorithm_hash a)
    && bytes_eq key k
same_head (heads.Verify key signature) (heads.Verify k s) = same_two key signature k s
same_head h k = false

unfoldable pub same_question : Question → Question → Bool
same_question q r = same_head q.head r.head && bytes_eq q.text r.text
