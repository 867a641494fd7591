-- The words are taken two by two.
use Rattle.std.proofs.Common.{sym, ◌∙◌, refl, arith}
use Rattle.picky_issuing.proofs.WordLemmas.{option_taken, option_refused, words_end, word_alone}
use Rattle.picky_issuing.proofs.options.options_of.Goals as goal

pub words-preserved : goal.words-preserved
words-preserved c =
    option_taken c.words.rest.now _ c.words.options c.in-Some.with c.word-item.result c.value-item.result c.as_str.result.now _
    c.in_ok-with.field-0 c.in-len2-up.len_at_least refl c.word-item.is c.value-item.is c.as_str.ensures.bytes
    c.in_ok-with.ensures c.in-Some.is c.words.invariant

pub returns-in-None : goal.returns-in-None
returns-in-None c =
    option_refused c.words.rest.now c.words.options c.word-item.result c.value-item.result c.as_str.result.now _
    c.in_ok-with.field-0 c.in-len2-up.len_at_least c.word-item.is c.value-item.is c.as_str.ensures.bytes
    c.in_ok-with.ensures c.in-None.is c.words.invariant

pub returns-in-empty : goal.returns-in-empty
returns-in-empty c =
    sym (words_end c.words.rest.now c.words.options (omega (arith, c.in-empty.len_below))) ∙ c.words.invariant

pub returns-in_default-rest : goal.returns-in_default-rest
returns-in_default-rest c =
    sym (word_alone c.words.rest.now c.words.options (omega (arith, c.in_default.len_below))
    (omega (arith, c.in_default-rest.len_at_least)))
    ∙ c.words.invariant
