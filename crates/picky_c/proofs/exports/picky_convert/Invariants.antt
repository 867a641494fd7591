-- The caller's meanings.
use Rattle.picky_c.proofs.exports.picky_convert.Given as goal

abbrev pub ghost-converted : goal.ghost-converted
ghost-converted g a = g.m
