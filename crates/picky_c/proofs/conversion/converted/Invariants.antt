-- The caller's meanings.
use Rattle.picky_c.proofs.conversion.converted.Given as goal

abbrev pub ghost-converted_by : goal.ghost-converted_by
ghost-converted_by g a = g.m
