-- The places from here on fit.
use Rattle.marks.specs.Fitting.{FitFrom}
use Rattle.marks.proofs.fitting.all_fit.Given as goal

abbrev pub invariant-loop-place : goal.invariant-loop-place
invariant-loop-place l = FitFrom l.program.table.now l.program.marks.now l.place l.fits
