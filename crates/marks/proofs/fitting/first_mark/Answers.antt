-- The search stops at the first mark that is not right.
use Rattle.std.proofs.Common.{◌≡◌, true, false, rules}
use Rattle.std.proofs.lemmas.Iterator.{first_from_Range}
use borrow.Author.Tests.{tests}
use Rattle.rules.specs.Marks.{mark_right}
use Rattle.table.proofs.Finding.{first_fails}
use Rattle.marks.proofs.fitting.first_mark.Goals as goal

pub returns-clause-first : goal.returns-clause-first
returns-clause-first c =
    let ok = mark_right c.args.program.table.now c.args.program.marks.now in
    rw c.records.ensures at
    (first_fails _ _ _ (first_from_Range _ _ _ _ (λ i. ok i ≡ false) (λ i. ok i ≡ true) c.find.ensures.ran (λ x q k. search (rules, tests)) (λ x q k. search (rules, tests))))
