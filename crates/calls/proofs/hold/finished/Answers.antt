-- No mark is set, mark by mark.
use Rattle.std.proofs.Common.{eqb, rules, ◌∙◌}
use Rattle.std.proofs.lemmas.Iterator.{YieldsList-from_slice}
use Rattle.std.proofs.lemmas.Iterator.Search.{all_from_yields_List}
use borrow.Author.Tests.{tests}
use Rattle.calls.proofs.Passing.{all_zeros}
use Rattle.calls.proofs.hold.finished.Goals as goal

pub returns : goal.returns
returns c =
    all_from_yields_List (λ x. eqb x 0) _ _ _ c.all.ensures.ran (YieldsList-from_slice c.args.marks.now cc) (λ x b q k. search (rules, tests))
    ∙ all_zeros c.args.marks.now
