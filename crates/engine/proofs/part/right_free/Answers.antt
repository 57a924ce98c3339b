-- The right of an if or a sequence is free where all states of the left are idle.
use Rattle.std.proofs.Common.{◌+◌, rules, tests, arith, lt-ltb, eqb, slice_range}
use Rattle.std.proofs.lemmas.Iterator.{YieldsList-from_slice}
use Rattle.std.proofs.lemmas.Iterator.Search.{all_from_yields_List}
use Rattle.rules.specs.Table.{kind_at}
use Rattle.engine.specs.Parts.{right_free}
use Rattle.engine.proofs.Parts.{either-kind}
use Rattle.engine.proofs.part.right_free.Goals as goal

pub returns-in_default : goal.returns-in_default
unfolding right_free
returns-in_default c =
    let e = either-kind c.kind.result (omega (arith, c.kind.ensures.children, c.requires.sides)) c.in_default.not-Par in
    rw (lt-ltb (kind_at c.args.at.table.now c.args.at.place) 17 (omega (arith, c.kind.ensures.number, e))) (
    all_from_yields_List (λ s. eqb s 0) _ _ c.all.result c.all.ensures.ran (YieldsList-from_slice (slice_range c.args.states.now (c.args.at.place + 1) c.args.right.place) cc) (λ x b q k. search (rules, tests))
    )
