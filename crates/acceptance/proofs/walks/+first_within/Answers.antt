-- Of a construct with two children.
use Rattle.std.proofs.Common.{sym, ◌∙◌, arith}
use Rattle.acceptance.proofs.Firsts.{first_left, first_right}
use Rattle.acceptance.proofs.walks.+first_within.Goals as goal

pub returns-in-Some-clause-found : goal.returns-in-Some-clause-found
returns-in-Some-clause-found g t c = λ f h.
    let here = sym (h _ _ c.fails.ensures) ∙ c.if-fails.false in
    let left = sym (c.first_within-in_default.ensures.found f h) ∙ c.in-Some.is in
    sym (first_left f c.args.visit here _ c.first-in_default.ensures (omega arith) left)

pub returns-in_default-first_within-clause-found : goal.returns-in_default-first_within-clause-found
returns-in_default-first_within-clause-found g t c = λ f h.
    let here = sym (h _ _ c.fails.ensures) ∙ c.if-fails.false in
    let left = sym (c.first_within-in_default.ensures.found f h) ∙ c.in_default-first_within.is in
    c.first_within-in_default-2.ensures.found f h ∙ sym (first_right f c.args.visit here _ c.first-in_default.ensures (omega arith) left _ c.second.ensures)
