-- The search stops at the first record whose test fails.
use Rattle.std.proofs.Common.{◌≡◌, true, false, rules}
use Rattle.std.proofs.lemmas.Iterator.{IsFirst-from_position, YieldsList-from_slice}
use borrow.Author.Tests.{tests}
use Rattle.rules.specs.Lists.{event_right}
use Rattle.calls.proofs.Passing.{first-record}
use Rattle.calls.proofs.stages.first_wrong.Goals as goal

pub returns : goal.returns
returns c =
    first-record c.args.events.now _ c.as_chunks.ensures.front c.as_chunks.ensures.front_len _
    (IsFirst-from_position _ _ _ (λ x. event_right x 0 ≡ false) (λ x. event_right x 0 ≡ true) c.position.ensures.ran (YieldsList-from_slice _ cc) (λ x q k. search (rules, tests)) (λ x q k. search (rules, tests)))
