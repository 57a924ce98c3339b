-- Where nobody listens nothing changes; else all listeners are woken at what holds them.
use Rattle.std.proofs.Common.{sym}
use Rattle.walks.proofs.Listening.{deaf-all}
use Rattle.walks.proofs.wake.wake.Goals as goal

pub returns-then-reach : goal.returns-then-reach
returns-then-reach c = sym (deaf-all _ _ _ _ c.requires.hear _ c.args.program.stands.place _ c.if-reach.true)
