-- The numbers of the stages, and a refusal of the code as one of the rules.
use Rattle.std.specs.Prelude.{ℕ}
use Rattle.rules.specs.Stages as Rules
use Rattle.rules.specs.Stages.{refusal}
use Rattle.table.specs.declared.refusal.Stage.{Stage}
use Rattle.table.specs.declared.refusal.Stage.TheVariants.{Length, Shape, Ranges, LooseBreak, NotPlain, DeepLoop, EndlessLoop, Marks, Variables, Event, Room, Stopped}
use Rattle.table.specs.declared.refusal.Refusal as Code

abbrev pub stage_number : Stage → ℕ
stage_number Length = 1
stage_number Shape = 2
stage_number Ranges = 3
stage_number LooseBreak = 4
stage_number NotPlain = 5
stage_number DeepLoop = 6
stage_number EndlessLoop = 7
stage_number Marks = 8
stage_number Variables = 9
stage_number Event = 10
stage_number Room = 11
stage_number Stopped = 12

abbrev pub refusal_of : Code.Refusal → Rules.Refusal
refusal_of r = refusal (stage_number r.stage) r.place
