-- One step of the machine, and whole runs.
use Rattle.std.specs.Prelude.{◌≡◌, List, [], ◌∷◌}
use Rattle.af_base.specs.declared.events.Event.{Event}
use Rattle.af_base.specs.declared.events.Event.TheVariants as event
use Rattle.af_base.specs.declared.events.Reply.{Reply}
use Rattle.af_base.specs.World.{empty_world, untold}
use Rattle.af_base.specs.Steps.{ProcessStep, SpawnStep}
use Rattle.af_base.specs.Pass.{Machine, Idle, SamePass, Begins, GoesOn, PassesWhole}

-- One step: from `old` this reply to the event, and then the machine is `new`.
abbrev pub Step : Machine → Event → Reply → Machine → Type 0
Step old (event.Spawn uid nofile privileged) r new = SpawnStep old.world uid nofile privileged r
    new.world × SamePass old new
Step old (event.Proc p s) r new = ProcessStep old.world p s r new.world × SamePass old new
Step old event.Begin r new = Begins old.pass old r new
Step old (event.Slice budget) r new = GoesOn old.pass old budget r new
Step old event.Pass r new = PassesWhole old.pass old r new

-- An event and its reply.
abbrev pub RunEntry : Type 0
RunEntry = Event × Reply

-- The events with these replies lead from `old` to `new`, one step after another.
abbrev pub Run : Machine → List RunEntry → Machine → Type 0
Run old [] new = new ≡ old
Run old (e ∷ es) new = (mid : Machine) × Step old e.0 e.1 mid × Run mid es new

-- The machine before anything has happened.
abbrev pub fresh : Machine
fresh = record { world = empty_world; pass = Idle; last_pass = 0; since = untold }
