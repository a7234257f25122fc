-- The effect of a call from C on the engine behind its handle, and its answer.
use Rattle.std.specs.Prelude.{◌≡◌, ◌⊎◌, ℤ, pos, Option, Some, None}
use Rattle.af_base.specs.Pass.{Machine}
use Rattle.af_base.specs.Run.{Step, fresh}
use Rattle.af_base.specs.declared.errno.Errno.{Errno}
use Rattle.af_base.specs.declared.errno.Errno.TheVariants.{ENOMEM}
use Rattle.af_base.specs.declared.events.Event.{Event}
use Rattle.af_base.specs.declared.events.Reply.{Reply}
use Rattle.af_steps.specs.Rooms.{EventSucceeds}
use Rattle.scm_c.specs.Codes.{code_of, error_code, no_engine}

-- The engine behind the handle does this event with this reply: one step of the machine, and its
-- answer where the event cannot fail.
abbrev pub EngineDoes : Option Machine → Event → Reply → Option Machine → Type 0
EngineDoes old event r new =
    (m : Machine) × (n : Machine) × (old ≡ Some m) × (new ≡ Some n) × EventSucceeds m.world event r
    × Step m event r n

-- There is no engine, and the call says so.
abbrev pub Lacks : Option Machine → ℤ → Option Machine → Type 0
Lacks old result new = (old ≡ None) × (new ≡ None) × (result ≡ no_engine)

-- The call does this event, and its answer is the reply's number; or there is no engine.
abbrev pub DoesEvent : Option Machine → Event → ℤ → Option Machine → Type 0
DoesEvent old event result new = ((r : Reply) × EngineDoes old event r new × (result ≡ code_of r))
    ⊎ Lacks old result new

-- The call does this event, answers the reply's number, and writes to the caller's places: by the
-- reply, `x` there becomes `y`. Or there is no engine, and it writes nothing.
abbrev pub DoesAndWrites : {X : Type 0} → Option Machine → Event → (Reply → X → X) → X → ℤ → X
    → Option Machine → Type 0
DoesAndWrites old event written x result y new =
    ((r : Reply) × EngineDoes old event r new × (result ≡ code_of r) × (y ≡ written r x))
    ⊎ (Lacks old result new × (y ≡ x))

-- The call is refused by this error before it comes to the engine, and the engine is as it was.
abbrev pub RefusesFirst : Option Machine → Errno → ℤ → Option Machine → Type 0
RefusesFirst old e result new = (result ≡ error_code e) × (new ≡ old)

-- A new engine, without any event; or out of memory, and none.
abbrev pub Makes : ℤ → Option Machine → Type 0
Makes result new =
    ((result ≡ pos 0) × (new ≡ Some fresh)) ⊎ ((result ≡ error_code ENOMEM) × (new ≡ None))

-- The call answers 0 and writes a `y` that meets `holds`; or there is no engine, and it writes
-- nothing.
abbrev pub Tells : {X : Type 0} → Option Machine → (Machine → X → Type 0) → X → ℤ → X → Type 0
Tells (Some m) holds x result y = (result ≡ pos 0) × holds m y
Tells None holds x result y = (result ≡ no_engine) × (y ≡ x)

-- The call answers a number and writes a `y` that meet `holds`; or there is no engine, and it
-- writes nothing.
abbrev pub Asks : {X : Type 0} → Option Machine → (Machine → ℤ → X → Type 0) → X → ℤ → X → Type 0
Asks (Some m) holds x result y = holds m result y
Asks None holds x result y = (result ≡ no_engine) × (y ≡ x)

-- The call answers this number of the engine; or there is no engine.
abbrev pub TellsNumber : Option Machine → (Machine → ℤ) → ℤ → Type 0
TellsNumber (Some m) f result = result ≡ f m
TellsNumber None f result = result ≡ no_engine
