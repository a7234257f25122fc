-- The fault of a race for each fault of the layer; out of memory is reported apart, as in this
-- project's profile.
use Rattle.af_base.specs.declared.errno.Errno.TheVariants.{ENOMEM}
use Rattle.af_base.specs.declared.events.Reply.{Reply}
use Rattle.af_base.specs.declared.events.Reply.TheVariants as reply
use Rattle.af_layer.specs.declared.book.CallError.{CallError}
use Rattle.af_layer.specs.declared.book.CallError.TheVariants as call
use Rattle.af_layer.specs.declared.driving.DriveFault.{DriveFault}
use Rattle.af_layer.specs.declared.driving.DriveFault.TheVariants as drive
use Rattle.af_layer.specs.declared.layer.OpenError.{OpenError}
use Rattle.af_layer.specs.declared.layer.OpenError.TheVariants as open_error
use Rattle.scmgc.specs.declared.race.fault.RaceFault.{RaceFault}
use Rattle.scmgc.specs.declared.race.fault.RaceFault.TheVariants.{Failed, Memory}

-- The fault of a race whose layer was not opened.
abbrev pub of_open : OpenError → RaceFault
of_open open_error.NoRoom = Memory
of_open open_error.BadCount = Failed

-- The fault of a race in which a call did nothing.
abbrev pub of_call : CallError → RaceFault
of_call call.NoRoom = Memory
of_call call.NoSeat = Failed
of_call call.LogFull = Failed

-- The fault of a race in which a drive did not do all.
abbrev pub of_drive : DriveFault → RaceFault
of_drive drive.NoRoom = Memory
of_drive drive.TooFewSeats = Failed
of_drive (drive.Call seat error) = of_call error

-- The fault of a race in which the start of a process was not answered by the pid that it should
-- have.
abbrev pub of_spawn : Reply → RaceFault
of_spawn (reply.Refused ENOMEM) = Memory
of_spawn other = Failed
