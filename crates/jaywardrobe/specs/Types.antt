-- The types that the calls take and answer, and their variants.
pub use Rattle.af_base.specs.declared.errno.Errno.{Errno}
pub use Rattle.af_base.specs.declared.errno.Errno.TheVariants as errno
pub use Rattle.af_base.specs.declared.events.Ends.{Ends}
pub use Rattle.af_base.specs.declared.events.Event.{Event}
pub use Rattle.af_base.specs.declared.events.Event.TheVariants as event
pub use Rattle.af_base.specs.declared.events.Reply.{Reply}
pub use Rattle.af_base.specs.declared.events.Reply.TheVariants as reply
pub use Rattle.af_base.specs.declared.events.Shutdown.{Shutdown}
pub use Rattle.af_base.specs.declared.events.Shutdown.TheVariants as how
pub use Rattle.af_base.specs.declared.events.SockType.{SockType}
pub use Rattle.af_base.specs.declared.events.SockType.TheVariants as kind
pub use Rattle.af_base.specs.declared.events.State.{State}
pub use Rattle.af_base.specs.declared.events.State.TheVariants as state
pub use Rattle.af_base.specs.declared.events.Step.{Step}
pub use Rattle.af_base.specs.declared.events.Step.TheVariants as step
pub use Rattle.af_base.specs.declared.listing.ListedFile.{ListedFile}
pub use Rattle.af_base.specs.declared.listing.ListedMessage.{ListedMessage}
pub use Rattle.af_base.specs.declared.listing.ListedNumber.{ListedNumber}
pub use Rattle.af_base.specs.declared.listing.ListedSocket.{ListedSocket}
pub use Rattle.af_base.specs.declared.listing.ListedTable.{ListedTable}
pub use Rattle.af_layer.specs.declared.audit.CloseFault.{CloseFault}
pub use Rattle.af_layer.specs.declared.audit.CloseFault.TheVariants as closing
pub use Rattle.af_layer.specs.declared.book.CallError.{CallError}
pub use Rattle.af_layer.specs.declared.book.CallError.TheVariants as calling
pub use Rattle.af_layer.specs.declared.driving.DriveFault.{DriveFault}
pub use Rattle.af_layer.specs.declared.driving.DriveFault.TheVariants as driving
pub use Rattle.af_layer.specs.declared.layer.OpenError.{OpenError}
pub use Rattle.af_layer.specs.declared.layer.OpenError.TheVariants as opening
pub use Rattle.af_steps.specs.declared.messages.Received.{Received}
pub use Rattle.af_steps.specs.declared.messages.Received.TheVariants as got
pub use Rattle.af_steps.specs.declared.passes.Finished.{Finished}
pub use Rattle.af_steps.specs.declared.passes.Progress.{Progress}
pub use Rattle.af_steps.specs.declared.passes.Progress.TheVariants as progress
