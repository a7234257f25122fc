-- A handle may go to another thread: its engine may, and any thread may free the block.
use mir.Raw.{raw}
use base.Fraction.{full_share}
use base.Shift.{Keyless}
use denote.Memory.{lone}
use denote.Param.Send.{IsSend, Frees, owning_send, part_keyless, sendable}
use denote.RawPtr.{Ptr, block_ptr, lies_at, null_ptr}
use Rattle.std.proofs.Crossing.{crosses}
use Rattle.std.specs.Prelude.{Option, Some, None}
use Rattle.std.specs.declared.alloc.Global.{Global}
use Rattle.std.specs.contracts.impls.GlobalAllocator.TheImpl.{ghosts}
use Rattle.af_base.specs.Pass.{Machine}
use Rattle.af_steps.proofs.SendSync.{engine_send}
use Rattle.scm_c.specs.Held.{held}
use Rattle.scm_c.specs.contracts.handle.Handle.{the_row, the_type}
use Rattle.scm_c.proofs.Values.{Eng}

-- An engine in memory names no thread.
lies : (p : Ptr) (m : Machine) → Keyless (lies_at Eng full_share p m)
lies (block_ptr b o) m = part_keyless Eng engine_send full_share m b o
lies null_ptr m = tt

-- Nor does the right to free its block.
frees : Frees ghosts ghosts.dealloc_token
frees = search (sendable, crosses)

-- Nor does what a handle owns.
keyless : (a : Global) (p : Ptr) (s : Option Machine) → Keyless (held a p s)
keyless a p None = tt
keyless a p (Some m) = (lies p m, frees.frees a (raw (lone Eng.mir)) p)

-- A handle may go to another thread.
pub send : IsSend the_row
send = owning_send the_type (search sendable, (search sendable, tt)) (λ d. keyless d.alloc d.at d.shown) (λ k x w. tt)
