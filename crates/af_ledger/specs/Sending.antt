-- Why a send is refused by what is kept.
use Rattle.std.specs.Prelude.{ℕ, Bool, Option}
use Rattle.af_base.specs.Refusals.{first_fit, on_charge}
use Rattle.af_base.specs.declared.errno.Errno.{Errno}
use Rattle.af_ledger.specs.Tally.{LedgerView, charge_in}

-- Why user u may not send this many files, by a process of this limit and privilege, if there is a
-- reason (unix(7), ETOOMANYREFS; that ENOBUFS comes next is this project's own).
abbrev pub send_refusal : LedgerView → ℕ → ℕ → Bool → ℕ → Option Errno
send_refusal c u limit privileged files = first_fit
    (on_charge (charge_in c.users u) c.total limit privileged files)
